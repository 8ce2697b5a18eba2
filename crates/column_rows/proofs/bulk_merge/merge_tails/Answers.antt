use Rattle.std.proofs.Common.{◌≡◌, ◌≤◌, ◌+◌, ℕ, ℤ, List, length, IsPermutation, refl, le_refl, arith, vec_len, vec_capacity}
use Rattle.std.proofs.lemmas.List.Sorted.{IsPermutation-refl, length_permutation}
use Rattle.std.specs.declared.vec.Vec.{Vec}
use Rattle.column_rows.specs.Content.{KeepsContent}
use Rattle.column_rows.proofs.Counts.{count_moved}
use Rattle.column_rows.proofs.Frames.{KeepsFrame-more}
use Rattle.column_rows.proofs.Gaps.{length-values}
use Rattle.column_rows.proofs.Taken.{TakenFrom-more, TakenFrom-later, TakenFrom-turned, length-kept}
use Rattle.column_rows.proofs.TakenOut.{TakenFrom-none}
use Rattle.column_rows.proofs.bulk_merge.merge_tails.Goals as goal

-- rows came in, others left and some turned: there is room for those that wait still
room_after : {A : Type 0} (old new : Vec (ℤ × List ℕ) A) (insertions insertions' turned : List (ℤ × List ℕ)) (from from' : ℕ) → length new.items + length insertions' ≤ length old.items + length insertions
    → length turned ≡ length insertions' → vec_len old + length insertions ≤ vec_capacity old + from → vec_capacity new ≡ vec_capacity old → from ≤ from' → vec_len new + length turned ≤ vec_capacity new + from'
room_after old new insertions insertions' turned from from' kept same room capacity le = omega (arith, old.ok.0, new.ok.0)

-- what is kept of the content by two passes, where rows that wait turn between them
content_more : (r r' r'' d d' t d'' i i' u i'' : List (ℤ × List ℕ)) → KeepsContent r i d r' i' d' → IsPermutation d' t → IsPermutation i' u → KeepsContent r' u t r'' i'' d'' → KeepsContent r i d r'' i'' d''
content_more r r' r'' d d' t d'' i i' u i'' first turned_d turned_i second p =
    omega (arith, first p, second p, count_moved p d' t turned_d, count_moved p i' u turned_i)

pub invariant_of-cracked : goal.invariant_of-cracked
invariant_of-cracked g c = record { law = rw c.expect_passes.ensures c.args.cracked.now.law }

pub loop-turn-init : goal.loop-turn-init
loop-turn-init g c = record {
  piece = c.lowest_piece-piece.ensures;
  content = λ p. rw c.expect_passes.ensures;
  deletions = TakenFrom-none _ _ c.requires.deletions;
  insertions = TakenFrom-none _ _ c.requires.insertions;
  room = rw c.expect_passes.ensures c.requires.room;
  frame = record { values = refl; spare = refl; capacity = rw c.expect_passes.ensures };
}

pub run_pass-piece-requires-clause-piece : goal.run_pass-piece-requires-clause-piece
run_pass-piece-requires-clause-piece g c = c.loop-turn.invariant.piece

pub run_pass-piece-requires-clause-deletions : goal.run_pass-piece-requires-clause-deletions
run_pass-piece-requires-clause-deletions g c = c.loop-turn.invariant.deletions.within

pub run_pass-piece-requires-clause-insertions : goal.run_pass-piece-requires-clause-insertions
run_pass-piece-requires-clause-insertions g c = c.loop-turn.invariant.insertions.within

pub run_pass-piece-requires-clause-room : goal.run_pass-piece-requires-clause-room
run_pass-piece-requires-clause-room g c = c.loop-turn.invariant.room

pub next_surplus-down-requires-clause-piece : goal.next_surplus-down-requires-clause-piece
next_surplus-down-requires-clause-piece g c = c.run_pass-piece.ensures.piece

pub next_surplus-down-requires-clause-deletions : goal.next_surplus-down-requires-clause-deletions
next_surplus-down-requires-clause-deletions g c = c.run_pass-piece.ensures.deletions.within

pub next_surplus-down-requires-clause-insertions : goal.next_surplus-down-requires-clause-insertions
next_surplus-down-requires-clause-insertions g c = c.run_pass-piece.ensures.insertions.within

pub reverse_from-requires : goal.reverse_from-requires
reverse_from-requires g c = c.next_surplus-down.ensures.deletions_high

pub reverse_from-requires-in-loop-turn : goal.reverse_from-requires-in-loop-turn
reverse_from-requires-in-loop-turn g c = c.next_surplus-down.ensures.insertions_high

pub run_pass-requires-clause-piece : goal.run_pass-requires-clause-piece
run_pass-requires-clause-piece g c = c.next_surplus-down.ensures.piece

pub run_pass-requires-clause-deletions : goal.run_pass-requires-clause-deletions
run_pass-requires-clause-deletions g c =
    rw (length_permutation c.run_pass-piece.new.pending.deletions.items c.reverse_from.new.self.items c.reverse_from.ensures.rows) c.next_surplus-down.ensures.deletions_high

pub run_pass-requires-clause-insertions : goal.run_pass-requires-clause-insertions
run_pass-requires-clause-insertions g c =
    rw (length_permutation c.run_pass-piece.new.pending.insertions.items c.reverse_from-in-loop-turn.new.self.items c.reverse_from-in-loop-turn.ensures.rows)
    c.next_surplus-down.ensures.insertions_high

pub run_pass-requires-clause-room : goal.run_pass-requires-clause-room
run_pass-requires-clause-room g c =
    let up = c.run_pass-piece.ensures in
    let was = c.loop-turn in
    let now = c.run_pass-piece.new in
    let insertions' = c.reverse_from-in-loop-turn.new.self.items in
    let kept = length-kept was.cracked.rows.items was.pending.insertions.items was.pending.deletions.items
    now.cracked.rows.items now.pending.insertions.items now.pending.deletions.items up.content up.deletions.less in
    let turned = length_permutation now.pending.insertions.items insertions' c.reverse_from-in-loop-turn.ensures.rows in
    room_after was.cracked.rows now.cracked.rows was.pending.insertions.items now.pending.insertions.items insertions' c.args.insertions_from c.next_surplus-down.result.insertions
    kept turned was.invariant.room up.frame.capacity c.next_surplus-down.ensures.insertions_low

pub loop-turn-preserved : goal.loop-turn-preserved
loop-turn-preserved g c =
    let v = c.loop-turn.invariant in
    let up = c.run_pass-piece.ensures in
    let down = c.run_pass.ensures in
    let s = c.next_surplus-down.ensures in
    let old = c.args.pending.now in
    let was = c.loop-turn in
    let now = c.run_pass-piece.new in
    let end = c.run_pass.new in
    let deletions = now.pending.deletions.items in
    let insertions = now.pending.insertions.items in
    let deletions' = c.reverse_from.new.self.items in
    let insertions' = c.reverse_from-in-loop-turn.new.self.items in
    let rows_d = c.reverse_from.ensures.rows in
    let rows_i = c.reverse_from-in-loop-turn.ensures.rows in
    let turned_d = TakenFrom-turned _ deletions deletions' s.deletions_high rows_d c.reverse_from.ensures.before in
    let turned_i = TakenFrom-turned _ insertions insertions' s.insertions_high rows_i c.reverse_from-in-loop-turn.ensures.before in
    let kept = length-kept was.cracked.rows.items was.pending.insertions.items was.pending.deletions.items now.cracked.rows.items insertions deletions up.content up.deletions.less in
    let kept' = length-kept now.cracked.rows.items insertions' deletions' end.cracked.rows.items end.pending.insertions.items end.pending.deletions.items down.content down.deletions.less in
    let room = room_after was.cracked.rows now.cracked.rows was.pending.insertions.items insertions insertions' c.args.insertions_from c.args.insertions_from
    kept (length_permutation insertions insertions' rows_i) v.room up.frame.capacity (le_refl _) in
    let content = content_more was.cracked.rows.items now.cracked.rows.items end.cracked.rows.items was.pending.deletions.items deletions deletions' end.pending.deletions.items
    was.pending.insertions.items insertions insertions' end.pending.insertions.items up.content rows_d rows_i down.content in
    record {
      piece = rw (length-values _ _ down.frame.values) s.piece;
      content = content_more c.args.cracked.now.rows.items was.cracked.rows.items end.cracked.rows.items old.deletions.items was.pending.deletions.items was.pending.deletions.items end.pending.deletions.items
          old.insertions.items was.pending.insertions.items was.pending.insertions.items end.pending.insertions.items v.content (IsPermutation-refl _) (IsPermutation-refl _) content;
      deletions = TakenFrom-more _ _ _ _ v.deletions (TakenFrom-more _ _ _ _ up.deletions (TakenFrom-later _ _ _ _ s.deletions_low (TakenFrom-more _ _ _ _ turned_d down.deletions)));
      insertions = TakenFrom-more _ _ _ _ v.insertions (TakenFrom-more _ _ _ _ up.insertions (TakenFrom-later _ _ _ _ s.insertions_low (TakenFrom-more _ _ _ _ turned_i down.insertions)));
      room = room_after now.cracked.rows end.cracked.rows insertions' end.pending.insertions.items end.pending.insertions.items c.args.insertions_from c.args.insertions_from
          kept' refl room down.frame.capacity (le_refl _);
      frame = KeepsFrame-more v.frame (KeepsFrame-more up.frame down.frame);
    }

pub returns-after-loop-turn-clause-content : goal.returns-after-loop-turn-clause-content
returns-after-loop-turn-clause-content g c = c.loop-turn.invariant.content

pub returns-after-loop-turn-clause-deletions : goal.returns-after-loop-turn-clause-deletions
returns-after-loop-turn-clause-deletions g c = c.loop-turn.invariant.deletions

pub returns-after-loop-turn-clause-insertions : goal.returns-after-loop-turn-clause-insertions
returns-after-loop-turn-clause-insertions g c = c.loop-turn.invariant.insertions

pub returns-after-loop-turn-clause-frame : goal.returns-after-loop-turn-clause-frame
returns-after-loop-turn-clause-frame g c = c.loop-turn.invariant.frame

pub returns-then-len-insertions_from-clause-content : goal.returns-then-len-insertions_from-clause-content
returns-then-len-insertions_from-clause-content g c =
    let old = c.args.pending.now in
    let was = c.loop-turn in
    let now = c.run_pass-piece.new in
    content_more c.args.cracked.now.rows.items was.cracked.rows.items now.cracked.rows.items old.deletions.items was.pending.deletions.items was.pending.deletions.items now.pending.deletions.items
    old.insertions.items was.pending.insertions.items was.pending.insertions.items now.pending.insertions.items was.invariant.content (IsPermutation-refl _) (IsPermutation-refl _) c.run_pass-piece.ensures.content

pub returns-then-len-insertions_from-clause-deletions : goal.returns-then-len-insertions_from-clause-deletions
returns-then-len-insertions_from-clause-deletions g c = TakenFrom-more _ _ _ _ c.loop-turn.invariant.deletions c.run_pass-piece.ensures.deletions

pub returns-then-len-insertions_from-clause-insertions : goal.returns-then-len-insertions_from-clause-insertions
returns-then-len-insertions_from-clause-insertions g c = TakenFrom-more _ _ _ _ c.loop-turn.invariant.insertions c.run_pass-piece.ensures.insertions

pub returns-then-len-insertions_from-clause-frame : goal.returns-then-len-insertions_from-clause-frame
returns-then-len-insertions_from-clause-frame g c = KeepsFrame-more c.loop-turn.invariant.frame c.run_pass-piece.ensures.frame
