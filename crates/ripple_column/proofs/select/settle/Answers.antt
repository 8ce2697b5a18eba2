use Rattle.std.proofs.Common.{ℕ, ℤ, List, Contains, count_by, sym, subst, ◌&&◌, not, ◌∙◌, ap, arith}
use Rattle.std.proofs.lemmas.Bool.{false≢true}
use Rattle.std.proofs.lemmas.List.Sorted.{length_permutation}
use Rattle.crack_kernel.specs.RowBag.{Test}
use Rattle.column_rows.specs.Content.{has_score_in}
use Rattle.column_rows.proofs.Counts.{count_moved}
use Rattle.column_rows.proofs.InnerPivots.{found_among, own_values, values_among}
use Rattle.column_rows.proofs.Tails.{last_none}
use Rattle.ripple_column.proofs.select.settle.Goals as goal

pub merge_gathered-requires-clause-part : goal.merge_gathered-requires-clause-part
merge_gathered-requires-clause-part g c p =
    let moved = count_moved p c.args.pieces.now.cracked.rows.items c.break_up.new.pieces.cracked.rows.items c.break_up.ensures.rows in
    let gathered = count_moved p c.args.pending.now.deletions.items c.gather-tails.new.self.deletions.items c.gather-tails.ensures.deletions in
    omega (arith, moved, gathered, c.requires.part p)

pub merge_gathered-requires-clause-room : goal.merge_gathered-requires-clause-room
merge_gathered-requires-clause-room g c =
    let e = c.break_up.ensures in
    let long = length_permutation c.args.pieces.now.cracked.rows.items c.break_up.new.pieces.cracked.rows.items e.rows in
    let gathered = count_moved (has_score_in c.args.range.now) c.args.pending.now.insertions.items c.gather-tails.new.self.insertions.items c.gather-tails.ensures.insertions in
    omega (arith, long, gathered, e.capacity, c.requires.room)

pub renew_places-requires : goal.renew_places-requires
renew_places-requires g c =
    let broken = c.break_up.new.pieces in
    own_values broken.apart broken.kept.list broken.cracked.pivots.list c.merge_gathered.new.cracked.pivots.list broken.among c.merge_gathered.ensures.frame.values

pub invariant_of-pieces-2 : goal.invariant_of-pieces-2
invariant_of-pieces-2 g c = record { among = found_among _ _ c.renew_places.ensures.among }

pub returns-clause-merges : goal.returns-clause-merges
returns-clause-merges g c =
    let m = c.merge_gathered.ensures.merges in
    let old = c.args.pieces.now.cracked.rows.items in
    let broken = c.break_up.new.pieces.cracked.rows.items in
    let left = c.give_back.ensures in
    let d = λ (p : Test). count_moved p c.args.pending.now.deletions.items c.gather-tails.new.self.deletions.items c.gather-tails.ensures.deletions in
    let i = λ (p : Test). count_moved p c.args.pending.now.insertions.items c.gather-tails.new.self.insertions.items c.gather-tails.ensures.insertions in
    let d' = λ (p : Test). ap (λ (xs : List (ℤ × List ℕ)). count_by p xs) left.deletions in
    let i' = λ (p : Test). ap (λ (xs : List (ℤ × List ℕ)). count_by p xs) left.insertions in
    record {
      content = λ p. let a = d p in let b = i p in let a' = d' p in let b' = i' p in omega (arith, a, b, a', b', count_moved p old broken c.break_up.ensures.rows, m.content p);
      part = λ p. let a' = d' p in omega (arith, a', m.part p);
      less_deletions = λ p. let a = d p in let a' = d' p in omega (arith, a, a', m.less_deletions p);
      less_insertions = λ p. let b = i p in let b' = i' p in omega (arith, b, b', m.less_insertions p);
    }

pub returns-clause-waiting : goal.returns-clause-waiting
returns-clause-waiting g c =
    let w : Test = has_score_in c.args.range.now in
    let left = c.give_back.ensures in
    let e = c.merge_gathered.ensures in
    let t = c.gather-tails.ensures in (
      (λ p. let q : Test = λ r. p r && not (w r) in
          ap (λ (xs : List (ℤ × List ℕ)). count_by q xs) left.deletions ∙ e.waiting_deletions p ∙ count_moved q c.args.pending.now.deletions.items c.gather-tails.new.self.deletions.items t.deletions),
      (λ p. let q : Test = λ r. p r && not (w r) in
          ap (λ (xs : List (ℤ × List ℕ)). count_by q xs) left.insertions ∙ e.waiting_insertions p ∙ count_moved q c.args.pending.now.insertions.items c.gather-tails.new.self.insertions.items t.insertions),
    )

pub returns-clause-values_kept : goal.returns-clause-values_kept
returns-clause-values_kept g c v there =
    subst (λ (vs : List ℤ). Contains vs v) (sym c.merge_gathered.ensures.frame.values)
    (values_among c.args.pieces.now.cracked.pivots.list c.break_up.new.pieces.cracked.pivots.list c.break_up.ensures.among v there)

-- where nothing waits in the range the lists end before it, and the call has returned
pub returns-clause-still : goal.returns-clause-still
returns-clause-still g c none_d none_i =
    let t = c.gather-tails.ensures in
    let d = last_none c.args.range.now c.gather-tails.result.deletions c.args.pending.now.deletions.items c.gather-tails.new.self.deletions.items t.deletions t.last_deletions none_d in
    let i = last_none c.args.range.now c.gather-tails.result.insertions c.args.pending.now.insertions.items c.gather-tails.new.self.insertions.items t.insertions t.last_insertions none_i in
    absurd (false≢true (c.if-ends_before.ensures.1 (d, i)))
