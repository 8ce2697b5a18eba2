use Rattle.std.proofs.Common.{refl, arith}
use Rattle.std.proofs.lemmas.List.Sorted.{length_permutation}
use Rattle.column_rows.proofs.Counts.{count_moved}
use Rattle.column_rows.proofs.Frames.{KeepsFrame-start}
use Rattle.column_rows.proofs.Taken.{TakenFrom-more, TakenFrom-turned}
use Rattle.column_rows.proofs.TakenOut.{TakenFrom-none}
use Rattle.column_rows.proofs.bulk_merge.merge_many.Goals as goal

pub returns-clause-content : goal.returns-clause-content
returns-clause-content g c p =
    let a = count_moved p c.args.pending.now.deletions.items c.sort_from.new.self.items c.sort_from.ensures.rows in
    let b = count_moved p c.args.pending.now.insertions.items c.sort_from-2.new.self.items c.sort_from-2.ensures.rows in
    omega (arith, a, b, c.merge_tails.ensures.content p)

pub returns-clause-deletions : goal.returns-clause-deletions
returns-clause-deletions g c =
    TakenFrom-more _ _ _ _ (TakenFrom-turned _ _ _ c.requires.deletions c.sort_from.ensures.rows c.sort_from.ensures.before) c.merge_tails.ensures.deletions

pub returns-clause-insertions : goal.returns-clause-insertions
returns-clause-insertions g c =
    TakenFrom-more _ _ _ _ (TakenFrom-turned _ _ _ c.requires.insertions c.sort_from-2.ensures.rows c.sort_from-2.ensures.before) c.merge_tails.ensures.insertions

pub merge_tails-requires-clause-room : goal.merge_tails-requires-clause-room
merge_tails-requires-clause-room g c =
    let long = length_permutation c.args.pending.now.insertions.items c.sort_from-2.new.self.items c.sort_from-2.ensures.rows in
    omega (arith, long, c.requires.room)

pub returns-then-not-are_many-clause-content : goal.returns-then-not-are_many-clause-content
returns-then-not-are_many-clause-content g c p = refl

pub returns-then-not-are_many-clause-deletions : goal.returns-then-not-are_many-clause-deletions
returns-then-not-are_many-clause-deletions g c = TakenFrom-none _ _ c.requires.deletions

pub returns-then-not-are_many-clause-insertions : goal.returns-then-not-are_many-clause-insertions
returns-then-not-are_many-clause-insertions g c = TakenFrom-none _ _ c.requires.insertions

pub returns-then-not-are_many-clause-frame : goal.returns-then-not-are_many-clause-frame
returns-then-not-are_many-clause-frame g c = KeepsFrame-start

pub sort_from-requires : goal.sort_from-requires
sort_from-requires g c = c.requires.deletions

pub sort_from-requires-2 : goal.sort_from-requires-2
sort_from-requires-2 g c = c.requires.insertions

pub merge_tails-requires-clause-deletions : goal.merge_tails-requires-clause-deletions
merge_tails-requires-clause-deletions g c = rw (length_permutation c.args.pending.now.deletions.items c.sort_from.new.self.items c.sort_from.ensures.rows) c.requires.deletions

pub merge_tails-requires-clause-insertions : goal.merge_tails-requires-clause-insertions
merge_tails-requires-clause-insertions g c = rw (length_permutation c.args.pending.now.insertions.items c.sort_from-2.new.self.items c.sort_from-2.ensures.rows) c.requires.insertions

pub returns-clause-frame : goal.returns-clause-frame
returns-clause-frame g c = c.merge_tails.ensures.frame
