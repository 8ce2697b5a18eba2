use Rattle.std.proofs.Common.{ℕ, ℤ, ◌≤◌, List, length, IsPermutation, vec_capacity, sym, ap, subst, ◌∙◌, drop, arith}
use Rattle.std.proofs.lemmas.Int.{ints}
use Rattle.std.proofs.lemmas.List.Sorted.{length_permutation}
use Rattle.crack_kernel.specs.PartedRows.{ChangesWithin}
use Rattle.column_rows.proofs.FrontRoom.{handed_on, made_behind, written_behind}
use Rattle.column_rows.proofs.front_room_rows.FrontRoomRows.crack.Goals as goal

pub returns-clause-permutation : goal.returns-clause-permutation
returns-clause-permutation g c =
    let v = c.self.inside in
    made_behind (λ xs ys. IsPermutation xs ys) v.left v.rows.len c.deref_mut.result.now v.rows.items c.crack_piece.new.rows _ (omega arith) (omega arith) c.crack_piece.auto.rows
    (ap (drop v.left) c.deref_mut.ensures.value ∙ ap (λ r. r.items) c.self.view_is) c.crack_piece.ensures.permutation

pub returns-clause-changes : goal.returns-clause-changes
returns-clause-changes g c =
    let v = c.self.inside in
    made_behind (λ xs ys. ChangesWithin c.args.from c.args.to xs ys) v.left v.rows.len c.deref_mut.result.now v.rows.items c.crack_piece.new.rows _ (omega arith) (omega arith) c.crack_piece.auto.rows
    (ap (drop v.left) c.deref_mut.ensures.value ∙ ap (λ r. r.items) c.self.view_is) c.crack_piece.ensures.changes

pub returns-clause-before : goal.returns-clause-before
returns-clause-before g c k d l h =
    let v = c.self.inside in
    rw (written_behind v.left v.rows.len c.deref_mut.result.now v.rows.items c.crack_piece.new.rows (omega arith) (omega arith) c.crack_piece.auto.rows)
    (omega (arith, ints, c.crack_piece.ensures.before k d l h))

pub returns-clause-behind : goal.returns-clause-behind
returns-clause-behind g c k d l h =
    let v = c.self.inside in
    rw (written_behind v.left v.rows.len c.deref_mut.result.now v.rows.items c.crack_piece.new.rows (omega arith) (omega arith) c.crack_piece.auto.rows)
    (omega (arith, ints, c.crack_piece.ensures.behind k d l h))

pub crack_piece-requires-clause-within : goal.crack_piece-requires-clause-within
crack_piece-requires-clause-within g c =
    let v = c.self.inside in
    let now = c.deref_mut.result.now in
    let same = handed_on v.left now ∙ ap (drop v.left) c.deref_mut.ensures.value ∙ ap (λ r. r.items) c.self.view_is in
    subst (λ (xs : List (ℤ × List ℕ)). c.args.to ≤ length xs) (sym same) c.requires.within

pub returns-clause-len : goal.returns-clause-len
returns-clause-len g c = length_permutation c.args.self.now.items _ (returns-clause-permutation g c)

pub returns-clause-low : goal.returns-clause-low
returns-clause-low g c = c.crack_piece.ensures.low

pub returns-clause-high : goal.returns-clause-high
returns-clause-high g c = c.crack_piece.ensures.high

pub returns-clause-capacity : goal.returns-clause-capacity
returns-clause-capacity g c = ap vec_capacity c.self.view_is
