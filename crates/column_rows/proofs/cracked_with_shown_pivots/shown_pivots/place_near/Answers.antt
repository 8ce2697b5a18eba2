use Rattle.std.proofs.Common.{◌≡◌, ℕ, ℤ, List, pos, get_or, subst, Contains, arith}
use Rattle.std.proofs.lemmas.Int.{ints}
use Rattle.std.proofs.lemmas.List.{get_or_default}
use Rattle.column_rows.proofs.InnerPivots.{none_new}
use Rattle.column_rows.proofs.cracked_with_shown_pivots.shown_pivots.place_near.Goals as goal

pub returns-then-value-v : goal.returns-then-value-v
returns-then-value-v g c =
    let list = c.list-list.result.now in
    let p : ℤ × ℕ = get_or list c.args.i (pos 0, 0) in
    let value : p.0 ≡ c.args.v = omega (arith, ints) in
    let there : Contains list p = (c.args.i, omega arith, get_or_default list c.args.i p (pos 0, 0) (omega arith)) in
    subst (λ (ps : List (ℤ × ℕ)). Contains ps (c.args.v, p.1)) c.list-list.ensures.value (subst (λ (w : ℤ). Contains list (w, p.1)) value there)

pub unreachable-requires : goal.unreachable-requires
unreachable-requires g c = none_new c.args.pivots.now.list _ c.args.v (omega (arith, ints)) c.in-None.ensures c.requires
