use Rattle.std.proofs.Common.{◌≡◌, ℕ, get_or, inl, inr, ap, sym, ◌∙◌, arith, rules}
use Rattle.std.proofs.lemmas.Bool.{cases_eq}
use Rattle.ripple_column.proofs.ripple.first_between.Goals as goal

pub loop-at-preserved : goal.loop-at-preserved
loop-at-preserved g c =
    let s = c.loop-at.invariant in
    let rows = c.args.rows.now in
    let found = c.index-rows-at.result in
    elim (cases_eq s.0 c.loop-at.at) [
      | inl e ↦
          let same : found ≡ c.args.row.now = c.index-rows-at.is ∙ ap (λ (m : ℕ). get_or rows m found) (sym e) ∙ s.3 found in
          absurd (let t = c.is_same.ensures.1 same in let f = c.if-is_same.false in search rules)
      | inr n ↦ (s.0, omega arith, s.2, s.3)
    ]
