use Rattle.std.proofs.Common.{◌∙◌, inl, inr, arith}
use Rattle.std.proofs.lemmas.Bool.{cases_eq}
use Rattle.table_lifetime.proofs.closing_audit.passes_agree_on_names.compare_names.Goals as goal

pub loop-place-preserved : goal.loop-place-preserved
loop-place-preserved g c =
    let inv = c.loop-place.invariant in
    record {
      same = c.compare_at.ensures.same ∙ inv.same;
      agree = λ p below. elim (cases_eq p c.loop-place.place) [
        | inl is ↦ rw is (rw (← inv.same) c.compare_at.ensures.agree)
        | inr n ↦ inv.agree p (omega arith)
      ];
    }
