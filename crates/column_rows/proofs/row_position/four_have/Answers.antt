use Rattle.std.proofs.Common.{◌≡◌, ◌+◌, ℕ, ℤ, List, arith, sym, ◌∙◌, w64, SFits, rules, to_z-of_z}
use Rattle.crack_kernel.proofs.PartMoves.{holds_read}
use Rattle.column_rows.proofs.Fours.{none_of_four, within_four}
use Rattle.column_rows.proofs.row_position.four_have.Goals as goal

pub returns : goal.returns
returns g c h =
    let from = c.args.from in
    let rows = c.args.rows.now in
    let Other : ℤ × List ℕ → Type 0 = λ r. r.0 ≡ c.args.score → ⊥ in
    let fits : SFits w64 c.args.score = search rules in
    let same = sym (to_z-of_z fits) in
    let none = none_of_four c.has_score.result c.has_score-2.result c.has_score-3.result c.has_score-4.result h in
    within_four Other rows from
    (holds_read Other rows from c.index-rows-from.result (omega arith) c.index-rows-from.is (λ e. c.has_score.ensures none.0 (e ∙ same)))
    (holds_read Other rows (from + 1) c.index-rows-from-2.result (omega arith) c.index-rows-from-2.is (λ e. c.has_score-2.ensures none.1 (e ∙ same)))
    (holds_read Other rows (from + 2) c.index-rows-from-3.result (omega arith) c.index-rows-from-3.is (λ e. c.has_score-3.ensures none.2 (e ∙ same)))
    (holds_read Other rows (from + 3) c.index-rows-from-4.result (omega arith) c.index-rows-from-4.is (λ e. c.has_score-4.ensures none.3 (e ∙ same)))
