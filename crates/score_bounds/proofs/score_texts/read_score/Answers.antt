use Rattle.std.proofs.Common.{◌≡◌, ◌∙◌, ◌+◌, sym, ap, true, false, drop}
use Rattle.std.proofs.lemmas.Bool.{cond-true, cond-false}
use Rattle.score_bounds.specs.ScoreTexts.{is_zeros}
use Rattle.score_bounds.proofs.Points.{score_value-no_point, score_value-point, rest_whole}
use Rattle.score_bounds.proofs.score_texts.read_score.Goals as goal

pub returns-in-None : goal.returns-in-None
returns-in-None c = c.read_integer.ensures ∙ sym (score_value-no_point c.args.text.now c.in-None.ensures)

pub returns-then-is_zeros : goal.returns-then-is_zeros
returns-then-is_zeros c =
    let zeros : is_zeros (drop (c.in-Some.point + 1) c.args.text.now) ≡ true =
    ap is_zeros (sym (rest_whole c.args.text.now (c.in-Some.point + 1))) ∙ sym c.is_zeros.ensures ∙ c.if-is_zeros.true in
    c.read_integer-then-is_zeros.ensures ∙ sym (score_value-point c.args.text.now c.in-Some.point c.in-Some.ensures ∙ cond-true _ _ _ zeros)

pub returns-else-is_zeros : goal.returns-else-is_zeros
returns-else-is_zeros c =
    let others : is_zeros (drop (c.in-Some.point + 1) c.args.text.now) ≡ false =
    ap is_zeros (sym (rest_whole c.args.text.now (c.in-Some.point + 1))) ∙ sym c.is_zeros.ensures ∙ c.if-is_zeros.false in
    sym (score_value-point c.args.text.now c.in-Some.point c.in-Some.ensures ∙ cond-false _ _ _ others)
