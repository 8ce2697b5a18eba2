use Rattle.std.proofs.Common.{◌∙◌, sym}
use Rattle.score_bounds.proofs.Numerals.{integer_value-parsed, integer_value-no_utf8}
use Rattle.score_bounds.proofs.score_texts.read_integer.Goals as goal

pub returns-in-Ok : goal.returns-in-Ok
returns-in-Ok c =
    c.ok.ensures.value ∙ rw c.in-Ok.ensures.cases.0 at (integer_value-parsed c.in-Ok.text.now c.parse.result c.parse.ensures.value.0)

pub returns-in-Err : goal.returns-in-Err
returns-in-Err c = sym (integer_value-no_utf8 c.args.text.now c.in-Err.ensures.cases.0)
