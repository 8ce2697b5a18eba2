use Rattle.std.proofs.Common.{◌∙◌, ap, refl}
use Rattle.resp_wire.specs.Response.{Array}
use Rattle.zset_commands.specs.MeaningOfForm.{question_of}
use Rattle.sorted_sets.proofs.EmptySet.{answered_of}
use Rattle.sorted_sets.proofs.query.missing_key_reply.answer_of_none.Goals as goal

pub returns-in-Score : goal.returns-in-Score
returns-in-Score g c words = answered_of (question_of words c.args.question.now) _ _ (ap (question_of words) c.in-Score.is) refl

pub returns-in-Card : goal.returns-in-Card
returns-in-Card g c words = answered_of (question_of words c.args.question.now) _ _ (ap (question_of words) c.in-Card.is) refl

pub returns-in-Count : goal.returns-in-Count
returns-in-Count g c words = answered_of (question_of words c.args.question.now) _ _ (ap (question_of words) c.in-Count.is) refl

pub returns-in-ListRange : goal.returns-in-ListRange
returns-in-ListRange g c words = answered_of (question_of words c.args.question.now) _ _ (ap (question_of words) c.in-ListRange.is) (ap Array (c.new-in-ListRange.ensures ∙ c.new.ensures.items))
