use Rattle.std.proofs.Common.{rules, ◌≡◌, ◌≤◌, ◌+◌, ◌*◌, [], ◌∷◌, ◌++◌, length, sym, ap, ◌∙◌, arith, Some, None, refl, w64, FitsSigned}
use Rattle.std.proofs.lemmas.Int.{to_z-of_z}
use Rattle.std.proofs.lemmas.Grind.{common_steps}
use Rattle.score_bounds.specs.ScoreTexts.{score_value}
use Rattle.zset_commands.specs.MeaningOfForm.{word_at}
use Rattle.zset_commands.proofs.Pairs.{pairs_step, drop_step, no_score, AreScores-end, two_left, length_step}
use Rattle.zset_commands.proofs.add.read_scores.Goals as goal

pub loop-rest-preserved : goal.loop-rest-preserved
loop-rest-preserved g c =
    let some : 2 ≤ length c.loop-rest.rest.now =
    two_left c.args.pairs.now c.loop-rest.rest.now c.loop-rest.scores.items c.requires c.loop-rest.invariant.0 (grind (arith, common_steps)) in
    let fits : FitsSigned w64 c.in-Some.score = search rules in
    let pushed : c.push_score.new.scores.items ≡ c.loop-rest.scores.items ++ c.in-Some.score ∷ [] =
    c.in_ok-push_score.ensures ∙ ap (λ score. c.loop-rest.scores.items ++ score ∷ []) (to_z-of_z w64 c.in-Some.score fits) in
    let read : score_value (word_at c.loop-rest.rest.now 0) ≡ Some c.in-Some.score = ap score_value (sym c.argument.ensures) ∙ sym c.in-Some.ensures in
    let length_kept : 2 * length c.push_score.new.scores.items + length c.behind-rest.result.now ≡ length c.args.pairs.now =
    length_step c.args.pairs.now c.loop-rest.rest.now c.behind-rest.result.now c.loop-rest.scores.items c.push_score.new.scores.items c.in-Some.score some pushed c.behind-rest.ensures c.loop-rest.invariant.0 in (
      length_kept,
      drop_step c.args.pairs.now c.loop-rest.rest.now c.behind-rest.result.now c.loop-rest.scores.items c.push_score.new.scores.items c.in-Some.score pushed c.behind-rest.ensures c.loop-rest.invariant.1,
      pairs_step c.args.pairs.now c.loop-rest.rest.now c.behind-rest.result.now c.loop-rest.scores.items c.push_score.new.scores.items c.in-Some.score some read pushed c.behind-rest.ensures c.loop-rest.invariant.1 c.loop-rest.invariant.2,
    )

pub returns-in_default-clause-err : goal.returns-in_default-clause-err
returns-in_default-clause-err g c refused =
    let some : 2 ≤ length c.loop-rest.rest.now =
    two_left c.args.pairs.now c.loop-rest.rest.now c.loop-rest.scores.items c.requires c.loop-rest.invariant.0 (grind (arith, common_steps)) in
    let none : score_value (word_at c.loop-rest.rest.now 0) ≡ None = ap score_value (sym c.argument.ensures) ∙ sym c.in_default.ensures in
    (refl, no_score c.args.pairs.now c.loop-rest.rest.now c.loop-rest.scores.items some none c.loop-rest.invariant.2)

pub returns-clause-ok : goal.returns-clause-ok
returns-clause-ok g c =
    let empty : length c.loop-rest.rest.now ≡ 0 = grind (arith, common_steps) in
    AreScores-end c.args.pairs.now c.loop-rest.rest.now c.loop-rest.scores.items empty c.loop-rest.invariant.0 c.loop-rest.invariant.2
