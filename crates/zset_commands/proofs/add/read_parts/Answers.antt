use Rattle.std.proofs.Common.{rules, ◌≡◌, ◌∙◌, sym, ap, Ok, w64, FitsSigned, to_z, of_z}
use Rattle.std.proofs.lemmas.Int.{to_z-of_z}
use Rattle.std.proofs.lemmas.Result.{err_from_is_err_and}
use Rattle.zset_commands.proofs.Adding.{increase_err, increase_ok, scores_ok}
use Rattle.zset_commands.proofs.add.read_parts.Goals as goal

pub returns-in_err-given : goal.returns-in_err-given
returns-in_err-given g c words is_options is_pairs =
    let p = err_from_is_err_and c.from_residual.result c.from_residual.ensures.1 in
    rw (p.1, p.2) (λ _. increase_err words c.args.options.now c.args.pairs.now c.args.flags is_options is_pairs c.requires.parts c.in_err-given.field-0.0 (sym c.has_option-increases.ensures ∙ c.if-increases.true) (sym c.in_err-given.ensures))

pub returns-then-increases : goal.returns-then-increases
returns-then-increases g c words is_options is_pairs =
    let fits : FitsSigned w64 c.in_ok-given.given = search rules in
    let kept : c.in_ok-given.given ≡ to_z w64 (of_z w64 c.in_ok-given.given) = sym (to_z-of_z w64 c.in_ok-given.given fits) in
    increase_ok words c.args.options.now c.args.pairs.now c.args.flags is_options is_pairs c.requires.parts (to_z w64 (of_z w64 c.in_ok-given.given)) (sym c.has_option-increases.ensures ∙ c.if-increases.true) (sym c.in_ok-given.ensures ∙ ap Ok kept)

pub returns : goal.returns
returns g c words is_options is_pairs =
    scores_ok words c.args.options.now c.args.pairs.now c.args.flags is_options is_pairs c.requires.parts c.in_ok-scores.scores.items c.has_option.result (sym c.has_option-increases.ensures ∙ c.if-increases.false) c.in_ok-scores.ensures.ok c.has_option.ensures
