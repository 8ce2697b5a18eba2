use Rattle.std.proofs.Common.{ℕ, List, subst, refl, Ok, Err}
use Rattle.std.proofs.lemmas.Result.{err_from_is_err_and}
use Rattle.zset_commands.specs.CommandGrammar.{conditions, meaning}
use Rattle.zset_commands.specs.MeaningOfForm.{meaning_of}
use Rattle.zset_commands.specs.ReadingMatchesGrammar.{IsReading}
use Rattle.zset_commands.proofs.Asked.{asked-ok, asked-err}
use Rattle.zset_commands.proofs.command.Command.read.Goals as goal

pub returns-in_err-form-clause-err : goal.returns-in_err-form-clause-err
returns-in_err-form-clause-err g c =
    let p = err_from_is_err_and c.from_residual.result c.from_residual.ensures.1 in
    let read = subst (λ (words : List (List ℕ)). IsReading {A = ℕ} words (conditions words) (meaning words) (Err c.in_err-form.field-0.0)) c.words.ensures.words c.in_err-form.ensures in
    rw (p.1, p.2) (λ other. asked-err c.args.request c.in_err-form.field-0.0 (read other))

pub invariant_of-result : goal.invariant_of-result
invariant_of-result g c =
    let read = subst (λ (words : List (List ℕ)). IsReading words (conditions words) (meaning words) (Ok c.in_ok-form.form)) c.words.ensures.words c.in_ok-form.ensures in
    (read.2, asked-ok c.args.request (meaning_of c.args.request c.in_ok-form.form) read.0 read.1)

pub returns-clause-ok : goal.returns-clause-ok
returns-clause-ok g c =
    let read = subst (λ (words : List (List ℕ)). IsReading words (conditions words) (meaning words) (Ok c.in_ok-form.form)) c.words.ensures.words c.in_ok-form.ensures in
    (refl, asked-ok c.args.request (meaning_of c.args.request c.in_ok-form.form) read.0 read.1)
