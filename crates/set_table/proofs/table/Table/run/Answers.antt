use Rattle.std.proofs.Common.{◌∙◌, sym, subst, inr, List, ℕ, rules}
use Rattle.zset_commands.specs.AbstractCommand.{key_of}
use Rattle.set_table.specs.TableAnswers.{HasNoPlace}
use Rattle.place_names.proofs.PlaceLemmas.{same_some}
use Rattle.set_table.proofs.table.Table.run.Goals as goal

pub returns-in-None-clause-ok : goal.returns-in-None-clause-ok
returns-in-None-clause-ok g c =
    let none = rw c.in-None.is at c.in_ok-place.ensures.ok in (
      c.place_of.ensures.rest.1,
      c.in_ok-reply_without_set-in-None.ensures,
      inr (
        sym c.creates.ensures ∙ none.0,
        λ key e. subst (λ (k : List ℕ). HasNoPlace c.args.pass.now k) (same_some c.in-Some.key.now key (key_of c.args.command.now.meaning) (sym c.in-Some.ensures.key) e) none.1,
      ),
    )

pub returns-in_err-change_at-clause-err : goal.returns-in_err-change_at-clause-err
returns-in_err-change_at-clause-err g c = search rules
