-- What a table answered is what its worker was told.
use Rattle.std.proofs.Common.{◌≡◌, ◌∙◌, ap, sym, inl, inr, Some, Ok}
use Rattle.std.specs.FinMap as fin
use Rattle.resp_wire.specs.Response.{Response}
use Rattle.zset_commands.specs.AbstractCommand.{Asked}
use Rattle.set_table.specs.TableAndPassViews.{TableView, PassView}
use Rattle.set_table.specs.TableAnswers.{IsAnswered}
use Rattle.set_table.specs.declared.table.Answered.{Answered}
use Rattle.set_table.specs.declared.table.Answered.TheVariants.{Ran, NoPlace}
use Rattle.table_worker.specs.WorkerAnswers.{WasTold, reply_in}

pub told_ok : {A : Type 0} (table : TableView) (old new : PassView) (command : Asked) (answered : Answered A) (reply : Response)
    → IsAnswered table old new command answered → reply ≡ reply_in answered → WasTold table old new command (Ok reply)
told_ok table old new command (Ran answer) reply h e =
    inl (record { key = h.0; answer = answer; key_is = h.1; place = h.2; answered = h.3; reply_is = sym e })
told_ok table old new command (NoPlace told) reply h e =
    inr (record { shares = h.0; empty = h.1 ∙ ap (λ (r : Response). Some (fin.empty, r)) (sym e); cause = h.2 })
