-- A request's reply that was sent, or not whole.
use Rattle.std.proofs.Common.{◌≡◌, ℕ, ◌+◌, List, length, Option, Result, Ok, Err, OnOk, IfErr, sym, subst, inl}
use Rattle.std.specs.Io.KnownBytes.{append_known}
use Rattle.resp_wire.specs.Response.{Response, encoded}
use Rattle.zset_commands.specs.AbstractCommand.{Meaning, Asked}
use Rattle.zset_commands.specs.CommandGrammar.{asked}
use Rattle.zset_commands.specs.declared.refusal.Refusal.{Refusal}
use Rattle.session_core.specs.declared.resumable_session.Progress.{Progress}
use Rattle.session_core.specs.declared.session_end.SessionFault.{SessionFault}
use Rattle.session_core.specs.Exchange.{told_by, ExchangeOf, Exchange}
use Rattle.session_core.specs.SendOutcome.{SendEnds}
use Rattle.session_core.specs.ServeSteps.{AnsweredOne, HaltedOne}

module _ {S : Type 0} (allows : S → Asked → Result Response Refusal → S → Type 0) where
  -- a command's answer is an exchange
  pub command_exchange : (old new : S) (command : Asked) (answer : Result Response Refusal) (reply : Response) → asked command.words ≡ Ok command.meaning → allows old command answer new → reply ≡ told_by answer → Exchange allows old command.words reply new
  command_exchange old new command answer reply read allowed told = subst (λ (meant : Result Meaning Refusal). ExchangeOf allows old command.words meant reply new) (sym read) (inl (answer, allowed, told))

  module _ {A : Type 0} (start here : S) (words : List (List ℕ)) (reply : Response) (exchange : Exchange allows start words reply here) (told now : Option (List ℕ)) where
    -- its reply was sent
    pub answered_one : (result : Result A SessionFault) (begun progress : Progress) → OnOk result (now ≡ append_known told (encoded reply)) → OnOk result (progress.out ≡ begun.out + length (encoded reply)) → OnOk result (progress.requests ≡ begun.requests + 1) → OnOk result (AnsweredOne allows start words begun told here progress now)
    answered_one (Ok sent) begun progress told_is out_is count_is = record { reply = reply; exchange = exchange; told_is = told_is; out_is = out_is; count_is = count_is }
    answered_one (Err end) begun progress told_is out_is count_is = tt

    -- its reply was not sent whole
    pub halted_one : (result : Result A SessionFault) (before : ℕ) → IfErr result (λ end. SendEnds (encoded reply) before told now end) → IfErr result (λ end. HaltedOne allows start words before told end here now)
    halted_one (Ok sent) before ends = tt
    halted_one (Err end) before ends = record { reply = reply; exchange = exchange; ends = ends }
