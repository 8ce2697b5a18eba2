-- How an owner with an append file answers a command.
use Rattle.std.specs.Prelude.{◌≡◌, true, Result, MatchResult, OnOk}
use Rattle.resp_wire.specs.Response.{Response}
use Rattle.zset_commands.specs.AbstractCommand.{Asked}
use Rattle.zset_commands.specs.declared.refusal.Refusal.{Refusal}
use Rattle.zset_core.specs.SetsByKey.{World}
use Rattle.log_records.specs.LoggedOwnerViewAndRuns.{LoggedView, AreSame, Ran, Refused, Replays}

-- it runs the command and appends its record where a set changes, or refuses it and leaves all sets; where the log is
-- broken it runs only what changes no set; and from whatever world the log's records replayed to its own, they do so again
pub record LoggedAnswers (old : LoggedView) (command : Asked) (answer : Result Response Refusal) (new : LoggedView) : Type 0 where
  pub told : MatchResult answer (λ reply. Ran old new command reply) (λ refusal. Refused old new command refusal)
  pub unbroken : OnOk answer (old.log.broken ≡ true → AreSame old.world new.world)
  pub replays : (start : World) → Replays start old → Replays start new
