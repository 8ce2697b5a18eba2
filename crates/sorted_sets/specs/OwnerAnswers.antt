-- How an owner of sets answers a command.
use Rattle.std.specs.Prelude.{◌≡◌, None, Some, Result, Ok, Err}
use Rattle.resp_wire.specs.Response.{Response}
use Rattle.zset_commands.specs.AbstractCommand.{Asked}
use Rattle.zset_core.specs.Semantics.{act}
use Rattle.sorted_sets.specs.SetAndOwnerViews.{OwnerView}
use Rattle.zset_commands.specs.Refusal.{IsRefused}
use Rattle.zset_commands.specs.declared.refusal.Refusal.{Refusal}

-- no set of it is prepared
abbrev pub OwnerIsIdle : OwnerView → Type 0
OwnerIsIdle owner = owner.next ≡ None

-- by the command's definition, or with a refusal, which leaves all sets as they were
abbrev pub OwnerAnswers : OwnerView → Asked → Result Response Refusal → OwnerView → Type 0
OwnerAnswers old command (Ok reply) new = act old.world command.meaning ≡ Some (new.world, reply)
OwnerAnswers old command (Err refusal) new = (new.world ≡ old.world) × IsRefused refusal (act old.world command.meaning)
