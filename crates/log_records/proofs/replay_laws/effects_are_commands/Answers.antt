use Rattle.log_records.proofs.ReplayLemmas.{after-as_command, replay-as_commands}
use Rattle.log_records.proofs.replay_laws.effects_are_commands.Goals as goal

pub returns-clause-one : goal.returns-clause-one
returns-clause-one c = after-as_command

pub returns-clause-all : goal.returns-clause-all
returns-clause-all c = replay-as_commands
