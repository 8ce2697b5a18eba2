use Rattle.zset_commands.proofs.ReadingLaws.{meant}
use Rattle.zset_commands.proofs.reading_laws.unrefused_requests.Goals as goal

pub returns : goal.returns
returns c = meant
