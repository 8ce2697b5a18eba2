use Rattle.zset_commands.proofs.ReadingLaws.{numbers_rise}
use Rattle.zset_commands.proofs.reading_laws.condition_order.Goals as goal

pub returns : goal.returns
returns c = numbers_rise
