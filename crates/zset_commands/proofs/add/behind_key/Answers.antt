use Rattle.zset_commands.proofs.Pairs.{add_options-counted, add_pairs-counted}
use Rattle.zset_commands.proofs.add.behind_key.Goals as goal

pub returns-clause-options : goal.returns-clause-options
returns-clause-options g c =
    add_options-counted c.args.words.now c.behind-rest.result.now c.split_at.result.0.now c.count_options.result c.behind-rest.ensures c.count_options.ensures c.split_at.ensures.front

pub returns-clause-pairs : goal.returns-clause-pairs
returns-clause-pairs g c =
    add_pairs-counted c.args.words.now c.behind-rest.result.now c.split_at.result.1.now c.count_options.result c.behind-rest.ensures c.count_options.ensures c.split_at.ensures.back
