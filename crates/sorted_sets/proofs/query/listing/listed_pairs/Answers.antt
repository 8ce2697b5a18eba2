use Rattle.sorted_sets.proofs.Order.{sorted_is_whole}
use Rattle.sorted_sets.proofs.query.listing.listed_pairs.Goals as goal

pub returns : goal.returns
returns g c = sorted_is_whole c.args.members.now.entries c.in_ok-pairs.pairs.items c.sort.new.self.items c.len-count.ensures.unique c.in_ok-pairs.ensures c.in_ok-sort.ensures.permutation c.in_ok-sort.ensures.sorted
