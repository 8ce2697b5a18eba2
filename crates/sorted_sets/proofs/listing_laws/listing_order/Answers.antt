use Rattle.sorted_sets.proofs.ListingLaws.{listing_rises}
use Rattle.sorted_sets.proofs.listing_laws.listing_order.Goals as goal

pub returns : goal.returns
returns c = listing_rises
