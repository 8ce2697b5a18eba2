use Rattle.sorted_sets.proofs.ListingLaws.{listed}
use Rattle.sorted_sets.proofs.listing_laws.listed_pairs.Goals as goal

pub returns : goal.returns
returns c = listed
