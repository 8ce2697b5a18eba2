use Rattle.sorted_sets.proofs.PlaceMarks.{marked_more}
use Rattle.sorted_sets.proofs.set.place_filter.mark_place.Goals as goal

pub returns-clause-marked : goal.returns-clause-marked
returns-clause-marked c places are = marked_more c.args.marks.now c.args.place c.requires places are
