use Rattle.std.proofs.Common.{◌∙◌, sym}
use Rattle.sorted_sets.proofs.PlaceMarks.{not_there}
use Rattle.sorted_sets.proofs.set.place_filter.stands_among.Goals as goal

pub returns-else-marks-place : goal.returns-else-marks-place
returns-else-marks-place c = c.if-marks-place.false ∙ sym (not_there c.args.marks.now c.args.places.now c.args.place c.requires.marked c.if-marks-place.false)
