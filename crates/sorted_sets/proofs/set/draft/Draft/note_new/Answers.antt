use Rattle.std.proofs.Common.{◌≡◌, ◌+◌, [], arith}
use Rattle.std.proofs.lemmas.Grind.{common_steps}
use Rattle.sorted_sets.proofs.Gathered.{noted_lead}
use Rattle.sorted_sets.proofs.Planning.{empty_list}
use Rattle.sorted_sets.proofs.set.draft.Draft.note_new.Goals as goal

pub overflow_add-self : goal.overflow_add-self
overflow_add-self g c = omega (arith, c.requires.led.within, c.requires.small)

pub returns-then-is_empty-clause-noted : goal.returns-then-is_empty-clause-noted
returns-then-is_empty-clause-noted g c =
    let none : c.args.self.now.touched.items ≡ [] = empty_list c.args.self.now.touched.items (grind (arith, common_steps)) in
    noted_lead c.args.self.now (c.args.self.now.leading + 1) c.args.place (omega arith) none c.requires.led
