use Rattle.sorted_sets.proofs.Planning.{IsIdle-discard, IsPlanned-of, IsSoundSet-none}
use Rattle.sorted_sets.proofs.set.ZSet.drop_prepared.Goals as goal

pub invariant_of-self : goal.invariant_of-self
invariant_of-self g c =
    let es = c.self.inside.members.entries in
    let column = c.self.inside.column in
    let plan = c.in-Some.prepared.plan in
    IsSoundSet-none c.discard.new.members.entries column c.take.new.self c.in-Some.ensures.after
    (IsIdle-discard es c.discard.new.members.entries column c.in-Some.prepared.asked.value.meaning plan (IsPlanned-of es column c.self.inside.prepared c.in-Some.prepared c.in-Some.ensures.value c.self.invariant) c.discard.ensures.current c.discard.ensures.settled)
