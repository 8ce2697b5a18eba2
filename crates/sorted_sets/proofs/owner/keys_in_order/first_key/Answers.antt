use Rattle.std.proofs.Common.{◌∙◌, sym, ap, Some}
use Rattle.sorted_sets.proofs.OwnerViews.{first_named}
use Rattle.sorted_sets.proofs.owner.keys_in_order.first_key.Goals as goal

pub returns-in-Some-clause-key : goal.returns-in-Some-clause-key
returns-in-Some-clause-key g c = ap Some c.as_slice.ensures.value ∙ sym (first_named c.args.sets.now.entries c.in-Some.first.now c.next.new.self (sym c.keys.ensures.rest ∙ c.in-Some.ensures.steps))
