use Rattle.std.proofs.Common.{◌∙◌, sym, ap, Some}
use Rattle.sorted_sets.proofs.Bridge.{exact}
use Rattle.sorted_sets.proofs.OwnerViews.{none_behind, some_behind}
use Rattle.sorted_sets.proofs.owner.keys_in_order.next_key.Goals as goal

pub returns-in-None-next-clause-key : goal.returns-in-None-next-clause-key
returns-in-None-next-clause-key g c =
    let same = exact c.args.key.now c.in-Some.stored.now.items c.in-Some.ensures.same_key in
    sym (none_behind c.args.sets.now.entries c.args.key.now c.in-Some.stored.now.items same (sym (c.range.ensures.between tt) ∙ c.in-None-next.ensures.steps.0))

pub returns-in-Some-next-clause-key : goal.returns-in-Some-next-clause-key
returns-in-Some-next-clause-key g c =
    let same = exact c.args.key.now c.in-Some.stored.now.items c.in-Some.ensures.same_key in
    ap Some c.as_slice.ensures.value
    ∙ sym (some_behind c.args.sets.now.entries c.args.key.now c.in-Some.stored.now.items (c.in-Some-next.next.now, c.in-Some-next.field-0-1.now) c.next.new.self same (sym (c.range.ensures.between tt) ∙ c.in-Some-next.ensures.steps))
