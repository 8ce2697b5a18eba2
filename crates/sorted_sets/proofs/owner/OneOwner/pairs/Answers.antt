use Rattle.std.proofs.Common.{◌∙◌, sym, ap}
use Rattle.zset_core.specs.SortedSet.{whole}
use Rattle.sorted_sets.proofs.Worlds.{if_ok_map}
use Rattle.sorted_sets.proofs.OwnerViews.{set_shown, none_shown}
use Rattle.sorted_sets.proofs.Order.{whole_empty}
use Rattle.sorted_sets.proofs.owner.OneOwner.pairs.Goals as goal

pub pairs-requires : goal.pairs-requires
pairs-requires g c = rw c.get-in-Some.ensures ((set_shown c.self.inside.sets.entries c.self.inside.asked c.args.self.now c.args.key.now c.in-Some.kept.now c.self.view_is c.self.invariant.0 c.requires (sym c.in-Some.ensures.value)).1)

pub returns-in-None : goal.returns-in-None
returns-in-None g c = c.new.ensures.items ∙ sym whole_empty ∙ ap whole (sym (none_shown c.self.inside.sets.entries c.self.inside.asked c.args.self.now c.args.key.now c.self.view_is c.self.invariant.0 (sym c.in-None.ensures.value)))

pub returns-in-Some : goal.returns-in-Some
returns-in-Some g c =
    if_ok_map c.pairs.result (λ rows is. is ∙ ap (λ v. whole v.members) c.get-in-Some.ensures ∙ ap whole (set_shown c.self.inside.sets.entries c.self.inside.asked c.args.self.now c.args.key.now c.in-Some.kept.now c.self.view_is c.self.invariant.0 c.requires (sym c.in-Some.ensures.value)).0) c.pairs.ensures
