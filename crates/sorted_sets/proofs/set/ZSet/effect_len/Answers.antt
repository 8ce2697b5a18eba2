use Rattle.std.proofs.Common.{◌∙◌, List, ℕ, ℤ, Option, length, sym, ap}
use Rattle.sorted_sets.proofs.EffectShown.{len_shown, none_shown}
use Rattle.sorted_sets.proofs.Planning.{IsPlanned-of}
use Rattle.sorted_sets.proofs.set.ZSet.effect_len.Goals as goal

pub returns-in-None : goal.returns-in-None
returns-in-None g c = sym (ap (λ (l : List (List ℕ × Option ℤ)). length l) (none_shown c.self.inside.members.entries c.self.inside.column c.self.inside.prepared c.args.self.now c.self.view_is c.in-None.is))

pub returns-in-Some : goal.returns-in-Some
returns-in-Some g c =
    c.moved_len.ensures ∙ len_shown c.self.inside.members.entries c.self.inside.column c.self.inside.prepared c.in-Some.prepared c.args.self.now c.self.view_is c.in-Some.is c.self.invariant

pub moved_len-requires : goal.moved_len-requires
moved_len-requires g c = record {
  counted = (IsPlanned-of c.self.inside.members.entries c.self.inside.column c.self.inside.prepared c.in-Some.prepared (sym c.in-Some.is) c.self.invariant).counted;
}
