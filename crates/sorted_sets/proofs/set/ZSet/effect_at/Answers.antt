use Rattle.std.proofs.Common.{◌<◌, ℕ, ℤ, List, Option, length, sym, subst, ap, arith}
use Rattle.sorted_sets.proofs.EffectShown.{at_shown, len_shown, none_shown}
use Rattle.sorted_sets.proofs.set.ZSet.effect_at.Goals as goal

pub unreachable-requires : goal.unreachable-requires
unreachable-requires g c =
    let none = none_shown c.self.inside.members.entries c.self.inside.column c.self.inside.prepared c.args.self.now c.self.view_is c.in-None.is in
    omega (arith, c.requires, ap (λ (l : List (List ℕ × Option ℤ)). length l) none)

pub returns : goal.returns
returns g c =
    let es = c.self.inside.members.entries in
    let len = len_shown es c.self.inside.column c.self.inside.prepared c.in-Some.prepared c.args.self.now c.self.view_is c.in-Some.is c.self.invariant in
    at_shown es c.self.inside.column c.self.inside.prepared c.in-Some.prepared c.args.self.now c.self.view_is c.in-Some.is c.self.invariant c.args.index c.effect_entry.result.0.now c.effect_entry.result.1
    (subst (λ (n : ℕ). c.args.index < n) (sym len) c.requires) c.effect_entry.ensures.name c.effect_entry.ensures.score

pub effect_entry-requires-clause-index : goal.effect_entry-requires-clause-index
effect_entry-requires-clause-index g c =
    let len = len_shown c.self.inside.members.entries c.self.inside.column c.self.inside.prepared c.in-Some.prepared c.args.self.now c.self.view_is c.in-Some.is c.self.invariant in
    subst (λ (n : ℕ). c.args.index < n) (sym len) c.requires
