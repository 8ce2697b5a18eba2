use Rattle.std.proofs.Common.{◌∙◌, sym, ap, subst, Some, None, List, ℕ, Option, IfSome, IsSome}
use Rattle.std.specs.Option.{option_copied}
use Rattle.std.specs.FinMap as fin
use Rattle.zset_core.specs.SetsByKey.{key_behind}
use Rattle.sorted_sets.proofs.OwnerViews.{names_shown, there_of}
use Rattle.sorted_sets.proofs.owner.OneOwner.key_after.Goals as goal

pub next_key-requires : goal.next_key-requires
next_key-requires g c =
    let present : IfSome (Some c.in-Some.key.now) (λ key. IsSome (fin.get c.args.self.now.world key)) =
    subst (λ (o : Option (List ℕ)). IfSome o (λ key. IsSome (fin.get c.args.self.now.world key))) (ap option_copied c.in-Some.is) c.requires.present in
    there_of c.self.inside.sets.entries c.self.inside.asked c.args.self.now c.in-Some.key.now c.self.view_is present

pub returns-in-None : goal.returns-in-None
returns-in-None g c =
    c.first_key.ensures.key
    ∙ ap (λ (l : List (List ℕ)). key_behind l None) (names_shown c.self.inside.sets.entries c.self.inside.asked c.args.self.now c.self.view_is c.self.invariant.0 c.requires.idle c.first_key.ensures.ordered)
    ∙ ap (key_behind (fin.keys c.args.self.now.world)) (sym (ap option_copied c.in-None.is))

pub returns-in-Some : goal.returns-in-Some
returns-in-Some g c =
    c.next_key.ensures.key
    ∙ ap (λ (l : List (List ℕ)). key_behind l (Some c.in-Some.key.now)) (names_shown c.self.inside.sets.entries c.self.inside.asked c.args.self.now c.self.view_is c.self.invariant.0 c.requires.idle c.next_key.ensures.ordered)
    ∙ ap (key_behind (fin.keys c.args.self.now.world)) (sym (ap option_copied c.in-Some.is))
