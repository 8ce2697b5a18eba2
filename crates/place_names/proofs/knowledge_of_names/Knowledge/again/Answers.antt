use Rattle.std.proofs.Common.{List, ◌∙◌, sym, subst}
use Rattle.std.proofs.Common.{ℕ}
use Rattle.std.specs.declared.option.Option.{Option}
use Rattle.place_names.specs.LookupCaches.{AllMet, AllHashed}
use Rattle.place_names.specs.declared.key_cache.MetKey.{MetKey}
use Rattle.place_names.proofs.KeyCacheLemmas.{both_same}
use Rattle.place_names.proofs.knowledge_of_names.Knowledge.again.Goals as goal

pub invariant_of-self : goal.invariant_of-self
invariant_of-self c = both_same c.self.inside.notes c.again.new.self c.self.inside.key_cache.slots.items c.self.inside.hashes.hashes.items c.again.ensures.same c.self.invariant

pub invariant_of-result : goal.invariant_of-result
invariant_of-result c =
    both_same c.self.inside.notes _ c.in_ok-slots.slots.items c.in_ok-hashes.hashes.items c.in_ok-again.ensures.copy (
      subst (λ (slots : List (Option MetKey)). AllMet c.self.inside.notes.known slots) (sym (c.in_ok-slots.ensures.items ∙ c.deref.ensures.value)) c.self.invariant.0,
      subst (λ (hashes : List ℕ). AllHashed c.self.inside.notes.known hashes) (sym (c.in_ok-hashes.ensures.items ∙ c.deref-2.ensures.value)) c.self.invariant.1,
    )

pub invariant_of-self-2 : goal.invariant_of-self-2
invariant_of-self-2 c = both_same c.self.inside.notes c.again.new.self c.self.inside.key_cache.slots.items c.self.inside.hashes.hashes.items c.again.ensures.same c.self.invariant
