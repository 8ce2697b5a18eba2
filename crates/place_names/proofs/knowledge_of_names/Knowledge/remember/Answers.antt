use Rattle.std.proofs.Common.{sym, subst}
use Rattle.place_names.specs.LookupCaches.{IsMet}
use Rattle.place_names.specs.Naming.{NotesView}
use Rattle.place_names.proofs.KeyCacheLemmas.{met_more}
use Rattle.place_names.proofs.knowledge_of_names.Knowledge.remember.Goals as goal

pub invariant_of-self : goal.invariant_of-self
invariant_of-self c =
    let met = subst (λ (v : NotesView). IsMet v.known c.args.place) (sym c.self.view_is) c.requires.met in
    (met_more c.self.inside.notes.known c.self.inside.key_cache.slots.items c.remember.new.self.slots.items c.args.place met c.remember.ensures c.self.invariant.0, c.self.invariant.1)
