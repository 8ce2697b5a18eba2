use Rattle.place_names.proofs.KeyCacheLemmas.{both_same}
use Rattle.place_names.proofs.names_set_once.Names.gather.Goals as goal

pub invariant_of-known : goal.invariant_of-known
invariant_of-known c = both_same c.known.inside.notes c.gather_note.new.notes c.known.inside.key_cache.slots.items c.known.inside.hashes.hashes.items c.gather_note.ensures.same c.known.invariant
