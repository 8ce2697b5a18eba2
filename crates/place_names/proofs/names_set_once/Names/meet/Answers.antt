use Rattle.place_names.proofs.KeyCacheLemmas.{both_known, met_grows, hashed_grows, learned_hash}
use Rattle.place_names.proofs.names_set_once.Names.meet.Goals as goal

pub invariant_of-known : goal.invariant_of-known
invariant_of-known c = both_known c.known.inside.notes.known c.name_of.new.notes.known c.known.inside.key_cache.slots.items c.known.inside.hashes.hashes.items c.in_err-name.ensures.seen.1 c.known.invariant

pub invariant_of-known-2 : goal.invariant_of-known-2
invariant_of-known-2 c =
    let learns = c.in_ok-name.ensures.seen in
    let old = c.known.inside.notes.known in
    let new = c.name_of.new.notes.known in (
      met_grows old new c.known.inside.key_cache.slots.items learns.grows c.known.invariant.0,
      c.learn.ensures new (learned_hash old new c.args.place c.in_ok-name.name.now c.hash.result learns c.hash.ensures.value) (hashed_grows old new c.known.inside.hashes.hashes.items learns.grows c.known.invariant.1),
    )
