use Rattle.std.proofs.Common.{rules}
use Rattle.place_names.proofs.KeyCacheLemmas.{both_grow, recalled}
use Rattle.place_names.proofs.names_set_once.Names.recall.Goals as goal

pub invariant_of-known-2 : goal.invariant_of-known-2
invariant_of-known-2 c = both_grow c.known.inside.notes.known c.name_of.new.notes.known c.known.inside.key_cache.slots.items c.known.inside.hashes.hashes.items c.in_ok-name.ensures.seen.grows c.known.invariant

pub returns-clause-found : goal.returns-clause-found
returns-clause-found c = rw c.bears.ensures.same
    (recalled c.known.inside.notes.known c.name_of.new.notes.known c.in_ok-place.place c.in_ok-name.name.now c.args.key.now (c.known.invariant.0 c.in_ok-place.place c.in_ok-place.ensures) c.in_ok-name.ensures.seen
    (c.bears.ensures.is.0 (search (rules, c.if-not-bears.false))))
