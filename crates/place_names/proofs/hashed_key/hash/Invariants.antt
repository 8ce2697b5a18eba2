use Rattle.std.proofs.Common.{◌≡◌, ◌^◌, ◌<◌, drop}
use Rattle.place_names.specs.Naming.{hash_from}
use Rattle.place_names.proofs.hashed_key.hash.Given as goal

abbrev pub invariant-loop-byte : goal.invariant-loop-byte
invariant-loop-byte l = (hash_from l.hash (drop l.byte-index l.key) ≡ hash_from 7 l.key) × (l.hash < 2 ^ 32)
