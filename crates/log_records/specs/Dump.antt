-- What a rewrite writes for a world.
use Rattle.std.specs.Prelude.{ℕ, zero, suc, List, [], ◌∷◌, length, take, drop, map, codes}
use Rattle.std.specs.List.{flat_map}
use Rattle.std.specs.FinMap as fin
use Rattle.score_bounds.specs.ScoreTexts.{score_text}
use Rattle.zset_core.specs.SortedSet.{Pair, Members, whole}
use Rattle.zset_core.specs.SetsByKey.{World, set_at}
use Rattle.log_records.specs.Records.{Record}
use Rattle.log_records.specs.Replay.{header}

-- ZADD of pairs
abbrev pub add_record : List ℕ → List Pair → Record
add_record key pairs = codes "ZADD" ∷ (key ∷ flat_map (λ p. score_text p.0 ∷ p.1 ∷ []) pairs)

-- pairs in pieces of 512, the last with what remains; there are no more pieces than pairs
abbrev pub cut_pieces : ℕ → List Pair → List (List Pair)
cut_pieces zero pairs = []
cut_pieces (suc n) [] = []
cut_pieces (suc n) (p ∷ pairs) = take 512 (p ∷ pairs) ∷ cut_pieces n (drop 512 (p ∷ pairs))

abbrev pub pieces : List Pair → List (List Pair)
pieces pairs = cut_pieces (length pairs) pairs

abbrev pub piece_records : List ℕ → List Pair → List Record
piece_records key pairs = map (add_record key) (pieces pairs)

-- the records of one set: its pairs in the order of their listing
abbrev pub set_records : List ℕ → Members → List Record
set_records key members = piece_records key (whole members)

-- the records of the sets at these keys
abbrev pub records_at : World → List (List ℕ) → List Record
records_at world keys = flat_map (λ key. set_records key (set_at world key)) keys

-- the records of a world: its sets in the byte order of their keys
abbrev pub dump : World → List Record
dump world = records_at world (fin.keys world)

-- what a rewrite writes: the header, and these records
abbrev pub image : World → List Record
image world = header ∷ dump world
