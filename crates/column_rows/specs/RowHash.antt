-- A hash of a row: its score and the bytes of its member, taken in word by word.
use Rattle.std.specs.Prelude.{◌+◌, ◌-◌, ◌*◌, ◌/◌, ◌%◌, ◌^◌, ◌∷◌, ℕ, ℤ, suc, zero, List, [], length, nat_lt, slice_index_or, unsigned_abs, if◌then◌else◌}
use Rattle.std.specs.Int.{w64, from_be_bytes}

-- a hash takes in a word: their sum times an odd number that spreads each bit over those above (Fibonacci hashing), kept to 64 bits
abbrev pub mix : ℕ → ℕ → ℕ
mix hash word = (hash + word) % 2 ^ 64 * 0x9e3779b97f4a7c15 % 2 ^ 64

-- the eight bytes from an index on as one number
abbrev pub eight_bytes_at : List ℕ → ℕ → ℕ
eight_bytes_at bytes i = from_be_bytes w64
    (slice_index_or bytes i 0 ∷ slice_index_or bytes (i + 1) 0 ∷ slice_index_or bytes (i + 2) 0 ∷ slice_index_or bytes (i + 3) 0
    ∷ slice_index_or bytes (i + 4) 0 ∷ slice_index_or bytes (i + 5) 0 ∷ slice_index_or bytes (i + 6) 0 ∷ slice_index_or bytes (i + 7) 0 ∷ [])

-- a hash that takes in so many bytes, one at a time
abbrev pub mix_bytes : ℕ → List ℕ → ℕ → ℕ
mix_bytes hash bytes zero = hash
mix_bytes hash bytes (suc n) = mix (mix_bytes hash bytes n) (slice_index_or bytes n 0)

-- a hash that takes in so many words of eight bytes
abbrev pub mix_words : ℕ → List ℕ → ℕ → ℕ
mix_words hash bytes zero = hash
mix_words hash bytes (suc n) = mix (mix_words hash bytes n) (eight_bytes_at bytes (8 * n))

-- a hash that takes in all bytes: by words, of which the last one ends with them, or where they are fewer than eight, one at a time
abbrev pub mix_all : ℕ → List ℕ → ℕ
mix_all hash bytes =
    if nat_lt (length bytes) 8 then mix_bytes hash bytes (length bytes)
    else mix (mix_words hash bytes ((length bytes - 1) / 8)) (eight_bytes_at bytes (length bytes - 8))

-- the hash of a row
unfoldable pub hash_of : ℤ × List ℕ → ℕ
hash_of r = mix_all (mix 0 (unsigned_abs r.0)) r.1
