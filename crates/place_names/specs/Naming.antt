-- The places' names: which are known, and which place is a key's.
use Rattle.std.specs.Prelude.{◌≡◌, ◌≢◌, ℕ, ◌+◌, ◌*◌, ◌%◌, ◌^◌, ◌<◌, List, [], ◌∷◌, length}
use Rattle.std.proofs.Math.ListN.{get_or}
use Rattle.std.specs.declared.option.Option.{Option}
use Rattle.std.specs.declared.option.Option.TheVariants.{None, Some}

-- for each place the name that is known there; a place bears one name for good, once it has one
abbrev pub Naming : Type 0
Naming = List (Option (List ℕ))

-- a key's hash, over its bytes from h on
abbrev pub hash_from : ℕ → List ℕ → ℕ
hash_from h [] = h
hash_from h (b ∷ bs) = hash_from ((31 * h + b) % 2 ^ 32) bs

-- the place of a key's walk over n places after so many steps
abbrev pub walk : ℕ → List ℕ → ℕ → ℕ
walk n key step = (hash_from 7 key % n + step) % n

abbrev pub name_at_place : Naming → ℕ → Option (List ℕ)
name_at_place names place = get_or names place None

-- the place is known to bear another name than the key
abbrev pub BearsOther : Naming → List ℕ → ℕ → Type 0
BearsOther names key place = (name : List ℕ) × (name_at_place names place ≡ Some name) × (name ≢ key)

-- the place bears the key's name, and every place before it on the key's walk another
pub record IsPlace (names : Naming) (key : List ℕ) (place : ℕ) : Type 0 where
  pub step : ℕ
  pub within : step < length names
  pub is : walk (length names) key step ≡ place
  pub own : name_at_place names place ≡ Some key
  pub before : (earlier : ℕ) → earlier < step → BearsOther names key (walk (length names) key earlier)

-- all that was known is known
pub record NamingGrows (old new : Naming) : Type 0 where
  pub places : length new ≡ length old
  pub same : (place : ℕ) (name : List ℕ) → name_at_place old place ≡ Some name → name_at_place new place ≡ Some name

-- every place is known to bear another name
abbrev pub IsFull : Naming → List ℕ → Type 0
IsFull names key = (place : ℕ) → place < length names → BearsOther names key place

-- a name was found at a place, and nothing was forgotten
pub record Learns (old new : Naming) (place : ℕ) (name : List ℕ) : Type 0 where
  pub grows : NamingGrows old new
  pub here : name_at_place new place ≡ Some name

-- what contracts see of a pass's notes: of which places' names they are, and which of these are known
pub record NotesView : Type 0 where
  pub names : List ℕ
  pub known : Naming

-- the notes are of these places' names
pub record AreNotesOf (names : List ℕ) (notes : NotesView) : Type 0 where
  pub names_are : notes.names ≡ names
  pub places : length notes.known ≡ length names
