-- Values at places.
use Rattle.std.specs.Prelude.{◌≡◌, ℕ, ◌⊎◌, List, [], ◌∷◌, ◌++◌, Option, Some, None, slice_set, slice_get}

module _ {V : Type 0} where
  -- the value stands at the place
  abbrev pub ValueIsAt : List (Option V) → ℕ → V → Type 0
  ValueIsAt slots place value = slice_get slots place ≡ Some (Some value)

  -- the same values, at the same places, and a place more or none
  abbrev pub IsGrown : List (Option V) → List (Option V) → Type 0
  IsGrown old new = (new ≡ old) ⊎ (new ≡ old ++ None ∷ [])

  -- the value was put at a place that had none
  pub record IsPut (value : V) (old new : List (Option V)) : Type 0 where
    pub place : ℕ
    pub was_free : slice_get old place ≡ Some None
    pub put : new ≡ slice_set old place (Some value)

  -- the value was put, or else nothing was
  abbrev pub MayPut : V → List (Option V) → List (Option V) → Type 0
  MayPut value old new = IsPut value old new ⊎ (new ≡ old)

  -- each value that stands at a place stood there before, as another one maybe
  abbrev pub EachWas : (V → V → Type 0) → List (Option V) → List (Option V) → Type 0
  EachWas became old new = (place : ℕ) (value : V) → ValueIsAt new place value → (before : V) × ValueIsAt old place before × became before value

  -- each value that stands at a place is such a one
  abbrev pub Each : (V → Type 0) → List (Option V) → Type 0
  Each is slots = (place : ℕ) (value : V) → ValueIsAt slots place value → is value
