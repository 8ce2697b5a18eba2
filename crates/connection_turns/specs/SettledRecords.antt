-- How many records are known to be settled.
use Rattle.std.specs.Prelude.{◌≡◌, ℕ, ◌≤◌, ◌⊎◌}

-- so many are settled as before, or more, as a settler told
pub record RisesBy (settles : ℕ → Type 0) (old new : ℕ) : Type 0 where
  pub rises : old ≤ new
  pub told : (new ≡ old) ⊎ settles new
