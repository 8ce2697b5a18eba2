-- What workers hand back.
use Rattle.std.specs.Prelude.{◌≡◌, ℕ, ◌+◌, List, [], ◌∷◌, ◌++◌, Vec, vec_len}

-- the numbers of all lists
abbrev pub all_of : {A : Type 0} → List (Vec ℕ A) → List ℕ
all_of [] = []
all_of (v ∷ vs) = v.items ++ all_of vs

-- each handler that comes back kept what it was handed in with, and handled as many as its list is long
abbrev pub HandlersServed : {H A : Type 0} → (H → H → Type 0) → (H → ℕ) → List H → List H → List (Vec ℕ A) → Type 0
HandlersServed keeps handled (a ∷ as') (b ∷ bs) (v ∷ vs) = (keeps a b) × (handled b ≡ handled a + vec_len v) × HandlersServed keeps handled as' bs vs
HandlersServed keeps handled [] [] [] = Unit {0}
HandlersServed keeps handled xs ys zs = ⊥
