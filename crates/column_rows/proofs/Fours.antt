-- Four elements of a list that are looked at together.
use Rattle.std.proofs.Common.{◌≡◌, ◌+◌, ◌-◌, ◌<◌, ℕ, zero, suc, Bool, true, false, ◌||◌, List, get_or, subst, refl, arith}
use Rattle.std.specs.List.{AllWithin}

pub none_of_four : (a b c d : Bool) → (((a || b) || c) || d) ≡ false → (a ≡ false) × (b ≡ false) × (c ≡ false) × (d ≡ false)
none_of_four false false false false h = (refl, refl, refl, refl)
none_of_four true b c d h = cc
none_of_four false true c d h = cc
none_of_four false false true d h = cc
none_of_four false false false true h = cc

pub within_four : {X : Type 0} (P : X → Type 0) (xs : List X) (from : ℕ)
    → ((d : X) → P (get_or xs from d)) → ((d : X) → P (get_or xs (from + 1) d)) → ((d : X) → P (get_or xs (from + 2) d)) → ((d : X) → P (get_or xs (from + 3) d))
    → AllWithin P xs from (from + 4)
within_four {X} P xs from first second third fourth k d low high = by (k - from) (omega arith) (omega arith)
  where
    at : (i : ℕ) → i ≡ k → ((e : X) → P (get_or xs i e)) → P (get_or xs k d)
    at i is holds = subst (λ j. P (get_or xs j d)) is (holds d)

    by : (n : ℕ) → k ≡ from + n → n < 4 → P (get_or xs k d)
    by zero is less = at from (omega (arith, is)) first
    by (suc zero) is less = at (from + 1) (omega (arith, is)) second
    by (suc (suc zero)) is less = at (from + 2) (omega (arith, is)) third
    by (suc (suc (suc zero))) is less = at (from + 3) (omega (arith, is)) fourth
    by (suc (suc (suc (suc n)))) is less = absurd (omega (arith, less))
