-- Marks that cover some places.
use Rattle.std.proofs.Common.{◌≡◌, ◌≢◌, ◌≤◌, ◌<◌, ◌%◌, ◌++◌, ◌∷◌, [], ◌∙◌, ◌||◌, ℕ, Bool, true, false, List, length, get_or, set, nat_eq, refl, sym, ap, arith, true≢false}
use Rattle.std.specs.List.{list_any}
use Rattle.std.proofs.lemmas.Bool.Decides.{nat_tests}
use Rattle.std.proofs.lemmas.List.{get_or-set_same, get_or-set_other, length-set}
use Rattle.std.proofs.Math.Nat.{mod-lt}
use Rattle.sorted_sets.specs.PlaceMarks.{is_place_marked, AreMarked}

-- a mark that is set beside others
module _ (marks : List Bool) (place : ℕ) (some : 1 ≤ length marks) where
  abbrev at : ℕ
  at = place % length marks

  within : at < length marks
  within = mod-lt place some

  abbrev pub after : List Bool
  after = set marks at true

  same : (p : ℕ) → p % length after ≡ p % length marks
  same p = ap (λ (n : ℕ). p % n) (length-set marks at true)

  marked_now : is_place_marked after place ≡ true
  marked_now = ap (λ (i : ℕ). get_or after i false) (same place) ∙ get_or-set_same marks at true false within

  marked_still : (p : ℕ) → is_place_marked marks p ≡ true → is_place_marked after p ≡ true
  marked_still p was = ap (λ (i : ℕ). get_or after i false) (same p) ∙ by (nat_eq (p % length marks) at) refl
    where
      by : (b : Bool) → nat_eq (p % length marks) at ≡ b → get_or after (p % length marks) false ≡ true
      by true is =
          let here : p % length marks ≡ at = grind (arith, nat_tests) in
          ap (λ (i : ℕ). get_or after i false) here ∙ get_or-set_same marks at true false within
      by false is =
          let other : p % length marks ≢ at = λ e. true≢false (sym (both (p % length marks) at e) ∙ is) in
          get_or-set_other marks at (p % length marks) true false other ∙ was
        where
          both : (i j : ℕ) → i ≡ j → nat_eq i j ≡ true
          both i j e = grind (arith, nat_tests)

  pub marked_more : (places : List ℕ) → AreMarked marks places → AreMarked after (places ++ place ∷ [])
  marked_more [] are = (marked_now, tt)
  marked_more (p ∷ ps) are = (marked_still p are.0, marked_more ps are.1)

-- a place without a mark is none of those that are marked
pub not_there : (marks : List Bool) (places : List ℕ) (place : ℕ) → AreMarked marks places → is_place_marked marks place ≡ false → list_any (λ p. nat_eq p place) places ≡ false
not_there marks [] place are off = refl
not_there marks (p ∷ ps) place are off = ap (λ (b : Bool). b || list_any (λ q. nat_eq q place) ps) apart ∙ not_there marks ps place are.1 off
  where
    by : (b : Bool) → nat_eq p place ≡ b → b ≡ false
    by false is = refl
    by true is =
        let here : p ≡ place = grind (arith, nat_tests) in
        absurd (true≢false (sym are.0 ∙ ap (is_place_marked marks) here ∙ off))

    apart : nat_eq p place ≡ false
    apart = by (nat_eq p place) refl
