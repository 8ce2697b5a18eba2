-- Entries up to a place, and what callers see of a set by them.
use Rattle.std.proofs.Common.{◌≡◌, ℕ, ◌+◌, ◌<◌, ◌≤◌, ℤ, Bool, true, false, cond, nat_lt, List, [], ◌∷◌, length, take, Option, None, Some, option_map, refl, sym, ap, ◌∙◌, arith, position, zero, suc, subst, length-take-le}
use Rattle.std.proofs.Math.Seq.{take-length}
use Rattle.std.specs.List.{position_or_len, IsDistinct}
use Rattle.std.specs.Map.{lookup, keys_of}
use Rattle.std.specs.Str.{bytes_eq}
use Rattle.std.specs.FinMap as fin
use Rattle.std.proofs.lemmas.Bool.Decides.{nat_tests}
use Rattle.indexmap.proofs.MapLemmas.{distinct-take, Found-position}
use Rattle.ripple_column.specs.Content.{ColumnState}
use Rattle.sorted_sets.specs.SetAndOwnerViews.{SetView}
use Rattle.sorted_sets.specs.MembersWithStagedScores.{Entry, current_score, members_by, slot_at, same_bytes}
use Rattle.sorted_sets.specs.Plan.{kept_by}
use Rattle.sorted_sets.specs.SetViewAndInvariant.{view_of, IsSoundSet, kept_of}
use Rattle.sorted_sets.specs.declared.set.Prepared.{Prepared}
use Rattle.sorted_sets.specs.declared.set.members_with_staged_scores.ScoreSlot.{ScoreSlot}
use Rattle.sorted_sets.proofs.Bridge.{same_equiv, get_members, len_members}
use Rattle.sorted_sets.proofs.Staging.{rows_take}

nothing : {X : Type 0} (b : Bool) → ◌≡◌ {A = Option X} None (cond b None None)
nothing true = refl
nothing false = refl

less_more : (p n : ℕ) → nat_lt p n ≡ nat_lt (1 + p) (suc n)
less_more p n = grind (arith, nat_tests)

ltb_of : (i n : ℕ) → i < n → nat_lt i n ≡ true
ltb_of i n h = grind (arith, nat_tests)

not_ltb : (i n : ℕ) → n ≤ i → nat_lt i n ≡ false
not_ltb i n h = grind (arith, nat_tests)

pub length_take : {X : Type 0} (n : ℕ) (xs : List X) → n ≤ length xs → length (take n xs) ≡ n
length_take n xs h = search (arith, length-take-le)

none_below_zero : {X : Type 0} (j : ℕ) (r : Option X) → None ≡ cond (nat_lt j 0) r None
none_below_zero j r = ap (λ b. cond b r None) (sym (not_ltb j 0 (omega arith)))

module _ {K X : Type 0} (test : K → Bool) where
  pub lookup_take : (es : List (K × X)) (n : ℕ) → lookup test (take n es) ≡ cond (nat_lt (position_or_len test (keys_of es)) n) (lookup test es) None
  lookup_take [] zero = nothing (nat_lt (position_or_len test (keys_of {K = K} {X = X} [])) 0)
  lookup_take [] (suc n) = nothing (nat_lt (position_or_len test (keys_of {K = K} {X = X} [])) (suc n))
  lookup_take (e ∷ es) zero = none_below_zero (position_or_len test (keys_of (e ∷ es))) (lookup test (e ∷ es))
  lookup_take (e ∷ es) (suc n) = by (test e.0) refl (lookup_take es n)
    where
      by : (b : Bool) → test e.0 ≡ b → lookup test (take n es) ≡ cond (nat_lt (position_or_len test (keys_of es)) n) (lookup test es) None → lookup test (take (suc n) (e ∷ es)) ≡ cond (nat_lt (position_or_len test (keys_of (e ∷ es))) (suc n)) (lookup test (e ∷ es)) None
      by true h rest = rw h (ap (λ b. cond b (Some e.1) None) (sym (ltb_of 0 (suc n) (omega arith))))
      by false h rest = rw h (rest ∙ ap (λ b. cond b (lookup test es) None) (less_more (position_or_len test (keys_of es)) n))

  -- where the test first passes, before n
  pub lookup_before : (es : List (K × X)) (n i : ℕ) (r : Option X) → position test (keys_of es) ≡ Some i → lookup test es ≡ r → i < n → lookup test (take n es) ≡ r
  lookup_before es n i r at is lt = lookup_take es n ∙ ap (λ j. cond (nat_lt j n) (lookup test es) None) (Found-position test es i at).or_len ∙ ap (λ b. cond b (lookup test es) None) (ltb_of i n lt) ∙ is

  -- or not before n
  pub lookup_past : (es : List (K × X)) (n i : ℕ) → position test (keys_of es) ≡ Some i → n ≤ i → lookup test (take n es) ≡ None
  lookup_past es n i at le = lookup_take es n ∙ ap (λ j. cond (nat_lt j n) (lookup test es) None) (Found-position test es i at).or_len ∙ ap (λ b. cond b (lookup test es) None) (not_ltb i n le)

  -- or nowhere
  pub lookup_nowhere : (es : List (K × X)) (n : ℕ) → lookup test es ≡ None → lookup test (take n es) ≡ None
  lookup_nowhere es n absent = lookup_take es n ∙ ap (λ r. cond (nat_lt (position_or_len test (keys_of es)) n) r None) absent ∙ sym (nothing (nat_lt (position_or_len test (keys_of es)) n))

pub keys_of-take : {K X : Type 0} (n : ℕ) (es : List (K × X)) → keys_of (take n es) ≡ take n (keys_of es)
keys_of-take zero es = refl
keys_of-take (suc n) [] = refl
keys_of-take (suc n) (e ∷ es) = ap (λ ks. e.0 ∷ ks) (keys_of-take n es)

module _ {A : Type 0} where
  pub members_kept : (es : List Entry) (c : ColumnState) (p : Option (Prepared A)) (v : SetView) → view_of es c p ≡ v → v.members ≡ members_by current_score (take (kept_of es p) es)
  members_kept es c None v is = sym (ap (λ w. w.members) is) ∙ ap (λ (l : List Entry). members_by current_score l) (sym (take-length es))
  members_kept es c (Some q) v is = sym (ap (λ w. w.members) is) ∙ ap (λ (rows : List (List ℕ × ℤ)). fin.from_entries rows) (sym (rows_take current_score (kept_by es q.plan) es))

  pub kept_within : (es : List Entry) (p : Option (Prepared A)) (c : ColumnState) → IsSoundSet es c p → kept_of es p ≤ length es
  kept_within es None c s = omega arith
  kept_within es (Some q) c s = s.kept

  pub len_kept : (es : List Entry) (c : ColumnState) (p : Option (Prepared A)) (v : SetView) → view_of es c p ≡ v → IsSoundSet es c p → IsDistinct same_bytes (keys_of es) → kept_of es p ≡ fin.len v.members
  len_kept es c p v is sound apart =
      let apart_front : IsDistinct same_bytes (keys_of (take (kept_of es p) es)) = subst (IsDistinct same_bytes) (sym (keys_of-take (kept_of es p) es)) (distinct-take same_equiv (kept_of es p) (keys_of es) apart) in
      sym (ap fin.len (members_kept es c p v is) ∙ len_members current_score (take (kept_of es p) es) apart_front ∙ length_take (kept_of es p) es (kept_within es p c sound))

  pub score_kept : (es : List Entry) (c : ColumnState) (p : Option (Prepared A)) (v : SetView) (q : List ℕ) (n : ℕ) → view_of es c p ≡ v → n ≡ kept_of es p → option_map current_score (slot_at (take n es) q) ≡ fin.get v.members q
  score_kept es c p v q n is at = sym (get_members current_score (take n es) q) ∙ ap (λ k. fin.get (members_by current_score (take k es)) q) at ∙ sym (ap (λ m. fin.get m q) (members_kept es c p v is))

pub slot_nowhere : (es : List Entry) (q : List ℕ) (n : ℕ) → slot_at es q ≡ None → slot_at (take n es) q ≡ None
slot_nowhere es q n absent = lookup_nowhere (λ k. bytes_eq q k) es n absent

pub slot_early : (es : List Entry) (q : List ℕ) (n i : ℕ) (s : ScoreSlot) → position (λ k. bytes_eq q k) (keys_of es) ≡ Some i → slot_at es q ≡ Some s → i < n → slot_at (take n es) q ≡ Some s
slot_early es q n i s at is lt = lookup_before (λ k. bytes_eq q k) es n i (Some s) at is lt

pub slot_late : (es : List Entry) (q : List ℕ) (n i : ℕ) → position (λ k. bytes_eq q k) (keys_of es) ≡ Some i → n ≤ i → slot_at (take n es) q ≡ None
slot_late es q n i at le = lookup_past (λ k. bytes_eq q k) es n i at le
