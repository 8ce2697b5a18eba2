-- Sets of members that do not differ are equal, since each has a code.
use Rattle.std.proofs.Common.{◌≡◌, ℕ, zero, suc, refl, sym, ap, ◌∙◌, arith, true, false, ◌⊎◌, inl, inr}
use Rattle.std.specs.Prelude.{◌≢◌}
use base.Stored.{Gv, gnil, gnum, gcons, num, Coded}
use Rattle.zset_core.specs.SortedSet.{Members}
use Rattle.sorted_sets.specs.SetAndOwnerViews.{coded_members}
use Rattle.sorted_sets.specs.ChangeCounts.{IsOutline}
use Rattle.sorted_sets.specs.declared.set.change_counts.Outline.{Outline}

numbers : (m n : ℕ) → (m ≡ n) ⊎ (m ≡ n → ⊥)
numbers zero zero = inl refl
numbers zero (suc n) = inr (λ e. omega (arith, e))
numbers (suc m) zero = inr (λ e. omega (arith, e))
numbers (suc m) (suc n) = elim (numbers m n) [ inl e ↦ inl (ap suc e) | inr ne ↦ inr (λ e. ne (omega (arith, e))) ]

left_of : Gv → Gv
left_of gnil = gnil
left_of (gnum n) = gnil
left_of (gcons a b) = a

right_of : Gv → Gv
right_of gnil = gnil
right_of (gnum n) = gnil
right_of (gcons a b) = b

codes : (a b : Gv) → (a ≡ b) ⊎ (a ≡ b → ⊥)
unfolding left_of right_of
codes gnil gnil = inl refl
codes gnil (gnum n) = inr (λ e. cc)
codes gnil (gcons c d) = inr (λ e. cc)
codes (gnum m) gnil = inr (λ e. cc)
codes (gnum m) (gnum n) = elim (numbers m n) [ inl e ↦ inl (ap gnum e) | inr ne ↦ inr (λ e. ne (ap num e)) ]
codes (gnum m) (gcons c d) = inr (λ e. cc)
codes (gcons a b) gnil = inr (λ e. cc)
codes (gcons a b) (gnum n) = inr (λ e. cc)
codes (gcons a b) (gcons c d) =
    elim (codes a c) [
      | inl p ↦ elim (codes b d) [
        | inl q ↦ inl (ap (λ x. gcons x b) p ∙ ap (gcons c) q)
        | inr nq ↦ inr (λ e. nq (ap right_of e))
      ]
      | inr np ↦ inr (λ e. np (ap left_of e))
    ]

-- what is not different is equal
not_different : {X : Type 0} → Coded X → (x y : X) → (x ≢ y → ⊥) → x ≡ y
not_different coded x y h = elim (codes (coded.code x) (coded.code y)) [ inl e ↦ coded.inj x y e | inr ne ↦ absurd (h (λ e. ne (ap coded.code e))) ]

-- an outline that tells no change
pub unchanged : (outline : Outline) (old new : Members) → IsOutline outline old new → outline.changed ≡ false → new ≡ old
unchanged outline old new o is = not_different coded_members new old (λ ne. let told : outline.changed ≡ true = o.changed.1 ne in let no_way : true ≡ false = sym told ∙ is in cc)
