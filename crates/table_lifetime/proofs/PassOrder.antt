-- Passes in the order of their numbers.
use Rattle.std.proofs.Common.{◌≡◌, ℕ, ◌+◌, ◌<◌, ◌∙◌, List, length, sym, ap, subst, refl, inl, inr, arith}
use Rattle.std.proofs.lemmas.Bool.{cases_eq}
use Rattle.std.proofs.lemmas.List.{get_or_default}
use Rattle.std.specs.List.{Contains, swap}
use Rattle.std.specs.List.Sorted.{IsPermutation}
use Rattle.std.proofs.lemmas.List.Sorted.{Contains-permutation, length_permutation, IsPermutation-trans, IsPermutation-swap, IsPermutation-sym}
use Rattle.set_table.specs.TableAndPassViews.{PassView, TableView, IsPassOf}
use Rattle.table_lifetime.specs.ClosingAudit.{AreNumbered, pass_at, share_at, no_pass}
use Rattle.table_lifetime.specs.ClosingSteps.{InOrder, HaveShares}

-- a pass of one list stands in the other
pub stands_in : (ps qs : List PassView) (i : ℕ) → IsPermutation ps qs → i < length ps → (j : ℕ) × (j < length qs) × (pass_at qs j ≡ pass_at ps i)
stands_in ps qs i same less =
    let x = pass_at ps i in
    let c : Contains qs x = Contains-permutation ps qs x same (i, less, get_or_default ps i x no_pass less) in
    (c.0, c.1, get_or_default qs c.0 no_pass x c.1 ∙ c.2)

pub one_more_in_order : (old now new : List PassView) (k at : ℕ) → IsPermutation old now → k < length now → at < length now → (pass_at now at).number ≡ k
    → ((j : ℕ) → j < k → (pass_at now j).number ≡ j)
    → new ≡ swap now k at
    → pass_at new k ≡ pass_at now at → ((j : ℕ) → (j ≡ k → ⊥) → (j ≡ at → ⊥) → pass_at new j ≡ pass_at now j)
    → IsPermutation old new × ((j : ℕ) → j < k + 1 → (pass_at new j).number ≡ j)
one_more_in_order old now new k at same less less' found order is here others =
    let late : (j : ℕ) → j < k → j ≡ at → ⊥ = λ j below e. let a = order j below in let b = ap (λ i. (pass_at now i).number) e in absurd (omega (arith, a, b, found)) in (
      IsPermutation-trans old now new same (IsPermutation-swap now new k at less less' is),
      λ j below. elim (cases_eq j k) [
        | inl e ↦ ap (λ i. (pass_at new i).number) e ∙ ap (λ p. p.number) here ∙ found ∙ sym e
        | inr n ↦ let below' : j < k = omega (arith, n) in ap (λ p. p.number) (others j n (late j below')) ∙ order j below'
      ],
    )

pub not_numbered : (old now : List PassView) (k : ℕ) → IsPermutation old now → k < length old → ((i : ℕ) → i < length now → (pass_at now i).number ≡ k → ⊥) → AreNumbered old (length old) → ⊥
not_numbered old now k same less none h =
    let i = h.each k less in
    let j = stands_in old now i.0 same i.1 in
    none j.0 j.1 (ap (λ p. p.number) j.2 ∙ i.2)

pub are_numbered : (old now : List PassView) → IsPermutation old now → ((j : ℕ) → j < length old → (pass_at now j).number ≡ j) → AreNumbered old (length old)
are_numbered old now same order = record {
  as_many = refl;
  each = λ k less.
      let j = stands_in now old k (IsPermutation-sym old now same) (omega (arith, length_permutation old now same)) in
      (j.0, j.1, ap (λ p. p.number) j.2 ∙ order k less);
}

-- passes of one table in the order of their numbers have shares of each of its places
pub have_shares : (t : TableView) (old now : List PassView) → IsPermutation old now
    → ((i : ℕ) → i < length old → IsPassOf t (pass_at old i)) → InOrder now (length now) → HaveShares now (length t.opened)
have_shares t old now same own order i place less less' =
    let j = stands_in now old i (IsPermutation-sym old now same) less in
    let h = own j.0 j.1 in
    let P : PassView → Type 0 = λ p. (place < length p.shares) × ((share_at p place).pass ≡ i) in
    subst P j.2 (omega (arith, h.shares.places), (h.shares.each place less').pass_is ∙ ap (λ p. p.number) j.2 ∙ order i less)
