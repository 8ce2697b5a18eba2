-- Marks in words of 64 bits.
use Rattle.std.proofs.Common.{◌≡◌, ◌-◌, ◌*◌, ◌/◌, ◌%◌, ◌^◌, ◌<◌, ◌≤◌, ◌==◌, inl, inr, ℕ, true, List, length, max, get_or, set, bit_or, sym, ◌∙◌, ap, arith, w64}
use Rattle.std.specs.Int.{bit_at}
use Rattle.std.proofs.lemmas.Bool.{eqb-true, eq-eqb, cases_eq}
use Rattle.std.proofs.lemmas.List.{get_or-set_same, get_or-set_other, get_or_past}
use Rattle.std.proofs.lemmas.Nat.Bits.{bit_at_set_same, bit_at_or, bit_at-lt, bit_at_ones}
use Rattle.std.proofs.Math.Nat.{mod-lt}
use Rattle.column_rows.specs.PendingBloom.{is_set}

below_64 : (m : ℕ) → m % 64 < 64
below_64 m = mod-lt m (omega arith)

-- the words after a mark was set
abbrev pub with_mark : List ℕ → ℕ → ℕ → List ℕ
with_mark words m word = set words (m / 64) (bit_or word (1 * 2 ^ (m % 64) % 2 ^ 64))

pub set_now : (words : List ℕ) (m word : ℕ) → m / 64 < length words → is_set (with_mark words m word) m ≡ true
set_now words m word within =
    let new = bit_or word (1 * 2 ^ (m % 64) % 2 ^ 64) in
    let here : get_or (with_mark words m word) (m / 64) (2 ^ 64 - 1) ≡ new = get_or-set_same words (m / 64) new (2 ^ 64 - 1) within in
    eq-eqb _ 1 (ap (λ x. bit_at x (m % 64)) here ∙ bit_at_set_same w64 word (m % 64) (below_64 m))

pub set_before : (words : List ℕ) (m word j : ℕ) → m / 64 < length words → word ≡ get_or words (m / 64) (2 ^ 64 - 1) → is_set words j ≡ true → is_set (with_mark words m word) j ≡ true
set_before words m word j within is was =
    let new = bit_or word (1 * 2 ^ (m % 64) % 2 ^ 64) in
    elim (cases_eq (j / 64) (m / 64)) [
      | inl same ↦
          let here : get_or (with_mark words m word) (j / 64) (2 ^ 64 - 1) ≡ new = ap (λ i. get_or (with_mark words m word) i (2 ^ 64 - 1)) same ∙ get_or-set_same words (m / 64) new (2 ^ 64 - 1) within in
          let old : get_or words (j / 64) (2 ^ 64 - 1) ≡ word = ap (λ i. get_or words i (2 ^ 64 - 1)) same ∙ sym is in
          let one : bit_at word (j % 64) ≡ 1 = ap (λ x. bit_at x (j % 64)) (sym old) ∙ eqb-true _ 1 was in
          let or : bit_at new (j % 64) ≡ max (bit_at word (j % 64)) (bit_at (1 * 2 ^ (m % 64) % 2 ^ 64) (j % 64)) = bit_at_or word (1 * 2 ^ (m % 64) % 2 ^ 64) (j % 64) in
          let few = bit_at-lt (1 * 2 ^ (m % 64) % 2 ^ 64) (j % 64) in
          eq-eqb _ 1 (ap (λ x. bit_at x (j % 64)) here ∙ omega (arith, one, or, few))
      | inr apart ↦
          let here : get_or (with_mark words m word) (j / 64) (2 ^ 64 - 1) ≡ get_or words (j / 64) (2 ^ 64 - 1) = get_or-set_other words (m / 64) (j / 64) new (2 ^ 64 - 1) apart in
          ap (λ x. bit_at x (j % 64) == 1) here ∙ was
    ]

-- a mark that no word has
pub set_past : (words : List ℕ) (m : ℕ) → length words ≤ m / 64 → is_set words m ≡ true
set_past words m past = eq-eqb _ 1 (ap (λ x. bit_at x (m % 64)) (get_or_past words (m / 64) (2 ^ 64 - 1) past) ∙ bit_at_ones 64 (m % 64) (below_64 m))
