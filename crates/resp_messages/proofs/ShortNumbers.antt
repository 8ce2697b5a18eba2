-- Numbers of two to four digits in decimal.
use Rattle.std.proofs.Common.{◌≡◌, ◌∙◌, ◌<◌, ◌≤◌, ◌+◌, ◌/◌, ◌%◌, ◌∷◌, ◌++◌, [], ℕ, map, ap, arith}
use Rattle.std.specs.Fmt.{decimal}
use Rattle.std.specs.Int.Digits.{digits_of}
use Rattle.std.proofs.lemmas.Fmt.{decimal-digits_of}
use Rattle.std.proofs.lemmas.Int.Digits.{digits_of_step}

-- their digits, from the first one on
digits_by_two : (n : ℕ) → 10 ≤ n → n < 100 → digits_of 10 n ≡ n / 10 ∷ n % 10 ∷ []
digits_by_two n ten hundred =
    let last : n / 10 % 10 ≡ n / 10 = omega arith in
    let none : n / 10 / 10 ≡ 0 = omega arith in
    let front : digits_of 10 (n / 10) ≡ n / 10 ∷ [] = digits_of_step 10 (n / 10) (omega arith) (omega arith) ∙ (λ i. digits_of 10 (none i) ++ (last i ∷ [])) in
    digits_of_step 10 n (omega arith) (omega arith) ∙ ap (λ ds. ds ++ (n % 10 ∷ [])) front

digits_by_three : (n : ℕ) → 100 ≤ n → n < 1000 → digits_of 10 n ≡ n / 100 ∷ n / 10 % 10 ∷ n % 10 ∷ []
digits_by_three n hundred thousand =
    let first : n / 10 / 10 ≡ n / 100 = omega arith in
    let front : digits_of 10 (n / 10) ≡ n / 100 ∷ n / 10 % 10 ∷ [] = digits_by_two (n / 10) (omega arith) (omega arith) ∙ ap (λ d. d ∷ n / 10 % 10 ∷ []) first in
    digits_of_step 10 n (omega arith) (omega arith) ∙ ap (λ ds. ds ++ (n % 10 ∷ [])) front

digits_by_four : (n : ℕ) → 1000 ≤ n → n < 10000 → digits_of 10 n ≡ n / 1000 ∷ n / 100 % 10 ∷ n / 10 % 10 ∷ n % 10 ∷ []
digits_by_four n thousand ten_thousand =
    let first : n / 10 / 100 ≡ n / 1000 = omega arith in
    let second : n / 10 / 10 % 10 ≡ n / 100 % 10 = omega arith in
    let front : digits_of 10 (n / 10) ≡ n / 1000 ∷ n / 100 % 10 ∷ n / 10 % 10 ∷ [] = digits_by_three (n / 10) (omega arith) (omega arith) ∙ (λ i. first i ∷ second i ∷ n / 10 % 10 ∷ []) in
    digits_of_step 10 n (omega arith) (omega arith) ∙ ap (λ ds. ds ++ (n % 10 ∷ [])) front

pub two_digits : (n : ℕ) → 10 ≤ n → n < 100 → decimal n ≡ (48 + n / 10) ∷ (48 + n % 10) ∷ []
two_digits n ten hundred = decimal-digits_of n (omega arith) (omega arith) ∙ ap (map (λ d. 48 + d)) (digits_by_two n ten hundred)

pub three_digits : (n : ℕ) → 100 ≤ n → n < 1000 → decimal n ≡ (48 + n / 100) ∷ (48 + n / 10 % 10) ∷ (48 + n % 10) ∷ []
three_digits n hundred thousand = decimal-digits_of n (omega arith) (omega arith) ∙ ap (map (λ d. 48 + d)) (digits_by_three n hundred thousand)

pub four_digits : (n : ℕ) → 1000 ≤ n → n < 10000 → decimal n ≡ (48 + n / 1000) ∷ (48 + n / 100 % 10) ∷ (48 + n / 10 % 10) ∷ (48 + n % 10) ∷ []
four_digits n thousand ten_thousand = decimal-digits_of n (omega arith) (omega arith) ∙ ap (map (λ d. 48 + d)) (digits_by_four n thousand ten_thousand)

pub ruleset short_numbers = (two_digits, three_digits, four_digits)
