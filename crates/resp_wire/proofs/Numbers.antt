-- A number that is read was encoded so, and an encoding is read as its number.
use Rattle.std.proofs.Common.{◌≡◌, ℕ, ◌+◌, ◌*◌, ◌-◌, ◌/◌, ◌%◌, ◌^◌, ◌<◌, ◌≤◌, true, false, cond, List, [], ◌∷◌, ◌++◌, Result, Ok, refl, sym, ap, ◌∙◌, inl, inr, append_assoc, arith}
use Rattle.std.specs.Prelude.{decimal, nat_lt, ◌==◌}
use Rattle.std.specs.Char.{is_ascii_digit}
use Rattle.std.proofs.lemmas.Bool.{eqb-false, ne_eqb, ltb-false, le-ltb, le-leb, leb-true, and_parts, and_from}
use Rattle.std.proofs.lemmas.Fmt.{decimal_digit, decimal_step, decimal_by_steps}
use Rattle.resp_wire.specs.declared.fault.ProtocolFault.{ProtocolFault}
use Rattle.resp_wire.specs.declared.fault.ProtocolFault.TheVariants.{BadNumber}
use Rattle.resp_wire.specs.declared.fault.Stop.{Stop}
use Rattle.resp_wire.specs.declared.fault.Stop.TheVariants.{Wrong}
use Rattle.resp_messages.specs.RequestEncoding.{line}
use Rattle.resp_wire.specs.Parser.{line_end_at, digits_at, number_at}
use Rattle.resp_wire.proofs.ParserLemmas.{bind_ok, ok_is, chosen, guard_ok, wanted_ok, line_end_takes, line_end_again}

pub digit_range : (b : ℕ) → is_ascii_digit b ≡ true → (48 ≤ b) × (b ≤ 57)
digit_range b e = let p = and_parts _ _ e in (leb-true _ _ p.0, leb-true _ _ p.1)

pub digit_is : (b : ℕ) → 48 ≤ b → b ≤ 57 → is_ascii_digit b ≡ true
digit_is b low high = and_from _ _ (le-leb _ _ low) (le-leb _ _ high)

-- one more digit
pub decimal_more : (n d : ℕ) → 0 < n → d < 10 → n < 2 ^ 32 → decimal (n * 10 + d) ≡ decimal n ++ (48 + d) ∷ []
decimal_more n d pos small big =
    let q : (n * 10 + d) / 10 ≡ n = omega arith in
    let r : (n * 10 + d) % 10 ≡ d = omega arith in
    decimal_step (n * 10 + d) (omega arith) (omega arith) ∙ (rw (q, r) refl)

pub digits_takes : (limit : ℕ) (over : ProtocolFault) (n : ℕ) (bytes : List ℕ) (m : ℕ) (rest : List ℕ) → limit < 2 ^ 32 → n ≤ limit → digits_at limit over n bytes ≡ Ok (m, rest) → (decimal n ++ bytes ≡ line m ++ rest) × (m ≤ limit)
unfolding digits_at
digits_takes limit over n [] m rest lim le e = absurd cc
digits_takes limit over n (b ∷ bytes) m rest lim le e =
    elim (chosen (is_ascii_digit b) _ _ (Ok (m, rest)) e) [
      | inl y ↦
          let g0 = guard_ok (n == 0) (Wrong BadNumber) _ (m, rest) y.1 in
          let g1 = guard_ok (nat_lt limit (n * 10 + (b - 48))) (Wrong over) _ (m, rest) g0.1 in
          let range = digit_range b y.0 in
          let pos : 0 < n = omega (arith, eqb-false n 0 g0.0) in
          let within : n * 10 + (b - 48) ≤ limit = ltb-false _ _ g1.0 in
          let later = digits_takes limit over (n * 10 + (b - 48)) bytes m rest lim within g1.1 in
          let d : 48 + (b - 48) ≡ b = omega arith in
          let more : decimal (n * 10 + (b - 48)) ≡ decimal n ++ (48 + (b - 48)) ∷ [] = decimal_more n (b - 48) pos (omega arith) (omega arith) in
          let more' : decimal (n * 10 + (b - 48)) ≡ decimal n ++ b ∷ [] = more ∙ ap (λ (k : ℕ). decimal n ++ k ∷ []) d in
          let regroup : (decimal n ++ b ∷ []) ++ bytes ≡ decimal n ++ b ∷ bytes = append_assoc (decimal n) (b ∷ []) bytes in
          (sym regroup ∙ ap (λ (t : List ℕ). t ++ bytes) (sym more') ∙ later.0, later.1)
      | inr z ↦
          let s = bind_ok (line_end_at BadNumber (b ∷ bytes)) (λ r. Ok (n, r)) (m, rest) z.1 in
          let ends = line_end_takes BadNumber (b ∷ bytes) s.0 s.1 in
          let same = ok_is (n, s.0) (m, rest) s.2 in
          let n-is : n ≡ m = ap (λ (p : ℕ × List ℕ). p.0) same in
          let joined : decimal n ++ b ∷ bytes ≡ decimal n ++ 13 ∷ 10 ∷ s.0 = ap (λ (t : List ℕ). decimal n ++ t) ends in
          let turned : decimal n ++ 13 ∷ 10 ∷ s.0 ≡ line m ++ rest = ap (λ (p : ℕ × List ℕ). decimal p.0 ++ 13 ∷ 10 ∷ p.1) same ∙ sym (append_assoc (decimal m) (13 ∷ 10 ∷ []) rest) in
          (joined ∙ turned, omega arith)
    ]

pub number_takes : (limit : ℕ) (over : ProtocolFault) (bytes : List ℕ) (m : ℕ) (rest : List ℕ) → limit < 2 ^ 32 → 9 ≤ limit → number_at limit over bytes ≡ Ok (m, rest) → (bytes ≡ line m ++ rest) × (m ≤ limit)
unfolding number_at
number_takes limit over [] m rest lim le e = absurd cc
number_takes limit over (b ∷ bytes) m rest lim le e =
    let w = wanted_ok (is_ascii_digit b) (Wrong BadNumber) _ (m, rest) e in
    let range = digit_range b w.0 in
    let t = digits_takes limit over (b - 48) bytes m rest lim (omega arith) w.1 in
    let d : 48 + (b - 48) ≡ b = omega arith in
    let one : decimal (b - 48) ≡ b ∷ [] = decimal_digit (b - 48) (omega arith) ∙ ap (λ (k : ℕ). k ∷ []) d in
    (ap (λ (t : List ℕ). t ++ bytes) (sym one) ∙ t.0, t.1)

pub digit_not : (b : ℕ) (x y : Result (ℕ × List ℕ) Stop) → is_ascii_digit b ≡ true → cond (is_ascii_digit b) x y ≡ x
digit_not b x y e = rw e refl

-- a digit at the end of those that are read
pub digits_step : (limit : ℕ) (over : ProtocolFault) (n d : ℕ) (more : List ℕ) → 0 < n → d < 10 → n * 10 + d ≤ limit → digits_at limit over n ((48 + d) ∷ more) ≡ digits_at limit over (n * 10 + d) more
unfolding digits_at
digits_step limit over n d more pos small le =
    let a : is_ascii_digit (48 + d) ≡ true = digit_is (48 + d) (omega arith) (omega arith) in
    let b : (n == 0) ≡ false = ne_eqb n 0 (λ e. absurd (omega arith)) in
    let s : (48 + d) - 48 ≡ d = omega arith in
    let c : nat_lt limit (n * 10 + d) ≡ false = le-ltb _ _ le in
    rw (a, b, s, c) refl

pub number_digits : (limit : ℕ) (over : ProtocolFault) → limit < 2 ^ 32 → (n : ℕ) → n < 2 ^ 64 → n ≤ limit → (more : List ℕ) → number_at limit over (decimal n ++ more) ≡ digits_at limit over n more
unfolding number_at
number_digits limit over lim n big =
    decimal_by_steps (λ m ds. m ≤ limit → (more : List ℕ) → number_at limit over (ds ++ more) ≡ digits_at limit over m more)
    (λ m small le more.
    let a : is_ascii_digit (48 + m) ≡ true = digit_is (48 + m) (omega arith) (omega arith) in
    let s : (48 + m) - 48 ≡ m = omega arith in
    rw (a, s) refl)
    (λ m ds ten ih le more.
    let q : (m / 10) * 10 + m % 10 ≡ m = omega arith in
    let step : digits_at limit over (m / 10) ((48 + m % 10) ∷ more) ≡ digits_at limit over ((m / 10) * 10 + m % 10) more = digits_step limit over (m / 10) (m % 10) more (omega arith) (omega arith) (omega arith) in
    ap (number_at limit over) (append_assoc ds ((48 + m % 10) ∷ []) more) ∙ ih (omega arith) ((48 + m % 10) ∷ more) ∙ step ∙ ap (λ (k : ℕ). digits_at limit over k more) q)
    n big

pub digits_end : (limit : ℕ) (over : ProtocolFault) (n : ℕ) (rest : List ℕ) → digits_at limit over n (13 ∷ 10 ∷ rest) ≡ Ok (n, rest)
unfolding digits_at
digits_end limit over n rest = rw (line_end_again BadNumber rest) refl

pub number_again : (limit : ℕ) (over : ProtocolFault) (n : ℕ) (rest : List ℕ) → limit < 2 ^ 32 → n ≤ limit → number_at limit over (line n ++ rest) ≡ Ok (n, rest)
number_again limit over n rest lim le =
    ap (number_at limit over) (append_assoc (decimal n) (13 ∷ 10 ∷ []) rest) ∙ number_digits limit over lim n (omega arith) le (13 ∷ 10 ∷ rest) ∙ digits_end limit over n rest
