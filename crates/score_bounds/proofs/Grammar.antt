-- Reading a text against its grammar.
use Rattle.std.proofs.Common.{◌≡◌, ◌≢◌, ℕ, zero, suc, lit<, ◌^◌, ◌+◌, ◌<◌, Bool, true, false, not, ◌||◌, cond, List, [], ◌∷◌, ◌++◌, length, drop, get_or, refl, sym, ap, subst, ◌∙◌, inl, inr, Option, Some, None, ℤ, pos, negsuc, arith, codes, length-append}
use Rattle.std.specs.Prelude.{neg_ℤ}
use lib.Dec.{eqb}
use Rattle.std.specs.List.{list_any, position_or_len, before_first, after_first}
use Rattle.std.specs.Str.Parse.{IsNumeral, digits_value, signed_digits_value, without_leading_sign}
use Rattle.std.specs.Int.{IsInRange}
use Rattle.std.proofs.lemmas.Bool.{cases_lt, and_parts, eqb-true, ne_eqb, false_from_ne_true, both_ways, cond-true}
use Rattle.std.proofs.lemmas.List.{get_or_append_left, take_all, append-nil}
use Rattle.std.proofs.Math.Seq.{get_or-append_seam, drop-append-add, take-append_seam}
use Rattle.std.proofs.lemmas.Fmt.{decimal_digit, decimal_is_IsNumeral, first_decimal}
use Rattle.std.specs.Fmt.{decimal}
use Rattle.std.proofs.lemmas.List.Folds.{Any-from_list_any, list_any_at}
use Rattle.std.proofs.lemmas.List.Sums.{position_or_len_is, fails_before_first, passes_at_first, split_at_first}
use Rattle.std.proofs.lemmas.Str.Parse.{digit_at}
use Rattle.memchr.specs.Find.{IsFirstByte, is_byte}
use Rattle.score_bounds.specs.ScoreTexts.{is_point, is_zeros, integer_value, score_value, score_text, IsScore, IsSign, IsFraction, SpellsInteger, SpellsScore, IsPlain, HasNoLeadingZero}
use Rattle.score_bounds.proofs.Numerals.{is_numeral-Decides, is_score-Decides, integer_value-some}
use Rattle.score_bounds.proofs.Points.{score_value-no_point, score_value-point}

-- a byte that is no digit is nowhere in a numeral
absent : (digits : List ℕ) (byte : ℕ) → IsNumeral 10 digits → (IsInRange 48 57 byte → ⊥) → (k : ℕ) → k < length digits → get_or digits k 0 ≢ byte
absent digits byte numeral other k below same = other (subst (IsInRange 48 57) same (digit_at digits k numeral.1 below))

no_sign : (byte : ℕ) (digits : List ℕ) → byte < 48 → IsNumeral 10 digits → eqb (get_or digits 0 0) byte ≡ false
no_sign byte digits low numeral = ne_eqb _ _ (absent digits byte numeral (λ range. omega (arith, range)) 0 numeral.0)

-- the value behind each sign
value_minus : (digits : List ℕ) (number : ℤ) → IsNumeral 10 digits → number ≡ neg_ℤ (pos (digits_value 10 digits)) → IsScore number → integer_value (45 ∷ digits) ≡ Some number
value_minus digits number numeral value within =
    let fits : IsScore (signed_digits_value 10 (45 ∷ digits)) = subst IsScore value within in
    integer_value-some (45 ∷ digits) numeral fits ∙ ap Some (sym value)

value_plus : (digits : List ℕ) (number : ℤ) → IsNumeral 10 digits → number ≡ pos (digits_value 10 digits) → IsScore number → integer_value (43 ∷ digits) ≡ Some number
value_plus digits number numeral value within =
    let fits : IsScore (signed_digits_value 10 (43 ∷ digits)) = subst IsScore value within in
    integer_value-some (43 ∷ digits) numeral fits ∙ ap Some (sym value)

unsigned : (digits : List ℕ) → IsNumeral 10 digits → (without_leading_sign digits ≡ digits) × (signed_digits_value 10 digits ≡ pos (digits_value 10 digits))
unsigned digits numeral =
    let no_minus = no_sign 45 digits (lit< tt) numeral in
    let no_plus = no_sign 43 digits (lit< tt) numeral in
    (rw (no_minus, no_plus) refl, rw (no_minus, no_plus) refl)

value_plain : (digits : List ℕ) (number : ℤ) → IsNumeral 10 digits → number ≡ pos (digits_value 10 digits) → IsScore number → integer_value digits ≡ Some number
value_plain digits number numeral value within =
    let plain = unsigned digits numeral in
    let same : number ≡ signed_digits_value 10 digits = value ∙ sym plain.1 in
    integer_value-some digits (subst (IsNumeral 10) (sym plain.0) numeral) (subst IsScore same within) ∙ ap Some (sym same)

-- what the grammar spells is read
pub integer_value-spelled : (text : List ℕ) (number : ℤ) → SpellsInteger text number → integer_value text ≡ Some number
integer_value-spelled text number spells =
    subst (λ t. integer_value t ≡ Some number) (sym spells.parts) (by_sign spells.sign spells.is_negative spells.signed spells.value)
  where
    by_sign : (sign : List ℕ) (is_negative : Bool) → IsSign sign is_negative → number ≡ cond is_negative (neg_ℤ (pos (digits_value 10 spells.digits))) (pos (digits_value 10 spells.digits)) → integer_value (sign ++ spells.digits) ≡ Some number
    by_sign sign true minus value = rw minus (value_minus spells.digits number spells.numeral value spells.within)
    by_sign sign false (inl none) value = rw none (value_plain spells.digits number spells.numeral value spells.within)
    by_sign sign false (inr plus) value = rw plus (value_plus spells.digits number spells.numeral value spells.within)

-- the tests that a text with a value passes
passed : (b : Bool) (x y : ℤ) → cond b (Some x) None ≡ Some y → (b ≡ true) × (y ≡ x)
passed true x y same = (refl, cc)
passed false x y same = absurd (let no : ⊥ = cc in no)

has_value : (text : List ℕ) (number : ℤ) → integer_value text ≡ Some number → IsNumeral 10 (without_leading_sign text) × IsScore (signed_digits_value 10 text) × (number ≡ signed_digits_value 10 text)
unfolding integer_value
has_value text number value =
    let parts = passed _ _ _ value in
    let tests = and_parts _ _ parts.0 in
    ((is_numeral-Decides (without_leading_sign text)).0 tests.0, (is_score-Decides (signed_digits_value 10 text)).0 tests.1, parts.1)

-- what is read is spelled
pub SpellsInteger-read : (text : List ℕ) (number : ℤ) → integer_value text ≡ Some number → SpellsInteger text number
SpellsInteger-read [] number value = let facts = has_value [] number value in absurd (omega (arith, facts.0.0))
SpellsInteger-read (byte ∷ more) number value = by_sign (eqb byte 45) (eqb byte 43) refl refl (has_value (byte ∷ more) number value)
  where
    by_sign : (minus plus : Bool) → eqb byte 45 ≡ minus → eqb byte 43 ≡ plus
        → IsNumeral 10 (without_leading_sign (byte ∷ more)) × IsScore (signed_digits_value 10 (byte ∷ more)) × (number ≡ signed_digits_value 10 (byte ∷ more))
        → SpellsInteger (byte ∷ more) number
    by_sign true plus is_minus is_plus facts =
        let facts' = rw is_minus at facts in
        record {
          sign = codes "-";
          digits = more;
          is_negative = true;
          parts = ap (λ b. b ∷ more) (eqb-true byte 45 is_minus);
          signed = refl;
          numeral = facts'.0;
          value = facts'.2;
          within = subst IsScore (sym facts'.2) facts'.1;
        }
    by_sign false true is_minus is_plus facts =
        let facts' = rw (is_minus, is_plus) at facts in
        record {
          sign = codes "+";
          digits = more;
          is_negative = false;
          parts = ap (λ b. b ∷ more) (eqb-true byte 43 is_plus);
          signed = inr refl;
          numeral = facts'.0;
          value = facts'.2;
          within = subst IsScore (sym facts'.2) facts'.1;
        }
    by_sign false false is_minus is_plus facts =
        let facts' = rw (is_minus, is_plus) at facts in
        record {
          sign = [];
          digits = byte ∷ more;
          is_negative = false;
          parts = refl;
          signed = inl refl;
          numeral = facts'.0;
          value = facts'.2;
          within = subst IsScore (sym facts'.2) facts'.1;
        }

-- an integer has no point
no_point : (text : List ℕ) (number : ℤ) → SpellsInteger text number → (k : ℕ) → k < length text → get_or text k 0 ≢ 46
no_point text number spells k = subst (λ t. k < length t → get_or t k 0 ≢ 46) (sym spells.parts) (by_sign spells.sign spells.is_negative spells.signed k)
  where
    in_digits : (j : ℕ) → j < length spells.digits → get_or spells.digits j 0 ≢ 46
    in_digits = absent spells.digits 46 spells.numeral (λ range. omega (arith, range))

    behind : (byte : ℕ) → byte ≢ 46 → (j : ℕ) → j < length (byte ∷ spells.digits) → get_or (byte ∷ spells.digits) j 0 ≢ 46
    behind byte other zero below = other
    behind byte other (suc j) below = in_digits j (omega (arith, below))

    by_sign : (sign : List ℕ) (is_negative : Bool) → IsSign sign is_negative → (j : ℕ) → j < length (sign ++ spells.digits) → get_or (sign ++ spells.digits) j 0 ≢ 46
    by_sign sign true minus j = rw minus (behind 45 (omega arith) j)
    by_sign sign false (inl none) j = rw none (in_digits j)
    by_sign sign false (inr plus) j = rw plus (behind 43 (omega arith) j)

-- a point behind an integer is the first one
with_point : (whole zeros : List ℕ) (score : ℤ) → ((k : ℕ) → k < length whole → get_or whole k 0 ≢ 46) → is_zeros zeros ≡ true → integer_value whole ≡ Some score → score_value (whole ++ 46 ∷ zeros) ≡ Some score
with_point whole zeros score pointless are_zeros value =
    let first : IsFirstByte (is_byte 46) (whole ++ 46 ∷ zeros) (Some (length whole)) = (
      record {
        low = omega arith;
        high = omega (arith, length-append whole (46 ∷ zeros));
        before = λ k _ below point. pointless k below (sym (get_or_append_left whole (46 ∷ zeros) 0 k below) ∙ eqb-true _ _ point);
      },
      ap (λ b. eqb b 46) (get_or-append_seam whole 46 zeros 0),
    ) in
    let behind : drop (length whole + 1) (whole ++ 46 ∷ zeros) ≡ zeros = drop-append-add whole (46 ∷ zeros) 1 in
    score_value-point (whole ++ 46 ∷ zeros) (length whole) first ∙ rw (behind, take-append_seam whole (46 ∷ zeros)) (cond-true _ _ _ are_zeros ∙ value)

-- what the grammar spells is read
pub score_value-spelled : (text : List ℕ) (score : ℤ) → SpellsScore text score → score_value text ≡ Some score
score_value-spelled text score spells = subst (λ t. score_value t ≡ Some score) (sym spells.parts) (by_fraction spells.fraction spells.zeros)
  where
    value : integer_value spells.whole ≡ Some score
    value = integer_value-spelled spells.whole score spells.integer

    pointless : (k : ℕ) → k < length spells.whole → get_or spells.whole k 0 ≢ 46
    pointless = no_point spells.whole score spells.integer

    by_fraction : (fraction : List ℕ) → IsFraction fraction → score_value (spells.whole ++ fraction) ≡ Some score
    by_fraction fraction (inl none) =
        rw (none, append-nil) (score_value-no_point spells.whole (λ k _ below point. pointless k below (eqb-true _ _ point)) ∙ value)
    by_fraction fraction (inr (zeros, parts, are_zeros)) =
        rw parts (with_point spells.whole zeros score pointless are_zeros value)

-- a point that is found stands before the end, and where none is found the whole text stands before it
point_below : (text : List ℕ) → list_any is_point text ≡ true → position_or_len is_point text < length text
point_below text found = elim (cases_lt (position_or_len is_point text) (length text)) [
  | inl below ↦ below
  | inr end ↦
      let place = Any-from_list_any is_point text found in
      absurd (both_ways (is_point (get_or text place.0 place.1)) (fails_before_first is_point text place.0 place.1 (omega (arith, place.2))) (ap is_point place.3 ∙ place.4))
]

whole_before : (text : List ℕ) → list_any is_point text ≡ false → before_first is_point text ≡ text
whole_before text none =
    let end : position_or_len is_point text ≡ length text =
    position_or_len_is is_point text (length text) 0 (omega arith)
    (λ k below. false_from_ne_true _ (λ point. both_ways _ none (list_any_at is_point text k 0 below point)))
    (λ below. absurd (omega (arith, below))) in
    rw end (take_all (length text) text (omega arith))

-- the tests that a text with a score passes
chosen : (b : Bool) (x : Option ℤ) (y : ℤ) → cond b x None ≡ Some y → (b ≡ true) × (x ≡ Some y)
chosen true x y same = (refl, same)
chosen false x y same = absurd (let no : ⊥ = cc in no)

has_score : (text : List ℕ) (score : ℤ) → score_value text ≡ Some score → ((not (list_any is_point text) || is_zeros (after_first is_point text)) ≡ true) × (integer_value (before_first is_point text) ≡ Some score)
unfolding score_value
has_score text score value = chosen _ _ _ value

-- what is read is spelled
pub SpellsScore-read : (text : List ℕ) (score : ℤ) → score_value text ≡ Some score → SpellsScore text score
SpellsScore-read text score value = by_point (list_any is_point text) refl
  where
    facts : ((not (list_any is_point text) || is_zeros (after_first is_point text)) ≡ true) × (integer_value (before_first is_point text) ≡ Some score)
    facts = has_score text score value

    by_point : (found : Bool) → list_any is_point text ≡ found → SpellsScore text score
    by_point true found =
        let below = point_below text found in
        let point : get_or text (position_or_len is_point text) 0 ≡ 46 = eqb-true _ _ (passes_at_first is_point text 0 below) in
        record {
          whole = before_first is_point text;
          fraction = codes "." ++ after_first is_point text;
          parts = split_at_first is_point text 0 below ∙ ap (λ b. before_first is_point text ++ b ∷ after_first is_point text) point;
          integer = SpellsInteger-read (before_first is_point text) score facts.1;
          zeros = inr (after_first is_point text, refl, rw found at facts.0);
        }
    by_point false none = record {
      whole = text;
      fraction = [];
      parts = sym (append-nil text);
      integer = SpellsInteger-read text score (ap integer_value (sym (whole_before text none)) ∙ facts.1);
      zeros = inl refl;
    }

-- what is printed
plain_digits : (n : ℕ) → 0 < n → n < 2 ^ 64 → HasNoLeadingZero (decimal n)
plain_digits n some small = ((decimal_is_IsNumeral n small).0, first_decimal n some small)

pub IsPlain-score_text : (score : ℤ) → IsScore score → IsPlain (score_text score)
unfolding score_text
IsPlain-score_text (pos zero) within = inl (decimal_digit 0 (lit< tt))
IsPlain-score_text (pos (suc n)) within = inr (inl (plain_digits (suc n) (omega arith) (omega (arith, within.sfits))))
IsPlain-score_text (negsuc n) within = inr (inr (decimal (suc n), refl, plain_digits (suc n) (omega arith) (omega (arith, within.sfits))))

spelled_text : (score : ℤ) → IsScore score → SpellsInteger (score_text score) score
unfolding score_text
spelled_text (pos n) within =
    let digits = decimal_is_IsNumeral n (omega (arith, within.sfits)) in
    record {
      sign = [];
      digits = decimal n;
      is_negative = false;
      parts = refl;
      signed = inl refl;
      numeral = digits.0;
      value = ap pos (sym digits.1);
      within = within;
    }
spelled_text (negsuc n) within =
    let digits = decimal_is_IsNumeral (suc n) (omega (arith, within.sfits)) in
    record {
      sign = codes "-";
      digits = decimal (suc n);
      is_negative = true;
      parts = refl;
      signed = refl;
      numeral = digits.0;
      value = ap (λ m. neg_ℤ (pos m)) (sym digits.1);
      within = within;
    }

pub score_value-score_text : (score : ℤ) → IsScore score → score_value (score_text score) ≡ Some score
score_value-score_text score within = score_value-spelled (score_text score) score (record {
  whole = score_text score;
  fraction = [];
  parts = sym (append-nil (score_text score));
  integer = spelled_text score within;
  zeros = inl refl;
})
