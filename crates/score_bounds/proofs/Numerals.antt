-- What std says of a parsed text, in the words of `integer_value`.
use Rattle.std.proofs.Common.{◌≡◌, ℕ, Bool, true, false, List, [], ◌∷◌, length, refl, sym, ap, ◌∙◌, Some, None, Result, Ok, Err, ℤ, pos, negsuc, arith, w64}
use Rattle.std.specs.Bool.{Decides}
use Rattle.std.specs.Result.{result_ok}
use Rattle.std.proofs.lemmas.Bool.{eqb-true}
use Rattle.std.proofs.lemmas.Str.{IsUtf8-from_ascii}
use Rattle.std.proofs.lemmas.Str.Ascii.{IsAscii-nil, IsAscii-cons}
use Rattle.std.proofs.lemmas.Fmt.{IsAscii-from_digits}
use lib.Dec.{eqb}
use Rattle.std.specs.Str.{all_ascii_digits, IsUtf8, IsAscii}
use Rattle.std.specs.Str.Parse.{IsNumeral, ParsesSigned, digits_value, signed_digits_value, without_leading_sign}
use Rattle.std.proofs.lemmas.Bool.{and_parts, and_from, ltb-true, lt-ltb, ltb-false, le-ltb, not-true, not_from_false, cond-true, cond-false, false_from_ne_true}
use Rattle.std.proofs.lemmas.Str.Parse.{IsNumeralModel, numerals_by_value, tells_all_ascii_digits}
use Rattle.score_bounds.specs.ScoreTexts.{is_numeral, is_score, integer_value, IsScore}

digits_model : IsNumeralModel (λ ds. all_ascii_digits ds ≡ true) (digits_value 10)
digits_model = numerals_by_value _ tells_all_ascii_digits

pub is_numeral-Decides : (text : List ℕ) → Decides (is_numeral text) (IsNumeral 10 text)
is_numeral-Decides text = (
  λ passes. let parts = and_parts _ _ passes in (ltb-true 0 (length text) parts.0, digits_model.to text parts.1),
  λ numeral. and_from _ _ (lt-ltb 0 (length text) numeral.0) (digits_model.from text numeral.1),
)

pub is_score-Decides : (number : ℤ) → Decides (is_score number) (IsScore number)
is_score-Decides (pos n) = (
  λ passes. record { sfits = omega (arith, ltb-false 9223372036854775807 n (not-true _ passes)) },
  λ fits. not_from_false _ (le-ltb 9223372036854775807 n (omega (arith, fits.sfits))),
)
is_score-Decides (negsuc n) = (
  λ passes. record { sfits = omega (arith, ltb-false 9223372036854775807 n (not-true _ (and_parts _ _ passes).0)) },
  λ fits. and_from _ _ (not_from_false _ (le-ltb 9223372036854775807 n (omega (arith, fits.sfits)))) refl,
)

-- both tests pass where std's parser takes the text
pub integer_value-some : (text : List ℕ) → IsNumeral 10 (without_leading_sign text) → IsScore (signed_digits_value 10 text) → integer_value text ≡ Some (signed_digits_value 10 text)
unfolding integer_value
integer_value-some text numeral fits =
    cond-true _ _ _ (and_from _ _ ((is_numeral-Decides (without_leading_sign text)).1 numeral) ((is_score-Decides (signed_digits_value 10 text)).1 fits))

pub integer_value-none : (text : List ℕ) → ((IsNumeral 10 (without_leading_sign text) × IsScore (signed_digits_value 10 text)) → ⊥) → integer_value text ≡ None
unfolding integer_value
integer_value-none text refused =
    cond-false _ _ _ (false_from_ne_true _ (λ passes. let parts = and_parts _ _ passes in refused ((is_numeral-Decides (without_leading_sign text)).0 parts.0, (is_score-Decides (signed_digits_value 10 text)).0 parts.1)))

-- the answer of `parse`, as an option
pub integer_value-parsed : {E : Type 0} (text : List ℕ) (answer : Result ℤ E) → ParsesSigned w64 10 text answer → result_ok answer ≡ integer_value text
integer_value-parsed text (Ok n) parsed = sym (integer_value-some text parsed.0.0 parsed.0.1 ∙ ap Some (sym parsed.1))
integer_value-parsed text (Err e) parsed = sym (integer_value-none text parsed)

-- a sign and digits are ASCII
IsAscii-signed_numeral : (text : List ℕ) → IsNumeral 10 (without_leading_sign text) → IsAscii text
IsAscii-signed_numeral [] numeral = IsAscii-nil
IsAscii-signed_numeral (byte ∷ more) numeral = by_sign (eqb byte 45) (eqb byte 43) refl refl
  where
    by_sign : (minus plus : Bool) → eqb byte 45 ≡ minus → eqb byte 43 ≡ plus → IsAscii (byte ∷ more)
    by_sign true plus is_minus is_plus =
        IsAscii-cons byte more (omega (arith, eqb-true byte 45 is_minus)) (IsAscii-from_digits more (rw is_minus at numeral).1)
    by_sign false true is_minus is_plus =
        IsAscii-cons byte more (omega (arith, eqb-true byte 43 is_plus)) (IsAscii-from_digits more (rw (is_minus, is_plus) at numeral).1)
    by_sign false false is_minus is_plus = IsAscii-from_digits (byte ∷ more) (rw (is_minus, is_plus) at numeral).1

-- what is no text is no integer
pub integer_value-no_utf8 : (text : List ℕ) → (IsUtf8 text → ⊥) → integer_value text ≡ None
integer_value-no_utf8 text refused =
    integer_value-none text (λ parts. refused (IsUtf8-from_ascii text (IsAscii-signed_numeral text parts.0)))
