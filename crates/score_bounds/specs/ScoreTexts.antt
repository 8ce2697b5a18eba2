-- The texts of scores and of integers, what they spell, and how a score is printed.
-- A score is a whole number of 64 bits. Redis takes floating point scores (command page of ZADD); this profile takes the whole ones.
use Rattle.std.specs.Prelude.{◌≡◌, ℕ, ◌<◌, Bool, true, false, ◌&&◌, ◌||◌, not, ◌==◌, nat_lt, if◌then◌else◌, List, [], ◌++◌, length, slice_index, codes, ◌⊎◌, ℤ, pos, negsuc, neg_ℤ, int_lt, FitsSigned, Option, Some, None}
use Rattle.std.specs.Int.{w64}
use Rattle.std.specs.List.{list_any, list_all, before_first, after_first}
use Rattle.std.specs.Fmt.{signed_decimal}
use Rattle.std.specs.Str.{all_ascii_digits}
use Rattle.std.specs.Str.Parse.{IsNumeral, digits_value, signed_digits_value, without_leading_sign}

-- the least and the greatest score
abbrev pub least : ℤ
least = negsuc 9223372036854775807

abbrev pub greatest : ℤ
greatest = pos 9223372036854775807

-- a number is a score
abbrev pub IsScore : ℤ → Type 0
IsScore number = FitsSigned w64 number

-- the same as a test
abbrev pub is_score : ℤ → Bool
is_score number = not (int_lt number least) && not (int_lt greatest number)

-- a text has one digit or more, and nothing else
abbrev pub is_numeral : List ℕ → Bool
is_numeral text = nat_lt 0 (length text) && all_ascii_digits text

-- the score that a text of an optional sign and digits spells, or none
unfoldable pub integer_value : List ℕ → Option ℤ
integer_value text =
    let number = signed_digits_value 10 text in
    if is_numeral (without_leading_sign text) && is_score number then Some number else None

abbrev pub is_point : ℕ → Bool
is_point byte = byte == 46

-- a text has one zero or more, and nothing else
abbrev pub is_zeros : List ℕ → Bool
is_zeros text = nat_lt 0 (length text) && list_all (λ byte. byte == 48) text

-- the score that a text spells, or none: an integer, behind which a point and zeros may stand
unfoldable pub score_value : List ℕ → Option ℤ
score_value text =
    if not (list_any is_point text) || is_zeros (after_first is_point text)
    then integer_value (before_first is_point text)
    else None

-- the text of a score: the digits without leading zeros, behind '-' where it is negative
unfoldable pub score_text : ℤ → List ℕ
score_text score = signed_decimal score

-- a sign's text, and whether it makes a number negative
abbrev pub IsSign : List ℕ → Bool → Type 0
IsSign text true = text ≡ codes "-"
IsSign text false = (text ≡ []) ⊎ (text ≡ codes "+")

-- nothing, or a point and zeros, one or more
abbrev pub IsFraction : List ℕ → Type 0
IsFraction text = (text ≡ []) ⊎ ((zeros : List ℕ) × (text ≡ codes "." ++ zeros) × (is_zeros zeros ≡ true))

-- the grammar of an integer's text: a sign, and digits that write a number of 64 bits
pub record SpellsInteger (text : List ℕ) (number : ℤ) : Type 0 where
  pub sign : List ℕ
  pub digits : List ℕ
  pub is_negative : Bool
  pub parts : text ≡ sign ++ digits
  pub signed : IsSign sign is_negative
  pub numeral : IsNumeral 10 digits
  pub value : number ≡ (if is_negative then neg_ℤ (pos (digits_value 10 digits)) else pos (digits_value 10 digits))
  pub within : IsScore number

-- the grammar of a score's text: an integer, and perhaps a point and zeros
pub record SpellsScore (text : List ℕ) (score : ℤ) : Type 0 where
  pub whole : List ℕ
  pub fraction : List ℕ
  pub parts : text ≡ whole ++ fraction
  pub integer : SpellsInteger whole score
  pub zeros : IsFraction fraction

-- digits that do not begin with a zero
abbrev pub HasNoLeadingZero : List ℕ → Type 0
HasNoLeadingZero digits = IsNumeral 10 digits × (48 < slice_index digits 0)

-- a plain text of a number: '0', or digits without a leading zero, behind '-' or nothing
abbrev pub IsPlain : List ℕ → Type 0
IsPlain text = (text ≡ codes "0") ⊎ HasNoLeadingZero text ⊎ ((digits : List ℕ) × (text ≡ codes "-" ++ digits) × HasNoLeadingZero digits)
