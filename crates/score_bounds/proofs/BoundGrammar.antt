-- Reading a bound's text against its grammar.
use Rattle.std.proofs.Common.{◌≡◌, ℕ, zero, suc, lit<, ◌+◌, ◌<◌, ◌≤◌, Bool, true, false, ◌||◌, cond, nat_lt, List, [], ◌∷◌, ◌++◌, ◌⊎◌, length, get_or, refl, sym, ap, subst, ◌∙◌, inl, inr, Option, Some, None, ℤ, arith, codes, option_map, option_and_then}
use lib.Dec.{eqb}
use Rattle.std.specs.List.{list_all}
use Rattle.std.specs.Str.{str_eq_ignore_ascii_case, str_to_ascii_lowercase}
use Rattle.std.specs.Char.{to_ascii_lowercase}
use Rattle.std.specs.Str.Parse.{IsNumeral}
use Rattle.std.specs.Cmp.Lexicographic.{bytes_decides}
use Rattle.std.proofs.lemmas.Bool.{and_parts, eqb-true, ne_eqb}
use Rattle.std.proofs.lemmas.Bool.Decides.{nat_tests}
use Rattle.std.proofs.lemmas.Str.Parse.{digit_at}
use Rattle.score_bounds.specs.ScoreTexts.{score_value, IsSign, IsFraction, SpellsInteger, SpellsScore}
use Rattle.score_bounds.specs.RangesAndCuts.{bound_at, end_value, bound_value, range_value, IsWord, IsMark, SpellsEnd, SpellsBound, SpellsRange}
use Rattle.score_bounds.specs.declared.ranges_and_cuts.Bound.{Bound}
use Rattle.score_bounds.specs.declared.ranges_and_cuts.Bound.TheVariants.{NegInf, Incl, Excl, PosInf}
use Rattle.score_bounds.specs.declared.ranges_and_cuts.Range.{Range}
use Rattle.score_bounds.proofs.Grammar.{score_value-spelled, SpellsScore-read}

-- the bytes of a score's text are digits, signs and a point: none is '(' or a letter
AreLow : List ℕ → Type 0
AreLow text = (k : ℕ) → k < length text → (42 < get_or text k 0) × (get_or text k 0 < 58)

join : (xs ys : List ℕ) → AreLow xs → AreLow ys → AreLow (xs ++ ys)
unfolding AreLow
join [] ys low_xs low_ys k below = low_ys k below
join (x ∷ xs) ys low_xs low_ys zero below = low_xs zero (omega arith)
join (x ∷ xs) ys low_xs low_ys (suc k) below = join xs ys (λ j within. low_xs (suc j) (omega (arith, within))) low_ys k (omega (arith, below))

low_one : (byte : ℕ) → 42 < byte → byte < 58 → AreLow (byte ∷ [])
unfolding AreLow
low_one byte above under zero below = (above, under)
low_one byte above under (suc k) below = absurd (omega (arith, below))

low_none : AreLow []
unfolding AreLow
low_none k below = absurd (omega (arith, below))

low_digits : (digits : List ℕ) → IsNumeral 10 digits → AreLow digits
unfolding AreLow
low_digits digits numeral k below = let range = digit_at digits k numeral.1 below in (omega (arith, range), omega (arith, range))

low_zeros : (zeros : List ℕ) → list_all (λ byte. eqb byte 48) zeros ≡ true → AreLow zeros
unfolding AreLow
low_zeros [] all k below = absurd (omega (arith, below))
low_zeros (z ∷ zeros) all zero below =
    let same = eqb-true z 48 (and_parts _ _ all).0 in
    (omega (arith, same), omega (arith, same))
low_zeros (z ∷ zeros) all (suc k) below = low_zeros zeros (and_parts _ _ all).1 k (omega (arith, below))

low_sign : (sign : List ℕ) (is_negative : Bool) → IsSign sign is_negative → AreLow sign
low_sign sign true minus = subst AreLow (sym minus) (low_one 45 (lit< tt) (lit< tt))
low_sign sign false (inl none) = subst AreLow (sym none) low_none
low_sign sign false (inr plus) = subst AreLow (sym plus) (low_one 43 (lit< tt) (lit< tt))

low_integer : (text : List ℕ) (number : ℤ) → SpellsInteger text number → AreLow text
low_integer text number spells = subst AreLow (sym spells.parts) (join spells.sign spells.digits (low_sign spells.sign spells.is_negative spells.signed) (low_digits spells.digits spells.numeral))

low_fraction : (fraction : List ℕ) → IsFraction fraction → AreLow fraction
low_fraction fraction (inl none) = subst AreLow (sym none) low_none
low_fraction fraction (inr (zeros, parts, are_zeros)) =
    subst AreLow (sym parts) (join (46 ∷ []) zeros (low_one 46 (lit< tt) (lit< tt)) (low_zeros zeros (and_parts _ _ are_zeros).1))

low_score : (text : List ℕ) (score : ℤ) → SpellsScore text score → AreLow text
low_score text score spells = subst AreLow (sym spells.parts) (join spells.whole spells.fraction (low_integer spells.whole score spells.integer) (low_fraction spells.fraction spells.zeros))

-- such a text has no letter to change the case of, so it is no word with a letter
small : (byte : ℕ) → byte < 58 → to_ascii_lowercase byte ≡ byte
small byte under = let below : nat_lt byte 65 ≡ true = grind (arith, nat_tests) in ap (λ (b : Bool). cond b byte (cond (nat_lt byte 91) (byte + 32) byte)) below

lower_same : (text : List ℕ) → AreLow text → str_to_ascii_lowercase text ≡ text
unfolding AreLow
lower_same [] low = refl
lower_same (x ∷ xs) low = cc (small x (low zero (omega arith)).1, lower_same xs (λ k below. low (suc k) (omega (arith, below))))

same_word : (text word : List ℕ) → IsWord text word → str_to_ascii_lowercase text ≡ str_to_ascii_lowercase word
same_word text word is = (bytes_decides _ _).0 is

-- where a text is a word, a byte of the word's lower case stands in a text of such bytes
word_byte : (text word : List ℕ) → AreLow text → IsWord text word → (k : ℕ) → k < length (str_to_ascii_lowercase word) → get_or (str_to_ascii_lowercase word) k 0 < 58
unfolding AreLow
word_byte text word low is k within =
    let same : text ≡ str_to_ascii_lowercase word = sym (lower_same text low) ∙ same_word text word is in
    let here : AreLow (str_to_ascii_lowercase word) = subst AreLow same low in
    (here k within).1

no_word : (text word : List ℕ) → AreLow text → (k : ℕ) → k < length (str_to_ascii_lowercase word) → 58 ≤ get_or (str_to_ascii_lowercase word) k 0 → str_eq_ignore_ascii_case text word ≡ false
no_word text word low k within letter = by (str_eq_ignore_ascii_case text word) refl
  where
    by : (b : Bool) → str_eq_ignore_ascii_case text word ≡ b → b ≡ false
    by true is = absurd (omega (arith, letter, word_byte text word low is k within))
    by false is = refl

-- a score's text is no infinity
no_infinity : (text : List ℕ) → AreLow text → (str_eq_ignore_ascii_case text (codes "-inf") ≡ false) × ((str_eq_ignore_ascii_case text (codes "inf") || str_eq_ignore_ascii_case text (codes "+inf")) ≡ false)
no_infinity text low =
    let minus = no_word text (codes "-inf") low 1 (lit< tt) (omega arith) in
    let plain = no_word text (codes "inf") low 0 (lit< tt) (omega arith) in
    let plus = no_word text (codes "+inf") low 1 (lit< tt) (omega arith) in
    (minus, rw (plain, plus) refl)

-- the positive infinity is not the negative one
apart : (text : List ℕ) → IsWord text (codes "inf") ⊎ IsWord text (codes "+inf") → str_eq_ignore_ascii_case text (codes "-inf") ≡ false
apart text positive = by (str_eq_ignore_ascii_case text (codes "-inf")) refl positive
  where
    by : (b : Bool) → str_eq_ignore_ascii_case text (codes "-inf") ≡ b → IsWord text (codes "inf") ⊎ IsWord text (codes "+inf") → b ≡ false
    by true is (inl plain) = let no : str_to_ascii_lowercase (codes "inf") ≡ str_to_ascii_lowercase (codes "-inf") = sym (same_word text (codes "inf") plain) ∙ same_word text (codes "-inf") is in absurd (let e : 3 ≡ 4 = ap length no in omega (arith, e))
    by true is (inr plus) = let no : str_to_ascii_lowercase (codes "+inf") ≡ str_to_ascii_lowercase (codes "-inf") = sym (same_word text (codes "+inf") plus) ∙ same_word text (codes "-inf") is in absurd (let e : 43 ≡ 45 = ap (λ (bs : List ℕ). get_or bs 0 0) no in omega (arith, e))
    by false is positive = refl

either : (a b : Bool) → (a ≡ true) ⊎ (b ≡ true) → (a || b) ≡ true
either true b h = refl
either false b (inl h) = cc
either false b (inr h) = h

which : (a b : Bool) → (a || b) ≡ true → (a ≡ true) ⊎ (b ≡ true)
which true b h = inl refl
which false b h = inr h

-- what the grammar spells behind a mark is read
end_value-spelled : (is_exclusive : Bool) (text : List ℕ) (bound : Bound) → SpellsEnd is_exclusive text bound → end_value is_exclusive text ≡ Some bound
unfolding end_value
end_value-spelled is_exclusive text NegInf minus = rw minus refl
end_value-spelled is_exclusive text PosInf positive = rw (apart text positive, either _ _ positive) refl
end_value-spelled is_exclusive text (Incl score) (kept, spells) =
    let none = no_infinity text (low_score text score spells) in
    rw (none.0, none.1, score_value-spelled text score spells, kept) refl
end_value-spelled is_exclusive text (Excl score) (left_out, spells) =
    let none = no_infinity text (low_score text score spells) in
    rw (none.0, none.1, score_value-spelled text score spells, left_out) refl

-- what is read behind a mark is spelled
SpellsEnd-read : (is_exclusive : Bool) (text : List ℕ) (bound : Bound) → end_value is_exclusive text ≡ Some bound → SpellsEnd is_exclusive text bound
unfolding end_value
SpellsEnd-read is_exclusive text bound value =
    by (str_eq_ignore_ascii_case text (codes "-inf")) (str_eq_ignore_ascii_case text (codes "inf") || str_eq_ignore_ascii_case text (codes "+inf")) (score_value text) refl refl refl value
  where
    score : (e : Bool) (s : ℤ) (bound : Bound) → SpellsScore text s → Some (bound_at e s) ≡ Some bound → SpellsEnd e text bound
    score true s bound spells is = let same : Excl s ≡ bound = cc in subst (SpellsEnd true text) same (refl, spells)
    score false s bound spells is = let same : Incl s ≡ bound = cc in subst (SpellsEnd false text) same (refl, spells)

    by : (minus positive : Bool) (read : Option ℤ) → str_eq_ignore_ascii_case text (codes "-inf") ≡ minus → (str_eq_ignore_ascii_case text (codes "inf") || str_eq_ignore_ascii_case text (codes "+inf")) ≡ positive → score_value text ≡ read
        → cond minus (Some NegInf) (cond positive (Some PosInf) (option_map (bound_at is_exclusive) read)) ≡ Some bound → SpellsEnd is_exclusive text bound
    by true positive read is_minus is_positive is_read is = let same : NegInf ≡ bound = cc in subst (SpellsEnd is_exclusive text) same is_minus
    by false true read is_minus is_positive is_read is = let same : PosInf ≡ bound = cc in subst (SpellsEnd is_exclusive text) same (which _ _ is_positive)
    by false false None is_minus is_positive is_read is = absurd (let no : ⊥ = cc in no)
    by false false (Some s) is_minus is_positive is_read is = score is_exclusive s bound (SpellsScore-read text s is_read) is

-- no end of a bound begins with '('
low_first : (text : List ℕ) → AreLow text → eqb (get_or text 0 0) 40 ≡ false
unfolding AreLow
low_first [] low = refl
low_first (x ∷ xs) low = ne_eqb x 40 (λ same. absurd (omega (arith, same, (low zero (omega arith)).0)))

word_first : (text word : List ℕ) → IsWord text word → (get_or (str_to_ascii_lowercase word) 0 0 ≡ 40 → ⊥) → eqb (get_or text 0 0) 40 ≡ false
word_first [] word is other = refl
word_first (x ∷ xs) word is other = ne_eqb x 40 (λ same. other (sym (ap (λ (bs : List ℕ). get_or bs 0 0) (same_word (x ∷ xs) word is)) ∙ ap to_ascii_lowercase same))

end_first : (text : List ℕ) (bound : Bound) → SpellsEnd false text bound → eqb (get_or text 0 0) 40 ≡ false
end_first text NegInf minus = word_first text (codes "-inf") minus (λ same. omega (arith, same))
end_first text PosInf (inl plain) = word_first text (codes "inf") plain (λ same. omega (arith, same))
end_first text PosInf (inr plus) = word_first text (codes "+inf") plus (λ same. omega (arith, same))
end_first text (Incl score) (kept, spells) = low_first text (low_score text score spells)
end_first text (Excl score) (left_out, spells) = low_first text (low_score text score spells)

-- what the grammar spells is read
pub bound_value-spelled : (text : List ℕ) (bound : Bound) → SpellsBound text bound → bound_value text ≡ Some bound
unfolding bound_value
bound_value-spelled text bound spells = subst (λ t. bound_value t ≡ Some bound) (sym spells.parts) (by spells.mark spells.is_exclusive spells.marked spells.ends)
  where
    by : (mark : List ℕ) (is_exclusive : Bool) → IsMark mark is_exclusive → SpellsEnd is_exclusive spells.end bound → bound_value (mark ++ spells.end) ≡ Some bound
    by mark true marked ends = rw marked (end_value-spelled true spells.end bound ends)
    by mark false none ends = let other = end_first spells.end bound ends in rw (none, other) (end_value-spelled false spells.end bound ends)

-- what is read is spelled
pub SpellsBound-read : (text : List ℕ) (bound : Bound) → bound_value text ≡ Some bound → SpellsBound text bound
unfolding bound_value
SpellsBound-read [] bound value = record { mark = []; end = []; is_exclusive = false; parts = refl; marked = refl; ends = SpellsEnd-read false [] bound value }
SpellsBound-read (byte ∷ more) bound value = by (eqb byte 40) refl value
  where
    by : (b : Bool) → eqb byte 40 ≡ b → cond b (end_value true more) (end_value false (byte ∷ more)) ≡ Some bound → SpellsBound (byte ∷ more) bound
    by true is read = record { mark = codes "("; end = more; is_exclusive = true; parts = ap (λ b. b ∷ more) (eqb-true byte 40 is); marked = refl; ends = SpellsEnd-read true more bound read }
    by false is read = record { mark = []; end = byte ∷ more; is_exclusive = false; parts = refl; marked = refl; ends = SpellsEnd-read false (byte ∷ more) bound read }

-- ranges
pub range_value-spelled : (min max : List ℕ) (range : Range) → SpellsRange min max range → range_value min max ≡ Some range
unfolding range_value
range_value-spelled min max range spells = rw (bound_value-spelled min range.min spells.low, bound_value-spelled max range.max spells.high) refl

pub SpellsRange-read : (min max : List ℕ) (range : Range) → range_value min max ≡ Some range → SpellsRange min max range
unfolding range_value
SpellsRange-read min max range value = by (bound_value min) (bound_value max) refl refl value
  where
    by : (low high : Option Bound) → bound_value min ≡ low → bound_value max ≡ high
        → option_and_then (λ l. option_map (λ h. record { min = l; max = h }) high) low ≡ Some range → SpellsRange min max range
    by None high is_low is_high is = absurd (let no : ⊥ = cc in no)
    by (Some l) None is_low is_high is = absurd (let no : ⊥ = cc in no)
    by (Some l) (Some h) is_low is_high is =
        let made : record { min = l; max = h } ≡ range = cc in
        record { low = SpellsBound-read min range.min (is_low ∙ ap Some (ap (λ (r : Range). r.min) made)); high = SpellsBound-read max range.max (is_high ∙ ap Some (ap (λ (r : Range). r.max) made)) }
