-- Bounds and ranges of scores as the command page of ZRANGEBYSCORE has them, and the cuts of Database Cracking (CIDR 2007) that part a column at a range.
use Rattle.std.specs.Prelude.{◌≡◌, ◌⊎◌, ◌++◌, [], ℕ, Bool, true, false, not, ◌&&◌, ◌||◌, ◌==◌, if◌then◌else◌, codes, List, drop, slice_index, ℤ, pos, ◌+ℤ◌, int_lt, Option, Some, option_map, option_and_then}
use Rattle.std.specs.Ordering.{int_eq}
use Rattle.std.specs.Str.{str_eq_ignore_ascii_case}
use Rattle.score_bounds.specs.ScoreTexts.{score_value, greatest, SpellsScore}
use Rattle.score_bounds.specs.declared.ranges_and_cuts.Bound.{Bound}
use Rattle.score_bounds.specs.declared.ranges_and_cuts.Bound.TheVariants.{NegInf, Incl, Excl, PosInf}
use Rattle.score_bounds.specs.declared.ranges_and_cuts.Range.{Range}
use Rattle.score_bounds.specs.declared.ranges_and_cuts.Cut.{Cut}
use Rattle.score_bounds.specs.declared.ranges_and_cuts.Cut.TheVariants.{Start, At, End}

-- a score is under a minimum
abbrev pub is_under : Bound → ℤ → Bool
is_under NegInf score = false
is_under (Incl limit) score = int_lt score limit
is_under (Excl limit) score = not (int_lt limit score)
is_under PosInf score = true

-- a score is over a maximum
abbrev pub is_over : Bound → ℤ → Bool
is_over NegInf score = true
is_over (Incl limit) score = int_lt limit score
is_over (Excl limit) score = not (int_lt score limit)
is_over PosInf score = false

-- a score is in a range
abbrev pub is_in : Range → ℤ → Bool
is_in range score = not (is_under range.min score) && not (is_over range.max score)

-- a score is below a cut
abbrev pub is_below : ℤ → Cut → Bool
is_below score Start = false
is_below score (At place) = int_lt score place
is_below score End = true

-- the cut above a score and below the next one
abbrev pub cut_above : ℤ → Cut
cut_above score = if int_eq score greatest then End else At (score +ℤ pos 1)

-- the cut below all scores that are not under a minimum
abbrev pub first_cut : Bound → Cut
first_cut NegInf = Start
first_cut (Incl limit) = At limit
first_cut (Excl limit) = cut_above limit
first_cut PosInf = End

-- the cut above all scores that are not over a maximum
abbrev pub second_cut : Bound → Cut
second_cut NegInf = Start
second_cut (Incl limit) = cut_above limit
second_cut (Excl limit) = At limit
second_cut PosInf = End

-- the bound at a score, which is left out of the range or belongs to it
abbrev pub bound_at : Bool → ℤ → Bound
bound_at is_exclusive score = if is_exclusive then Excl score else Incl score

-- the bound that a text without its '(' spells, or none: an infinity or a score
unfoldable pub end_value : Bool → List ℕ → Option Bound
end_value is_exclusive text =
    if str_eq_ignore_ascii_case text (codes "-inf") then Some NegInf
    else if str_eq_ignore_ascii_case text (codes "inf") || str_eq_ignore_ascii_case text (codes "+inf") then Some PosInf
    else option_map (bound_at is_exclusive) (score_value text)

-- the bound that a text spells, or none: '(' (40) before a score leaves it out of the range
unfoldable pub bound_value : List ℕ → Option Bound
bound_value text = if slice_index text 0 == 40 then end_value true (drop 1 text) else end_value false text

-- the range of two texts, or none where one of them spells no bound
unfoldable pub range_value : List ℕ → List ℕ → Option Range
range_value min max =
    option_and_then (λ low. option_map (λ high. record { min = low; max = high }) (bound_value max)) (bound_value min)

-- a text is a word, in letters of either case
abbrev pub IsWord : List ℕ → List ℕ → Type 0
IsWord text word = str_eq_ignore_ascii_case text word ≡ true

-- '(' leaves a score out of the range, and nothing keeps it in
abbrev pub IsMark : List ℕ → Bool → Type 0
IsMark text true = text ≡ codes "("
IsMark text false = text ≡ []

-- the grammar of what may stand behind the mark: an infinity or a score
abbrev pub SpellsEnd : Bool → List ℕ → Bound → Type 0
SpellsEnd is_exclusive text NegInf = IsWord text (codes "-inf")
SpellsEnd is_exclusive text (Incl score) = (is_exclusive ≡ false) × SpellsScore text score
SpellsEnd is_exclusive text (Excl score) = (is_exclusive ≡ true) × SpellsScore text score
SpellsEnd is_exclusive text PosInf = IsWord text (codes "inf") ⊎ IsWord text (codes "+inf")

-- the grammar of a bound's text: a mark, and an infinity or a score
pub record SpellsBound (text : List ℕ) (bound : Bound) : Type 0 where
  pub mark : List ℕ
  pub end : List ℕ
  pub is_exclusive : Bool
  pub parts : text ≡ mark ++ end
  pub marked : IsMark mark is_exclusive
  pub ends : SpellsEnd is_exclusive end bound

-- the texts of a range: those of its two bounds
pub record SpellsRange (min max : List ℕ) (range : Range) : Type 0 where
  pub low : SpellsBound min range.min
  pub high : SpellsBound max range.max
