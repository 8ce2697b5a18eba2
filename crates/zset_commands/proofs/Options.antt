-- The options of ZRANGEBYSCORE, one after the other.
use Rattle.std.proofs.Common.{Bool, cond, ◌≡◌, ℕ, ◌<◌, ◌≤◌, true, false, ◌||◌, List, [], ◌∷◌, length, drop, refl, sym, ap, ◌∙◌, Option, Some, None, arith}
use Rattle.std.specs.Prelude.{codes, option_map, is_none}
use Rattle.std.specs.List.{list_any}
use Rattle.std.proofs.lemmas.Bool.{cond-true, cond-false}
use Rattle.std.proofs.Math.Bool.{or-true, or-false, or_assoc}
use Rattle.zset_commands.specs.MeaningOfForm.{word_at}
use Rattle.zset_commands.specs.CommandGrammar.{RangeOption, WithScores, LimitTo, is_named, is_with_scores, is_bad_limit, limit_value, last_limit, range_options}
use Rattle.zset_commands.specs.ReadingMatchesGrammar.{choice_after}
use Rattle.zset_commands.specs.declared.limit.Limit.{Limit}
use Rattle.zset_commands.specs.declared.range_commands.RangeChoice.{RangeChoice}

pub range_options-with_scores : (words : List (List ℕ)) → 0 < length words → is_named (codes "WITHSCORES") (word_at words 0) ≡ true
    → range_options words ≡ option_map (λ more. WithScores ∷ more) (range_options (drop 1 words))
unfolding range_options
range_options-with_scores [] some named = absurd (omega (arith, some))
range_options-with_scores (word ∷ more) some named = cond-true _ _ _ named

pub range_options-limit : (words : List (List ℕ)) → 3 ≤ length words → is_named (codes "WITHSCORES") (word_at words 0) ≡ false → is_named (codes "LIMIT") (word_at words 0) ≡ true
    → range_options words ≡ option_map (λ more. LimitTo (word_at words 1) (word_at words 2) ∷ more) (range_options (drop 3 words))
unfolding range_options
range_options-limit [] some other named = absurd (omega (arith, some))
range_options-limit (word ∷ []) some other named = absurd (omega (arith, some))
range_options-limit (word ∷ next ∷ []) some other named = absurd (omega (arith, some))
range_options-limit (word ∷ offset ∷ count ∷ rest) some other named = cond-false _ _ _ other ∙ cond-true _ _ _ named

cond_same : (b : Bool) → cond {A = Option (List RangeOption)} b None None ≡ None
cond_same true = refl
cond_same false = refl

pub range_options-short : (words : List (List ℕ)) → 0 < length words → length words < 3 → is_named (codes "WITHSCORES") (word_at words 0) ≡ false → range_options words ≡ None
unfolding range_options
range_options-short [] some short other = absurd (omega (arith, some))
range_options-short (word ∷ []) some short other =
    cond-false _ _ _ other ∙ cond_same (is_named (codes "LIMIT") word)
range_options-short (word ∷ next ∷ []) some short other =
    cond-false _ _ _ other ∙ cond_same (is_named (codes "LIMIT") word)
range_options-short (word ∷ offset ∷ count ∷ rest) some short other = absurd (omega (arith, short))

pub range_options-other : (words : List (List ℕ)) → 0 < length words → is_named (codes "WITHSCORES") (word_at words 0) ≡ false → is_named (codes "LIMIT") (word_at words 0) ≡ false → range_options words ≡ None
unfolding range_options
range_options-other [] some other another = absurd (omega (arith, some))
range_options-other (word ∷ more) some other another = cond-false _ _ _ other ∙ cond-false _ _ _ another

-- an option more is seen
pub choice_after-with_scores : (seen : RangeChoice) (options : Option (List RangeOption))
    → option_map (choice_after (record seen { with_scores = true })) options ≡ option_map (choice_after seen) (option_map (λ more. WithScores ∷ more) options)
choice_after-with_scores seen None = refl
choice_after-with_scores seen (Some options) = ap (λ b. Some (record { with_scores = b; limit = last_limit seen.limit options; has_bad_limit = seen.has_bad_limit || list_any is_bad_limit options })) (sym (or-true seen.with_scores))

pub choice_after-limit : (seen : RangeChoice) (offset count : List ℕ) (options : Option (List RangeOption))
    → option_map (choice_after (record seen { limit = limit_value offset count; has_bad_limit = seen.has_bad_limit || is_none (limit_value offset count) })) options
    ≡ option_map (choice_after seen) (option_map (λ more. LimitTo offset count ∷ more) options)
choice_after-limit seen offset count None = refl
choice_after-limit seen offset count (Some options) =
    ap (λ b. Some (record { with_scores = seen.with_scores || list_any is_with_scores options; limit = last_limit (limit_value offset count) options; has_bad_limit = b }))
    (or_assoc seen.has_bad_limit (is_none (limit_value offset count)) (list_any is_bad_limit options))

-- nothing more is seen
choice_after-none : (seen : RangeChoice) → choice_after seen [] ≡ seen
choice_after-none seen = rw (or-false seen.with_scores, or-false seen.has_bad_limit) refl

-- the steps of reading options: what they come to stays as it was at the first word
pub with_scores_step : (seen : RangeChoice) (words rest : List (List ℕ)) (all : Option RangeChoice) → option_map (choice_after seen) (range_options words) ≡ all
    → 0 < length words → is_named (codes "WITHSCORES") (word_at words 0) ≡ true → rest ≡ drop 1 words
    → option_map (choice_after (record seen { with_scores = true })) (range_options rest) ≡ all
with_scores_step seen words rest all known some named behind =
    choice_after-with_scores seen (range_options rest)
    ∙ ap (λ r. option_map (choice_after seen) (option_map (λ more. WithScores ∷ more) (range_options r))) behind
    ∙ sym (ap (option_map (choice_after seen)) (range_options-with_scores words some named))
    ∙ known

pub limit_step : (seen next : RangeChoice) (limit : Option Limit) (words rest : List (List ℕ)) (all : Option RangeChoice) → option_map (choice_after seen) (range_options words) ≡ all
    → 3 ≤ length words → is_named (codes "WITHSCORES") (word_at words 0) ≡ false → is_named (codes "LIMIT") (word_at words 0) ≡ true → rest ≡ drop 3 words
    → limit ≡ limit_value (word_at words 1) (word_at words 2) → next ≡ record seen { limit = limit; has_bad_limit = seen.has_bad_limit || is_none limit }
    → option_map (choice_after next) (range_options rest) ≡ all
limit_step seen next limit words rest all known some other named behind is_limit is_next =
    ap (λ n. option_map (choice_after n) (range_options rest)) is_next
    ∙ ap (λ l. option_map (choice_after (record seen { limit = l; has_bad_limit = seen.has_bad_limit || is_none l })) (range_options rest)) is_limit
    ∙ choice_after-limit seen (word_at words 1) (word_at words 2) (range_options rest)
    ∙ ap (λ r. option_map (choice_after seen) (option_map (λ more. LimitTo (word_at words 1) (word_at words 2) ∷ more) (range_options r))) behind
    ∙ sym (ap (option_map (choice_after seen)) (range_options-limit words some other named))
    ∙ known

pub no_options : (seen : RangeChoice) (words : List (List ℕ)) (all : Option RangeChoice) → option_map (choice_after seen) (range_options words) ≡ all → range_options words ≡ None → None ≡ all
no_options seen words all known none = sym (ap (option_map (choice_after seen)) none) ∙ known

pub options_end : (seen : RangeChoice) (words : List (List ℕ)) (all : Option RangeChoice) → option_map (choice_after seen) (range_options words) ≡ all → length words ≡ 0 → Some seen ≡ all
unfolding range_options
options_end seen [] all known empty = ap Some (sym (choice_after-none seen)) ∙ known
options_end seen (word ∷ words) all known empty = absurd (omega (arith, empty))
