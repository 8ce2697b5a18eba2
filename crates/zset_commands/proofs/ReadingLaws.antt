-- A request that is not refused has a meaning, and the conditions stand by rising numbers.
use Rattle.std.proofs.Common.{◌≡◌, ℕ, zero, suc, ◌+◌, ◌<◌, lit<, Bool, true, false, not, ◌&&◌, List, [], ◌∷◌, length, map, refl, subst, Option, Some, None, ℤ, arith}
use Rattle.std.specs.Prelude.{codes, is_none, IsSome, option_map, option_and_then, unwrap_or}
use Rattle.std.specs.List.{list_any}
use Rattle.std.specs.List.Sorted.{IsStrictlyIncreasing}
use Rattle.std.proofs.lemmas.Bool.{eqb-true, not-false}
use Rattle.score_bounds.specs.ScoreTexts.{score_value}
use Rattle.zset_commands.specs.MeaningOfForm.{word_at}
use Rattle.zset_commands.specs.Refusal.{refusal_number}
use Rattle.zset_commands.specs.CommandGrammar.{first_of, has_option, has_two_of_gt_lt_nx, has_arity, are_pairs, asked_flags, asked_range, asked_options, is_bad_limit, add_meaning, incr_meaning, add_options, add_pairs, pairs_value, command_named, command_conditions, named_conditions, conditions, command_meaning, meaning, refusal_of}
use Rattle.zset_commands.specs.declared.name.CommandName.{CommandName}
use Rattle.zset_commands.specs.declared.name.CommandName.TheVariants as names
use Rattle.zset_commands.specs.declared.refusal.Refusal.{Refusal}
use Rattle.zset_commands.specs.declared.refusal.Refusal.TheVariants.{Syntax, NxAndXx, GtLtNx, IncrPair, BadScore, BadBound, BadInteger, WrongArity}
use Rattle.zset_commands.proofs.Adding.{value_of_one}
use lib.Dec.{eqb}

-- where none of the conditions holds, the first does not, and none of the others does
first_false : (b : Bool) (refusal : Refusal) (more : List (Bool × Refusal)) → first_of ((b, refusal) ∷ more) ≡ None → (b ≡ false) × (first_of more ≡ None)
first_false true refusal more none = absurd (let no : ⊥ = cc in no)
first_false false refusal more none = (refl, none)

some_of : {X : Type 0} (o : Option X) → is_none o ≡ false → IsSome o
some_of None none = absurd (let no : ⊥ = cc in no)
some_of (Some x) none = refl

some_map : {X Y : Type 0} (f : X → Y) (o : Option X) → IsSome o → IsSome (option_map f o)
some_map f None some = absurd (let no : ⊥ = cc in no)
some_map f (Some x) some = refl

some_then : {X Y : Type 0} (f : X → Option Y) (o : Option X) → IsSome o → ((x : X) → o ≡ Some x → IsSome (f x)) → IsSome (option_and_then f o)
some_then f None some each = absurd (let no : ⊥ = cc in no)
some_then f (Some x) some each = each x refl

count_meant : (words : List (List ℕ)) → first_of (command_conditions names.Count words) ≡ None → IsSome (command_meaning names.Count words)
count_meant words none = some_map _ (asked_range words) (some_of _ (first_false (is_none (asked_range words)) BadBound [] none).0)

remove_range_meant : (words : List (List ℕ)) → first_of (command_conditions names.RemoveRange words) ≡ None → IsSome (command_meaning names.RemoveRange words)
remove_range_meant words none = some_map _ (asked_range words) (some_of _ (first_false (is_none (asked_range words)) BadBound [] none).0)

list_range_meant : (words : List (List ℕ)) → first_of (command_conditions names.ListRange words) ≡ None → IsSome (command_meaning names.ListRange words)
list_range_meant words none =
    let integers : List (Bool × Refusal) = (list_any is_bad_limit (unwrap_or (asked_options words) []), BadInteger) ∷ [] in
    let bounds : List (Bool × Refusal) = (is_none (asked_range words), BadBound) ∷ integers in
    let options = first_false (is_none (asked_options words)) Syntax bounds none in
    let range = first_false (is_none (asked_range words)) BadBound integers options.1 in
    some_then _ (asked_range words) (some_of _ range.0) (λ r is. some_map _ (asked_options words) (some_of _ options.0))

-- INCR's one pair
one_pair : (words : List (List ℕ)) → length (add_pairs words) ≡ 2 → (pairs : List (ℤ × List ℕ)) → pairs_value (add_pairs words) ≡ Some pairs
    → IsSome (incr_meaning (word_at words 1) (asked_flags (add_options words)) pairs)
one_pair words two pairs is = over (score_value (word_at (add_pairs words) 0)) refl
  where
    over : (read : Option ℤ) → score_value (word_at (add_pairs words) 0) ≡ read → IsSome (incr_meaning (word_at words 1) (asked_flags (add_options words)) pairs)
    over None read = let value = value_of_one (add_pairs words) two None read in absurd (let no : ⊥ = cc (value, is) in no)
    over (Some given) read =
        let value = value_of_one (add_pairs words) two (Some given) read in
        let same : (given, word_at (add_pairs words) 1) ∷ [] ≡ pairs = cc (value, is) in
        subst (λ ps. IsSome (incr_meaning (word_at words 1) (asked_flags (add_options words)) ps)) same refl

add_meant : (words : List (List ℕ)) → first_of (command_conditions names.Add words) ≡ None → IsSome (command_meaning names.Add words)
add_meant words none =
    let is_many : Bool = has_option (codes "INCR") (add_options words) && not (eqb (length (add_pairs words)) 2) in
    let both : Bool = has_option (codes "NX") (add_options words) && has_option (codes "XX") (add_options words) in
    let case_score : List (Bool × Refusal) = (is_none (pairs_value (add_pairs words)), BadScore) ∷ [] in
    let case_one : List (Bool × Refusal) = (is_many, IncrPair) ∷ case_score in
    let case_two : List (Bool × Refusal) = (has_two_of_gt_lt_nx (asked_flags (add_options words)), GtLtNx) ∷ case_one in
    let case_both : List (Bool × Refusal) = (both, NxAndXx) ∷ case_two in
    let whole = first_false (not (are_pairs (add_pairs words))) Syntax case_both none in
    let apart = first_false both NxAndXx case_two whole.1 in
    let agreeing = first_false (has_two_of_gt_lt_nx (asked_flags (add_options words))) GtLtNx case_one apart.1 in
    let one = first_false is_many IncrPair case_score agreeing.1 in
    let scores = first_false (is_none (pairs_value (add_pairs words))) BadScore [] one.1 in
    by_option (has_option (codes "INCR") (add_options words)) refl one.0 (some_of _ scores.0)
  where
    by_option : (incr : Bool) → has_option (codes "INCR") (add_options words) ≡ incr
        → (has_option (codes "INCR") (add_options words) && not (eqb (length (add_pairs words)) 2)) ≡ false
        → IsSome (pairs_value (add_pairs words)) → IsSome (option_and_then (add_meaning words) (pairs_value (add_pairs words)))
    by_option true incr one some =
        let two : length (add_pairs words) ≡ 2 = eqb-true _ _ (not-false _ (rw incr at one)) in
        some_then (add_meaning words) (pairs_value (add_pairs words)) some (λ pairs is. rw incr (one_pair words two pairs is))
    by_option false incr one some =
        some_then (add_meaning words) (pairs_value (add_pairs words)) some (λ pairs is. rw incr refl)

command_meant : (name : CommandName) (words : List (List ℕ)) → first_of (command_conditions name words) ≡ None → IsSome (command_meaning name words)
command_meant names.Ping words none = refl
command_meant names.Add words none = add_meant words none
command_meant names.Remove words none = refl
command_meant names.RemoveRange words none = remove_range_meant words none
command_meant names.Score words none = refl
command_meant names.Card words none = refl
command_meant names.Count words none = count_meant words none
command_meant names.ListRange words none = list_range_meant words none

pub meant : (words : List (List ℕ)) → refusal_of words ≡ None → IsSome (meaning words)
unfolding meaning refusal_of
meant words none = over (command_named (word_at words 0)) none
  where
    over : (name : Option CommandName) → first_of (named_conditions name words) ≡ None → IsSome (option_and_then (λ n. command_meaning n words) name)
    over None refused = absurd (let no : ⊥ = cc in no)
    over (Some name) unrefused = command_meant name words (first_false (not (has_arity name (length words))) WrongArity (command_conditions name words) unrefused).1

-- rising numbers
one_number : (x : ℕ) → IsStrictlyIncreasing (x ∷ [])
one_number x k below = absurd (omega (arith, below))

more_numbers : (x y : ℕ) (rest : List ℕ) → x < y → IsStrictlyIncreasing (y ∷ rest) → IsStrictlyIncreasing (x ∷ y ∷ rest)
more_numbers x y rest less others zero below = less
more_numbers x y rest less others (suc k) below = let next : suc k + 1 ≡ suc (k + 1) = omega arith in rw next (others k (omega (arith, below)))

pub numbers_rise : (words : List (List ℕ)) → IsStrictlyIncreasing (map (λ c. refusal_number c.1) (conditions words))
numbers_rise words = over (command_named (word_at words 0))
  where
    over : (name : Option CommandName) → IsStrictlyIncreasing (map (λ c. refusal_number c.1) (named_conditions name words))
    over None = one_number 2
    over (Some names.Ping) = one_number 3
    over (Some names.Add) =
        let last = more_numbers 6 7 (8 ∷ []) (lit< tt) (more_numbers 7 8 [] (lit< tt) (one_number 8)) in
        more_numbers 3 4 (5 ∷ 6 ∷ 7 ∷ 8 ∷ []) (lit< tt)
        (more_numbers 4 5 (6 ∷ 7 ∷ 8 ∷ []) (lit< tt) (more_numbers 5 6 (7 ∷ 8 ∷ []) (lit< tt) last))
    over (Some names.Remove) = one_number 3
    over (Some names.RemoveRange) = more_numbers 3 9 [] (lit< tt) (one_number 9)
    over (Some names.Score) = one_number 3
    over (Some names.Card) = one_number 3
    over (Some names.Count) = more_numbers 3 9 [] (lit< tt) (one_number 9)
    over (Some names.ListRange) =
        more_numbers 3 4 (9 ∷ 10 ∷ []) (lit< tt) (more_numbers 4 9 (10 ∷ []) (lit< tt) (more_numbers 9 10 [] (lit< tt) (one_number 10)))
