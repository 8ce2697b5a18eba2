-- What a request is read as asks for nothing that a request cannot carry.
use Rattle.std.proofs.Common.{◌≡◌, ℕ, zero, suc, Bool, true, false, cond, List, [], ◌∷◌, length, drop, Option, None, Some, option_map, option_and_then, IfSome, Ok, Err, ℤ, pos, negsuc, refl, ap, subst, arith}
use Rattle.std.specs.Prelude.{codes}
use Rattle.std.specs.List.{All, AllByRecursion, list_any}
use Rattle.std.specs.Option.{ok_or, option_map_or}
use Rattle.std.specs.Str.Parse.{signed_digits_value}
use Rattle.std.proofs.lemmas.Bool.{and_parts, ltb-false, not-true}
use Rattle.resp_wire.specs.RequestEncoding.{IsArgument, IsRequest}
use Rattle.score_bounds.specs.ScoreTexts.{IsScore, is_score, integer_value, score_value}
use Rattle.score_bounds.specs.declared.ranges_and_cuts.Range.{Range}
use Rattle.zset_commands.specs.AbstractCommand.{Meaning}
use Rattle.zset_commands.specs.AbstractCommand as meanings
use Rattle.zset_commands.specs.MeaningOfForm.{word_at}
use Rattle.zset_commands.specs.CommandGrammar.{add_options, add_pairs, has_option, pairs_value, add_meaning, incr_meaning, asked_flags, command_meaning, meaning, command_named, refusal_of, asked, asked_range, asked_options, RangeOption, is_with_scores, last_limit}
use Rattle.zset_commands.specs.RequestLimits.{IsSpelled, IsBoundedMeaning}
use Rattle.zset_commands.specs.declared.name.CommandName.{CommandName}
use Rattle.zset_commands.specs.declared.name.CommandName.TheVariants.{Ping, Add, Remove, RemoveRange, Score, Card, Count, ListRange}
use Rattle.zset_commands.specs.declared.flags.Flags.{Flags}
use Rattle.zset_commands.specs.declared.refusal.Refusal.{Refusal}
use Rattle.zset_commands.specs.declared.refusal.Refusal.TheVariants.{UnknownCommand}

abbrev Pair : Type 0
Pair = ℤ × List ℕ

pub passing : (number : ℤ) → is_score number ≡ true → IsScore number
passing (pos n) passes = record { sfits = omega (arith, ltb-false 9223372036854775807 n (not-true _ passes)) }
passing (negsuc n) passes = record { sfits = omega (arith, ltb-false 9223372036854775807 n (not-true _ (and_parts _ _ passes).0)) }

some_is : {X : Type 0} (a b : X) → Some a ≡ Some b → a ≡ b
some_is a b e = cc

pub each_by_recursion : (ws : List (List ℕ)) → All IsArgument ws → AllByRecursion IsArgument ws
each_by_recursion [] h = tt
each_by_recursion (w ∷ ws) h = (h 0 w (omega arith), each_by_recursion ws (λ k d lt. h (suc k) d (omega arith)))

pub each_drop : (n : ℕ) (ws : List (List ℕ)) → AllByRecursion IsArgument ws → AllByRecursion IsArgument (drop n ws)
each_drop zero ws h = h
each_drop (suc n) [] h = tt
each_drop (suc n) (w ∷ ws) h = each_drop n ws h.1

word_at_bounded : (ws : List (List ℕ)) (i : ℕ) → AllByRecursion IsArgument ws → IsArgument (word_at ws i)
word_at_bounded [] i h = omega arith
word_at_bounded (w ∷ ws) zero h = h.0
word_at_bounded (w ∷ ws) (suc i) h = word_at_bounded ws i h.1

chosen : {X : Type 0} (b : Bool) (x : Option X) (y : X) → cond b x None ≡ Some y → (b ≡ true) × (x ≡ Some y)
chosen true x y same = (refl, same)
chosen false x y same = absurd (let no : ⊥ = cc in no)

integer_bounded : (text : List ℕ) (number : ℤ) → integer_value text ≡ Some number → IsScore number
unfolding integer_value
integer_bounded text number is =
    let both = chosen _ _ _ is in
    subst IsScore (some_is (signed_digits_value 10 text) number both.1) (passing (signed_digits_value 10 text) (and_parts _ _ both.0).1)

score_bounded : (text : List ℕ) (score : ℤ) → score_value text ≡ Some score → IsScore score
unfolding score_value
score_bounded text score is = integer_bounded _ score (chosen _ _ _ is).1

pairs_spelled : (ws : List (List ℕ)) → AllByRecursion IsArgument ws → IfSome (pairs_value ws) (AllByRecursion IsSpelled)
unfolding pairs_value
pairs_spelled [] h = tt
pairs_spelled (member ∷ []) h = tt
pairs_spelled (score ∷ member ∷ more) h = by (score_value score) refl (pairs_value more) (pairs_spelled more h.1.1)
  where
    by : (o : Option ℤ) → score_value score ≡ o → (others : Option (List Pair)) → IfSome others (AllByRecursion IsSpelled)
        → IfSome (option_and_then (λ first. option_map (λ others. (first, member) ∷ others) others) o) (AllByRecursion IsSpelled)
    by None e others each = tt
    by (Some first) e None each = tt
    by (Some first) e (Some others) each = ((score_bounded score first e, h.1.0), each)

pairs_are_spelled : (ws : List (List ℕ)) → AllByRecursion IsArgument ws → IfSome (pairs_value (add_pairs ws)) (AllByRecursion IsSpelled)
unfolding add_pairs
pairs_are_spelled ws h = pairs_spelled (drop (length (add_options ws)) (drop 2 ws)) (each_drop (length (add_options ws)) (drop 2 ws) (each_drop 2 ws h))

increase_meant : (key : List ℕ) (f : Flags) (ps : List Pair) (c : Meaning) → IsArgument key → AllByRecursion IsSpelled ps → incr_meaning key f ps ≡ Some c → IsBoundedMeaning c
increase_meant key f [] c word each is = absurd (let no : None ≡ Some c = is in cc)
increase_meant key f (p ∷ []) c word each is = subst IsBoundedMeaning (let same : meanings.Changes key (meanings.Increase f p.0 p.1) ≡ c = cc in same) (record { key = word; puts = each.0 })
increase_meant key f (p ∷ q ∷ ps) c word each is = absurd (let no : None ≡ Some c = is in cc)

add_meant : (ws : List (List ℕ)) (ps : List Pair) (c : Meaning) → AllByRecursion IsArgument ws → AllByRecursion IsSpelled ps → add_meaning ws ps ≡ Some c → IsBoundedMeaning c
add_meant ws ps c words each is = by _ is
  where
    by : (b : Bool)
        → cond b (incr_meaning (word_at ws 1) (asked_flags (add_options ws)) ps) (Some (meanings.Changes (word_at ws 1) (meanings.Add (asked_flags (add_options ws)) (has_option (codes "CH") (add_options ws)) ps))) ≡ Some c
        → IsBoundedMeaning c
    by true h = increase_meant (word_at ws 1) (asked_flags (add_options ws)) ps c (word_at_bounded ws 1 words) each h
    by false h = subst IsBoundedMeaning (let same : meanings.Changes (word_at ws 1) (meanings.Add (asked_flags (add_options ws)) (has_option (codes "CH") (add_options ws)) ps) ≡ c = cc in same) (record { key = word_at_bounded ws 1 words; puts = each })

command_meant : (name : CommandName) (ws : List (List ℕ)) (c : Meaning) → AllByRecursion IsArgument ws → command_meaning name ws ≡ Some c → IsBoundedMeaning c
command_meant Ping ws c words is = subst IsBoundedMeaning (some_is _ _ is) (record { key = tt; puts = tt })
command_meant Add ws c words is = by (pairs_value (add_pairs ws)) (pairs_are_spelled ws words) is
  where
    by : (o : Option (List Pair)) → IfSome o (AllByRecursion IsSpelled) → option_and_then (add_meaning ws) o ≡ Some c → IsBoundedMeaning c
    by None each h = absurd (let no : None ≡ Some c = h in cc)
    by (Some ps) each h = add_meant ws ps c words each h
command_meant Remove ws c words is = subst IsBoundedMeaning (some_is _ _ is) (record { key = word_at_bounded ws 1 words; puts = tt })
command_meant RemoveRange ws c words is = by (asked_range ws) is
  where
    by : (o : Option Range) → option_map (λ range. meanings.Changes (word_at ws 1) (meanings.RemoveRange range)) o ≡ Some c → IsBoundedMeaning c
    by None h = absurd (let no : None ≡ Some c = h in cc)
    by (Some range) h = subst IsBoundedMeaning (some_is _ _ h) (record { key = word_at_bounded ws 1 words; puts = tt })
command_meant Score ws c words is = subst IsBoundedMeaning (some_is _ _ is) (record { key = word_at_bounded ws 1 words; puts = tt })
command_meant Card ws c words is = subst IsBoundedMeaning (some_is _ _ is) (record { key = word_at_bounded ws 1 words; puts = tt })
command_meant Count ws c words is = by (asked_range ws) is
  where
    by : (o : Option Range) → option_map (λ range. meanings.Asks (word_at ws 1) (meanings.Count range)) o ≡ Some c → IsBoundedMeaning c
    by None h = absurd (let no : None ≡ Some c = h in cc)
    by (Some range) h = subst IsBoundedMeaning (some_is _ _ h) (record { key = word_at_bounded ws 1 words; puts = tt })
command_meant ListRange ws c words is = by (asked_range ws) (asked_options ws) is
  where
    by : (range : Option Range) (options : Option (List RangeOption))
        → option_and_then (λ range. option_map (λ options. meanings.Asks (word_at ws 1) (meanings.ListRange range (list_any is_with_scores options) (last_limit None options))) options) range ≡ Some c → IsBoundedMeaning c
    by None options h = absurd (let no : None ≡ Some c = h in cc)
    by (Some range) None h = absurd (let no : None ≡ Some c = h in cc)
    by (Some range) (Some options) h = subst IsBoundedMeaning (some_is _ _ h) (record { key = word_at_bounded ws 1 words; puts = tt })

read_as : (r : Option Refusal) (o : Option Meaning) (c : Meaning) → option_map_or Err r (ok_or o UnknownCommand) ≡ Ok c → o ≡ Some c
read_as None None c h = absurd (let no : Err UnknownCommand ≡ Ok c = h in cc)
read_as None (Some d) c h = let same : d ≡ c = cc in ap Some same
read_as (Some refusal) o c h = absurd (let no : Err refusal ≡ Ok c = h in cc)

meant_by : (name : Option CommandName) (ws : List (List ℕ)) (c : Meaning) → AllByRecursion IsArgument ws → option_and_then (λ name. command_meaning name ws) name ≡ Some c → IsBoundedMeaning c
meant_by None ws c words is = absurd (let no : None ≡ Some c = is in cc)
meant_by (Some name) ws c words is = command_meant name ws c words is

means_bounded : (ws : List (List ℕ)) (c : Meaning) → AllByRecursion IsArgument ws → meaning ws ≡ Some c → IsBoundedMeaning c
unfolding meaning
means_bounded ws c words is = meant_by (command_named (word_at ws 0)) ws c words is

-- a request asks for nothing that a request cannot spell
pub asked_bounded : (ws : List (List ℕ)) (c : Meaning) → IsRequest ws → asked ws ≡ Ok c → IsBoundedMeaning c
unfolding asked
asked_bounded ws c request is = means_bounded ws c (each_by_recursion ws request.each) (read_as (refusal_of ws) (meaning ws) c is)
