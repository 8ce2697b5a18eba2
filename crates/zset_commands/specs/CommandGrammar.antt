-- How a request is read as a command: the names, the number of words and the options of the commands
-- (Redis command pages of PING, ZADD, ZREM, ZREMRANGEBYSCORE, ZSCORE, ZCARD, ZCOUNT, ZRANGEBYSCORE), and the first refusal whose condition holds.
use Rattle.std.specs.Prelude.{ℕ, ◌%◌, Bool, true, false, not, ◌&&◌, ◌||◌, ◌==◌, nat_le, if◌then◌else◌, ℤ, List, [], ◌∷◌, length, drop, slice_get, codes, Option, None, Some, is_none, unwrap_or, option_map, option_and_then, Result, Err}
use Rattle.std.specs.List.{find, take_while, list_any}
use Rattle.std.specs.Option.{option_map_or, ok_or}
use Rattle.std.specs.Str.{str_eq_ignore_ascii_case}
use Rattle.score_bounds.specs.ScoreTexts.{score_value, integer_value}
use Rattle.score_bounds.specs.RangesAndCuts.{range_value}
use Rattle.score_bounds.specs.declared.ranges_and_cuts.Range.{Range}
use Rattle.zset_commands.specs.AbstractCommand.{Meaning}
use Rattle.zset_commands.specs.AbstractCommand as meanings
use Rattle.zset_commands.specs.MeaningOfForm.{word_at}
use Rattle.zset_commands.specs.declared.limit.Limit.{Limit}
use Rattle.zset_commands.specs.declared.flags.Flags.{Flags}
use Rattle.zset_commands.specs.declared.name.CommandName.{CommandName}
use Rattle.zset_commands.specs.declared.name.CommandName.TheVariants.{Ping, Add, Remove, RemoveRange, Score, Card, Count, ListRange}
use Rattle.zset_commands.specs.declared.refusal.Refusal.{Refusal}
use Rattle.zset_commands.specs.declared.refusal.Refusal.TheVariants.{UnknownCommand, WrongArity, Syntax, NxAndXx, GtLtNx, IncrPair, BadScore, BadBound, BadInteger}

-- an argument is this name, letters in either case
abbrev pub is_named : List ℕ → List ℕ → Bool
is_named name word = str_eq_ignore_ascii_case word name

-- the command of this name, or none
unfoldable pub command_named : List ℕ → Option CommandName
command_named name =
    if is_named (codes "PING") name then Some Ping
    else if is_named (codes "ZADD") name then Some Add
    else if is_named (codes "ZREM") name then Some Remove
    else if is_named (codes "ZREMRANGEBYSCORE") name then Some RemoveRange
    else if is_named (codes "ZSCORE") name then Some Score
    else if is_named (codes "ZCARD") name then Some Card
    else if is_named (codes "ZCOUNT") name then Some Count
    else if is_named (codes "ZRANGEBYSCORE") name then Some ListRange
    else None

-- a command takes this number of arguments, its name included
abbrev pub has_arity : CommandName → ℕ → Bool
has_arity Ping count = count == 1 || count == 2
has_arity Add count = nat_le 4 count
has_arity Remove count = nat_le 3 count
has_arity RemoveRange count = count == 4
has_arity Score count = count == 3
has_arity Card count = count == 2
has_arity Count count = count == 4
has_arity ListRange count = nat_le 4 count

-- ZADD: the options are the longest row of option words behind the key, and the pairs are all words behind them
abbrev pub is_add_option : List ℕ → Bool
is_add_option word =
    is_named (codes "NX") word || is_named (codes "XX") word || is_named (codes "GT") word || is_named (codes "LT") word
    || is_named (codes "CH") word || is_named (codes "INCR") word

unfoldable pub add_options : List (List ℕ) → List (List ℕ)
add_options words = take_while is_add_option (drop 2 words)

unfoldable pub add_pairs : List (List ℕ) → List (List ℕ)
add_pairs words = drop (length (add_options words)) (drop 2 words)

abbrev pub has_option : List ℕ → List (List ℕ) → Bool
has_option name options = list_any (is_named name) options

abbrev pub asked_flags : List (List ℕ) → Flags
asked_flags options = record {
  nx = has_option (codes "NX") options;
  xx = has_option (codes "XX") options;
  gt = has_option (codes "GT") options;
  lt = has_option (codes "LT") options;
}

-- two of GT, LT and NX were given, which exclude each other
abbrev pub has_two_of_gt_lt_nx : Flags → Bool
has_two_of_gt_lt_nx flags = (flags.gt && flags.lt) || (flags.nx && (flags.gt || flags.lt))

-- whole pairs, one at least
abbrev pub are_pairs : List (List ℕ) → Bool
are_pairs words = not (length words == 0) && length words % 2 == 0

-- the scores and members of pairs, or none where a word is no score
unfoldable pub pairs_value : List (List ℕ) → Option (List (ℤ × List ℕ))
pairs_value [] = Some []
pairs_value (member ∷ []) = None
pairs_value (score ∷ member ∷ more) =
    option_and_then (λ first. option_map (λ others. (first, member) ∷ others) (pairs_value more)) (score_value score)

-- the range of ZREMRANGEBYSCORE, ZCOUNT and ZRANGEBYSCORE
abbrev pub asked_range : List (List ℕ) → Option Range
asked_range words = range_value (word_at words 2) (word_at words 3)

-- an option of ZRANGEBYSCORE: WITHSCORES, or LIMIT with two words
pub data RangeOption : Type 0 where
  WithScores : RangeOption
  LimitTo : (offset count : List ℕ) → RangeOption

-- the options that words are, or none where they are not all options
unfoldable mutual
  pub range_options : List (List ℕ) → Option (List RangeOption)
  range_options [] = Some []
  range_options (word ∷ more) =
      if is_named (codes "WITHSCORES") word then option_map (λ others. WithScores ∷ others) (range_options more)
      else if is_named (codes "LIMIT") word then limit_options more
      else None

  -- the same behind the word LIMIT
  pub limit_options : List (List ℕ) → Option (List RangeOption)
  limit_options [] = None
  limit_options (offset ∷ []) = None
  limit_options (offset ∷ count ∷ more) = option_map (λ others. LimitTo offset count ∷ others) (range_options more)

abbrev pub is_with_scores : RangeOption → Bool
is_with_scores WithScores = true
is_with_scores (LimitTo offset count) = false

-- the limit of a LIMIT's words, or none where one of them is no integer
abbrev pub limit_value : List ℕ → List ℕ → Option Limit
limit_value offset count =
    option_and_then (λ first. option_map (λ most. record { offset = first; count = most }) (integer_value count)) (integer_value offset)

abbrev pub is_bad_limit : RangeOption → Bool
is_bad_limit WithScores = false
is_bad_limit (LimitTo offset count) = is_none (limit_value offset count)

-- the limit of the last LIMIT, or the given one where there is none
abbrev pub last_limit : Option Limit → List RangeOption → Option Limit
last_limit limit [] = limit
last_limit limit (WithScores ∷ more) = last_limit limit more
last_limit limit (LimitTo offset count ∷ more) = last_limit (limit_value offset count) more

-- the options of ZRANGEBYSCORE, which stand behind its four words
abbrev pub asked_options : List (List ℕ) → Option (List RangeOption)
asked_options words = range_options (drop 4 words)

-- the conditions of the refusals of a command with the right number of words, by rising number
abbrev pub command_conditions : CommandName → List (List ℕ) → List (Bool × Refusal)
command_conditions Ping words = []
command_conditions Add words =
    let options = add_options words in
    let pairs = add_pairs words in
    (not (are_pairs pairs), Syntax)
    ∷ (has_option (codes "NX") options && has_option (codes "XX") options, NxAndXx)
    ∷ (has_two_of_gt_lt_nx (asked_flags options), GtLtNx)
    ∷ (has_option (codes "INCR") options && not (length pairs == 2), IncrPair)
    ∷ (is_none (pairs_value pairs), BadScore)
    ∷ []
command_conditions Remove words = []
command_conditions RemoveRange words = (is_none (asked_range words), BadBound) ∷ []
command_conditions Score words = []
command_conditions Card words = []
command_conditions Count words = (is_none (asked_range words), BadBound) ∷ []
command_conditions ListRange words =
    (is_none (asked_options words), Syntax)
    ∷ (is_none (asked_range words), BadBound)
    ∷ (list_any is_bad_limit (unwrap_or (asked_options words) []), BadInteger)
    ∷ []

abbrev pub named_conditions : Option CommandName → List (List ℕ) → List (Bool × Refusal)
named_conditions None words = (true, UnknownCommand) ∷ []
named_conditions (Some name) words = (not (has_arity name (length words)), WrongArity) ∷ command_conditions name words

-- the conditions of all refusals that a request can get before it comes to a set, by rising number
abbrev pub conditions : List (List ℕ) → List (Bool × Refusal)
conditions words = named_conditions (command_named (word_at words 0)) words

-- the first refusal whose condition holds
abbrev pub first_of : List (Bool × Refusal) → Option Refusal
first_of cases = option_map (λ c. c.1) (find (λ c. c.0) cases)

unfoldable pub refusal_of : List (List ℕ) → Option Refusal
refusal_of words = first_of (conditions words)

-- ZADD with INCR: its one pair
abbrev pub incr_meaning : List ℕ → Flags → List (ℤ × List ℕ) → Option Meaning
incr_meaning key flags ((given, member) ∷ []) = Some (meanings.Changes key (meanings.Increase flags given member))
incr_meaning key flags _ = None

-- ZADD with its pairs
abbrev pub add_meaning : List (List ℕ) → List (ℤ × List ℕ) → Option Meaning
add_meaning words pairs =
    let options = add_options words in
    let key = word_at words 1 in
    if has_option (codes "INCR") options
    then incr_meaning key (asked_flags options) pairs
    else Some (meanings.Changes key (meanings.Add (asked_flags options) (has_option (codes "CH") options) pairs))

-- what a command asks for, or none where a word is no score, bound or option where one is wanted. It is asked only of
-- words that no refusal stands against: of a LIMIT with a bad integer it would make no limit
abbrev pub command_meaning : CommandName → List (List ℕ) → Option Meaning
command_meaning Ping words = Some (meanings.Ping (slice_get words 1))
command_meaning Add words = option_and_then (add_meaning words) (pairs_value (add_pairs words))
command_meaning Remove words = Some (meanings.Changes (word_at words 1) (meanings.Remove (drop 2 words)))
command_meaning RemoveRange words =
    option_map (λ range. meanings.Changes (word_at words 1) (meanings.RemoveRange range)) (asked_range words)
command_meaning Score words = Some (meanings.Asks (word_at words 1) (meanings.Score (word_at words 2)))
command_meaning Card words = Some (meanings.Asks (word_at words 1) meanings.Card)
command_meaning Count words = option_map (λ range. meanings.Asks (word_at words 1) (meanings.Count range)) (asked_range words)
command_meaning ListRange words =
    option_and_then (λ range. option_map
    (λ options. meanings.Asks (word_at words 1) (meanings.ListRange range (list_any is_with_scores options) (last_limit None options)))
    (asked_options words)) (asked_range words)

unfoldable pub meaning : List (List ℕ) → Option Meaning
meaning words = option_and_then (λ name. command_meaning name words) (command_named (word_at words 0))

-- what a request is read as: the first refusal, and where there is none the meaning, which it then has
unfoldable pub asked : List (List ℕ) → Result Meaning Refusal
asked words = option_map_or Err (refusal_of words) (ok_or (meaning words) UnknownCommand)
