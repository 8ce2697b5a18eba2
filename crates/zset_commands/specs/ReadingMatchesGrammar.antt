-- What reading keeps of a request, against what the request asks for.
use Rattle.std.specs.Prelude.{◌≡◌, ◌≢◌, ℕ, ◌*◌, Bool, true, false, ◌&&◌, ◌||◌, ◌==◌, if◌then◌else◌, length, ℤ, List, Option, None, Some, Result, Ok, Err}
use Rattle.std.specs.List.{list_any}
use Rattle.std.specs.Option.{ok_or}
use Rattle.score_bounds.specs.ScoreTexts.{score_value}
use Rattle.zset_commands.specs.CommandGrammar.{are_pairs, asked_flags, RangeOption, has_two_of_gt_lt_nx, pairs_value, is_with_scores, is_bad_limit, last_limit, first_of}
use Rattle.zset_commands.specs.MeaningOfForm.{word_at, scored, meaning_of, IsWhole}
use Rattle.zset_commands.specs.AbstractCommand.{Meaning}
use Rattle.zset_commands.specs.declared.parsed_arguments.Form.{Form}
use Rattle.zset_commands.specs.declared.range_commands.RangeChoice.{RangeChoice}
use Rattle.zset_commands.specs.declared.flags.Flags.{Flags}
use Rattle.zset_commands.specs.declared.refusal.Refusal.{Refusal}
use Rattle.zset_commands.specs.declared.refusal.Refusal.TheVariants.{NoMemory, IncrPair, BadScore}

-- the form has the meaning of the words and no condition holds, or the refusal is the first whose condition holds
abbrev pub IsReading : {A : Type 0} → List (List ℕ) → List (Bool × Refusal) → Option Meaning → Result (Form A) Refusal → Type 0
IsReading words cases meaning (Ok form) = (first_of cases ≡ None) × (meaning ≡ Some (meaning_of words form)) × IsWhole words form
IsReading words cases meaning (Err refusal) = refusal ≢ NoMemory → first_of cases ≡ Some refusal

-- what options come to behind those that were seen
abbrev pub choice_after : RangeChoice → List RangeOption → RangeChoice
choice_after seen options = record {
  with_scores = seen.with_scores || list_any is_with_scores options;
  limit = last_limit seen.limit options;
  has_bad_limit = seen.has_bad_limit || list_any is_bad_limit options;
}

abbrev pub no_choice : RangeChoice
no_choice = record { with_scores = false; limit = None; has_bad_limit = false }

-- the scores of whole pairs
pub record AreScores (pairs : List (List ℕ)) (scores : List ℤ) : Type 0 where
  pub value : pairs_value pairs ≡ Some (scored scores pairs)
  pub all : 2 * length scores ≡ length pairs

-- the score of INCR's one pair, or why there is none
unfoldable pub given_value : List (List ℕ) → Result ℤ Refusal
given_value pairs = if length pairs == 2 then ok_or (score_value (word_at pairs 0)) BadScore else Err IncrPair

-- options and pairs of ZADD that are refused for none of syntax, both of NX and XX, and two of GT, LT and NX, with their flags
pub record AreAddParts (options pairs : List (List ℕ)) (flags : Flags) : Type 0 where
  pub whole : are_pairs pairs ≡ true
  pub flags_are : flags ≡ asked_flags options
  pub apart : (flags.nx && flags.xx) ≡ false
  pub agreeing : has_two_of_gt_lt_nx flags ≡ false
