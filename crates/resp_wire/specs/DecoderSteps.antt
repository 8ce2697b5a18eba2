-- What the steps of a decoder say of the bytes at its cursor. The public definitions are those of `DecoderView`.
use Rattle.std.specs.Prelude.{◌≡◌, ℕ, ◌<◌, ◌≤◌, List, ◌++◌, length, drop, All, Result, Ok, Err}
use Rattle.std.specs.List.{flat_map, AllByRecursion}
use Rattle.resp_wire.specs.declared.fault.Failure.{Failure}
use Rattle.resp_wire.specs.declared.fault.Failure.TheVariants as failures
use Rattle.resp_wire.specs.declared.decoder_steps.End.{End}
use Rattle.resp_wire.specs.declared.decoder_steps.End.TheVariants as ends
use Rattle.resp_wire.specs.declared.decoder_steps.Step.{Step}
use Rattle.resp_messages.specs.RequestEncoding.{most_arguments, Item, IsSkip, IsArgument, encoding_of}
use Rattle.resp_wire.specs.Parser.{argument_at, item_at}
use Rattle.resp_wire.specs.DecoderView.{begun}

-- between bytes and rest there are skips alone
pub record SkipsTo (bytes rest : List ℕ) : Type 0 where
  pub skips : List Item
  pub each : AllByRecursion IsSkip skips
  pub text : bytes ≡ flat_map encoding_of skips ++ rest

-- where reading arguments stopped, for another cause than memory, more were due and the next can't be read
abbrev pub ArgumentStops : {U : Type 0} → Result U Failure → List ℕ → ℕ → ℕ → Type 0
ArgumentStops (Ok u) rest have count = Unit {0}
ArgumentStops (Err failures.Memory) rest have count = Unit {0}
ArgumentStops (Err (failures.Stop stop)) rest have count = (argument_at rest ≡ Err stop) × (have < count)

-- how the reading of a request ended: all its arguments are there; or memory ran out and nothing was read;
-- or the text of what is read, with the bytes behind it, is no item, for the cause that was told
abbrev pub EndIs : ℕ → List (List ℕ) → End → List (List ℕ) → List ℕ → Type 0
EndIs count before ends.Whole after rest = length after ≡ count
EndIs count before ends.Memory after rest = after ≡ before
EndIs count before (ends.Stopped stop) after rest = item_at (begun count after ++ rest) ≡ Err stop

-- a request of so many arguments went on from those before to those after, up to the rest
pub record Went (count : ℕ) (before : List (List ℕ)) (bytes : List ℕ) (end : End) (after : List (List ℕ)) (rest : List ℕ) : Type 0 where
  pub text : begun count before ++ bytes ≡ begun count after ++ rest
  pub shorter : length rest ≤ length bytes
  pub each : All IsArgument after
  pub few : length after ≤ count
  pub end_is : EndIs count before end after rest

-- one text is the other with skips before it, which are so many bytes
pub record Skips (before after : List ℕ) (skipped : ℕ) : Type 0 where
  pub skips : List Item
  pub each : AllByRecursion IsSkip skips
  pub text : before ≡ flat_map encoding_of skips ++ after
  pub many : skipped ≡ length (flat_map encoding_of skips)

-- P where memory ran out, else Q
abbrev pub StepEnd : End → Type 0 → Type 0 → Type 0
StepEnd ends.Memory P Q = P
StepEnd ends.Whole P Q = Q
StepEnd (ends.Stopped stop) P Q = Q

-- a step that memory did not stop
pub record Stepped (count : ℕ) (before : List (List ℕ)) (bytes : List ℕ) (step : Step) (after : List (List ℕ)) : Type 0 where
  pub text : Skips (begun count before ++ bytes) (begun step.count after ++ drop step.used bytes) step.skipped
  pub used : (step.skipped ≤ step.used) × (step.used ≤ length bytes)
  pub within : step.count ≤ most_arguments
  pub each : All IsArgument after
  pub few : length after ≤ step.count
  pub end_is : EndIs step.count before step.end after (drop step.used bytes)
  pub some : step.end ≡ ends.Whole → 0 < step.count

-- a step from these arguments of a request of count, and these bytes
abbrev pub Steps : ℕ → List (List ℕ) → List ℕ → Step → List (List ℕ) → Type 0
Steps count before bytes step after = StepEnd step.end (after ≡ before) (Stepped count before bytes step after)
