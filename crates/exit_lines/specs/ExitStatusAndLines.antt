-- How the program ends: its exit status, and the lines on standard error.
use Rattle.std.specs.Prelude.{◌≡◌, ℕ, ◌-◌, ◌⊎◌, map, option_map, List, [], ◌∷◌, Option, None, Some, Result, Ok, Err}
use Rattle.std.specs.Io.KnownBytes.{append_known}
use Rattle.resp_wire.specs.Device.{Rose}
use Rattle.exit_lines.specs.DeviceStates.{DrainState}
use Rattle.exit_lines.specs.declared.lines_and_statuses.Line.{Line}
use Rattle.exit_lines.specs.declared.lines_and_statuses.Line.TheVariants as lines
use Rattle.exit_lines.specs.declared.lines_and_statuses.Finish.{Finish}

-- the exit status of an end for a cause; 0 for a notice, after which the work goes on
abbrev pub status_of : Line → ℕ
status_of (lines.TornEnd bytes) = 0
status_of lines.BadCommandLine = 2
status_of (lines.CannotUseFile cause) = 3
status_of (lines.FileDamaged at) = 3
status_of (lines.NoCommandInFile at) = 3
status_of lines.UnknownVersion = 3
status_of lines.FileReadFault = 3
status_of lines.FileReadTooOften = 3
status_of lines.MoreKeysThanPlaces = 3
status_of lines.CannotListen = 3
status_of lines.OutOfMemory = 4
status_of lines.CannotStartWorkers = 4
status_of _ = 1

-- the end for one cause
abbrev pub finish_by : Line → Finish
finish_by line = record { status = status_of line; lines = Some line ∷ None ∷ [] }

-- the first of the lines of an end
abbrev pub first_line : List (Option Line) → Option Line
first_line [] = None
first_line (line ∷ lines) = line

-- an end with a notice before its line
abbrev pub noticed : Option Line → Finish → Finish
noticed None finish = finish
noticed (Some line) finish = record { status = finish.status; lines = Some line ∷ first_line finish.lines ∷ [] }

-- a line that counts bytes of replies, without those that were held back
abbrev pub line_without_held : ℕ → Line → Line
line_without_held held (lines.WriteFaultAfter out) = lines.WriteFaultAfter (out - held)
line_without_held held line = line

-- an end after which so many bytes of replies were still held back
abbrev pub without_held : ℕ → Finish → Finish
without_held held finish = record { status = finish.status; lines = map (option_map (line_without_held held)) finish.lines }

-- a text was printed and sent on; or there was no memory for it, and nothing was printed, or the drain failed
abbrev pub IsPrinted : List ℕ → Result Unit Line → DrainState → DrainState → Type 0
IsPrinted text (Ok unit) drain₀ drain₁ = (drain₁.told ≡ append_known drain₀.told text) × (drain₁.flushed ≡ drain₁.told)
IsPrinted text (Err line) drain₀ drain₁ = ((line ≡ lines.OutOfMemory) × (drain₁ ≡ drain₀)) ⊎ ((line ≡ lines.WriteFault) × Rose drain₀.failures drain₁.failures)
