-- What the calls of a device that may not be ready do to its bytes.
use Rattle.std.specs.Prelude.{ℕ, List, [], take, Option, Some, None, Result, Ok, Err}

-- the prefix of the bytes that a call moved: none where the device was not ready or failed
abbrev pub moved_now : {E : Type 0} → Result (Option ℕ) E → List ℕ → List ℕ
moved_now (Ok (Some n)) bytes = take n bytes
moved_now (Ok None) bytes = []
moved_now (Err failed) bytes = []
