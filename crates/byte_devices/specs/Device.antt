-- What the calls of a source or a drain do to the bytes that it tells and to its counts.
use Rattle.std.specs.Prelude.{ℕ, ◌+◌, ◌-◌, ◌^◌, ◌<◌, ◌≤◌, ◌⊎◌, min, List, [], take, Option, Result, Ok, Err}

-- the prefix of the bytes that a call moved: so many where it is Ok, and none where it failed
abbrev pub moved : {E : Type 0} → Result ℕ E → List ℕ → List ℕ
moved (Ok n) bytes = take n bytes
moved (Err _) bytes = []

-- a count of 64 bits after one more, which stays at its greatest
abbrev pub saturating_succ : ℕ → ℕ
saturating_succ n = min (n + 1) (2 ^ 64 - 1)

-- the count of failures after a call with this result
abbrev pub failures_after : {T E : Type 0} → ℕ → Result T E → ℕ
failures_after n (Ok _) = n
failures_after n (Err _) = saturating_succ n

-- the bytes that a drain has sent on after a flush with this result, where it had taken these
abbrev pub flushed_after : {T E : Type 0} → Option (List ℕ) → Option (List ℕ) → Result T E → Option (List ℕ)
flushed_after flushed told (Ok _) = told
flushed_after flushed told (Err _) = flushed

-- a count rose, or stands at its greatest, which counts as saturating_succ
abbrev pub Rose : ℕ → ℕ → Type 0
Rose old new = (old < new) ⊎ (2 ^ 64 ≤ new + 1)
