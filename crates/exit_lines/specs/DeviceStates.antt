-- What the program's devices tell of themselves.
use Rattle.std.specs.Prelude.{ℕ, List, Option}

-- a source: the bytes that are left, where they are known; how often it was read; how many reads failed
pub record SourceState : Type 0 where
  pub told : Option (List ℕ)
  pub calls : ℕ
  pub failures : ℕ

-- a drain: the bytes that it took and those that it sent on, where they are known; how many of its calls failed
pub record DrainState : Type 0 where
  pub told : Option (List ℕ)
  pub flushed : Option (List ℕ)
  pub failures : ℕ

-- the state of a drain whose type tells these of it
abbrev pub drain_state : {D : Type 0} → (D → Option (List ℕ)) → (D → Option (List ℕ)) → (D → ℕ) → D → DrainState
drain_state told flushed failures drain = record { told = told drain; flushed = flushed drain; failures = failures drain }

-- the same of a source
abbrev pub source_state : {S : Type 0} → (S → Option (List ℕ)) → (S → ℕ) → (S → ℕ) → S → SourceState
source_state told calls failures source = record { told = told source; calls = calls source; failures = failures source }
