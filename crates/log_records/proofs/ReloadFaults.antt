-- Faults that a reload hands on.
use Rattle.std.proofs.Common.{◌≡◌, ℕ, Result, Ok, Err, subst, sym, ◌∙◌}
use Rattle.std.specs.Prelude.{◌≢◌, IfErr, IsErrAnd, MatchResult}
use Rattle.log_records.specs.declared.reload_outcome.ReloadFault.{ReloadFault}
use Rattle.log_records.specs.declared.reload_outcome.ReloadFault.TheVariants.{NoMemory, Damaged, ReadFault, NotACommand, TooManyReads, UnknownVersion}
use Rattle.log_records.specs.ReloadSteps.{IsOfBytes, SourceFailed}

source_stays : (fault : ReloadFault) (old new : ℕ) → IsOfBytes fault → new ≡ old → SourceFailed fault old new
source_stays NoMemory old new from same = same
source_stays (Damaged at) old new from same = same
source_stays ReadFault old new from same = absurd from
source_stays (NotACommand at) old new from same = same
source_stays TooManyReads old new from same = absurd from
source_stays UnknownVersion old new from same = same

-- what the bytes give is no failure of the source
pub of_bytes : {U : Type 0} (fault : ReloadFault) (result : Result U ReloadFault) (old new : ℕ) → IsOfBytes fault → IsErrAnd result (λ e. e ≡ fault) → new ≡ old
    → MatchResult result (λ _. new ≡ old) (λ e. SourceFailed e old new)
of_bytes fault (Ok u) old new from handed same = absurd handed
of_bytes fault (Err e) old new from handed same = source_stays e old new (subst IsOfBytes (sym handed) from) same

never_late : (fault : ReloadFault) → IsOfBytes fault → fault ≡ TooManyReads → ⊥
never_late NoMemory from is = cc
never_late (Damaged at) from is = cc
never_late ReadFault from is = absurd from
never_late (NotACommand at) from is = cc
never_late TooManyReads from is = absurd from
never_late UnknownVersion from is = cc

pub not_late : {U : Type 0} (fault : ReloadFault) (result : Result U ReloadFault) → IsOfBytes fault → IsErrAnd result (λ e. e ≡ fault) → IfErr result (λ e. e ≢ TooManyReads)
not_late fault (Ok u) from handed = tt
not_late fault (Err e) from handed = never_late e (subst IsOfBytes (sym handed) from)

-- a fault that is handed on is none but itself
pub handed_late : {T E : Type 0} (result : Result T E) (end other : E) → IsErrAnd result (λ e. e ≡ end) → (end ≡ other → ⊥) → result ≡ Err other → ⊥
handed_late (Ok value) end other h never is = absurd h
handed_late (Err e) end other h never is = never (sym h ∙ (let same : e ≡ other = cc in same))
