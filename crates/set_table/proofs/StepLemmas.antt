-- What is prepared, committed and let go.
use Rattle.std.proofs.Common.{◌≡◌, ℕ, ◌+◌, true, false, Option, Some, None, IfSome, IsTrue, IsSome, List, Result, Ok, Err, IfOk, IfErr, inl, inr, refl, sym, subst, ◌∙◌, arith}
use Rattle.std.specs.Prelude.{◌≢◌}
use Rattle.resp_wire.specs.Response.{Response}
use Rattle.zset_core.specs.SortedSet.{Members}
use Rattle.zset_commands.specs.AbstractCommand.{Asked, is_writing, Meaning, Change, Add, Increase, Remove, RemoveRange}
use Rattle.zset_commands.specs.AbstractCommand as meanings
use Rattle.sorted_sets.specs.ChangeCounts.{IsOutline}
use Rattle.zset_core.specs.Semantics.{changed_by, step}
use Rattle.sorted_sets.specs.SetAndOwnerViews.{Next, Shows, IsPreparedFor}
use Rattle.sorted_sets.specs.declared.set.change_counts.Outline.{Outline}
use Rattle.zset_commands.specs.declared.refusal.Refusal.{Refusal}
use Rattle.zset_commands.specs.declared.refusal.Refusal.TheVariants.{NoMemory, UnknownCommand, WrongArity, Syntax, NxAndXx, GtLtNx, IncrPair, BadScore, BadBound, BadInteger, TableFull, Spent, ScoreOverflow, LogBroken, LogFull, LogRefused, OutOfStep}
use Rattle.sorted_sets.proofs.CallerLemmas.{missing_none}
use Rattle.append_log.specs.LogViewAndSteps.{LogView, NotAppended}
use Rattle.append_log.proofs.CallerLemmas.{unchanged}
use Rattle.set_table.specs.declared.member_change_counts.OwnCounts.{OwnCounts}
use Rattle.set_table.specs.PassTallies.{no_counts}
use Rattle.set_table.specs.TableAnswers.{IsSetRefusal, is_increase, is_sum}
use Rattle.set_table.specs.LoggedStep.{SetStepped, IsLogged, ChangesSet, IsHindered, IsAppendRefusal}

-- a reading leaves the set
pub read_step : (m : Members) (command : Asked) (reply : Response) (own : OwnCounts) → own ≡ no_counts → step m command.meaning ≡ Some (m, reply) → SetStepped m m command reply own
read_step m command reply own none is = subst (λ (n : OwnCounts). SetStepped m m command reply n) (sym none)
    (record {
      step_is = is;
      added = missing_none m m (λ q there. there);
      removed = missing_none m m (λ q there. there);
      sums = refl;
      few = omega arith;
    })

prepared : (m : Members) (command : Asked) (o : Outline) (next : Option Next) → IsTrue (is_writing command.meaning) → IsPreparedFor m command.meaning next → IfSome next (λ n. IsOutline o m n.members) → IsTrue o.changed → ChangesSet m command
prepared m command o next writes ready outlined changed = by (step m command.meaning) refl next ready outlined
  where
    by : (s : Option (Members × Response)) → step m command.meaning ≡ s → (next : Option Next) → Shows s command.meaning next → IfSome next (λ n. IsOutline o m n.members) → ChangesSet m command
    by None is next shows h = absurd shows
    by (Some done) is next shows h =
        let at = subst (λ (n : Option Next). IfSome n (λ n. IsOutline o m n.members)) shows h in
        record { writes = writes; next = done.0; reply = done.1; step_is = is; other = at.changed.0 changed }

-- why an append is refused is why a step is
pub append_refusal : {T : Type 0} (result : Result T Refusal) (old new : LogView) (bytes : List ℕ) → IfErr result (λ refusal. NotAppended refusal old new bytes) → IfErr result IsAppendRefusal
append_refusal (Ok done) old new bytes err = tt
append_refusal (Err LogBroken) old new bytes err = tt
append_refusal (Err LogFull) old new bytes err = tt
append_refusal (Err LogRefused) old new bytes err = tt
append_refusal (Err _) old new bytes err = absurd err

-- an append that is refused hinders a command that changes the set
pub hinders : (m : Members) (command : Asked) (o : Outline) (next : Option Next) (e : Refusal) → IsTrue (is_writing command.meaning) → IsPreparedFor m command.meaning next → IfSome next (λ n. IsOutline o m n.members) → IsTrue o.changed
    → IsAppendRefusal e → IsHindered e m command
hinders m command o next e writes ready outlined changed h = by e h
  where
    c : ChangesSet m command
    c = prepared m command o next writes ready outlined changed

    by : (e : Refusal) → IsAppendRefusal e → IsHindered e m command
    by NoMemory h = tt
    by LogBroken h = c
    by LogFull h = c
    by LogRefused h = c
    by UnknownCommand h = h
    by WrongArity h = h
    by Syntax h = h
    by NxAndXx h = h
    by GtLtNx h = h
    by IncrPair h = h
    by BadScore h = h
    by BadBound h = h
    by BadInteger h = h
    by TableFull h = h
    by Spent h = h
    by ScoreOverflow h = absurd h
    by OutOfStep h = h

-- where a step is none, a sum of INCR is no score
increases_by : (m : Members) (change : Change) → changed_by m change ≡ None → IsTrue (is_sum change)
increases_by m (Add flags changed pairs) is = cc
increases_by m (Increase flags given member) is = refl
increases_by m (Remove names) is = cc
increases_by m (RemoveRange range) is = cc

increases : (m : Members) (meaning : Meaning) → step m meaning ≡ None → IsTrue (is_increase meaning)
increases m (meanings.Ping text) is = cc
increases m (meanings.Asks key question) is = cc
increases m (meanings.Changes key change) is = increases_by m change is

-- what hinders a command in some set, told without the set
pub told_of : (m : Members) (command : Asked) (e : Refusal) → IsHindered e m command → IsSetRefusal command.meaning e
told_of m command NoMemory h = tt
told_of m command ScoreOverflow h = record { increases = increases m command.meaning h; members = m; no_step = h }
told_of m command LogBroken h = h.writes
told_of m command LogFull h = h.writes
told_of m command LogRefused h = h.writes
told_of m command UnknownCommand h = h
told_of m command WrongArity h = h
told_of m command Syntax h = h
told_of m command NxAndXx h = h
told_of m command GtLtNx h = h
told_of m command IncrPair h = h
told_of m command BadScore h = h
told_of m command BadBound h = h
told_of m command BadInteger h = h
told_of m command TableFull h = h
told_of m command Spent h = absurd h
told_of m command OutOfStep h = absurd h

some_of : (m : Members) (meaning : Meaning) (next : Option Next) → IsPreparedFor m meaning next → IsSome next
some_of m meaning next ready = by (step m meaning) next ready
  where
    by : (s : Option (Members × Response)) (next : Option Next) → Shows s meaning next → IsSome next
    by None next h = absurd h
    by (Some done) None h = cc
    by (Some done) (Some n) h = refl

-- what a commit leaves of the set and of the record share
pub moved : (m new : Members) (meaning : Meaning) (P : Next → Type 0) (o : Outline) (next : Option Next) (a b : ℕ) → IsPreparedFor m meaning next → IfSome next (λ n. IsOutline o m n.members) → IfSome next (λ n. (new ≡ n.members) × P n) → IsTrue o.changed → b ≡ a + 1 → IsLogged m new a b
moved m new meaning P o None a b ready outlined made changed up = absurd (let no : true ≡ false = sym (some_of m meaning None ready) in cc)
moved m new meaning P o (Some n) a b ready outlined made changed up = record { which = inr (λ same. outlined.changed.0 changed (sym made.0 ∙ same), up) }

pub stayed : (m new : Members) (meaning : Meaning) (P : Next → Type 0) (o : Outline) (next : Option Next) (a b : ℕ) → IsPreparedFor m meaning next → IfSome next (λ n. IsOutline o m n.members) → IfSome next (λ n. (new ≡ n.members) × P n) → o.changed ≡ false → b ≡ a → IsLogged m new a b
stayed m new meaning P o None a b ready outlined made same kept = absurd (let no : true ≡ false = sym (some_of m meaning None ready) in cc)
stayed m new meaning P o (Some n) a b ready outlined made same kept = record { which = inl (made.0 ∙ unchanged o m n.members outlined same, kept) }

pub ok_is : {X E : Type 0} (r : Result X E) (x : X) (P : X → Type 0) → IfOk r P → r ≡ Ok x → P x
ok_is {X = X} {E = E} r x P h is = subst (λ (q : Result X E). IfOk q P) is h

-- a set whose outline tells a change becomes another
pub becomes_other : (outline : Outline) (old now : Members) (next : Option Next) → IfSome next (λ n. IsOutline outline old n.members) → now ≡ old → outline.changed ≡ true → IfSome next (λ n. n.members ≢ now)
becomes_other outline old now None told same changed = tt
becomes_other outline old now (Some n) told same changed = λ is. told.changed.0 changed (is ∙ same)
