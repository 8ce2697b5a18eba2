-- Which refusals an append and a sync give, and exactly when.
use Rattle.std.proofs.Common.{◌≡◌, ◌⊎◌, ◌↔◌, ℕ, List, inl, inr, refl, sym, ◌∙◌, subst, true, false, Result, Ok, Err, OnOk, IfErr, IsErr, IsErrOf}
use Rattle.zset_commands.specs.declared.refusal.Refusal.{Refusal}
use Rattle.zset_commands.specs.declared.refusal.Refusal.TheVariants.{LogBroken, LogFull, LogRefused}
use Rattle.log_records.specs.LogViewAndSteps.{LogView, Appends, Breaks, NotAppended, NotSettled}

not_both : (log : LogView) → log.broken ≡ false → log.broken ≡ true → ⊥
not_both log good bad = let no : true ≡ false = sym bad ∙ good in cc

module _ {T : Type 0} (old new : LogView) (bytes : List ℕ) (result : Result T Refusal) (err : IfErr result (λ refusal. NotAppended refusal old new bytes)) where
  cause : (refusal : Refusal) → IsErrOf result refusal → NotAppended refusal old new bytes
  cause refusal is = subst (λ (r : Result T Refusal). IfErr r (λ refusal. NotAppended refusal old new bytes)) is err

  pub append_stays : IsErrOf result LogBroken ⊎ IsErrOf result LogFull → new ≡ old
  append_stays which = elim which [ inl is ↦ (cause LogBroken is).0 | inr is ↦ (cause LogFull is).0 ]

  pub append_breaks : IsErrOf result LogRefused → Breaks old new bytes
  append_breaks is = cause LogRefused is

abbrev ThreeRefusals : {T : Type 0} → Result T Refusal → Type 0
ThreeRefusals result = IsErrOf result LogBroken ⊎ IsErrOf result LogFull ⊎ IsErrOf result LogRefused

module _ {T : Type 0} (old new : LogView) (bytes : List ℕ) where
  if_broken : (result : Result T Refusal) → OnOk result (Appends old new bytes) → IfErr result (λ refusal. NotAppended refusal old new bytes) → old.broken ≡ true → IsErrOf result LogBroken
  if_broken (Ok done) ok err broken = absurd (not_both old ok.unbroken broken)
  if_broken (Err LogBroken) ok err broken = refl
  if_broken (Err LogFull) ok err broken = absurd (not_both old err.1 broken)
  if_broken (Err LogRefused) ok err broken = absurd (not_both old err.unbroken broken)
  if_broken (Err _) ok err broken = absurd err

  if_full : (result : Result T Refusal) → OnOk result (Appends old new bytes) → IfErr result (λ refusal. NotAppended refusal old new bytes) → (old.broken ≡ false) × (old.appended ≡ old.limit) → IsErrOf result LogFull
  if_full (Ok done) ok err full = absurd (ok.room full.1)
  if_full (Err LogBroken) ok err full = absurd (not_both old full.0 err.1)
  if_full (Err LogFull) ok err full = refl
  if_full (Err LogRefused) ok err full = absurd (err.room full.1)
  if_full (Err _) ok err full = absurd err

  pub append_refusals : (result : Result T Refusal) → IfErr result (λ refusal. NotAppended refusal old new bytes) → IsErr result → ThreeRefusals result
  append_refusals (Ok done) err is = cc
  append_refusals (Err LogBroken) err is = inl refl
  append_refusals (Err LogFull) err is = inr (inl refl)
  append_refusals (Err LogRefused) err is = inr (inr refl)
  append_refusals (Err _) err is = absurd err

  pub exactly_broken : (result : Result T Refusal) → OnOk result (Appends old new bytes) → IfErr result (λ refusal. NotAppended refusal old new bytes) → IsErrOf result LogBroken ↔ (old.broken ≡ true)
  exactly_broken result ok err = (λ is. (cause old new bytes result err LogBroken is).1, if_broken result ok err)

  pub exactly_full : (result : Result T Refusal) → OnOk result (Appends old new bytes) → IfErr result (λ refusal. NotAppended refusal old new bytes)
      → IsErrOf result LogFull ↔ ((old.broken ≡ false) × (old.appended ≡ old.limit))
  exactly_full result ok err = (λ is. let full = cause old new bytes result err LogFull is in (full.1, full.2), if_full result ok err)

-- a sync
module _ {T : Type 0} (old new : LogView) where
  sync_cause : (result : Result T Refusal) → IfErr result (λ refusal. NotSettled refusal old new) → (refusal : Refusal) → IsErrOf result refusal → NotSettled refusal old new
  sync_cause result err refusal is = subst (λ (r : Result T Refusal). IfErr r (λ refusal. NotSettled refusal old new)) is err

  sync_if_broken : (result : Result T Refusal) → OnOk result (old.broken ≡ false) → IfErr result (λ refusal. NotSettled refusal old new) → old.broken ≡ true → IsErrOf result LogBroken
  sync_if_broken (Ok done) good err broken = absurd (not_both old good broken)
  sync_if_broken (Err LogBroken) good err broken = refl
  sync_if_broken (Err LogRefused) good err broken = absurd (not_both old err.unbroken broken)
  sync_if_broken (Err _) good err broken = absurd err

  pub exactly_broken_at_sync : (result : Result T Refusal) → OnOk result (old.broken ≡ false) → IfErr result (λ refusal. NotSettled refusal old new) → IsErrOf result LogBroken ↔ (old.broken ≡ true)
  exactly_broken_at_sync result good err = (λ is. (sync_cause result err LogBroken is).1, sync_if_broken result good err)

  pub sync_refusals : (result : Result T Refusal) → IfErr result (λ refusal. NotSettled refusal old new) → IsErr result → IsErrOf result LogBroken ⊎ IsErrOf result LogRefused
  sync_refusals (Ok done) err is = cc
  sync_refusals (Err LogBroken) err is = inl refl
  sync_refusals (Err LogRefused) err is = inr refl
  sync_refusals (Err _) err is = absurd err
