-- When a set is ready for a question, by what the set and the command show.
use Rattle.std.proofs.Common.{◌≡◌, Bool, false, ℕ, List, Option, None, Some, Result, Ok, Err, IfNone, OnOk, sym, subst}
use Rattle.ripple_column.specs.Content.{ColumnState}
use Rattle.zset_commands.specs.AbstractCommand.{Meaning, Asks, Question}
use Rattle.sorted_sets.specs.AnswerableAsItStands.{IsReady, IsReadyFor, ListsAWindow, ListsWindow}

module _ (inner shown : ColumnState) (meaning : Meaning) (key : List ℕ) (question : Question) (columns : inner ≡ shown) (is : meaning ≡ Asks key question) where
  pub ready_shown : IsReady inner question → IsReadyFor shown meaning
  ready_shown ready = subst (λ (m : Meaning). IsReadyFor shown m) (sym is) (subst (λ (c : ColumnState). IsReady c question) columns ready)

  pub ready_inside : IsReadyFor shown meaning → IsReady inner question
  ready_inside ready = subst (λ (c : ColumnState). IsReady c question) (sym columns) (subst (λ (m : Meaning). IsReadyFor shown m) is ready)

  window_shown : ListsAWindow inner question → ListsWindow shown meaning
  window_shown window = subst (λ (m : Meaning). ListsWindow shown m) (sym is) (subst (λ (c : ColumnState). ListsAWindow c question) columns window)

  pub ready_once : {X E : Type 0} (r : Result X E) → OnOk r (IsReady inner question) → OnOk r (IsReadyFor shown meaning)
  ready_once (Ok x) ready = ready_shown ready
  ready_once (Err e) ready = tt

  pub unready : {X : Type 0} (r : Option X) (many : Bool) → IfNone r (IsReady inner question → (many ≡ false) × ListsAWindow inner question)
      → IfNone r (IsReadyFor shown meaning → (many ≡ false) × ListsWindow shown meaning)
  unready None many none = λ ready. let both = none (ready_inside ready) in (both.0, window_shown both.1)
  unready (Some x) many none = tt
