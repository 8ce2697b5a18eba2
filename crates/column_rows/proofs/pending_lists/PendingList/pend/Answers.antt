use Rattle.std.proofs.Common.{◌≡◌, ◌<◌, ◌∷◌, [], IsPermutation, length, refl, subst, ◌∙◌}
use Rattle.std.proofs.lemmas.List.Sorted.{IsPermutation-append_comm, IsPermutation-swap_remove}
use Rattle.column_rows.proofs.pending_lists.PendingList.pend.Goals as goal

pub returns-in-Some-clause-pends : goal.returns-in-Some-clause-pends
returns-in-Some-clause-pends g c =
    let other = c.args.other.now.items in
    let i = c.in-Some.i in
    let x = c.swap_remove-withdrawn.result in
    let found = c.in-Some.ensures.found in
    let within : i < length other = found.1 in
    let same : x ≡ c.args.row = c.swap_remove-withdrawn.ensures.value ∙ found.0 x in
    let moved = IsPermutation-swap_remove other i x within c.swap_remove-withdrawn.ensures.value in
    let gone : IsPermutation other (x ∷ c.swap_remove-withdrawn.new.self.items) = rw (← c.swap_remove-withdrawn.ensures.items) at moved in
    record {
      added = λ none. absurd (none (i, within, found.0 c.args.row));
      withdrawn = λ there. (subst (λ y. IsPermutation other (y ∷ c.swap_remove-withdrawn.new.self.items)) same gone, refl);
    }

pub returns-in-None-clause-pends : goal.returns-in-None-clause-pends
returns-in-None-clause-pends g c =
    let none = c.in-None.ensures.found in
    record {
      added = λ absent. (rw c.push_reserved.ensures.items (IsPermutation-append_comm (c.args.row ∷ []) c.args.self.now.items), refl);
      withdrawn = λ there. absurd (none there);
    }
