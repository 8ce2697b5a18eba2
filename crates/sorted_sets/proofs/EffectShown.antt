-- The effect of what a set has prepared, by the places that its plan moves.
use Rattle.std.proofs.Common.{◌≡◌, ◌<◌, ℕ, ℤ, List, [], length, slice_get, take, get_or, Option, None, Some, option_map, sym, ap, subst, ◌∙◌, arith}
use Rattle.std.specs.FinMap as fin
use Rattle.std.proofs.lemmas.List.{length-map}
use Rattle.std.proofs.lemmas.Option.{slice_get-map, slice_get-get_or}
use Rattle.ripple_column.specs.Content.{ColumnState}
use Rattle.score_bounds.specs.declared.ranges_and_cuts.Range.{Range}
use Rattle.zset_core.specs.SortedSet.{Members}
use Rattle.zset_commands.specs.AbstractCommand.{Meaning, Ping, Asks, Changes, Change, Add, Increase, Remove, RemoveRange, range_of_change, range_to_remove}
use Rattle.zset_commands.specs.RequestLimits.{names_in, names_of_change}
use Rattle.sorted_sets.specs.MovedMembers.{effect, moved_names, prepared_effect}
use Rattle.sorted_sets.specs.MembersWithStagedScores.{Entry, current_score, rows_by, name_at}
use Rattle.sorted_sets.specs.Plan.{edited_by, kept_by, left_by, moved_by, range_of, without_given}
use Rattle.sorted_sets.specs.SetAndOwnerViews.{SetView}
use Rattle.sorted_sets.specs.SetViewAndInvariant.{view_of, IsPlanned, IsSoundSet}
use Rattle.sorted_sets.specs.declared.set.Prepared.{Prepared}

-- only a change that names no member removes a range
no_range_of : (range : Option Range) (change : Change) (old new : Members) (n i : ℕ) → range ≡ range_of_change change → n ≡ length (moved_names old new (names_of_change change)) → i < n → range ≡ None
no_range_of range (Add flags changed pairs) old new n i is many lt = is
no_range_of range (Increase flags given member) old new n i is many lt = is
no_range_of range (Remove names) old new n i is many lt = is
no_range_of range (RemoveRange bounds) old new n i is many lt = absurd (omega (arith, many, lt))

no_range : (range : Option Range) (meaning : Meaning) (old new : Members) (n i : ℕ) → range ≡ range_to_remove meaning → n ≡ length (moved_names old new (names_in meaning)) → i < n → range ≡ None
no_range range (Ping text) old new n i is many lt = is
no_range range (Asks key question) old new n i is many lt = is
no_range range (Changes key change) old new n i is many lt = no_range_of range change old new n i is many lt

module _ {A : Type 0} (es : List Entry) (column : ColumnState) (q : Prepared A) (planned : IsPlanned es column q.asked.value.meaning q.plan) where
  abbrev old : Members
  old = fin.from_entries (take (kept_by es q.plan) (rows_by current_score es))

  abbrev new : Members
  new = left_by es q.plan

  abbrev places : List ℕ
  places = moved_by q.plan

  abbrev named : List (List ℕ)
  named = moved_names old new (names_in q.asked.value.meaning)

  -- as many members as places
  named_len : length places ≡ length named
  named_len = sym (length-map places (name_at es)) ∙ ap (λ (names : List (List ℕ)). length names) planned.moved

  pub effect-len : length places ≡ length (effect old new q.asked.value.meaning)
  effect-len = named_len ∙ sym (length-map named (λ name. (name, fin.get new name)))

  -- the member at each place, with the score that it is to have
  pub effect-at : (i : ℕ) (name : List ℕ) (score : Option ℤ) → i < length places → name ≡ name_at es (get_or places i 0) → score ≡ fin.get (edited_by es q.plan) (name_at es (get_or places i 0))
      → slice_get (effect old new q.asked.value.meaning) i ≡ Some (name, score)
  effect-at i name score lt is has =
      let alone = no_range (range_of q.plan) q.asked.value.meaning old new (length places) i planned.range named_len lt in
      let left : new ≡ edited_by es q.plan = ap (λ (range : Option Range). without_given range (edited_by es q.plan)) alone in
      let here : slice_get named i ≡ Some name = sym (ap (λ (names : List (List ℕ)). slice_get names i) planned.moved)
      ∙ slice_get-map (name_at es) places i ∙ ap (option_map (name_at es)) (slice_get-get_or places i 0 lt) ∙ ap (λ (k : List ℕ). Some k) (sym is) in
      let scored : fin.get new name ≡ score = ap (λ (m : Members). fin.get m name) left ∙ ap (fin.get (edited_by es q.plan)) is ∙ sym has in
      slice_get-map (λ name. (name, fin.get new name)) named i ∙ ap (option_map (λ name. (name, fin.get new name))) here ∙ ap (λ (o : Option ℤ). Some (name, o)) scored

-- the same of what a set shows
module _ {A : Type 0} (es : List Entry) (column : ColumnState) (p : Option (Prepared A)) (q : Prepared A) (v : SetView) (is : view_of es column p ≡ v) (prepared : p ≡ Some q) (sound : IsSoundSet es column p) where
  planned : IsPlanned es column q.asked.value.meaning q.plan
  planned = subst (IsSoundSet es column) prepared sound

  view : view_of es column (Some q) ≡ v
  view = sym (ap (view_of es column) prepared) ∙ is

  pub len_shown : length (moved_by q.plan) ≡ length (prepared_effect v)
  len_shown = effect-len es column q planned ∙ ap (λ (w : SetView). length (prepared_effect w)) view

  pub at_shown : (i : ℕ) (name : List ℕ) (score : Option ℤ) → i < length (moved_by q.plan) → name ≡ name_at es (get_or (moved_by q.plan) i 0)
      → score ≡ fin.get (edited_by es q.plan) (name_at es (get_or (moved_by q.plan) i 0)) → slice_get (prepared_effect v) i ≡ Some (name, score)
  at_shown i name score lt same has =
      sym (ap (λ (w : SetView). slice_get (prepared_effect w) i) view) ∙ effect-at es column q planned i name score lt same has

-- where nothing is prepared there is none
pub none_shown : {A : Type 0} (es : List Entry) (column : ColumnState) (p : Option (Prepared A)) (v : SetView) → view_of es column p ≡ v → p ≡ None → prepared_effect v ≡ []
none_shown es column p v is none = sym (ap prepared_effect is) ∙ ap (λ (o : Option (Prepared _)). prepared_effect (view_of es column o)) none
