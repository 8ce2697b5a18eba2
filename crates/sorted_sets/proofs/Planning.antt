-- What a set keeps of its column as it prepares a command.
use Rattle.std.proofs.Common.{◌≡◌, ◌≤◌, inl, inr, max, true, ℕ, ℤ, List, [], ◌∷◌, map, length, take, count_by, Option, None, Some, Result, Ok, Err, is_ok, refl, sym, ap, subst, ◌∙◌, arith}
use Rattle.std.proofs.lemmas.Bool.{true≢false}
use Rattle.std.specs.FinMap as fin
use Rattle.resp_wire.specs.Response.{Response}
use Rattle.ripple_column.specs.Content.{ColumnState, Holds, SameContent}
use Rattle.zset_core.specs.SortedSet.{Members, pairs}
use Rattle.sorted_sets.specs.MembersWithStagedScores.{Entry, current_score, staged_score, rows_by, members_by, names_at, IsBack, ScoresAreSettled}
use Rattle.zset_core.specs.RowEdits.{most_edits}
use Rattle.zset_commands.specs.RequestLimits.{names_in}
use Rattle.sorted_sets.specs.MovedMembers.{moved_names}
use Rattle.sorted_sets.specs.Plan.{Moves, MovesTo, NeedsAtMost, Plans, Prepares, coming_rows, edited_by, kept_by, replaced_rows, left_by, outline_of, range_of, removed_by, count_coming, count_leaving}
use Rattle.sorted_sets.specs.ChangeCounts.{IsOutline}
use Rattle.sorted_sets.specs.CommandEffectsOnColumn.{MakesReady, MakesRoom, PreparesColumn}
use Rattle.zset_commands.specs.AbstractCommand.{Change, Add, Increase, Remove, RemoveRange, Changes, Meaning, range_to_remove}
use Rattle.sorted_sets.specs.SetAndOwnerViews.{SetView, Next}
use Rattle.sorted_sets.specs.SetViewAndInvariant.{view_of, next_of, IsIdle, IsPlanned, IsReadyForPlan, IsSoundSet}
use Rattle.sorted_sets.specs.declared.set.plan.Plan.{Plan}
use Rattle.sorted_sets.specs.declared.set.Prepared.{Prepared}
use Rattle.ripple_column.proofs.CallerLemmas.{count_all}
use Rattle.sorted_sets.proofs.Bags.{count_pairs}
use Rattle.sorted_sets.proofs.RangeRemoval.{len_removed, len_without_given}

not_none : (n : Next) → ◌≡◌ {A = Option Next} (Some n) None → ⊥
not_none n e = cc

module _ {A : Type 0} where
  -- a plan was made from the entries, whatever its commit leaves and replies
  pub Prepares-some : (old new : List Entry) (plan : Plan A) (o : Option (Members × Response)) → Plans old new plan o → (done : Members × Response) × Prepares old new plan done.0 done.1
  Prepares-some old new plan None h = absurd h
  Prepares-some old new plan (Some done) h = (done, h)

  pub IsIdle-of : (es : List Entry) (c : ColumnState) (p : Option (Prepared A)) (v : SetView) → view_of es c p ≡ v → v.next ≡ None → IsSoundSet es c p → IsIdle es c
  IsIdle-of es c None v is idle s = s
  IsIdle-of es c (Some q) v is idle s =
      let shown : Some (next_of es q) ≡ v.next = ap (λ (w : SetView). w.next) is in
      absurd (not_none (next_of es q) (shown ∙ idle))

  pub members_idle : (es : List Entry) (c : ColumnState) (p : Option (Prepared A)) (v : SetView) → view_of es c p ≡ v → v.next ≡ None → members_by current_score es ≡ v.members
  members_idle es c None v is idle = ap (λ (w : SetView). w.members) is
  members_idle es c (Some q) v is idle =
      let shown : Some (next_of es q) ≡ v.next = ap (λ (w : SetView). w.next) is in
      absurd (not_none (next_of es q) (shown ∙ idle))

  pub outline_left : (old new : List Entry) (plan : Plan A) (o : Option (Members × Response)) (m : Members) → members_by current_score old ≡ m → Plans old new plan o → IsOutline (outline_of plan) m (left_by new plan)
  outline_left old new plan o m is h =
      let p = (Prepares-some old new plan o h).1 in
      subst (λ (k : Members). IsOutline (outline_of plan) k (left_by new plan)) is (subst (IsOutline (outline_of plan) (members_by current_score old)) (sym p.members_are) p.outline_is)

  -- no more members come in than there are edits
  pub few_added : (old new : List Entry) (plan : Plan A) (o : Option (Members × Response)) → Plans old new plan o → (outline_of plan).added ≤ most_edits
  few_added old new plan o h =
      let s = Prepares-some old new plan o h in
      let p = s.1 in
      let bag = p.edits_are (λ r. true) in
      let a = count_pairs (members_by current_score old) in
      let b = count_pairs (members_by staged_score new) in
      let less = len_removed (members_by staged_score new) (names_at new (removed_by plan)) in
      let fewer : fin.len s.0.0 ≤ fin.len (edited_by new plan) = subst (λ (m : Members). fin.len m ≤ fin.len (edited_by new plan)) p.members_are (len_without_given (range_of plan) (edited_by new plan)) in
      elim p.outline_is.one_way [
        | inl none ↦ omega (arith, none)
        | inr none ↦ omega (arith, none, p.outline_is.sums, bag, a, b, less, fewer, count_all (coming_rows plan), count_all (replaced_rows plan), p.few_rows.coming)
      ]

  -- a column with room for so many rows has room for these
  pub room_fits : (old new : ColumnState) (plan : Plan A) (n : ℕ) → NeedsAtMost n plan → MakesRoom (max (count_coming plan) (count_leaving plan)) old new → MakesRoom n old new
  room_fits old new plan n most room = record { pivots = room.pivots; still = λ fits. room.still (omega (arith, most.coming, most.leaving, fits)) }

  pub column_shown : (es : List Entry) (c : ColumnState) (p : Option (Prepared A)) (v : SetView) → view_of es c p ≡ v → c ≡ v.column
  column_shown es c None v is = ap (λ (w : SetView). w.column) is
  column_shown es c (Some q) v is = ap (λ (w : SetView). w.column) is

  -- the content is the bag of the members that show
  pub Holds-shown : (es : List Entry) (c : ColumnState) (p : Option (Prepared A)) (v : SetView) → view_of es c p ≡ v → IsSoundSet es c p → Holds v.column (pairs v.members)
  Holds-shown es c None v is s = subst (λ (w : SetView). Holds w.column (pairs w.members)) is s.content
  Holds-shown es c (Some q) v is s = subst (λ (w : SetView). Holds w.column (pairs w.members)) is s.content

  pub IsPlanned-of : (es : List Entry) (c : ColumnState) (p : Option (Prepared A)) (q : Prepared A) → Some q ≡ p → IsSoundSet es c p → IsPlanned es c q.asked.value.meaning q.plan
  IsPlanned-of es c p q is s = subst (IsSoundSet es c) (sym is) s

  pub IsSoundSet-none : (es : List Entry) (c : ColumnState) (p : Option (Prepared A)) → p ≡ None → IsIdle es c → IsSoundSet es c p
  IsSoundSet-none es c p is s = subst (IsSoundSet es c) (sym is) s

  -- a set that is as it was once no plan could be made
  pub IsSoundSet-back : (old new : List Entry) (c d : ColumnState) (p : Option (Prepared A)) (v : SetView) → view_of old c p ≡ v → v.next ≡ None → IsSoundSet old c p → IsBack old new → SameContent c d → IsSoundSet new d p
  IsSoundSet-back old new c d None v is idle sound back content = record {
    settled = back.settled;
    content = λ t. content t ∙ sound.content t ∙ ap (λ (rows : List (List ℕ × ℤ)). count_by t (pairs (fin.from_entries rows))) (sym back.same);
  }
  IsSoundSet-back old new c d (Some q) v is idle sound back content =
      let shown : Some (next_of old q) ≡ v.next = ap (λ (w : SetView). w.next) is in
      absurd (not_none (next_of old q) (shown ∙ idle))

  -- the members that a plan moves, by the set that its commit leaves
  MovesTo-left : (old new : List Entry) (plan : Plan A) (names : List (List ℕ)) (o : Option (Members × Response)) → Plans old new plan o → Moves old new plan names o → MovesTo old new plan names (left_by new plan)
  MovesTo-left old new plan names None h m = absurd h
  MovesTo-left old new plan names (Some done) h m = subst (MovesTo old new plan names) (sym h.members_are) m

  pub IsPlanned-made : (old new : List Entry) (c c' : ColumnState) (meaning : Meaning) (plan : Plan A) (o : Option (Members × Response)) → IsIdle old c → Plans old new plan o → SameContent c c'
      → IsReadyForPlan c' plan → range_of plan ≡ range_to_remove meaning → Moves old new plan (names_in meaning) o → IsPlanned new c' meaning plan
  IsPlanned-made old new c c' meaning plan o idle h content ready range moves =
      let done = (Prepares-some old new plan o h).0 in
      let p = (Prepares-some old new plan o h).1 in
      let front : take (kept_by new plan) (rows_by current_score new) ≡ rows_by current_score old = ap (λ (n : ℕ). take n (rows_by current_score new)) p.kept ∙ p.grows.front in
      let to = MovesTo-left old new plan (names_in meaning) o h moves in
      record {
        kept = omega (arith, p.kept, p.grows.longer);
        waiting = p.waiting;
        content = λ t. content t ∙ idle.content t ∙ ap (λ (rows : List (List ℕ × ℤ)). count_by t (pairs (fin.from_entries rows))) (sym front);
        turns = λ t. omega (arith, p.edits_are t, content t, idle.content t);
        removed = p.removed_are;
        ready = ready;
        range = range;
        counted = to.counted;
        moved = to.names_are ∙ ap (λ (rows : List (List ℕ × ℤ)). moved_names (fin.from_entries rows) (left_by new plan) (names_in meaning)) (sym front);
      }

  -- once the plan is let go
  pub IsIdle-discard : (es new : List Entry) (c : ColumnState) (meaning : Meaning) (plan : Plan A) → IsPlanned es c meaning plan → rows_by current_score new ≡ take (kept_by es plan) (rows_by current_score es) → ScoresAreSettled new → IsIdle new c
  IsIdle-discard es new c meaning plan p is settled = record {
    settled = settled;
    content = λ t. p.content t ∙ ap (λ (rows : List (List ℕ × ℤ)). count_by t (pairs (fin.from_entries rows))) (sym is);
  }

-- a column that is left needs no room
pub room_left : (c : ColumnState) (n : ℕ) → MakesRoom n c c
room_left c n = record { pivots = refl; still = λ fits. record { rows = refl; pivots = refl; insertions = refl; deletions = refl } }

-- a change is prepared, whatever is told of it then
pub ready_told : {T U E F : Type 0} (change : Change) (m : Members) (r : Result T E) (s : Result U F) (old new : ColumnState) → is_ok r ≡ is_ok s → MakesReady change m r old new → MakesReady change m s old new
ready_told (Add flags changed pairs) m r s old new alike h = h
ready_told (Increase flags given member) m r s old new alike h = h
ready_told (Remove names) m r s old new alike h = h
ready_told (RemoveRange range) m (Ok t) (Ok u) old new alike h = h
ready_told (RemoveRange range) m (Err e) (Err f) old new alike h = h
ready_told (RemoveRange range) m (Ok t) (Err f) old new alike h = absurd (true≢false alike)
ready_told (RemoveRange range) m (Err e) (Ok u) old new alike h = absurd (true≢false (sym alike))

-- the same of the column and the members that show, and of the command that a change is of
pub ready_shown : {T U E F : Type 0} (a b new : ColumnState) (m n : Members) (meaning : Meaning) (key : List ℕ) (change : Change) (r : Result T E) (s : Result U F)
    → a ≡ b → m ≡ n → meaning ≡ Changes key change → is_ok r ≡ is_ok s → MakesReady change m r a new → PreparesColumn meaning n s b new
ready_shown a b new m n meaning key change r s columns sets is alike h =
    subst (λ (k : Meaning). PreparesColumn k n s b new) (sym is)
    (subst (λ (c : ColumnState). MakesReady change n s c new) columns
    (subst (λ (k : Members). MakesReady change k s a new) sets (ready_told change m r s a new alike h)))

pub empty_list : {X : Type 0} (xs : List X) → length xs ≡ 0 → xs ≡ []
empty_list [] h = refl
empty_list (x ∷ xs) h = absurd (omega arith)

-- an empty column holds the pairs of the empty set
pub Holds-empty : (c : ColumnState) (m : Members) → m ≡ fin.empty → c.rows ≡ [] → c.insertions ≡ [] → Holds c (pairs m)
unfolding pairs
Holds-empty c m none rows insertions p =
    let len : length (fin.entries m) ≡ 0 = sym (fin.len-entries m) ∙ ap fin.len none ∙ fin.len-empty _ ℤ in
    let no_pairs = ap (λ (es : List (List ℕ × ℤ)). count_by p (map (λ (e : List ℕ × ℤ). (e.1, e.0)) es)) (empty_list (fin.entries m) len) in
    let a : count_by p c.rows ≡ 0 = ap (count_by p) rows in
    let b : count_by p c.insertions ≡ 0 = ap (count_by p) insertions in
    omega (arith, no_pairs, a, b)

pub IsIdle-empty : (es : List Entry) (c : ColumnState) → es ≡ [] → ScoresAreSettled es → c.rows ≡ [] → c.insertions ≡ [] → IsIdle es c
IsIdle-empty es c none settled rows insertions = record { settled = settled; content = Holds-empty c (members_by current_score es) (ap (λ (l : List Entry). members_by current_score l) none) rows insertions }
