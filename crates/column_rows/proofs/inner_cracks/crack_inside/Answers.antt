use Rattle.std.proofs.Common.{◌≡◌, ◌≤◌, ◌∙◌, ℕ, ℤ, true, false, List, length, Option, None, Some, is_some, MatchOption, Contains, vec_capacity, sym, ap, subst, le_of_eq, arith}
use Rattle.std.proofs.lemmas.Int.{ints}
use Rattle.std.proofs.lemmas.Bool.{false≢true}
use Rattle.std.proofs.lemmas.List.Sorted.{IsPermutation-refl, length_permutation}
use Rattle.crack_kernel.specs.PivotList.{PivotList}
use Rattle.column_rows.specs.RangeCutsAsPivots.{IsApart}
use Rattle.column_rows.specs.ShownPivots.{IsAmong, shown_of}
use Rattle.column_rows.specs.EffectsOnPieces.{AreCracked, HasRoom, shown}
use Rattle.column_rows.specs.declared.cracked_with_shown_pivots.Pieces.{Pieces}
use Rattle.column_rows.proofs.InnerCracks.{AreCracked-none}
use Rattle.column_rows.proofs.InnerPivots.{found_more, shown_own}
use Rattle.column_rows.proofs.Values.{Contains-added}
use Rattle.column_rows.proofs.inner_cracks.crack_inside.Goals as goal
use Rattle.column_rows.proofs.inner_cracks.crack_inside.Goals.{then-len-ge-MAX_WITH_INNER-via-then-len-ge-MAX_WITH_INNER, then-len-ge-MAX_WITH_INNER-via-else-len-ge-MAX_WITH_INNER+then-is_some, then-len-ge-MAX_WITH_INNER-via-else-len-ge-MAX_WITH_INNER+else-is_some+then-not-set_apart}

-- pieces where at most the room for pivots grew, and the shown pivots got a list of their own
AreCracked-stay : {A : Type 0} (a b : Pieces A) → b.cracked.rows ≡ a.cracked.rows → b.cracked.pivots.list ≡ a.cracked.pivots.list → a.cracked.pivots.spare ≤ b.cracked.pivots.spare
    → shown b ≡ shown a → (HasRoom a → HasRoom b) → AreCracked a b
AreCracked-stay a b rows list spare same room = record {
  rows = rw rows (IsPermutation-refl _);
  capacity = ap vec_capacity rows;
  among = λ p there. subst (λ (l : List (ℤ × ℕ)). Contains l p) (sym list) there;
  shown = same;
  spare = omega arith;
  room = room;
  few = omega (arith, ap length list);
}

-- where nothing was found
none_found : {X : Type 0} (r : Option X) (P : Type 0) (Q : X → Type 0) → MatchOption r P Q → is_some r ≡ false → P
none_found None P Q h none = h
none_found (Some x) P Q h none = absurd (false≢true (sym none))

pub returns-then-len-ge-MAX_WITH_INNER-clause-cracked : goal.returns-then-len-ge-MAX_WITH_INNER-clause-cracked
returns-then-len-ge-MAX_WITH_INNER-clause-cracked g c =
    elim c.then-len-ge-MAX_WITH_INNER.branch [
      | then-len-ge-MAX_WITH_INNER-via-then-len-ge-MAX_WITH_INNER w ↦ rw w.pieces-is (AreCracked-none _)
      | then-len-ge-MAX_WITH_INNER-via-else-len-ge-MAX_WITH_INNER+then-is_some w ↦ rw w.pieces-is (AreCracked-none _)
      | then-len-ge-MAX_WITH_INNER-via-else-len-ge-MAX_WITH_INNER+else-is_some+then-not-set_apart w ↦
          let s = w.set_apart.ensures in
          rw w.pieces-is (AreCracked-stay _ _ s.rows (ap (λ (ps : PivotList). ps.list) s.pivots) (le_of_eq (ap (λ (ps : PivotList). ps.spare) (sym s.pivots))) s.shown s.room)
    ]

pub returns-then-len-ge-MAX_WITH_INNER-clause-rest : goal.returns-then-len-ge-MAX_WITH_INNER-clause-rest
returns-then-len-ge-MAX_WITH_INNER-clause-rest g c k d apart =
    elim c.then-len-ge-MAX_WITH_INNER.branch [
      | then-len-ge-MAX_WITH_INNER-via-then-len-ge-MAX_WITH_INNER w ↦ rw w.pieces-is
      | then-len-ge-MAX_WITH_INNER-via-else-len-ge-MAX_WITH_INNER+then-is_some w ↦ rw w.pieces-is
      | then-len-ge-MAX_WITH_INNER-via-else-len-ge-MAX_WITH_INNER+else-is_some+then-not-set_apart w ↦ rw (w.pieces-is, w.set_apart.ensures.rows)
    ]

pub invariant_of-pieces : goal.invariant_of-pieces
invariant_of-pieces g c = (rw c.reserve.ensures.list c.set_apart.new.self.cracked.law, tt)

pub invariant_of-pieces-in-Ok : goal.invariant_of-pieces-in-Ok
invariant_of-pieces-in-Ok g c = (rw c.reserve.ensures.list c.set_apart.new.self.cracked.law, tt)

pub crack_at-place-requires-clause-index : goal.crack_at-place-requires-clause-index
crack_at-place-requires-clause-index g c = c.count_upto-index.ensures

pub crack_at-place-requires-clause-new : goal.crack_at-place-requires-clause-new
crack_at-place-requires-clause-new g c =
    let old = c.args.pieces.now.cracked.pivots in
    let same : c.reserve.new.self.list ≡ old.list = c.reserve.ensures.list ∙ ap (λ (ps : PivotList). ps.list) c.set_apart.ensures.pivots in
    rw same (none_found c.find.result _ _ c.find.ensures (sym c.is_some.ensures ∙ c.if-is_some.false))

pub crack_at-place-requires-clause-room : goal.crack_at-place-requires-clause-room
crack_at-place-requires-clause-room g c = omega (arith, c.in-Ok.ensures.room)

pub crack_at-place-requires-clause-few : goal.crack_at-place-requires-clause-few
crack_at-place-requires-clause-few g c =
    let same : c.reserve.new.self.list ≡ c.args.pieces.now.cracked.pivots.list = c.reserve.ensures.list ∙ ap (λ (ps : PivotList). ps.list) c.set_apart.ensures.pivots in
    omega (arith, c.len.ensures.len, ap length same)

pub invariant_of-pieces-in-Ok-2 : goal.invariant_of-pieces-in-Ok-2
invariant_of-pieces-in-Ok-2 g c =
    let apart = c.set_apart.new.self in
    let qs = c.crack_at-place.new.cracked.pivots.list in
    let moved = rw c.reserve.ensures.list at c.crack_at-place.ensures.pivots in
    let more : IsAmong apart.cracked.pivots.list qs = Contains-added _ c.crack_at-place.result apart.cracked.pivots.list qs moved in
    record { among = found_more apart.apart apart.kept.list apart.cracked.pivots.list qs more apart.among }

pub returns-in-Ok-clause-cracked : goal.returns-in-Ok-clause-cracked
returns-in-Ok-clause-cracked g c =
    let e = c.crack_at-place.ensures in
    let s = c.set_apart.ensures in
    let old = c.args.pieces.now in
    let apart = c.set_apart.new.self in
    let qs = c.crack_at-place.new.cracked.pivots.list in
    let same : c.reserve.new.self.list ≡ old.cracked.pivots.list = c.reserve.ensures.list ∙ ap (λ (ps : PivotList). ps.list) s.pivots in
    let moved = rw same at e.pivots in
    let own : apart.apart ≡ true = s.apart ∙ c.if-not-set_apart.false in
    record {
      rows = rw s.rows at e.rows;
      capacity = e.capacity ∙ ap vec_capacity s.rows;
      among = Contains-added _ c.crack_at-place.result old.cracked.pivots.list qs moved;
      shown = shown_own apart.apart apart.kept.list apart.cracked.pivots.list qs own ∙ s.shown;
      spare = omega (arith, e.spare, c.in-Ok.ensures.room);
      room = s.room;
      few = omega (arith, c.len.ensures.len, length_permutation _ qs moved);
    }

pub returns-in-Ok-clause-rest : goal.returns-in-Ok-clause-rest
returns-in-Ok-clause-rest g c k d apart =
    let s = c.set_apart.ensures in
    let same : c.reserve.new.self.list ≡ c.args.pieces.now.cracked.pivots.list = c.reserve.ensures.list ∙ ap (λ (ps : PivotList). ps.list) s.pivots in
    let still = rw same at c.crack_at-place.ensures.still in
    let moved = rw s.rows at still in
    moved k d (subst (λ (w : ℤ). IsApart w c.args.pieces.now.cracked.pivots.list k) (omega (arith, ints)) apart)

pub invariant_of-pieces-in-Err : goal.invariant_of-pieces-in-Err
invariant_of-pieces-in-Err g c = record { among = rw c.reserve.ensures.list c.set_apart.new.self.among }

pub returns-in-Err-clause-cracked : goal.returns-in-Err-clause-cracked
returns-in-Err-clause-cracked g c =
    let s = c.set_apart.ensures in
    let apart = c.set_apart.new.self in
    let same : c.reserve.new.self.list ≡ c.args.pieces.now.cracked.pivots.list = c.reserve.ensures.list ∙ ap (λ (ps : PivotList). ps.list) s.pivots in
    let seen = ap (λ (l : List (ℤ × ℕ)). shown_of apart.apart apart.kept.list l) c.reserve.ensures.list ∙ s.shown in
    AreCracked-stay _ _ s.rows same (rw s.pivots at c.reserve.ensures.spare) seen s.room

pub returns-in-Err-clause-rest : goal.returns-in-Err-clause-rest
returns-in-Err-clause-rest g c k d apart = rw c.set_apart.ensures.rows
