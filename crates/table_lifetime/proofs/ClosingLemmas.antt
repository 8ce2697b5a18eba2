-- Totals over passes and places.
use Rattle.std.proofs.Common.{◌≡◌, ℕ, ◌+◌, ◌-◌, ◌<◌, ◌∙◌, List, [], ◌∷◌, length, map, get_or, sym, ap, subst, add-one, refl, arith, zero, suc, min, inl, inr, Option, None, Some, IfNone}
use Rattle.std.proofs.Math.Seq.{take-length}
use Rattle.std.proofs.lemmas.List.{get_or-map, length-map, get_or_default, same_lists}
use Rattle.std.specs.List.{sum_by}
use Rattle.std.specs.List.Sorted.{IsPermutation}
use Rattle.std.proofs.lemmas.List.Sums.{sum_by-cons, sum_by_more}
use Rattle.std.proofs.lemmas.List.Sorted.{IsPermutation-sym, length_permutation, sum_by-IsPermutation}
use Rattle.set_table.specs.declared.member_change_counts.Tally.{Tally}
use Rattle.table_lifetime.specs.declared.closing_audit.totals.Totals.{Totals}
use Rattle.set_table.specs.CellViewAndRuns.{CellView, InStep}
use Rattle.set_table.specs.TableAndPassViews.{PassView}
use Rattle.set_table.specs.PassTallies.{empty_tally, added_of, removed_of}
use Rattle.table_lifetime.specs.ClosingAudit.{AddsUp, Agrees, AreOfCells, HasOtherCell, HasOtherRecords, IsOutOfStep, added_at, removed_at, members_at, sum_below, sum_of_numbers, pass_at, share_at, no_pass}
use Rattle.table_lifetime.specs.ClosingSteps.{HaveShares, AddsCell, AddsPlace, AddsUpTo}
use Rattle.table_lifetime.proofs.PassOrder.{stands_in}

abbrev tally_at : ℕ → PassView → Tally
tally_at place p = (share_at p place).tally

sum_of_tallies : (f : Tally → ℕ) (place : ℕ) (ps : List PassView) → sum_by f (map (tally_at place) ps) ≡ sum_by (λ p. f (tally_at place p)) ps
sum_of_tallies f place [] = refl
sum_of_tallies f place (p ∷ ps) = sum_by-cons f (tally_at place p) (map (tally_at place) ps) ∙ ap (λ n. f (tally_at place p) + n) (sum_of_tallies f place ps) ∙ sym (sum_by-cons (λ q. f (tally_at place q)) p ps)

-- the tallies of a cell that is in step with each pass are those of the passes
tallies_are : (c : CellView) (ps : List PassView) (places place : ℕ) → HaveShares ps places → place < places → length c.tallies ≡ length ps
    → ((i : ℕ) → i < length ps → InStep c (share_at (pass_at ps i) place))
    → c.tallies ≡ map (tally_at place) ps
tallies_are c ps places place own less len steps =
    same_lists c.tallies (map (tally_at place) ps) (len ∙ sym (length-map ps (tally_at place)))
    (λ i d below.
    let below' : i < length ps = omega (arith, len) in
    let s = steps i below' in
    let here : (share_at (pass_at ps i) place).pass ≡ i = (own i place below' less).1 in
    get_or_default c.tallies i d empty_tally below ∙ ap (λ j. get_or c.tallies j empty_tally) (sym here) ∙ s.tally ∙ sym (get_or-map (tally_at place) ps i no_pass d below'))

pub record Sums (c : CellView) (ps : List PassView) (place : ℕ) : Type 0 where
  pub added : added_of c.tallies ≡ added_at ps place
  pub removed : removed_of c.tallies ≡ removed_at ps place

pub sums_at : (c : CellView) (ps : List PassView) (places place : ℕ) → HaveShares ps places → place < places → length c.tallies ≡ length ps
    → ((i : ℕ) → i < length ps → InStep c (share_at (pass_at ps i) place))
    → Sums c ps place
sums_at c ps places place own less len steps =
    let e = tallies_are c ps places place own less len steps in
    record {
      added = ap added_of e ∙ sum_of_tallies (λ r. r.added) place ps;
      removed = ap removed_of e ∙ sum_of_tallies (λ r. r.removed) place ps;
    }

pub IfNone-any : {X : Type 0} (o : Option X) (P : Type 0) → P → IfNone o P
IfNone-any None P h = h
IfNone-any (Some x) P h = tt

sum_below-more : (n : ℕ) (f : ℕ → ℕ) → sum_below (n + 1) f ≡ sum_below n f + f n
sum_below-more n f = rw add-one refl

pub adds_more : (ps : List PassView) (opened : List ℕ) (n : ℕ) (s t : Totals) → n < length opened → AddsUpTo ps opened n s → AddsPlace ps n (get_or opened n 0) s t → AddsUpTo ps opened (n + 1) t
adds_more ps opened n s t less h m =
    let o = sum_by_more (λ (x : ℕ). x) opened n 0 less in
    let mw = m.whole in
    let size : m.size ≡ members_at ps opened n = omega (arith, mw) in
    let hb = h.balance in
    let mo = m.opened_is in let ma = m.added in let mr = m.removed in let mm = m.members in
    record {
      opened_is = mo ∙ ap (λ x. x + get_or opened n 0) h.opened_is ∙ sym o;
      added = ma ∙ ap (λ x. x + added_at ps n) h.added ∙ sym (sum_below-more n (λ place. added_at ps place));
      removed = mr ∙ ap (λ x. x + removed_at ps n) h.removed ∙ sym (sum_below-more n (λ place. removed_at ps place));
      members = mm ∙ ap (λ x. s.members + x) size ∙ ap (λ x. x + members_at ps opened n) h.members ∙ sym (sum_below-more n (λ place. members_at ps opened place));
      sets = m.sets ∙ ap (λ x. s.sets + min x 1) size ∙ ap (λ x. x + min (members_at ps opened n) 1) h.sets ∙ sym (sum_below-more n (λ place. min (members_at ps opened place) 1));
      balance = omega (arith, mo, ma, mr, mm, hb, mw);
    }

pub adds_up : (ps : List PassView) (opened : List ℕ) (n : ℕ) (t : Totals) → n ≡ length opened → AddsUpTo ps opened n t → AddsUp ps opened t
adds_up ps opened n t all h =
    let g = subst (λ (m : ℕ). AddsUpTo ps opened m t) all h in
    record {
      opened_is = g.opened_is ∙ ap sum_of_numbers (take-length opened);
      added = g.added;
      removed = g.removed;
      members = g.members;
      sets = g.sets;
      balance = g.balance;
    }

sum_below-same : (n : ℕ) (f g : ℕ → ℕ) → ((k : ℕ) → f k ≡ g k) → sum_below n f ≡ sum_below n g
sum_below-same zero f g e = refl
sum_below-same (suc n) f g e = ap (λ a. a + f n) (sum_below-same n f g e) ∙ ap (λ a. sum_below n g + a) (e n)

-- one place more
pub cells_more : (ps : List PassView) (runs n : ℕ) (cell : CellView) (s t : Totals) → AreOfCells ps runs n s.members s.records → AddsCell ps runs n cell s t → AreOfCells ps runs (n + 1) t.members t.records
cells_more ps runs n cell s t h m = rw add-one (cell, m.agrees, s.members, s.records, h, m.members, m.records)

agrees_permuted : (ps qs : List PassView) (runs place : ℕ) (cell : CellView) → IsPermutation ps qs → Agrees qs runs place cell → Agrees ps runs place cell
agrees_permuted ps qs runs place cell same h = record {
  whole = h.whole;
  runs = h.runs;
  as_many = h.as_many ∙ length_permutation ps qs same;
  in_step = λ i less.
      let j = stands_in ps qs i same less in
      subst (λ (p : PassView). InStep cell (share_at p place)) j.2 (h.in_step j.0 j.1);
}

pub cells_permuted : (ps qs : List PassView) → IsPermutation ps qs → (runs n members records : ℕ) → AreOfCells qs runs n members records → AreOfCells ps runs n members records
cells_permuted ps qs same runs zero members records h = h
cells_permuted ps qs same runs (suc n) members records h =
    (h.0, agrees_permuted ps qs runs n h.0 same h.1, h.2, h.3, cells_permuted ps qs same runs n h.2 h.3 h.4, h.5, h.6)

other_cell_permuted : (ps qs : List PassView) (runs : ℕ) (opened : List ℕ) → IsPermutation ps qs → HasOtherCell qs runs opened → HasOtherCell ps runs opened
other_cell_permuted ps qs runs opened same h = record {
  place = h.place;
  within = h.within;
  cell = h.cell;
  whole = h.whole;
  differs = λ before agrees. h.differs before (agrees_permuted qs ps runs h.place h.cell (IsPermutation-sym ps qs same) agrees);
}

other_records_permuted : (ps qs : List PassView) (runs places before : ℕ) → IsPermutation ps qs → HasOtherRecords qs runs places before → HasOtherRecords ps runs places before
other_records_permuted ps qs runs places before same h = record {
  members = h.members;
  records = h.records;
  of_cells = cells_permuted ps qs same runs places h.members h.records h.of_cells;
  appended = h.appended;
  differs = h.differs;
}

pub out_of_step_permuted : (ps qs : List PassView) (runs : ℕ) (opened : List ℕ) (before : ℕ) → IsPermutation ps qs → IsOutOfStep qs runs opened before → IsOutOfStep ps runs opened before
out_of_step_permuted ps qs runs opened before same h = elim h [
  | inl cell ↦ inl (other_cell_permuted ps qs runs opened same cell)
  | inr records ↦ inr (other_records_permuted ps qs runs (length opened) before same records)
]

-- the order of the passes does not matter
pub of_permuted : (ps qs : List PassView) (opened : List ℕ) (t : Totals) → IsPermutation ps qs → AddsUp qs opened t → AddsUp ps opened t
of_permuted ps qs opened t same h =
    let added : (k : ℕ) → added_at qs k ≡ added_at ps k = λ k. sum_by-IsPermutation (λ p. (share_at p k).tally.added) ps qs same in
    let removed : (k : ℕ) → removed_at qs k ≡ removed_at ps k = λ k. sum_by-IsPermutation (λ p. (share_at p k).tally.removed) ps qs same in
    let members : (k : ℕ) → members_at qs opened k ≡ members_at ps opened k =
    λ k. ap (λ a. get_or opened k 0 + a - removed_at qs k) (added k) ∙ ap (λ r. get_or opened k 0 + added_at ps k - r) (removed k) in
    record {
      opened_is = h.opened_is;
      added = h.added ∙ sum_below-same (length opened) _ _ added;
      removed = h.removed ∙ sum_below-same (length opened) _ _ removed;
      members = h.members ∙ sum_below-same (length opened) _ _ members;
      sets = h.sets ∙ sum_below-same (length opened) _ _ (λ k. ap (λ m. min m 1) (members k));
      balance = h.balance;
    }
