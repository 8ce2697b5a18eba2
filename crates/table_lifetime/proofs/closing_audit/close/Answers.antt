use Rattle.std.proofs.Common.{◌≡◌, ◌<◌, ◌∙◌, ℕ, List, ap, sym, subst, refl, rules, length}
use Rattle.std.specs.List.Sorted.{IsPermutation}
use Rattle.place_names.specs.Naming.{AreNotesOf}
use Rattle.set_table.specs.TableAndPassViews.{PassView}
use Rattle.table_lifetime.specs.ClosingAudit.{AddsUp, AgreeAt, AreNumbered, AreOfCells, IsOutOfStep, pass_at}
use Rattle.table_lifetime.specs.ClosingSteps.{HaveShares}
use Rattle.table_lifetime.specs.declared.closing_audit.CloseFault.TheVariants.{MissingPass, OutOfStep}
use Rattle.table_lifetime.proofs.ClosingLemmas.{cells_permuted, of_permuted, out_of_step_permuted}
use Rattle.table_lifetime.proofs.NameAgreement.{one_place}
use Rattle.table_lifetime.proofs.PassOrder.{have_shares}
use Rattle.table_lifetime.proofs.closing_audit.close.Goals as goal

permuted : (ps qs rs : List PassView) → qs ≡ ps → IsPermutation qs rs → IsPermutation ps rs
permuted ps qs rs e h = subst (λ (xs : List PassView). IsPermutation xs rs) e h

numbered_as : (ps qs : List PassView) (n m : ℕ) → ps ≡ qs → n ≡ m → AreNumbered ps n → AreNumbered qs m
numbered_as ps qs n m e f h = subst (λ (k : ℕ). AreNumbered qs k) f (subst (λ (xs : List PassView). AreNumbered xs n) e h)

-- what is told of the parts of a table is told of the table
cells_as : (ps : List PassView) (runs runs' : ℕ) (xs ys : List ℕ) (members records : ℕ) → runs ≡ runs' → xs ≡ ys → AreOfCells ps runs (length xs) members records → AreOfCells ps runs' (length ys) members records
cells_as ps runs runs' xs ys members records e f h = subst (λ (n : ℕ). AreOfCells ps n (length ys) members records) e (subst (λ (zs : List ℕ). AreOfCells ps runs (length zs) members records) f h)

out_of_step_as : (ps : List PassView) (runs runs' : ℕ) (xs ys : List ℕ) (before before' : ℕ) → runs ≡ runs' → xs ≡ ys → before ≡ before' → IsOutOfStep ps runs xs before → IsOutOfStep ps runs' ys before'
out_of_step_as ps runs runs' xs ys before before' e f d h =
    subst (λ (n : ℕ). IsOutOfStep ps runs' ys n) d (subst (λ (n : ℕ). IsOutOfStep ps n ys before) e (subst (λ (zs : List ℕ). IsOutOfStep ps runs zs before) f h))

other_fault : OutOfStep ≡ MissingPass → ⊥
other_fault e = cc

pub compare_names-requires : goal.compare_names-requires
compare_names-requires g c = record { own = λ i less. subst (λ (ns : List ℕ). AreNotesOf ns (pass_at c.args.passes.items i).notes) (sym c.into_parts-parts.ensures.names) (c.requires.own i less).notes }

pub returns-then-not-put_in_order-clause-missing : goal.returns-then-not-put_in_order-clause-missing
returns-then-not-put_in_order-clause-missing g c = (
  λ e h. absurd (let t = c.put_in_order.ensures.numbered.1 (numbered_as _ _ _ _ (sym c.compare_names.ensures.same) (sym c.into_parts-parts.ensures.passes) h) in search rules),
  λ none. refl,
)

pub add_up-requires-clause-own : goal.add_up-requires-clause-own
add_up-requires-clause-own g c =
    subst (λ (xs : List ℕ). HaveShares c.put_in_order.new.passes.items (length xs)) (sym c.into_parts-parts.ensures.opened)
    (have_shares c.args.table c.args.passes.items c.put_in_order.new.passes.items (permuted _ _ _ c.compare_names.ensures.same c.put_in_order.ensures.same)
    c.requires.own (c.put_in_order.ensures.order (search (rules, c.if-not-put_in_order.false))))

pub returns-in-Some-clause-totals : goal.returns-in-Some-clause-totals
returns-in-Some-clause-totals g c =
    subst (λ (xs : List ℕ). AddsUp c.args.passes.items xs c.in-Some.closed.0) c.into_parts-parts.ensures.opened
    (of_permuted c.args.passes.items c.put_in_order.new.passes.items _ c.in-Some.closed.0 (permuted _ _ _ c.compare_names.ensures.same c.put_in_order.ensures.same) c.in-Some.ensures.totals)

pub returns-in-Some-clause-agree : goal.returns-in-Some-clause-agree
returns-in-Some-clause-agree g c =
    subst (λ (ns : List ℕ). (place : ℕ) → place < length ns → AgreeAt c.args.passes.items place) c.into_parts-parts.ensures.names c.compare_names.ensures.agree

pub returns-in-Some-clause-one_place : goal.returns-in-Some-clause-one_place
returns-in-Some-clause-one_place g c =
    one_place (length c.into_parts-parts.result.names) c.args.passes.items c.compare_names.ensures.agree
    (λ i less. (c.requires.own i less).notes.places ∙ ap length (sym c.into_parts-parts.ensures.names))

pub returns-in-Some-clause-numbered : goal.returns-in-Some-clause-numbered
returns-in-Some-clause-numbered g c =
    numbered_as _ _ _ _ c.compare_names.ensures.same c.into_parts-parts.ensures.passes (c.put_in_order.ensures.numbered.0 (search (rules, c.if-not-put_in_order.false)))

pub returns-clause-missing : goal.returns-clause-missing
returns-clause-missing g c = (
  λ e h. absurd (other_fault e),
  λ none. absurd (none (numbered_as _ _ _ _ c.compare_names.ensures.same c.into_parts-parts.ensures.passes (c.put_in_order.ensures.numbered.0 (search (rules, c.if-not-put_in_order.false))))),
)

pub returns-in-Some-clause-cells : goal.returns-in-Some-clause-cells
returns-in-Some-clause-cells g c =
    cells_as c.args.passes.items _ _ _ _ c.in-Some.closed.0.members c.in-Some.closed.0.records c.into_parts-parts.ensures.max_runs c.into_parts-parts.ensures.opened
    (cells_permuted c.args.passes.items c.put_in_order.new.passes.items (permuted _ _ _ c.compare_names.ensures.same c.put_in_order.ensures.same) _ _ c.in-Some.closed.0.members c.in-Some.closed.0.records c.in-Some.ensures.cells)

pub returns-clause-out_of_step : goal.returns-clause-out_of_step
returns-clause-out_of_step g c = λ e.
    out_of_step_as c.args.passes.items _ _ _ _ _ _ c.into_parts-parts.ensures.max_runs c.into_parts-parts.ensures.opened c.into_parts-parts.ensures.records_before
    (out_of_step_permuted c.args.passes.items c.put_in_order.new.passes.items _ _ _ (permuted _ _ _ c.compare_names.ensures.same c.put_in_order.ensures.same) c.in-None.ensures.none)
