use Rattle.std.proofs.Common.{inl, arith}
use Rattle.column_rows.specs.Content.{ColumnState}
use Rattle.ripple_column.specs.ColumnViewAndInvariant.{state}
use Rattle.column_rows.proofs.Counts.{length-sub_bag}
use Rattle.column_rows.specs.EffectsOnPieces.{shown}
use Rattle.column_rows.proofs.InnerPivots.{among_found}
use Rattle.ripple_column.proofs.Merged.{IsScored-merged}
use Rattle.column_rows.proofs.Selection.{CutsPart, IsSettled-selected, IsAnswer-selected, HoldsRange-selected, AddsCuts-selected, Selects-selected}
use Rattle.ripple_column.proofs.column.Column.select.Goals as goal

pub invariant_of-self : goal.invariant_of-self
invariant_of-self g c =
    let inv = c.self.invariant in
    let old = c.self.inside in
    let new = c.select_between.new in
    let e = c.select_between.ensures in
    let m = e.merges in
    let scored = IsScored-merged old.pieces.cracked.rows.items new.pieces.cracked.rows.items old.pending.insertions.items new.pending.insertions.items old.pending.deletions.items new.pending.deletions.items inv.scored_rows inv.scored_insertions m.content m.less_deletions in
    record {
      part = m.part;
      scored_rows = scored.0;
      scored_insertions = scored.1;
      few_insertions = omega (arith, inv.few_insertions, length-sub_bag new.pending.insertions.items old.pending.insertions.items m.less_insertions);
      few_deletions = omega (arith, inv.few_deletions, length-sub_bag new.pending.deletions.items old.pending.deletions.items m.less_deletions);
    }

pub returns-clause-answer : goal.returns-clause-answer
returns-clause-answer g c =
    let cuts = c.cuts-first.ensures in
    let new = c.select_between.new in
    let e = c.select_between.ensures in
    let m = e.merges in
    let now : ColumnState = state {A = g.row.A.Denot} (record { pieces = new.pieces; pending = new.pending }) in
    let empty = rw (cuts.first, cuts.second) at e.empty in
    let first = rw (cuts.first, cuts.second) at e.first in
    let second = rw (cuts.first, cuts.second) at e.second in
    let insertions = rw (cuts.first, cuts.second) at e.merged_insertions in
    let deletions = rw (cuts.first, cuts.second) at e.merged_deletions in
    IsAnswer-selected c.select_between.result now c.args.range.now empty
    (λ order. IsSettled-selected c.select_between.result now c.args.range.now (first order) (second order) (insertions order) (deletions order))

pub returns-clause-rows : goal.returns-clause-rows
returns-clause-rows g c =
    let inv = c.self.invariant in
    let old = c.self.inside in
    let cuts = c.cuts-first.ensures in
    let new = c.select_between.new in
    let e = c.select_between.ensures in
    let m = e.merges in
    let scored = IsScored-merged old.pieces.cracked.rows.items new.pieces.cracked.rows.items old.pending.insertions.items new.pending.insertions.items old.pending.deletions.items new.pending.deletions.items inv.scored_rows inv.scored_insertions m.content m.less_deletions in
    let now : ColumnState = state {A = g.row.A.Denot} (record { pieces = new.pieces; pending = new.pending }) in
    let parts : CutsPart c.args.range.now = rw (cuts.first, cuts.second) at cuts.between in
    HoldsRange-selected c.select_between.result now new.pieces.cracked.pivots.list c.args.range.now parts (among_found _ _ new.pieces.among) new.pieces.cracked.law scored.0 scored.1 (returns-clause-answer g c)

pub returns-clause-selects : goal.returns-clause-selects
returns-clause-selects g c =
    let cuts = c.cuts-first.ensures in
    let range = c.args.range.now in
    let e = c.select_between.ensures in
    let old : ColumnState = state {A = g.row.A.Denot} c.self.inside in
    let new : ColumnState = state {A = g.row.A.Denot} (record { pieces = c.select_between.new.pieces; pending = c.select_between.new.pending }) in
    let kept = rw (cuts.first, cuts.second) at e.values_kept in
    let cleared = rw (cuts.first, cuts.second) at e.values_cleared in
    let still = rw (cuts.first, cuts.second) at e.still in
    let same = rw (cuts.first, cuts.second) at e.same in
    rw (← c.self.view_is) (Selects-selected c.select_between.result old new range e.waiting.1 e.waiting.0
    (AddsCuts-selected c.select_between.result range (shown c.self.inside.pieces) (shown c.select_between.new.pieces) kept cleared)
    (λ none. let s = same (inl none) in record { rows = s.rows; pivots = s.pivots; insertions = s.insertions; deletions = s.deletions }) still)
