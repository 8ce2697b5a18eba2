use Rattle.std.proofs.Common.{◌≡◌, ◌∙◌, sym, subst, refl, ◌≤ℤ◌, List, ℤ, ℕ, length, arith}
use Rattle.std.proofs.lemmas.List.Sorted.{All-permutation, IsPermutation-trans, length_permutation}
use Rattle.score_bounds.specs.ScoreTexts.{greatest}
use Rattle.column_rows.specs.RangeAnswer.{IsAnswer}
use Rattle.column_rows.specs.RangeEffects.{Narrows}
use Rattle.column_rows.specs.Content.{ColumnState}
use Rattle.ripple_column.specs.ColumnViewAndInvariant.{state}
use Rattle.column_rows.specs.EffectsOnPieces.{shown}
use Rattle.column_rows.proofs.Selection.{CutsPart-any, HoldsRange-answer}
use Rattle.column_rows.proofs.Counts.{count_moved}
use Rattle.column_rows.proofs.InnerPivots.{IsAnswer-same, among_found}
use Rattle.column_rows.proofs.InnerCracks.{AreCracked-more}
use Rattle.ripple_column.proofs.column.Column.narrow.Goals as goal

pub invariant_of-self : goal.invariant_of-self
invariant_of-self g c =
    let inv = c.self.invariant in
    let old = c.self.inside.pieces.cracked.rows.items in
    let new = c.narrow-2.new.pieces.cracked.rows.items in
    let e = AreCracked-more _ _ _ c.narrow.ensures c.narrow-2.ensures in
    record {
      part = λ p. omega (arith, inv.part p, count_moved p old new e.rows);
      scored_rows = All-permutation (λ (r : ℤ × List ℕ). r.0 ≤ℤ greatest) old new e.rows inv.scored_rows;
      scored_insertions = inv.scored_insertions;
      few_insertions = inv.few_insertions;
      few_deletions = inv.few_deletions;
    }

pub returns-clause-content : goal.returns-clause-content
returns-clause-content g c p =
    let e = AreCracked-more _ _ _ c.narrow.ensures c.narrow-2.ensures in
    let moved = count_moved p c.self.inside.pieces.cracked.rows.items c.narrow-2.new.pieces.cracked.rows.items e.rows in
    rw (← c.self.view_is) (omega (arith, moved))

pub returns-clause-narrows : goal.returns-clause-narrows
returns-clause-narrows g c =
    let old : ColumnState = state {A = g.row.A.Denot} c.self.inside in
    let new : ColumnState = state {A = g.row.A.Denot} (record { pieces = c.narrow-2.new.pieces; pending = c.self.inside.pending }) in
    let narrows : Narrows old new = record {
      rows = IsPermutation-trans _ _ _ c.narrow.ensures.rows c.narrow-2.ensures.rows;
      pivots = c.narrow-2.ensures.shown ∙ c.narrow.ensures.shown;
      insertions = refl;
      deletions = refl;
      spare_insertions = refl;
      spare_deletions = refl;
    } in
    rw (← c.self.view_is) narrows

pub returns-clause-answers : goal.returns-clause-answers
returns-clause-answers g c range a was =
    let inv = c.self.invariant in
    let old = c.self.inside in
    let new = c.narrow-2.new.pieces in
    let before : ColumnState = state {A = g.row.A.Denot} old in
    let now : ColumnState = state {A = g.row.A.Denot} (record { pieces = new; pending = old.pending }) in
    let here : IsAnswer before range a = subst (λ (v : ColumnState). IsAnswer v range a) (sym c.self.view_is) was in
    let e = AreCracked-more _ _ _ c.narrow.ensures c.narrow-2.ensures in
    let long : length new.cracked.rows.items ≡ length old.pieces.cracked.rows.items = length_permutation old.pieces.cracked.rows.items new.cracked.rows.items e.rows in
    let is : IsAnswer now range a = IsAnswer-same before now range a e.shown long refl refl here in (
      is,
      HoldsRange-answer now new.cracked.pivots.list range a (CutsPart-any range) (among_found (shown new) new.cracked.pivots.list new.among) new.cracked.law
          (All-permutation (λ (r : ℤ × List ℕ). r.0 ≤ℤ greatest) old.pieces.cracked.rows.items new.cracked.rows.items e.rows inv.scored_rows) inv.scored_insertions is,
    )
