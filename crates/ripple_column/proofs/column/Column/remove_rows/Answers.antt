use Rattle.std.proofs.Common.{ℕ, sym, subst, refl}
use Rattle.score_bounds.specs.declared.ranges_and_cuts.Range.{Range}
use Rattle.column_rows.specs.Content.{ColumnState}
use Rattle.ripple_column.specs.ColumnViewAndInvariant.{ColumnViewAndInvariant, state}
use Rattle.column_rows.specs.RangeAnswer.{HoldsRange, IsAnswer}
use Rattle.column_rows.specs.RangeEffects.{Removes, TakesOut}
use Rattle.ripple_column.specs.declared.column.Column.TheInside.{Inside}
use Rattle.column_rows.proofs.InnerPivots.{among_found}
use Rattle.ripple_column.proofs.Merged.{IsScored-less}
use Rattle.column_rows.proofs.Removal.{IsAnswer-closed_up, IsClosedUp, content_closed_up, none_closed_up, part_closed_up, rows_closed_up}
use Rattle.column_rows.proofs.Selection.{CutsPart-any, HoldsRange-answer, IsAnswer-one}
use Rattle.ripple_column.proofs.column.Column.remove_rows.Goals as goal

-- the rows between the places of an answer are those of its range
holds : {A : Type 0} (inside : Inside A) (range : Range) (a : ℕ × ℕ) → ColumnViewAndInvariant (state inside) → IsAnswer (state inside) range a → HoldsRange (state inside) range a
holds inside range a inv is =
    HoldsRange-answer (state inside) inside.pieces.cracked.pivots.list range a (CutsPart-any range) (among_found _ _ inside.pieces.among) inside.pieces.cracked.law inv.scored_rows inv.scored_insertions is

-- the column before and after
abbrev before : (g : _) (c : goal.After-remove_between g) → ColumnState
before g c = state {A = g.row.A.Denot} c.self.inside

abbrev after : (g : _) (c : goal.After-remove_between g) → ColumnState
after g c = state {A = g.row.A.Denot} (record { pieces = c.remove_between.new.pieces; pending = c.self.inside.pending })

abbrev places : (g : _) (c : goal.After-remove_between g) → ℕ × ℕ
places g c = (c.args.from, c.args.to)

gone : (g : _) (c : goal.After-remove_between g) → IsClosedUp (before g c) (after g c) (places g c)
gone g c = record {
  rows = c.remove_between.ensures.rows;
  pivots = c.remove_between.ensures.shown;
  insertions = refl;
  deletions = refl;
}

answered : (g : _) (c : goal.After-remove_between g) (range : Range) → IsAnswer c.args.self.now range (places g c) → IsAnswer (before g c) range (places g c)
answered g c range is = subst (λ (v : ColumnState). IsAnswer v range (places g c)) (sym c.self.view_is) is

held : (g : _) (c : goal.After-remove_between g) (range : Range) → IsAnswer c.args.self.now range (places g c) → HoldsRange (before g c) range (places g c)
held g c range is = holds c.self.inside range (places g c) c.self.invariant (answered g c range is)

pub invariant_of-self : goal.invariant_of-self
invariant_of-self g c =
    let inv = c.self.invariant in
    let old = c.self.inside in
    let range = c.requires.answer.0 in
    let is = c.requires.answer.1 in
    record {
      part = part_closed_up (before g c) (after g c) range (places g c) (gone g c) (held g c range is) inv.part (answered g c range is);
      scored_rows = IsScored-less c.remove_between.new.pieces.cracked.rows.items old.pieces.cracked.rows.items (rows_closed_up (before g c) (after g c) range (places g c) (gone g c) (held g c range is)) inv.scored_rows;
      scored_insertions = inv.scored_insertions;
      few_insertions = inv.few_insertions;
      few_deletions = inv.few_deletions;
    }

pub remove_between-requires-clause-order : goal.remove_between-requires-clause-order
remove_between-requires-clause-order g c =
    let range = c.requires.answer.0 in
    let places : ℕ × ℕ = (c.args.from, c.args.to) in
    (holds c.self.inside range places c.self.invariant (subst (λ (v : ColumnState). IsAnswer v range places) (sym c.self.view_is) c.requires.answer.1)).order

pub remove_between-requires-clause-within : goal.remove_between-requires-clause-within
remove_between-requires-clause-within g c =
    let range = c.requires.answer.0 in
    let places : ℕ × ℕ = (c.args.from, c.args.to) in
    (holds c.self.inside range places c.self.invariant (subst (λ (v : ColumnState). IsAnswer v range places) (sym c.self.view_is) c.requires.answer.1)).within

removed : (g : _) (c : goal.After-remove_between g) (range : Range) → IsAnswer c.args.self.now range (places g c) → Removes range c.args.from (before g c) (after g c)
removed g c range is =
    let pieces = c.self.inside.pieces in
    let old = before g c in
    let new = after g c in
    let at = places g c in
    let one = λ (answer : ℕ × ℕ) (there : IsAnswer (before g c) range answer).
    IsAnswer-one (before g c) pieces.cracked.pivots.list range answer (places g c) (among_found _ _ pieces.among) pieces.cracked.law.rising there (answered g c range is) in
    let takes : TakesOut range (before g c) (after g c) = record {
      ready = (places g c, answered g c range is);
      rows = λ answer there. rw ((one answer there).0, (one answer there).1) (gone g c).rows;
      pivots = λ answer there. rw ((one answer there).0, (one answer there).1) (gone g c).pivots;
      insertions = refl;
      deletions = refl;
      spare_insertions = refl;
      spare_deletions = refl;
    } in
    record {
      content = λ p. content_closed_up old new range at (gone g c) (held g c range is) c.self.invariant.part p;
      none_left = λ p. none_closed_up old new range at (gone g c) (held g c range is) c.self.invariant.part p;
      answer = IsAnswer-closed_up old new range at (gone g c) (held g c range is) (answered g c range is);
      takes_out = takes;
    }

pub returns : goal.returns
returns g c = record { removes = λ range is. rw (← c.self.view_is) (removed g c range is) }
