use Rattle.std.proofs.Common.{◌∙◌, ◌+◌, sym, ap, arith, length, map}
use Rattle.std.proofs.lemmas.List.{length_push}
use Rattle.once_cell.specs.Once.{cell_name}
use Rattle.place_names.proofs.NameLemmas.{noted}
use Rattle.place_names.proofs.names_set_once.Names.notes.Goals as goal

pub loop-place-preserved : goal.loop-place-preserved
loop-place-preserved c = record {
  cells = ap (map (λ s. s.note.cell)) c.in_ok-push.ensures.items
      ∙ noted (λ s. s.note.cell) cell_name c.loop-place.places.items c.self.inside.names.items c.loop-place.place (record { note = c.note.result }) c.index.result.now c.args.self.now
      (sym c.self.view_is) c.index.ensures (omega (arith, c.loop-place-test.true, c.len-place-end.ensures, c.self.inside.names.ok)) c.note.ensures.0 c.loop-place.invariant.cells;
  len = ap length c.in_ok-push.ensures.items ∙ length_push c.loop-place.places.items (record { note = c.note.result }) ∙ ap (λ n. n + 1) c.loop-place.invariant.len;
}
