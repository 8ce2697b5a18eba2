use Rattle.std.proofs.Common.{◌≡◌, map, take, length}
use Rattle.place_names.proofs.names_set_once.Names.notes.Given as goal

abbrev pub invariant-loop-place : goal.invariant-loop-place
invariant-loop-place l = record {
  cells : map (λ s. s.note.cell) l.places.items ≡ take l.place l.self;
  len : length l.places.items ≡ l.place;
}
