use Rattle.std.proofs.Common.{◌∙◌, ap, sym, length, arith}
use Rattle.std.proofs.lemmas.List.{length-map}
use Rattle.once_cell.specs.Once.{cell_name}
use Rattle.place_names.proofs.NameLemmas.{same_cell, settled, still_own}
use Rattle.place_names.proofs.names_set_once.Names.name_or_key.Goals as goal

pub set_once-requires : goal.set_once-requires
set_once-requires c =
    same_cell (λ s. s.note.cell) cell_name c.notes.inside.places.items c.self.inside.names.items c.args.place c.index_mut-known.result.now c.index.result.now
    (ap (λ v. v.names) c.notes.view_is ∙ c.requires.own.names_are ∙ sym c.self.view_is) (omega (arith, c.requires.within, ap length c.self.view_is, length-map c.self.inside.names.items cell_name)) c.index_mut-known.ensures.value c.index.ensures

pub returns-clause-own : goal.returns-clause-own
returns-clause-own c =
    still_own (λ s. s.note.cell) (λ s. s.note.known) cell_name c.notes.inside.places.items c.self.inside.names.items c.args.place c.index_mut-known.result.now _ c.args.self.now
    c.index_mut-known.ensures.value c.set_once.ensures.cell (ap (λ v. v.names) c.notes.view_is ∙ c.requires.own.names_are)

pub returns-clause-seen : goal.returns-clause-seen
returns-clause-seen c = rw (← c.notes.view_is)
    (settled (λ s. s.note.known) c.notes.inside.places.items c.args.place c.index_mut-known.result.now _ c.set_once.result
    (omega (arith, c.requires.within, ap (λ v. length v.names) c.notes.view_is, ap length c.requires.own.names_are, length-map c.notes.inside.places.items (λ s. s.note.cell)))
    c.index_mut-known.ensures.value c.set_once.ensures.name)
