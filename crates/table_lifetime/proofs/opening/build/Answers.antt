use Rattle.std.proofs.Common.{◌∙◌, ◌<◌, ℕ, List, length, sym, ap, subst, arith}
use Rattle.set_table.specs.TableAndPassViews.{TableView}
use Rattle.table_lifetime.specs.Opening.{AllHavePlaces, AreNewPasses, IsNewPass, IsOpened, cards_of, pass_at}
use Rattle.table_lifetime.proofs.OpeningLemmas.{sized, opened_table, new_passes_of}
use Rattle.table_lifetime.proofs.opening.build.Goals as goal

pub new-table-requires : goal.new-table-requires
new-table-requires g c =
    let s = sized c.args.places (length c.in_ok-cells.cells.items) c.in_ok-names.names c.in_ok-opened.opened.items c.place_all.new.sets.items c.in_ok-names.ensures c.place_all.ensures.count
    (c.in_ok-opened.ensures ∙ ap cards_of c.deref.ensures.value) (c.in_ok-cells.ensures ∙ c.in_ok-new_cells.ensures.cells.count) in
    record { names = s.names_are; cells = s.cells_are; places = (omega (arith, c.requires.places, s.places_are), omega (arith, c.requires.places, s.places_are)) }

pub returns-clause-table : goal.returns-clause-table
returns-clause-table g c =
    let cards = c.in_ok-opened.ensures ∙ ap cards_of c.deref.ensures.value in
    let s = sized c.args.places (length c.in_ok-cells.cells.items) c.in_ok-names.names c.in_ok-opened.opened.items c.place_all.new.sets.items c.in_ok-names.ensures c.place_all.ensures.count cards (c.in_ok-cells.ensures ∙ c.in_ok-new_cells.ensures.cells.count) in
    subst (IsOpened c.args.owner.world c.args.places c.args.passes c.args.max_runs c.args.log.appended) (sym c.new-table.ensures)
    (opened_table c.args.owner.world c.args.places c.args.passes c.args.max_runs c.args.log.appended c.appended-records_before.result c.in_ok-names.names c.in_ok-opened.opened.items (cards_of c.place_all.new.sets.items)
    s.places_are cards c.appended-records_before.ensures c.in_ok-place_all.ensures.sum)

pub returns-clause-passes : goal.returns-clause-passes
returns-clause-passes g c =
    let cards = c.in_ok-opened.ensures ∙ ap cards_of c.deref.ensures.value in
    subst (λ (table : TableView). AreNewPasses table c.args.owner.world c.in_ok-made.made.items) (sym c.new-table.ensures)
    (new_passes_of c.args.owner.world _ c.place_all.new.knowledge c.in_ok-made.made.items c.in_ok-made.ensures.count c.place_all.ensures.own
    (subst (AllHavePlaces c.args.owner.world c.place_all.new.knowledge.known) (sym cards) c.in_ok-place_all.ensures.known)
    (subst (λ (opened : List ℕ). (i : ℕ) → i < c.args.passes → IsNewPass opened c.place_all.new.knowledge i (pass_at c.in_ok-made.made.items i)) c.deref-2.ensures.value c.in_ok-made.ensures.each))
