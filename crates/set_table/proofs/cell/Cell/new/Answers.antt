use Rattle.set_table.proofs.TallyLemmas.{whole_new, cell_is}
use Rattle.set_table.proofs.cell.Cell.new.Goals as goal

pub invariant_of-result : goal.invariant_of-result
invariant_of-result g c =
    whole_new c.args.place c.args.sorted_set c.card-opened.result c.args.max_runs c.args.share c.args.passes c.in-Ok.tallies.items c.requires.idle c.card-opened.ensures.card c.card-opened.ensures.few c.requires.max_runs
    (c.in-Ok.ensures.items_if_clones_equal (λ y same. same))

pub returns-in-Ok : goal.returns-in-Ok
returns-in-Ok g c =
    cell_is c.args.place c.args.sorted_set c.card-opened.result c.args.max_runs c.args.share c.args.passes c.in-Ok.tallies.items c.card-opened.ensures.card (c.in-Ok.ensures.items_if_clones_equal (λ y same. same))
