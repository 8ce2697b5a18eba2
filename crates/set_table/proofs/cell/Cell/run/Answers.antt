use Rattle.std.proofs.Common.{◌<◌, ◌∙◌, sym, ap, arith, rules}
use Rattle.resp_wire.specs.Response.{response_of}
use Rattle.set_table.specs.declared.member_change_counts.Tally.{Tally}
use Rattle.set_table.specs.PassTallies.{runs_of}
use Rattle.set_table.specs.CellViewAndRuns.{CellView, counts_of}
use Rattle.set_table.proofs.TallyLemmas.{lawful, ran_as, ran_by, kept_whole}
use Rattle.set_table.proofs.cell.Cell.run.Goals as goal

pub new-requires : goal.new-requires
new-requires g c =
    let i = c.self.inside in
    let v : CellView = record { place = i.place; sorted_set = i.sorted_set; opened = i.opened; max_runs = i.max_runs; tallies = i.tallies.items; appended = i.share } in
    lawful v c.take_step.new.set c.args.command.now (response_of c.in_ok-reply.reply) c.found-found.result c.in_ok-reply.own c.self.invariant.0 c.in_ok-reply.ensures.ok (c.found-found.ensures ∙ ap counts_of (sym c.self.view_is))

pub invariant_of-self-2 : goal.invariant_of-self-2
invariant_of-self-2 g c =
    let i = c.self.inside in
    let v : CellView = record { place = i.place; sorted_set = i.sorted_set; opened = i.opened; max_runs = i.max_runs; tallies = i.tallies.items; appended = i.share } in
    let room : runs_of v.tallies < v.max_runs = omega (arith, c.if-self.false, ap (λ (t : Tally). t.runs) c.self.invariant.1) in
    kept_whole v c.args.self.now c.args.shares.now i.total c.count_run.new.total c.in_ok-reply.own c.take_step.new.set c.count_run.new.tallies.items c.take_step.new.share c.args.command.now (response_of c.in_ok-reply.reply)
    c.self.view_is c.self.invariant.0 (c.is_in_step.ensures.0 (search (rules, c.if-not-is_in_step.false))) room c.in_ok-reply.ensures.idle c.in_ok-reply.ensures.ok c.self.invariant.1 c.count_run.ensures.tallies c.count_run.ensures.total

pub returns-clause-ok : goal.returns-clause-ok
returns-clause-ok g c =
    let i = c.self.inside in
    let v : CellView = record { place = i.place; sorted_set = i.sorted_set; opened = i.opened; max_runs = i.max_runs; tallies = i.tallies.items; appended = i.share } in
    let room : runs_of v.tallies < v.max_runs = omega (arith, c.if-self.false, ap (λ (t : Tally). t.runs) c.self.invariant.1) in
    ran_as v c.args.self.now c.args.shares.now c.count_run.new.shares c.in_ok-reply.own c.take_step.new.set c.count_run.new.tallies.items c.take_step.new.share c.args.command.now (response_of c.in_ok-reply.reply) c.found-found.result c.new.result
    c.self.view_is c.self.invariant.0 (c.is_in_step.ensures.0 (search (rules, c.if-not-is_in_step.false))) room c.in_ok-reply.ensures.ok c.in_ok-reply.ensures.logged c.found-found.ensures c.count_run.ensures.tallies c.count_run.ensures.shares c.new.ensures

pub returns-clause-told : goal.returns-clause-told
returns-clause-told g c = ran_by c.args.self.now _ c.args.shares.now c.count_run.new.shares c.args.command.now c.new.result
    (let i = c.self.inside in
    let v : CellView = record { place = i.place; sorted_set = i.sorted_set; opened = i.opened; max_runs = i.max_runs; tallies = i.tallies.items; appended = i.share } in
    let room : runs_of v.tallies < v.max_runs = omega (arith, c.if-self.false, ap (λ (t : Tally). t.runs) c.self.invariant.1) in
    ran_as v c.args.self.now c.args.shares.now c.count_run.new.shares c.in_ok-reply.own c.take_step.new.set c.count_run.new.tallies.items c.take_step.new.share c.args.command.now (response_of c.in_ok-reply.reply) c.found-found.result c.new.result
    c.self.view_is c.self.invariant.0 (c.is_in_step.ensures.0 (search (rules, c.if-not-is_in_step.false))) room c.in_ok-reply.ensures.ok c.in_ok-reply.ensures.logged c.found-found.ensures c.count_run.ensures.tallies c.count_run.ensures.shares c.new.ensures)
