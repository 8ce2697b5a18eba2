use Rattle.std.proofs.Common.{◌≡◌, ◌∙◌, sym, subst, ap, rules, Some, IfOk}
use Rattle.resp_wire.specs.Response.{response_of}
use Rattle.set_table.specs.CellViewAndRuns.{CellView, counts_of}
use Rattle.set_table.proofs.StepLemmas.{read_step}
use Rattle.zset_core.specs.Semantics.{step}
use Rattle.set_table.proofs.TallyLemmas.{lawful, has_read}
use Rattle.set_table.proofs.cell.Cell.answer_of.Goals as goal

pub new-requires : goal.new-requires
new-requires g c =
    let i = c.self.inside in
    let told = subst (λ (v : CellView). IfOk c.args.reply (λ reply. step v.sorted_set.members c.args.command.now.meaning ≡ Some (v.sorted_set.members, response_of reply))) (sym c.self.view_is) c.requires.reply in
    let v : CellView = record { place = i.place; sorted_set = i.sorted_set; opened = i.opened; max_runs = i.max_runs; tallies = i.tallies.items; appended = i.share } in
    lawful v i.sorted_set c.args.command.now (response_of c.in-Ok.reply) c.found.result c.none-own.result c.self.invariant.0
    (read_step i.sorted_set.members c.args.command.now (response_of c.in-Ok.reply) c.none-own.result c.none-own.ensures (rw c.in-Ok.is at told)) (c.found.ensures ∙ ap counts_of (sym c.self.view_is))

pub returns-in-Ok : goal.returns-in-Ok
returns-in-Ok g c =
    let i = c.self.inside in
    let told = subst (λ (v : CellView). IfOk c.args.reply (λ reply. step v.sorted_set.members c.args.command.now.meaning ≡ Some (v.sorted_set.members, response_of reply))) (sym c.self.view_is) c.requires.reply in
    let v : CellView = record { place = i.place; sorted_set = i.sorted_set; opened = i.opened; max_runs = i.max_runs; tallies = i.tallies.items; appended = i.share } in
    record {
      read =
          has_read v c.args.self.now c.args.shares.now c.args.command.now (response_of c.in-Ok.reply) c.found.result c.none-own.result c.new.result c.self.view_is c.self.invariant.0 (c.is_in_step.ensures.0 (search (rules, c.if-not-is_in_step.false)))
          (read_step i.sorted_set.members c.args.command.now (response_of c.in-Ok.reply) c.none-own.result c.none-own.ensures (rw c.in-Ok.is at told)) c.none-own.ensures c.found.ensures c.new.ensures;
    }
