use Rattle.std.proofs.Common.{subst, ◌∙◌}
use Rattle.std.proofs.lemmas.List.Elements.{All-push}
use Rattle.set_table.specs.TableAndPassViews.{PassView, IsPassOf}
use Rattle.table_worker.specs.WorkerRequests.{HandlerView}
use Rattle.tcp_server.proofs.ServedLemmas.{passes_more}
use Rattle.tcp_server.proofs.serve_by_table_workers.take_passes.Goals as goal

pub loop-handler-preserved : goal.loop-handler-preserved
loop-handler-preserved g c =
    let i = c.loop-handler.invariant in let p = c.push_reserved.ensures in
    let Own : HandlerView → Type 0 = λ h. IsPassOf h.worker.table h.worker.pass in
    (passes_more c.loop-handler.passes.items c.push_reserved.new.self.items c.loop-handler.yielded c.in-Some.handler c.into_pass.result i.0 p.items c.into_pass.ensures.pass, p.capacity ∙ i.1, All-push Own c.loop-handler.yielded c.in-Some.handler i.2 (subst (λ (p : PassView). IsPassOf c.in-Some.handler.worker.table p) c.into_pass.ensures.pass c.into_pass.ensures.own))
