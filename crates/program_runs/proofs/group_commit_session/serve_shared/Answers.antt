use Rattle.std.proofs.Common.{◌∙◌, ap}
use Rattle.append_log.specs.LogViewAndSteps.{LogView}
use Rattle.program_runs.proofs.group_commit_session.serve_shared.Goals as goal

pub returns : goal.returns
returns g c =
    let e = c.serve_deferred.ensures in
    record {
      start = c.new-logged.result;
      is_new = record {
        world_is = c.new-logged.ensures.world;
        share_is = c.new-logged.ensures.share;
        appended_is = ap (λ (l : LogView). l.appended) (c.new-logged.ensures.log) ∙ ap (λ (l : LogView). l.appended) (c.deferred-log.ensures);
        limit_is = ap (λ (l : LogView). l.limit) (c.new-logged.ensures.log) ∙ ap (λ (l : LogView). l.limit) (c.deferred-log.ensures);
        deferred_is = ap (λ (l : LogView). l.deferred) (c.new-logged.ensures.log) ∙ ap (λ (l : LogView). l.deferred) (c.deferred-log.ensures);
        unbroken = ap (λ (l : LogView). l.broken) (c.new-logged.ensures.log) ∙ ap (λ (l : LogView). l.broken) (c.deferred-log.ensures);
      };
      here = c.serve_deferred.new.owner;
      finishes = record {
        result = c.serve_deferred.result;
        served = e.served;
        source_failures = e.source_failures;
        drain_failures = e.drain_failures;
        reads = e.reads;
        many = e.many;
        sent_on = e.sent_on;
        finish_is = c.after_session.ensures;
      };
    }
