use Rattle.std.proofs.Common.{◌∙◌, ap}
use Rattle.append_log.specs.LogViewAndSteps.{LogView}
use Rattle.program_runs.proofs.file_sessions_and_rewrites.serve_logged.Goals as goal

pub returns : goal.returns
returns g c = record {
  start = c.new-logged.result;
  is_new = record {
    world_is = c.new-logged.ensures.world;
    share_is = c.new-logged.ensures.share;
    appended_is = ap (λ (l : LogView). l.appended) (c.new-logged.ensures.log) ∙ ap (λ (l : LogView). l.appended) (c.new-log.ensures);
    limit_is = ap (λ (l : LogView). l.limit) (c.new-logged.ensures.log) ∙ ap (λ (l : LogView). l.limit) (c.new-log.ensures);
    deferred_is = ap (λ (l : LogView). l.deferred) (c.new-logged.ensures.log) ∙ ap (λ (l : LogView). l.deferred) (c.new-log.ensures);
    unbroken = ap (λ (l : LogView). l.broken) (c.new-logged.ensures.log) ∙ ap (λ (l : LogView). l.broken) (c.new-log.ensures);
  };
  here = c.stdio_run.new.exec;
  finishes = c.stdio_run.ensures.finishes;
}
