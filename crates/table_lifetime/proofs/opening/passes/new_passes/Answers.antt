use Rattle.std.proofs.Common.{◌+◌, ◌∙◌, sym, ap, subst}
use Rattle.set_table.specs.TableAndPassViews.{PassView}
use Rattle.table_lifetime.specs.Opening.{AreNewShares, IsNewPass}
use Rattle.table_lifetime.proofs.OpeningLemmas.{after_push, one_pass_more}
use Rattle.table_lifetime.proofs.opening.passes.new_passes.Goals as goal

pub loop-number-preserved : goal.loop-number-preserved
loop-number-preserved c =
    let i = c.loop-number.invariant in
    let new : IsNewPass c.args.opened.now c.args.knowledge.now c.loop-number.number c.new.result = record {
      number_is = ap (λ (p : PassView). p.number) c.new.ensures;
      notes_are = ap (λ (p : PassView). p.notes) c.new.ensures ∙ c.in_ok-known.ensures.copy ∙ i.same;
      shares = subst (AreNewShares c.args.opened.now c.loop-number.number) (sym (ap (λ (p : PassView). p.shares) c.new.ensures)) c.in_ok-shares.ensures;
    } in
    record {
      count = after_push _ _ _ c.in_ok-push.ensures.items ∙ ap (λ n. n + 1) i.count;
      same = c.again.ensures.same ∙ i.same;
      each = one_pass_more c.args.opened.now c.args.knowledge.now c.loop-number.passes.items c.push.new.self.items c.new.result c.loop-number.number i.count c.in_ok-push.ensures.items new i.each;
    }
