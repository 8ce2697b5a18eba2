use Rattle.std.proofs.Common.{◌≡◌, ◌+◌, ◌∙◌, drop, sym, ap, arith, length}
use Rattle.std.specs.Vec.Iter.{into_iter_items}
use Rattle.table_lifetime.proofs.OpeningLemmas.{next_of, idle_at, after_push, one_made, all_made}
use Rattle.table_lifetime.proofs.opening.making_cells.new_cells.Goals as goal

pub split-share-requires : goal.split-share-requires
split-share-requires g c =
    let i = c.loop-set.invariant in
    omega (arith, i.size, i.parts, c.requires.parts, c.in-Some.ensures.steps.1)

pub new-requires-clause-idle : goal.new-requires-clause-idle
new-requires-clause-idle g c =
    let next = next_of c.args.sets.items (length c.loop-set.cells.items) c.in-Some.set c.in-Some.set (into_iter_items c.loop-set.set-iterator) (into_iter_items c.next.new.self) c.loop-set.invariant.left c.in-Some.ensures.steps.0 in
    idle_at c.args.sets.items (length c.loop-set.cells.items) c.in-Some.set (into_iter_items c.next.new.self) c.requires.idle next

pub loop-set-preserved : goal.loop-set-preserved
loop-set-preserved g c =
    let i = c.loop-set.invariant in
    let next = next_of c.args.sets.items (length c.loop-set.cells.items) c.in-Some.set c.in-Some.set (into_iter_items c.loop-set.set-iterator) (into_iter_items c.next.new.self) i.left c.in-Some.ensures.steps.0 in
    let more : length c.push.new.self.items ≡ length c.loop-set.cells.items + 1 = after_push _ _ _ c.in_ok-push.ensures.items in
    record {
      left = next.behind ∙ ap (λ n. drop n c.args.sets.items) (sym more);
      size = omega (arith, i.size, more, c.in-Some.ensures.steps.1);
      made = one_made c.args.max_runs c.args.passes c.args.sets.items c.loop-set.cells.items c.push.new.self.items c.in_ok-new.field-0 c.split-share.result c.len.result c.in-Some.set (into_iter_items c.next.new.self) next c.in_ok-push.ensures.items
          (c.in_ok-new.ensures) c.split-share.ensures.none (omega (arith, c.len.ensures, c.loop-set.cells.ok)) i.made;
      parts = omega (arith, i.parts, more, c.split-share.ensures.part);
      appended = ap (λ l. l.appended) c.split-share.ensures.same ∙ i.appended;
    }

pub returns-clause-cells : goal.returns-clause-cells
returns-clause-cells g c =
    let i = c.loop-set.invariant in
    all_made c.args.max_runs c.args.passes c.args.sets.items c.loop-set.cells.items (omega (arith, i.size, c.in-None.ensures.steps.0)) i.made
