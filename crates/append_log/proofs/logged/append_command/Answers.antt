use Rattle.std.proofs.Common.{ℕ, List, Option, IfSome, sym, subst}
use Rattle.std.specs.Prelude.{◌≢◌}
use Rattle.zset_core.specs.SortedSet.{Members}
use Rattle.sorted_sets.specs.SetAndOwnerViews.{IsPreparedAt, Next}
use Rattle.zset_core.specs.SetsByKey.{set_at}
use Rattle.log_records.proofs.PreparedRecords.{no_set_prepared, set_prepared}
use Rattle.append_log.proofs.logged.append_command.Goals as goal

pub append_prepared-requires-clause-prepared : goal.append_prepared-requires-clause-prepared
append_prepared-requires-clause-prepared g c =
    let owner = c.args.owner.now in
    let meaning = c.args.command.now.meaning in
    let prepared = subst (λ (k : Option (List ℕ)). IsPreparedAt owner.world k meaning owner.next) (sym c.in-Some.ensures.key) c.requires.prepared in
    (set_prepared owner c.in-Some.key.now c.in-Some-set.set.now meaning c.in-Some-set.ensures prepared).3

pub append_prepared-requires-clause-changes : goal.append_prepared-requires-clause-changes
append_prepared-requires-clause-changes g c =
    let owner = c.args.owner.now in
    let meaning = c.args.command.now.meaning in
    let set = c.in-Some-set.set.now in
    let prepared = subst (λ (k : Option (List ℕ)). IsPreparedAt owner.world k meaning owner.next) (sym c.in-Some.ensures.key) c.requires.prepared in
    let p = set_prepared owner c.in-Some.key.now set meaning c.in-Some-set.ensures prepared in
    let other = subst (λ (o : Option (List ℕ × Next)). IfSome o (λ next. next.1.members ≢ set_at owner.world next.0)) p.1 c.requires.changes in
    subst (λ (o : Option Next). IfSome o (λ next. next.members ≢ set.members)) (sym p.2) (subst (λ (m : Members). p.0.members ≢ m) (sym c.in-Some-set.ensures.members) other)

pub unreachable-requires-in-None-set : goal.unreachable-requires-in-None-set
unreachable-requires-in-None-set g c =
    let owner = c.args.owner.now in
    let meaning = c.args.command.now.meaning in
    let prepared = subst (λ (k : Option (List ℕ)). IsPreparedAt owner.world k meaning owner.next) (sym c.in-Some.ensures.key) c.requires.prepared in
    no_set_prepared owner c.in-Some.key.now meaning c.in-None-set.ensures prepared
