use Rattle.std.proofs.Common.{ap, refl}
use Rattle.zset_commands.specs.MeaningOfForm.{change_of}
use Rattle.sorted_sets.proofs.EmptySet.{changed_of}
use Rattle.sorted_sets.proofs.query.missing_key_reply.change_of_none.Goals as goal

pub returns-in-Increase : goal.returns-in-Increase
returns-in-Increase g c words = changed_of (change_of words c.args.change.now) _ _ (ap (change_of words) c.in-Increase.is) refl

pub returns-in-Add : goal.returns-in-Add
returns-in-Add g c words = changed_of (change_of words c.args.change.now) _ _ (ap (change_of words) c.in-Add.is) refl

pub returns-in-Remove : goal.returns-in-Remove
returns-in-Remove g c words = changed_of (change_of words c.args.change.now) _ _ (ap (change_of words) c.in-Remove.is) refl

pub returns-in-RemoveRange : goal.returns-in-RemoveRange
returns-in-RemoveRange g c words = changed_of (change_of words c.args.change.now) _ _ (ap (change_of words) c.in-RemoveRange.is) refl
