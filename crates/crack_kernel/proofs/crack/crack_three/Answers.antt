use Rattle.std.proofs.Common.{arith}
use Rattle.std.proofs.lemmas.Int.{ints}
use Rattle.std.proofs.lemmas.List.Sorted.{IsPermutation-trans}
use Rattle.crack_kernel.proofs.PartChanges.{IsParted-first, IsParted-second}
use Rattle.crack_kernel.proofs.crack.crack_three.Goals as goal

pub returns-clause-permutation : goal.returns-clause-permutation
returns-clause-permutation g c = IsPermutation-trans _ _ _ c.crack_two-from.ensures.permutation c.crack_piece-to.ensures.permutation

pub returns-clause-first : goal.returns-clause-first
returns-clause-first g c =
    IsParted-first c.args.v _ c.crack_two-from.result c.crack_two-from.new.rows c.crack_piece-to.new.rows (omega (arith, ints))
    c.crack_two-from.ensures.parted c.crack_piece-to.ensures.changes c.crack_piece-to.auto.rows

pub returns-clause-second : goal.returns-clause-second
returns-clause-second g c =
    let p = c.crack_piece-to.ensures in
    IsParted-second c.args.v _ c.args.w _ c.crack_two-from.result c.crack_piece-to.result c.crack_two-from.new.rows c.crack_piece-to.new.rows (omega (arith, ints)) (omega (arith, ints))
    c.requires c.crack_two-from.ensures.parted p.changes c.crack_piece-to.auto.rows p.high p.before p.behind
