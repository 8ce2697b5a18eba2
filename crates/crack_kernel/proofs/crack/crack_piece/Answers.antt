use Rattle.std.proofs.Common.{◌≡◌, ◌-◌, length, ◌∙◌, arith}
use Rattle.std.proofs.lemmas.List.Sorted.{IsPermutation-put_mid}
use Rattle.std.proofs.lemmas.Int.{ints}
use Rattle.std.proofs.lemmas.Slice.{between-put_mid, drop-put_mid, take-put_mid_below}
use borrow.Rule.Slice.PartMut.{mid_len}
use Rattle.crack_kernel.proofs.PartMoves.{get_or-put_mid}
use Rattle.crack_kernel.proofs.crack.crack_piece.Goals as goal

pub returns-clause-permutation : goal.returns-clause-permutation
returns-clause-permutation g c = IsPermutation-put_mid c.args.from (c.args.to - c.args.from) c.args.rows.now c.crack_two.new.rows c.crack_two.ensures.permutation

pub returns-clause-changes : goal.returns-clause-changes
returns-clause-changes g c =
    let long : length c.crack_two.new.rows ≡ c.args.to - c.args.from = c.crack_two.auto.rows ∙ mid_len c.args.from c.args.to c.args.rows.now c.requires.within in
    record {
      front = take-put_mid_below c.args.from (c.args.to - c.args.from) c.args.rows.now c.crack_two.new.rows c.args.from (omega arith) (omega arith);
      back = drop-put_mid c.args.from (c.args.to - c.args.from) c.args.rows.now c.crack_two.new.rows c.args.to (omega arith) (omega arith) long;
      inside = rw (between-put_mid c.args.from (c.args.to - c.args.from) c.args.rows.now c.crack_two.new.rows c.args.to (omega arith) long) c.crack_two.ensures.permutation;
    }

pub returns-clause-before : goal.returns-clause-before
returns-clause-before g c k d l h =
    let long : length c.crack_two.new.rows ≡ c.args.to - c.args.from = c.crack_two.auto.rows ∙ mid_len c.args.from c.args.to c.args.rows.now c.requires.within in
    let p = c.crack_two.ensures.parted in
    rw (get_or-put_mid c.args.from (c.args.to - c.args.from) c.args.rows.now c.crack_two.new.rows k d (omega arith) l (omega (arith, p.within))) (omega (arith, ints, p.before (k - c.args.from) d (omega arith) (omega arith)))

pub returns-clause-behind : goal.returns-clause-behind
returns-clause-behind g c k d l h =
    let long : length c.crack_two.new.rows ≡ c.args.to - c.args.from = c.crack_two.auto.rows ∙ mid_len c.args.from c.args.to c.args.rows.now c.requires.within in
    let p = c.crack_two.ensures.parted in
    rw (get_or-put_mid c.args.from (c.args.to - c.args.from) c.args.rows.now c.crack_two.new.rows k d (omega arith) (omega arith) (omega arith)) (omega (arith, ints, p.behind (k - c.args.from) d (omega arith) (omega arith)))
