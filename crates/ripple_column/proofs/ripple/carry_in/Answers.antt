use Rattle.std.proofs.Common.{◌≡◌, ◌≤◌, ◌+◌, ◌-◌, ◌++◌, ◌∷◌, [], ℕ, pos, length, sym, ap, ◌∙◌, true, arith}
use Rattle.std.proofs.lemmas.Grind.{common_steps}
use Rattle.std.proofs.lemmas.Int.{ints}
use Rattle.crack_kernel.specs.PivotList.{IsRising, RisesPast, shifted}
use Rattle.crack_kernel.proofs.PivotOrder.{IsRising-shifted, length-shifted, values-shifted, RisesPast-same}
use Rattle.column_rows.specs.MergeGap.{AllParted}
use Rattle.column_rows.proofs.Hole.{Inserting, Inserting-start, Inserting-step, Inserting-end}
use Rattle.ripple_column.proofs.ripple.carry_in.Goals as goal

pub loop-i-init : goal.loop-i-init
loop-i-init g c =
    let ps = c.list-list.result.now in
    let rows = c.args.rows.now.items in
    let same : ps ≡ c.args.pivots.now.list = c.list-list.ensures.value in
    let long : c.len-hole.result ≡ length rows = omega arith in
    let law : AllParted ps rows = rw same c.requires.law.parted in
    let rising : IsRising ps = rw same c.requires.law.rising in
    record {
      from = rw same c.count_upto-first.ensures.within;
      inserting = rw (c.push_reserved.ensures.items, long) (Inserting-start ps rows c.args.row rising law);
      capacity = c.push_reserved.ensures.capacity;
    }

pub loop-i-preserved : goal.loop-i-preserved
loop-i-preserved g c =
    let ps = c.list-list.result.now in
    let n = length c.args.rows.now.items in
    let v = c.loop-i.invariant in
    let j : ℕ = c.loop-i.i - 1 in
    let up : c.loop-i.i ≡ j + 1 = omega arith in
    let s : Inserting ps n (j + 1) c.loop-i.hole c.args.row (c.args.rows.now.items ++ c.args.row ∷ []) c.loop-i.rows.items = rw (← up) v.inserting in
    record {
      from = omega arith;
      inserting = Inserting-step ps n j c.loop-i.hole (pos 0, 0) c.args.row _ c.loop-i.rows.items c.swap.new.self.items s c.swap.ensures.by_index c.swap.ensures.items;
      capacity = c.swap.ensures.capacity ∙ v.capacity;
    }

pub returns-clause-law : goal.returns-clause-law
returns-clause-law g c =
    let ps = c.list-list.result.now in
    let old = c.args.pivots.now.list in
    let first = c.count_upto-first.result in
    let same : old ≡ ps = sym c.list-list.ensures.value in
    let first_is : c.loop-i.i ≡ first = omega (arith, c.loop-i.invariant.from) in
    let past : RisesPast c.args.row.0 old first = RisesPast-same _ _ _ _ (omega (arith, ints)) c.count_upto-first.ensures in
    let past' : RisesPast c.args.row.0 ps c.loop-i.i = rw (← same, first_is) past in
    let within : first ≤ length old = past.within in
    let parted = Inserting-end ps _ c.loop-i.i c.loop-i.hole c.args.row _ c.loop-i.rows.items c.loop-i.invariant.inserting past' in
    let e : shifted first true old ≡ shifted c.loop-i.i true ps = ap (λ (m : ℕ). shifted m true old) (sym first_is) ∙ ap (shifted c.loop-i.i true) same in
    rw c.shift.ensures.list (record {
      parted = rw e parted;
      rising = IsRising-shifted first true old within c.requires.law.rising;
      few = omega (arith, length-shifted first true old, c.requires.law.few);
    })

pub returns-clause-frame : goal.returns-clause-frame
returns-clause-frame g c = record {
  values = rw c.shift.ensures.list (values-shifted c.count_upto-first.result true c.args.pivots.now.list);
  spare = c.shift.ensures.spare;
  capacity = c.loop-i.invariant.capacity;
}

pub swap-requires-clause-j_in_bounds : goal.swap-requires-clause-j_in_bounds
swap-requires-clause-j_in_bounds g c = grind (arith, common_steps)

pub shift-requires-clause-high : goal.shift-requires-clause-high
shift-requires-clause-high g c = grind (arith, common_steps)
