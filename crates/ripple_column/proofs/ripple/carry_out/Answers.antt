use Rattle.std.proofs.Common.{◌≡◌, ◌<◌, ◌≤◌, ◌+◌, ◌-◌, ℕ, ℤ, List, pos, length, get_or, sym, ap, ◌∙◌, false, cond, eqb, arith, vec_len, Some, length-drop}
use Rattle.std.proofs.lemmas.Grind.{common_steps}
use Rattle.std.proofs.lemmas.Int.{ints}
use Rattle.std.proofs.lemmas.List.{get_or_past, get_or-drop}
use Rattle.crack_kernel.specs.PivotList.{IsRising, RisesPast, shifted}
use Rattle.crack_kernel.proofs.PivotOrder.{IsRising-shifted, length-shifted, values-shifted, RisesPast-same}
use Rattle.column_rows.specs.StandsWithin.{StandsWithin}
use Rattle.column_rows.specs.MergeGap.{AllParted}
use Rattle.column_rows.proofs.Carried.{start_is}
use Rattle.column_rows.proofs.Hole.{Removing, Removing-start, Removing-step, Removing-end, StandsWithin-piece, start_from, Places, Places-from_law, bound_within, bound_from}
use Rattle.ripple_column.proofs.ripple.carry_out.Goals as goal
use Rattle.ripple_column.proofs.ripple.carry_out.Goals.{In-Some}

pub place_between-at-requires-clause-there : goal.place_between-at-requires-clause-there
place_between-at-requires-clause-there g c =
    let ps = c.list-list.result.now in
    let same : ps ≡ c.args.pivots.now.list = c.list-list.ensures.value in
    let first = c.count_upto-first.result in
    let rows = c.args.rows.now.items in
    let law : AllParted ps rows = rw same c.requires.law.parted in
    let past : RisesPast c.args.row.now.0 ps first = rw same (RisesPast-same _ _ _ _ (omega (arith, ints)) c.count_upto-first.ensures) in
    let long : c.len.result ≡ length rows = omega arith in
    let to_at : c.piece_at-from.result.1 ≡ (get_or ps first (pos 0, c.len.result)).1 = rw same c.piece_at-from.ensures.end in
    let to_is : c.piece_at-from.result.1 ≡ (get_or ps first (pos 0, length rows)).1 = to_at ∙ ap (λ (m : ℕ). (get_or ps first (pos 0, m)).1) long in
    let from_is : c.piece_at-from.result.0 ≡ cond (eqb first 0) 0 (get_or ps (first - 1) (pos 0, 0)).1 = rw same (c.piece_at-from.ensures.start ∙ start_is c.args.pivots.now.list first) in
    let s : StandsWithin c.args.row.now rows c.piece_at-from.result.0 (get_or ps first (pos 0, length rows)).1 =
    StandsWithin-piece ps first c.piece_at-from.result.0 c.args.row.now rows law past c.requires.there from_is in
    rw (c.list.ensures, to_is) s

pub place_between-at-requires-clause-within : goal.place_between-at-requires-clause-within
place_between-at-requires-clause-within g c =
    let ps = c.list-list.result.now in
    let same : ps ≡ c.args.pivots.now.list = c.list-list.ensures.value in
    let rows = c.args.rows.now.items in
    let law : AllParted ps rows = rw same c.requires.law.parted in
    let rising : IsRising ps = rw same c.requires.law.rising in
    let long : c.len.result ≡ length rows = omega arith in
    let to_at : c.piece_at-from.result.1 ≡ (get_or ps c.count_upto-first.result (pos 0, c.len.result)).1 = rw same c.piece_at-from.ensures.end in
    let to_is : c.piece_at-from.result.1 ≡ (get_or ps c.count_upto-first.result (pos 0, length rows)).1 = to_at ∙ ap (λ (m : ℕ). (get_or ps c.count_upto-first.result (pos 0, m)).1) long in
    let top = bound_within ps (length rows) c.count_upto-first.result (Places-from_law ps rows rising law) in
    rw (c.list.ensures, to_is) top

pub swap-requires-clause-i_in_bounds : goal.swap-requires-clause-i_in_bounds
swap-requires-clause-i_in_bounds g c =
    let ps = c.list-list.result.now in
    let same : ps ≡ c.args.pivots.now.list = c.list-list.ensures.value in
    let rows = c.args.rows.now.items in
    let law : AllParted ps rows = rw same c.requires.law.parted in
    let rising : IsRising ps = rw same c.requires.law.rising in
    let long : c.len.result ≡ length rows = omega arith in
    let to_at : c.piece_at-from.result.1 ≡ (get_or ps c.count_upto-first.result (pos 0, c.len.result)).1 = rw same c.piece_at-from.ensures.end in
    let to_is : c.piece_at-from.result.1 ≡ (get_or ps c.count_upto-first.result (pos 0, length rows)).1 = to_at ∙ ap (λ (m : ℕ). (get_or ps c.count_upto-first.result (pos 0, m)).1) long in
    let top = bound_within ps (length rows) c.count_upto-first.result (Places-from_law ps rows rising law) in
    let some : c.place_between-at.result < c.piece_at-from.result.1 = c.place_between-at.ensures.high in
    omega (arith, top, to_is)

pub swap-requires-clause-j_in_bounds : goal.swap-requires-clause-j_in_bounds
swap-requires-clause-j_in_bounds g c =
    let ps = c.list-list.result.now in
    let same : ps ≡ c.args.pivots.now.list = c.list-list.ensures.value in
    let rows = c.args.rows.now.items in
    let law : AllParted ps rows = rw same c.requires.law.parted in
    let rising : IsRising ps = rw same c.requires.law.rising in
    let long : c.len.result ≡ length rows = omega arith in
    let to_at : c.piece_at-from.result.1 ≡ (get_or ps c.count_upto-first.result (pos 0, c.len.result)).1 = rw same c.piece_at-from.ensures.end in
    let to_is : c.piece_at-from.result.1 ≡ (get_or ps c.count_upto-first.result (pos 0, length rows)).1 = to_at ∙ ap (λ (m : ℕ). (get_or ps c.count_upto-first.result (pos 0, m)).1) long in
    let top = bound_within ps (length rows) c.count_upto-first.result (Places-from_law ps rows rising law) in
    let some : c.place_between-at.result < c.piece_at-from.result.1 = c.place_between-at.ensures.high in
    omega (arith, top, to_is)

pub loop-i-init : goal.loop-i-init
loop-i-init g c =
    let ps = c.list-list.result.now in
    let same : ps ≡ c.args.pivots.now.list = c.list-list.ensures.value in
    let first = c.count_upto-first.result in
    let rows = c.args.rows.now.items in
    let at = c.place_between-at.result in
    let law : AllParted ps rows = rw same c.requires.law.parted in
    let rising : IsRising ps = rw same c.requires.law.rising in
    let long : c.len.result ≡ length rows = omega arith in
    let to_at : c.piece_at-from.result.1 ≡ (get_or ps first (pos 0, c.len.result)).1 = rw same c.piece_at-from.ensures.end in
    let to_is : c.piece_at-from.result.1 ≡ (get_or ps first (pos 0, length rows)).1 = to_at ∙ ap (λ (m : ℕ). (get_or ps first (pos 0, m)).1) long in
    let from_is : c.piece_at-from.result.0 ≡ cond (eqb first 0) 0 (get_or ps (first - 1) (pos 0, 0)).1 = rw same (c.piece_at-from.ensures.start ∙ start_is c.args.pivots.now.list first) in
    let o : Places ps (length rows) = Places-from_law ps rows rising law in
    let fit : first ≤ length ps = rw same c.count_upto-first.ensures.within in
    let high : at < c.piece_at-from.result.1 = c.place_between-at.ensures.high in
    let low : c.piece_at-from.result.0 ≤ at = c.place_between-at.ensures.low in
    let up : c.piece_at-from.result.1 - 1 + 1 ≡ c.piece_at-from.result.1 = omega arith in
    record {
      removing = Removing-start ps first at (c.piece_at-from.result.1 - 1) c.args.row.now rows c.swap.new.self.items o law fit
          (λ k e lt. let h : (get_or ps k e).1 ≤ c.piece_at-from.result.0 = start_from ps (length rows) first c.piece_at-from.result.0 o fit from_is k e lt in omega arith)
          (omega arith) (up ∙ to_is)
          (λ d. ap (λ (xs : List (ℤ × List ℕ)). get_or xs at d) (sym c.list.ensures) ∙ c.place_between-at.ensures.here d)
          c.swap.ensures.by_index c.swap.ensures.items;
      capacity = c.swap.ensures.capacity;
    }

pub swap-requires-in-loop-i-clause-i_in_bounds : goal.swap-requires-in-loop-i-clause-i_in_bounds
swap-requires-in-loop-i-clause-i_in_bounds g c =
    let ps = c.list-list.result.now in
    let n : ℕ = length c.args.rows.now.items in
    let s = c.loop-i.invariant.removing in
    let lens : c.len-in-loop-i.result ≡ n = omega (arith, s.long) in
    let same : ps ≡ c.args.pivots.now.list = c.list-list.ensures.value in
    let end_at : c.piece_at-end.result.1 ≡ (get_or ps (c.loop-i.i + 1) (pos 0, c.len-in-loop-i.result)).1 = rw same c.piece_at-end.ensures.end in
    let last_is : c.piece_at-end.result.1 ≡ (get_or ps (c.loop-i.i + 1) (pos 0, n)).1 = end_at ∙ ap (λ (m : ℕ). (get_or ps (c.loop-i.i + 1) (pos 0, m)).1) lens in
    let top : (get_or ps (c.loop-i.i + 1) (pos 0, n)).1 ≤ n = bound_within ps n (c.loop-i.i + 1) s.places in
    let here : (get_or ps c.loop-i.i (pos 0, n)).1 ≤ n = bound_within ps n c.loop-i.i s.places in
    omega (arith, s.at, s.long)

pub loop-i-preserved : goal.loop-i-preserved
loop-i-preserved g c =
    let ps = c.list-list.result.now in
    let n : ℕ = length c.args.rows.now.items in
    let s = c.loop-i.invariant.removing in
    let lens : c.len-in-loop-i.result ≡ n = omega (arith, s.long) in
    let same : ps ≡ c.args.pivots.now.list = c.list-list.ensures.value in
    let end_at : c.piece_at-end.result.1 ≡ (get_or ps (c.loop-i.i + 1) (pos 0, c.len-in-loop-i.result)).1 = rw same c.piece_at-end.ensures.end in
    let last_is : c.piece_at-end.result.1 ≡ (get_or ps (c.loop-i.i + 1) (pos 0, n)).1 = end_at ∙ ap (λ (m : ℕ). (get_or ps (c.loop-i.i + 1) (pos 0, m)).1) lens in
    let low : (get_or ps c.loop-i.i (pos 0, n)).1 ≤ (get_or ps (c.loop-i.i + 1) (pos 0, n)).1 = bound_from ps n c.loop-i.i (c.loop-i.i + 1) (pos 0, n) s.places (omega arith) c.loop-i-test.true in
    let up : c.piece_at-end.result.1 - 1 + 1 ≡ c.piece_at-end.result.1 = omega (arith, s.at) in
    record {
      removing = Removing-step ps n c.count_upto-first.result c.loop-i.i c.loop-i.hole (c.piece_at-end.result.1 - 1) c.args.row.now _ c.loop-i.rows.items c.swap-in-loop-i.new.self.items
          s c.loop-i-test.true (up ∙ last_is) c.swap-in-loop-i.ensures.by_index c.swap-in-loop-i.ensures.items;
      capacity = c.swap-in-loop-i.ensures.capacity ∙ c.loop-i.invariant.capacity;
    }

pub shift-requires-clause-low : goal.shift-requires-clause-low
shift-requires-clause-low g c down k d h =
    let old = c.args.pivots.now.list in
    let ps = c.list-list.result.now in
    let first = c.count_upto-first.result in
    let same : ps ≡ old = c.list-list.ensures.value in
    let within : first + k < length old = omega (arith, length-drop first old) in
    let within' : first + k < length ps = rw same within in
    let low : 0 < (get_or ps (first + k) d).1 = c.loop-i.invariant.removing.low (first + k) d (omega arith) within' in
    let low' : 0 < (get_or old (first + k) d).1 = rw same at low in
    rw (get_or-drop first old k d) low'

-- what pop took stood at the hole
gone_is : (g : _) (c : In-Some g) → c.in-Some.gone ≡ c.args.row.now
gone_is g c =
    let ps = c.list-list.result.now in
    let n : ℕ = length c.args.rows.now.items in
    let s = c.loop-i.invariant.removing in
    let past : get_or ps c.loop-i.i (pos 0, n) ≡ (pos 0, n) = get_or_past ps c.loop-i.i (pos 0, n) c.loop-i-test.false in
    let end : c.loop-i.hole + 1 ≡ n = s.at ∙ ap (λ (q : ℤ × ℕ). q.1) past in
    let last : vec_len c.loop-i.rows - 1 ≡ c.loop-i.hole = omega (arith, s.long) in
    let some : 0 < vec_len c.loop-i.rows = omega (arith, s.long) in
    let v : Some c.in-Some.gone ≡ Some (get_or c.loop-i.rows.items (vec_len c.loop-i.rows - 1) c.args.row.now) = c.in-Some.ensures.value c.args.row.now some in
    let taken : c.in-Some.gone ≡ get_or c.loop-i.rows.items (vec_len c.loop-i.rows - 1) c.args.row.now = cc in
    taken ∙ ap (λ (m : ℕ). get_or c.loop-i.rows.items m c.args.row.now) last ∙ s.here c.args.row.now

pub returns-clause-gone : goal.returns-clause-gone
returns-clause-gone g c = gone_is g c

pub returns-clause-rows : goal.returns-clause-rows
returns-clause-rows g c = rw (← gone_is g c, ← c.in-Some.ensures.items) c.loop-i.invariant.removing.moves

pub returns-clause-law : goal.returns-clause-law
returns-clause-law g c =
    let ps = c.list-list.result.now in
    let old = c.args.pivots.now.list in
    let first = c.count_upto-first.result in
    let s = c.loop-i.invariant.removing in
    let all : c.loop-i.i ≡ length ps = omega (arith, s.upto) in
    let s' : Removing ps (length c.args.rows.now.items) first (length ps) c.loop-i.hole c.args.row.now c.args.rows.now.items c.loop-i.rows.items = rw (← all) s in
    let law = Removing-end ps _ first c.loop-i.hole c.args.row.now _ c.loop-i.rows.items s' in
    let long : vec_len c.loop-i.rows ≡ length c.loop-i.rows.items = omega arith in
    let within : first ≤ length old = c.count_upto-first.ensures.within in
    let same : shifted first false old ≡ shifted first false ps = ap (shifted first false) (sym c.list-list.ensures.value) in
    rw c.shift.ensures.list (record {
      parted = rw (same, c.in-Some.ensures.rest, long) law;
      rising = IsRising-shifted first false old within c.requires.law.rising;
      few = omega (arith, length-shifted first false old, c.requires.law.few);
    })

pub returns-clause-frame : goal.returns-clause-frame
returns-clause-frame g c = record {
  values = rw c.shift.ensures.list (values-shifted c.count_upto-first.result false c.args.pivots.now.list);
  spare = c.shift.ensures.spare;
  capacity = c.in-Some.ensures.capacity ∙ c.loop-i.invariant.capacity;
}

pub overflow_sub-end : goal.overflow_sub-end
overflow_sub-end g c = grind (arith, common_steps)

pub overflow_sub-hole-in-loop-i : goal.overflow_sub-hole-in-loop-i
overflow_sub-hole-in-loop-i g c = grind (arith, common_steps)
