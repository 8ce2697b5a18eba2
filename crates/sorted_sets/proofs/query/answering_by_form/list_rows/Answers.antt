use Rattle.std.proofs.Common.{refl, length, List, ◌+◌, ◌-◌, ap, subst, ◌∙◌}
use Rattle.sorted_sets.specs.BorrowedListingPairs.{Shown, pairs_of}
use Rattle.zset_core.specs.SortedSet.{Pair}
use Rattle.sorted_sets.specs.WindowPieces.{HasLeast, IsPart}
use Rattle.resp_wire.specs.Response.{Array}
use Rattle.zset_core.specs.Semantics.{elements}
use Rattle.sorted_sets.proofs.Windows.{limited_window, limited_nothing, places_rise}
use Rattle.sorted_sets.proofs.query.answering_by_form.list_rows.Goals as goal

pub returns-then-start-end : goal.returns-then-start-end
returns-then-start-end g c test members bag =
    let ranks = c.ranks_of-start in
    ap Array (c.in_ok-elements_of.ensures ∙ ap (elements c.args.with_scores)
    (limited_nothing test members c.args.limit.now c.args.column.now.rows c.args.rows.0 c.args.rows.1 ranks.result.0 ranks.result.1 bag c.requires.within c.if-start-end.true ranks.ensures.ranks))

pub piece_start-low-requires-clause-rising : goal.piece_start-low-requires-clause-rising
piece_start-low-requires-clause-rising g c =
    places_rise c.piece_list-pivots.result.now c.args.column.now.rows c.piece_list-pivots.ensures.law

pub piece_end-high-requires-clause-rising : goal.piece_end-high-requires-clause-rising
piece_end-high-requires-clause-rising g c =
    places_rise c.piece_list-pivots.result.now c.args.column.now.rows c.piece_list-pivots.ensures.law

pub returns : goal.returns
returns g c test members bag =
    let ranks = c.ranks_of-start in
    let pivots = c.piece_list-pivots in
    ap Array (c.in_ok-elements_of-2.ensures ∙ ap (elements c.args.with_scores)
    (limited_window test members c.args.limit.now pivots.result.now pivots.result.now c.args.column.now.rows c.in_ok-shown.shown.items c.window_of-window.result.now
    c.args.rows.0 c.args.rows.1 ranks.result.0 ranks.result.1 c.piece_start-low.result c.piece_end-high.result bag pivots.ensures.law refl
    c.requires.order c.requires.within ranks.ensures.order ranks.ensures.within ranks.ensures.ranks c.piece_start-low.ensures c.piece_end-high.ensures
    (subst (λ (ps : List Pair). HasLeast ps (length c.in_ok-shown.shown.items) (pairs_of c.in_ok-shown.shown.items)) c.rows.ensures c.in_ok-shown.ensures.least) (subst (λ (shown : List Shown). IsPart (pairs_of shown) (c.args.rows.0 + ranks.result.0 - c.piece_start-low.result) (c.args.rows.0 + ranks.result.1 - c.piece_start-low.result) (pairs_of c.window_of-window.result.now))
    c.deref_mut.ensures.value c.window_of-window.ensures.part) c.window_of-window.ensures.sorted))
