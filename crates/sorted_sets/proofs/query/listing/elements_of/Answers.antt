use Rattle.std.proofs.Common.{◌≡◌, ◌<◌, ◌+◌, ◌++◌, ◌∷◌, [], suc, ℕ, ℤ, pos, List, Bool, true, false, length, drop, get_or, append_assoc, add-one, drop-cons, refl, sym, ap, ◌∙◌, rules, SFits, w64, to_z, of_z, to_z-of_z}
use Rattle.sorted_sets.specs.BorrowedListingPairs.{Shown, pair_of, pairs_of}
use Rattle.zset_core.specs.SortedSet.{Pair}
use Rattle.zset_core.specs.Semantics.{elements}
use Rattle.sorted_sets.proofs.query.listing.elements_of.Goals as goal

first_apart : (with_scores : Bool) (p : Pair) (ps : List Pair) → elements with_scores (p ∷ ps) ≡ elements with_scores (p ∷ []) ++ elements with_scores ps
first_apart false p ps = refl
first_apart true p ps = refl

-- one pair more is put
step : (with_scores : Bool) (ps : List Shown) (i : ℕ) (none : Shown) (p : Pair) (done more all : List (List ℕ)) → i < length ps → p ≡ pair_of (get_or ps i none) → more ≡ done ++ elements with_scores (p ∷ [])
    → done ++ elements with_scores (pairs_of (drop i ps)) ≡ all → more ++ elements with_scores (pairs_of (drop (i + 1) ps)) ≡ all
step with_scores ps i none p done more all lt is put here =
    let rest = pairs_of (drop (suc i) ps) in
    ap (λ l. l ++ elements with_scores (pairs_of (drop (i + 1) ps))) put
    ∙ ap (λ j. (done ++ elements with_scores (p ∷ [])) ++ elements with_scores (pairs_of (drop j ps))) (add-one i)
    ∙ append_assoc done (elements with_scores (p ∷ [])) (elements with_scores rest)
    ∙ ap (λ l. done ++ l) (sym (first_apart with_scores p rest))
    ∙ ap (λ (q : Pair). done ++ elements with_scores (q ∷ rest)) is
    ∙ ap (λ (l : List Shown). done ++ elements with_scores (pairs_of l)) (sym (drop-cons ps i none lt)) ∙ here

pub loop-score-preserved : goal.loop-score-preserved
loop-score-preserved g c =
    let none : Shown = (pos 0, record { ref_ptr = (0, 0); now = [] }) in
    let x = get_or c.args.pairs.now c.loop-score.score-index none in
    let f : SFits w64 x.0 = search rules in
    step c.args.with_scores c.args.pairs.now c.loop-score.score-index none (to_z w64 (of_z w64 x.0), x.1.now) c.loop-score.list.items c.put_elements.new.list.items _
    c.loop-score-test.true (ap (λ (z : ℤ). (z, x.1.now)) (to_z-of_z f)) c.in_ok-put_elements.ensures c.loop-score.invariant
