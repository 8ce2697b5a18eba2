use Rattle.std.proofs.Common.{◌≡◌, ◌<◌, ◌+◌, ◌∷◌, suc, get_or, length, drop, drop-cons, add-one, arith, ◌∙◌, ap, sym, List, ℕ}
use Rattle.std.specs.FinMap as map
use Rattle.zset_core.specs.SortedSet.{Members}
use Rattle.zset_core.specs.Semantics.{remove_all}
use Rattle.sorted_sets.specs.NamesTouchedByPlan.{all_noted}
use Rattle.sorted_sets.specs.MembersWithStagedScores.{current_score, members_by, names_at}
use Rattle.sorted_sets.proofs.Naming.{drop_all, noted_all}
use Rattle.sorted_sets.proofs.set.member_removal.find_places.Goals as goal

-- the names from one on, which was read
from_here : (names : List (List ℕ)) (i : ℕ) (q item : List ℕ) → i < length names → q ≡ item → item ≡ get_or names i item → drop i names ≡ q ∷ drop (i + 1) names
from_here names i q item lt same is =
    drop-cons names i item lt ∙ ap (λ (n : List ℕ). n ∷ drop (suc i) names) (sym is ∙ sym same) ∙ ap (λ j. q ∷ drop j names) (sym (add-one i))

pub loop-name-preserved : goal.loop-name-preserved
loop-name-preserved g c =
    let es = c.args.members.now.entries in
    let m = members_by current_score es in
    let names = c.args.names.now in
    let i = c.loop-name.name-index in
    let here = from_here names i c.as_slice.result.now c.name-item.result c.loop-name-test.true c.as_slice.ensures c.name-item.is in
    record {
      gone = ap (λ (left : Members). remove_all left (drop (i + 1) names)) c.in_ok-find_one.ensures.gone
          ∙ ap (λ (rest : List (List ℕ)). remove_all (remove_all m (names_at es c.loop-name.places.keys)) rest) (sym here) ∙ c.loop-name.invariant.gone;
      order = ap (λ (found : List (List ℕ)). all_noted m found (drop (i + 1) names)) c.in_ok-find_one.ensures.order
          ∙ ap (λ (rest : List (List ℕ)). all_noted m (names_at es c.loop-name.order.items) rest) (sym here) ∙ c.loop-name.invariant.order;
      seen = c.in_ok-find_one.ensures.seen;
      within = c.in_ok-find_one.ensures.within;
      found = c.in_ok-find_one.ensures.found;
      few = omega (arith, c.loop-name.invariant.few, c.in_ok-find_one.ensures.few);
    }

pub returns-clause-order : goal.returns-clause-order
returns-clause-order g c =
    let es = c.args.members.now.entries in
    let m = members_by current_score es in
    ap (λ (rest : List (List ℕ)). all_noted m (names_at es c.loop-name.order.items) rest) (sym (drop_all c.args.names.now c.loop-name.name-index (omega (arith, c.loop-name-test.false))))
    ∙ c.loop-name.invariant.order ∙ noted_all m c.args.names.now

pub returns-clause-noted : goal.returns-clause-noted
returns-clause-noted g c = c.loop-name.invariant.within

pub returns-clause-same : goal.returns-clause-same
returns-clause-same g c = c.loop-name.invariant.seen

pub returns-clause-gone : goal.returns-clause-gone
returns-clause-gone g c =
    let es = c.args.members.now.entries in
    let left = remove_all (members_by current_score es) (names_at es c.loop-name.places.keys) in
    ap (λ (rest : List (List ℕ)). remove_all left rest) (sym (drop_all c.args.names.now c.loop-name.name-index c.loop-name-test.false)) ∙ c.loop-name.invariant.gone

pub returns-clause-count : goal.returns-clause-count
returns-clause-count g c =
    let es = c.args.members.now.entries in
    let left = remove_all (members_by current_score es) (names_at es c.loop-name.places.keys) in
    let gone = ap (λ (rest : List (List ℕ)). remove_all left rest) (sym (drop_all c.args.names.now c.loop-name.name-index c.loop-name-test.false)) ∙ c.loop-name.invariant.gone in
    ap (λ (m : Members). length c.loop-name.places.keys + map.len m) (sym gone) ∙ c.loop-name.invariant.found.count

pub returns-clause-within : goal.returns-clause-within
returns-clause-within g c = c.loop-name.invariant.found.within

pub returns-clause-few : goal.returns-clause-few
returns-clause-few g c = omega (arith, c.loop-name.invariant.few, c.loop-name.auto.name-index-end)

pub find_one-requires-clause-found : goal.find_one-requires-clause-found
find_one-requires-clause-found g c = c.loop-name.invariant.found

pub find_one-requires-clause-within : goal.find_one-requires-clause-within
find_one-requires-clause-within g c = c.loop-name.invariant.within

pub find_one-requires-clause-seen : goal.find_one-requires-clause-seen
find_one-requires-clause-seen g c = c.loop-name.invariant.seen
