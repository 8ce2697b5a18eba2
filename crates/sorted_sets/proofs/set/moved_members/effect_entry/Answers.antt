use Rattle.std.proofs.Common.{◌≡◌, ◌∙◌, ◌<◌, ℕ, ℤ, List, length, get_or, slice_get, None, Some, Option, inl, inr, SFits, w64, to_z-of_z, sym, ap, subst, rules, arith}
use Rattle.std.specs.FinMap as map
use Rattle.std.specs.List.{IsDistinct}
use Rattle.std.specs.Map.{keys_of}
use Rattle.sorted_sets.specs.MembersWithStagedScores.{Entry, name_at, staged_score, members_by, same_bytes}
use Rattle.sorted_sets.specs.Plan.{HasMovedPlaces, edited_by, moved_by}
use Rattle.sorted_sets.specs.declared.set.plan.Plan.{Plan}
use Rattle.sorted_sets.specs.declared.set.plan.Plan.TheVariants.{Scores, Removal, RangeRemoval}
use Rattle.sorted_sets.specs.declared.set.plan.RangeRemovalPlan.{RangeRemovalPlan}
use Rattle.sorted_sets.specs.declared.set.plan.RemovalPlan.{RemovalPlan}
use Rattle.sorted_sets.specs.declared.set.plan.ScoresPlan.{ScoresPlan}
use Rattle.sorted_sets.proofs.Effects.{staged_at}
use Rattle.sorted_sets.proofs.Gathered.{score_gone}
use Rattle.sorted_sets.proofs.set.moved_members.effect_entry.Goals as goal

-- the score that the member at a place is to have, by the plan
abbrev left : {A : Type 0} → List Entry → Plan A → ℕ → Option ℤ
left es plan i = map.get (edited_by es plan) (name_at es (get_or (moved_by plan) i 0))

module _ {A : Type 0} (es : List Entry) (plan : Plan A) (i : ℕ) (apart : IsDistinct same_bytes (keys_of es)) where
  staged : (p : ScoresPlan A) (place : ℕ) (e : Entry) → plan ≡ Scores p → place ≡ get_or (moved_by plan) i 0 → slice_get es place ≡ Some e → Some e.1.staged ≡ left es plan i
  staged p place e is at here =
      sym (ap (λ (q : Plan A). map.get (edited_by es q) (name_at es (get_or (moved_by plan) i 0))) is
      ∙ ap (λ (k : ℕ). map.get (members_by staged_score es) (name_at es k)) (sym at) ∙ staged_at es place e apart here)

  gone : (p : RemovalPlan A) → plan ≡ Removal p → HasMovedPlaces plan es → i < length (moved_by plan) → None ≡ left es plan i
  gone p is = subst (λ (q : Plan A). HasMovedPlaces q es → i < length (moved_by q) → None ≡ left es q i) (sym is)
      (λ has lt. sym (score_gone es p.order.items p.places.keys i apart has.within has.same lt))

  none : (p : RangeRemovalPlan A) → plan ≡ RangeRemoval p → i < length (moved_by plan) → None ≡ left es plan i
  none p is = subst (λ (q : Plan A). i < length (moved_by q) → None ≡ left es q i) (sym is) (λ lt. absurd (omega (arith, lt)))

pub returns-in-Scores-clause-score : goal.returns-in-Scores-clause-score
returns-in-Scores-clause-score g c =
    let h : SFits w64 c.in-Some.slot.now.staged = search rules in
    ap (λ (z : ℤ). Some z) (to_z-of_z h)
    ∙ staged c.args.members.now.entries c.args.plan.now c.args.index c.len-count.ensures.unique c.in-Scores.field-0 c.moved_place-place.result (c.in-Some.name.now, c.in-Some.slot.now) c.in-Scores.is c.moved_place-place.ensures.place (sym c.in-Some.ensures.entry)

pub returns-in-Removal-clause-score : goal.returns-in-Removal-clause-score
returns-in-Removal-clause-score g c =
    let es = c.args.members.now.entries in
    let plan = c.args.plan.now in
    let apart = c.len-count.ensures.unique in
    elim c.in-Removal.is [
      | inl removal ↦ gone es plan c.args.index apart removal.0 removal.1 c.requires.counted c.requires.index
      | inr range ↦ none es plan c.args.index apart range.0 range.1 c.requires.index
    ]
