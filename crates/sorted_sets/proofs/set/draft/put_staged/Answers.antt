use Rattle.std.proofs.Common.{◌∙◌, refl, sym, ap, subst, rules, List, ℕ, ℤ, SFits, w64, to_z, of_z, to_z-of_z}
use Rattle.std.specs.FinMap as map
use Rattle.indexmap.specs.IndexMap.{set_value_at}
use Rattle.sorted_sets.specs.MembersWithStagedScores.{staged_score, current_score, members_by, IsWaiting}
use Rattle.sorted_sets.specs.declared.set.members_with_staged_scores.ScoreSlot.{ScoreSlot}
use Rattle.sorted_sets.proofs.Staging.{Grows-self, members_written, length_written, Grows-written, IsWaiting-written, score_at_place}
use Rattle.sorted_sets.proofs.Naming.{names_written}
use Rattle.sorted_sets.proofs.set.draft.put_staged.Goals as goal

pub returns-clause-staged : goal.returns-clause-staged
returns-clause-staged g c q slot at =
    let z : ℤ = to_z w64 (of_z w64 c.args.score) in
    let w : ScoreSlot = record { current = to_z w64 (of_z w64 c.index.result.now.current); staged = z } in
    members_written staged_score c.args.members.now c.args.place w q slot c.len-count.ensures.unique at
    ∙ ap (map.insert (members_by staged_score c.args.members.now.entries) q) (to_z-of_z c.ranges.score)

pub returns-clause-grows : goal.returns-clause-grows
returns-clause-grows g c =
    let f : SFits w64 c.index.result.now.current = search rules in
    let w : ScoreSlot = record { current = to_z w64 (of_z w64 c.index.result.now.current); staged = to_z w64 (of_z w64 c.args.score) } in
    Grows-written c.args.members.now.entries c.args.place w (score_at_place current_score c.args.members.now.entries c.args.place c.index.result.now w c.index.ensures (to_z-of_z f))

pub returns-clause-waiting : goal.returns-clause-waiting
returns-clause-waiting g c =
    let w : ScoreSlot = record { current = to_z w64 (of_z w64 c.index.result.now.current); staged = to_z w64 (of_z w64 c.args.score) } in
    let es = c.args.members.now.entries in
    subst (λ (ps : List ℕ). IsWaiting ps (set_value_at es c.args.place w)) (sym c.in_ok-push.ensures.items) (IsWaiting-written c.args.touched.now.items es c.args.place w c.requires.within c.requires.waiting)

pub returns-clause-names : goal.returns-clause-names
returns-clause-names g c places =
    names_written c.args.members.now.entries c.args.place (record { current = to_z w64 (of_z w64 c.index.result.now.current); staged = to_z w64 (of_z w64 c.args.score) }) places

pub returns-clause-len : goal.returns-clause-len
returns-clause-len g c =
    length_written c.args.members.now.entries c.args.place (record { current = to_z w64 (of_z w64 c.index.result.now.current); staged = to_z w64 (of_z w64 c.args.score) })

pub returns-in_err-push-clause-grows : goal.returns-in_err-push-clause-grows
returns-in_err-push-clause-grows g c = Grows-self c.args.members.now.entries

pub returns-in_err-push-clause-names : goal.returns-in_err-push-clause-names
returns-in_err-push-clause-names g c places = refl

pub returns-in_err-push-clause-len : goal.returns-in_err-push-clause-len
returns-in_err-push-clause-len g c = refl

pub returns-clause-noted : goal.returns-clause-noted
returns-clause-noted g c = c.in_ok-push.ensures.items
