use Rattle.std.proofs.Common.{◌≡◌, ◌≤◌, ◌∙◌, ◌+◌, ◌*◌, ◌++◌, [], append-nil, refl, sym, ap, rules, arith, ℕ, ℤ, List, Bool, pos, drop, length, get_or, zero, suc, ◌∷◌, SFits, w64, to_z, of_z, to_z-of_z, true}
use Rattle.zset_commands.specs.MeaningOfForm.{scored}
use Rattle.zset_commands.specs.declared.flags.Flags.{Flags}
use Rattle.sorted_sets.specs.NamesTouchedByPlan.{mentions, noted_places}
use Rattle.zset_core.specs.Semantics.{counted, count_all, put_all}
use Rattle.zset_core.specs.SortedSet.{Members}
use Rattle.sorted_sets.specs.MembersWithStagedScores.{staged_score, members_by, names_at}
use Rattle.sorted_sets.proofs.PairSteps.{pairs_step, put_step, count_step, counted_one}
use Rattle.sorted_sets.proofs.Staging.{Grows-self, Grows-then}
use Rattle.sorted_sets.proofs.Bags.{Notes-then, Notes-more}
use Rattle.sorted_sets.proofs.Naming.{mentions_step}
use Rattle.sorted_sets.proofs.set.draft.Draft.stage_all.Goals as goal

none_left : (ss : List ℤ) (ws : List (List ℕ)) (i : ℕ) → length ss ≤ i → scored (drop i ss) ws ≡ []
none_left [] ws zero h = refl
none_left [] ws (suc i) h = refl
none_left (s ∷ ss) ws zero h = absurd (omega (arith, h))
none_left (s ∷ ss) ws (suc i) h = none_left ss ws i (omega (arith, h))

count_ended : (flags : Flags) (changed : Bool) (m : Members) (ps : List (ℤ × List ℕ)) (n all : ℕ) → ps ≡ [] → n + count_all flags changed m ps ≡ all → n ≡ all
count_ended flags changed m ps n all none is = omega (arith, ap (λ (rest : List (ℤ × List ℕ)). count_all flags changed m rest) none, is)

names_ended : (flags : Flags) (m : Members) (ps : List (ℤ × List ℕ)) (names all : List (List ℕ)) → ps ≡ [] → names ++ mentions flags m ps ≡ all → names ≡ all
names_ended flags m ps names all none is =
    sym (append-nil names) ∙ ap (λ (rest : List (ℤ × List ℕ)). names ++ mentions flags m rest) (sym none) ∙ is

pub loop-index-init : goal.loop-index-init
loop-index-init g c = record {
  few = omega arith;
  edits = (0, record { bags = λ p. omega arith; coming = omega arith; leaving = omega arith }, omega arith);
  count = omega arith;
  staged = refl;
  led = c.requires.led;
  named = refl;
  waiting = c.requires.waiting;
  kept = refl;
  grows = Grows-self c.args.members.now.entries;
}

pub loop-index-preserved : goal.loop-index-preserved
loop-index-preserved g c =
    let i = c.loop-index.index in
    let ss = c.args.pairs.now.scores.now in
    let ws = c.args.pairs.now.arguments.now in
    let f : SFits w64 (get_or ss i (pos 0)) = search rules in
    let z : ℤ = to_z w64 (of_z w64 (get_or ss i (pos 0))) in
    let m = c.as_slice-member.result.now in
    let ps = scored (drop i ss) (drop (2 * i) ws) in
    let rest = scored (drop (i + 1) ss) (drop (2 * (i + 1)) ws) in
    let old = members_by staged_score c.loop-index.members.entries in
    let new = members_by staged_score c.stage_one.new.members.entries in
    let within = c.loop-index-test.true in
    let is = pairs_step ss ws i z m c.index-pairs-index.result within c.args.pairs.now.paired (to_z-of_z f) (c.as_slice-member.ensures ∙ sym c.index-pairs-index.is) c.index-pairs-index.is in
    let noted = c.loop-index.invariant.edits in
    let written = noted.0 in
    let one = c.counted_in-count.ensures ∙ ap (counted c.args.changed) c.in_ok-what.ensures.outcome in
    record {
      few = omega (arith, c.loop-index.invariant.few, c.counted_in-count.ensures, counted_one c.args.changed c.in_ok-what.what);
      count = count_step c.args.flags c.args.changed old new z m ps rest c.loop-index.count c.counted_in-count.result _ is c.in_ok-what.ensures.staged one c.loop-index.invariant.count;
      staged = put_step c.args.flags old new z m ps rest _ is c.in_ok-what.ensures.staged c.loop-index.invariant.staged;
      edits = (
        written + counted true c.in_ok-what.what,
        Notes-then written (counted true c.in_ok-what.what) (members_by staged_score c.args.members.now.entries) old new c.args.self.now.edits c.loop-index.self.edits c.stage_one.new.self.edits noted.1 c.in_ok-what.ensures.edits,
        count_step c.args.flags true old new z m ps rest written (counted true c.in_ok-what.what) _ is c.in_ok-what.ensures.staged (ap (counted true) c.in_ok-what.ensures.outcome) noted.2,
      );
      led = c.in_ok-what.ensures.led;
      named = mentions_step c.args.flags old new z m ps rest (names_at c.loop-index.members.entries (noted_places c.loop-index.self)) (names_at c.stage_one.new.members.entries (noted_places c.stage_one.new.self)) _ is c.in_ok-what.ensures.staged c.in_ok-what.ensures.named c.loop-index.invariant.named;
      kept = c.stage_one.ensures.kept ∙ c.loop-index.invariant.kept;
      waiting = c.stage_one.ensures.waiting;
      grows = Grows-then c.args.members.now.entries c.loop-index.members.entries c.stage_one.new.members.entries c.loop-index.invariant.grows c.stage_one.ensures.grows;
    }

pub returns-clause-edits : goal.returns-clause-edits
returns-clause-edits g c =
    let noted = c.loop-index.invariant.edits in
    let old = members_by staged_score c.args.members.now.entries in
    let written = count_all c.args.flags true old (scored c.args.pairs.now.scores.now c.args.pairs.now.arguments.now) in
    Notes-more noted.0 written old (members_by staged_score c.loop-index.members.entries) c.args.self.now.edits c.loop-index.self.edits (omega (arith, noted.2)) noted.1

pub returns-clause-count : goal.returns-clause-count
returns-clause-count g c =
    count_ended c.args.flags c.args.changed (members_by staged_score c.loop-index.members.entries) _ c.loop-index.count _
    (none_left c.args.pairs.now.scores.now (drop (2 * c.loop-index.index) c.args.pairs.now.arguments.now) c.loop-index.index c.loop-index-test.false) c.loop-index.invariant.count

pub returns-clause-staged : goal.returns-clause-staged
returns-clause-staged g c =
    let m = members_by staged_score c.loop-index.members.entries in
    let none = none_left c.args.pairs.now.scores.now (drop (2 * c.loop-index.index) c.args.pairs.now.arguments.now) c.loop-index.index c.loop-index-test.false in
    ap (λ (rest : List (ℤ × List ℕ)). put_all c.args.flags m rest) (sym none) ∙ c.loop-index.invariant.staged

pub returns-clause-named : goal.returns-clause-named
returns-clause-named g c =
    names_ended c.args.flags (members_by staged_score c.loop-index.members.entries) _ (names_at c.loop-index.members.entries (noted_places c.loop-index.self)) _
    (none_left c.args.pairs.now.scores.now (drop (2 * c.loop-index.index) c.args.pairs.now.arguments.now) c.loop-index.index c.loop-index-test.false) c.loop-index.invariant.named

pub returns-clause-grows : goal.returns-clause-grows
returns-clause-grows g c = c.loop-index.invariant.grows

pub returns-clause-waiting : goal.returns-clause-waiting
returns-clause-waiting g c = c.loop-index.invariant.waiting

pub returns-clause-kept : goal.returns-clause-kept
returns-clause-kept g c = c.loop-index.invariant.kept

pub returns-clause-led : goal.returns-clause-led
returns-clause-led g c = c.loop-index.invariant.led

pub returns-in_err-what-clause-waiting : goal.returns-in_err-what-clause-waiting
returns-in_err-what-clause-waiting g c = c.stage_one.ensures.waiting

pub returns-in_err-what-clause-grows : goal.returns-in_err-what-clause-grows
returns-in_err-what-clause-grows g c =
    Grows-then c.args.members.now.entries c.loop-index.members.entries c.stage_one.new.members.entries c.loop-index.invariant.grows c.stage_one.ensures.grows

pub returns-in_err-what-clause-kept : goal.returns-in_err-what-clause-kept
returns-in_err-what-clause-kept g c = c.stage_one.ensures.kept ∙ c.loop-index.invariant.kept

pub stage_one-requires-clause-waiting : goal.stage_one-requires-clause-waiting
stage_one-requires-clause-waiting g c = c.loop-index.invariant.waiting

pub stage_one-requires-clause-led : goal.stage_one-requires-clause-led
stage_one-requires-clause-led g c = c.loop-index.invariant.led
