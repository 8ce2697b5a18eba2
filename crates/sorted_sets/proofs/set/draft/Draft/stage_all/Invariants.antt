use Rattle.std.proofs.Common.{◌≡◌, ◌++◌, ◌+◌, ◌*◌, ◌≤◌, ℕ, true, drop, length}
use Rattle.zset_commands.specs.MeaningOfForm.{scored}
use Rattle.sorted_sets.specs.MembersWithStagedScores.{staged_score, members_by, names_at, IsWaiting, Grows}
use Rattle.zset_core.specs.Semantics.{put_all, count_all}
use Rattle.zset_core.specs.RowEdits.{Notes}
use Rattle.sorted_sets.specs.NamesTouchedByPlan.{IsLed, mentions, noted_places}
use Rattle.sorted_sets.proofs.set.draft.Draft.stage_all.Given as goal

abbrev pub invariant-loop-index : goal.invariant-loop-index
invariant-loop-index g l = record {
  few : l.count ≤ l.index;
  edits : (written : ℕ) × Notes written (members_by staged_score l.initial.members.entries) (members_by staged_score l.members.entries) l.initial.self.edits l.self.edits
      × (written + count_all l.flags true (members_by staged_score l.members.entries) (scored (drop l.index l.pairs.scores.now) (drop (2 * l.index) l.pairs.arguments.now)) ≡ count_all l.flags true (members_by staged_score l.initial.members.entries) (scored l.pairs.scores.now l.pairs.arguments.now));
  count : l.count + count_all l.flags l.changed (members_by staged_score l.members.entries) (scored (drop l.index l.pairs.scores.now) (drop (2 * l.index) l.pairs.arguments.now)) ≡ count_all l.flags l.changed (members_by staged_score l.initial.members.entries) (scored l.pairs.scores.now l.pairs.arguments.now);
  staged : put_all l.flags (members_by staged_score l.members.entries) (scored (drop l.index l.pairs.scores.now) (drop (2 * l.index) l.pairs.arguments.now)) ≡ put_all l.flags (members_by staged_score l.initial.members.entries) (scored l.pairs.scores.now l.pairs.arguments.now);
  led : IsLed l.self (length l.members.entries);
  named : names_at l.members.entries (noted_places l.self) ++ mentions l.flags (members_by staged_score l.members.entries) (scored (drop l.index l.pairs.scores.now) (drop (2 * l.index) l.pairs.arguments.now)) ≡ names_at l.initial.members.entries (noted_places l.initial.self) ++ mentions l.flags (members_by staged_score l.initial.members.entries) (scored l.pairs.scores.now l.pairs.arguments.now);
  waiting : IsWaiting l.self.touched.items l.members.entries;
  kept : l.self.kept ≡ l.initial.self.kept;
  grows : Grows l.initial.members.entries l.members.entries;
}
