use Rattle.std.proofs.Common.{◌≡◌, ◌≤◌, ◌+◌, ◌&&◌, ◌∙◌, not, Bool, true, false, sym, ap, rules, arith}
use Rattle.sorted_sets.specs.MovedMembers.{differs}
use Rattle.sorted_sets.specs.MembersWithStagedScores.{staged_score, members_by, name_at}
use Rattle.sorted_sets.proofs.Outlines.{before}
use Rattle.sorted_sets.proofs.Gathered.{outside_range, there_leading, there_others}
use Rattle.sorted_sets.proofs.set.moved_members.is_next.Goals as goal
use Rattle.sorted_sets.proofs.set.moved_members.is_next.Goals.{else-place-kept-via-then-place-kept+else-place-kept-2, else-place-kept-via-else-place-kept}

never : (d b : Bool) → b ≡ true → (d && not b) ≡ false
never true b is = ap not is
never false b is = let no : false ≡ false = search rules in no

always : (d b : Bool) → d ≡ true → not b ≡ (d && not b)
always d b is = ap (λ (x : Bool). x && not b) (sym is)

pub returns-then-place-kept-2 : goal.returns-then-place-kept-2
returns-then-place-kept-2 g c =
    sym (never _ _ (there_leading c.args.members.now.entries c.args.kept c.args.leading c.args.others.now c.args.place c.len-count.ensures.unique c.requires.leading c.if-place-kept.true c.if-place-kept-2.true))

pub returns-then-is_moved_at : goal.returns-then-is_moved_at
returns-then-is_moved_at g c =
    let es = c.args.members.now.entries in
    let kept = c.args.kept in
    let place = c.args.place in
    let behind : (kept ≤ place → kept + c.args.leading ≤ place) = elim c.else-place-kept.branch [
      | else-place-kept-via-then-place-kept+else-place-kept-2 w ↦ λ _. w.if-place-kept-2.false
      | else-place-kept-via-else-place-kept w ↦ λ low. absurd (omega (arith, low, w.if-place-kept.false))
    ] in
    let moves : differs (before es kept) (members_by staged_score es) (name_at es place) ≡ true = sym c.is_moved_at.ensures ∙ c.if-is_moved_at.true in
    let there = there_others es kept c.args.leading c.args.others.now place c.len-count.ensures.unique c.requires.leading c.requires.others c.requires.place (outside_range place kept c.args.leading behind) in
    ap not (c.stands_among.ensures ∙ there) ∙ always _ _ moves
