use Rattle.std.proofs.Common.{◌≡◌, ◌∙◌, ◌-◌, ◌+◌, refl, sym, ap, arith, ℕ, pos, length}
use Rattle.std.specs.FinMap as map
use Rattle.resp_wire.specs.Response.{Integer}
use Rattle.zset_core.specs.SortedSet.{Members}
use Rattle.zset_core.specs.Semantics.{remove_all}
use Rattle.sorted_sets.specs.MembersWithStagedScores.{current_score, members_by, name_at, names_at}
use Rattle.sorted_sets.proofs.Outlines.{gathered_outline}
use Rattle.sorted_sets.proofs.Staging.{members_same, Grows-self, IsWaiting-none}
use Rattle.sorted_sets.proofs.Bags.{Turns-settled}
use Rattle.std.proofs.lemmas.List.{length-map}
use Rattle.sorted_sets.proofs.set.member_removal.plan_remove.Goals as goal

rest_of : (a b n : ℕ) → a + b ≡ n → a ≡ n - b
rest_of a b n h = omega arith

pub returns-clause-ok : goal.returns-clause-ok
returns-clause-ok g c =
    let es = c.args.members.now.entries in
    let m = members_by current_score es in
    let found = c.in_ok-places.ensures in
    let places = c.in_ok-places.places.keys in
    let is = ap (λ (m : Members). remove_all m (names_at es places)) (members_same es c.requires.settled) ∙ found.gone in
    record {
      kept = refl;
      grows = Grows-self es;
      waiting = IsWaiting-none es c.requires.settled;
      members_are = is;
      reply_is = c.count_reply.ensures ∙ ap Integer (ap pos (c.len-count.ensures.len ∙ rest_of (length places) (map.len (remove_all m c.args.names.now)) (map.len m) found.count));
      edits_are = Turns-settled es c.requires.settled;
      removed_are = found.within;
      few_rows = record { coming = omega arith; leaving = omega (arith, found.few, c.requires.few) };
      outline_is = gathered_outline m (remove_all m c.args.names.now) (names_at es places) c.len-count.result (c.len-count.ensures.len ∙ sym (length-map places (name_at es))) found.gone (ap (λ (n : ℕ). n + map.len (remove_all m c.args.names.now)) (length-map places (name_at es)) ∙ found.count);
    }

pub returns-clause-rows : goal.returns-clause-rows
returns-clause-rows g c = record { coming = omega arith; leaving = omega (arith, c.in_ok-places.ensures.count) }

pub returns-clause-moved : goal.returns-clause-moved
returns-clause-moved g c = record {
  counted = record { within = c.in_ok-places.ensures.noted; same = c.in_ok-places.ensures.same };
  names_are = c.in_ok-places.ensures.order;
}
