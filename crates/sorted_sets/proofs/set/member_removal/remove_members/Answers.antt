use Rattle.std.proofs.Common.{◌≡◌, ◌∙◌, ◌<◌, ◌∷◌, ◌++◌, [], ℕ, List, ap, arith, subst, length, length-append}
use Rattle.sorted_sets.specs.MembersWithStagedScores.{IsWithin, current_score, members_by}
use Rattle.sorted_sets.proofs.Gathering.{IsWithin-before, last_first, names_before}
use Rattle.sorted_sets.proofs.set.member_removal.remove_members.Goals as goal

last_within : {A : Type 0} (es : List A) (rest : List ℕ) (p : ℕ) (ks : List ℕ) → ks ≡ rest ++ p ∷ [] → IsWithin (length es) ks → p < length es
last_within es rest p ks is h = last rest (subst (IsWithin (length es)) is h)
  where
    last : (l : List ℕ) → IsWithin (length es) (l ++ p ∷ []) → p < length es
    last [] h = h.0
    last (x ∷ l) h = last l h.1

pub loop-place-preserved : goal.loop-place-preserved
loop-place-preserved g c =
    let v = c.loop-place.invariant in
    let es = c.loop-place.members.entries in
    let es' = c.remove_member.new.members.entries in
    let p = c.in-Some.place in
    let rest = c.pop_last.new.self.keys in
    let one = ap length c.in-Some.ensures.removal ∙ length-append rest (p ∷ []) in
    record {
      members = last_first es es' (members_by current_score es) (members_by current_score es') c.loop-place.places.keys rest p c.in-Some.ensures.removal c.remove_member.ensures.members
          (names_before es es' p rest c.remove_member.ensures.before c.in-Some.ensures.all_below) ∙ v.members;
      settled = c.remove_member.ensures.settled;
      within = IsWithin-before (length es') p rest (omega (arith, last_within es rest p c.loop-place.places.keys c.in-Some.ensures.removal v.within, c.remove_member.ensures.len)) c.in-Some.ensures.all_below;
      content = c.remove_member.ensures.content;
      room = omega (arith, v.room, one, c.remove_member.ensures.spare);
      rows = c.remove_member.ensures.rows ∙ v.rows;
      pivots = c.remove_member.ensures.pivots ∙ v.pivots;
    }
