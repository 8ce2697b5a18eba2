use Rattle.std.proofs.Common.{Vec, ◌+◌, ◌&&◌, not, ◌≡◌, ◌<◌, ◌++◌, ◌∷◌, [], ◌∙◌, ℕ, List, Bool, cond, length, take, get_or, refl, sym, ap, subst, arith, append-nil}
use Rattle.std.specs.List.{range_with_len}
use Rattle.sorted_sets.specs.MovedMembers.{differs, moved_names}
use Rattle.sorted_sets.specs.MembersWithStagedScores.{staged_score, members_by, name_at, names_at}
use Rattle.sorted_sets.proofs.Outlines.{before, has}
use Rattle.std.proofs.lemmas.Grind.{get_or_default_zero}
use Rattle.std.proofs.lemmas.List.Edits.{length-swap}
use Rattle.sorted_sets.proofs.Gathered.{IsWaiting-swap, gather_step, get_or-swap, leading_move, take-swap}
use Rattle.sorted_sets.proofs.set.moved_members.gather_marked.Goals as goal
use Rattle.sorted_sets.proofs.set.moved_members.gather_marked.Goals.{then-is_next, else-is_next}

pub loop-index-init : goal.loop-index-init
loop-index-init g c =
    let es = c.args.members.now.entries in
    let row = range_with_len c.args.kept c.args.leading in
    record {
      len = refl;
      few = omega arith;
      rest = λ k _. refl;
      waiting = c.requires.waiting;
      marks = c.requires.marks;
      marked = tt;
      names = subst (λ (ps : List ℕ). names_at es ps ≡ moved_names (before es c.args.kept) (members_by staged_score es) (names_at es ps)) (sym (append-nil row)) (leading_move es c.args.kept c.args.leading c.len-count.ensures.unique c.requires.leading);
    }

pub loop-index-preserved : goal.loop-index-preserved
loop-index-preserved g c =
    let es = c.args.members.now.entries in
    let row = range_with_len c.args.kept c.args.leading in
    let noted = c.args.noted.now.items in
    let was = c.loop-index.noted.items in
    let i = c.loop-index.index in
    let moved = c.loop-index.moved in
    let inv = c.loop-index.invariant in
    let inside : i < length was = omega (arith, c.loop-index-test.true, c.len-index-end.ensures, inv.len) in
    let old = before es c.args.kept in
    let new = members_by staged_score es in
    let place = c.index-place.result.now in
    let at : place ≡ get_or was i 0 = c.index-place.ensures ∙ get_or_default_zero was i place inside in
    let front = take moved was in
    let tested : c.is_next.result ≡ (differs old new (name_at es place) && not (has (names_at es (row ++ front)) (name_at es place))) =
    c.is_next.ensures ∙ ap (λ (ps : List ℕ). differs old new (name_at es place) && not (has (names_at es (row ++ take moved ps)) (name_at es place))) c.deref.ensures.value in
    let step = gather_step es old new row front noted i place (omega (arith, inside, inv.len)) (at ∙ inv.rest i (omega arith)) inv.names c.is_next.result tested in
    elim c.if-is_next.branch [
      | then-is_next w ↦
          let is = ap (λ (v : Vec ℕ g.row.A.Denot). v.items) w.noted-is ∙ w.swap.ensures.items in
          record {
            len = ap (λ (ps : List ℕ). length ps) is ∙ length-swap was moved i ∙ inv.len;
            few = omega (arith, inv.few, w.moved-is);
            rest = λ k behind. get_or-swap was _ moved i k inv.few inside behind is ∙ inv.rest k (omega (arith, behind));
            waiting = IsWaiting-swap es was _ moved i (omega (arith, inside, inv.few)) inside is inv.waiting;
            marks = rw w.marks-is (omega (arith, inv.marks, w.mark_place.ensures.length));
            marked =
                let so_far : take (moved + 1) c.if-is_next.noted.items ≡ front ++ place ∷ [] = take-swap was _ moved i inv.few inside is ∙ ap (λ (p : ℕ). front ++ p ∷ []) (sym at) in
                rw w.marks-is (rw w.moved-is (rw so_far (w.mark_place.ensures.marked front inv.marked)));
            names =
                ap (λ (n : ℕ). names_at es (row ++ take n c.if-is_next.noted.items)) w.moved-is
                ∙ ap (λ (ps : List ℕ). names_at es (row ++ ps)) (take-swap was _ moved i inv.few inside is ∙ ap (λ (p : ℕ). front ++ p ∷ []) (sym at))
                ∙ ap (λ (b : Bool). names_at es (row ++ cond b (front ++ place ∷ []) front)) (sym w.if-is_next.true) ∙ step;
          }
      | else-is_next w ↦ rw w.noted-is (rw w.moved-is (rw w.marks-is record {
        len = inv.len;
        few = omega (arith, inv.few);
        rest = λ k behind. inv.rest k (omega (arith, behind));
        waiting = inv.waiting;
        marks = inv.marks;
        marked = inv.marked;
        names = ap (λ (b : Bool). names_at es (row ++ cond b (front ++ place ∷ []) front)) (sym w.if-is_next.false) ∙ step;
      }))
    ]
