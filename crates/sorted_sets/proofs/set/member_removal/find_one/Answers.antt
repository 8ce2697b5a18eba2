use Rattle.std.proofs.Common.{◌≡◌, ◌∙◌, ◌++◌, ◌∷◌, [], ℕ, List, false, length, sym, ap, subst, option_map}
use Rattle.std.specs.Ordering.{nat_cmp}
use Rattle.std.specs.BTreeSet.{contains}
use Rattle.sorted_sets.specs.MembersWithStagedScores.{current_score, members_by, names_at, IsWithin}
use Rattle.sorted_sets.proofs.Bridge.{get_members}
use Rattle.sorted_sets.proofs.Gathering.{AreFoundPlaces-after, gone_absent, gone_put, name_here}
use Rattle.sorted_sets.proofs.Effects.{IsWithin-push, names_at-push}
use Rattle.sorted_sets.proofs.Naming.{place_within, seen_more, noted_absent, noted_new, not_true}
use Rattle.sorted_sets.proofs.set.member_removal.find_one.Goals as goal

pub returns-in_ok-note_found-clause-found : goal.returns-in_ok-note_found-clause-found
returns-in_ok-note_found-clause-found g c =
    let done = c.in_ok-insert.ensures in
    AreFoundPlaces-after c.args.members.now.entries c.args.places.now c.insert.new.self c.in-Some.place c.args.name.now c.in-Some.field-0-1 c.in_ok-insert.field-0
    c.in-Some.ensures.unique c.in-Some.ensures.place done.added done.updates.0 done.keys done.unchanged done.len c.requires.found

pub returns-in_ok-note_found-clause-gone : goal.returns-in_ok-note_found-clause-gone
returns-in_ok-note_found-clause-gone g c =
    let es = c.args.members.now.entries in
    gone_put es (members_by current_score es) c.args.places.now.keys c.insert.new.self.keys c.in-Some.place c.args.name.now
    (name_here es c.in-Some.place c.args.name.now c.in-Some.field-0-1 c.in-Some.ensures.place) c.in_ok-insert.ensures.keys

pub returns-else-branch-clause-gone : goal.returns-else-branch-clause-gone
returns-else-branch-clause-gone g c =
    let es = c.args.members.now.entries in
    gone_put es (members_by current_score es) c.args.places.now.keys c.insert.new.self.keys c.in-Some.place c.args.name.now
    (name_here es c.in-Some.place c.args.name.now c.in-Some.field-0-1 c.in-Some.ensures.place) c.in_ok-insert.ensures.keys

pub returns-in_ok-note_found-clause-seen : goal.returns-in_ok-note_found-clause-seen
returns-in_ok-note_found-clause-seen g c q =
    seen_more c.args.members.now.entries c.args.order.now.items c.note_found.new.order.items c.args.places.now.keys c.insert.new.self.keys c.in-Some.place c.in_ok-note_found.ensures c.in_ok-insert.ensures.keys q (c.requires.seen q)

pub returns-in_ok-note_found-clause-within : goal.returns-in_ok-note_found-clause-within
returns-in_ok-note_found-clause-within g c =
    let es = c.args.members.now.entries in
    subst (IsWithin (length es)) (sym c.in_ok-note_found.ensures)
    (IsWithin-push (length es) c.args.order.now.items c.in-Some.place (place_within es c.in-Some.place (c.args.name.now, c.in-Some.field-0-1) c.in-Some.ensures.place) c.requires.within)

pub returns-in_ok-note_found-clause-order : goal.returns-in_ok-note_found-clause-order
returns-in_ok-note_found-clause-order g c =
    let es = c.args.members.now.entries in
    let ps = c.args.order.now.items in
    let q = c.args.name.now in
    let s = c.in-Some.field-0-1 in
    let there : contains nat_cmp c.args.places.now c.in-Some.place ≡ false = not_true c.in_ok-insert.field-0 (contains nat_cmp c.args.places.now c.in-Some.place) c.in_ok-insert.ensures.added c.if-branch.true in
    let absent = c.requires.seen q ∙ sym (c.requires.found.same c.in-Some.place q s c.in-Some.ensures.place) ∙ there in
    ap (λ (l : List ℕ). names_at es l) c.in_ok-note_found.ensures ∙ names_at-push es ps c.in-Some.place
    ∙ ap (λ (k : List ℕ). names_at es ps ++ k ∷ []) (name_here es c.in-Some.place q s c.in-Some.ensures.place)
    ∙ sym (noted_new (members_by current_score es) (names_at es ps) q s.current (get_members current_score es q ∙ ap (option_map current_score) (sym c.in-Some.ensures.slot)) absent)

pub returns-in_default-clause-gone : goal.returns-in_default-clause-gone
returns-in_default-clause-gone g c =
    let es = c.args.members.now.entries in
    gone_absent es (names_at es c.args.places.now.keys) c.args.name.now (sym c.in_default.ensures.slot)

pub returns-in_default-clause-order : goal.returns-in_default-clause-order
returns-in_default-clause-order g c =
    let es = c.args.members.now.entries in
    sym (noted_absent (members_by current_score es) (names_at es c.args.order.now.items) c.args.name.now (get_members current_score es c.args.name.now ∙ ap (option_map current_score) (sym c.in_default.ensures.slot)))

pub returns-in_default-clause-within : goal.returns-in_default-clause-within
returns-in_default-clause-within g c = c.requires.within

pub returns-in_default-clause-seen : goal.returns-in_default-clause-seen
returns-in_default-clause-seen g c = c.requires.seen

pub returns-in_default-clause-found : goal.returns-in_default-clause-found
returns-in_default-clause-found g c = c.requires.found

pub returns-else-branch-clause-within : goal.returns-else-branch-clause-within
returns-else-branch-clause-within g c = c.requires.within

pub returns-else-branch-clause-found : goal.returns-else-branch-clause-found
returns-else-branch-clause-found g c =
    let done = c.in_ok-insert.ensures in
    AreFoundPlaces-after c.args.members.now.entries c.args.places.now c.insert.new.self c.in-Some.place c.args.name.now c.in-Some.field-0-1 c.in_ok-insert.field-0
    c.in-Some.ensures.unique c.in-Some.ensures.place done.added done.updates.0 done.keys done.unchanged done.len c.requires.found
