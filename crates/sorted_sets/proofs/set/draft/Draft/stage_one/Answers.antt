use Rattle.std.proofs.Common.{◌≡◌, ◌+◌, length, None, true, ◌∙◌, if◌then◌else◌, ◌∷◌, Some, Option, ◌++◌, [], refl, sym, ap, subst, rules, arith, ℤ, ℕ, List, SFits, w64, to_z, of_z, to_z-of_z}
use Rattle.zset_core.specs.RowEdits.{Notes}
use Rattle.sorted_sets.specs.MembersWithStagedScores.{staged_score, members_by, name_at, names_at, IsWaiting}
use Rattle.sorted_sets.specs.NamesTouchedByPlan.{IsLed, noted_places}
use Rattle.zset_core.specs.SortedSet.{Members}
use Rattle.std.specs.FinMap as map
use Rattle.zset_core.specs.Semantics.{counted, outcome_of, writes}
use Rattle.sorted_sets.proofs.Bags.{Notes-added, Notes-changed, Notes-same}
use Rattle.sorted_sets.proofs.Gathering.{name_here}
use Rattle.sorted_sets.proofs.Gathered.{IsLed-noted, noted_more, noted_within}
use Rattle.sorted_sets.proofs.Effects.{names_at-push}
use Rattle.sorted_sets.proofs.Naming.{place_within, names_where, mention_new, mention_there}
use Rattle.sorted_sets.proofs.Staging.{Grows-self, IsWaiting-more}
use Rattle.sorted_sets.proofs.set.draft.Draft.stage_one.Goals as goal

pub returns-in_ok-note_new-in-None-clause-edits : goal.returns-in_ok-note_new-in-None-clause-edits
returns-in_ok-note_new-in-None-clause-edits g c =
    let z : ℤ = to_z w64 (of_z w64 c.args.score) in
    let old = members_by staged_score c.args.members.now.entries in
    let e = c.args.self.now.edits in
    let came = c.in_ok-add-in-None.ensures.coming ∙ ap (λ (q : List ℕ). e.coming.items ++ (z, q) ∷ []) c.in_ok-name-in-None.ensures.name in
    let two : counted true c.of-what.result ≡ 1 = search rules in
    rw two (Notes-same 1 old (members_by staged_score c.put_new.new.members.entries) e c.add.new.self c.note_new.new.self.edits c.note_new.ensures.edits
    (subst (λ (m : Members). Notes 1 old m e c.add.new.self) (sym c.in_ok-name-in-None.ensures.staged)
    (Notes-added old c.args.member.now z e c.add.new.self (sym c.in-None.ensures.score) came c.in_ok-add-in-None.ensures.leaving)))

pub returns-in_ok-add-in-Some-clause-edits : goal.returns-in_ok-add-in-Some-clause-edits
returns-in_ok-add-in-Some-clause-edits g c =
    let z : ℤ = to_z w64 (of_z w64 c.args.score) in
    let f : SFits w64 c.in-Some.slot.staged = search rules in
    let old = members_by staged_score c.args.members.now.entries in
    let e = c.args.self.now.edits in
    let name = name_here c.args.members.now.entries c.in-Some.place c.args.member.now c.in-Some.slot c.in-Some.ensures.place in
    let before = c.in_ok-before-in-Some.ensures ∙ name in
    let after = c.in_ok-after-in-Some.ensures ∙ name in
    let left = c.in_ok-add-in-Some.ensures.leaving ∙ c.in_ok-take-in-Some.ensures.leaving ∙ ap (λ (s : ℤ). e.leaving.items ++ (s, c.in_ok-before-in-Some.before) ∷ []) (to_z-of_z f) ∙ ap (λ (q : List ℕ). e.leaving.items ++ (c.in-Some.slot.staged, q) ∷ []) before in
    let came = c.in_ok-add-in-Some.ensures.coming ∙ ap (λ (rows : List (ℤ × List ℕ)). rows ++ (z, c.in_ok-after-in-Some.after) ∷ []) c.in_ok-take-in-Some.ensures.coming ∙ ap (λ (q : List ℕ). e.coming.items ++ (z, q) ∷ []) after in
    let two : counted true c.of-what-in-Some.result ≡ 1 = search rules in
    rw two (subst (λ (m : Members). Notes 1 old m e c.add-then-eq-2.new.self) (sym (c.in_ok-put_staged-in-Some.ensures.staged c.args.member.now c.in-Some.slot c.in-Some.ensures.place))
    (Notes-changed old c.args.member.now c.in-Some.slot.staged z e c.add-then-eq-2.new.self (sym c.in-Some.ensures.score) came left))

pub returns-in_ok-add-in-Some-clause-staged : goal.returns-in_ok-add-in-Some-clause-staged
returns-in_ok-add-in-Some-clause-staged g c =
    let old = members_by staged_score c.args.members.now.entries in
    let f : SFits w64 c.args.score = search rules in
    let put = c.in_ok-put_staged-in-Some.ensures.staged c.args.member.now c.in-Some.slot c.in-Some.ensures.place in
    let here : writes (outcome_of c.args.flags (Some c.in-Some.slot.staged) c.args.score) ≡ true = search rules in
    let wrote : writes (outcome_of c.args.flags (map.get old c.args.member.now) c.args.score) ≡ true = ap (λ (o : Option ℤ). writes (outcome_of c.args.flags o c.args.score)) (sym c.in-Some.ensures.score) ∙ here in
    put ∙ ap (λ (z : ℤ). map.insert old c.args.member.now z) (to_z-of_z f) ∙ sym (ap (λ b. if b then map.insert old c.args.member.now c.args.score else old) wrote)

-- a new member is noted behind those that were
pub returns-in_ok-note_new-in-None-clause-named : goal.returns-in_ok-note_new-in-None-clause-named
returns-in_ok-note_new-in-None-clause-named g c =
    let es = c.args.members.now.entries in
    let fs = c.put_new.new.members.entries in
    let ps = noted_places c.args.self.now in
    let q = c.args.member.now in
    let here : name_at fs c.len-place.result ≡ q = ap (name_at fs) c.len-place.ensures.len ∙ c.in_ok-name-in-None.ensures.place in
    let wrote : writes (outcome_of c.args.flags None c.args.score) ≡ true = search rules in
    ap (λ (l : List ℕ). names_at fs l) c.in_ok-note_new-in-None.ensures.noted ∙ names_at-push fs ps c.len-place.result
    ∙ ap (λ (k : List ℕ). names_at fs ps ++ k ∷ []) here
    ∙ ap (λ (l : List (List ℕ)). l ++ q ∷ []) (names_where es fs (length es) ps c.in_ok-name-in-None.ensures.names (noted_within c.args.self.now (length es) c.requires.led c.requires.waiting.within))
    ∙ ap (λ (l : List (List ℕ)). names_at es ps ++ l) (sym (mention_new c.args.flags (members_by staged_score es) q c.args.score wrote))

pub returns-in_ok-note_new-in-None-clause-led : goal.returns-in_ok-note_new-in-None-clause-led
returns-in_ok-note_new-in-None-clause-led g c =
    subst (λ (n : ℕ). IsLed c.note_new.new.self n) (ap (λ (n : ℕ). n + 1) c.len-place.ensures.len ∙ sym c.in_ok-name-in-None.ensures.longer) c.in_ok-note_new-in-None.ensures.led

pub share_name-requires : goal.share_name-requires
share_name-requires g c = place_within c.args.members.now.entries c.in-Some.place (c.args.member.now, c.in-Some.slot) c.in-Some.ensures.place

pub share_name-requires-then-eq-2 : goal.share_name-requires-then-eq-2
share_name-requires-then-eq-2 g c = place_within c.args.members.now.entries c.in-Some.place (c.args.member.now, c.in-Some.slot) c.in-Some.ensures.place

pub put_staged-requires-clause-within : goal.put_staged-requires-clause-within
put_staged-requires-clause-within g c = place_within c.args.members.now.entries c.in-Some.place (c.args.member.now, c.in-Some.slot) c.in-Some.ensures.place

pub returns-in_ok-add-in-Some-clause-named : goal.returns-in_ok-add-in-Some-clause-named
returns-in_ok-add-in-Some-clause-named g c =
    let es = c.args.members.now.entries in
    let fs = c.put_staged.new.members.entries in
    let draft = c.args.self.now in
    let q = c.args.member.now in
    let ps = noted_places draft in
    ap (λ (l : List ℕ). names_at fs l) (noted_more draft c.put_staged.new.touched.items c.in-Some.place c.in_ok-put_staged-in-Some.ensures.noted)
    ∙ c.in_ok-put_staged-in-Some.ensures.names (ps ++ c.in-Some.place ∷ []) ∙ names_at-push es ps c.in-Some.place
    ∙ ap (λ (k : List ℕ). names_at es ps ++ k ∷ []) (name_here es c.in-Some.place q c.in-Some.slot c.in-Some.ensures.place)
    ∙ ap (λ (l : List (List ℕ)). names_at es ps ++ l) (sym (mention_there c.args.flags (members_by staged_score es) q c.in-Some.slot.staged c.in-Some.ensures.score))

pub returns-in_ok-add-in-Some-clause-led : goal.returns-in_ok-add-in-Some-clause-led
returns-in_ok-add-in-Some-clause-led g c =
    IsLed-noted c.args.self.now _ c.in-Some.place (length c.args.members.now.entries) (length c.put_staged.new.members.entries) refl refl c.in_ok-put_staged-in-Some.ensures.noted c.in_ok-put_staged-in-Some.ensures.len c.requires.led

pub returns-in_ok-push-in-Some-clause-waiting : goal.returns-in_ok-push-in-Some-clause-waiting
returns-in_ok-push-in-Some-clause-waiting g c =
    let es = c.args.members.now.entries in
    let lt = place_within es c.in-Some.place (c.args.member.now, c.in-Some.slot) c.in-Some.ensures.place in
    subst (λ (ps : List ℕ). IsWaiting ps es) (sym c.in_ok-push-in-Some.ensures.items) (IsWaiting-more c.args.self.now.touched.items es c.in-Some.place lt c.requires.waiting)

pub returns-in_ok-push-in-Some-clause-named : goal.returns-in_ok-push-in-Some-clause-named
returns-in_ok-push-in-Some-clause-named g c =
    let es = c.args.members.now.entries in
    let draft = c.args.self.now in
    let ps = noted_places draft in
    let q = c.args.member.now in
    ap (λ (l : List ℕ). names_at es l) (noted_more draft c.push.new.self.items c.in-Some.place c.in_ok-push-in-Some.ensures.items) ∙ names_at-push es ps c.in-Some.place
    ∙ ap (λ (k : List ℕ). names_at es ps ++ k ∷ []) (name_here es c.in-Some.place q c.in-Some.slot c.in-Some.ensures.place)
    ∙ ap (λ (l : List (List ℕ)). names_at es ps ++ l) (sym (mention_there c.args.flags (members_by staged_score es) q c.in-Some.slot.staged c.in-Some.ensures.score))

pub returns-in_ok-push-in-Some-clause-led : goal.returns-in_ok-push-in-Some-clause-led
returns-in_ok-push-in-Some-clause-led g c =
    IsLed-noted c.args.self.now _ c.in-Some.place (length c.args.members.now.entries) (length c.args.members.now.entries) refl refl c.in_ok-push-in-Some.ensures.items refl c.requires.led

pub returns-in_ok-note_new-in-None-clause-outcome : goal.returns-in_ok-note_new-in-None-clause-outcome
returns-in_ok-note_new-in-None-clause-outcome g c = c.of-what.ensures ∙ ap (λ (o : Option ℤ). outcome_of c.args.flags o c.args.score) c.in-None.ensures.score

pub returns-else-eq-clause-outcome : goal.returns-else-eq-clause-outcome
returns-else-eq-clause-outcome g c = c.of-what.ensures ∙ ap (λ (o : Option ℤ). outcome_of c.args.flags o c.args.score) c.in-None.ensures.score

pub returns-in_ok-note_new-in-None-clause-staged : goal.returns-in_ok-note_new-in-None-clause-staged
returns-in_ok-note_new-in-None-clause-staged g c =
    let old = members_by staged_score c.args.members.now.entries in
    let f : SFits w64 c.args.score = search rules in
    let here : writes (outcome_of c.args.flags None c.args.score) ≡ true = search rules in
    let wrote : writes (outcome_of c.args.flags (map.get old c.args.member.now) c.args.score) ≡ true = ap (λ (o : Option ℤ). writes (outcome_of c.args.flags o c.args.score)) (sym c.in-None.ensures.score) ∙ here in
    c.in_ok-name-in-None.ensures.staged ∙ ap (λ (z : ℤ). map.insert old c.args.member.now z) (to_z-of_z f) ∙ sym (ap (λ b. if b then map.insert old c.args.member.now c.args.score else old) wrote)

pub returns-in_ok-note_new-in-None-clause-grows : goal.returns-in_ok-note_new-in-None-clause-grows
returns-in_ok-note_new-in-None-clause-grows g c = c.put_new.ensures.grows

pub returns-in_err-name-in-None-clause-grows : goal.returns-in_err-name-in-None-clause-grows
returns-in_err-name-in-None-clause-grows g c = c.put_new.ensures.grows

pub returns-in_err-add-in-None-clause-grows : goal.returns-in_err-add-in-None-clause-grows
returns-in_err-add-in-None-clause-grows g c = c.put_new.ensures.grows

pub returns-in_err-note_new-in-None-clause-grows : goal.returns-in_err-note_new-in-None-clause-grows
returns-in_err-note_new-in-None-clause-grows g c = c.put_new.ensures.grows

pub returns-in_err-name-in-None-clause-waiting : goal.returns-in_err-name-in-None-clause-waiting
returns-in_err-name-in-None-clause-waiting g c = c.put_new.ensures.waiting c.args.self.now.touched.items c.requires.waiting

pub returns-in_err-add-in-None-clause-waiting : goal.returns-in_err-add-in-None-clause-waiting
returns-in_err-add-in-None-clause-waiting g c = c.put_new.ensures.waiting c.args.self.now.touched.items c.requires.waiting

pub returns-in_ok-note_new-in-None-clause-waiting : goal.returns-in_ok-note_new-in-None-clause-waiting
returns-in_ok-note_new-in-None-clause-waiting g c =
    c.note_new.ensures.waiting c.put_new.new.members.entries (omega (arith, c.len-place.ensures.len, c.in_ok-name-in-None.ensures.longer)) (c.put_new.ensures.waiting c.args.self.now.touched.items c.requires.waiting)

pub returns-in_ok-note_new-in-None-clause-kept : goal.returns-in_ok-note_new-in-None-clause-kept
returns-in_ok-note_new-in-None-clause-kept g c = c.note_new.ensures.kept

pub returns-in_err-note_new-in-None-clause-waiting : goal.returns-in_err-note_new-in-None-clause-waiting
returns-in_err-note_new-in-None-clause-waiting g c =
    c.note_new.ensures.waiting c.put_new.new.members.entries (omega (arith, c.len-place.ensures.len, c.in_ok-name-in-None.ensures.longer)) (c.put_new.ensures.waiting c.args.self.now.touched.items c.requires.waiting)

pub returns-in_err-note_new-in-None-clause-kept : goal.returns-in_err-note_new-in-None-clause-kept
returns-in_err-note_new-in-None-clause-kept g c = c.note_new.ensures.kept

pub returns-in_ok-add-in-Some-clause-outcome : goal.returns-in_ok-add-in-Some-clause-outcome
returns-in_ok-add-in-Some-clause-outcome g c =
    let f : SFits w64 c.in-Some.slot.staged = search rules in
    let fits : SFits w64 c.args.score = search rules in
    c.of-what-in-Some.ensures ∙ ap (λ (z : ℤ). outcome_of c.args.flags (Some z) (to_z w64 (of_z w64 c.args.score))) (to_z-of_z f)
    ∙ ap (λ (z : ℤ). outcome_of c.args.flags (Some c.in-Some.slot.staged) z) (to_z-of_z fits) ∙ ap (λ (o : Option ℤ). outcome_of c.args.flags o c.args.score) c.in-Some.ensures.score

pub returns-in_ok-push-in-Some-clause-outcome : goal.returns-in_ok-push-in-Some-clause-outcome
returns-in_ok-push-in-Some-clause-outcome g c =
    let f : SFits w64 c.in-Some.slot.staged = search rules in
    let fits : SFits w64 c.args.score = search rules in
    c.of-what-in-Some.ensures ∙ ap (λ (z : ℤ). outcome_of c.args.flags (Some z) (to_z w64 (of_z w64 c.args.score))) (to_z-of_z f)
    ∙ ap (λ (z : ℤ). outcome_of c.args.flags (Some c.in-Some.slot.staged) z) (to_z-of_z fits) ∙ ap (λ (o : Option ℤ). outcome_of c.args.flags o c.args.score) c.in-Some.ensures.score

pub returns-in_ok-add-in-Some-clause-grows : goal.returns-in_ok-add-in-Some-clause-grows
returns-in_ok-add-in-Some-clause-grows g c = c.put_staged.ensures.grows

pub returns-in_ok-add-in-Some-clause-waiting : goal.returns-in_ok-add-in-Some-clause-waiting
returns-in_ok-add-in-Some-clause-waiting g c = c.put_staged.ensures.waiting

pub returns-in_err-put_staged-in-Some-clause-grows : goal.returns-in_err-put_staged-in-Some-clause-grows
returns-in_err-put_staged-in-Some-clause-grows g c = c.put_staged.ensures.grows

pub returns-in_err-put_staged-in-Some-clause-waiting : goal.returns-in_err-put_staged-in-Some-clause-waiting
returns-in_err-put_staged-in-Some-clause-waiting g c = c.put_staged.ensures.waiting

pub returns-in_err-take-in-Some-clause-grows : goal.returns-in_err-take-in-Some-clause-grows
returns-in_err-take-in-Some-clause-grows g c = c.put_staged.ensures.grows

pub returns-in_err-take-in-Some-clause-waiting : goal.returns-in_err-take-in-Some-clause-waiting
returns-in_err-take-in-Some-clause-waiting g c = c.put_staged.ensures.waiting

pub returns-in_err-add-in-Some-clause-grows : goal.returns-in_err-add-in-Some-clause-grows
returns-in_err-add-in-Some-clause-grows g c = c.put_staged.ensures.grows

pub returns-in_err-add-in-Some-clause-waiting : goal.returns-in_err-add-in-Some-clause-waiting
returns-in_err-add-in-Some-clause-waiting g c = c.put_staged.ensures.waiting

pub returns-in_err-before-in-Some-clause-grows : goal.returns-in_err-before-in-Some-clause-grows
returns-in_err-before-in-Some-clause-grows g c = Grows-self c.args.members.now.entries

pub returns-in_err-after-in-Some-clause-grows : goal.returns-in_err-after-in-Some-clause-grows
returns-in_err-after-in-Some-clause-grows g c = Grows-self c.args.members.now.entries

pub returns-in_ok-push-in-Some-clause-grows : goal.returns-in_ok-push-in-Some-clause-grows
returns-in_ok-push-in-Some-clause-grows g c = Grows-self c.args.members.now.entries

pub returns-else-eq-clause-grows : goal.returns-else-eq-clause-grows
returns-else-eq-clause-grows g c = Grows-self c.args.members.now.entries

pub returns-in_err-push-in-Some-clause-grows : goal.returns-in_err-push-in-Some-clause-grows
returns-in_err-push-in-Some-clause-grows g c = Grows-self c.args.members.now.entries

pub returns-in_err-before-in-Some-clause-waiting : goal.returns-in_err-before-in-Some-clause-waiting
returns-in_err-before-in-Some-clause-waiting g c = c.requires.waiting

pub returns-in_err-after-in-Some-clause-waiting : goal.returns-in_err-after-in-Some-clause-waiting
returns-in_err-after-in-Some-clause-waiting g c = c.requires.waiting

pub returns-else-eq-clause-waiting : goal.returns-else-eq-clause-waiting
returns-else-eq-clause-waiting g c = c.requires.waiting

pub returns-else-eq-clause-led : goal.returns-else-eq-clause-led
returns-else-eq-clause-led g c = c.requires.led

pub put_staged-requires-clause-waiting : goal.put_staged-requires-clause-waiting
put_staged-requires-clause-waiting g c = c.requires.waiting
