use Rattle.std.proofs.Common.{◌∙◌, ◌∷◌, [], List, length, length-append, sym, ap, subst, refl, Some, ℤ, w64, to_z, of_z, to_z-of_z}
use Rattle.std.specs.FinMap as map
use Rattle.indexmap.proofs.CallerLemmas.{insert_entry-new}
use Rattle.sorted_sets.specs.MembersWithStagedScores.{Entry, staged_score, members_by, name_at, slot_at, same_bytes, Grows, IsWaiting}
use Rattle.sorted_sets.specs.declared.set.members_with_staged_scores.ScoreSlot.{ScoreSlot}
use Rattle.sorted_sets.proofs.Bridge.{updates_bytes, one_put}
use Rattle.sorted_sets.proofs.Staging.{Grows-self, Grows-push, IsWaiting-push}
use Rattle.sorted_sets.proofs.Naming.{name_push, name_last}
use Rattle.sorted_sets.proofs.set.draft.put_new.Goals as goal

pub returns-clause-staged : goal.returns-clause-staged
returns-clause-staged g c =
    let key = c.in_ok-key.key in
    let z : ℤ = to_z w64 (of_z w64 c.args.score) in
    let slot : ScoreSlot = record { current = z; staged = z } in
    one_put staged_score c.args.members.now.entries c.insert.new.self.entries key slot (updates_bytes key c.args.members.now c.insert.new.self (Some slot) c.in_ok-insert.ensures.updates)
    ∙ ap (λ k. map.insert (members_by staged_score c.args.members.now.entries) k z) c.in_ok-key.ensures.bytes
    ∙ ap (λ s. map.insert (members_by staged_score c.args.members.now.entries) c.args.member.now s) (to_z-of_z c.ranges.score)

pub returns-clause-grows : goal.returns-clause-grows
returns-clause-grows g c =
    let old = c.args.members.now.entries in
    let key = c.in_ok-key.key in
    let z : ℤ = to_z w64 (of_z w64 c.args.score) in
    let slot : ScoreSlot = record { current = z; staged = z } in
    let absent = ap (slot_at old) c.in_ok-key.ensures.bytes ∙ c.requires.absent in
    subst (Grows old) (sym (c.in_ok-insert.ensures.entries ∙ insert_entry-new same_bytes c.args.members.now key slot absent)) (Grows-push old (key, slot))

pub returns-clause-waiting : goal.returns-clause-waiting
returns-clause-waiting g c places w =
    let old = c.args.members.now.entries in
    let key = c.in_ok-key.key in
    let z : ℤ = to_z w64 (of_z w64 c.args.score) in
    let slot : ScoreSlot = record { current = z; staged = z } in
    let absent = ap (slot_at old) c.in_ok-key.ensures.bytes ∙ c.requires.absent in
    subst (IsWaiting places) (sym (c.in_ok-insert.ensures.entries ∙ insert_entry-new same_bytes c.args.members.now key slot absent)) (IsWaiting-push places old (key, slot) refl w)

pub returns-clause-longer : goal.returns-clause-longer
returns-clause-longer g c =
    let old = c.args.members.now.entries in
    let key = c.in_ok-key.key in
    let z : ℤ = to_z w64 (of_z w64 c.args.score) in
    let slot : ScoreSlot = record { current = z; staged = z } in
    let absent = ap (slot_at old) c.in_ok-key.ensures.bytes ∙ c.requires.absent in
    let is = c.in_ok-insert.ensures.entries ∙ insert_entry-new same_bytes c.args.members.now key slot absent in
    ap (λ (es : List Entry). length es) is ∙ length-append old ((key, slot) ∷ [])

pub returns-clause-place : goal.returns-clause-place
returns-clause-place g c =
    let old = c.args.members.now.entries in
    let key = c.in_ok-key.key in
    let z : ℤ = to_z w64 (of_z w64 c.args.score) in
    let slot : ScoreSlot = record { current = z; staged = z } in
    let absent = ap (slot_at old) c.in_ok-key.ensures.bytes ∙ c.requires.absent in
    let is = c.in_ok-insert.ensures.entries ∙ insert_entry-new same_bytes c.args.members.now key slot absent in
    ap (λ (es : List Entry). name_at es (length old)) is ∙ name_last old (key, slot) ∙ c.in_ok-key.ensures.bytes

pub returns-clause-names : goal.returns-clause-names
returns-clause-names g c p lt =
    let old = c.args.members.now.entries in
    let key = c.in_ok-key.key in
    let z : ℤ = to_z w64 (of_z w64 c.args.score) in
    let slot : ScoreSlot = record { current = z; staged = z } in
    let absent = ap (slot_at old) c.in_ok-key.ensures.bytes ∙ c.requires.absent in
    let is = c.in_ok-insert.ensures.entries ∙ insert_entry-new same_bytes c.args.members.now key slot absent in
    ap (λ (es : List Entry). name_at es p) is ∙ name_push old (key, slot) p lt

pub returns-in_err-key-clause-grows : goal.returns-in_err-key-clause-grows
returns-in_err-key-clause-grows g c = Grows-self c.args.members.now.entries

pub returns-in_err-key-clause-waiting : goal.returns-in_err-key-clause-waiting
returns-in_err-key-clause-waiting g c places w = w

pub returns-in_err-name-clause-grows : goal.returns-in_err-name-clause-grows
returns-in_err-name-clause-grows g c = Grows-self c.args.members.now.entries

pub returns-in_err-name-clause-waiting : goal.returns-in_err-name-clause-waiting
returns-in_err-name-clause-waiting g c places w = w

pub returns-clause-name : goal.returns-clause-name
returns-clause-name g c = c.in_ok-name.ensures.bytes ∙ c.in_ok-key.ensures.bytes

pub returns-in_err-insert-clause-grows : goal.returns-in_err-insert-clause-grows
returns-in_err-insert-clause-grows g c = subst (Grows c.args.members.now.entries) (sym c.in_err-insert.ensures.err) (Grows-self c.args.members.now.entries)

pub returns-in_err-insert-clause-waiting : goal.returns-in_err-insert-clause-waiting
returns-in_err-insert-clause-waiting g c places w = subst (IsWaiting places) (sym c.in_err-insert.ensures.err) w
