-- Passes that know the same names have one place for a key.
use Rattle.std.proofs.Common.{◌≡◌, ℕ, ◌+◌, ◌<◌, ◌%◌, ◌∙◌, List, length, sym, ap, subst, inl, inr, arith}
use Rattle.std.proofs.Math.Nat.{mod-lt}
use Rattle.std.proofs.lemmas.Bool.{cases_order}
use Rattle.place_names.specs.Naming.{Naming, BearsOther, IsPlace, walk, hash_from}
use Rattle.set_table.specs.TableAndPassViews.{PassView}
use Rattle.table_lifetime.specs.ClosingAudit.{AgreeAt, HaveOnePlace, pass_at}

place_within : (names : Naming) (key : List ℕ) (p : ℕ) → IsPlace names key p → p < length names
place_within names key p place =
    let some : 0 < length names = omega (arith, place.within) in
    subst (λ (q : ℕ). q < length names) place.is (mod-lt (hash_from 7 key % length names + place.step) some)

clash : (cells : ℕ) (ps : List PassView) → ((place : ℕ) → place < cells → AgreeAt ps place) → ((i : ℕ) → i < length ps → length (pass_at ps i).notes.known ≡ cells)
    → (i j p : ℕ) (key : List ℕ) → i < length ps → j < length ps → IsPlace (pass_at ps i).notes.known key p → BearsOther (pass_at ps j).notes.known key p → ⊥
clash cells ps agree len i j p key i_in j_in place o =
    let within : p < cells = omega (arith, place_within (pass_at ps i).notes.known key p place, len i i_in) in
    o.2 (agree p within j i o.0 key o.1 place.own)

pub one_place : (cells : ℕ) (ps : List PassView) → ((place : ℕ) → place < cells → AgreeAt ps place) → ((i : ℕ) → i < length ps → length (pass_at ps i).notes.known ≡ cells) → HaveOnePlace ps
one_place cells ps agree len i j p q key i_in j_in place_p place_q =
    let same = len i i_in ∙ sym (len j j_in) in
    elim (cases_order place_p.step place_q.step) [
      | inl e ↦ sym place_p.is ∙ ap (λ n. walk n key place_p.step) same ∙ ap (walk (length (pass_at ps j).notes.known) key) e ∙ place_q.is
      | inr c ↦ elim c [
        | inl less ↦ absurd (clash cells ps agree len i j p key i_in j_in place_p (subst (λ (r : ℕ). BearsOther (pass_at ps j).notes.known key r) (ap (λ n. walk n key place_p.step) (sym same) ∙ place_p.is) (place_q.before place_p.step less)))
        | inr more ↦ absurd (clash cells ps agree len j i q key j_in i_in place_q (subst (λ (r : ℕ). BearsOther (pass_at ps i).notes.known key r) (ap (λ n. walk n key place_q.step) same ∙ place_q.is) (place_p.before place_q.step more)))
      ]
    ]
