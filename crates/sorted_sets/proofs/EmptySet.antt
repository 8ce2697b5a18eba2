-- What a command that makes no set replies where its key has none.
use Rattle.std.proofs.Common.{◌≡◌, ℕ, ◌-◌, ℤ, pos, negsuc, Bool, true, false, cond, List, [], ◌∷◌, map, filter, count_by, length, take, drop, zero, suc, Option, None, Some, refl, sym, ap, ◌∙◌, arith, true≢false}
use Rattle.std.specs.Prelude.{not, option_map}
use Rattle.std.specs.FinMap as fin
use Rattle.score_bounds.specs.RangesAndCuts.{is_in}
use Rattle.resp_wire.specs.Response.{Response, Integer, NullBulk, Array}
use Rattle.zset_core.specs.SortedSet.{Members, Pair, bytes_cmp, pairs, listing}
use Rattle.zset_commands.specs.AbstractCommand.{Meaning, Asks, Changes, Question, Score, Card, Count, ListRange, Change, Add, Increase, Remove, RemoveRange, is_creating, makes_a_set}
use Rattle.zset_core.specs.Semantics.{outcome_of, writes, counted, put_one, put_all, count_all, is_barred, sum_of, increase_reply, remove_all, without_range, score_reply, elements, apply_limit, from_offset, at_most, answer, changed_by, step}
use Rattle.zset_commands.specs.declared.flags.Flags.{Flags}
use Rattle.zset_core.specs.declared.pair_outcome.Outcome.TheVariants.{Stopped, Added}
use Rattle.zset_commands.specs.declared.limit.Limit.{Limit}
use Rattle.sorted_sets.proofs.Bridge.{total}
use Rattle.sorted_sets.proofs.RangeRows.{length_listing}
use Rattle.sorted_sets.proofs.RangeRemoval.{len_without_given}
use Rattle.score_bounds.specs.declared.ranges_and_cuts.Range.{Range}

abbrev none : Members
none = fin.empty

no_score : (member : List ℕ) → fin.get none member ≡ None
no_score member = fin.get-empty bytes_cmp member

must_be_there : (flags : Flags) → not flags.xx ≡ false → flags.xx ≡ true
must_be_there flags h = by flags.xx h
  where
    by : (b : Bool) → not b ≡ false → b ≡ true
    by true h = refl
    by false h = absurd (true≢false h)

stopped : (flags : Flags) (member : List ℕ) (score : ℤ) → flags.xx ≡ true → outcome_of flags (fin.get none member) score ≡ Stopped
stopped flags member score xx = ap (λ o. outcome_of flags o score) (no_score member) ∙ ap (λ b. cond b Stopped Added) xx

put_one_stopped : (flags : Flags) (member : List ℕ) (score : ℤ) → flags.xx ≡ true → put_one flags none member score ≡ none
put_one_stopped flags member score xx = ap (λ o. cond (writes o) (fin.insert none member score) none) (stopped flags member score xx)

put_all_stopped : (flags : Flags) (ps : List Pair) → flags.xx ≡ true → put_all flags none ps ≡ none
put_all_stopped flags [] xx = refl
put_all_stopped flags (p ∷ ps) xx = ap (λ m. put_all flags m ps) (put_one_stopped flags p.1 p.0 xx) ∙ put_all_stopped flags ps xx

none_counted : (flags : Flags) (changed : Bool) (ps : List Pair) → flags.xx ≡ true → count_all flags changed none ps ≡ 0
none_counted flags changed [] xx = refl
none_counted flags changed (p ∷ ps) xx =
    let one : counted changed (outcome_of flags (fin.get none p.1) p.0) ≡ 0 = ap (counted changed) (stopped flags p.1 p.0 xx) in
    let rest : count_all flags changed (put_one flags none p.1 p.0) ps ≡ 0 = ap (λ m. count_all flags changed m ps) (put_one_stopped flags p.1 p.0 xx) ∙ none_counted flags changed ps xx in
    omega (arith, one, rest)

none_removed : (names : List (List ℕ)) → remove_all none names ≡ none
none_removed [] = refl
none_removed (name ∷ names) = ap (λ m. remove_all m names) (fin.empty_of_len (fin.remove none name) (fin.len-remove total none name ∙ zero_left (fin.contains_key none name) (fin.len none) (fin.len-empty bytes_cmp ℤ))) ∙ none_removed names
  where
    zero_left : (b : Bool) (n : ℕ) → n ≡ 0 → cond b (n - 1) n ≡ 0
    zero_left true n e = omega (arith, e)
    zero_left false n e = e

no_rows : {A : Type 0} (xs : List A) → length xs ≡ 0 → xs ≡ []
no_rows [] e = refl
no_rows (x ∷ xs) e = absurd (omega (arith, e))

none_paired : pairs none ≡ []
unfolding pairs
none_paired = ap (map (λ (entry : List ℕ × ℤ). (entry.1, entry.0))) (no_rows (fin.entries none) (sym (fin.len-entries none) ∙ fin.len-empty bytes_cmp ℤ))

none_in_range : (range : Range) → without_range range none ≡ none
none_in_range range = fin.empty_of_len (without_range range none) (omega (arith, len_without_given (Some range) none, fin.len-empty bytes_cmp ℤ))

none_listed : (test : ℤ → Bool) → listing test none ≡ []
none_listed test = no_rows (listing test none) (length_listing test none [] (λ p. sym (ap (λ (rows : List Pair). count_by p (filter (λ q. test q.0) rows)) none_paired)))

drop_nothing : (n : ℕ) → drop {A = Pair} n [] ≡ []
drop_nothing zero = refl
drop_nothing (suc n) = refl

take_nothing : (n : ℕ) → take {A = Pair} n [] ≡ []
take_nothing zero = refl
take_nothing (suc n) = refl

none_limited : (limit : Option Limit) → apply_limit limit [] ≡ []
none_limited None = refl
none_limited (Some limit) = ap (at_most limit.count) (offset limit.offset) ∙ count limit.count
  where
    offset : (z : ℤ) → from_offset z [] ≡ []
    offset (pos n) = drop_nothing n
    offset (negsuc n) = refl

    count : (z : ℤ) → at_most z [] ≡ []
    count (pos n) = take_nothing n
    count (negsuc n) = refl

none_shown : (with_scores : Bool) → elements with_scores [] ≡ []
none_shown true = refl
none_shown false = refl

-- the reply to a question of the empty set
abbrev pub empty_answer : Question → Response
empty_answer (Score member) = NullBulk
empty_answer Card = Integer (pos 0)
empty_answer (Count range) = Integer (pos 0)
empty_answer (ListRange range with_scores limit) = Array []

answered : (question : Question) → answer none question ≡ empty_answer question
answered (Score member) = ap score_reply (no_score member)
answered Card = ap (λ (n : ℕ). Integer (pos n)) (fin.len-empty bytes_cmp ℤ)
answered (Count range) = ap (λ (ps : List Pair). Integer (pos (length ps))) (none_listed (is_in range))
answered (ListRange range with_scores limit) =
    ap (λ (ps : List Pair). Array (elements with_scores (apply_limit limit ps))) (none_listed (is_in range))
    ∙ ap (λ (ps : List Pair). Array (elements with_scores ps)) (none_limited limit) ∙ ap Array (none_shown with_scores)

-- the reply to a change of it that makes no set
abbrev pub empty_change : Change → Response
empty_change (Add flags changed ps) = Integer (pos 0)
empty_change (Increase flags given member) = NullBulk
empty_change (Remove names) = Integer (pos 0)
empty_change (RemoveRange range) = Integer (pos 0)

changed : (change : Change) → makes_a_set change ≡ false → changed_by none change ≡ Some (none, empty_change change)
changed (Add flags changes ps) h =
    let xx = must_be_there flags h in
    ap (λ m. Some (m, Integer (pos (count_all flags changes none ps)))) (put_all_stopped flags ps xx) ∙ ap (λ n. Some (none, Integer (pos n))) (none_counted flags changes ps xx)
changed (Increase flags given member) h =
    let xx = must_be_there flags h in
    let barred : is_barred flags (fin.get none member) ≡ true = ap (is_barred flags) (no_score member) ∙ xx in
    ap (λ b. cond b (Some (none, NullBulk)) (option_map (λ score. (put_one flags none member score, increase_reply (outcome_of flags (fin.get none member) score) score)) (sum_of (fin.get none member) given))) barred
changed (Remove names) h = ap (λ m. Some (m, Integer (pos (fin.len none - fin.len m)))) (none_removed names) ∙ ap (λ (n : ℕ). Some (none, Integer (pos (n - n)))) (fin.len-empty bytes_cmp ℤ)
changed (RemoveRange range) h =
    ap (λ m. Some (m, Integer (pos (length (listing (is_in range) none))))) (none_in_range range) ∙ ap (λ (ps : List Pair). Some (none, Integer (pos (length ps)))) (none_listed (is_in range))

-- the same of a question and a change by what they are equal to
pub answered_of : (question form : Question) (reply : Response) → question ≡ form → reply ≡ empty_answer form → reply ≡ answer fin.empty question
answered_of question form reply is told = told ∙ sym (answered form) ∙ ap (answer none) (sym is)

pub changed_of : (change form : Change) (reply : Response) → change ≡ form → reply ≡ empty_change form → makes_a_set change ≡ false → changed_by fin.empty change ≡ Some (fin.empty, reply)
changed_of change form reply is told h =
    ap (changed_by none) is ∙ changed form (sym (ap makes_a_set is) ∙ h) ∙ ap (λ (r : Response). Some (none, r)) (sym told)

-- and of a command that asks for a set
pub asked_of : (meaning : Meaning) (key : List ℕ) (question : Question) (reply : Response) → meaning ≡ Asks key question → reply ≡ answer fin.empty question → step fin.empty meaning ≡ Some (fin.empty, reply)
asked_of meaning key question reply is told = ap (step none) is ∙ ap (λ (r : Response). Some (none, r)) (sym told)

pub altered_of : (meaning : Meaning) (key : List ℕ) (change : Change) (reply : Response) → meaning ≡ Changes key change → is_creating meaning ≡ false
    → (makes_a_set change ≡ false → changed_by fin.empty change ≡ Some (fin.empty, reply)) → step fin.empty meaning ≡ Some (fin.empty, reply)
altered_of meaning key change reply is h told = ap (step none) is ∙ told (sym (ap is_creating is) ∙ h)
