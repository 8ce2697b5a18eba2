-- What ZADD's words are read as.
use Rattle.std.proofs.Common.{◌≡◌, ℕ, ◌+◌, ◌*◌, ◌<◌, ◌≤◌, Bool, true, false, ◌&&◌, cond, List, [], ◌∷◌, length, drop, refl, sym, ap, subst, ◌∙◌, Option, Some, None, Ok, Err, ◌⊎◌, inl, inr, ℤ, arith, length-drop}
use Rattle.std.specs.Prelude.{codes, is_none, option_map, option_and_then}
use Rattle.std.specs.Option.{ok_or}
use Rattle.std.proofs.lemmas.Bool.{cond-true, cond-false, eqb-true, and_from, and_right, and_left, not_from_true, not_from_false}
use Rattle.std.proofs.lemmas.List.{drop-drop, get_or-drop}
use Rattle.score_bounds.specs.ScoreTexts.{score_value}
use Rattle.zset_commands.specs.AbstractCommand as meanings
use Rattle.zset_commands.specs.MeaningOfForm.{word_at, scored}
use Rattle.zset_commands.specs.CommandGrammar.{first_of, has_option, has_two_of_gt_lt_nx, are_pairs, asked_flags, add_meaning, add_options, add_pairs, pairs_value, command_conditions, command_meaning}
use Rattle.zset_commands.specs.ReadingMatchesGrammar.{AreAddParts, AreScores, given_value}
use Rattle.zset_commands.specs.declared.name.CommandName.TheVariants as names
use Rattle.zset_commands.specs.declared.flags.Flags.{Flags}
use Rattle.zset_commands.specs.declared.refusal.Refusal.{Refusal}
use Rattle.zset_commands.specs.declared.refusal.Refusal.TheVariants.{Syntax, NxAndXx, GtLtNx, IncrPair, BadScore}
use lib.Dec.{eqb}

-- the first of ZADD's five conditions
abbrev add_cases : Bool → Bool → Bool → Bool → Bool → List (Bool × Refusal)
add_cases a b c d e = (a, Syntax) ∷ (b, NxAndXx) ∷ (c, GtLtNx) ∷ (d, IncrPair) ∷ (e, BadScore) ∷ []

none_of : (a b c d e : Bool) → a ≡ false → b ≡ false → c ≡ false → d ≡ false → e ≡ false → first_of (add_cases a b c d e) ≡ None
none_of a b c d e no_a no_b no_c no_d no_e = rw (no_a, no_b, no_c, no_d, no_e) refl

fourth_of : (a b c d e : Bool) → a ≡ false → b ≡ false → c ≡ false → d ≡ true → first_of (add_cases a b c d e) ≡ Some IncrPair
fourth_of a b c d e no_a no_b no_c is_d = rw (no_a, no_b, no_c, is_d) refl

fifth_of : (a b c d e : Bool) → a ≡ false → b ≡ false → c ≡ false → d ≡ false → e ≡ true → first_of (add_cases a b c d e) ≡ Some BadScore
fifth_of a b c d e no_a no_b no_c no_d is_e = rw (no_a, no_b, no_c, no_d, is_e) refl

positive : (pairs : List (List ℕ)) → are_pairs pairs ≡ true → 0 < length pairs
positive [] whole = absurd (let no : ⊥ = cc in no)
positive (pair ∷ pairs) whole = omega arith

-- the pairs are all words from a place on
add_pairs-drop : (words : List (List ℕ)) → add_pairs words ≡ drop (2 + length (add_options words)) words
unfolding add_pairs
add_pairs-drop words = drop-drop (length (add_options words)) 2 words

-- one pair
two_words : (pairs : List (List ℕ)) → length pairs ≡ 2 → pairs ≡ word_at pairs 0 ∷ word_at pairs 1 ∷ []
two_words [] two = absurd (omega (arith, two))
two_words (a ∷ []) two = absurd (omega (arith, two))
two_words (a ∷ b ∷ []) two = refl
two_words (a ∷ b ∷ c ∷ more) two = absurd (omega (arith, two))

given_ok : (b : Bool) (read : Option ℤ) (given : ℤ) → cond b (ok_or read BadScore) (Err IncrPair) ≡ Ok given → (b ≡ true) × (read ≡ Some given)
given_ok true (Some n) given same = (refl, cc)
given_ok true None given same = absurd (let no : ⊥ = cc in no)
given_ok false read given same = absurd (let no : ⊥ = cc in no)

given_err : (b : Bool) (read : Option ℤ) (refusal : Refusal) → cond b (ok_or read BadScore) (Err IncrPair) ≡ Err refusal
    → ((b ≡ false) × (refusal ≡ IncrPair)) ⊎ ((b ≡ true) × (read ≡ None) × (refusal ≡ BadScore))
given_err true (Some n) refusal same = absurd (let no : ⊥ = cc in no)
given_err true None refusal same = inr (refl, refl, cc)
given_err false read refusal same = inl (refl, cc)

pub value_of_one : (pairs : List (List ℕ)) → length pairs ≡ 2 → (read : Option ℤ) → score_value (word_at pairs 0) ≡ read
    → pairs_value pairs ≡ option_map (λ given. (given, word_at pairs 1) ∷ []) read
unfolding pairs_value
value_of_one pairs two read is_read = subst (λ ps. pairs_value ps ≡ option_map (λ given. (given, word_at pairs 1) ∷ []) read) (sym (two_words pairs two)) (over read is_read)
  where
    over : (r : Option ℤ) → score_value (word_at pairs 0) ≡ r → pairs_value (word_at pairs 0 ∷ word_at pairs 1 ∷ []) ≡ option_map (λ given. (given, word_at pairs 1) ∷ []) r
    over None is_r = rw is_r refl
    over (Some n) is_r = rw is_r refl

-- how many words there are
words_count : (words : List (List ℕ)) → 0 < length (add_pairs words) → 2 + length (add_options words) + length (add_pairs words) ≡ length words
words_count words some =
    omega (arith, ap length (add_pairs-drop words), length-drop (2 + length (add_options words)) words)

-- with INCR
increase_unrefused : (words : List (List ℕ)) (given : ℤ) → are_pairs (add_pairs words) ≡ true
    → (has_option (codes "NX") (add_options words) && has_option (codes "XX") (add_options words)) ≡ false → has_two_of_gt_lt_nx (asked_flags (add_options words)) ≡ false
    → given_value (add_pairs words) ≡ Ok given → first_of (command_conditions names.Add words) ≡ None
unfolding given_value
increase_unrefused words given whole apart agreeing read =
    let facts = given_ok (eqb (length (add_pairs words)) 2) (score_value (word_at (add_pairs words) 0)) given read in
    let value = value_of_one (add_pairs words) (eqb-true _ _ facts.0) (Some given) facts.1 in
    none_of _ _ _ _ _ (not_from_true _ whole) apart agreeing (and_right _ _ (not_from_true _ facts.0)) (ap is_none value)

increase_refused : (words : List (List ℕ)) (refusal : Refusal) → are_pairs (add_pairs words) ≡ true
    → (has_option (codes "NX") (add_options words) && has_option (codes "XX") (add_options words)) ≡ false → has_two_of_gt_lt_nx (asked_flags (add_options words)) ≡ false → has_option (codes "INCR") (add_options words) ≡ true
    → given_value (add_pairs words) ≡ Err refusal → first_of (command_conditions names.Add words) ≡ Some refusal
unfolding given_value
increase_refused words refusal whole apart agreeing incr read = elim (given_err (eqb (length (add_pairs words)) 2) (score_value (word_at (add_pairs words) 0)) refusal read) [
  | inl facts ↦ fourth_of _ _ _ _ _ (not_from_true _ whole) apart agreeing (and_from _ _ incr (not_from_false _ facts.0)) ∙ ap Some (sym facts.1)
  | inr facts ↦
      let value = value_of_one (add_pairs words) (eqb-true _ _ facts.0) None facts.1 in
      fifth_of _ _ _ _ _ (not_from_true _ whole) apart agreeing (and_right _ _ (not_from_true _ facts.0)) (ap is_none value) ∙ ap Some (sym facts.2)
]

increase_meaning : (words : List (List ℕ)) (flags : Flags) (given : ℤ) (member : ℕ) → has_option (codes "INCR") (add_options words) ≡ true
    → given_value (add_pairs words) ≡ Ok given → flags ≡ asked_flags (add_options words) → member ≡ 2 + length (add_options words) + 1
    → (command_meaning names.Add words ≡ Some (meanings.Changes (word_at words 1) (meanings.Increase flags given (word_at words member)))) × ((1 < length words) × (member < length words))
unfolding given_value
increase_meaning words flags given member incr read is_flags is_member =
    let facts = given_ok (eqb (length (add_pairs words)) 2) (score_value (word_at (add_pairs words) 0)) given read in
    let two : length (add_pairs words) ≡ 2 = eqb-true _ _ facts.0 in
    let count = words_count words (omega (arith, two)) in
    let value : pairs_value (add_pairs words) ≡ Some ((given, word_at (add_pairs words) 1) ∷ []) = value_of_one (add_pairs words) two (Some given) facts.1 in
    let place : word_at (add_pairs words) 1 ≡ word_at words member =
    ap (λ ws. word_at ws 1) (add_pairs-drop words) ∙ get_or-drop (2 + length (add_options words)) words 1 [] ∙ ap (word_at words) (sym is_member) in
    let meaning : command_meaning names.Add words ≡ Some (meanings.Changes (word_at words 1) (meanings.Increase flags given (word_at words member))) =
    ap (option_and_then (add_meaning words)) value ∙ cond-true _ _ _ incr
    ∙ ap (λ f. Some (meanings.Changes (word_at words 1) (meanings.Increase f given (word_at (add_pairs words) 1)))) (sym is_flags)
    ∙ ap (λ m. Some (meanings.Changes (word_at words 1) (meanings.Increase flags given m))) place in
    (meaning, (omega (arith, count), omega (arith, count, is_member, two)))

-- without INCR
scores_unrefused : (words : List (List ℕ)) (scores : List ℤ) → are_pairs (add_pairs words) ≡ true
    → (has_option (codes "NX") (add_options words) && has_option (codes "XX") (add_options words)) ≡ false → has_two_of_gt_lt_nx (asked_flags (add_options words)) ≡ false → has_option (codes "INCR") (add_options words) ≡ false
    → AreScores (add_pairs words) scores → first_of (command_conditions names.Add words) ≡ None
scores_unrefused words scores whole apart agreeing no_incr are =
    none_of _ _ _ _ _ (not_from_true _ whole) apart agreeing (and_left _ _ no_incr) (ap is_none are.value)

scores_refused : (words : List (List ℕ)) → are_pairs (add_pairs words) ≡ true
    → (has_option (codes "NX") (add_options words) && has_option (codes "XX") (add_options words)) ≡ false → has_two_of_gt_lt_nx (asked_flags (add_options words)) ≡ false → has_option (codes "INCR") (add_options words) ≡ false
    → pairs_value (add_pairs words) ≡ None → first_of (command_conditions names.Add words) ≡ Some BadScore
scores_refused words whole apart agreeing no_incr none =
    fifth_of _ _ _ _ _ (not_from_true _ whole) apart agreeing (and_left _ _ no_incr) (ap is_none none)

scores_meaning : (words : List (List ℕ)) (flags : Flags) (changed : Bool) (first : ℕ) (scores : List ℤ) → 0 < length (add_pairs words) → has_option (codes "INCR") (add_options words) ≡ false
    → AreScores (add_pairs words) scores → flags ≡ asked_flags (add_options words) → changed ≡ has_option (codes "CH") (add_options words) → first ≡ 2 + length (add_options words)
    → (command_meaning names.Add words ≡ Some (meanings.Changes (word_at words 1) (meanings.Add flags changed (scored scores (drop first words)))))
    × ((2 ≤ first) × (0 < length scores) × (first + 2 * length scores ≡ length words))
scores_meaning words flags changed first scores some no_incr are is_flags is_changed is_first =
    let count = words_count words some in
    let pairs : add_pairs words ≡ drop first words = add_pairs-drop words ∙ ap (λ n. drop n words) (sym is_first) in
    let meaning : command_meaning names.Add words ≡ Some (meanings.Changes (word_at words 1) (meanings.Add flags changed (scored scores (drop first words)))) =
    ap (option_and_then (add_meaning words)) are.value ∙ cond-false _ _ _ no_incr
    ∙ ap (λ f. Some (meanings.Changes (word_at words 1) (meanings.Add f (has_option (codes "CH") (add_options words)) (scored scores (add_pairs words))))) (sym is_flags)
    ∙ ap (λ c. Some (meanings.Changes (word_at words 1) (meanings.Add flags c (scored scores (add_pairs words))))) (sym is_changed)
    ∙ ap (λ ps. Some (meanings.Changes (word_at words 1) (meanings.Add flags changed (scored scores ps)))) pairs in
    (meaning, (omega (arith, is_first), omega (arith, are.all, some), omega (arith, count, are.all, is_first)))

-- the same of options and pairs that were told apart
module _ (words options pairs : List (List ℕ)) (flags : Flags) (is_options : options ≡ add_options words) (is_pairs : pairs ≡ add_pairs words) (parts : AreAddParts options pairs flags) where
  whole : are_pairs (add_pairs words) ≡ true
  whole = ap are_pairs (sym is_pairs) ∙ parts.whole

  flags_are : flags ≡ asked_flags (add_options words)
  flags_are = parts.flags_are ∙ ap asked_flags is_options

  apart : (has_option (codes "NX") (add_options words) && has_option (codes "XX") (add_options words)) ≡ false
  apart = ap (λ f. f.nx && f.xx) (sym flags_are) ∙ parts.apart

  agreeing : has_two_of_gt_lt_nx (asked_flags (add_options words)) ≡ false
  agreeing = ap has_two_of_gt_lt_nx (sym flags_are) ∙ parts.agreeing

  some : 0 < length (add_pairs words)
  some = positive (add_pairs words) whole

  pub increase_err : (refusal : Refusal) → has_option (codes "INCR") options ≡ true → given_value pairs ≡ Err refusal → first_of (command_conditions names.Add words) ≡ Some refusal
  increase_err refusal increases read =
      increase_refused words refusal whole apart agreeing (ap (has_option (codes "INCR")) (sym is_options) ∙ increases) (ap given_value (sym is_pairs) ∙ read)

  pub increase_ok : (given : ℤ) → has_option (codes "INCR") options ≡ true → given_value pairs ≡ Ok given
      → (first_of (command_conditions names.Add words) ≡ None)
      × (command_meaning names.Add words ≡ Some (meanings.Changes (word_at words 1) (meanings.Increase flags given (word_at words (2 + length options + 1)))))
      × ((1 < length words) × (2 + length options + 1 < length words))
  increase_ok given increases read =
      let read' : given_value (add_pairs words) ≡ Ok given = ap given_value (sym is_pairs) ∙ read in
      let increases' : has_option (codes "INCR") (add_options words) ≡ true = ap (has_option (codes "INCR")) (sym is_options) ∙ increases in
      let meaning = increase_meaning words flags given (2 + length options + 1) increases' read' flags_are (ap (λ os. 2 + length os + 1) is_options) in
      (increase_unrefused words given whole apart agreeing read', meaning.0, meaning.1)

  pub scores_err : has_option (codes "INCR") options ≡ false → pairs_value pairs ≡ None → first_of (command_conditions names.Add words) ≡ Some BadScore
  scores_err puts none = scores_refused words whole apart agreeing (ap (has_option (codes "INCR")) (sym is_options) ∙ puts) (ap pairs_value (sym is_pairs) ∙ none)

  pub scores_ok : (scores : List ℤ) (changed : Bool) → has_option (codes "INCR") options ≡ false → AreScores pairs scores → changed ≡ has_option (codes "CH") options
      → (first_of (command_conditions names.Add words) ≡ None)
      × (command_meaning names.Add words ≡ Some (meanings.Changes (word_at words 1) (meanings.Add flags changed (scored scores (drop (2 + length options) words)))))
      × ((2 ≤ 2 + length options) × (0 < length scores) × (2 + length options + 2 * length scores ≡ length words))
  scores_ok scores changed puts are is_changed =
      let are' : AreScores (add_pairs words) scores = subst (λ ps. AreScores ps scores) is_pairs are in
      let puts' : has_option (codes "INCR") (add_options words) ≡ false = ap (has_option (codes "INCR")) (sym is_options) ∙ puts in
      let meaning = scores_meaning words flags changed (2 + length options) scores some puts' are' flags_are (is_changed ∙ ap (has_option (codes "CH")) is_options) (ap (λ os. 2 + length os) is_options) in
      (scores_unrefused words scores whole apart agreeing puts' are', meaning.0, meaning.1)
