-- A record of ZADD is read as ZADD without options.
use Rattle.std.proofs.Common.{◌≡◌, ℕ, ◌+◌, ◌*◌, ◌%◌, ◌<◌, ◌≤◌, ℤ, ◌==◌, nat_le, nat_lt, Bool, true, false, cond, not, ◌&&◌, ◌||◌, inl, inr, List, [], ◌∷◌, length, take, drop, None, Some, Ok, refl, ap, ◌∙◌, arith}
use Rattle.std.specs.Prelude.{codes}
use Rattle.std.specs.List.{AllByRecursion, flat_map, prefix_len}
use Rattle.std.specs.Char.{to_ascii_lowercase}
use Rattle.std.proofs.lemmas.Bool.{lt-ltb, le-leb}
use Rattle.std.proofs.lemmas.Bool.Decides.{nat_tests}
use Rattle.std.proofs.lemmas.Str.Parse.{digit_from_value}
use Rattle.std.proofs.Math.Nat.{mul-mod_right}
use Rattle.score_bounds.specs.ScoreTexts.{IsScore, IsPlain, score_text, score_value}
use Rattle.zset_core.specs.SortedSet.{Pair}
use Rattle.zset_commands.specs.AbstractCommand.{Meaning}
use Rattle.zset_commands.specs.AbstractCommand as meanings
use Rattle.zset_commands.specs.CommandGrammar.{command_named, is_add_option, add_options, add_pairs, are_pairs, pairs_value, named_conditions, conditions, first_of, meaning, asked}
use Rattle.zset_commands.specs.declared.name.CommandName.TheVariants.{Add}
use Rattle.zset_commands.proofs.CallerLemmas.{asked-ok}
use Rattle.log_records.specs.Dump.{add_record}
use Rattle.log_records.proofs.SetUnion.{plain}

-- ---- the text of a score is no option
none_of : (a b c d e f : Bool) → a ≡ false → b ≡ false → c ≡ false → d ≡ false → e ≡ false → f ≡ false → (a || b || c || d || e || f) ≡ false
none_of a b c d e f ea eb ec ed ee ef = rw (ea, eb, ec, ed, ee, ef) refl

and_none : (a b : Bool) → a ≡ false → (a && b) ≡ false
and_none a b e = rw e refl

-- below the letters a byte is the same in lower case
lower : (c : ℕ) → c < 58 → to_ascii_lowercase c ≡ c
lower c low = ap (λ b. cond b c (cond (nat_lt c 91) (c + 32) c)) (lt-ltb c 65 (omega (arith, low)))

other_byte : (c n : ℕ) → c < 58 → 58 ≤ n → (to_ascii_lowercase c == n) ≡ false
other_byte c n low up = ap (λ k. k == n) (lower c low) ∙ grind (arith, nat_tests)

first_byte : (c : ℕ) (more : List ℕ) → c < 58 → is_add_option (c ∷ more) ≡ false
first_byte c more low =
    none_of _ _ _ _ _ _ (and_none _ _ (other_byte c 110 low (omega arith))) (and_none _ _ (other_byte c 120 low (omega arith)))
    (and_none _ _ (other_byte c 103 low (omega arith))) (and_none _ _ (other_byte c 108 low (omega arith)))
    (and_none _ _ (other_byte c 99 low (omega arith))) (and_none _ _ (other_byte c 105 low (omega arith)))

pub no_option : (text : List ℕ) → IsPlain text → is_add_option text ≡ false
no_option text (inl is) = ap is_add_option is
no_option [] (inr (inl h)) = absurd (omega (arith, h.0.0))
no_option (c ∷ more) (inr (inl h)) = first_byte c more (omega (arith, digit_from_value c h.0.1.0))
no_option text (inr (inr (digits, is, h))) = ap is_add_option is ∙ first_byte 45 digits (omega arith)

-- ---- the words of pairs
abbrev pub pair_words : List Pair → List (List ℕ)
pair_words ps = flat_map (λ p. score_text p.0 ∷ p.1 ∷ []) ps

pub length-pair_words : (ps : List Pair) → length (pair_words ps) ≡ 2 * length ps
length-pair_words [] = refl
length-pair_words (p ∷ ps) = omega (arith, length-pair_words ps)

values : ((score : ℤ) → IsScore score → score_value (score_text score) ≡ Some score) → (ps : List Pair) → AllByRecursion (λ p. IsScore p.0) ps → pairs_value (pair_words ps) ≡ Some ps
unfolding pairs_value
values read_back [] each = refl
values read_back (p ∷ ps) each = rw (read_back p.0 each.0, values read_back ps each.1) refl

whole_pairs : (n k : ℕ) → n ≡ 2 * (k + 1) → (not (n == 0) && n % 2 == 0) ≡ true
whole_pairs n k is = both (n == 0) (n % 2 == 0) (grind (arith, nat_tests)) (ap (λ m. m % 2 == 0) is ∙ ap (λ m. m == 0) (mul-mod_right 2 (k + 1)))
  where
    both : (a b : Bool) → a ≡ false → b ≡ true → (not a && b) ≡ true
    both a b ea eb = rw (ea, eb) refl

zadd : command_named (codes "ZADD") ≡ Some Add
unfolding command_named
zadd = refl

module _ (read_back : (score : ℤ) → IsScore score → score_value (score_text score) ≡ Some score) (is_plain : (score : ℤ) → IsScore score → IsPlain (score_text score))
    (key : List ℕ) (p : Pair) (ps : List Pair) (each : AllByRecursion (λ p. IsScore p.0) (p ∷ ps)) where
  options : add_options (add_record key (p ∷ ps)) ≡ []
  unfolding add_options
  options = ap (λ b. take (cond b (1 + prefix_len is_add_option (p.1 ∷ pair_words ps)) 0) (pair_words (p ∷ ps))) (no_option (score_text p.0) (is_plain p.0 each.0))

  pairs_are : add_pairs (add_record key (p ∷ ps)) ≡ pair_words (p ∷ ps)
  unfolding add_pairs
  pairs_are = ap (λ (o : List (List ℕ)). drop (length o) (pair_words (p ∷ ps))) options

  value : pairs_value (add_pairs (add_record key (p ∷ ps))) ≡ Some (p ∷ ps)
  value = ap pairs_value pairs_are ∙ values read_back (p ∷ ps) each

  even : are_pairs (add_pairs (add_record key (p ∷ ps))) ≡ true
  even = ap are_pairs pairs_are ∙ whole_pairs (length (pair_words (p ∷ ps))) (length ps) (omega (arith, length-pair_words (p ∷ ps)))

  enough : nat_le 4 (length (add_record key (p ∷ ps))) ≡ true
  enough = le-leb 4 (length (add_record key (p ∷ ps))) (omega arith)

  unrefused : first_of (conditions (add_record key (p ∷ ps))) ≡ None
  unrefused = ap (λ n. first_of (named_conditions n (add_record key (p ∷ ps)))) zadd ∙ rw (enough, even, value, options) refl

  meant : meaning (add_record key (p ∷ ps)) ≡ Some (meanings.Changes key (meanings.Add plain false (p ∷ ps)))
  unfolding meaning
  meant = rw (zadd, value, options) refl

  pub asked_add : asked (add_record key (p ∷ ps)) ≡ Ok (meanings.Changes key (meanings.Add plain false (p ∷ ps)))
  asked_add = asked-ok (add_record key (p ∷ ps)) (meanings.Changes key (meanings.Add plain false (p ∷ ps))) unrefused meant
