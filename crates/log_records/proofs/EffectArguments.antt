-- The arguments that tell of an effect: that they are those of a request, and how it is read.
use Rattle.std.proofs.Common.{◌≡◌, ℕ, suc, ◌+◌, ◌*◌, ◌≤◌, ℤ, nat_le, Bool, true, false, cond, not, ◌||◌, List, [], ◌∷◌, filter, length, Option, None, Some, Ok, is_some, IfSome, refl, sym, ap, ◌∙◌, arith, true≢false}
use Rattle.std.specs.Prelude.{codes}
use Rattle.std.specs.List.{AllByRecursion}
use Rattle.std.specs.Str.{bytes_eq}
use Rattle.std.specs.Cmp.Lexicographic.{nat_list_eq_equiv}
use Rattle.std.specs.FinMap as fin
use Rattle.std.proofs.lemmas.Bool.{le-leb}
use Rattle.resp_wire.specs.RequestEncoding.{IsArgument, IsRequest, most_arguments}
use Rattle.score_bounds.specs.ScoreTexts.{IsScore, score_text}
use Rattle.zset_core.specs.SortedSet.{Members}
use Rattle.zset_commands.specs.AbstractCommand.{Meaning}
use Rattle.zset_commands.specs.AbstractCommand as meanings
use Rattle.sorted_sets.specs.MovedMembers.{differs, once, moved_names}
use Rattle.zset_commands.specs.CommandGrammar.{command_named, named_conditions, conditions, first_of, meaning, asked}
use Rattle.zset_commands.specs.declared.name.CommandName.TheVariants.{Remove}
use Rattle.zset_commands.proofs.CallerLemmas.{asked-ok}
use Rattle.sorted_sets.proofs.Outlines.{has}
use Rattle.log_records.specs.EffectRecords.{HasScore, effect_words}
use Rattle.log_records.proofs.AddRecord.{pair_words}
use Rattle.log_records.proofs.DumpRequests.{all_of, score_short}
use Rattle.log_records.proofs.EffectReplay.{pairs_of, scores_in}

-- ---- names
each_kept : (P : List ℕ → Type 0) (t : List ℕ → Bool) (names : List (List ℕ)) → AllByRecursion P names → AllByRecursion P (filter t names)
each_kept P t [] h = tt
each_kept P t (n ∷ names) h = by (t n) (each_kept P t names h.1)
  where
    by : (b : Bool) → AllByRecursion P (filter t names) → AllByRecursion P (cond b (n ∷ filter t names) (filter t names))
    by true rest = (h.0, rest)
    by false rest = rest

few_kept : (t : List ℕ → Bool) (names : List (List ℕ)) → length (filter t names) ≤ length names
few_kept t [] = omega arith
few_kept t (n ∷ names) = by (t n) (few_kept t names)
  where
    by : (b : Bool) → length (filter t names) ≤ length names → length (cond b (n ∷ filter t names) (filter t names)) ≤ suc (length names)
    by true rest = omega (arith, rest)
    by false rest = omega (arith, rest)

each_once : (P : List ℕ → Type 0) (names : List (List ℕ)) → AllByRecursion P names → AllByRecursion P (once names)
each_once P [] h = tt
each_once P (n ∷ names) h = (h.0, each_kept P (λ other. not (bytes_eq other n)) (once names) (each_once P names h.1))

few_once : (names : List (List ℕ)) → length (once names) ≤ length names
few_once [] = omega arith
few_once (n ∷ names) = omega (arith, few_kept (λ other. not (bytes_eq other n)) (once names), few_once names)

pub each_moved : (P : List ℕ → Type 0) (old new : Members) (names : List (List ℕ)) → AllByRecursion P names → AllByRecursion P (moved_names old new names)
each_moved P old new names h = each_once P (filter (differs old new) names) (each_kept P (differs old new) names h)

pub few_moved : (old new : Members) (names : List (List ℕ)) → length (moved_names old new names) ≤ length names
few_moved old new names = omega (arith, few_once (filter (differs old new) names), few_kept (differs old new) names)

-- ---- the arguments of each entry
-- where each has a score they are those of pairs
pub words_of_pairs : (new : Members) (names : List (List ℕ)) → ((q : List ℕ) → has names q ≡ true → is_some (fin.get new q) ≡ true) → effect_words (scores_in new names) ≡ pair_words (pairs_of (scores_in new names))
words_of_pairs new [] all = refl
words_of_pairs new (n ∷ names) all = by (fin.get new n) (all n (ap (λ (b : Bool). b || has names n) (nat_list_eq_equiv.refl n))) (words_of_pairs new names (λ q there. all q (behind (bytes_eq q n) (has names q) there)))
  where
    behind : (a b : Bool) → b ≡ true → (a || b) ≡ true
    behind true b h = refl
    behind false b h = h

    by : (o : Option ℤ) → is_some o ≡ true → effect_words (scores_in new names) ≡ pair_words (pairs_of (scores_in new names))
        → effect_words ((n, o) ∷ scores_in new names) ≡ pair_words (pairs_of ((n, o) ∷ scores_in new names))
    by None there rest = absurd (true≢false (sym there))
    by (Some score) there rest = ap (λ (l : List (List ℕ)). score_text score ∷ (n ∷ l)) rest

-- where none has one they are the names
pub words_of_names : (new : Members) (names : List (List ℕ)) → ((q : List ℕ) → has names q ≡ true → fin.get new q ≡ None) → effect_words (scores_in new names) ≡ names
words_of_names new [] all = refl
words_of_names new (n ∷ names) all = by (fin.get new n) (all n (ap (λ (b : Bool). b || has names n) (nat_list_eq_equiv.refl n))) (words_of_names new names (λ q there. all q (behind (bytes_eq q n) (has names q) there)))
  where
    behind : (a b : Bool) → b ≡ true → (a || b) ≡ true
    behind true b h = refl
    behind false b h = h

    by : (o : Option ℤ) → o ≡ None → effect_words (scores_in new names) ≡ names → effect_words ((n, o) ∷ scores_in new names) ≡ n ∷ names
    by None is rest = ap (λ (l : List (List ℕ)). n ∷ l) rest
    by (Some score) is rest = absurd (let no : Some score ≡ None = is in cc)

-- at most two for each name
pub few_words : (new : Members) (names : List (List ℕ)) → length (effect_words (scores_in new names)) ≤ 2 * length names
few_words new [] = omega arith
few_words new (n ∷ names) = by (fin.get new n) (few_words new names)
  where
    by : (o : Option ℤ) → length (effect_words (scores_in new names)) ≤ 2 * length names → length (effect_words ((n, o) ∷ scores_in new names)) ≤ 2 * suc (length names)
    by None rest = omega (arith, rest)
    by (Some score) rest = omega (arith, rest)

pub each_word : (new : Members) (names : List (List ℕ)) → AllByRecursion IsArgument names → AllByRecursion HasScore (scores_in new names) → AllByRecursion IsArgument (effect_words (scores_in new names))
each_word new [] short scored = tt
each_word new (n ∷ names) short scored = by (fin.get new n) scored.0 (each_word new names short.1 scored.1)
  where
    by : (o : Option ℤ) → IfSome o IsScore → AllByRecursion IsArgument (effect_words (scores_in new names)) → AllByRecursion IsArgument (effect_words ((n, o) ∷ scores_in new names))
    by None is rest = (short.0, rest)
    by (Some score) is rest = (score_short score is, (short.0, rest))

-- a request with a name, a key and these
pub effect_request : (name key : List ℕ) (words : List (List ℕ)) → IsArgument name → IsArgument key → AllByRecursion IsArgument words → 2 + length words ≤ most_arguments → IsRequest (name ∷ (key ∷ words))
effect_request name key words one two each few = record {
  some = omega arith;
  few = omega (arith, few);
  each = all_of IsArgument (name ∷ (key ∷ words)) (one, (two, each));
}

-- ---- how ZREM is read
zrem : command_named (codes "ZREM") ≡ Some Remove
unfolding command_named
zrem = refl

module _ (key name : List ℕ) (names : List (List ℕ)) where
  enough : nat_le 3 (length (codes "ZREM" ∷ (key ∷ (name ∷ names)))) ≡ true
  enough = le-leb 3 (length (codes "ZREM" ∷ (key ∷ (name ∷ names)))) (omega arith)

  unrefused : first_of (conditions (codes "ZREM" ∷ (key ∷ (name ∷ names)))) ≡ None
  unrefused = ap (λ n. first_of (named_conditions n (codes "ZREM" ∷ (key ∷ (name ∷ names))))) zrem ∙ rw enough refl

  meant : meaning (codes "ZREM" ∷ (key ∷ (name ∷ names))) ≡ Some (meanings.Changes key (meanings.Remove (name ∷ names)))
  unfolding meaning
  meant = rw zrem refl

  pub asked_remove : asked (codes "ZREM" ∷ (key ∷ (name ∷ names))) ≡ Ok (meanings.Changes key (meanings.Remove (name ∷ names)))
  asked_remove = asked-ok (codes "ZREM" ∷ (key ∷ (name ∷ names))) (meanings.Changes key (meanings.Remove (name ∷ names))) unrefused meant
