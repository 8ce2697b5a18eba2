-- Walks over the pairs of ZADD.
use Rattle.std.proofs.Common.{◌≡◌, ℕ, ◌+◌, ◌*◌, ◌<◌, ◌≤◌, ℤ, pos, Bool, true, false, List, [], ◌∷◌, length, drop, get_or, zero, suc, refl, sym, ap, ◌∙◌, arith, add_assoc, add-one, drop-cons}
use Rattle.std.specs.FinMap as fin
use Rattle.zset_commands.specs.MeaningOfForm.{scored}
use Rattle.zset_core.specs.SortedSet.{Members, Pair}
use Rattle.zset_core.specs.Semantics.{outcome_of, counted, put_one, put_all, count_all}
use Rattle.zset_commands.specs.declared.flags.Flags.{Flags}
use Rattle.zset_core.specs.declared.pair_outcome.Outcome.{Outcome}
use Rattle.zset_core.specs.declared.pair_outcome.Outcome.TheVariants.{Stopped, Added, Changed, Same}

get_or-any : {X : Type 0} (xs : List X) (i : ℕ) (a b : X) → i < length xs → get_or xs i a ≡ get_or xs i b
get_or-any [] i a b h = absurd (omega arith)
get_or-any (x ∷ xs) zero a b h = refl
get_or-any (x ∷ xs) (suc i) a b h = get_or-any xs i a b (omega arith)

from_place : (ws : List (List ℕ)) (i : ℕ) → 2 * i + 1 < length ws → drop (2 * i) ws ≡ get_or ws (2 * i) [] ∷ (get_or ws (2 * i + 1) [] ∷ drop (2 * (i + 1)) ws)
from_place ws i lt =
    let after : suc (2 * i + 1) ≡ 2 * (i + 1) = omega arith in
    drop-cons ws (2 * i) [] (omega arith) ∙ ap (λ l. get_or ws (2 * i) [] ∷ l) (ap (λ n. drop n ws) (sym (add-one (2 * i))) ∙ drop-cons ws (2 * i + 1) [] lt ∙ ap (λ n. get_or ws (2 * i + 1) [] ∷ drop n ws) after)

-- the pairs from one on are that one and those from the next on
pub pairs_step : (ss : List ℤ) (ws : List (List ℕ)) (i : ℕ) (z : ℤ) (m r : List ℕ) → i < length ss → length ws ≡ 2 * length ss → z ≡ get_or ss i (pos 0) → m ≡ r → r ≡ get_or ws (2 * i + 1) r
    → scored (drop i ss) (drop (2 * i) ws) ≡ (z, m) ∷ scored (drop (i + 1) ss) (drop (2 * (i + 1)) ws)
pairs_step ss ws i z m r lt even score seen member =
    ap (λ l. scored l (drop (2 * i) ws)) (drop-cons ss i (pos 0) lt)
    ∙ ap (scored (get_or ss i (pos 0) ∷ drop (suc i) ss)) (from_place ws i (omega arith))
    ∙ ap (λ n. (get_or ss i (pos 0), n) ∷ scored (drop (suc i) ss) (drop (2 * (i + 1)) ws)) (get_or-any ws (2 * i + 1) [] r (omega arith) ∙ sym member ∙ sym seen)
    ∙ ap (λ y. (y, m) ∷ scored (drop (suc i) ss) (drop (2 * (i + 1)) ws)) (sym score)
    ∙ ap (λ j. (z, m) ∷ scored (drop j ss) (drop (2 * (i + 1)) ws)) (sym (add-one i))

pub put_step : (f : Flags) (old new : Members) (z : ℤ) (m : List ℕ) (ps rest : List Pair) (end : Members) → ps ≡ (z, m) ∷ rest → new ≡ put_one f old m z → put_all f old ps ≡ end → put_all f new rest ≡ end
put_step f old new z m ps rest end is after done = ap (λ s. put_all f s rest) after ∙ sym (ap (put_all f old) is) ∙ done

pub count_step : (f : Flags) (ch : Bool) (old new : Members) (z : ℤ) (m : List ℕ) (ps rest : List Pair) (c n end : ℕ) → ps ≡ (z, m) ∷ rest → new ≡ put_one f old m z → n ≡ counted ch (outcome_of f (fin.get old m) z)
    → c + count_all f ch old ps ≡ end → (c + n) + count_all f ch new rest ≡ end
count_step f ch old new z m ps rest c n end is after one done =
    ap (λ s. (c + n) + count_all f ch s rest) after ∙ ap (λ k. (c + k) + count_all f ch (put_one f old m z) rest) one
    ∙ add_assoc c (counted ch (outcome_of f (fin.get old m) z)) (count_all f ch (put_one f old m z) rest)
    ∙ sym (ap (λ l. c + count_all f ch old l) is) ∙ done

-- a pair counts at most one
pub counted_one : (ch : Bool) (o : Outcome) → counted ch o ≤ 1
counted_one ch Stopped = omega arith
counted_one ch Added = omega arith
counted_one true Changed = omega arith
counted_one false Changed = omega arith
counted_one ch Same = omega arith

-- no more pairs are counted than there are
pub count_all-few : (f : Flags) (ch : Bool) (m : Members) (ps : List Pair) → count_all f ch m ps ≤ length ps
count_all-few f ch m [] = omega arith
count_all-few f ch m (p ∷ ps) = omega (arith, counted_one ch (outcome_of f (fin.get m p.1) p.0), count_all-few f ch (put_one f m p.1 p.0) ps)

pub length_scored : (ss : List ℤ) (ws : List (List ℕ)) → length (scored ss ws) ≤ length ss
length_scored [] ws = omega arith
length_scored (s ∷ ss) [] = omega arith
length_scored (s ∷ ss) (t ∷ []) = omega arith
length_scored (s ∷ ss) (t ∷ m ∷ ws) = omega (arith, length_scored ss ws)
