-- The records of a world are requests, so that their text is read as they are.
use Rattle.std.proofs.Common.{◌≡◌, refl, ℕ, zero, suc, ◌≤◌, ℤ, pos, negsuc, List, [], ◌∷◌, ◌++◌, length, take, drop, map, Option, None, Some, IfSome, unwrap_or, arith, length-take}
use Rattle.std.specs.Prelude.{codes}
use Rattle.std.specs.List.{All, AllByRecursion}
use Rattle.std.specs.FinMap as fin
use Rattle.std.proofs.lemmas.Fmt.{decimal_digit, length_signed_le}
use Rattle.score_bounds.specs.ScoreTexts.{IsScore, score_text}
use Rattle.resp_wire.specs.RequestEncoding.{request, IsArgument, IsRequest}
use Rattle.sorted_sets.proofs.CallerLemmas.{whole_empty}
use Rattle.zset_core.specs.SortedSet.{Members, Pair, whole}
use Rattle.zset_core.specs.SetsByKey.{World, set_at}
use Rattle.zset_commands.specs.RequestLimits.{IsSpelled}
use Rattle.sorted_sets.specs.WorldWithinRequestLimits.{IsBoundedAt, IsBoundedWorld}
use Rattle.log_records.specs.Replay.{header}
use Rattle.log_records.specs.Dump.{add_record, cut_pieces, set_records, records_at}
use Rattle.log_records.proofs.AddRecord.{pair_words, length-pair_words}
use Rattle.log_records.proofs.RecordTexts.{AreRequests}
use Rattle.log_records.proofs.DumpReplay.{whole_spelled, each_take, each_drop}

pub score_short : (s : ℤ) → IsScore s → IsArgument (score_text s)
unfolding score_text
score_short (pos n) within = omega (arith, length_signed_le 19 (pos n) (omega (arith, within.sfits)) (omega (arith, within.sfits)))
score_short (negsuc n) within = omega (arith, length_signed_le 19 (negsuc n) (omega (arith, within.sfits)) (omega (arith, within.sfits)))

words_short : (ps : List Pair) → AllByRecursion IsSpelled ps → AllByRecursion IsArgument (pair_words ps)
words_short [] each = tt
words_short (p ∷ ps) each = (score_short p.0 each.0.0, (each.0.1, words_short ps each.1))

pub all_of : {X : Type 0} (P : X → Type 0) (xs : List X) → AllByRecursion P xs → All P xs
all_of P [] each k d lt = absurd (omega (arith, lt))
all_of P (x ∷ xs) each zero d lt = each.0
all_of P (x ∷ xs) each (suc k) d lt = all_of P xs each.1 k d (omega (arith, lt))

pub add_request : (key : List ℕ) (ps : List Pair) → IsArgument key → AllByRecursion IsSpelled ps → length ps ≤ 512 → IsRequest (add_record key ps)
add_request key ps word each few = record {
  some = omega arith;
  few = omega (arith, length-pair_words ps, few);
  each = all_of IsArgument (add_record key ps) (omega arith, (word, words_short ps each));
}

pieces_requests : (n : ℕ) (key : List ℕ) (ps : List Pair) → IsArgument key → AllByRecursion IsSpelled ps → AreRequests (map (add_record key) (cut_pieces n ps))
pieces_requests zero key ps word each = tt
pieces_requests (suc n) key [] word each = tt
pieces_requests (suc n) key (p ∷ ps) word each =
    (add_request key (take 512 (p ∷ ps)) word (each_take IsSpelled 512 (p ∷ ps) each) (omega (arith, length-take 512 (p ∷ ps))), pieces_requests n key (drop 512 (p ∷ ps)) word (each_drop IsSpelled 512 (p ∷ ps) each))

each-append : {X : Type 0} (P : X → Type 0) (xs ys : List X) → AllByRecursion P xs → AllByRecursion P ys → AllByRecursion P (xs ++ ys)
each-append P [] ys one two = two
each-append P (x ∷ xs) ys one two = (one.0, each-append P xs ys one.1 two)

set_requests : (world : World) (key : List ℕ) → IsBoundedWorld world → AreRequests (set_records key (set_at world key))
set_requests world key bounded = by (fin.get world key) (bounded key)
  where
    by : (o : Option Members) → IfSome o (IsBoundedAt key) → AreRequests (set_records key (unwrap_or o fin.empty))
    by None h = rw whole_empty tt
    by (Some m) h = pieces_requests (length (whole m)) key (whole m) h.key (whole_spelled m h.members)

pub image_requests : (world : World) (keys : List (List ℕ)) → IsBoundedWorld world → AreRequests (records_at world keys)
image_requests world [] bounded = tt
image_requests world (key ∷ keys) bounded = each-append IsRequest (set_records key (set_at world key)) (records_at world keys) (set_requests world key bounded) (image_requests world keys bounded)

pub header_is : IsRequest header
header_is = record { some = omega arith; few = omega arith; each = all_of IsArgument header (omega arith, (omega arith, tt)) }

-- the bytes of the header
pub header_text : codes "*2" ++ (13 ∷ 10 ∷ (codes "$7" ++ (13 ∷ 10 ∷ (codes "ZCRACKD" ++ (13 ∷ 10 ∷ (codes "$1" ++ (13 ∷ 10 ∷ (codes "2" ++ (13 ∷ 10 ∷ []))))))))) ≡ request header
header_text = rw (decimal_digit 2 (omega arith), decimal_digit 7 (omega arith), decimal_digit 1 (omega arith)) refl
