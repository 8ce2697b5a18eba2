-- Pieces of pairs.
use Rattle.std.proofs.Common.{◌≡◌, ℕ, zero, suc, ◌+◌, ◌<◌, ◌≤◌, List, [], ◌∷◌, ◌++◌, length, take, drop, map, refl, sym, ◌∙◌, ap, subst, arith, append_assoc, length-drop, min, ◌⊎◌, inl, inr, get_or, Option, Result, Ok, Err}
use Rattle.score_bounds.specs.ScoreTexts.{score_text}
use Rattle.std.proofs.lemmas.List.{append-nil, map-append, take_more, take-append-drop, take_all, append_cancel_left}
use Rattle.std.proofs.lemmas.Grind.{flat_map-append}
use Rattle.std.specs.List.{flat_map}
use Rattle.std.specs.Io.KnownBytes.{append_known}
use Rattle.resp_wire.specs.RequestEncoding.{request}
use Rattle.zset_core.specs.SortedSet.{Pair}
use Rattle.log_records.specs.Records.{Record, text_of_records}
use Rattle.log_records.specs.Dump.{cut_pieces, pieces, add_record, piece_records}
use Rattle.log_records.specs.RewriteOutcome.{SinkFailed, TakesPrefix, Writes}
use Rattle.log_records.specs.declared.dumping.RewriteFault.{RewriteFault}
use Rattle.resp_wire.proofs.CallerLemmas.{append_known-append_known, append_known-nil}

enough : (n m : ℕ) (pairs : List Pair) → length pairs ≤ n → length pairs ≤ m → cut_pieces n pairs ≡ cut_pieces m pairs
enough zero zero pairs a b = refl
enough zero (suc m) [] a b = refl
enough zero (suc m) (p ∷ pairs) a b = absurd (omega (arith, a))
enough (suc n) zero [] a b = refl
enough (suc n) zero (p ∷ pairs) a b = absurd (omega (arith, b))
enough (suc n) (suc m) [] a b = refl
enough (suc n) (suc m) (p ∷ pairs) a b =
    ap (λ (l : List (List Pair)). take 512 (p ∷ pairs) ∷ l) (enough n m (drop 512 (p ∷ pairs)) (omega (arith, a, length-drop 512 (p ∷ pairs))) (omega (arith, b, length-drop 512 (p ∷ pairs))))

pub pieces_step : (pairs : List Pair) → 0 < length pairs → pieces pairs ≡ take 512 pairs ∷ pieces (drop 512 pairs)
pieces_step [] some = absurd (omega (arith, some))
pieces_step (p ∷ pairs) some =
    ap (λ (l : List (List Pair)). take 512 (p ∷ pairs) ∷ l) (enough (length pairs) (length (drop 512 (p ∷ pairs))) (drop 512 (p ∷ pairs)) (omega (arith, length-drop 512 (p ∷ pairs))) (omega arith))

pub text_of_records-append : (a b : List Record) → text_of_records (a ++ b) ≡ text_of_records a ++ text_of_records b
text_of_records-append a b = flat_map-append request a b

-- the front of bytes that come first
pub front_first : (old new : Option (List ℕ)) (bytes behind : List ℕ) → TakesPrefix old new bytes → TakesPrefix old new (bytes ++ behind)
front_first old new bytes behind t = record {
  out = t.out;
  more = t.more ++ behind;
  whole = sym (append_assoc t.out t.more behind) ∙ ap (λ (l : List ℕ). l ++ behind) t.whole;
  told = t.told;
}

-- bytes that come first, and then a front of those behind
pub front_behind : (first old new : Option (List ℕ)) (bytes behind : List ℕ) → old ≡ append_known first bytes → TakesPrefix old new behind → TakesPrefix first new (bytes ++ behind)
front_behind first old new bytes behind was t = record {
  out = bytes ++ t.out;
  more = t.more;
  whole = append_assoc bytes t.out t.more ∙ ap (λ (l : List ℕ). bytes ++ l) t.whole;
  told = t.told ∙ ap (λ (k : Option (List ℕ)). append_known k t.out) was ∙ append_known-append_known first bytes t.out;
}

pub front_all : (first new : Option (List ℕ)) (bytes : List ℕ) → new ≡ append_known first bytes → TakesPrefix first new bytes
front_all first new bytes told = record { out = bytes; more = []; whole = append-nil bytes; told = told }

pub front_none : (first : Option (List ℕ)) (bytes : List ℕ) → TakesPrefix first first bytes
front_none first bytes = record { out = []; more = bytes; whole = refl; told = sym (append_known-nil first) }

-- the words of one pair more
pub words_more : (first : List (List ℕ)) (items new : List (List ℕ)) (pairs : List Pair) (i : ℕ) (pair d : Pair) → i < length pairs → pair ≡ get_or pairs i d
    → items ≡ first ++ flat_map (λ p. score_text p.0 ∷ p.1 ∷ []) (take i pairs) → new ≡ items ++ score_text pair.0 ∷ pair.1 ∷ []
    → new ≡ first ++ flat_map (λ p. score_text p.0 ∷ p.1 ∷ []) (take (i + 1) pairs)
words_more first items new pairs i pair d lt is was now =
    let f : Pair → List (List ℕ) = λ p. score_text p.0 ∷ p.1 ∷ [] in
    now ∙ ap (λ (l : List (List ℕ)). l ++ f pair) was ∙ append_assoc first (flat_map f (take i pairs)) (f pair)
    ∙ ap (λ (l : List (List ℕ)). first ++ l) (
    ap (λ (p : Pair). flat_map f (take i pairs) ++ f p) is
    ∙ ap (λ (l : List (List ℕ)). flat_map f (take i pairs) ++ l) (sym (append-nil (f (get_or pairs i d))))
    ∙ sym (flat_map-append f (take i pairs) (get_or pairs i d ∷ []))
    ∙ ap (flat_map f) (sym (take_more pairs i d lt))
    )

-- what a write of one text took
pub front_taken : (old new : Option (List ℕ)) (bytes : List ℕ) (n : ℕ) → new ≡ append_known old (take n bytes) → TakesPrefix old new bytes
front_taken old new bytes n told = record { out = take n bytes; more = drop n bytes; whole = take-append-drop n bytes; told = told }

-- a write that took all of a text
pub taken_whole : (old new : Option (List ℕ)) (bytes text : List ℕ) (n : ℕ) → new ≡ append_known old (take n bytes) → n ≡ length bytes → bytes ≡ text → new ≡ append_known old text
taken_whole old new bytes text n told all is = told ∙ ap (append_known old) (take_all n bytes (omega (arith, all)) ∙ is)

-- bytes were written, and then others
pub written_behind : {T : Type 0} (result : Result T RewriteFault) (first old new : Option (List ℕ)) (failures₀ failures₁ failures₂ : ℕ) (bytes behind : List ℕ) → old ≡ append_known first bytes → failures₁ ≡ failures₀
    → Writes result old new failures₁ failures₂ behind → Writes result first new failures₀ failures₂ (bytes ++ behind)
written_behind (Ok value) first old new failures₀ failures₁ failures₂ bytes behind was good wrote =
    (wrote.0 ∙ ap (λ (k : Option (List ℕ)). append_known k behind) was ∙ append_known-append_known first bytes behind, wrote.1 ∙ good)
written_behind (Err fault) first old new failures₀ failures₁ failures₂ bytes behind was good wrote =
    (front_behind first old new bytes behind was wrote.0, subst (λ (f : ℕ). SinkFailed fault f failures₂) good wrote.1)

lt_or_le : (a b : ℕ) → (a < b) ⊎ (b ≤ a)
lt_or_le zero zero = inr (omega arith)
lt_or_le zero (suc b) = inl (omega arith)
lt_or_le (suc a) zero = inr (omega arith)
lt_or_le (suc a) (suc b) = elim (lt_or_le a b) [ inl h ↦ inl (omega arith) | inr h ↦ inr (omega arith) ]

-- at most so many from the front
pub take_at_most : (k n : ℕ) (pairs : List Pair) → n ≡ length pairs → take (min k n) pairs ≡ take k pairs
take_at_most k n pairs is =
    elim (lt_or_le k n) [
      | inl lt ↦ ap (λ i. take i pairs) (let e : min k n ≡ k = omega (arith, lt) in e)
      | inr ge ↦ take_all (min k n) pairs (omega (arith, ge, is)) ∙ sym (take_all k pairs (omega (arith, ge, is)))
    ]

pub drop_at_most : (k n : ℕ) (pairs : List Pair) → n ≡ length pairs → drop (min k n) pairs ≡ drop k pairs
drop_at_most k n pairs is =
    append_cancel_left (take k pairs) (drop (min k n) pairs) (drop k pairs)
    (ap (λ (l : List Pair). l ++ drop (min k n) pairs) (sym (take_at_most k n pairs is)) ∙ take-append-drop (min k n) pairs ∙ sym (take-append-drop k pairs))

module _ (key : List ℕ) (rows rest : List Pair) (done : List (List Pair)) (cut : pieces rows ≡ done ++ pieces rest) (some : 0 < length rest) where
  -- one piece more
  pub cut_more : pieces rows ≡ (done ++ take 512 rest ∷ []) ++ pieces (drop 512 rest)
  cut_more = cut ∙ ap (λ (l : List (List Pair)). done ++ l) (pieces_step rest some) ∙ sym (append_assoc done (take 512 rest ∷ []) (pieces (drop 512 rest)))

  texts : text_of_records (map (add_record key) (done ++ take 512 rest ∷ [])) ≡ text_of_records (map (add_record key) done) ++ request (add_record key (take 512 rest))
  texts =
      ap text_of_records (map-append (add_record key) done (take 512 rest ∷ []))
      ∙ text_of_records-append (map (add_record key) done) (add_record key (take 512 rest) ∷ [])
      ∙ ap (λ (l : List ℕ). text_of_records (map (add_record key) done) ++ l) (append-nil (request (add_record key (take 512 rest))))

  pub told_more : (first old new : Option (List ℕ)) → old ≡ append_known first (text_of_records (map (add_record key) done)) → new ≡ append_known old (request (add_record key (take 512 rest)))
      → new ≡ append_known first (text_of_records (map (add_record key) (done ++ take 512 rest ∷ [])))
  told_more first old new was now =
      now ∙ ap (λ (k : Option (List ℕ)). append_known k (request (add_record key (take 512 rest)))) was
      ∙ append_known-append_known first (text_of_records (map (add_record key) done)) (request (add_record key (take 512 rest)))
      ∙ ap (append_known first) (sym texts)

  -- a piece was not written whole
  pub front_of_set : (first old new : Option (List ℕ)) → old ≡ append_known first (text_of_records (map (add_record key) done)) → TakesPrefix old new (request (add_record key (take 512 rest)))
      → TakesPrefix first new (text_of_records (piece_records key rows))
  front_of_set first old new was t =
      let behind = text_of_records (map (add_record key) (pieces (drop 512 rest))) in
      let all : text_of_records (piece_records key rows) ≡ text_of_records (map (add_record key) done) ++ (request (add_record key (take 512 rest)) ++ behind) =
      ap (λ (l : List (List Pair)). text_of_records (map (add_record key) l)) cut_more
      ∙ ap text_of_records (map-append (add_record key) (done ++ take 512 rest ∷ []) (pieces (drop 512 rest)))
      ∙ text_of_records-append (map (add_record key) (done ++ take 512 rest ∷ [])) (map (add_record key) (pieces (drop 512 rest)))
      ∙ ap (λ (l : List ℕ). l ++ behind) texts
      ∙ append_assoc (text_of_records (map (add_record key) done)) (request (add_record key (take 512 rest))) behind in
      subst (λ (l : List ℕ). TakesPrefix first new l) (sym all)
      (front_behind first old new (text_of_records (map (add_record key) done)) (request (add_record key (take 512 rest)) ++ behind) was (front_first old new (request (add_record key (take 512 rest))) behind t))
