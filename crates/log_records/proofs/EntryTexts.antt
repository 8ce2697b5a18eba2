-- The arguments that tell of an effect, one entry after another, and their bytes.
use Rattle.std.proofs.Common.{◌≡◌, ℕ, zero, suc, ◌+◌, ◌≤◌, ℤ, List, [], ◌∷◌, ◌++◌, length, take, slice_get, Option, None, Some, refl, sym, ap, subst, ◌∙◌, arith, append_assoc, append-nil, length-append}
use Rattle.std.specs.Prelude.{Result, Ok, Err, OnOk}
use Rattle.std.specs.Fmt.{signed_decimal}
use Rattle.std.specs.List.{AllByRecursion, flat_map}
use Rattle.resp_wire.specs.RequestEncoding.{argument}
use Rattle.score_bounds.specs.ScoreTexts.{score_text}
use Rattle.log_records.specs.EffectRecords.{EffectEntry, HasScore, entry_words, effect_words, words_behind}

-- one entry more
take_to : (es : List EffectEntry) (i n : ℕ) (e : EffectEntry) → n ≡ i + 1 → slice_get es i ≡ Some e → take n es ≡ take i es ++ e ∷ []
take_to es i zero e one at = absurd (omega (arith, one))
take_to [] i (suc n) e one at = absurd (let no : None ≡ Some e = at in cc)
take_to (x ∷ es) zero (suc n) e one at =
    let none : n ≡ 0 = omega (arith, one) in
    let is : x ≡ e = cc in
    ap (λ (k : ℕ). x ∷ take k es) none ∙ ap (λ (y : EffectEntry). y ∷ []) is
take_to (x ∷ es) (suc i) (suc n) e one at = ap (λ (l : List EffectEntry). x ∷ l) (take_to es i n e (omega (arith, one)) at)

take_entry : (es : List EffectEntry) (i : ℕ) (e : EffectEntry) → slice_get es i ≡ Some e → take (i + 1) es ≡ take i es ++ e ∷ []
take_entry es i e at = take_to es i (i + 1) e refl at

pub words-push : (es : List EffectEntry) (e : EffectEntry) → effect_words (es ++ e ∷ []) ≡ effect_words es ++ entry_words e
words-push [] e = append-nil (entry_words e)
words-push (x ∷ es) e = ap (λ (l : List (List ℕ)). entry_words x ++ l) (words-push es e) ∙ sym (append_assoc (entry_words x) (effect_words es) (entry_words e))

pub words_more : (es : List EffectEntry) (i : ℕ) (name : List ℕ) (score : Option ℤ) → slice_get es i ≡ Some (name, score) → effect_words (take (i + 1) es) ≡ effect_words (take i es) ++ words_behind name score
words_more es i name score at = ap effect_words (take_entry es i (name, score) at) ∙ words-push (take i es) (name, score)

pub count_more : (es : List EffectEntry) (i : ℕ) (name : List ℕ) (score : Option ℤ) → slice_get es i ≡ Some (name, score) → length (effect_words (take (i + 1) es)) ≡ length (effect_words (take i es)) + length (words_behind name score)
count_more es i name score at = ap (λ (l : List (List ℕ)). length l) (words_more es i name score at) ∙ length-append (effect_words (take i es)) (words_behind name score)

scored-push : (es : List EffectEntry) (e : EffectEntry) → AllByRecursion HasScore es → HasScore e → AllByRecursion HasScore (es ++ e ∷ [])
scored-push [] e h last = (last, tt)
scored-push (x ∷ es) e h last = (h.0, scored-push es e h.1 last)

pub scored_more : (es : List EffectEntry) (i : ℕ) (e : EffectEntry) → slice_get es i ≡ Some e → AllByRecursion HasScore (take i es) → HasScore e → AllByRecursion HasScore (take (i + 1) es)
scored_more es i e at h last = subst (AllByRecursion HasScore) (sym (take_entry es i e at)) (scored-push (take i es) e h last)

-- the first entries have no more arguments than all
pub few_front : (es : List EffectEntry) (i : ℕ) → length (effect_words (take i es)) ≤ length (effect_words es)
few_front es zero = omega arith
few_front [] (suc i) = omega arith
few_front (e ∷ es) (suc i) = omega (arith, few_front es i, length-append (entry_words e) (effect_words (take i es)), length-append (entry_words e) (effect_words es))

-- ---- their bytes
pub arguments-append : (a b : List (List ℕ)) → flat_map argument (a ++ b) ≡ flat_map argument a ++ flat_map argument b
arguments-append [] b = refl
arguments-append (x ∷ a) b = ap (λ (l : List ℕ). argument x ++ l) (arguments-append a b) ∙ sym (append_assoc (argument x) (flat_map argument a) (flat_map argument b))

text_of_score : (score : ℤ) → score_text score ≡ signed_decimal score
unfolding score_text
text_of_score score = refl

-- where a call succeeds
pub on_ok : {X E : Type 0} (r : Result X E) (A B : Type 0) → (A → B) → OnOk r A → OnOk r B
on_ok (Ok x) A B f a = f a
on_ok (Err e) A B f a = tt

-- the bytes of one entry more
pub bytes_more : (out was now : List ℕ) (es : List EffectEntry) (i : ℕ) (name : List ℕ) (score : Option ℤ) → slice_get es i ≡ Some (name, score) → was ≡ out ++ flat_map argument (effect_words (take i es))
    → now ≡ was ++ flat_map argument (words_behind name score) → now ≡ out ++ flat_map argument (effect_words (take (i + 1) es))
bytes_more out was now es i name score at before one =
    one ∙ ap (λ (l : List ℕ). l ++ flat_map argument (words_behind name score)) before ∙ append_assoc out (flat_map argument (effect_words (take i es))) (flat_map argument (words_behind name score))
    ∙ ap (λ (l : List ℕ). out ++ l) (sym (ap (flat_map argument) (words_more es i name score at) ∙ arguments-append (effect_words (take i es)) (words_behind name score)))

-- the bytes of a score and of a name behind it
pub bytes_scored : (out was now name : List ℕ) (score given : ℤ) → given ≡ score → was ≡ out ++ argument (signed_decimal given) → now ≡ was ++ argument name → now ≡ out ++ flat_map argument (words_behind name (Some score))
bytes_scored out was now name score given same first second =
    second ∙ ap (λ (l : List ℕ). l ++ argument name) first ∙ append_assoc out (argument (signed_decimal given)) (argument name)
    ∙ ap (λ (z : ℤ). out ++ (argument (signed_decimal z) ++ argument name)) same
    ∙ ap (λ (l : List ℕ). out ++ (argument l ++ argument name)) (sym (text_of_score score))
    ∙ ap (λ (l : List ℕ). out ++ (argument (score_text score) ++ l)) (sym (append-nil (argument name)))
