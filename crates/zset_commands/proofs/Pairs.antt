-- The options and the pairs of ZADD.
use Rattle.std.proofs.Common.{◌≡◌, ℕ, suc, ◌+◌, ◌*◌, ◌%◌, ◌<◌, ◌≤◌, List, [], ◌∷◌, ◌++◌, length, take, drop, refl, sym, ap, ◌∙◌, Option, Some, None, ℤ, arith, length-drop, length-append}
use Rattle.std.specs.Prelude.{option_map}
use Rattle.std.specs.List.{take_while, prefix_len}
use Rattle.std.proofs.lemmas.List.{take-append-drop, append-nil, drop-drop}
use Rattle.std.proofs.Math.Seq.{take-append_seam}
use Rattle.score_bounds.specs.ScoreTexts.{score_value}
use Rattle.zset_commands.specs.MeaningOfForm.{word_at, scored}
use Rattle.zset_commands.specs.CommandGrammar.{is_add_option, add_options, add_pairs, pairs_value}
use Rattle.zset_commands.specs.ReadingMatchesGrammar.{AreScores}

taken_again : (words : List (List ℕ)) (count : ℕ) → take (length (take count words)) words ≡ take count words
taken_again words count =
    ap (take (length (take count words))) (sym (take-append-drop count words)) ∙ take-append_seam (take count words) (drop count words)

-- the options, and the pairs behind them, by how many options there are
pub add_options-counted : (words rest front : List (List ℕ)) (count : ℕ) → rest ≡ drop 2 words → count ≡ length (take_while is_add_option rest) → front ≡ take count rest → front ≡ add_options words
unfolding add_options
add_options-counted words rest front count behind counted taken =
    taken ∙ ap (λ n. take n rest) counted ∙ taken_again rest (prefix_len is_add_option rest) ∙ ap (take_while is_add_option) behind

pub add_pairs-counted : (words rest back : List (List ℕ)) (count : ℕ) → rest ≡ drop 2 words → count ≡ length (take_while is_add_option rest) → back ≡ drop count rest → back ≡ add_pairs words
unfolding add_options add_pairs
add_pairs-counted words rest back count behind counted dropped =
    dropped ∙ ap (λ n. drop n rest) counted ∙ ap (λ r. drop (length (take_while is_add_option r)) r) behind

-- one pair more is read
appended : (front more : List (ℤ × List ℕ)) (pair : ℤ × List ℕ) → (front ++ pair ∷ []) ++ more ≡ front ++ pair ∷ more
appended [] more pair = refl
appended (p ∷ front) more pair = ap (λ ps. p ∷ ps) (appended front more pair)

short : (pairs : List (List ℕ)) (text member : List ℕ) (more : List (List ℕ)) (count : ℕ) → length pairs ≤ count → drop count pairs ≡ text ∷ member ∷ more → ⊥
short pairs text member more count few rest = omega (arith, ap length rest, length-drop count pairs)

scored-more : (scores : List ℤ) (score : ℤ) (pairs : List (List ℕ)) (text member : List ℕ) (more : List (List ℕ))
    → drop (2 * length scores) pairs ≡ text ∷ member ∷ more → scored (scores ++ score ∷ []) pairs ≡ scored scores pairs ++ (score, member) ∷ []
scored-more [] score pairs text member more rest = let here : pairs ≡ text ∷ member ∷ more = rest in rw here refl
scored-more (s ∷ scores) score [] text member more rest = absurd (short [] text member more (2 * length (s ∷ scores)) (omega arith) rest)
scored-more (s ∷ scores) score (a ∷ []) text member more rest =
    absurd (short (a ∷ []) text member more (2 * length (s ∷ scores)) (omega arith) rest)
scored-more (s ∷ scores) score (a ∷ b ∷ pairs) text member more rest =
    let twice : 2 * length (s ∷ scores) ≡ suc (suc (2 * length scores)) = omega arith in
    ap (λ ps. (s, b) ∷ ps) (scored-more scores score pairs text member more (rw twice at rest))

value_more : (text member : List ℕ) (more : List (List ℕ)) (score : ℤ) (front : List (ℤ × List ℕ)) → score_value text ≡ Some score
    → option_map (λ ps. front ++ ps) (pairs_value (text ∷ member ∷ more)) ≡ option_map (λ ps. (front ++ (score, member) ∷ []) ++ ps) (pairs_value more)
unfolding pairs_value
value_more text member more score front read = rw read (over (pairs_value more))
  where
    over : (others : Option (List (ℤ × List ℕ))) → option_map (λ ps. front ++ ps) (option_map (λ ps. (score, member) ∷ ps) others) ≡ option_map (λ ps. (front ++ (score, member) ∷ []) ++ ps) others
    over None = refl
    over (Some ps) = ap Some (sym (appended front ps (score, member)))

pub pairs_step : (pairs words rest : List (List ℕ)) (scores scores' : List ℤ) (score : ℤ) → 2 ≤ length words → score_value (word_at words 0) ≡ Some score
    → scores' ≡ scores ++ score ∷ [] → rest ≡ drop 2 words → drop (2 * length scores) pairs ≡ words
    → pairs_value pairs ≡ option_map (λ more. scored scores pairs ++ more) (pairs_value words)
    → pairs_value pairs ≡ option_map (λ more. scored scores' pairs ++ more) (pairs_value rest)
pairs_step pairs [] rest scores scores' score some read pushed behind here known = absurd (omega (arith, some))
pairs_step pairs (text ∷ []) rest scores scores' score some read pushed behind here known = absurd (omega (arith, some))
pairs_step pairs (text ∷ member ∷ more) rest scores scores' score some read pushed behind here known =
    rw (pushed, behind, scored-more scores score pairs text member more here) (known ∙ value_more text member more score (scored scores pairs) read)

pub drop_step : (pairs words rest : List (List ℕ)) (scores scores' : List ℤ) (score : ℤ) → scores' ≡ scores ++ score ∷ [] → rest ≡ drop 2 words → drop (2 * length scores) pairs ≡ words
    → drop (2 * length scores') pairs ≡ rest
drop_step pairs words rest scores scores' score pushed behind here =
    let twice : 2 * length scores' ≡ 2 * length scores + 2 = rw pushed (omega (arith, length-append scores (score ∷ []))) in
    ap (λ n. drop n pairs) twice ∙ sym (drop-drop 2 (2 * length scores) pairs) ∙ ap (drop 2) here ∙ sym behind

-- a word that is no score
pub no_score : (pairs words : List (List ℕ)) (scores : List ℤ) → 2 ≤ length words → score_value (word_at words 0) ≡ None
    → pairs_value pairs ≡ option_map (λ more. scored scores pairs ++ more) (pairs_value words) → pairs_value pairs ≡ None
unfolding pairs_value
no_score pairs [] scores some read known = absurd (omega (arith, some))
no_score pairs (text ∷ []) scores some read known = absurd (omega (arith, some))
no_score pairs (text ∷ member ∷ more) scores some read known = known ∙ rw read refl

-- the end of the pairs
pub AreScores-end : (pairs words : List (List ℕ)) (scores : List ℤ) → length words ≡ 0 → 2 * length scores + length words ≡ length pairs
    → pairs_value pairs ≡ option_map (λ more. scored scores pairs ++ more) (pairs_value words) → AreScores pairs scores
unfolding pairs_value
AreScores-end pairs [] scores empty all known = record { value = known ∙ ap Some (append-nil (scored scores pairs)); all = omega (arith, all) }
AreScores-end pairs (word ∷ words) scores empty all known = absurd (omega (arith, empty))

-- an even number of words is left: two, where there is one
pub two_left : (pairs words : List (List ℕ)) (scores : List ℤ) → length pairs % 2 ≡ 0 → 2 * length scores + length words ≡ length pairs → 0 < length words → 2 ≤ length words
two_left pairs words scores even all some = omega arith

pub length_step : (pairs words rest : List (List ℕ)) (scores scores' : List ℤ) (score : ℤ) → 2 ≤ length words → scores' ≡ scores ++ score ∷ [] → rest ≡ drop 2 words
    → 2 * length scores + length words ≡ length pairs → 2 * length scores' + length rest ≡ length pairs
length_step pairs words rest scores scores' score some pushed behind all =
    rw (pushed, behind) (omega (arith, length-append scores (score ∷ []), length-drop 2 words))
