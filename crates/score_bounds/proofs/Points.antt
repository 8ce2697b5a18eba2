-- What `memchr` says of the first point of a text, in the words of `score_value`.
use Rattle.std.proofs.Common.{◌≡◌, ℕ, ◌+◌, ◌-◌, ◌<◌, ◌≤◌, length-drop, true, false, cond, List, length, take, drop, get_or, refl, ap, ◌∙◌, Some, None, arith}
use Rattle.std.specs.List.{list_any, position_or_len}
use Rattle.std.proofs.lemmas.Bool.{false_from_ne_true}
use Rattle.std.proofs.lemmas.List.{get_or_default, take_all}
use Rattle.std.proofs.lemmas.List.Folds.{list_any_none, list_any_at}
use Rattle.std.proofs.lemmas.List.Sums.{position_or_len_is}
use Rattle.memchr.specs.Find.{IsFirstByte, is_byte}
use Rattle.score_bounds.specs.ScoreTexts.{is_point, is_zeros, integer_value, score_value}

fails_before : (text : List ℕ) (end : ℕ) → ((k : ℕ) → 0 ≤ k → k < end → is_point (get_or text k 0) ≡ true → ⊥) → (k : ℕ) → k < end → is_point (get_or text k 0) ≡ false
fails_before text end nowhere k below = false_from_ne_true _ (nowhere k (omega arith) below)

pub score_value-no_point : (text : List ℕ) → IsFirstByte (is_byte 46) text None → score_value text ≡ integer_value text
unfolding score_value
score_value-no_point text nowhere =
    let fails : (k : ℕ) → k < length text → is_point (get_or text k 0) ≡ false = fails_before text (length text) nowhere in
    let none : list_any is_point text ≡ false = list_any_none is_point text (λ k d below. ap is_point (get_or_default text k d 0 below) ∙ fails k below) in
    let end : position_or_len is_point text ≡ length text = position_or_len_is is_point text (length text) 0 (omega arith) fails (λ below. absurd (omega (arith, below))) in
    rw (none, end, take_all (length text) text (omega arith)) refl

pub score_value-point : (text : List ℕ) (place : ℕ) → IsFirstByte (is_byte 46) text (Some place) → score_value text ≡ cond (is_zeros (drop (place + 1) text)) (integer_value (take place text)) None
unfolding score_value
score_value-point text place first =
    let found : list_any is_point text ≡ true = list_any_at is_point text place 0 first.0.high first.1 in
    let here : position_or_len is_point text ≡ place = position_or_len_is is_point text place 0 (omega (arith, first.0.high)) (fails_before text place first.0.before) (λ _. first.1) in
    rw (found, here) refl

-- a slice to the end is what a `drop` leaves
pub rest_whole : (text : List ℕ) (place : ℕ) → take (length text - place) (drop place text) ≡ drop place text
rest_whole text place = take_all _ _ (omega (arith, length-drop place text))
