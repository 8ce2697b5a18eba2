-- What the crack of one piece leaves, and what it makes.
use Rattle.std.proofs.Common.{◌≡◌, ℕ, zero, suc, ℤ, pos, ◌+◌, ◌<◌, ◌≤◌, ◌<ℤ◌, ◌≤ℤ◌, ◌⊎◌, List, ◌∷◌, length, get_or, inl, inr, subst, ap, arith, IsPermutation}
use Rattle.std.specs.List.{All, AllWithin}
use Rattle.std.proofs.lemmas.Bool.{cases_lt}
use Rattle.std.proofs.lemmas.Int.{ints}
use Rattle.std.proofs.lemmas.List.{get_or_default, get_or_past}
use Rattle.std.proofs.lemmas.List.Sorted.{All-permutation, length_permutation}
use Rattle.crack_kernel.specs.PartedRows.{IsBelow, IsFrom, IsParted, ChangesWithin}
use Rattle.crack_kernel.specs.PivotList.{IsRising, ObeysPivots, RisesPast, IsPieceOf, piece_start, piece_end}
use Rattle.crack_kernel.proofs.PartChanges.{ChangesWithin-front, ChangesWithin-back, IsParted-changed}
use Rattle.column_rows.specs.RangeCutsAsPivots.{IsApart}
use Rattle.column_rows.proofs.Hole.{Places, Places-from_law, bound_from, bound_upto, bound_within}

-- what the piece of v is among rows that obey the pivots
pub record IsPiece (v : ℤ) (ps : List (ℤ × ℕ)) (rows : List (ℤ × List ℕ)) (from to : ℕ) : Type 0 where
  pub order : from ≤ to
  pub within : to ≤ length rows
  pub apart : (k : ℕ) (e : ℤ × ℕ) → k < length ps → (((get_or ps k e).0 ≤ℤ v) × ((get_or ps k e).1 ≤ from)) ⊎ ((v <ℤ (get_or ps k e).0) × (to ≤ (get_or ps k e).1))
  pub low : (j : ℕ) (d : ℤ × List ℕ) → j < from → (get_or rows j d).0 <ℤ v
  pub high : (j : ℕ) (d : ℤ × List ℕ) → to ≤ j → j < length rows → v ≤ℤ (get_or rows j d).0

-- where the piece below the pivot of index n begins
start_facts : (v : ℤ) (ps : List (ℤ × ℕ)) (rows : List (ℤ × List ℕ)) (n : ℕ) → ObeysPivots ps rows → Places ps (length rows) → RisesPast v ps n
    → (piece_start ps n ≤ (get_or ps n (pos 0, length rows)).1)
    × ((k : ℕ) (e : ℤ × ℕ) → k < n → (get_or ps k e).1 ≤ piece_start ps n)
    × ((j : ℕ) (d : ℤ × List ℕ) → j < piece_start ps n → (get_or rows j d).0 <ℤ v)
start_facts v ps rows zero law o past = (omega arith, (λ k e h. absurd (omega arith)), (λ j d h. absurd (omega arith)))
start_facts v ps rows (suc m) law o past =
    let within : suc m ≤ length ps = past.within in
    let in' : m < length ps = omega arith in (
      bound_from ps (length rows) m (suc m) (pos 0, 0) o (omega arith) in',
      (λ k e h.
          let up : (get_or ps k e).1 ≤ (get_or ps m e).1 = o.rise k m e (omega arith) in' in
          let same : (get_or ps m e).1 ≡ (get_or ps m (pos 0, 0)).1 = ap (λ (p : ℤ × ℕ). p.1) (get_or_default ps m e (pos 0, 0) in') in
          omega arith),
      (λ j d h.
          let below : (get_or rows j d).0 <ℤ (get_or ps m (pos 0, 0)).0 = (law.parted m (pos 0, 0) in').before j d (omega arith) h in
          let upto : (get_or ps m (pos 0, 0)).0 ≤ℤ v = past.upto m (pos 0, 0) (omega arith) (omega arith) in
          omega (arith, ints)),
    )

pub IsPiece-from : (u v : ℤ) (ps : List (ℤ × ℕ)) (rows : List (ℤ × List ℕ)) (piece : ℕ × ℕ) → u ≡ v → ObeysPivots ps rows → IsPieceOf u ps (length rows) piece → IsPiece v ps rows piece.0 piece.1
IsPiece-from u v ps rows piece same law of =
    let n : ℕ = of.index in
    let past : RisesPast v ps n = rw (← same) of.past in
    let o : Places ps (length rows) = Places-from_law ps rows law.rising law.parted in
    let facts = start_facts v ps rows n law o past in
    let from_is : piece.0 ≡ piece_start ps n = of.start in
    let to_is : piece.1 ≡ (get_or ps n (pos 0, length rows)).1 = of.end in
    record {
      order = rw (from_is, to_is) facts.0;
      within = rw to_is (bound_within ps (length rows) n o);
      apart = λ k e h.
          elim (cases_lt k n) [
            | inl below ↦ inl (past.upto k e (omega arith) below, rw from_is (facts.1 k e below))
            | inr above ↦ inr (past.above k e above h, rw to_is (bound_upto ps (length rows) n k e o above h))
          ];
      low = λ j d h. facts.2 j d (rw from_is at h);
      high = λ j d h lt.
          elim (cases_lt n (length ps)) [
            | inl has ↦
                let from : (get_or ps n (pos 0, length rows)).0 ≤ℤ (get_or rows j d).0 = (law.parted n (pos 0, length rows) has).behind j d (rw to_is at h) lt in
                let above : v <ℤ (get_or ps n (pos 0, length rows)).0 = past.above n (pos 0, length rows) (omega arith) has in
                omega (arith, ints)
            | inr none ↦
                let end : (get_or ps n (pos 0, length rows)).1 ≡ length rows = ap (λ (p : ℤ × ℕ). p.1) (get_or_past ps n (pos 0, length rows) none) in
                absurd (omega arith)
          ];
    }

-- the piece at an index that parts the pivots by a value
pub IsPiece-at : (u v : ℤ) (n : ℕ) (ps : List (ℤ × ℕ)) (rows : List (ℤ × List ℕ)) (rows_len : ℕ) (piece : ℕ × ℕ) → u ≡ v → rows_len ≡ length rows → ObeysPivots ps rows → RisesPast u ps n
    → piece.0 ≡ piece_start ps n → piece.1 ≡ piece_end ps n rows_len → IsPiece v ps rows piece.0 piece.1
IsPiece-at u v n ps rows rows_len piece same long law past start end =
    IsPiece-from u v ps rows piece same law (record {
      index = n;
      past = past;
      start = start;
      end = rw long at end;
    })

-- the rows outside the piece stay
pub still_apart : (v : ℤ) (ps : List (ℤ × ℕ)) (xs ys : List (ℤ × List ℕ)) (from to : ℕ) → IsPiece v ps xs from to → ChangesWithin from to xs ys
    → (k : ℕ) (d : ℤ × List ℕ) → IsApart v ps k → get_or ys k d ≡ get_or xs k d
still_apart v ps xs ys from to piece changes k d (i, p, within, is, side) =
    let value : (get_or ps i p).0 ≡ p.0 = ap (λ (q : ℤ × ℕ). q.0) is in
    let place : (get_or ps i p).1 ≡ p.1 = ap (λ (q : ℤ × ℕ). q.1) is in
    elim side [
      | inl low ↦
          let upto : p.0 ≤ℤ v = low.0 in
          let under : k < p.1 = low.1 in
          elim (piece.apart i p within) [
            | inl a ↦ let place_low : (get_or ps i p).1 ≤ from = a.1 in ChangesWithin-front from to xs ys changes k d (omega arith)
            | inr b ↦ let above : v <ℤ (get_or ps i p).0 = b.0 in let above' : v <ℤ p.0 = rw value at above in absurd (omega (arith, ints))
          ]
      | inr high ↦
          let above : v <ℤ p.0 = high.0 in
          let over : p.1 ≤ k = high.1 in
          elim (piece.apart i p within) [
            | inl a ↦ let upto : (get_or ps i p).0 ≤ℤ v = a.0 in let upto' : p.0 ≤ℤ v = rw value at upto in absurd (omega (arith, ints))
            | inr b ↦ let place_high : to ≤ (get_or ps i p).1 = b.1 in ChangesWithin-back from to xs ys changes k d (omega arith)
          ]
    ]

-- what lies outside the piece of a value lies outside that of each value with the same piece, where this has rows
pub IsApart-alike : (v w : ℤ) (ps : List (ℤ × ℕ)) (rows : List (ℤ × List ℕ)) (from to : ℕ) → from < to → IsPiece v ps rows from to → IsPiece w ps rows from to
    → (k : ℕ) → IsApart v ps k → IsApart w ps k
IsApart-alike v w ps rows from to some of_v of_w k (i, p, within, is, side) =
    let value : (get_or ps i p).0 ≡ p.0 = ap (λ (q : ℤ × ℕ). q.0) is in
    elim (of_v.apart i p within) [
      | inl low ↦
          elim (of_w.apart i p within) [
            | inl low' ↦
                elim side [
                  | inl s ↦ (i, p, within, is, inl (rw value at low'.0, s.1))
                  | inr s ↦ let upto : p.0 ≤ℤ v = rw value at low.0 in let above : v <ℤ p.0 = s.0 in absurd (omega (arith, ints))
                ]
            | inr high' ↦ let a : (get_or ps i p).1 ≤ from = low.1 in let b : to ≤ (get_or ps i p).1 = high'.1 in absurd (omega arith)
          ]
      | inr high ↦
          elim (of_w.apart i p within) [
            | inl low' ↦ let a : (get_or ps i p).1 ≤ from = low'.1 in let b : to ≤ (get_or ps i p).1 = high.1 in absurd (omega arith)
            | inr high' ↦
                elim side [
                  | inl s ↦ let above : v <ℤ p.0 = rw value at high.0 in let upto : p.0 ≤ℤ v = s.0 in absurd (omega (arith, ints))
                  | inr s ↦ (i, p, within, is, inr (rw value at high'.0, s.1))
                ]
          ]
    ]

All-cons : {X : Type 0} (P : X → Type 0) (x : X) (xs : List X) → P x → All P xs → All P (x ∷ xs)
All-cons P x xs here there zero d h = here
All-cons P x xs here there (suc k) d h = there k d (omega arith)

-- the law for the old pivots and the new one
pub ObeysPivots-cracked : (v t : ℤ) (ps qs : List (ℤ × ℕ)) (xs ys : List (ℤ × List ℕ)) (from to place : ℕ) → t ≡ v → ObeysPivots ps xs → IsPiece v ps xs from to
    → ChangesWithin from to xs ys → length ys ≡ length xs → from ≤ place → place ≤ to → AllWithin (IsBelow t) ys from place → AllWithin (IsFrom t) ys place to
    → IsPermutation ((v, place) ∷ ps) qs → IsRising qs → length ps < 4096 → ObeysPivots qs ys
ObeysPivots-cracked v t ps qs xs ys from to place same law piece changes len low high before behind moved rising few =
    let fits : to ≤ length xs = piece.within in
    let order : from ≤ to = piece.order in
    let new : IsParted (IsBelow v) (IsFrom v) ys place =
    record {
      within = omega arith;
      before = λ j d l h.
          elim (cases_lt j from) [
            | inl a ↦ rw (ChangesWithin-front from to xs ys changes j d a) (piece.low j d a)
            | inr b ↦ subst (λ (w : ℤ). (get_or ys j d).0 <ℤ w) same (before j d b h)
          ];
      behind = λ j d l h.
          elim (cases_lt j to) [
            | inl a ↦ subst (λ (w : ℤ). w ≤ℤ (get_or ys j d).0) same (behind j d l a)
            | inr b ↦ rw (ChangesWithin-back from to xs ys changes j d b) (piece.high j d b (omega arith))
          ];
    } in
    let old : All (λ (p : ℤ × ℕ). IsParted (IsBelow p.0) (IsFrom p.0) ys p.1) ps =
    λ k e h.
    IsParted-changed (IsBelow (get_or ps k e).0) (IsFrom (get_or ps k e).0) (get_or ps k e).1 from to xs ys (law.parted k e h) changes order fits len
    (elim (piece.apart k e h) [ inl a ↦ inl a.1 | inr b ↦ inr b.1 ]) in
    let long : length qs ≡ length ps + 1 = omega (arith, length_permutation ((v, place) ∷ ps) qs moved) in
    record {
      parted = All-permutation (λ (p : ℤ × ℕ). IsParted (IsBelow p.0) (IsFrom p.0) ys p.1) ((v, place) ∷ ps) qs moved (All-cons (λ (p : ℤ × ℕ). IsParted (IsBelow p.0) (IsFrom p.0) ys p.1) (v, place) ps new old);
      rising = rising;
      few = omega arith;
    }
