use Rattle.std.proofs.Common.{◌≡◌, ◌≢◌, ℕ, ℤ, pos, true, false, ◌+◌, ◌-◌, ◌<◌, ◌≤◌, ◌<ℤ◌, ◌≤ℤ◌, List, [], ◌∷◌, ◌++◌, length, get_or, take, inl, inr, ◌∙◌, ap, arith, IsPermutation, cond, eqb, Contains}
use Rattle.std.proofs.lemmas.Bool.Decides.{nat_tests}
use Rattle.std.specs.List.{SwappedAt, swap}
use Rattle.std.proofs.lemmas.List.Edits.{length-swap}
use Rattle.std.proofs.lemmas.Bool.{cases_eq, cases_lt}
use Rattle.std.proofs.lemmas.Int.{ints}
use Rattle.std.proofs.lemmas.List.{get_or_default, get_or_past, get_or-take}
use Rattle.std.proofs.lemmas.List.Sorted.{IsPermutation-trans, IsPermutation-refl, IsPermutation-swap}
use Rattle.std.proofs.lemmas.Grind.{common_steps}
use Rattle.crack_kernel.specs.PivotList.{IsRising, RisesPast, shifted}
use Rattle.crack_kernel.proofs.PivotOrder.{IsRising-le, length-shifted, get_or-shifted_below, get_or-shifted_from}
use Rattle.column_rows.specs.MergeGap.{AllParted}
use Rattle.column_rows.specs.StandsWithin.{StandsWithin}

-- v parts the rows other than the one at the hole, at the place q
abbrev pub PartedBut : ℤ → ℕ → ℕ → List (ℤ × List ℕ) → Type 0
PartedBut v q hole xs = (j : ℕ) (d : ℤ × List ℕ) → j < length xs → j ≢ hole → (j < q → (get_or xs j d).0 <ℤ v) × (q ≤ j → v ≤ℤ (get_or xs j d).0)

-- the row at a moves to the old hole, and a is the new hole
pub PartedBut-moved : (v : ℤ) (q q' a h : ℕ) (xs ys : List (ℤ × List ℕ)) → SwappedAt xs ys a h → length ys ≡ length xs → a < length xs
    → PartedBut v q h xs
    → ((j : ℕ) → j ≢ a → j ≢ h → (j < q' → j < q) × (q' ≤ j → q ≤ j))
    → (a ≢ h → (h < q' → a < q) × (q' ≤ h → q ≤ a))
    → PartedBut v q' a ys
PartedBut-moved v q q' a h xs ys s len in' p others moves j d l na =
    elim (cases_eq j h) [
      | inl e ↦
          let n : a ≢ h = λ w. na (omega arith) in
          let m = moves n in
          let at = p a d in' n in
          rw (e, s.1 d) ((λ b. at.0 (m.0 b)), (λ f. at.1 (m.1 f)))
      | inr nh ↦
          let m = others j na nh in
          let at = p j d (omega arith) nh in
          rw (s.2 j d na nh) ((λ b. at.0 (m.0 b)), (λ f. at.1 (m.1 f)))
    ]

-- the places of pivots that part n rows
pub record Places (ps : List (ℤ × ℕ)) (n : ℕ) : Type 0 where
  pub rise : (k l : ℕ) (e : ℤ × ℕ) → k ≤ l → l < length ps → (get_or ps k e).1 ≤ (get_or ps l e).1
  pub within : (k : ℕ) (e : ℤ × ℕ) → k < length ps → (get_or ps k e).1 ≤ n

pub Places-from_law : (ps : List (ℤ × ℕ)) (rows : List (ℤ × List ℕ)) → IsRising ps → AllParted ps rows → Places ps (length rows)
Places-from_law ps rows r law = record {
  rise = λ k l e le lt.
      elim (cases_lt (get_or ps l e).1 (get_or ps k e).1) [
        | inl under ↦
            let q : ℕ = (get_or ps l e).1 in
            let in_k = law k e (omega arith) in
            let in_l = law l e lt in
            let k_in : (get_or ps k e).1 ≤ length rows = in_k.within in
            let x : ℤ × List ℕ = get_or rows q (pos 0, []) in
            let low : x.0 <ℤ (get_or ps k e).0 = in_k.before q (pos 0, []) (omega arith) under in
            let high : (get_or ps l e).0 ≤ℤ x.0 = in_l.behind q (pos 0, []) (omega arith) (omega arith) in
            let up : (get_or ps k e).0 ≤ℤ (get_or ps l e).0 = IsRising-le ps k l e r le lt in
            absurd (omega (arith, ints))
        | inr fine ↦ fine
      ];
  within = λ k e lt. (law k e lt).within;
}

-- the place of pivot i, or the end where there is none
pub bound_from : (ps : List (ℤ × ℕ)) (n k i : ℕ) (e : ℤ × ℕ) → Places ps n → k ≤ i → k < length ps → (get_or ps k e).1 ≤ (get_or ps i (pos 0, n)).1
bound_from ps n k i e o le lt =
    elim (cases_lt i (length ps)) [
      | inl in' ↦ let d : get_or ps i (pos 0, n) ≡ get_or ps i e = get_or_default ps i (pos 0, n) e in' in rw d (o.rise k i e le in')
      | inr past ↦ let d : get_or ps i (pos 0, n) ≡ (pos 0, n) = get_or_past ps i (pos 0, n) past in rw d (o.within k e lt)
    ]

pub bound_upto : (ps : List (ℤ × ℕ)) (n i k : ℕ) (e : ℤ × ℕ) → Places ps n → i ≤ k → k < length ps → (get_or ps i (pos 0, n)).1 ≤ (get_or ps k e).1
bound_upto ps n i k e o le lt =
    let in' : i < length ps = omega arith in
    let d : get_or ps i (pos 0, n) ≡ get_or ps i e = get_or_default ps i (pos 0, n) e in' in
    rw d (o.rise i k e le lt)

pub bound_within : (ps : List (ℤ × ℕ)) (n i : ℕ) → Places ps n → (get_or ps i (pos 0, n)).1 ≤ n
bound_within ps n i o =
    elim (cases_lt i (length ps)) [
      | inl in' ↦ o.within i (pos 0, n) in'
      | inr past ↦ let d : get_or ps i (pos 0, n) ≡ (pos 0, n) = get_or_past ps i (pos 0, n) past in rw d (omega arith)
    ]

-- an insertion on the way: the new row stands at the hole, and the pivots from i on stand one higher
pub record Inserting (ps : List (ℤ × ℕ)) (n i hole : ℕ) (row : ℤ × List ℕ) (start xs : List (ℤ × List ℕ)) : Type 0 where
  pub places : Places ps n
  pub long : length xs ≡ n + 1
  pub moves : IsPermutation start xs
  pub upto : i ≤ length ps
  pub here : (d : ℤ × List ℕ) → get_or xs hole d ≡ row
  pub at : hole ≡ (get_or ps i (pos 0, n)).1
  pub before : (k : ℕ) (e : ℤ × ℕ) → k < i → PartedBut (get_or ps k e).0 (get_or ps k e).1 hole xs
  pub behind : (k : ℕ) (e : ℤ × ℕ) → i ≤ k → k < length ps → PartedBut (get_or ps k e).0 ((get_or ps k e).1 + 1) hole xs

pub Inserting-start : (ps : List (ℤ × ℕ)) (rows : List (ℤ × List ℕ)) (row : ℤ × List ℕ) → IsRising ps → AllParted ps rows
    → Inserting ps (length rows) (length ps) (length rows) row (rows ++ row ∷ []) (rows ++ row ∷ [])
Inserting-start ps rows row r law = record {
  places = Places-from_law ps rows r law;
  long = grind (arith, common_steps);
  moves = IsPermutation-refl _;
  upto = omega arith;
  here = λ d. grind (arith, common_steps);
  at = grind (arith, common_steps);
  before = λ k e lt j d jl nh.
      let long : length (rows ++ row ∷ []) ≡ length rows + 1 = grind (arith, common_steps) in
      let in_rows : j < length rows = omega arith in
      let same : get_or (rows ++ row ∷ []) j d ≡ get_or rows j d = grind (arith, common_steps) in
      rw same ((λ b. (law k e lt).before j d (omega arith) b), (λ f. (law k e lt).behind j d f in_rows));
  behind = λ k e le lt. absurd (omega arith);
}

pub Inserting-step : (ps : List (ℤ × ℕ)) (n i hole : ℕ) (e : ℤ × ℕ) (row : ℤ × List ℕ) (start xs ys : List (ℤ × List ℕ))
    → Inserting ps n (i + 1) hole row start xs → SwappedAt xs ys (get_or ps i e).1 hole → ys ≡ swap xs (get_or ps i e).1 hole
    → Inserting ps n i (get_or ps i e).1 row start ys
Inserting-step ps n i hole e row start xs ys s w is =
    let place : ℕ = (get_or ps i e).1 in
    let o = s.places in
    let in' : i < length ps = omega arith in
    let at_i : get_or ps i e ≡ get_or ps i (pos 0, n) = get_or_default ps i e (pos 0, n) in' in
    let low : (get_or ps i e).1 ≤ (get_or ps (i + 1) (pos 0, n)).1 = bound_from ps n i (i + 1) e o (omega arith) in' in
    let here' : (get_or ps i e).1 ≤ n = o.within i e in' in
    let a_in : (get_or ps i e).1 < length xs = omega (arith, s.long) in
    let at_hole : hole ≡ (get_or ps (i + 1) (pos 0, n)).1 = s.at in
    let top : (get_or ps (i + 1) (pos 0, n)).1 ≤ n = bound_within ps n (i + 1) o in
    let len : length ys ≡ length xs = ap length is ∙ length-swap xs (get_or ps i e).1 hole in
    let p : IsPermutation xs ys = IsPermutation-swap xs ys (get_or ps i e).1 hole a_in (omega (arith, s.long)) is in
    record {
      places = o;
      long = len ∙ s.long;
      moves = IsPermutation-trans _ _ _ s.moves p;
      upto = omega arith;
      here = λ d. w.0 d ∙ s.here d;
      at = ap (λ (q : ℤ × ℕ). q.1) at_i;
      before = λ k e' lt.
          let q_low : (get_or ps k e').1 ≤ (get_or ps i (pos 0, n)).1 = bound_from ps n k i e' o (omega arith) (omega arith) in
          let q_here : (get_or ps k e').1 ≤ (get_or ps i e).1 = rw at_i q_low in
          PartedBut-moved _ _ _ _ _ xs ys w len a_in (s.before k e' (omega arith))
          (λ j na nh. ((λ b. b), (λ f. f))) (λ ne. ((λ b. absurd (omega arith)), (λ f. q_here)));
      behind = λ k e' le lt.
          elim (cases_lt i k) [
            | inl past ↦
                let q_up : (get_or ps (i + 1) (pos 0, n)).1 ≤ (get_or ps k e').1 = bound_upto ps n (i + 1) k e' o (omega arith) lt in
                PartedBut-moved _ _ _ _ _ xs ys w len a_in (s.behind k e' (omega arith) lt)
                (λ j na nh. ((λ b. b), (λ f. f))) (λ ne. ((λ b. omega arith), (λ f. absurd (omega arith))))
            | inr upto ↦
                let same : k ≡ i = omega arith in
                let q_is : (get_or ps k e').1 ≡ (get_or ps i e).1 = ap (λ (m : ℕ). (get_or ps m e').1) same ∙ ap (λ (q : ℤ × ℕ). q.1) (get_or_default ps i e' e in') in
                PartedBut-moved _ _ _ _ _ xs ys w len a_in (s.before k e' (omega arith))
                (λ j na nh. ((λ b. omega arith), (λ f. omega arith))) (λ ne. ((λ b. absurd (omega arith)), (λ f. omega arith)))
          ];
    }

pub Inserting-end : (ps : List (ℤ × ℕ)) (n i hole : ℕ) (row : ℤ × List ℕ) (start xs : List (ℤ × List ℕ))
    → Inserting ps n i hole row start xs → RisesPast row.0 ps i → AllParted (shifted i true ps) xs
Inserting-end ps n i hole row start xs s r k e lt' =
    let len : length (shifted i true ps) ≡ length ps = length-shifted i true ps in
    let lt : k < length ps = omega arith in
    let o = s.places in
    let long : length xs ≡ n + 1 = s.long in
    let fits : (get_or ps k e).1 ≤ n = o.within k e lt in
    let at : hole ≡ (get_or ps i (pos 0, n)).1 = s.at in
    elim (cases_lt k i) [
      | inl below ↦
          let q_low : (get_or ps k e).1 ≤ (get_or ps i (pos 0, n)).1 = bound_from ps n k i e o (omega arith) lt in
          rw (get_or-shifted_below i true ps k e s.upto below) (record {
            within = omega arith;
            before = λ j d l h. (s.before k e below j d (omega arith) (λ w. absurd (omega arith))).0 h;
            behind = λ j d l h.
                elim (cases_eq j hole) [
                  | inl w ↦ let here : get_or xs hole d ≡ row = s.here d in rw (w, here) (r.upto k e (omega arith) below)
                  | inr nw ↦ (s.before k e below j d h nw).1 l
                ];
          })
      | inr above ↦
          let q_up : (get_or ps i (pos 0, n)).1 ≤ (get_or ps k e).1 = bound_upto ps n i k e o above lt in
          rw (get_or-shifted_from i true ps k e above lt) (record {
            within = omega arith;
            before = λ j d l h.
                elim (cases_eq j hole) [
                  | inl w ↦ let here : get_or xs hole d ≡ row = s.here d in rw (w, here) (r.above k e above lt)
                  | inr nw ↦ (s.behind k e above lt j d (omega arith) nw).0 h
                ];
            behind = λ j d l h. (s.behind k e above lt j d h (λ w. absurd (omega arith))).1 l;
          })
    ]

-- a deletion on the way: the row that goes stands at the hole, and the pivots from first on and below i stand one lower
pub record Removing (ps : List (ℤ × ℕ)) (n first i hole : ℕ) (row : ℤ × List ℕ) (start xs : List (ℤ × List ℕ)) : Type 0 where
  pub places : Places ps n
  pub long : length xs ≡ n
  pub moves : IsPermutation start xs
  pub from : first ≤ i
  pub upto : i ≤ length ps
  pub here : (d : ℤ × List ℕ) → get_or xs hole d ≡ row
  pub at : hole + 1 ≡ (get_or ps i (pos 0, n)).1
  pub room : (k : ℕ) (e : ℤ × ℕ) → k < first → (get_or ps k e).1 ≤ hole
  pub low : (k : ℕ) (e : ℤ × ℕ) → first ≤ k → k < length ps → 0 < (get_or ps k e).1
  pub before : (k : ℕ) (e : ℤ × ℕ) → k < first → PartedBut (get_or ps k e).0 (get_or ps k e).1 hole xs
  pub passed : (k : ℕ) (e : ℤ × ℕ) → first ≤ k → k < i → PartedBut (get_or ps k e).0 ((get_or ps k e).1 - 1) hole xs
  pub behind : (k : ℕ) (e : ℤ × ℕ) → i ≤ k → k < length ps → PartedBut (get_or ps k e).0 (get_or ps k e).1 hole xs

-- the row at `at` goes to the end of its piece
pub Removing-start : (ps : List (ℤ × ℕ)) (first at last : ℕ) (row : ℤ × List ℕ) (rows xs : List (ℤ × List ℕ))
    → Places ps (length rows) → AllParted ps rows → first ≤ length ps
    → ((k : ℕ) (e : ℤ × ℕ) → k < first → (get_or ps k e).1 ≤ at) → at ≤ last → last + 1 ≡ (get_or ps first (pos 0, length rows)).1
    → ((d : ℤ × List ℕ) → get_or rows at d ≡ row) → SwappedAt rows xs last at → xs ≡ swap rows last at
    → Removing ps (length rows) first first last row rows xs
Removing-start ps first at last row rows xs o law fit room le end here w is =
    let n : ℕ = length rows in
    let top : (get_or ps first (pos 0, length rows)).1 ≤ length rows = bound_within ps (length rows) first o in
    let in' : last < length rows = omega arith in
    let at_in : at < length rows = omega arith in
    let len : length xs ≡ length rows = ap length is ∙ length-swap rows last at in
    let p : IsPermutation rows xs = IsPermutation-swap rows xs last at in' at_in is in
    record {
      places = o;
      long = len;
      moves = p;
      from = omega arith;
      upto = fit;
      here = λ d. w.0 d ∙ here d;
      at = end;
      room = λ k e lt. let h : (get_or ps k e).1 ≤ at = room k e lt in omega arith;
      low = λ k e l lt. let h : (get_or ps first (pos 0, length rows)).1 ≤ (get_or ps k e).1 = bound_upto ps (length rows) first k e o l lt in omega arith;
      before = λ k e lt.
          let h : (get_or ps k e).1 ≤ at = room k e lt in
          PartedBut-moved _ _ _ _ _ rows xs w len in' (λ j d jl nh. ((λ b. (law k e (omega arith)).before j d (omega arith) b), (λ f. (law k e (omega arith)).behind j d f jl)))
          (λ j na nh. ((λ b. b), (λ f. f))) (λ ne. ((λ b. absurd (omega arith)), (λ f. omega arith)));
      passed = λ k e l lt. absurd (omega arith);
      behind = λ k e l lt.
          let h : (get_or ps first (pos 0, length rows)).1 ≤ (get_or ps k e).1 = bound_upto ps (length rows) first k e o l lt in
          PartedBut-moved _ _ _ _ _ rows xs w len in' (λ j d jl nh. ((λ b. (law k e lt).before j d (omega arith) b), (λ f. (law k e lt).behind j d f jl)))
          (λ j na nh. ((λ b. b), (λ f. f))) (λ ne. ((λ b. omega arith), (λ f. absurd (omega arith))));
    }

pub Removing-step : (ps : List (ℤ × ℕ)) (n first i hole last : ℕ) (row : ℤ × List ℕ) (start xs ys : List (ℤ × List ℕ))
    → Removing ps n first i hole row start xs → i < length ps → last + 1 ≡ (get_or ps (i + 1) (pos 0, n)).1
    → SwappedAt xs ys last hole → ys ≡ swap xs last hole
    → Removing ps n first (i + 1) last row start ys
Removing-step ps n first i hole last row start xs ys s lt end w is =
    let o = s.places in
    let at : hole + 1 ≡ (get_or ps i (pos 0, n)).1 = s.at in
    let same_i : (e : ℤ × ℕ) → get_or ps i e ≡ get_or ps i (pos 0, n) = λ e. get_or_default ps i e (pos 0, n) lt in
    let up : (get_or ps i (pos 0, n)).1 ≤ (get_or ps (i + 1) (pos 0, n)).1 = bound_from ps n i (i + 1) (pos 0, n) o (omega arith) lt in
    let top : (get_or ps (i + 1) (pos 0, n)).1 ≤ n = bound_within ps n (i + 1) o in
    let in' : last < length xs = omega (arith, s.long) in
    let hole_in : hole < length xs = omega (arith, s.long) in
    let len : length ys ≡ length xs = ap length is ∙ length-swap xs last hole in
    let from : first ≤ i = s.from in
    record {
      places = o;
      long = len ∙ s.long;
      moves = IsPermutation-trans _ _ _ s.moves (IsPermutation-swap xs ys last hole in' hole_in is);
      from = omega arith;
      upto = omega arith;
      here = λ d. w.0 d ∙ s.here d;
      at = end;
      room = λ k e l. let h : (get_or ps k e).1 ≤ hole = s.room k e l in omega arith;
      low = s.low;
      before = λ k e l.
          let h : (get_or ps k e).1 ≤ hole = s.room k e l in
          PartedBut-moved _ _ _ _ _ xs ys w len in' (s.before k e l)
          (λ j na nh. ((λ b. b), (λ f. f))) (λ ne. ((λ b. absurd (omega arith)), (λ f. omega arith)));
      passed = λ k e l u.
          elim (cases_lt k i) [
            | inl under ↦
                let q_low : (get_or ps k e).1 ≤ (get_or ps i (pos 0, n)).1 = bound_from ps n k i e o (omega arith) (omega arith) in
                PartedBut-moved _ _ _ _ _ xs ys w len in' (s.passed k e l under)
                (λ j na nh. ((λ b. b), (λ f. f))) (λ ne. ((λ b. absurd (omega arith)), (λ f. omega arith)))
            | inr over ↦
                let same : k ≡ i = omega arith in
                let q_is : (get_or ps k e).1 ≡ (get_or ps i (pos 0, n)).1 = ap (λ (m : ℕ). (get_or ps m e).1) same ∙ ap (λ (q : ℤ × ℕ). q.1) (same_i e) in
                PartedBut-moved _ _ _ _ _ xs ys w len in' (s.behind k e over (omega arith))
                (λ j na nh. ((λ b. omega arith), (λ f. omega arith))) (λ ne. ((λ b. absurd (omega arith)), (λ f. omega arith)))
          ];
      behind = λ k e l u.
          let q_up : (get_or ps (i + 1) (pos 0, n)).1 ≤ (get_or ps k e).1 = bound_upto ps n (i + 1) k e o l u in
          PartedBut-moved _ _ _ _ _ xs ys w len in' (s.behind k e (omega arith) u)
          (λ j na nh. ((λ b. b), (λ f. f))) (λ ne. ((λ b. omega arith), (λ f. absurd (omega arith))));
    }

pub Removing-end : (ps : List (ℤ × ℕ)) (n first hole : ℕ) (row : ℤ × List ℕ) (start xs : List (ℤ × List ℕ))
    → Removing ps n first (length ps) hole row start xs → AllParted (shifted first false ps) (take (length xs - 1) xs)
Removing-end ps n first hole row start xs s k e lt' =
    let len : length (shifted first false ps) ≡ length ps = length-shifted first false ps in
    let lt : k < length ps = omega arith in
    let o = s.places in
    let long : length xs ≡ n = s.long in
    let past : get_or ps (length ps) (pos 0, n) ≡ (pos 0, n) = get_or_past ps (length ps) (pos 0, n) (omega arith) in
    let end : hole + 1 ≡ n = s.at ∙ ap (λ (q : ℤ × ℕ). q.1) past in
    let short : length (take (length xs - 1) xs) ≡ n - 1 = grind (arith, common_steps) in
    let fits : (get_or ps k e).1 ≤ n = o.within k e lt in
    let same : (j : ℕ) (d : ℤ × List ℕ) → j < n - 1 → get_or (take (length xs - 1) xs) j d ≡ get_or xs j d = λ j d h. get_or-take (length xs - 1) xs j d (omega arith) in
    elim (cases_lt k first) [
      | inl below ↦
          let h : (get_or ps k e).1 ≤ hole = s.room k e below in
          rw (get_or-shifted_below first false ps k e (omega (arith, s.from, s.upto)) below) (record {
            within = omega arith;
            before = λ j d l u. rw (same j d (omega arith)) ((s.before k e below j d (omega arith) (λ w. absurd (omega arith))).0 u);
            behind = λ j d l u. rw (same j d (omega arith)) ((s.before k e below j d (omega arith) (λ w. absurd (omega arith))).1 l);
          })
      | inr above ↦
          let some : 0 < (get_or ps k e).1 = s.low k e above lt in
          rw (get_or-shifted_from first false ps k e above lt) (record {
            within = omega arith;
            before = λ j d l u. rw (same j d (omega arith)) ((s.passed k e above lt j d (omega arith) (λ w. absurd (omega arith))).0 u);
            behind = λ j d l u. rw (same j d (omega arith)) ((s.passed k e above lt j d (omega arith) (λ w. absurd (omega arith))).1 l);
          })
    ]

-- a row of the column stands in the piece of its score
pub StandsWithin-piece : (ps : List (ℤ × ℕ)) (first start : ℕ) (row : ℤ × List ℕ) (rows : List (ℤ × List ℕ)) → AllParted ps rows → RisesPast row.0 ps first
    → Contains rows row → start ≡ cond (eqb first 0) 0 (get_or ps (first - 1) (pos 0, 0)).1 → StandsWithin row rows start (get_or ps first (pos 0, length rows)).1
StandsWithin-piece ps first start row rows law past (k, in', is) from =
    let at : (d : ℤ × List ℕ) → get_or rows k d ≡ row = λ d. get_or_default rows k d row in' ∙ is in
    let fits : first ≤ length ps = past.within in (
      k,
      elim (cases_eq first 0) [
        | inl none ↦ let s : start ≡ 0 = from ∙ ap (λ (m : ℕ). cond (eqb m 0) 0 (get_or ps (m - 1) (pos 0, 0)).1) none in omega arith
        | inr some ↦
            let s : start ≡ (get_or ps (first - 1) (pos 0, 0)).1 = grind (arith, nat_tests) in
            let f : ℕ = first - 1 in
            let up : (get_or ps (first - 1) (pos 0, 0)).0 ≤ℤ row.0 = past.upto (first - 1) (pos 0, 0) (omega arith) (omega arith) in
            elim (cases_lt k start) [
              | inl under ↦
                  let low : (get_or rows k row).0 <ℤ (get_or ps (first - 1) (pos 0, 0)).0 = (law (first - 1) (pos 0, 0) (omega arith)).before k row (omega arith) (omega arith) in
                  let low' : row.0 <ℤ (get_or ps (first - 1) (pos 0, 0)).0 = rw is at low in
                  absurd (omega (arith, ints))
              | inr fine ↦ fine
            ]
      ],
      elim (cases_lt first (length ps)) [
        | inl has ↦
            elim (cases_lt k (get_or ps first (pos 0, length rows)).1) [
              | inl fine ↦ fine
              | inr over ↦
                  let high : (get_or ps first (pos 0, length rows)).0 ≤ℤ (get_or rows k row).0 = (law first (pos 0, length rows) has).behind k row over in' in
                  let high' : (get_or ps first (pos 0, length rows)).0 ≤ℤ row.0 = rw is at high in
                  let up : row.0 <ℤ (get_or ps first (pos 0, length rows)).0 = past.above first (pos 0, length rows) (omega arith) has in
                  absurd (omega (arith, ints))
            ]
        | inr none ↦ let e : get_or ps first (pos 0, length rows) ≡ (pos 0, length rows) = get_or_past ps first (pos 0, length rows) none in rw e in'
      ],
      at,
    )

-- the pivots below stand at the start of the piece at most
pub start_from : (ps : List (ℤ × ℕ)) (n first start : ℕ) → Places ps n → first ≤ length ps → start ≡ cond (eqb first 0) 0 (get_or ps (first - 1) (pos 0, 0)).1
    → (k : ℕ) (e : ℤ × ℕ) → k < first → (get_or ps k e).1 ≤ start
start_from ps n first start o fits from k e lt =
    let some : first ≢ 0 = λ w. absurd (omega arith) in
    let s : start ≡ (get_or ps (first - 1) (pos 0, 0)).1 = grind (arith, nat_tests) in
    let same : (get_or ps (first - 1) (pos 0, 0)).1 ≡ (get_or ps (first - 1) e).1 = ap (λ (q : ℤ × ℕ). q.1) (get_or_default ps (first - 1) (pos 0, 0) e (omega arith)) in
    let h : (get_or ps k e).1 ≤ (get_or ps (first - 1) e).1 = o.rise k (first - 1) e (omega arith) (omega arith) in
    omega arith
