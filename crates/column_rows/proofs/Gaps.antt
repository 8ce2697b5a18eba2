-- How a gap of blank rows moves over the pieces of a column.
use Rattle.std.proofs.Common.{◌≡◌, ◌≢◌, ℕ, zero, suc, ℤ, pos, ◌+◌, ◌-◌, ◌<◌, ◌≤◌, ◌<ℤ◌, ◌≤ℤ◌, ◌⊎◌, List, [], ◌∷◌, ◌++◌, map, length, get_or, set, take, replicate, inl, inr, sym, ◌∙◌, subst, refl, ap, arith, length-append, cond, eqb}
use Rattle.std.specs.List.{SwappedAt}
use Rattle.std.proofs.lemmas.Bool.{cases_eq, cases_lt}
use Rattle.std.proofs.lemmas.List.{get_or_default, get_or-take, get_or-set_same, get_or-set_other, length-replicate, length-set, length-map, get_or-map, get_or_append_left, get_or-append_right, get_or-replicate}
use Rattle.std.proofs.lemmas.Grind.{common_steps}
use Rattle.std.proofs.lemmas.Int.{ints}
use Rattle.crack_kernel.specs.PivotList.{IsRising, ObeysPivots, RisesPast}
use Rattle.crack_kernel.proofs.PivotOrder.{IsRising-same_values, IsRising-le}
use Rattle.column_rows.specs.RangeCutsAsPivots.{values}
use Rattle.column_rows.proofs.Hole.{Places, Places-from_law, bound_from, bound_upto, bound_within, start_from}
use Rattle.std.proofs.lemmas.Bool.Decides.{nat_tests}
use Rattle.column_rows.specs.MergeGap.{ChangedPlaces, blank, PartsOutside, HasGap, StandFrom, AllParted}

-- the rows from b on and below e passed the gap from a on and below b; no pivot stands in between
PartsOutside-passed_down : (v : ℤ) (q a b e : ℕ) (xs ys : List (ℤ × List ℕ)) → a ≤ b → b ≤ e → e ≤ length xs → length ys ≡ length xs → (q ≤ a) ⊎ (e ≤ q)
    → ChangedPlaces xs ys a b e → PartsOutside v q a b xs → PartsOutside v q (a + (e - b)) e ys
PartsOutside-passed_down v q a b e xs ys o1 o2 fit len apart x p j d l out =
    elim (cases_lt j a) [
      | inl under ↦ rw (x.others j d (λ h. absurd (omega arith))) (p j d (omega arith) (λ h. absurd (omega arith)))
      | inr from ↦ elim (cases_lt j (a + (e - b))) [
        | inl here ↦
            let s = x.front j d from here in
            let at = p s.0 d (omega (arith, s.2)) (λ h. s.1) in
            elim apart [
              | inl low ↦ rw (← s.3) ((λ h. absurd (omega arith)), (λ h. at.1 (omega (arith, s.1))))
              | inr high ↦ rw (← s.3) ((λ h. at.0 (omega (arith, s.2))), (λ h. absurd (omega arith)))
            ]
        | inr past ↦ let over : e ≤ j = out past in rw (x.others j d (λ h. over)) (p j d (omega arith) (λ h. omega arith))
      ]
    ]

-- the rows from l on and below a passed the gap from a on and below b
PartsOutside-passed_up : (v : ℤ) (q l a b : ℕ) (xs ys : List (ℤ × List ℕ)) → l ≤ a → a ≤ b → b ≤ length xs → length ys ≡ length xs → (q ≤ l) ⊎ (b ≤ q)
    → ChangedPlaces xs ys l a b → PartsOutside v q a b xs → PartsOutside v q l (l + (b - a)) ys
PartsOutside-passed_up v q l a b xs ys o1 o2 fit len apart x p j d in' out =
    elim (cases_lt j l) [
      | inl under ↦ rw (x.others j d (λ h. absurd (omega arith))) (p j d (omega arith) (λ h. absurd (omega arith)))
      | inr from ↦ elim (cases_lt j b) [
        | inl here ↦
            let past : l + (b - a) ≤ j = out from in
            let s = x.back j d past here in
            let at = p s.0 d (omega (arith, s.2)) (λ h. absurd (omega (arith, s.2))) in
            elim apart [
              | inl low ↦ rw (← s.3) ((λ h. absurd (omega arith)), (λ h. at.1 (omega (arith, s.1))))
              | inr high ↦ rw (← s.3) ((λ h. at.0 (omega (arith, s.2))), (λ h. absurd (omega arith)))
            ]
        | inr over ↦ rw (x.others j d (λ h. over)) (p j d (omega arith) (λ h. over))
      ]
    ]

-- a pivot may stand anywhere in the gap
PartsOutside-place : (v : ℤ) (q r a b : ℕ) (xs : List (ℤ × List ℕ)) → a ≤ q → q ≤ b → a ≤ r → r ≤ b → PartsOutside v q a b xs → PartsOutside v r a b xs
PartsOutside-place v q r a b xs l1 u1 l2 u2 p j d in' out =
    let at = p j d in' out in
    elim (cases_lt j a) [
      | inl under ↦ ((λ h. at.0 (omega arith)), (λ h. absurd (omega arith)))
      | inr from ↦ let over : b ≤ j = out from in ((λ h. absurd (omega arith)), (λ h. at.1 (omega arith)))
    ]

-- the gap goes up to e, over a piece or a part of it
pub HasGap-down : (ps : List (ℤ × ℕ)) (xs ys : List (ℤ × List ℕ)) (i a b e : ℕ) → b ≤ e → e ≤ length xs → length ys ≡ length xs
    → ((k : ℕ) (p : ℤ × ℕ) → i ≤ k → k < length ps → e ≤ (get_or ps k p).1)
    → ChangedPlaces xs ys a b e → HasGap ps xs i a b → HasGap ps ys i (a + (e - b)) e
HasGap-down ps xs ys i a b e le fit len high x g =
    let order : a ≤ b = g.order in
    record {
      order = omega arith;
      within = omega arith;
      index = g.index;
      below = λ k p lt. let h : (get_or ps k p).1 ≤ a = g.below k p lt in omega arith;
      above = high;
      rise = g.rise;
      inside = λ k p lt. let h : (get_or ps k p).1 ≤ length xs = g.inside k p lt in omega arith;
      parted = λ k p lt.
          PartsOutside-passed_down _ _ a b e xs ys order le fit len
          (elim (cases_lt k i) [ inl under ↦ inl (g.below k p under) | inr over ↦ inr (high k p over lt) ]) x (g.parted k p lt);
      blanks = λ j d l u.
          let s = x.back j d l u in
          rw (← s.3) (g.blanks s.0 d s.1 s.2);
    }

-- the gap goes down to l
pub HasGap-up : (ps : List (ℤ × ℕ)) (xs ys : List (ℤ × List ℕ)) (i l a b : ℕ) → l ≤ a → length ys ≡ length xs
    → ((k : ℕ) (p : ℤ × ℕ) → k < i → (get_or ps k p).1 ≤ l)
    → ChangedPlaces xs ys l a b → HasGap ps xs i a b → HasGap ps ys i l (l + (b - a))
HasGap-up ps xs ys i l a b le len low x g =
    let order : a ≤ b = g.order in
    let within : b ≤ length xs = g.within in
    record {
      order = omega arith;
      within = omega arith;
      index = g.index;
      below = low;
      above = λ k p f lt. let h : b ≤ (get_or ps k p).1 = g.above k p f lt in omega arith;
      rise = g.rise;
      inside = λ k p lt. let h : (get_or ps k p).1 ≤ length xs = g.inside k p lt in omega arith;
      parted = λ k p lt.
          PartsOutside-passed_up _ _ l a b xs ys le order within len
          (elim (cases_lt k i) [ inl under ↦ inl (low k p under) | inr over ↦ inr (g.above k p over lt) ]) x (g.parted k p lt);
      blanks = λ j d m u.
          let s = x.front j d m (omega arith) in
          rw (← s.3) (g.blanks s.0 d s.1 s.2);
    }

-- the pivot that stands at the end of the gap goes to its start
pub HasGap-place_down : (ps : List (ℤ × ℕ)) (xs : List (ℤ × List ℕ)) (i a b : ℕ) (e : ℤ × ℕ) → i < length ps → (get_or ps i e).1 ≡ b
    → HasGap ps xs i a b → HasGap (set ps i ((get_or ps i e).0, a)) xs (i + 1) a b
HasGap-place_down ps xs i a b e lt is g =
    let new : List (ℤ × ℕ) = set ps i ((get_or ps i e).0, a) in
    let order : a ≤ b = g.order in
    let within : b ≤ length xs = g.within in
    let len : length (set ps i ((get_or ps i e).0, a)) ≡ length ps = length-set ps i ((get_or ps i e).0, a) in
    let here : (k : ℕ) (d : ℤ × ℕ) → k ≡ i → get_or (set ps i ((get_or ps i e).0, a)) k d ≡ ((get_or ps i e).0, a) = λ k d w. rw w (get_or-set_same ps i ((get_or ps i e).0, a) d lt) in
    let other : (k : ℕ) (d : ℤ × ℕ) → k ≢ i → get_or (set ps i ((get_or ps i e).0, a)) k d ≡ get_or ps k d = λ k d n. get_or-set_other ps i k ((get_or ps i e).0, a) d n in
    let old_i : (d : ℤ × ℕ) → get_or ps i d ≡ get_or ps i e = λ d. get_or_default ps i d e lt in
    record {
      order = order;
      within = within;
      index = omega arith;
      below = λ k d h. elim (cases_eq k i) [
        | inl w ↦ rw (here k d w) (omega arith)
        | inr n ↦ rw (other k d n) (g.below k d (omega arith))
      ];
      above = λ k d h l. rw (other k d (λ w. absurd (omega arith))) (g.above k d (omega arith) (omega arith));
      rise = λ k l d h m. elim (cases_eq l i) [
        | inl wl ↦ elim (cases_eq k i) [
          | inl wk ↦ rw (here k d wk, here l d wl) (omega arith)
          | inr nk ↦ rw (other k d nk, here l d wl) (g.below k d (omega arith))
        ]
        | inr nl ↦ elim (cases_eq k i) [
          | inl wk ↦ rw (here k d wk, other l d nl) (let up : b ≤ (get_or ps l d).1 = g.above l d (omega arith) (omega arith) in omega arith)
          | inr nk ↦ rw (other k d nk, other l d nl) (g.rise k l d h (omega arith))
        ]
      ];
      inside = λ k d l. elim (cases_eq k i) [
        | inl w ↦ rw (here k d w) (omega arith)
        | inr n ↦ rw (other k d n) (g.inside k d (omega arith))
      ];
      parted = λ k d l. elim (cases_eq k i) [
        | inl w ↦ rw (here k d w) (PartsOutside-place _ (get_or ps i e).1 a a b xs (omega arith) (omega arith) (omega arith) order (g.parted i e lt))
        | inr n ↦ rw (other k d n) (g.parted k d (omega arith))
      ];
      blanks = g.blanks;
    }

-- the row at j goes out: a blank row takes its place, and is swapped to the end of the gap
pub HasGap-taken_out : (ps : List (ℤ × ℕ)) (xs ys zs : List (ℤ × List ℕ)) (i a b j : ℕ) → b ≤ j → j < length xs
    → ((k : ℕ) (p : ℤ × ℕ) → i ≤ k → k < length ps → j < (get_or ps k p).1)
    → ys ≡ set xs j blank → SwappedAt ys zs b j → length zs ≡ length xs → HasGap ps xs i a b → HasGap ps zs i a (b + 1)
HasGap-taken_out ps xs ys zs i a b j le fit high is w len g =
    let order : a ≤ b = g.order in
    let at_j : (d : ℤ × List ℕ) → get_or ys j d ≡ blank = λ d. rw is (get_or-set_same xs j blank d fit) in
    let other : (k : ℕ) (d : ℤ × List ℕ) → k ≢ j → get_or ys k d ≡ get_or xs k d = λ k d n. rw is (get_or-set_other xs j k blank d n) in
    record {
      order = omega arith;
      within = omega arith;
      index = g.index;
      below = g.below;
      above = λ k p f lt. let h : j < (get_or ps k p).1 = high k p f lt in omega arith;
      rise = g.rise;
      inside = λ k p lt. let h : (get_or ps k p).1 ≤ length xs = g.inside k p lt in omega arith;
      parted = λ k p lt m d in' out.
          elim (cases_eq m j) [
            | inl e ↦
                let n : b ≢ j = λ w'. absurd (let past : b + 1 ≤ m = out (omega arith) in omega arith) in
                let v : get_or zs m d ≡ get_or xs b d = rw e (w.1 d ∙ other b d n) in
                let at = g.parted k p lt b d (omega arith) (λ h. omega arith) in
                elim (cases_lt k i) [
                  | inl under ↦ let q : (get_or ps k p).1 ≤ a = g.below k p under in rw v ((λ h. absurd (omega arith)), (λ h. at.1 (omega arith)))
                  | inr over ↦ let q : j < (get_or ps k p).1 = high k p over lt in rw v ((λ h. at.0 (omega arith)), (λ h. absurd (omega arith)))
                ]
            | inr n ↦
                let nb : m ≢ b = λ e. absurd (let past : b + 1 ≤ m = out (omega arith) in omega arith) in
                let v : get_or zs m d ≡ get_or xs m d = w.2 m d nb n ∙ other m d n in
                rw v (g.parted k p lt m d (omega arith) (λ h. let past : b + 1 ≤ m = out h in omega arith))
          ];
      blanks = λ m d l u.
          elim (cases_eq m b) [
            | inl e ↦ rw e (w.0 d ∙ at_j d)
            | inr n ↦ let nj : m ≢ j = λ e. absurd (omega arith) in rw (w.2 m d n nj, other m d nj) (g.blanks m d l (omega arith))
          ];
    }

-- a row takes the first place of the gap
pub HasGap-filled : (ps : List (ℤ × ℕ)) (xs ys : List (ℤ × List ℕ)) (row : ℤ × List ℕ) (i a b : ℕ) → a < b
    → ((k : ℕ) (p : ℤ × ℕ) → k < i → (get_or ps k p).0 ≤ℤ row.0) → ((k : ℕ) (p : ℤ × ℕ) → i ≤ k → k < length ps → row.0 <ℤ (get_or ps k p).0)
    → ys ≡ set xs a row → HasGap ps xs i a b → HasGap ps ys i (a + 1) b
HasGap-filled ps xs ys row i a b lt from below is g =
    let within : b ≤ length xs = g.within in
    let len : length ys ≡ length xs = ap length is ∙ length-set xs a row in
    let at_a : (d : ℤ × List ℕ) → get_or ys a d ≡ row = λ d. rw is (get_or-set_same xs a row d (omega arith)) in
    let other : (k : ℕ) (d : ℤ × List ℕ) → k ≢ a → get_or ys k d ≡ get_or xs k d = λ k d n. rw is (get_or-set_other xs a k row d n) in
    record {
      order = omega arith;
      within = omega arith;
      index = g.index;
      below = λ k p h. let l : (get_or ps k p).1 ≤ a = g.below k p h in omega arith;
      above = g.above;
      rise = g.rise;
      inside = λ k p h. let l : (get_or ps k p).1 ≤ length xs = g.inside k p h in omega arith;
      parted = λ k p lt' m d in' out.
          elim (cases_eq m a) [
            | inl e ↦
                let v : get_or ys m d ≡ row = rw e (at_a d) in
                elim (cases_lt k i) [
                  | inl under ↦ let q : (get_or ps k p).1 ≤ a = g.below k p under in rw v ((λ h. absurd (omega arith)), (λ h. from k p under))
                  | inr over ↦ let q : b ≤ (get_or ps k p).1 = g.above k p over lt' in rw v ((λ h. below k p over lt'), (λ h. absurd (omega arith)))
                ]
            | inr n ↦ rw (other m d n) (g.parted k p lt' m d (omega arith) (λ h. out (omega arith)))
          ];
      blanks = λ m d l u. rw (other m d (λ e. absurd (omega arith))) (g.blanks m d (omega arith) u);
    }

-- blank rows behind the last
pub HasGap-start : (ps : List (ℤ × ℕ)) (xs ys : List (ℤ × List ℕ)) (by : ℕ) → IsRising ps → AllParted ps xs → ys ≡ xs ++ replicate by blank
    → HasGap ps ys (length ps) (length xs) (length xs + by)
HasGap-start ps xs ys by r law is =
    let o = Places-from_law ps xs r law in
    let len : length ys ≡ length xs + by = ap length is ∙ length-append xs (replicate by blank) ∙ ap (λ (m : ℕ). length xs + m) (length-replicate by blank) in
    let same : (j : ℕ) (d : ℤ × List ℕ) → j < length xs → get_or ys j d ≡ get_or xs j d = λ j d h. ap (λ (zs : List (ℤ × List ℕ)). get_or zs j d) is ∙ get_or_append_left xs (replicate by blank) d j h in
    record {
      order = omega arith;
      within = omega arith;
      index = omega arith;
      below = λ k p h. o.within k p h;
      above = λ k p f h. absurd (omega arith);
      rise = o.rise;
      inside = λ k p h. let l : (get_or ps k p).1 ≤ length xs = o.within k p h in omega arith;
      parted = λ k p lt j d in' out.
          let here : j < length xs = elim (cases_lt j (length xs)) [ inl u ↦ u | inr f ↦ absurd (let g : length xs + by ≤ j = out f in omega arith) ] in
          rw (same j d here) ((λ h. (law k p lt).before j d (omega arith) h), (λ h. (law k p lt).behind j d h here));
      blanks = λ j d l u. ap (λ (zs : List (ℤ × List ℕ)). get_or zs j d) is ∙ get_or-append_right xs (replicate by blank) (length xs) j d refl l ∙ get_or-replicate by (j - length xs) blank d (omega arith);
    }

-- a gap at the end is cut off
pub HasGap-end : (ps : List (ℤ × ℕ)) (xs ys : List (ℤ × List ℕ)) (a : ℕ) → ys ≡ take a xs → HasGap ps xs (length ps) a (length xs) → AllParted ps ys
HasGap-end ps xs ys a is g k p lt =
    let order : a ≤ length xs = g.order in
    let len : length ys ≡ a = ap length is ∙ grind (arith, common_steps) in
    let low : (get_or ps k p).1 ≤ a = g.below k p lt in
    let same : (j : ℕ) (d : ℤ × List ℕ) → j < a → get_or ys j d ≡ get_or xs j d = λ j d h. ap (λ (zs : List (ℤ × List ℕ)). get_or zs j d) is ∙ get_or-take a xs j d h in
    record {
      within = omega arith;
      before = λ j d l u. rw (same j d (omega arith)) ((g.parted k p lt j d (omega arith) (λ h. absurd (omega arith))).0 u);
      behind = λ j d l u. rw (same j d (omega arith)) ((g.parted k p lt j d (omega arith) (λ h. absurd (omega arith))).1 l);
    }

-- an empty gap at the end of a piece
pub HasGap-empty : (ps : List (ℤ × ℕ)) (xs : List (ℤ × List ℕ)) (i a : ℕ) → IsRising ps → AllParted ps xs → i ≤ length ps
    → a ≡ (get_or ps i (pos 0, length xs)).1 → HasGap ps xs i a a
HasGap-empty ps xs i a r law upto is =
    let o = Places-from_law ps xs r law in
    record {
      order = omega arith;
      within = rw is (bound_within ps (length xs) i o);
      index = upto;
      below = λ k e lt. rw is (bound_from ps (length xs) k i e o (omega arith) (omega arith));
      above = λ k e from lt. rw is (bound_upto ps (length xs) i k e o from lt);
      rise = o.rise;
      inside = o.within;
      parted = λ k e lt j d in' out. ((λ h. (law k e lt).before j d (omega arith) h), (λ h. (law k e lt).behind j d h in'));
      blanks = λ j d l u. absurd (omega arith);
    }

-- an empty gap elsewhere is one at the end of each piece
pub HasGap-moved : (ps : List (ℤ × ℕ)) (xs : List (ℤ × List ℕ)) (i a j b : ℕ) → j ≤ length ps → b ≡ (get_or ps j (pos 0, length xs)).1
    → HasGap ps xs i a a → HasGap ps xs j b b
HasGap-moved ps xs i a j b upto is g =
    let o : Places ps (length xs) = record { rise = g.rise; within = g.inside } in
    record {
      order = omega arith;
      within = rw is (bound_within ps (length xs) j o);
      index = upto;
      below = λ k e lt. rw is (bound_from ps (length xs) k j e o (omega arith) (omega arith));
      above = λ k e from lt. rw is (bound_upto ps (length xs) j k e o from lt);
      rise = g.rise;
      inside = g.inside;
      parted = λ k e lt m d in' out. g.parted k e lt m d in' (λ h. h);
      blanks = λ m d l u. absurd (omega arith);
    }

-- a score between the pivots at the two ends of a piece
pub RisesPast-between : (ps : List (ℤ × ℕ)) (v : ℤ) (i : ℕ) → IsRising ps → i ≤ length ps → (0 < i → (get_or ps (i - 1) (pos 0, 0)).0 ≤ℤ v)
    → (i < length ps → v <ℤ (get_or ps i (pos 0, 0)).0) → RisesPast v ps i
RisesPast-between ps v i r upto low high = record {
  within = upto;
  upto = λ k e l lt.
      let up : (get_or ps k e).0 ≤ℤ (get_or ps (i - 1) e).0 = IsRising-le ps k (i - 1) e r (omega arith) (omega arith) in
      let same : get_or ps (i - 1) e ≡ get_or ps (i - 1) (pos 0, 0) = get_or_default ps (i - 1) e (pos 0, 0) (omega arith) in
      let s : (get_or ps (i - 1) e).0 ≡ (get_or ps (i - 1) (pos 0, 0)).0 = ap (λ (q : ℤ × ℕ). q.0) same in
      let at : (get_or ps (i - 1) (pos 0, 0)).0 ≤ℤ v = low (omega arith) in
      grind (arith, ints);
  above = λ k e from lt.
      let up : (get_or ps i e).0 ≤ℤ (get_or ps k e).0 = IsRising-le ps i k e r from lt in
      let same : get_or ps i e ≡ get_or ps i (pos 0, 0) = get_or_default ps i e (pos 0, 0) (omega arith) in
      let s : (get_or ps i e).0 ≡ (get_or ps i (pos 0, 0)).0 = ap (λ (q : ℤ × ℕ). q.0) same in
      let at : v <ℤ (get_or ps i (pos 0, 0)).0 = high (omega arith) in
      grind (arith, ints);
}

-- another place changes no value
pub values-set : (ps : List (ℤ × ℕ)) (i q : ℕ) (d : ℤ × ℕ) → i < length ps → map (λ p. p.0) (set ps i ((get_or ps i d).0, q)) ≡ map (λ p. p.0) ps
values-set [] i q d h = absurd (omega arith)
values-set (p ∷ ps) zero q d h = refl
values-set (p ∷ ps) (suc i) q d h = ap (λ vs. p.0 ∷ vs) (values-set ps i q d (omega arith))

-- one step up
pub HasGap-lifted : (ps : List (ℤ × ℕ)) (xs ys : List (ℤ × List ℕ)) (i a b : ℕ) (e : ℤ × ℕ) → i < length ps → length ys ≡ length xs
    → ChangedPlaces xs ys a b (get_or ps i e).1 → HasGap ps xs i a b
    → HasGap (set ps i ((get_or ps i e).0, a + ((get_or ps i e).1 - b))) ys (i + 1) (a + ((get_or ps i e).1 - b)) (a + ((get_or ps i e).1 - b) + (b - a))
HasGap-lifted ps xs ys i a b e lt len x g =
    let order : a ≤ b = g.order in
    let end : b ≤ (get_or ps i e).1 = g.above i e (omega arith) lt in
    let fit : (get_or ps i e).1 ≤ length xs = g.inside i e lt in
    let down = HasGap-down ps xs ys i a b (get_or ps i e).1 end fit len
    (λ k p f h. let r : (get_or ps i e).1 ≤ (get_or ps k e).1 = g.rise i k e f h in
    let t : (get_or ps k p).1 ≡ (get_or ps k e).1 = ap (λ (q : ℤ × ℕ). q.1) (get_or_default ps k p e h) in omega arith) x g in
    let same : (get_or ps i e).1 ≡ a + ((get_or ps i e).1 - b) + (b - a) = omega arith in
    subst (λ (m : ℕ). HasGap (set ps i ((get_or ps i e).0, a + ((get_or ps i e).1 - b))) ys (i + 1) (a + ((get_or ps i e).1 - b)) m) same
    (HasGap-place_down ps ys i (a + ((get_or ps i e).1 - b)) (get_or ps i e).1 e lt refl down)

-- the piece begins below the gap
pub start_upto : (ps : List (ℤ × ℕ)) (xs : List (ℤ × List ℕ)) (i a b start : ℕ) → HasGap ps xs i a b → start ≡ cond (eqb i 0) 0 (get_or ps (i - 1) (pos 0, 0)).1 → start ≤ a
start_upto ps xs i a b start g from =
    elim (cases_eq i 0) [
      | inl none ↦ let s : start ≡ 0 = from ∙ ap (λ (m : ℕ). cond (eqb m 0) 0 (get_or ps (m - 1) (pos 0, 0)).1) none in omega arith
      | inr some ↦
          let s : start ≡ (get_or ps (i - 1) (pos 0, 0)).1 = grind (arith, nat_tests) in
          let h : (get_or ps (i - 1) (pos 0, 0)).1 ≤ a = g.below (i - 1) (pos 0, 0) (omega arith) in
          omega arith
    ]

-- the gap goes to the start of its piece
pub HasGap-bottom : (ps : List (ℤ × ℕ)) (xs ys : List (ℤ × List ℕ)) (i a by start : ℕ) → length ys ≡ length xs → start ≡ cond (eqb i 0) 0 (get_or ps (i - 1) (pos 0, 0)).1
    → ChangedPlaces xs ys start a (a + by) → HasGap ps xs i a (a + by) → HasGap ps ys i start (start + by)
HasGap-bottom ps xs ys i a by start len from x g =
    let o : Places ps (length xs) = record { rise = g.rise; within = g.inside } in
    let le : start ≤ a = start_upto ps xs i a (a + by) start g from in
    let up = HasGap-up ps xs ys i start a (a + by) le len (start_from ps (length xs) i start o g.index from) x g in
    let same : start + (a + by - a) ≡ start + by = omega arith in
    subst (λ (m : ℕ). HasGap ps ys i start m) same up

-- the pivots above stand at the end of the piece or above it
pub StandFrom-end : (ps : List (ℤ × ℕ)) (xs : List (ℤ × List ℕ)) (i a b : ℕ) → HasGap ps xs i a b → StandFrom ps i (get_or ps i (pos 0, length xs)).1
StandFrom-end ps xs i a b g k p from lt =
    let o : Places ps (length xs) = record { rise = g.rise; within = g.inside } in
    bound_upto ps (length xs) i k p o from lt

-- the gap goes over the last piece and is cut off
pub HasGap-cut : (ps : List (ℤ × ℕ)) (xs ys zs : List (ℤ × List ℕ)) (i a b e : ℕ) → length ps ≤ i → e ≡ length xs → length ys ≡ length xs
    → ChangedPlaces xs ys a b e → zs ≡ take (a + (e - b)) ys → HasGap ps xs i a b → AllParted ps zs
HasGap-cut ps xs ys zs i a b e all end len x is g =
    let upto : i ≤ length ps = g.index in
    let within : b ≤ length xs = g.within in
    let last : i ≡ length ps = omega arith in
    let down = HasGap-down ps xs ys i a b e (omega arith) (omega arith) len (λ k p f l. absurd (omega arith)) x g in
    let e_is : e ≡ length ys = omega arith in
    HasGap-end ps ys zs (a + (e - b)) is (subst (λ (m : ℕ). HasGap ps ys m (a + (e - b)) (length ys)) last (subst (λ (m : ℕ). HasGap ps ys i (a + (e - b)) m) e_is down))

-- lists of the same values are as long
pub length-values : (ps qs : List (ℤ × ℕ)) → values qs ≡ values ps → length qs ≡ length ps
length-values ps qs same = sym (length-map qs (λ (p : ℤ × ℕ). p.0)) ∙ ap length same ∙ length-map ps (λ (p : ℤ × ℕ). p.0)

-- where each pivot parts the rows, and has the value that it had, the pivot law holds again
pub ObeysPivots-values : (ps qs : List (ℤ × ℕ)) (xs ys : List (ℤ × List ℕ)) → values qs ≡ values ps → ObeysPivots ps xs → AllParted qs ys → ObeysPivots qs ys
ObeysPivots-values ps qs xs ys same law parted =
    let long : length qs ≡ length ps = length-values ps qs same in
    record {
      parted = parted;
      rising = IsRising-same_values ps qs long
          (λ k d h. sym (get_or-map (λ (p : ℤ × ℕ). p.0) qs k d d.0 (omega arith)) ∙ ap (λ (vs : List ℤ). get_or vs k d.0) same ∙ get_or-map (λ (p : ℤ × ℕ). p.0) ps k d d.0 h) law.rising;
      few = omega (arith, law.few);
    }
