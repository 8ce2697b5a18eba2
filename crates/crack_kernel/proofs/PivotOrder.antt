-- The order of pivots: searches in it, and what keeps it.
use Rattle.std.proofs.Common.{◌≡◌, ◌≢◌, ℕ, zero, suc, nat_le, ℤ, Bool, ◌+◌, ◌-◌, ◌<◌, ◌≤◌, ◌<ℤ◌, ◌≤ℤ◌, List, [], ◌∷◌, ◌++◌, map, length, get_or, take, drop, insert, inl, inr, ◌∙◌, sym, refl, ap, arith, length-drop}
use Rattle.std.specs.List.{AllWithin}
use Rattle.std.specs.List.Sorted.{IsPartitionedBy}
use Rattle.std.specs.Int.Signed.{le_z}
use Rattle.std.proofs.lemmas.Bool.{cases_lt, cases_eq}
use Rattle.std.proofs.lemmas.Bool.Decides.{nat_tests}
use Rattle.std.proofs.lemmas.Int.{ints}
use Rattle.std.proofs.lemmas.List.{get_or_default, get_or-map, length-map, get_or-append_right, get_or-drop, map-append, take-append-drop}
use Rattle.std.proofs.lemmas.List.Edits.{get_or-insert_below, get_or-insert_at, get_or-insert_above, length-insert}
use Rattle.std.proofs.lemmas.Grind.{common_steps}
use Rattle.crack_kernel.specs.PivotList.{ArePlacedInOrder, IsRising, IsNewValue, RisesPast, closed_up, shifted_pivot, shifted}

-- values do not fall
pub IsRising-le : (ps : List (ℤ × ℕ)) (i j : ℕ) (d : ℤ × ℕ) → IsRising ps → i ≤ j → j < length ps → (get_or ps i d).0 ≤ℤ (get_or ps j d).0
IsRising-le ps i j d rising order within =
    elim (cases_lt i j) [
      | inl below ↦ let h : (get_or ps i d).0 <ℤ (get_or ps j d).0 = rising i j d below within in omega (arith, ints)
      | inr from ↦ let e : i ≡ j = omega arith in rw e (omega (arith, ints))
    ]

-- the test of a search among the pivots passes up to one index and fails from there on
pub IsPartitionedBy-rising : (v : ℤ) (ps : List (ℤ × ℕ)) → IsRising ps → IsPartitionedBy (λ p. le_z p.0 v) ps
IsPartitionedBy-rising v ps rising i j d order within passes =
    let h : (get_or ps i d).0 ≤ℤ (get_or ps j d).0 = IsRising-le ps i j d rising order within in
    grind (arith, ints)

-- the test of a search among their places passes up to one index and fails from there on
pub IsPartitionedBy-placed : (place : ℕ) (ps : List (ℤ × ℕ)) → IsRising ps → ArePlacedInOrder ps → IsPartitionedBy (λ p. nat_le p.1 place) ps
IsPartitionedBy-placed place ps rising placed i j d order within passes =
    elim (cases_lt i j) [
      | inl below ↦
          let p = get_or ps i d in
          let q = get_or ps j d in
          let i_in : i < length ps = omega arith in
          let h : p.1 ≤ q.1 = placed p q (i, i_in, get_or_default ps i p d i_in) (j, within, get_or_default ps j q d within) (rising i j d below within) in
          grind (arith, nat_tests)
      | inr from ↦ let e : i ≡ j = omega arith in rw e passes
    ]

-- the places up to the first row that is gone stay
pub closed_up-from : (from to first : ℕ) (ps : List (ℤ × ℕ)) → AllWithin (λ p. p.1 ≤ from) ps 0 first
    → take first ps ++ map (λ p. (p.0, closed_up from to p.1)) (drop first ps) ≡ map (λ p. (p.0, closed_up from to p.1)) ps
closed_up-from from to zero ps upto = refl
closed_up-from from to (suc n) [] upto = refl
closed_up-from from to (suc n) (p ∷ ps) upto =
    let low : p.1 ≤ from = upto 0 p (omega arith) (omega arith) in
    let same : closed_up from to p.1 ≡ p.1 = grind (arith, nat_tests) in
    let rest = closed_up-from from to n ps (λ k d l h. upto (suc k) d (omega arith) (omega arith)) in
    rw same (ap (λ zs. p ∷ zs) rest)

-- a new value is above the pivots that are counted and below the others
pub RisesPast-new : (v : ℤ) (ps : List (ℤ × ℕ)) (n : ℕ) → RisesPast v ps n → IsNewValue v ps → AllWithin (λ p. p.0 <ℤ v) ps 0 n
RisesPast-new v ps n past new k d l h =
    let within : n ≤ length ps = past.within in
    let upto : (get_or ps k d).0 ≤ℤ v = past.upto k d l h in
    let other : (get_or ps k d).0 ≢ v = new k d (omega arith) in
    grind (arith, ints)

-- where the last pivot that is counted has another value, no pivot has this one
pub IsNewValue-between : (v : ℤ) (ps : List (ℤ × ℕ)) (n : ℕ) → IsRising ps → RisesPast v ps n → ((d : ℤ × ℕ) → 0 < n → (get_or ps (n - 1) d).0 ≢ v) → IsNewValue v ps
IsNewValue-between v ps n rising past last k d h same =
    elim (cases_lt k n) [
      | inl below ↦
          let within : n ≤ length ps = past.within in
          let top : (get_or ps (n - 1) d).0 ≤ℤ v = past.upto (n - 1) d (omega arith) (omega arith) in
          let up : (get_or ps k d).0 ≤ℤ (get_or ps (n - 1) d).0 = IsRising-le ps k (n - 1) d rising (omega arith) (omega arith) in
          last d (omega arith) (omega (arith, ints))
      | inr above ↦ let h' : v <ℤ (get_or ps k d).0 = past.above k d above h in omega (arith, ints)
    ]

-- a new value put behind the pivots below it keeps the order
pub IsRising-insert : (v : ℤ) (place n : ℕ) (ps : List (ℤ × ℕ)) → IsRising ps → RisesPast v ps n → IsNewValue v ps → IsRising (insert ps n (v, place))
IsRising-insert v place n ps rising past new i j d order within' =
    let within : n ≤ length ps = past.within in
    let long : length (insert ps n (v, place)) ≡ length ps + 1 = grind (arith, length-insert) in
    let low : AllWithin (λ p. p.0 <ℤ v) ps 0 n = RisesPast-new v ps n past new in
    elim (cases_lt j n) [
      | inl j_below ↦
          let i_below : i < n = omega arith in
          rw (get_or-insert_below ps n (v, place) d i i_below within, get_or-insert_below ps n (v, place) d j j_below within) (rising i j d order (omega arith))
      | inr j_from ↦
          elim (cases_eq j n) [
            | inl j_at ↦
                let i_below : i < n = omega arith in
                rw (j_at, get_or-insert_below ps n (v, place) d i i_below within, get_or-insert_at ps n (v, place) d within) (low i d (omega arith) i_below)
            | inr j_other ↦
                let m : ℕ = j - 1 in
                let j_is : j ≡ m + 1 = omega arith in
                let at_j : get_or (insert ps n (v, place)) j d ≡ get_or ps m d = ap (λ (u : ℕ). get_or (insert ps n (v, place)) u d) j_is ∙ get_or-insert_above ps n (v, place) d m (omega arith) within in
                let high : v <ℤ (get_or ps m d).0 = past.above m d (omega arith) (omega arith) in
                elim (cases_lt i n) [
                  | inl i_below ↦ rw (get_or-insert_below ps n (v, place) d i i_below within, at_j) (rising i m d (omega arith) (omega arith))
                  | inr i_from ↦
                      elim (cases_eq i n) [
                        | inl i_at ↦ rw (i_at, get_or-insert_at ps n (v, place) d within, at_j) high
                        | inr i_other ↦
                            let l : ℕ = i - 1 in
                            let i_is : i ≡ l + 1 = omega arith in
                            let at_i : get_or (insert ps n (v, place)) i d ≡ get_or ps l d = ap (λ (u : ℕ). get_or (insert ps n (v, place)) u d) i_is ∙ get_or-insert_above ps n (v, place) d l (omega arith) within in
                            rw (at_i, at_j) (rising l m d (omega arith) (omega arith))
                      ]
                ]
          ]
    ]

-- pivots of the same values rise alike
pub IsRising-same_values : (ps qs : List (ℤ × ℕ)) → length qs ≡ length ps → ((k : ℕ) (d : ℤ × ℕ) → k < length ps → (get_or qs k d).0 ≡ (get_or ps k d).0) → IsRising ps → IsRising qs
IsRising-same_values ps qs long same rising i j d order within =
    let j_in : j < length ps = omega arith in
    let i_in : i < length ps = omega arith in
    rw (same i d i_in, same j d j_in) (rising i j d order j_in)

pub length-shifted : (i : ℕ) (up : Bool) (ps : List (ℤ × ℕ)) → length (shifted i up ps) ≡ length ps
length-shifted i up ps = grind (arith, common_steps, length-map)

pub get_or-shifted_below : (i : ℕ) (up : Bool) (ps : List (ℤ × ℕ)) (k : ℕ) (d : ℤ × ℕ) → i ≤ length ps → k < i → get_or (shifted i up ps) k d ≡ get_or ps k d
get_or-shifted_below i up ps k d l h = grind (arith, common_steps)

pub get_or-shifted_from : (i : ℕ) (up : Bool) (ps : List (ℤ × ℕ)) (k : ℕ) (d : ℤ × ℕ) → i ≤ k → k < length ps → get_or (shifted i up ps) k d ≡ shifted_pivot up (get_or ps k d)
get_or-shifted_from i up ps k d h l =
    let n : length (take i ps) ≡ i = grind (arith, common_steps) in
    let room : k - i < length (drop i ps) = omega (arith, length-drop i ps) in
    let at : i + (k - i) ≡ k = omega arith in
    get_or-append_right (take i ps) (map (shifted_pivot up) (drop i ps)) i k d n h ∙ get_or-map (shifted_pivot up) (drop i ps) (k - i) d d room
    ∙ ap (shifted_pivot up) (get_or-drop i ps (k - i) d ∙ ap (λ n. get_or ps n d) at)

-- a shift leaves the values
pub value-shifted : (i : ℕ) (up : Bool) (ps : List (ℤ × ℕ)) (k : ℕ) (d : ℤ × ℕ) → i ≤ length ps → k < length ps → (get_or (shifted i up ps) k d).0 ≡ (get_or ps k d).0
value-shifted i up ps k d l h =
    elim (cases_lt k i) [
      | inl b ↦ ap (λ (p : ℤ × ℕ). p.0) (get_or-shifted_below i up ps k d l b)
      | inr f ↦ ap (λ (p : ℤ × ℕ). p.0) (get_or-shifted_from i up ps k d f h)
    ]

pub IsRising-shifted : (i : ℕ) (up : Bool) (ps : List (ℤ × ℕ)) → i ≤ length ps → IsRising ps → IsRising (shifted i up ps)
IsRising-shifted i up ps l rising = IsRising-same_values ps (shifted i up ps) (length-shifted i up ps) (λ k d h. value-shifted i up ps k d l h) rising

-- a change of each place that leaves each value keeps the order
pub IsRising-map : (f : ℤ × ℕ → ℤ × ℕ) (ps : List (ℤ × ℕ)) → ((p : ℤ × ℕ) → (f p).0 ≡ p.0) → IsRising ps → IsRising (map f ps)
IsRising-map f ps same rising =
    IsRising-same_values ps (map f ps) (length-map ps f) (λ k d h. ap (λ (p : ℤ × ℕ). p.0) (get_or-map f ps k d d h) ∙ same (get_or ps k d)) rising

map_moved-values : (up : Bool) (ps : List (ℤ × ℕ)) → map (λ p. p.0) (map (shifted_pivot up) ps) ≡ map (λ p. p.0) ps
map_moved-values up [] = refl
map_moved-values up (p ∷ ps) = ap (λ vs. p.0 ∷ vs) (map_moved-values up ps)

-- a shift leaves the list of the values
pub values-shifted : (i : ℕ) (up : Bool) (ps : List (ℤ × ℕ)) → map (λ p. p.0) (shifted i up ps) ≡ map (λ p. p.0) ps
values-shifted i up ps =
    map-append (λ (p : ℤ × ℕ). p.0) (take i ps) (map (shifted_pivot up) (drop i ps))
    ∙ ap (λ vs. map (λ (p : ℤ × ℕ). p.0) (take i ps) ++ vs) (map_moved-values up (drop i ps))
    ∙ sym (map-append (λ (p : ℤ × ℕ). p.0) (take i ps) (drop i ps))
    ∙ ap (map (λ (p : ℤ × ℕ). p.0)) (take-append-drop i ps)

-- the same count at equal values and lists
pub RisesPast-same : (v w : ℤ) (ps : List (ℤ × ℕ)) (n : ℕ) → v ≡ w → RisesPast v ps n → RisesPast w ps n
RisesPast-same v w ps n same past = rw (← same) past
