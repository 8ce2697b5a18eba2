-- What swaps of a part of a list with another make.
use Rattle.std.proofs.Common.{◌≡◌, ℕ, ◌+◌, ◌-◌, ◌<◌, ◌≤◌, List, get_or, inl, inr, sym, ◌∙◌, refl, arith}
use Rattle.std.specs.List.{SwappedAt}
use Rattle.std.proofs.lemmas.Bool.{cases_eq, cases_lt}
use Rattle.column_rows.specs.MergeGap.{ChangedPlaces}

-- the m elements from a on and those from c on stand in each other's place
pub record BlocksSwapped {X : Type 0} (xs ys : List X) (a c m : ℕ) : Type 0 where
  pub front : (k : ℕ) (d : X) → a ≤ k → k < a + m → get_or ys k d ≡ get_or xs (k + (c - a)) d
  pub back : (k : ℕ) (d : X) → c ≤ k → k < c + m → get_or ys k d ≡ get_or xs (k - (c - a)) d
  pub others : (k : ℕ) (d : X) → (a ≤ k → a + m ≤ k) → (c ≤ k → c + m ≤ k) → get_or ys k d ≡ get_or xs k d

pub BlocksSwapped-start : {X : Type 0} (xs : List X) (a c : ℕ) → BlocksSwapped xs xs a c 0
BlocksSwapped-start xs a c = record {
  front = λ k d l u. absurd (omega arith);
  back = λ k d l u. absurd (omega arith);
  others = λ k d l u. refl;
}

pub BlocksSwapped-step : {X : Type 0} (xs ys zs : List X) (a c m : ℕ) → a + m < c → BlocksSwapped xs ys a c m → SwappedAt ys zs (a + m) (c + m) → BlocksSwapped xs zs a c (m + 1)
BlocksSwapped-step xs ys zs a c m apart s w = record {
  front = λ k d l u.
      elim (cases_eq k (a + m)) [
        | inl e ↦
            let at : c + m ≡ k + (c - a) = omega arith in
            rw (e) (w.0 d ∙ s.others (c + m) d (λ h. omega arith) (λ h. omega arith) ∙ rw (← e, at) refl)
        | inr n ↦ w.2 k d n (λ e. absurd (omega arith)) ∙ s.front k d l (omega arith)
      ];
  back = λ k d l u.
      elim (cases_eq k (c + m)) [
        | inl e ↦
            let at : a + m ≡ k - (c - a) = omega arith in
            rw (e) (w.1 d ∙ s.others (a + m) d (λ h. omega arith) (λ h. absurd (omega arith)) ∙ rw (← e, at) refl)
        | inr n ↦ w.2 k d (λ e. absurd (omega arith)) n ∙ s.back k d l (omega arith)
      ];
  others = λ k d l u. w.2 k d (λ e. absurd (let h = l (omega arith) in omega arith)) (λ e. absurd (let h = u (omega arith) in omega arith)) ∙ s.others k d (λ h. let g = l h in omega arith) (λ h. let g = u h in omega arith);
}

-- the shorter window was swapped with the far end of the longer
pub ChangedPlaces-from_swaps : {X : Type 0} (xs ys : List X) (low mid high m : ℕ) → low ≤ mid → mid ≤ high → m ≤ mid - low → m ≤ high - mid
    → (mid - low ≤ m → m ≡ mid - low) → (m < mid - low → m ≡ high - mid)
    → BlocksSwapped xs ys low (high - m) m → ChangedPlaces xs ys low mid high
ChangedPlaces-from_swaps xs ys low mid high m o1 o2 small_low small_high is_low is_high s =
    elim (cases_lt m (mid - low)) [
      | inl short ↦
          let e : m ≡ high - mid = is_high short in
          record {
            front = λ j d l u. (j + (high - m - low), omega arith, omega arith, sym (s.front j d l (omega arith)));
            back = λ j d l u.
                elim (cases_lt j (high - m)) [
                  | inl under ↦ (j, omega arith, omega arith, sym (s.others j d (λ h. omega arith) (λ h. absurd (omega arith))))
                  | inr over ↦ (j - (high - m - low), omega arith, omega arith, sym (s.back j d over (omega arith)))
                ];
            others = λ j d o. s.others j d (λ h. let g = o h in omega arith) (λ h. let g = o (omega arith) in omega arith);
          }
      | inr long ↦
          let e : m ≡ mid - low = is_low long in
          record {
            front = λ j d l u.
                elim (cases_lt j mid) [
                  | inl under ↦ (j + (high - m - low), omega arith, omega arith, sym (s.front j d l (omega arith)))
                  | inr over ↦ (j, omega arith, omega arith, sym (s.others j d (λ h. omega arith) (λ h. absurd (omega arith))))
                ];
            back = λ j d l u. (j - (high - m - low), omega arith, omega arith, sym (s.back j d (omega arith) (omega arith)));
            others = λ j d o. s.others j d (λ h. let g = o h in omega arith) (λ h. let g = o (omega arith) in omega arith);
          }
    ]
