-- Each step keeps the rule of the hand-over.
use Rattle.std.proofs.Common.{◌≡◌, ◌≢◌, ℕ, zero, suc, ◌+◌, ◌-◌, ◌<◌, ◌≤◌, Bool, true, false, true≢false, List, [], ◌∷◌, ◌++◌, length, map, set, sym, refl, ap, ◌∙◌, subst, ⊎_elim, append_assoc, arith}
use mathlib.Core.Option.{some, some-injective, some-ne-none}
use lib.ListN.{get_elem?, get_or}
use mathlib.Core.Logic.{dite}
use native.Mathlib.Decide.{dec_lt}
use Rattle.std.proofs.Math.ListN.{get_or-append, length-append}
use Rattle.std.proofs.Math.Seq.{get_or-append_right}
use Rattle.std.specs.List.Sorted.{IsStrictlyIncreasing}
use Rattle.std.specs.Prelude.{All, Vec, vec_len}
use Rattle.std.proofs.lemmas.List.{append-nil, map-append}
use Rattle.std.proofs.lemmas.List.Elements.{All-weaker, All-append, All-nil, All-cons, All-head, All-push}
use Rattle.crossbeam_channel.specs.Fifo.{Pushes, Pops, Forks, Merges, Learns}
use Rattle.atomic_table.proofs.Lists.{at_set, at_snoc}
use Rattle.connection_channel.specs.declared.channel_protocol.ChannelPassView.{ChannelPassView}
use Rattle.connection_channel.specs.declared.channel_protocol.Message.{Message}
use Rattle.connection_channel.specs.declared.channel_protocol.Message.TheVariants.{Connection, Stop}
use Rattle.connection_channel.specs.ChannelInvariant.{pass_view, times, once_below, AllBelow, total, Fits, numbers_of, IsInLine, IsNumbered, after_sending, after_taking, IsAboveTaken, TakesFew, with_taken, with_sent, IsHandedOut, with_pass}
use Rattle.connection_channel.specs.TakenBack.{all_of, HandlersServed}

total_set : (f : ChannelPassView → ℕ) (views : List ChannelPassView) (i : ℕ) (v w : ChannelPassView) → get_elem? views i ≡ some v → total f (set views i w) + f v ≡ total f views + f w
total_set f [] i v w e = absurd (some-ne-none v (sym e))
total_set f (x ∷ xs) zero v w e = let same : f x ≡ f v = ap f (some-injective x v e) in omega arith
total_set f (x ∷ xs) (suc i) v w e = let s = total_set f xs i v w e in omega arith

total_snoc : (f : ChannelPassView → ℕ) (views : List ChannelPassView) (w : ChannelPassView) → total f (views ++ w ∷ []) ≡ total f views + f w
total_snoc f [] w = omega arith
total_snoc f (x ∷ xs) w = let s = total_snoc f xs w in omega arith

times-append : (x : ℕ) (a b : List ℕ) → times x (a ++ b) ≡ times x a + times x b
times-append x [] b = omega arith
times-append x (y ∷ ys) b = let s = times-append x ys b in omega arith

part_of : (f : ChannelPassView → ℕ) (views : List ChannelPassView) (i : ℕ) (v : ChannelPassView) → get_elem? views i ≡ some v → f v ≤ total f views
part_of f [] i v e = absurd (some-ne-none v (sym e))
part_of f (x ∷ xs) zero v e = let same : f x ≡ f v = ap f (some-injective x v e) in omega arith
part_of f (x ∷ xs) (suc i) v e = let s = part_of f xs i v e in omega arith

-- passes with no part add nothing
none : (f : ChannelPassView → ℕ) (views : List ChannelPassView) → total (λ v. v.parts) views ≡ 0 → ((j : ℕ) (u : ChannelPassView) → get_elem? views j ≡ some u → u.parts ≡ 0 → f u ≡ 0) → total f views ≡ 0
none f [] e idle = refl
none f (x ∷ xs) e idle = let a : f x ≡ 0 = idle 0 x refl (omega arith) in let b = none f xs (omega arith) (λ j u. idle (suc j) u) in omega arith

-- one pass that has every part has all of it
lone : (f : ChannelPassView → ℕ) (views : List ChannelPassView) (i : ℕ) (v : ChannelPassView) → get_elem? views i ≡ some v → total (λ v. v.parts) views ≡ v.parts
    → ((j : ℕ) (u : ChannelPassView) → get_elem? views j ≡ some u → u.parts ≡ 0 → f u ≡ 0) → total f views ≡ f v
lone f [] i v e all idle = absurd (some-ne-none v (sym e))
lone f (x ∷ xs) zero v e all idle =
    let same : f x ≡ f v = ap f (some-injective x v e) in let parts : x.parts ≡ v.parts = ap (λ (y : ChannelPassView). y.parts) (some-injective x v e) in
    let b = none f xs (omega arith) (λ j u. idle (suc j) u) in omega arith
lone f (x ∷ xs) (suc i) v e all idle =
    let p = part_of (λ v. v.parts) xs i v e in let a : f x ≡ 0 = idle 0 x refl (omega arith) in
    let b = lone f xs i v e (omega arith) (λ j u. idle (suc j) u) in omega arith

set_at : (views : List ChannelPassView) (i : ℕ) (v w : ChannelPassView) → get_elem? views i ≡ some v → get_elem? (set views i w) i ≡ some w
set_at [] i v w e = absurd (some-ne-none v (sym e))
set_at (x ∷ xs) zero v w e = refl
set_at (x ∷ xs) (suc i) v w e = set_at xs i v w e

at_end : (l : List ChannelPassView) (a b : ChannelPassView) (j : ℕ) → get_elem? l j ≢ some b → get_elem? (l ++ a ∷ []) j ≡ some b → j ≡ length l
at_end [] a b zero n e = refl
at_end [] a b (suc j) n e = absurd (some-ne-none b (sym e))
at_end (x ∷ xs) a b zero n e = absurd (n e)
at_end (x ∷ xs) a b (suc j) n e = ap suc (at_end xs a b j n e)

abbrev Each : (ℕ → ChannelPassView → Type 0) → List ChannelPassView → Type 0
Each F views = (pass : ℕ) (v : ChannelPassView) → get_elem? views pass ≡ some v → F pass v

each_set : (F : ℕ → ChannelPassView → Type 0) (views : List ChannelPassView) (pass : ℕ) (w : ChannelPassView) → F pass w → ((j : ℕ) (u : ChannelPassView) → j ≢ pass → get_elem? views j ≡ some u → F j u) → Each F (set views pass w)
each_set F views pass w mine others j u e = ⊎_elim (λ (x : (j ≡ pass) × (w ≡ u)). subst (λ (y : ℕ × ChannelPassView). F y.0 y.1) (λ i. (sym x.0 i, x.1 i)) mine)
    (λ (x : (j ≢ pass) × (get_elem? views j ≡ some u)). others j u x.0 x.1) (at_set views pass j w u e)

each_snoc : (F : ℕ → ChannelPassView → Type 0) (l : List ChannelPassView) (w : ChannelPassView) → ((j : ℕ) → F j w) → Each F l → Each F (l ++ w ∷ [])
each_snoc F l w new old j u e = ⊎_elim (λ (x : get_elem? l j ≡ some u). old j u x) (λ (is : w ≡ u). subst (λ (y : ChannelPassView). F j y) is (new j)) (at_snoc l w u j e)

below_more : (low : ℕ) (xs : List ℕ) → AllBelow low xs → AllBelow (suc low) xs
below_more low xs h = All-weaker (λ x. x < low) (λ x. x < suc low) (λ x le. omega arith) xs h

both_empty : (a b : List ℕ) → a ≡ [] → b ≡ [] → a ++ b ≡ []
both_empty a b p q = ap (λ (l : List ℕ). l ++ b) p ∙ q

pub begins : (C : Type 0) → IsNumbered {C = C} [] (pass_view 1024 true 0 0 [] ∷ [])
begins C = (
  0,
  0,
  0,
  refl,
  refl,
  (λ x. refl),
  refl,
  each_set (Fits 0 0 0) (pass_view 1024 true 0 0 [] ∷ []) 0 (pass_view 1024 true 0 0 []) (All-nil _, (λ _. (refl, refl)), λ e. absurd (omega arith)) (λ j u other e. absurd (other (at_end [] _ u j (λ x. some-ne-none u (sym x)) e))),
)

module _ {C : Type 0} where
  in_line_snoc : (low : ℕ) (items : List (Message C)) (count n : ℕ) (c : C) → n ≡ count → IsInLine low items count → IsInLine low (items ++ Connection n c ∷ []) (suc count)
  in_line_snoc low [] count n c e h = (e ∙ sym h, ap suc h)
  in_line_snoc low (Connection m d ∷ ms) count n c e h = (h.0, in_line_snoc (suc low) ms count n c e h.1)
  in_line_snoc low (Stop ∷ ms) count n c e h = in_line_snoc low ms count n c e h

  in_line_stop : (low : ℕ) (items : List (Message C)) (count : ℕ) → IsInLine low items count → IsInLine low (items ++ Stop ∷ []) count
  in_line_stop low [] count h = h
  in_line_stop low (Connection m d ∷ ms) count h = (h.0, in_line_stop (suc low) ms count h.1)
  in_line_stop low (Stop ∷ ms) count h = in_line_stop low ms count h

  pub sends_number : (n pass : ℕ) (v : ChannelPassView) (m : ℕ) (c : C) → v.sends ≡ true → m ≡ v.sent → Pushes IsNumbered n pass v (Connection m c) (λ w. w ≡ after_sending v (Connection m c))
  sends_number n pass v m c may number items views _ h at = let w = after_sending v (Connection m c) in let mine = h.7 pass v at in (
    w,
    (
      h.0,
      suc h.1,
      h.2,
      in_line_snoc h.0 items h.1 m c (number ∙ (mine.1 may).1) h.3,
      (let s = total_set (λ u. u.parts) views pass v w at in let p = h.4 in omega arith),
      (λ x. let s = total_set (λ u. times x u.taken) views pass v w at in let p = h.5 x in omega arith),
      (let s = total_set (λ u. length u.taken) views pass v w at in let p = h.6 in omega arith),
      each_set (Fits h.0 (suc h.1) h.2) views pass w (mine.0, (λ _. ((mine.1 may).0, ap suc (mine.1 may).1)), mine.2)
          (λ j u other e. let theirs = h.7 j u e in (theirs.0, (λ p. absurd (other ((theirs.1 p).0 ∙ sym (mine.1 may).0))), theirs.2)),
    ),
    refl,
  )

  pub sends_stop : (n pass : ℕ) (v : ChannelPassView) → Pushes (IsNumbered {C = C}) n pass v Stop (λ w. w ≡ after_sending {C = C} v Stop)
  sends_stop n pass v items views _ h at = let st : Message C = Stop in let w = after_sending v st in let mine = h.7 pass v at in (
    w,
    (
      h.0,
      h.1,
      h.2,
      in_line_stop h.0 items h.1 h.3,
      (let s = total_set (λ u. u.parts) views pass v w at in let p = h.4 in omega arith),
      (λ x. let s = total_set (λ u. times x u.taken) views pass v w at in let p = h.5 x in omega arith),
      (let s = total_set (λ u. length u.taken) views pass v w at in let p = h.6 in omega arith),
      each_set (Fits h.0 h.1 h.2) views pass w mine (λ j u other e. h.7 j u e),
    ),
    refl,
  )

  pub takes : (pass : ℕ) (v : ChannelPassView) → 0 < v.parts → Pops (IsNumbered {C = C}) pass v (λ x w. (w ≡ after_taking v x) × IsAboveTaken v x)
  takes pass v part (Connection n c) items views h at = let w = after_taking v (Connection n c) in let mine = h.7 pass v at in (
    w,
    (
      suc h.0,
      h.1,
      h.2,
      h.3.1,
      (let s = total_set (λ u. u.parts) views pass v w at in let p = h.4 in omega arith),
      (λ x. let s = total_set (λ u. times x u.taken) views pass v w at in let p = h.5 x in let q = times-append x v.taken (n ∷ []) in
          let r : times x (n ∷ []) ≡ times x (h.0 ∷ []) = ap (λ (k : ℕ). times x (k ∷ [])) h.3.0 in omega arith),
      (let s = total_set (λ u. length u.taken) views pass v w at in let p = h.6 in let q = length-append v.taken (n ∷ []) in omega arith),
      each_set (Fits (suc h.0) h.1 h.2) views pass w
          (All-append (λ x. x < suc h.0) v.taken (n ∷ []) (below_more h.0 v.taken mine.0) (All-cons (λ x. x < suc h.0) n [] (let e = h.3.0 in omega arith) (All-nil _)), mine.1, (λ e. absurd (omega arith)))
          (λ j u other e. let theirs = h.7 j u e in (below_more h.0 u.taken theirs.0, theirs.1, theirs.2)),
    ),
    (refl, All-cons (λ k. AllBelow k v.taken) n [] (subst (λ (k : ℕ). AllBelow k v.taken) (sym h.3.0) mine.0) (All-nil _)),
  )
  takes pass v part Stop items views h at = let st : Message C = Stop in let w = after_taking v st in let mine = h.7 pass v at in (
    w,
    (
      h.0,
      h.1,
      h.2,
      h.3,
      (let s = total_set (λ u. u.parts) views pass v w at in let p = h.4 in omega arith),
      (λ x. let s = total_set (λ u. times x u.taken) views pass v w at in let p = h.5 x in let q = times-append x v.taken [] in omega arith),
      (let s = total_set (λ u. length u.taken) views pass v w at in let p = h.6 in let q = length-append v.taken [] in omega arith),
      each_set (Fits h.0 h.1 h.2) views pass w
          (All-append (λ x. x < h.0) v.taken [] mine.0 (All-nil _), mine.1, (λ e. absurd (omega arith)))
          (λ j u other e. h.7 j u e),
    ),
    (refl, All-nil _),
  )

  pub forks : (pass : ℕ) (v : ChannelPassView) → 1 < v.parts → Forks (IsNumbered {C = C}) pass v (pass_view (v.parts - 1) v.sends v.sent v.stops v.taken) (pass_view 1 false 0 0 [])
  forks pass v some_parts items views h at =
      let l = pass_view (v.parts - 1) v.sends v.sent v.stops v.taken in let r = pass_view 1 false 0 0 [] in let mine = h.7 pass v at in let vs = set views pass l in (
        h.0,
        h.1,
        h.2,
        h.3,
        (let s = total_set (λ u. u.parts) views pass v l at in let t = total_snoc (λ u. u.parts) vs r in let p = h.4 in omega arith),
        (λ x. let s = total_set (λ u. times x u.taken) views pass v l at in let t = total_snoc (λ u. times x u.taken) vs r in let p = h.5 x in omega arith),
        (let s = total_set (λ u. length u.taken) views pass v l at in let t = total_snoc (λ u. length u.taken) vs r in let p = h.6 in omega arith),
        each_snoc (Fits h.0 h.1 h.2) vs r (λ j. (All-nil _, (λ p. absurd (true≢false (sym p))), λ _. refl))
            (each_set (Fits h.0 h.1 h.2) views pass l (mine.0, mine.1, (λ e. absurd (omega arith))) (λ j u other e. h.7 j u e)),
      )

  pub merges : (pass : ℕ) (v : ChannelPassView) (other : ℕ) (u : ChannelPassView) → Merges (IsNumbered {C = C}) pass v other u (pass_view (v.parts + u.parts) v.sends v.sent v.stops (v.taken ++ u.taken)) (pass_view 0 false 0 0 [])
  merges pass v other u items views h at two at' =
      let both = pass_view (v.parts + u.parts) v.sends v.sent v.stops (v.taken ++ u.taken) in let spent = pass_view 0 false 0 0 [] in
      let mine = h.7 pass v at in let vs = set views pass both in
      let was : get_elem? views other ≡ some u = ⊎_elim (λ x. absurd (two x.0)) (λ x. x.1) (at_set views pass other both u at') in
      let theirs = h.7 other u was in (
        h.0,
        h.1,
        h.2,
        h.3,
        (let s = total_set (λ u. u.parts) views pass v both at in let t = total_set (λ u. u.parts) vs other u spent at' in let p = h.4 in omega arith),
        (λ x. let s = total_set (λ u. times x u.taken) views pass v both at in let t = total_set (λ u. times x u.taken) vs other u spent at' in
            let p = h.5 x in let q = times-append x v.taken u.taken in omega arith),
        (let s = total_set (λ u. length u.taken) views pass v both at in let t = total_set (λ u. length u.taken) vs other u spent at' in
            let p = h.6 in let q = length-append v.taken u.taken in omega arith),
        each_set (Fits h.0 h.1 h.2) vs other spent (All-nil _, (λ p. absurd (true≢false (sym p))), λ _. refl)
            (λ j y apart e. each_set (Fits h.0 h.1 h.2) views pass both
            (All-append (λ x. x < h.0) v.taken u.taken mine.0 theirs.0, mine.1, (λ e. both_empty v.taken u.taken (mine.2 (omega arith)) (theirs.2 (omega arith))))
            (λ j u other e. h.7 j u e) j y e),
      )

  in_line_counts : (x low : ℕ) (items : List (Message C)) (count : ℕ) → IsInLine low items count → once_below x low + times x (numbers_of items) ≡ once_below x count
  in_line_counts x low [] count h = let e = ap (once_below x) h in omega arith
  in_line_counts x low (Connection n c ∷ ms) count h = let i = in_line_counts x (suc low) ms count h.1 in
      let r : times x (n ∷ []) ≡ times x (low ∷ []) = ap (λ (k : ℕ). times x (k ∷ [])) h.0 in omega arith
  in_line_counts x low (Stop ∷ ms) count h = in_line_counts x low ms count h

  pub learns : (pass : ℕ) (v : ChannelPassView) → v.parts ≡ 1024 → v.sends ≡ true
      → Learns (IsNumbered {C = C}) pass v (λ items. (x : ℕ) → times x v.taken + times x (numbers_of items) ≡ once_below x v.sent)
  learns pass v all may items views h at x =
      let l = lone (λ u. times x u.taken) views pass v at (h.4 ∙ sym all) (λ j u e p. ap (times x) ((h.7 j u e).2 p)) in
      let p = h.5 x in let c = in_line_counts x h.0 items h.1 h.3 in let e : once_below x v.sent ≡ once_below x h.1 = ap (once_below x) (((h.7 pass v at).1 may).1) in omega arith

  in_line_upto : (low : ℕ) (items : List (Message C)) (count : ℕ) → IsInLine low items count → low ≤ count
  in_line_upto low [] count h = let e = h in omega arith
  in_line_upto low (Connection n c ∷ ms) count h = let i = in_line_upto (suc low) ms count h.1 in omega arith
  in_line_upto low (Stop ∷ ms) count h = in_line_upto low ms count h

  pub takes_seldom : (pass : ℕ) (v : ChannelPassView) → 0 < v.parts → Pops (IsNumbered {C = C}) pass v (λ x w. TakesFew v x w)
  takes_seldom pass v part x items views h at =
      let t = takes pass v part x items views h at in let w = t.0 in let h' = t.1 in
      let at' : get_elem? (set views pass w) pass ≡ some w = set_at views pass v w at in (
        w,
        h',
        (
          t.2.0,
          t.2.1,
          λ may. (
              let sends : w.sends ≡ true = ap (λ (y : ChannelPassView). y.sends) t.2.0 ∙ may in
              let p = part_of (λ u. length u.taken) (set views pass w) pass w at' in let q = h'.6 in
              let r = in_line_upto h'.0 items h'.1 h'.3 in let e = ((h'.7 pass w at').1 sends).1 in omega arith),
        ),
      )

pub told : {C : Type 0} (v w : ChannelPassView) (m : Message C) (n : ℕ) (c : C) → m ≡ Connection n c → (w ≡ after_taking v m) × IsAboveTaken v m → (w ≡ with_taken v n) × AllBelow n v.taken
told {C} v w m n c e h =
    let P : Message C → Type 0 = λ y. (w ≡ after_taking v y) × IsAboveTaken v y in let q = subst P e h in (q.0, All-head (λ k. AllBelow k v.taken) n [] q.1)

-- a list that rises goes on to rise behind its end
pub rises_more : (xs : List ℕ) (n : ℕ) → IsStrictlyIncreasing xs → AllBelow n xs → IsStrictlyIncreasing (xs ++ n ∷ [])
rises_more xs n h b k lt = dite (dec_lt (k + 1) (length xs))
    (λ inside. let p = get_or-append xs (n ∷ []) 0 k (omega arith) in let q = get_or-append xs (n ∷ []) 0 (k + 1) inside in let r = h k inside in omega arith)
    (λ outside. let len = length-append xs (n ∷ []) in let p = get_or-append xs (n ∷ []) 0 k (omega arith) in
    let q = get_or-append_right xs (n ∷ []) (k + 1) 0 (omega arith) in
    let z : get_or (n ∷ []) (k + 1 - length xs) 0 ≡ n = ap (λ (i : ℕ). get_or (n ∷ []) i 0) (let e : k + 1 - length xs ≡ 0 = omega arith in e) in
    let r = b k 0 (omega arith) in omega arith)

-- one number more, at its end
pub once_more : (xs : List ℕ) (sent n : ℕ) → ((x : ℕ) → once_below x sent + times x xs ≡ once_below x n) → (x : ℕ) → once_below x sent + times x (xs ++ n ∷ []) ≡ once_below x (suc n)
once_more xs sent n h x = let p = h x in let q = times-append x xs (n ∷ []) in omega arith

-- what holds of the sender before number n
abbrev pub Sending : ℕ → Bool → ℕ → ℕ → List ℕ → ChannelPassView → List ℕ → Type 0
Sending parts is_open n stops taken v left =
    (v ≡ pass_view parts true v.sent stops taken) × (is_open ≡ true → v.sent ≡ n) × ((x : ℕ) → once_below x v.sent + times x left ≡ once_below x n) × (v.sent + length left ≡ n)

pub goes_on : (parts stops : ℕ) (taken : List ℕ) (sent is_open : Bool) (n : ℕ) (v w : ChannelPassView) (left left' : List ℕ)
    → Sending parts is_open n stops taken v left → IsHandedOut sent is_open n v left w left' → Sending parts sent (suc n) stops taken w left'
goes_on parts stops taken true is_open n v w left left' h e =
    let same : v.sent ≡ n = h.1 e.0 in let s : w.sent ≡ suc n = ap (λ (y : ChannelPassView). y.sent) e.1 ∙ ap suc same in (
      e.1 ∙ (let t : with_sent v ≡ pass_view parts true (suc v.sent) stops taken = ap with_sent h.0 in let u : w.sent ≡ suc v.sent = ap (λ (y : ChannelPassView). y.sent) e.1 in t ∙ ap (λ (k : ℕ). pass_view parts true k stops taken) (sym u)),
      (λ _. s),
      (λ x. let p = h.2 x in let a : times x left' ≡ times x left = ap (times x) e.2 in let b : once_below x w.sent ≡ once_below x (suc n) = ap (once_below x) s in
          let c : once_below x v.sent ≡ once_below x n = ap (once_below x) same in omega arith),
      (let l : length left' ≡ length left = ap length e.2 in let b = h.3 in omega arith),
    )
goes_on parts stops taken false is_open n v w left left' h e =
    let s : w.sent ≡ v.sent = ap (λ (y : ChannelPassView). y.sent) e.0 in (
      e.0 ∙ h.0 ∙ ap (λ (k : ℕ). pass_view parts true k stops taken) (sym s),
      (λ p. absurd (true≢false (sym p))),
      (λ x. let p = once_more left v.sent n h.2 x in let a : times x left' ≡ times x (left ++ n ∷ []) = ap (times x) e.1 in let b : once_below x w.sent ≡ once_below x v.sent = ap (once_below x) s in omega arith),
      (let l : length left' ≡ length (left ++ n ∷ []) = ap length e.1 in let b = h.3 in let k = length-append left (n ∷ []) in omega arith),
    )

pub goes_on_to : (m parts stops : ℕ) (taken : List ℕ) (sent is_open : Bool) (n : ℕ) (v w : ChannelPassView) (left left' : List ℕ)
    → m ≡ suc n → Sending parts is_open n stops taken v left → IsHandedOut sent is_open n v left w left' → Sending parts sent m stops taken w left'
goes_on_to m parts stops taken sent is_open n v w left left' e h k =
    subst (λ (y : ℕ). Sending parts sent y stops taken w left') (sym e) (goes_on parts stops taken sent is_open n v w left left' h k)

-- what holds while the rest is taken
abbrev pub Draining : ℕ → ℕ → List ℕ → List ℕ → ChannelPassView → List ℕ → Type 0
Draining sent stops first left0 v left =
    (v ≡ pass_view 1024 true sent stops v.taken) × ((x : ℕ) → times x v.taken + times x left0 ≡ times x first + times x left)
    × (length v.taken + length left0 ≡ length first + length left)

pub drained : (sent stops n : ℕ) (first : List ℕ) (v w : ChannelPassView) (left0 left left' : List ℕ)
    → Draining sent stops first left0 v left → w ≡ with_taken v n → left' ≡ left ++ n ∷ [] → Draining sent stops first left0 w left'
drained sent stops n first v w left0 left left' h e f =
    let t : w.taken ≡ v.taken ++ n ∷ [] = ap (λ (y : ChannelPassView). y.taken) e in (
      e ∙ ap (λ (y : ChannelPassView). with_taken y n) h.0 ∙ ap (pass_view 1024 true sent stops) (sym t),
      (λ x. let p = h.1 x in let q = times-append x v.taken (n ∷ []) in let r = times-append x left (n ∷ []) in
          let a : times x w.taken ≡ times x (v.taken ++ n ∷ []) = ap (times x) t in let b : times x left' ≡ times x (left ++ n ∷ []) = ap (times x) f in omega arith),
      (let p = h.2 in let q = length-append v.taken (n ∷ []) in let r = length-append left (n ∷ []) in
          let a : length w.taken ≡ length (v.taken ++ n ∷ []) = ap length t in let b : length left' ≡ length (left ++ n ∷ []) = ap length f in omega arith),
    )

-- there is room for a number that was taken
pub has_room : (sent stops n room : ℕ) (first : List ℕ) (v w : ChannelPassView) (left0 left : List ℕ)
    → Draining sent stops first left0 v left → w ≡ with_taken v n → length w.taken ≤ w.sent → sent + length left0 ≤ room → length left < room
has_room sent stops n room first v w left0 left h e few r =
    let t : length w.taken ≡ length (v.taken ++ n ∷ []) = ap (λ (y : ChannelPassView). length y.taken) e in let q = length-append v.taken (n ∷ []) in
    let s : w.sent ≡ v.sent = ap (λ (y : ChannelPassView). y.sent) e in let u : v.sent ≡ sent = ap (λ (y : ChannelPassView). y.sent) h.0 in let p = h.2 in omega arith

pub all_of-snoc : {A : Type 0} (vs : List (Vec ℕ A)) (v : Vec ℕ A) → all_of (vs ++ v ∷ []) ≡ all_of vs ++ v.items
all_of-snoc [] v = append-nil v.items
all_of-snoc (w ∷ ws) v = ap (λ (l : List ℕ). w.items ++ l) (all_of-snoc ws v) ∙ sym (append_assoc w.items (all_of ws) v.items)

pub served-snoc : {H A : Type 0} (keeps : H → H → Type 0) (handled : H → ℕ) (xs ys : List H) (vs : List (Vec ℕ A)) (a b : H) (v : Vec ℕ A)
    → HandlersServed keeps handled xs ys vs → keeps a b → handled b ≡ handled a + vec_len v → HandlersServed keeps handled (xs ++ a ∷ []) (ys ++ b ∷ []) (vs ++ v ∷ [])
served-snoc keeps handled [] [] [] a b v h k e = (k, e, tt)
served-snoc keeps handled [] [] (z ∷ zs) a b v h k e = absurd h
served-snoc keeps handled [] (y ∷ ys) [] a b v h k e = absurd h
served-snoc keeps handled [] (y ∷ ys) (z ∷ zs) a b v h k e = absurd h
served-snoc keeps handled (x ∷ xs) [] [] a b v h k e = absurd h
served-snoc keeps handled (x ∷ xs) [] (z ∷ zs) a b v h k e = absurd h
served-snoc keeps handled (x ∷ xs) (y ∷ ys) [] a b v h k e = absurd h
served-snoc keeps handled (x ∷ xs) (y ∷ ys) (z ∷ zs) a b v h k e = (h.0, h.1, served-snoc keeps handled xs ys zs a b v h.2 k e)

-- what the passes of the workers so far have given
abbrev pub Gathered : {H A K : Type 0} → (H → H → Type 0) → (H → ℕ) → (K → H) → ChannelPassView → ChannelPassView → List K → List H → List (Vec ℕ A) → Type 0
Gathered keeps handled f v0 v ks hs ts =
    (v ≡ pass_view (v0.parts + length ks) v0.sends v0.sent v0.stops (v0.taken ++ all_of ts)) × All (λ t. IsStrictlyIncreasing t.items) ts
    × (length ts ≡ length ks) × (length hs ≡ length ks) × HandlersServed keeps handled (map f ks) hs ts

abbrev pub Back : {H A : Type 0} → (H → H → Type 0) → (H → ℕ) → H → ChannelPassView → ChannelPassView → List H → List H → List (Vec ℕ A) → List (Vec ℕ A) → Type 0
Back {H} {A} keeps handled a v w hs hs' ts ts' =
    (h : H) × (t : Vec ℕ A) × (w ≡ with_pass v t.items) × IsStrictlyIncreasing t.items × (hs' ≡ hs ++ h ∷ []) × (ts' ≡ ts ++ t ∷ []) × keeps a h × (handled h ≡ handled a + vec_len t)

pub gathers : {H A K : Type 0} (keeps : H → H → Type 0) (handled : H → ℕ) (f : K → H) (v0 v w : ChannelPassView) (ks : List K) (k : K) (hs hs' : List H) (ts ts' : List (Vec ℕ A))
    → Gathered keeps handled f v0 v ks hs ts → Back keeps handled (f k) v w hs hs' ts ts' → Gathered keeps handled f v0 w (ks ++ k ∷ []) hs' ts'
gathers {H} {A} keeps handled f v0 v w ks k hs hs' ts ts' g b =
    let lk = length-append ks (k ∷ []) in let e : length ks + 1 ≡ length (ks ++ k ∷ []) = sym lk in
    let all : all_of ts' ≡ all_of ts ++ b.1.items = ap all_of b.5 ∙ all_of-snoc ts b.1 in
    let p : v0.parts + length ks + 1 ≡ v0.parts + length (ks ++ k ∷ []) = omega arith in
    let q : (v0.taken ++ all_of ts) ++ b.1.items ≡ v0.taken ++ all_of ts' = append_assoc v0.taken (all_of ts) b.1.items ∙ ap (λ (l : List ℕ). v0.taken ++ l) (sym all) in (
      b.2 ∙ ap (λ (y : ChannelPassView). with_pass y b.1.items) g.0 ∙ ap (λ (n : ℕ). pass_view n v0.sends v0.sent v0.stops ((v0.taken ++ all_of ts) ++ b.1.items)) p ∙ ap (pass_view (v0.parts + length (ks ++ k ∷ [])) v0.sends v0.sent v0.stops) q,
      subst (All (λ t. IsStrictlyIncreasing t.items)) (sym b.5) (All-push (λ t. IsStrictlyIncreasing t.items) ts b.1 g.1 b.3),
      (let l : length ts' ≡ length (ts ++ b.1 ∷ []) = ap length b.5 in let m = length-append ts (b.1 ∷ []) in let n = g.2 in omega arith),
      (let l : length hs' ≡ length (hs ++ b.0 ∷ []) = ap length b.4 in let m = length-append hs (b.0 ∷ []) in let n = g.3 in omega arith),
      (let s = served-snoc keeps handled (map f ks) hs ts (f k) b.0 b.1 g.4 b.6 b.7 in
          let P : List H → List H → List (Vec ℕ A) → Type 0 = HandlersServed keeps handled in
          subst (λ (y : List H × List H × List (Vec ℕ A)). P y.0 y.1 y.2) (λ i. (sym (map-append f ks (k ∷ [])) i, sym b.4 i, sym b.5 i)) s),
    )

-- the desks so far
abbrev pub Set_up : {H D : Type 0} → (D → H) → (D → Type 0) → List H → List D → Type 0
Set_up g fits hs ds = (map g ds ≡ hs) × All fits ds

pub sets_up : {H D : Type 0} (g : D → H) (fits : D → Type 0) (hs : List H) (h : H) (ds ds' : List D) (d : D)
    → Set_up g fits hs ds → ds' ≡ ds ++ d ∷ [] → g d ≡ h → fits d → Set_up g fits (hs ++ h ∷ []) ds'
sets_up g fits hs h ds ds' d s e same fit = (
  ap (map g) e ∙ map-append g ds (d ∷ []) ∙ (λ i. s.0 i ++ same i ∷ []),
  subst (All fits) (sym e) (All-push fits ds d s.1 fit),
)

-- what the sender knows after so many stop messages
abbrev pub Dismissing : ℕ → ℕ → ChannelPassView → ChannelPassView → Type 0
Dismissing n refused v0 v = (v ≡ pass_view v0.parts v0.sends v0.sent v.stops v0.taken) × (v.stops + refused ≡ v0.stops + n) × (refused ≤ n)
