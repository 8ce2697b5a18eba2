-- A pass learns a name.
use Rattle.std.proofs.Common.{◌≡◌, ◌≢◌, ℕ, ◌+◌, ◌-◌, ◌%◌, ◌<◌, ◌⊎◌, inl, inr, List, [], ◌∷◌, ◌++◌, take, length, map, get_or, set, mod-lt, mod-eq_of_lt, sym, ap, ◌∙◌, refl, subst, arith, get_or-set_same, get_or-set_other, length-set, MatchOption, MatchResult, Result, Ok, Err}
use Rattle.std.proofs.lemmas.List.{get_or-map, length-map, map-set, map_push, take_more}
use Rattle.std.proofs.Math.Seq.{map-set_same}
use Rattle.std.proofs.Math.Nat.{add-mod_right}
use Rattle.std.proofs.Common.{Bool, false, rules}
use Rattle.std.specs.Bool.{IsTrue}
use Rattle.std.proofs.lemmas.Bool.{cases_eq, cases_order, cases_lt}
use Rattle.std.specs.declared.option.Option.{Option}
use Rattle.std.specs.declared.option.Option.TheVariants.{None, Some}
use Rattle.once_cell.specs.Once.{Agrees}
use Rattle.place_names.specs.Naming.{Naming, name_at_place, NamingGrows, Learns, BearsOther, IsPlace, AreNotesOf, IsFull, walk, hash_from}

agreed : (k : Option (List ℕ)) (x y : List ℕ) → Agrees k x → k ≡ Some y → y ≡ x
agreed None x y h e = cc
agreed (Some z) x y h e = cc

abbrev Known : Type 0
Known = Option (List ℕ)

some_same : (x y : List ℕ) (a b : Known) → a ≡ Some x → b ≡ Some y → a ≡ b → x ≡ y
some_same x y a b p q e = cc

none_some : (x : List ℕ) (a : Known) → a ≡ Some x → a ≡ None → ⊥
none_some x a p q = cc

-- a name put where none or the same was known
pub learns-set : (old : Naming) (p : ℕ) (x : List ℕ) → p < length old → Agrees (name_at_place old p) x → Learns old (set old p (Some x)) p x
learns-set old p x within same =
    let keeps : (q : ℕ) (y : List ℕ) → name_at_place old q ≡ Some y → (q ≡ p) ⊎ (q ≡ p → ⊥) → name_at_place (set old p (Some x)) q ≡ Some y =
    λ q y h c. elim c [
      | inl e ↦ subst (λ (r : ℕ). name_at_place (set old p (Some x)) r ≡ Some y) (sym e) (get_or-set_same old p (Some x) None within ∙ ap Some (sym (agreed (name_at_place old p) x y same (ap (name_at_place old) (sym e) ∙ h))))
      | inr n ↦ get_or-set_other old p q (Some x) None n ∙ h
    ] in
    record {
      grows = record { places = length-set old p (Some x); same = λ q y h. keeps q y h (cases_eq q p) };
      here = get_or-set_same old p (Some x) None within;
    }

-- the same for a list of which f tells the names
pub seat_learns : {S : Type 0} (f : S → Option (List ℕ)) (xs : List S) (p : ℕ) (s t : S) (x : List ℕ)
    → p < length xs → s ≡ get_or xs p s → f t ≡ Some x → Agrees (f s) x
    → Learns (map f xs) (map f (set xs p t)) p x
seat_learns f xs p s t x within at is same =
    let within' : p < length (map f xs) = subst (λ (n : ℕ). p < n) (sym (length-map xs f)) within in
    let e : map f (set xs p t) ≡ set (map f xs) p (Some x) = map-set f xs p t ∙ ap (set (map f xs) p) is in
    let old : name_at_place (map f xs) p ≡ f s = get_or-map f xs p s None within ∙ ap f (sym at) in
    subst (λ (ys : Naming). Learns (map f xs) ys p x) (sym e) (learns-set (map f xs) p x within' (subst (λ (k : Option (List ℕ)). Agrees k x) (sym old) same))

-- the two cells of a note and of its place are one
pub same_cell : {S T : Type 0} (f : S → ℕ) (g : T → ℕ) (xs : List S) (ys : List T) (p : ℕ) (s : S) (t : T)
    → map f xs ≡ map g ys → p < length ys → s ≡ get_or xs p s → t ≡ get_or ys p t → f s ≡ g t
same_cell f g xs ys p s t e within at at' =
    let lengths : length xs ≡ length ys = sym (length-map xs f) ∙ ap length e ∙ length-map ys g in
    ap f at ∙ sym (get_or-map f xs p s 0 (omega arith)) ∙ ap (λ zs. get_or zs p 0) e ∙ get_or-map g ys p t 0 within ∙ sym (ap g at')

pub peeked : {S : Type 0} (f : S → Option (List ℕ)) (xs : List S) (p : ℕ) (s t : S) (r : Option (denote.Bor.Bor (List ℕ)))
    → p < length xs → s ≡ get_or xs p s
    → MatchOption r ((f s ≡ None) × (f t ≡ None)) (λ r. (f t ≡ Some r.now) × Agrees (f s) r.now)
    → MatchOption r ((name_at_place (map f xs) p ≡ None) × (map f (set xs p t) ≡ map f xs)) (λ r. Learns (map f xs) (map f (set xs p t)) p r.now)
peeked f xs p s t None within at h = (get_or-map f xs p s None within ∙ ap f (sym at) ∙ h.0, map-set_same f xs p t s (h.1 ∙ sym h.0 ∙ ap f at))
peeked f xs p s t (Some r) within at h = seat_learns f xs p s t r.now within at h.0 h.1

pub settled : {S E : Type 0} (f : S → Option (List ℕ)) (xs : List S) (p : ℕ) (s t : S) (r : Result (denote.Bor.Bor (List ℕ)) E)
    → p < length xs → s ≡ get_or xs p s
    → MatchResult r (λ r. (f t ≡ Some r.now) × Agrees (f s) r.now) (λ _. (f s ≡ None) × (f t ≡ None))
    → MatchResult r (λ r. Learns (map f xs) (map f (set xs p t)) p r.now) (λ _. map f (set xs p t) ≡ map f xs)
settled f xs p s t (Err _) within at h = map-set_same f xs p t s (h.1 ∙ sym h.0 ∙ ap f at)
settled f xs p s t (Ok r) within at h = seat_learns f xs p s t r.now within at h.0 h.1

-- the pass is still the table's, with another seat of the same cell
pub still_own : {S T : Type 0} (f : S → ℕ) (g : S → Option (List ℕ)) (h : T → ℕ) (xs : List S) (ys : List T) (p : ℕ) (s t : S) (cells : List ℕ)
    → s ≡ get_or xs p s → f t ≡ f s → map f xs ≡ cells
    → AreNotesOf cells (record { names = map f (set xs p t); known = map g (set xs p t) })
still_own f g h xs ys p s t cells at same own =
    let e : map f (set xs p t) ≡ map f xs = map-set_same f xs p t s (same ∙ ap f at) in
    record {
      names_are = e ∙ own;
      places = length-map (set xs p t) g ∙ length-set xs p t ∙ sym (length-map xs f) ∙ ap length own;
    }

-- the first i places of the walk bear other names
abbrev pub Passed : Naming → List ℕ → ℕ → Type 0
Passed names key i = (j : ℕ) → j < i → BearsOther names key (walk (length names) key j)

pub passed_grows : (old new : Naming) (key : List ℕ) (i : ℕ) → NamingGrows old new → Passed old key i → Passed new key i
passed_grows old new key i g h j less =
    let o = h j less in
    subst (λ (n : ℕ). BearsOther new key (walk n key j)) (sym g.places) (o.0, g.same _ _ o.1, o.2)

pub passed_more : (names : Naming) (key : List ℕ) (i : ℕ) → Passed names key i → BearsOther names key (walk (length names) key i) → Passed names key (i + 1)
passed_more names key i h o j less = elim (cases_eq j i) [ inl e ↦ subst (λ (k : ℕ). BearsOther names key (walk (length names) key k)) (sym e) o | inr n ↦ h j (omega arith) ]

pub grows_on : (a b c : Naming) → NamingGrows a b → NamingGrows b c → NamingGrows a c
grows_on a b c g h = record { places = h.places ∙ g.places; same = λ p x e. h.same p x (g.same p x e) }

-- no place of the key was known that the walk has passed
pub none_passed : (old new : Naming) (key : List ℕ) (i p : ℕ) → NamingGrows old new → Passed new key i → (place : IsPlace old key p) → place.step < i → ⊥
none_passed old new key i p g h place less =
    let o = h place.step less in
    let e : name_at_place new (walk (length old) key place.step) ≡ Some key = g.same _ _ (ap (name_at_place old) place.is ∙ place.own) in
    let e' : name_at_place new (walk (length new) key place.step) ≡ Some key = subst (λ (n : ℕ). name_at_place new (walk n key place.step) ≡ Some key) (sym g.places) e in
    o.2 (some_same o.0 key _ _ o.1 e' refl)

-- nor one where the walk has met a place with no name
pub none_here : (old new : Naming) (key : List ℕ) (i p : ℕ) → NamingGrows old new → Passed new key i → name_at_place new (walk (length new) key i) ≡ None → IsPlace old key p → ⊥
none_here old new key i p g h none place =
    let clash : (x : List ℕ) → name_at_place old (walk (length old) key i) ≡ Some x → ⊥ =
    λ x e. none_some x _ (subst (λ (n : ℕ). name_at_place new (walk n key i) ≡ Some x) (sym g.places) (g.same _ x e)) none in
    elim (cases_order place.step i) [
      | inl e ↦ clash key (ap (λ j. name_at_place old (walk (length old) key j)) (sym e) ∙ ap (name_at_place old) place.is ∙ place.own)
      | inr c ↦ elim c [ inl less ↦ none_passed old new key i p g h place less | inr more ↦ let o = place.before i more in clash o.0 o.1 ]
    ]

-- the walk meets every place
pub walk_meets : (n : ℕ) (key : List ℕ) (p : ℕ) → p < n → (j : ℕ) × (j < n) × (walk n key j ≡ p)
walk_meets n key p less =
    let s = hash_from 7 key % n in
    let some : 0 < n = omega arith in
    let below : s < n = mod-lt (hash_from 7 key) some in
    elim (cases_lt p s) [
      | inl before ↦ let e : s + (p + n - s) ≡ p + n = omega arith in (p + n - s, omega arith, ap (λ k. k % n) e ∙ add-mod_right p n ∙ mod-eq_of_lt less)
      | inr after ↦ let e : s + (p - s) ≡ p = omega arith in (p - s, omega arith, ap (λ k. k % n) e ∙ mod-eq_of_lt less)
    ]

pub full : (names : Naming) (key : List ℕ) (n : ℕ) → n ≡ length names → Passed names key n → IsFull names key
full names key n e h p less =
    let m = walk_meets (length names) key p less in
    subst (λ (q : ℕ). BearsOther names key q) m.2 (h m.0 (omega (arith, m.1)))

-- the walk ends at a name that is the key
pub found_at : (old new : Naming) (key : List ℕ) (n i p : ℕ) (x : List ℕ) → Passed old key i → Learns old new p x → x ≡ key → p ≡ walk n key i → length new ≡ n → i < n → IsPlace new key p
found_at old new key n i p x h l e at places less =
    record {
      step = i;
      within = omega (arith, places);
      is = ap (λ m. walk m key i) places ∙ sym at;
      own = l.here ∙ ap Some e;
      before = passed_grows old new key i l.grows h;
    }

-- or it goes on
pub went_on : (old new : Naming) (key : List ℕ) (n i p : ℕ) (x : List ℕ) → Passed old key i → Learns old new p x → (x ≡ key → ⊥) → p ≡ walk n key i → length new ≡ n → Passed new key (i + 1)
went_on old new key n i p x h l ne at places =
    passed_more new key i (passed_grows old new key i l.grows h)
    (x, ap (name_at_place new) (ap (λ m. walk m key i) places ∙ sym at) ∙ l.here, ne)

-- or it passes a place by whose name is known to be another
pub went_by : (names : Naming) (key : List ℕ) (n i p : ℕ) → Passed names key i → BearsOther names key p → p ≡ walk n key i → length names ≡ n → Passed names key (i + 1)
went_by names key n i p h o at places =
    passed_more names key i h (subst (λ (q : ℕ). BearsOther names key q) (at ∙ ap (λ m. walk m key i) (sym places)) o)

-- a name with another hash is another
pub other_hash : (x key : List ℕ) (h k : ℕ) → h ≡ hash_from 7 x → k ≡ hash_from 7 key → h ≢ k → x ≡ key → ⊥
other_hash x key h k hx hk apart same = apart (hx ∙ ap (hash_from 7) same ∙ sym hk)

-- a test that answered no
pub told_apart : {P : Type 0} (b : Bool) → (P → IsTrue b) → b ≡ false → P → ⊥
told_apart b h e p = let t = h p in let s : IsTrue false = subst (λ (d : Bool). IsTrue d) e t in search rules

-- one note more, of the next cell
pub noted : {S T : Type 0} (f : S → ℕ) (g : T → ℕ) (ss : List S) (ts : List T) (at : ℕ) (s : S) (t : T) (self : List ℕ)
    → self ≡ map g ts → t ≡ get_or ts at t → at < length ts → f s ≡ g t → map f ss ≡ take at self → map f (ss ++ s ∷ []) ≡ take (at + 1) self
noted f g ss ts at s t self e is less same h =
    let len : length self ≡ length ts = ap length e ∙ length-map ts g in
    let here : f s ≡ get_or self at 0 = same ∙ ap g is ∙ sym (get_or-map g ts at t 0 less) ∙ ap (λ zs. get_or zs at 0) (sym e) in
    map_push f ss s ∙ ap (λ zs. zs ++ f s ∷ []) h ∙ ap (λ x. take at self ++ x ∷ []) here ∙ sym (take_more self at 0 (omega (arith, len)))
