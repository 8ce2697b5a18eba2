-- Sets take their places.
use Rattle.std.proofs.Common.{◌≡◌, ◌≢◌, ℕ, zero, suc, ◌+◌, ◌%◌, ◌<◌, ◌⊎◌, ◌∙◌, inl, inr, List, [], ◌∷◌, ◌++◌, ◌&&◌, Bool, true, false, cond, length, get_or, set, take, drop, sym, ap, subst, refl, arith, IfSome, mod-lt, add-one, length-drop, get_or-set_same, get_or-set_other}
use Rattle.std.specs.Prelude.{T}
use Rattle.std.specs.List.{All}
use Rattle.std.specs.FinMap as fin
use Rattle.std.specs.FinMap.{is_sorted, find}
use Rattle.std.specs.FinMap.Entries.{below_all}
use Rattle.std.specs.Ordering.{is_lt, is_eq, eq_by_cmp}
use Rattle.std.specs.Cmp.Lexicographic.{nat_list_eq_equiv, bytes_decides}
use Rattle.std.specs.declared.cmp.Ordering.{Ordering}
use Rattle.std.specs.declared.cmp.Ordering.TheVariants.{Less, Equal, Greater}
use Rattle.std.specs.declared.option.Option.{Option}
use Rattle.std.specs.declared.option.Option.TheVariants.{None, Some}
use Rattle.std.proofs.Math.Seq.{drop-cons, take-length}
use Rattle.std.proofs.Common.{ℤ}
use Rattle.std.proofs.lemmas.Bool.{cases_eq, true≢false}
use Rattle.std.proofs.lemmas.List.{get_or_default, get_or_push, length-map, length_push, map-set}
use Rattle.std.proofs.Math.ListN.{get_or-append}
use Rattle.std.proofs.lemmas.List.Elements.{All-push}
use Rattle.std.proofs.lemmas.List.Sums.{sum_by-cons, sum_by-set, sum_by_more}
use Rattle.std.proofs.lemmas.Map.Text.{is_eq-slice_cmp}
use Rattle.zset_core.specs.SortedSet.{Members, bytes_cmp}
use Rattle.sorted_sets.specs.SetAndOwnerViews.{SetView}
use Rattle.zset_core.specs.SetsByKey.{World}
use Rattle.set_table.specs.CellViewAndRuns.{CellView, new_cell}
use Rattle.place_names.specs.Naming.{Naming, NotesView, AreNotesOf, NamingGrows, IsPlace, name_at_place, hash_from}
use Rattle.set_table.specs.TableAndPassViews.{TableView, PassView, AreSharesOf}
use Rattle.set_table.specs.PassTallies.{ShareView}
use Rattle.table_lifetime.specs.Opening.{KeyedMembers, keyed_at, HasItsPlace, AllHavePlaces, AreEmptySets, AreIdleSets, AreNewCells, AreNewPasses, AreNewShares, IsNewPass, IsOpened, cards_of, members_of, no_pass, pass_at, sum_of_numbers}
use Rattle.place_names.proofs.PlaceLemmas.{place_grows, same_some}

first : (a b : Bool) → T (a && b) → T a
first true b p = tt
first false b p = p

second : (a b : Bool) → T (a && b) → T b
second true b p = p
second false b p = absurd p

less_of : (o : Ordering) → T (is_lt o) → o ≡ Less
less_of Less h = refl
less_of Equal h = absurd h
less_of Greater h = absurd h

-- the keys of sorted entries rise
below_at : (k : List ℕ) (es : List KeyedMembers) (i : ℕ) → T (below_all bytes_cmp k es) → i < length es → bytes_cmp k (keyed_at es i).0 ≡ Less
below_at k [] i h less = absurd (omega arith)
below_at k (e ∷ es) zero h less = less_of (bytes_cmp k e.0) (first (is_lt (bytes_cmp k e.0)) (below_all bytes_cmp k es) h)
below_at k (e ∷ es) (suc i) h less = below_at k es i (second (is_lt (bytes_cmp k e.0)) (below_all bytes_cmp k es) h) (omega arith)

rising_at : (es : List KeyedMembers) (i j : ℕ) → T (is_sorted bytes_cmp es) → j < i → i < length es → bytes_cmp (keyed_at es j).0 (keyed_at es i).0 ≡ Less
rising_at [] i j h before less = absurd (omega arith)
rising_at (e ∷ es) zero j h before less = absurd (omega arith)
rising_at (e ∷ es) (suc i) zero h before less = below_at e.0 es i (first (below_all bytes_cmp e.0 es) (is_sorted bytes_cmp es) h) (omega arith)
rising_at (e ∷ es) (suc i) (suc j) h before less = rising_at es i j (second (below_all bytes_cmp e.0 es) (is_sorted bytes_cmp es) h) (omega arith) (omega arith)

-- no key stands twice
pub keys_apart : (w : World) (i j : ℕ) → j < i → i < length (fin.entries w) → (keyed_at (fin.entries w) j).0 ≢ (keyed_at (fin.entries w) i).0
keys_apart w i j before less same =
    let es = fin.entries w in
    let k = (keyed_at es j).0 in
    let less_itself : bytes_cmp k k ≡ Less = ap (bytes_cmp k) same ∙ rising_at es i j (fin.entries_sorted w) before less in
    true≢false (sym (is_eq-slice_cmp k k ∙ nat_list_eq_equiv.refl k) ∙ ap is_eq less_itself)

-- ---- the entries that an owner still has
head_is : {X : Type 0} (x y : X) (xs ys : List X) → x ∷ xs ≡ y ∷ ys → x ≡ y
head_is x y xs ys h = cc

tail_is : {X : Type 0} (x y : X) (xs ys : List X) → x ∷ xs ≡ y ∷ ys → xs ≡ ys
tail_is x y xs ys h = cc

-- the first of the elements that are left stands at index n
pub record IsNext {X : Type 0} (xs : List X) (n : ℕ) (d x : X) (rest : List X) : Type 0 where
  pub less : n < length xs
  pub here : get_or xs n d ≡ x
  pub behind : rest ≡ drop (n + 1) xs

pub next_of : {X : Type 0} (xs : List X) (n : ℕ) (d x : X) (left rest : List X) → left ≡ drop n xs → left ≡ x ∷ rest → IsNext xs n d x rest
next_of xs n d x left rest is split =
    let at : drop n xs ≡ x ∷ rest = sym is ∙ split in
    let less : n < length xs = omega (arith, ap length at, length-drop n xs) in
    let both : get_or xs n d ∷ drop (suc n) xs ≡ x ∷ rest = sym (drop-cons xs n d less) ∙ at in
    record {
      less = less;
      here = head_is _ _ _ _ both;
      behind = sym (tail_is _ _ _ _ both) ∙ ap (λ k. drop k xs) (sym (add-one n));
    }

abbrev pub no_entry : KeyedMembers
no_entry = ([], fin.empty)

pub none_left : (es : List KeyedMembers) (n : ℕ) (w : World) → n < length es → fin.entries w ≡ drop n es → w ≡ fin.empty → ⊥
none_left es n w less is empty =
    let none : length (fin.entries w) ≡ 0 = sym (fin.len-entries w) ∙ ap fin.len empty ∙ fin.len-empty bytes_cmp Members in
    omega (arith, less, none, ap length is, length-drop n es)

-- ---- a set takes its place
place_within : (names : Naming) (key : List ℕ) (p : ℕ) → IsPlace names key p → p < length names
place_within names key p place =
    let some : 0 < length names = omega (arith, place.within) in
    subst (λ (q : ℕ). q < length names) place.is (mod-lt (hash_from 7 key % length names + place.step) some)

-- a place with members bears the key of one of the first n entries
abbrev pub Filled : List KeyedMembers → ℕ → Naming → List ℕ → Type 0
Filled es n known opened = (p : ℕ) → (get_or opened p 0 ≡ 0) ⊎ ((j : ℕ) × (j < n) × (name_at_place known p ≡ Some (keyed_at es j).0))

-- the first n entries stand in their places, and nothing else does
pub record Placed (es : List KeyedMembers) (n : ℕ) (known : Naming) (opened : List ℕ) : Type 0 where
  pub each : (i : ℕ) → i < n → HasItsPlace known opened (keyed_at es i).0 (keyed_at es i).1
  pub total : sum_of_numbers opened ≡ members_of (take n es)
  pub filled : Filled es n known opened

-- the next entry was given a place
pub record Step (w : World) (n : ℕ) (old new : Naming) (opened : List ℕ) (p : ℕ) : Type 0 where
  pub less : n < length (fin.entries w)
  pub grows : NamingGrows old new
  pub places_are : length new ≡ length opened
  pub place : IsPlace new (keyed_at (fin.entries w) n).0 p
  pub placed : Placed (fin.entries w) n old opened

free : (w : World) (n : ℕ) (old new : Naming) (opened : List ℕ) (p : ℕ) → Step w n old new opened p → get_or opened p 0 ≡ 0
free w n old new opened p s = elim (s.placed.filled p) [
  | inl e ↦ e
  | inr h ↦ absurd (keys_apart w n h.0 h.1 s.less (same_some _ _ (name_at_place new p) (s.grows.same p _ h.2) s.place.own))
]

size_at : World → ℕ → ℕ
size_at w n = fin.len (keyed_at (fin.entries w) n).1

filled_more : (w : World) (n : ℕ) (old new : Naming) (opened : List ℕ) (p size : ℕ) → Step w n old new opened p → Filled (fin.entries w) (n + 1) new (set opened p size)
filled_more w n old new opened p size s q = elim (cases_eq q p) [
  | inl e ↦ inr (n, omega arith, ap (name_at_place new) e ∙ s.place.own)
  | inr ne ↦ elim (s.placed.filled q) [
    | inl z ↦ inl (get_or-set_other opened p q size 0 ne ∙ z)
    | inr h ↦ inr (h.0, omega (arith, h.1), s.grows.same q _ h.2)
  ]
]

pub placed_more : (w : World) (n : ℕ) (old new : Naming) (opened : List ℕ) (p : ℕ) → Step w n old new opened p → Placed (fin.entries w) (n + 1) new (set opened p (fin.len (keyed_at (fin.entries w) n).1))
placed_more w n old new opened p s =
    let es = fin.entries w in
    let within : p < length opened = omega (arith, place_within new (keyed_at es n).0 p s.place, s.places_are) in
    let size = fin.len (keyed_at es n).1 in
    let all = sum_by-set (λ (m : ℕ). m) opened p size 0 within in
    let more = sum_by_more (λ (e : KeyedMembers). fin.len e.1) es n ([], fin.empty) s.less in
    record {
      each = λ i less. elim (cases_eq i n) [
        | inl e ↦ subst (λ (k : ℕ). HasItsPlace new (set opened p size) (keyed_at es k).0 (keyed_at es k).1) (sym e) (record { place = p; is = s.place; size = get_or-set_same opened p size 0 within })
        | inr ne ↦
            let below : i < n = omega (arith, ne) in
            let h = s.placed.each i below in
            let place = place_grows old new _ h.place s.grows h.is in
            let apart : h.place ≢ p = λ e. keys_apart w n i below s.less (same_some _ _ (name_at_place new p) (ap (name_at_place new) (sym e) ∙ place.own) s.place.own) in
            record { place = h.place; is = place; size = get_or-set_other opened p h.place size 0 apart ∙ h.size }
      ];
      total = omega (arith, all, more, free w n old new opened p s, s.placed.total);
      filled = filled_more w n old new opened p size s;
    }

-- the same of the sets at the places
pub took : (w : World) (n : ℕ) (old new : Naming) (sets : List SetView) (p : ℕ) (key : List ℕ) (s : SetView) (left : List KeyedMembers) → IsNext (fin.entries w) n no_entry (key, s.members) left → NamingGrows old new → length new ≡ length sets → IsPlace new key p
    → Placed (fin.entries w) n old (cards_of sets) → Placed (fin.entries w) (n + 1) new (cards_of (set sets p s))
took w n old new sets p key s left next grows places place placed =
    let es = fin.entries w in
    let step : Step w n old new (cards_of sets) p = record {
      less = next.less;
      grows = grows;
      places_are = places ∙ sym (length-map sets (λ (s : SetView). fin.len s.members));
      place = subst (λ (k : List ℕ). IsPlace new k p) (sym (ap (λ (e : KeyedMembers). e.0) next.here)) place;
      placed = placed;
    } in
    subst (Placed es (n + 1) new) (ap (λ (e : KeyedMembers). set (cards_of sets) p (fin.len e.1)) next.here ∙ sym (map-set (λ (s : SetView). fin.len s.members) sets p s)) (placed_more w n old new (cards_of sets) p step)

-- ---- before the first set, and behind the last
pub no_members : (sets : List SetView) → All (λ (s : SetView). s.members ≡ fin.empty) sets → (p : ℕ) → get_or (cards_of sets) p 0 ≡ 0
no_members [] h p = refl
no_members (s ∷ sets) h zero = ap fin.len (h 0 s (omega arith)) ∙ fin.len-empty bytes_cmp ℤ
no_members (s ∷ sets) h (suc p) = no_members sets (λ k d less. h (suc k) d (omega (arith, less))) p

pub no_sum : (sets : List SetView) → All (λ (s : SetView). s.members ≡ fin.empty) sets → sum_of_numbers (cards_of sets) ≡ 0
no_sum [] h = refl
no_sum (s ∷ sets) h =
    let none : fin.len s.members ≡ 0 = ap fin.len (h 0 s (omega arith)) ∙ fin.len-empty bytes_cmp ℤ in
    let rest = no_sum sets (λ k d less. h (suc k) d (omega (arith, less))) in
    sum_by-cons (λ (n : ℕ). n) (fin.len s.members) (cards_of sets) ∙ omega (arith, none, rest)

pub placed_none : (es : List KeyedMembers) (known : Naming) (sets : List SetView) → All (λ (s : SetView). s.members ≡ fin.empty) sets → Placed es 0 known (cards_of sets)
placed_none es known sets h = record {
  each = λ i less. absurd (omega (arith, less));
  total = no_sum sets h;
  filled = λ p. inl (no_members sets h p);
}

found_each : (P : List ℕ → Members → Type 0) (es : List KeyedMembers) → ((i : ℕ) → i < length es → P (keyed_at es i).0 (keyed_at es i).1) → (q : List ℕ) → IfSome (find bytes_cmp q es) (P q)
found_each P [] h q = tt
found_each P (e ∷ es) h q = by (eq_by_cmp bytes_cmp q e.0) refl (found_each P es (λ i less. h (suc i) (omega (arith, less))) q)
  where
    by : (b : Bool) → eq_by_cmp bytes_cmp q e.0 ≡ b → IfSome (find bytes_cmp q es) (P q) → IfSome (cond b (Some e.1) (find bytes_cmp q es)) (P q)
    by true t rest = subst (λ (k : List ℕ). P k e.1) (sym ((bytes_decides q e.0).0 (sym (is_eq-slice_cmp q e.0) ∙ t))) (h zero (omega arith))
    by false t rest = rest

pub all_have : (w : World) (n : ℕ) (known : Naming) (opened : List ℕ) → n ≡ length (fin.entries w) → Placed (fin.entries w) n known opened → AllHavePlaces w known opened
all_have w n known opened all placed key =
    subst (λ (o : Option Members). IfSome o (HasItsPlace known opened key)) (sym (fin.get-entries w key))
    (found_each (HasItsPlace known opened) (fin.entries w) (λ i less. placed.each i (omega (arith, less, all))) key)

pub all_counted : (w : World) (n : ℕ) (known : Naming) (opened : List ℕ) → n ≡ length (fin.entries w) → Placed (fin.entries w) n known opened → sum_of_numbers opened ≡ members_of (fin.entries w)
all_counted w n known opened all placed = placed.total ∙ ap (λ k. members_of (take k (fin.entries w))) all ∙ ap members_of (take-length (fin.entries w))

-- ---- lists of sets
pub empty_more : (n : ℕ) (sets more : List SetView) (s : SetView) → more ≡ sets ++ s ∷ [] → s.members ≡ fin.empty → s.next ≡ None → AreEmptySets n sets → AreEmptySets (n + 1) more
empty_more n sets more s is none idle h = subst (AreEmptySets (n + 1)) (sym is) (record {
  count_is = length_push sets s ∙ ap (λ k. k + 1) h.count_is;
  idle = All-push (λ (s : SetView). s.next ≡ None) sets s h.idle idle;
  each = All-push (λ (s : SetView). s.members ≡ fin.empty) sets s h.each none;
})

pub idle_at : (sets : List SetView) (n : ℕ) (s : SetView) (rest : List SetView) → AreIdleSets sets → IsNext sets n s s rest → s.next ≡ None
idle_at sets n s rest idle next = sym (ap (λ (t : SetView). t.next) next.here) ∙ idle n s next.less

pub after_push : {X : Type 0} (xs more : List X) (x : X) → more ≡ xs ++ x ∷ [] → length more ≡ length xs + 1
after_push xs more x is = ap length is ∙ length_push xs x

-- the cells that are made so far
abbrev pub NewSoFar : ℕ → ℕ → List SetView → List CellView → Type 0
NewSoFar max_runs passes sets cells = (place : ℕ) (set : SetView) (cell : CellView) → place < length cells → get_or cells place cell ≡ new_cell place (get_or sets place set) max_runs passes 0

pub one_made : (max_runs passes : ℕ) (sets : List SetView) (cells more : List CellView) (cell : CellView) (share place : ℕ) (set : SetView) (rest : List SetView) → IsNext sets (length cells) set set rest → more ≡ cells ++ cell ∷ [] → cell ≡ new_cell place set max_runs passes share → share ≡ 0
    → place ≡ length cells → NewSoFar max_runs passes sets cells → NewSoFar max_runs passes sets more
one_made max_runs passes sets cells more cell share place set rest next is new none at made p s d less =
    let size : length more ≡ length cells + 1 = after_push cells more cell is in
    elim (cases_eq p (length cells)) [
      | inl e ↦
          let here : cell ≡ new_cell p (get_or sets p s) max_runs passes 0 =
          new ∙ ap (λ n. new_cell place set max_runs passes n) none ∙ ap (λ n. new_cell n set max_runs passes 0) (at ∙ sym e)
          ∙ ap (λ t. new_cell p t max_runs passes 0) (sym next.here ∙ get_or_default sets (length cells) set s next.less ∙ ap (λ n. get_or sets n s) (sym e)) in
          ap (λ l. get_or l p d) is ∙ get_or_push cells cell d p (sym e) ∙ here
      | inr ne ↦
          let below : p < length cells = omega (arith, less, size, ne) in
          ap (λ l. get_or l p d) is ∙ get_or-append cells (cell ∷ []) d p below ∙ made p s d below
    ]

pub all_made : (max_runs passes : ℕ) (sets : List SetView) (cells : List CellView) → length cells ≡ length sets → NewSoFar max_runs passes sets cells → AreNewCells max_runs passes sets cells
all_made max_runs passes sets cells count made = record { count = count; each = λ p s d less. made p s d (omega (arith, less, count)) }

-- ---- the table and its passes
-- the table's lists are of one length
pub record Sized (places : ℕ) (names opened : List ℕ) (cells : ℕ) : Type 0 where
  pub names_are : length names ≡ length opened
  pub cells_are : cells ≡ length opened
  pub places_are : length opened ≡ places

pub sized : (places cells : ℕ) (names opened : List ℕ) (sets : List SetView) → length names ≡ places → length sets ≡ length names → opened ≡ cards_of sets → cells ≡ length sets → Sized places names opened cells
sized places cells names opened sets named placed is made =
    let all : length opened ≡ length sets = ap length is ∙ length-map sets (λ (s : SetView). fin.len s.members) in
    record { names_are = sym placed ∙ sym all; cells_are = made ∙ sym all; places_are = all ∙ placed ∙ named }

pub opened_table : (w : World) (places passes max_runs records before : ℕ) (names opened cards : List ℕ) → length opened ≡ places → opened ≡ cards → before ≡ records → sum_of_numbers cards ≡ members_of (fin.entries w)
    → IsOpened w places passes max_runs records (record { names = names; opened = opened; passes = passes; max_runs = max_runs; records_before = before })
opened_table w places passes max_runs records before names opened cards sizes is same sum = record {
  places_are = sizes;
  members = ap sum_of_numbers is ∙ sum;
  passes_are = refl;
  max_runs_is = refl;
  records_are = same;
}

shares_of : (opened : List ℕ) (number : ℕ) (shares : List ShareView) → AreNewShares opened number shares → AreSharesOf opened number shares
shares_of opened number shares h = record {
  places = h.places;
  each = λ place less.
      let at = h.each place less in
      record { place_is = ap (λ (s : ShareView). s.place) at; pass_is = ap (λ (s : ShareView). s.pass) at; opened_is = ap (λ (s : ShareView). s.opened) at };
}

pub new_passes_of : (w : World) (table : TableView) (notes : NotesView) (passes : List PassView) → length passes ≡ table.passes → AreNotesOf table.names notes → AllHavePlaces w notes.known table.opened
    → ((i : ℕ) → i < table.passes → IsNewPass table.opened notes i (pass_at passes i)) → AreNewPasses table w passes
new_passes_of w table notes passes count own known each =
    let at : (i : ℕ) → i < length passes → IsNewPass table.opened notes i (pass_at passes i) = λ i less. each i (omega (arith, less, count)) in
    record {
      count = count;
      number = λ i less. (at i less).number_is;
      own = λ i less. let p = at i less in record {
        notes = subst (AreNotesOf table.names) (sym p.notes_are) own;
        shares = subst (λ (n : ℕ). AreSharesOf table.opened n (pass_at passes i).shares) (sym p.number_is) (shares_of table.opened i (pass_at passes i).shares p.shares);
      };
      shares = λ i less. (at i less).shares;
      know = λ i less. subst (λ (v : NotesView). AllHavePlaces w v.known table.opened) (sym (at i less).notes_are) known;
    }

-- one pass more, with the next number
pub one_pass_more : (opened : List ℕ) (notes : NotesView) (passes more : List PassView) (pass : PassView) (number : ℕ) → length passes ≡ number → more ≡ passes ++ pass ∷ [] → IsNewPass opened notes number pass
    → ((i : ℕ) → i < number → IsNewPass opened notes i (pass_at passes i)) → (i : ℕ) → i < number + 1 → IsNewPass opened notes i (pass_at more i)
one_pass_more opened notes passes more pass number count is new each i less =
    elim (cases_eq i number) [
      | inl e ↦
          let here : pass_at more i ≡ pass = ap (λ (l : List PassView). pass_at l i) is ∙ get_or_push passes pass no_pass i (count ∙ sym e) in
          subst (λ (p : PassView). IsNewPass opened notes i p) (sym here) (subst (λ (n : ℕ). IsNewPass opened notes n pass) (sym e) new)
      | inr ne ↦
          let below : i < number = omega (arith, less, ne) in
          let here : pass_at more i ≡ pass_at passes i = ap (λ (l : List PassView). pass_at l i) is ∙ get_or-append passes (pass ∷ []) no_pass i (omega (arith, below, count)) in
          subst (λ (p : PassView). IsNewPass opened notes i p) (sym here) (each i below)
    ]
