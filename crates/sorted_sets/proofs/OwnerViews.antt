-- What an owner shows of one of its sets.
use Rattle.std.proofs.Common.{◌≡◌, ℕ, Bool, true, false, cond, List, [], ◌∷◌, Option, None, Some, IsSome, IfSome, MatchOption, option_map, option_and_then, refl, sym, ap, subst, ◌∙◌, true≢false}
use Rattle.std.proofs.Common.{◌&&◌, ◌+◌, ◌≤◌, map, length, drop, zero, suc, slice_get, arith, add-one}
use Rattle.std.proofs.lemmas.Option.{slice_get-map}
use Rattle.std.proofs.Common.{not, filter}
use Rattle.std.specs.List.{find as find_in}
use Rattle.std.specs.Prelude.{T}
use Rattle.std.specs.List.{AllByRecursion}
use Rattle.std.specs.List.Sorted.{IsStrictlySortedBy}
use Rattle.std.specs.Map.{keys_of}
use Rattle.std.specs.Ordering.{eq_by_cmp, is_lt}
use Rattle.std.specs.FinMap.{is_sorted, find}
use Rattle.std.specs.FinMap.Entries.{below_all}
use Rattle.std.specs.declared.vec.Vec.{Vec}
use Rattle.std.specs.declared.cmp.Ordering.TheVariants.{Less}
use Rattle.std.proofs.lemmas.List.{length-map}
use Rattle.sorted_sets.proofs.Bridge.{total, exact}
use Rattle.std.specs.Borrow.{Bor}
use Rattle.std.specs.Option.{option_copied}
use Rattle.std.specs.Str.{bytes_eq}
use Rattle.std.specs.Cmp.Lexicographic.{bytes_decides}
use Rattle.std.specs.FinMap as fin
use Rattle.std.specs.declared.snapshot.Snapshot.{Snapshot}
use Rattle.zset_core.specs.SortedSet.{Members, bytes_cmp}
use Rattle.zset_commands.specs.AbstractCommand.{Asked, key_of}
use Rattle.sorted_sets.specs.SetAndOwnerViews.{SetView, Next, OwnerView, next_for, IsSetAt, HasNoSet}
use Rattle.zset_core.specs.SetsByKey.{World, set_at}
use Rattle.sorted_sets.specs.OwnerViewAndInvariant.{Keyed, world_of, set_keys, KeysRise, set_in, next_at, IsResting, AllRest, IsHeld, owner_view, IsOwned}
use Rattle.sorted_sets.proofs.Worlds.{keyed, key_cmp, filled_view, get_world, set_at_entry, set_at_none, next_here}

pub match_of : (r : Option (Bor SetView)) (o : Option SetView) (P : Type 0) (Q : SetView → Type 0) → option_copied r ≡ o → (o ≡ None → P) → ((s : SetView) → o ≡ Some s → Q s) → MatchOption r P (λ b. Q b.now)
match_of None o P Q is none some = none (sym is)
match_of (Some b) o P Q is none some = some b.now (sym is)

-- the rows of the finite map that entries make
abbrev pub row_of : {A : Type 0} → Keyed A → List ℕ × Members
row_of e = (e.0.items, e.1.members)

abbrev pub rows_of : {A : Type 0} → List (Keyed A) → List (List ℕ × Members)
rows_of {A} es = map (row_of {A = A}) es

-- the order of bytes, for a finite map's list
below_rows : {A : Type 0} (k : Vec ℕ A) (es : List (Keyed A)) → AllByRecursion (λ y. key_cmp k y ≡ Less) (keys_of es) → T (below_all bytes_cmp k.items (rows_of es))
below_rows k [] h = tt
below_rows k (e ∷ es) h = subst (λ o. T (is_lt o && below_all bytes_cmp k.items (rows_of es))) (sym h.0) (below_rows k es h.1)

sorted_rows : {A : Type 0} (es : List (Keyed A)) → IsStrictlySortedBy key_cmp (keys_of es) → T (is_sorted bytes_cmp (rows_of es))
unfolding IsStrictlySortedBy
sorted_rows [] h = tt
sorted_rows (e ∷ es) h = both (below_all bytes_cmp e.0.items (rows_of es)) (is_sorted bytes_cmp (rows_of es)) (below_rows e.0 es h.0) (sorted_rows es h.1)
  where
    both : (a b : Bool) → T a → T b → T (a && b)
    both true b x y = y
    both false b x y = x

module _ {A : Type 0} where
  -- the next of one set, by what the owner shows
  next_held : (es : List (Keyed A)) (k : Option (List ℕ)) (q : List ℕ) (s : SetView) → IsHeld es k → set_in es q ≡ Some s → s.next ≡ next_for (next_at es k) q
  next_held es None q s h at = absurd h
  next_held es (Some k) q s h at = by (bytes_eq k q) refl
    where
      here : (shown : Option Next) → IsSome (option_map (keyed k) shown) → bytes_eq k q ≡ true → shown ≡ next_for (option_map (keyed k) shown) q
      here None h e = cc
      here (Some next) h e = sym (ap (λ b. cond b (Some next) None) e)

      by : (b : Bool) → bytes_eq k q ≡ b → s.next ≡ next_for (next_at es (Some k)) q
      by true e =
          let at_key : set_in es k ≡ Some s = ap (set_in es) ((bytes_decides k q).0 e) ∙ at in
          here s.next (subst IsSome (next_here es k s at_key) h.0) e ∙ ap (λ n. next_for n q) (sym (next_here es k s at_key))
      by false e = rest (set_in es q) at (h.1 q e) ∙ gone (set_in es k) e
        where
          rest : (o : Option SetView) → o ≡ Some s → IfSome o IsResting → s.next ≡ None
          rest None e h = cc
          rest (Some t) e h = let is : t ≡ s = cc in sym (ap (λ (v : SetView). v.next) is) ∙ h.idle

          gone : (o : Option SetView) → bytes_eq k q ≡ false → ◌≡◌ {A = Option Next} None (next_for (option_and_then (λ v. option_map (keyed k) v.next) o) q)
          gone None e = refl
          gone (Some v) e = inner v.next
            where
              inner : (n : Option Next) → ◌≡◌ {A = Option Next} None (next_for (option_map (keyed k) n) q)
              inner None = refl
              inner (Some n) = sym (ap (λ b. cond b (Some n) None) e)

  none_held : (es : List (Keyed A)) (k : Option (List ℕ)) (q : List ℕ) → IsHeld es k → set_in es q ≡ None → next_for (next_at es k) q ≡ None
  none_held es None q h at = absurd h
  none_held es (Some k) q h at = by (bytes_eq k q) refl (next_at es (Some k)) h.0 refl
    where
      by : (b : Bool) → bytes_eq k q ≡ b → (o : Option (List ℕ × Next)) → IsSome o → next_at es (Some k) ≡ o → next_for (next_at es (Some k)) q ≡ None
      by true e o some is =
          let lost : next_at es (Some k) ≡ None = ap (option_and_then (λ v. option_map (keyed k) v.next)) (ap (set_in es) ((bytes_decides k q).0 e) ∙ at) in
          ap (λ n. next_for n q) lost
      by false e o some is = away (set_in es k)
        where
          away : (o : Option SetView) → next_for (option_and_then (λ v. option_map (keyed k) v.next) o) q ≡ None
          away None = refl
          away (Some v) = inner v.next
            where
              inner : (n : Option Next) → next_for (option_map (keyed k) n) q ≡ None
              inner None = refl
              inner (Some n) = ap (λ b. cond b (Some n) None) e

  pub view_some : (es : List (Keyed A)) (a : Option (Snapshot Asked)) (v : OwnerView) (q : List ℕ) (s : SetView) → owner_view es a ≡ v → IsOwned es a → set_in es q ≡ Some s → IsSetAt v q s
  view_some es a v q s is owned at = subst (λ (w : OwnerView). IsSetAt w q s) is (shown a owned)
    where
      rest : (o : Option SetView) → o ≡ Some s → IfSome o IsResting → s.next ≡ None
      rest None e h = cc
      rest (Some t) e h = let same : t ≡ s = cc in sym (ap (λ (v : SetView). v.next) same) ∙ h.idle

      shown : (a : Option (Snapshot Asked)) → IsOwned es a → IsSetAt (owner_view es a) q s
      shown None owned = record { members = sym (set_at_entry es q s at); next = rest (set_in es q) at (owned q) }
      shown (Some asked) owned = record { members = sym (set_at_entry es q s at); next = next_held es (key_of asked.value.meaning) q s owned at }

  pub view_none : (es : List (Keyed A)) (a : Option (Snapshot Asked)) (v : OwnerView) (q : List ℕ) → owner_view es a ≡ v → IsOwned es a → set_in es q ≡ None → HasNoSet v q
  view_none es a v q is owned at = subst (λ (w : OwnerView). HasNoSet w q) is (shown a owned)
    where
      shown : (a : Option (Snapshot Asked)) → IsOwned es a → HasNoSet (owner_view es a) q
      shown None owned = record { members = set_at_none es q at; next = refl }
      shown (Some asked) owned = record { members = set_at_none es q at; next = none_held es (key_of asked.value.meaning) q owned at }

  -- ---- the keys of a world
  find_rows : (es : List (Keyed A)) (q : List ℕ) → find bytes_cmp q (rows_of es) ≡ option_map (λ v. v.members) (set_in es q)
  find_rows [] q = refl
  find_rows (e ∷ es) q = by (eq_by_cmp bytes_cmp q e.0.items) (find_rows es q)
    where
      by : (b : Bool) → find bytes_cmp q (rows_of es) ≡ option_map (λ v. v.members) (set_in es q) → cond b (Some e.1.members) (find bytes_cmp q (rows_of es)) ≡ option_map (λ v. v.members) (cond b (Some e.1) (set_in es q))
      by true h = refl
      by false h = h

  pub world_rows : (es : List (Keyed A)) → IsStrictlySortedBy key_cmp (keys_of es) → AllRest es → fin.entries (world_of es) ≡ rows_of es
  world_rows es sorted rest =
      let up = sorted_rows es sorted in
      let same : world_of es ≡ fin.from_sorted {R = bytes_cmp} (rows_of es) = fin.same_map total exact (world_of es) (fin.from_sorted (rows_of es)) (λ q.
      get_world es q ∙ by (set_in es q) (rest q) ∙ sym (fin.get-from_sorted bytes_cmp (rows_of es) q up ∙ find_rows es q)) in
      ap fin.entries same ∙ fin.entries-from_sorted bytes_cmp (rows_of es) up
    where
      by : (o : Option SetView) → IfSome o IsResting → filled_view o ≡ option_map (λ v. v.members) o
      by None h = refl
      by (Some v) h = ap (λ b. cond b None (Some v.members)) h.filled

  pub idle_rest : (es : List (Keyed A)) (a : Option (Snapshot Asked)) (v : OwnerView) → owner_view es a ≡ v → IsOwned es a → v.next ≡ None → AllRest es
  idle_rest es None v is owned idle = owned
  idle_rest es (Some asked) v is owned idle = by (key_of asked.value.meaning) owned (ap (λ (w : OwnerView). w.next) is ∙ idle)
    where
      by : (k : Option (List ℕ)) → IsHeld es k → next_at es k ≡ None → AllRest es
      by None h none = absurd h
      by (Some k) h none = absurd (true≢false (sym (subst IsSome none h.0)))

  pub world_shown : (es : List (Keyed A)) (a : Option (Snapshot Asked)) (v : OwnerView) → owner_view es a ≡ v → world_of es ≡ v.world
  world_shown es None v is = ap (λ (w : OwnerView). w.world) is
  world_shown es (Some asked) v is = ap (λ (w : OwnerView). w.world) is

  pub count_shown : (es : List (Keyed A)) (a : Option (Snapshot Asked)) (v : OwnerView) → owner_view es a ≡ v → IsOwned es a → v.next ≡ None → IsStrictlySortedBy key_cmp (keys_of es) → length es ≡ fin.len v.world
  count_shown es a v is owned idle sorted =
      sym (length-map es row_of) ∙ sym (ap length (world_rows es sorted (idle_rest es a v is owned idle))) ∙ sym (fin.len-entries (world_of es)) ∙ ap fin.len (world_shown es a v is)

  pub names_shown : (es : List (Keyed A)) (a : Option (Snapshot Asked)) (v : OwnerView) → owner_view es a ≡ v → IsOwned es a → v.next ≡ None → KeysRise es → set_keys es ≡ fin.keys v.world
  names_shown es a v is owned idle sorted =
      names es ∙ sym (ap (map (λ (e : List ℕ × Members). e.0)) (world_rows es sorted (idle_rest es a v is owned idle))) ∙ ap (λ (w : World). fin.keys w) (world_shown es a v is)
    where
      names : (es : List (Keyed A)) → set_keys es ≡ map (λ (e : List ℕ × Members). e.0) (rows_of es)
      names [] = refl
      names (e ∷ es) = ap (λ l. e.0.items ∷ l) (names es)

  pub keys_shown : (es : List (Keyed A)) (a : Option (Snapshot Asked)) (v : OwnerView) (i : ℕ) → owner_view es a ≡ v → IsOwned es a → v.next ≡ None → KeysRise es
      → option_map (λ (k : Vec ℕ A). k.items) (slice_get (keys_of es) i) ≡ slice_get (fin.keys v.world) i
  keys_shown es a v i is owned idle sorted =
      sym (slice_get-map (λ (k : Vec ℕ A). k.items) (keys_of es) i) ∙ ap (λ l. slice_get l i) (names es ∙ names_shown es a v is owned idle sorted)
    where
      names : (es : List (Keyed A)) → map (λ (k : Vec ℕ A). k.items) (keys_of es) ≡ set_keys es
      names [] = refl
      names (e ∷ es) = ap (λ l. e.0.items ∷ l) (names es)

  pub first_named : (es : List (Keyed A)) (k : Vec ℕ A) (rest : List (Vec ℕ A)) → keys_of es ≡ k ∷ rest → slice_get (set_keys es) 0 ≡ Some k.items
  first_named [] k rest h = cc
  first_named (e ∷ es) k rest h = let is : e.0 ≡ k = cc in ap (λ (x : Vec ℕ A). Some x.items) is

  abbrev pub behind : List ℕ → Keyed A → Bool
  behind key e = is_lt (bytes_cmp key e.0.items) && not false

  pub none_behind : (es : List (Keyed A)) (key stored : List ℕ) → key ≡ stored → filter (behind stored) es ≡ [] → find_in (λ name. is_lt (bytes_cmp key name)) (set_keys es) ≡ None
  none_behind [] key stored same h = refl
  none_behind (e ∷ es) key stored same h = by (is_lt (bytes_cmp stored e.0.items)) (ap (λ k. is_lt (bytes_cmp k e.0.items)) same) h (λ g. none_behind es key stored same g)
    where
      by : (b : Bool) → is_lt (bytes_cmp key e.0.items) ≡ b → cond (b && not false) (e ∷ filter (behind stored) es) (filter (behind stored) es) ≡ []
          → (filter (behind stored) es ≡ [] → find_in (λ name. is_lt (bytes_cmp key name)) (set_keys es) ≡ None)
          → cond (is_lt (bytes_cmp key e.0.items)) (Some e.0.items) (find_in (λ name. is_lt (bytes_cmp key name)) (set_keys es)) ≡ None
      by true t h more = cc
      by false t h more = ap (λ b. cond b (Some e.0.items) (find_in (λ name. is_lt (bytes_cmp key name)) (set_keys es))) t ∙ more h

  pub some_behind : (es : List (Keyed A)) (key stored : List ℕ) (x : Keyed A) (rest : List (Keyed A)) → key ≡ stored → filter (behind stored) es ≡ x ∷ rest → find_in (λ name. is_lt (bytes_cmp key name)) (set_keys es) ≡ Some x.0.items
  some_behind [] key stored x rest same h = cc
  some_behind (e ∷ es) key stored x rest same h = by (is_lt (bytes_cmp stored e.0.items)) (ap (λ k. is_lt (bytes_cmp k e.0.items)) same) h (λ g. some_behind es key stored x rest same g)
    where
      by : (b : Bool) → is_lt (bytes_cmp key e.0.items) ≡ b → cond (b && not false) (e ∷ filter (behind stored) es) (filter (behind stored) es) ≡ x ∷ rest
          → (filter (behind stored) es ≡ x ∷ rest → find_in (λ name. is_lt (bytes_cmp key name)) (set_keys es) ≡ Some x.0.items)
          → cond (is_lt (bytes_cmp key e.0.items)) (Some e.0.items) (find_in (λ name. is_lt (bytes_cmp key name)) (set_keys es)) ≡ Some x.0.items
      by true t h more = let is : e ≡ x = cc in ap (λ b. cond b (Some e.0.items) (find_in (λ name. is_lt (bytes_cmp key name)) (set_keys es))) t ∙ ap (λ (y : Keyed A). Some y.0.items) is
      by false t h more = ap (λ b. cond b (Some e.0.items) (find_in (λ name. is_lt (bytes_cmp key name)) (set_keys es))) t ∙ more h

  pub there_of : (es : List (Keyed A)) (a : Option (Snapshot Asked)) (v : OwnerView) (q : List ℕ) → owner_view es a ≡ v → IsSome (fin.get v.world q) → IsSome (set_in es q)
  there_of es a v q is there = by (set_in es q) (subst IsSome (sym (ap (λ (w : World). fin.get w q) (world_shown es a v is)) ∙ get_world es q) there)
    where
      by : (o : Option SetView) → IsSome (filled_view o) → IsSome o
      by None h = h
      by (Some v) h = refl

  pub set_shown : (es : List (Keyed A)) (a : Option (Snapshot Asked)) (v : OwnerView) (q : List ℕ) (s : SetView) → owner_view es a ≡ v → IsOwned es a → v.next ≡ None → set_in es q ≡ Some s → (s.members ≡ set_at v.world q) × (s.next ≡ None)
  set_shown es a v q s is owned idle at =
      let shown = view_some es a v q s is owned at in
      (shown.members, shown.next ∙ ap (λ n. next_for n q) idle)

  pub none_shown : (es : List (Keyed A)) (a : Option (Snapshot Asked)) (v : OwnerView) (q : List ℕ) → owner_view es a ≡ v → IsOwned es a → set_in es q ≡ None → set_at v.world q ≡ fin.empty
  none_shown es a v q is owned at = (view_none es a v q is owned at).members

-- ---- walks over a list by what is left of it
pub past_end : {X : Type 0} (xs : List X) (i j : ℕ) → drop i xs ≡ [] → i ≤ j → slice_get xs j ≡ None
past_end [] i j h le = refl
past_end (x ∷ xs) zero j h le = cc
past_end (x ∷ xs) (suc i) zero h le = absurd (omega arith)
past_end (x ∷ xs) (suc i) (suc j) h le = past_end xs i j h (omega arith)

pub first_left : {X : Type 0} (xs : List X) (i : ℕ) (x : X) (rest : List X) → drop i xs ≡ x ∷ rest → slice_get xs i ≡ Some x
first_left [] zero x rest h = cc
first_left [] (suc i) x rest h = cc
first_left (y ∷ xs) zero x rest h = let is : y ≡ x = cc in ap Some is
first_left (y ∷ xs) (suc i) x rest h = first_left xs i x rest h

pub left_after : {X : Type 0} (xs : List X) (i : ℕ) (x : X) (rest : List X) → drop i xs ≡ x ∷ rest → rest ≡ drop (i + 1) xs
left_after xs i x rest h = walk xs i x rest h ∙ ap (λ n. drop n xs) (sym (add-one i))
  where
    walk : {X : Type 0} (xs : List X) (i : ℕ) (x : X) (rest : List X) → drop i xs ≡ x ∷ rest → rest ≡ drop (suc i) xs
    walk [] zero x rest h = cc
    walk [] (suc i) x rest h = cc
    walk (y ∷ xs) zero x rest h = let is : xs ≡ rest = cc in sym is
    walk (y ∷ xs) (suc i) x rest h = walk xs i x rest h
