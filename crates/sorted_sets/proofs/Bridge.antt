-- From the entries of the program's map to the finite map that a contract sees.
use Rattle.std.proofs.Common.{◌≡◌, ℕ, ◌+◌, ℤ, Bool, true, false, cond, List, [], ◌∷◌, length, Option, None, Some, option_map, is_some, refl, sym, ap, subst, ◌∙◌, arith}
use Rattle.std.specs.List.{AllByRecursion, IsDistinct}
use Rattle.std.specs.Map.{lookup, keys_of, KeepsOthers, IsKeyTest, AreApart}
use Rattle.std.specs.Str.{bytes_eq}
use Rattle.std.specs.Cmp.{IsTotalOrder, IsEquivalence, eq_by_cmp_equiv}
use Rattle.std.specs.Cmp.Lexicographic.{nat_list_cmp_total, nat_list_eq_equiv, bytes_decides}
use Rattle.std.specs.Ordering.{eq_by_cmp}
use Rattle.std.specs.FinMap as fin
use Rattle.std.specs.FinMap.{find, IsAntisymmetric, slice_cmp-IsAntisymmetric, nat_cmp-IsAntisymmetric}
use Rattle.std.specs.HashMap.{HashMap, UpdatesBy}
use Rattle.std.proofs.lemmas.Map.{lookup-none}
use Rattle.std.proofs.lemmas.Map.Keys.{IsDistinct-head, IsDistinct-tail}
use Rattle.std.proofs.lemmas.Map.Text.{is_eq-slice_cmp}
use Rattle.zset_core.specs.SortedSet.{bytes_cmp}
use Rattle.sorted_sets.specs.MembersWithStagedScores.{Entry, rows_by, members_by, slot_at, same_bytes}
use Rattle.sorted_sets.specs.declared.set.members_with_staged_scores.ScoreSlot.{ScoreSlot}

pub exact : IsAntisymmetric bytes_cmp
exact = slice_cmp-IsAntisymmetric nat_cmp-IsAntisymmetric

pub total : IsTotalOrder bytes_cmp
total = nat_list_cmp_total

-- the order of bytes ties where the bytes are equal
pub tied : (q k : List ℕ) → bytes_eq k q ≡ eq_by_cmp bytes_cmp q k
tied q k = sym (is_eq-slice_cmp k q) ∙ (eq_by_cmp_equiv total).symm k q

apart : (bs cs ks : List ℕ) → bytes_eq bs cs ≡ false → bytes_eq bs ks ≡ true → bytes_eq cs ks ≡ false
apart bs cs ks n y = nat_list_eq_equiv.symm cs ks ∙ sym (nat_list_eq_equiv.congr bs ks cs y) ∙ n

pub same_equiv : IsEquivalence same_bytes
same_equiv = nat_list_eq_equiv

find_bytes : (f : ScoreSlot → ℤ) (es : List Entry) (q : List ℕ) → find bytes_cmp q (rows_by f es) ≡ option_map f (slot_at es q)
find_bytes f [] q = refl
find_bytes f (e ∷ es) q = ap (λ b. cond b (Some (f e.1)) (find bytes_cmp q (rows_by f es))) (is_eq-slice_cmp q e.0) ∙ by (bytes_eq q e.0) (find_bytes f es q)
  where
    by : (b : Bool) → find bytes_cmp q (rows_by f es) ≡ option_map f (slot_at es q) → cond b (Some (f e.1)) (find bytes_cmp q (rows_by f es)) ≡ option_map f (cond b (Some e.1) (slot_at es q))
    by true h = refl
    by false h = h

-- the score of a member, by the entry that it has
pub get_members : (f : ScoreSlot → ℤ) (es : List Entry) (q : List ℕ) → fin.get (members_by f es) q ≡ option_map f (slot_at es q)
get_members f es q = fin.get-from_entries total (rows_by f es) q ∙ find_bytes f es q

-- entries that differ at one member make sets that differ there
pub one_put : (f : ScoreSlot → ℤ) (es fs : List Entry) (k : List ℕ) (s : ScoreSlot) → ((q : List ℕ) → slot_at fs q ≡ cond (bytes_eq k q) (Some s) (slot_at es q)) → members_by f fs ≡ fin.insert (members_by f es) k (f s)
one_put f es fs k s after = fin.same_map total exact _ _ (λ q.
    get_members f fs q ∙ ap (option_map f) (after q) ∙ by q (bytes_eq k q) ∙ ap (λ b. cond b (Some (f s)) (option_map f (slot_at es q))) (tied q k)
    ∙ sym (fin.get-insert total (members_by f es) k (f s) q ∙ ap (cond (eq_by_cmp bytes_cmp q k) (Some (f s))) (get_members f es q)))
  where
    by : (q : List ℕ) (b : Bool) → option_map f (cond b (Some s) (slot_at es q)) ≡ cond b (Some (f s)) (option_map f (slot_at es q))
    by q true = refl
    by q false = refl

-- and entries that lack one member
pub one_gone : (f : ScoreSlot → ℤ) (es fs : List Entry) (k : List ℕ) → ((q : List ℕ) → slot_at fs q ≡ cond (bytes_eq k q) None (slot_at es q)) → members_by f fs ≡ fin.remove (members_by f es) k
one_gone f es fs k after = fin.same_map total exact _ _ (λ q.
    get_members f fs q ∙ ap (option_map f) (after q) ∙ by q (bytes_eq k q) ∙ ap (λ b. cond b None (option_map f (slot_at es q))) (tied q k)
    ∙ sym (fin.get-remove total (members_by f es) k q ∙ ap (cond (eq_by_cmp bytes_cmp q k) None) (get_members f es q)))
  where
    by : (q : List ℕ) (b : Bool) → option_map f (cond b None (slot_at es q)) ≡ cond b None (option_map f (slot_at es q))
    by q true = refl
    by q false = refl

none_equal : (x : List ℕ) (es : List Entry) → AllByRecursion (λ y. same_bytes x y ≡ false) (keys_of es) → AllByRecursion (λ e. same_bytes x e.0 ≡ false) es
none_equal x [] h = h
none_equal x (e ∷ es) h = (h.0, none_equal x es h.1)

-- the number of members is the number of entries
pub len_members : (f : ScoreSlot → ℤ) (es : List Entry) → IsDistinct same_bytes (keys_of es) → fin.len (members_by f es) ≡ length es
len_members f [] d = fin.len-empty bytes_cmp ℤ
len_members f (e ∷ es) d =
    let none : fin.get (members_by f es) e.0 ≡ None = get_members f es e.0 ∙ ap (option_map f) (lookup-none _ es (none_equal e.0 es (IsDistinct-head same_bytes e.0 (keys_of es) d))) in
    fin.len-insert total (members_by f es) e.0 (f e.1) ∙ ap (λ o. cond (is_some o) (fin.len (members_by f es)) (fin.len (members_by f es) + 1)) none ∙ ap (λ n. n + 1) (len_members f es (IsDistinct-tail same_bytes e.0 (keys_of es) d)) ∙ omega arith

-- ---- what a change of the program's map at some bytes leaves at others
other_entries : (test : List ℕ → Bool) (old new : List Entry) → KeepsOthers same_bytes test old new → (other : List ℕ → Bool) → IsKeyTest same_bytes other → AreApart test other → lookup other new ≡ lookup other old
unfolding KeepsOthers
other_entries test old new h = h

pub updates_bytes : {S : Type 0} (bs : List ℕ) (m n : HashMap (List ℕ) ScoreSlot S) (w : Option ScoreSlot) → UpdatesBy same_bytes (λ k. bytes_eq bs k) m n w → (cs : List ℕ) → slot_at n.entries cs ≡ cond (bytes_eq bs cs) w (slot_at m.entries cs)
updates_bytes bs m n w h cs = by (bytes_eq bs cs) refl
  where
    by : (b : Bool) → bytes_eq bs cs ≡ b → slot_at n.entries cs ≡ cond b w (slot_at m.entries cs)
    by true y = subst (λ l. slot_at n.entries l ≡ w) ((bytes_decides bs cs).0 y) h.1
    by false e = other_entries (λ k. bytes_eq bs k) m.entries n.entries h.3 (λ k. bytes_eq cs k) (λ x y. nat_list_eq_equiv.congr cs x y) (λ k. apart bs cs k e)
