-- A member that leaves the entries by its place, and its row that leaves the column.
use Rattle.std.proofs.Common.{◌≡◌, ℕ, ◌+◌, ◌-◌, ◌<◌, ℤ, Bool, cond, List, [], ◌∷◌, length, get_or, slice_get, count_by, Option, None, Some, option_map, unwrap_or, refl, sym, ap, ◌∙◌, arith}
use Rattle.std.specs.List.{IsDistinct, swap_remove}
use Rattle.std.specs.Map.{keys_of}
use Rattle.std.specs.FinMap as fin
use Rattle.std.proofs.lemmas.Grind.{common_steps}
use Rattle.std.proofs.lemmas.Map.Entries.{lookup_from_place}
use Rattle.std.proofs.lemmas.Option.{slice_get-get_or, slice_get-map}
use Rattle.crack_kernel.specs.RowBag.{Test}
use Rattle.ripple_column.specs.Content.{ColumnState, HasRow, Holds, content_count}
use Rattle.zset_core.specs.SortedSet.{Members, Pair, pairs}
use Rattle.sorted_sets.specs.MembersWithStagedScores.{Entry, current_score, members_by, name_at, names_at, rows_by, same_bytes}
use Rattle.sorted_sets.specs.declared.set.members_with_staged_scores.ScoreSlot.{ScoreSlot}
use Rattle.sorted_sets.proofs.Bags.{count_cons, count_had, count_remove, one}
use Rattle.sorted_sets.proofs.Bridge.{get_members, same_equiv}

-- what a set has less without a member
count_less : (p : Test) (m : Members) (q : List ℕ) (s : ℤ) → fin.get m q ≡ Some s → count_by p (pairs (fin.remove m q)) + one p (s, q) ≡ count_by p (pairs m)
count_less p m q s there = ap (λ (o : Option ℤ). count_by p (pairs (fin.remove m q)) + count_had p q o) (sym there) ∙ count_remove p m q

-- the column has the member's row
pub HasRow-of : (c : ColumnState) (m : Members) (row : Pair) (q : List ℕ) (s : ℤ) → row ≡ (s, q) → fin.get m q ≡ Some s → Holds c (pairs m) → HasRow c row
HasRow-of c m row q s is there holds p passes =
    let counted : one p (s, q) ≡ 1 = ap (λ (x : Pair). one p x) (sym is) ∙ ap (λ (b : Bool). cond {A = ℕ} b 1 0) passes in
    omega (arith, holds p, count_less p m q s there, counted)

-- and holds what is left of the set without it
pub Holds-without : (c c' : ColumnState) (m : Members) (row : Pair) (q : List ℕ) (s : ℤ) → row ≡ (s, q) → fin.get m q ≡ Some s → Holds c (pairs m)
    → ((p : Test) → content_count p c ≡ content_count p c' + count_by p (row ∷ [])) → Holds c' (pairs (fin.remove m q))
Holds-without c c' m row q s is there holds taken p =
    let counted : one p row ≡ one p (s, q) = ap (λ (x : Pair). one p x) is in
    omega (arith, holds p, taken p, count_less p m q s there, count_cons p row [], counted)

pub name_is : (es : List Entry) (i : ℕ) (k : List ℕ) (s : ScoreSlot) → slice_get es i ≡ Some (k, s) → name_at es i ≡ k
name_is es i k s at = ap (λ (o : Option Entry). unwrap_or (option_map (λ (e : Entry). e.0) o) []) at

pub score_is : (es : List Entry) (i : ℕ) (k : List ℕ) (s : ScoreSlot) → IsDistinct same_bytes (keys_of es) → slice_get es i ≡ Some (k, s) → fin.get (members_by current_score es) k ≡ Some s.current
score_is es i k s apart at = get_members current_score es k ∙ ap (option_map current_score) (lookup_from_place same_equiv es i k s apart at)

-- the entries before the one that leaves stay
pub name_stays : (es es' : List Entry) (i j : ℕ) (e : Entry) → es' ≡ swap_remove es i e → i < length es → j < i → name_at es' j ≡ name_at es j
name_stays es es' i j e is lt before =
    let gone = swap_remove es i e in
    let shorter : length gone ≡ length es - 1 = grind (arith, common_steps) in
    let same : get_or gone j e ≡ get_or es j e = grind (arith, common_steps) in
    let here : slice_get gone j ≡ slice_get es j = slice_get-get_or gone j e (omega (arith, shorter)) ∙ ap (λ (x : Entry). Some x) same ∙ sym (slice_get-get_or es j e (omega arith)) in
    ap (λ (l : List Entry). name_at l j) is ∙ ap (λ (o : Option Entry). unwrap_or (option_map (λ (x : Entry). x.0) o) []) here

name_shown : (f : ScoreSlot → ℤ) (es : List Entry) (i : ℕ) → name_at es i ≡ unwrap_or (option_map (λ (r : List ℕ × ℤ). r.0) (slice_get (rows_by f es) i)) []
name_shown f es i =
    sym (ap (λ (o : Option (List ℕ × ℤ)). unwrap_or (option_map (λ (r : List ℕ × ℤ). r.0) o) []) (slice_get-map (λ (e : Entry). (e.0, f e.1)) es i) ∙ by (slice_get es i))
  where
    by : (o : Option Entry) → unwrap_or (option_map (λ (r : List ℕ × ℤ). r.0) (option_map (λ (e : Entry). (e.0, f e.1)) o)) [] ≡ unwrap_or (option_map (λ (e : Entry). e.0) o) []
    by None = refl
    by (Some e) = refl

-- entries with the same rows have the same members at their places
pub names_same : (f : ScoreSlot → ℤ) (es fs : List Entry) (places : List ℕ) → rows_by f es ≡ rows_by f fs → names_at es places ≡ names_at fs places
names_same f es fs [] h = refl
names_same f es fs (p ∷ ps) h =
    let same : name_at es p ≡ name_at fs p =
    name_shown f es p ∙ ap (λ (rows : List (List ℕ × ℤ)). unwrap_or (option_map (λ (r : List ℕ × ℤ). r.0) (slice_get rows p)) []) h ∙ sym (name_shown f fs p) in
    ap (λ (n : List ℕ). n ∷ names_at es ps) same ∙ ap (λ (l : List (List ℕ)). name_at fs p ∷ l) (names_same f es fs ps h)
