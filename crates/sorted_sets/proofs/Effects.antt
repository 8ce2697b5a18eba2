-- Which members a change moves.
use Rattle.std.proofs.Common.{◌≡◌, ℕ, zero, suc, ◌<◌, ◌≤◌, ◌||◌, ◌&&◌, not, ℤ, Bool, true, false, cond, nat_eq, nat_lt, List, [], ◌∷◌, ◌++◌, filter, length, take, slice_get, Option, None, Some, option_map, unwrap_or, refl, sym, ap, ◌∙◌, arith, true≢false}
use Rattle.std.specs.List.{IsDistinct, list_any}
use Rattle.std.specs.Map.{keys_of, values_of}
use Rattle.std.specs.Str.{bytes_eq}
use Rattle.std.specs.Ordering.{int_eq}
use Rattle.std.specs.Cmp.{signed_Decides}
use Rattle.std.specs.Cmp.Lexicographic.{nat_list_eq_equiv, bytes_decides}
use Rattle.std.specs.FinMap as fin
use Rattle.std.proofs.lemmas.Bool.Decides.{nat_tests}
use Rattle.std.proofs.lemmas.Option.{slice_get-map}
use Rattle.std.proofs.lemmas.Map.Entries.{lookup_from_place}
use Rattle.std.proofs.lemmas.List.{append-nil}
use Rattle.zset_core.specs.SortedSet.{Members}
use Rattle.sorted_sets.specs.MovedMembers.{same_score, differs, once, moved_names}
use Rattle.sorted_sets.specs.MembersWithStagedScores.{Entry, current_score, staged_score, name_at, names_at, members_by, slot_at, slots, same_bytes, IsWithin}
use Rattle.sorted_sets.specs.declared.set.members_with_staged_scores.ScoreSlot.{ScoreSlot}
use Rattle.sorted_sets.proofs.Bridge.{same_equiv, get_members}
use Rattle.sorted_sets.proofs.Outlines.{before, has}
use Rattle.sorted_sets.proofs.Gathering.{none_there, one_place}

-- ---- each name once
leave-append : (name : List ℕ) (a b : List (List ℕ)) → filter (λ other. not (bytes_eq other name)) (a ++ b) ≡ filter (λ other. not (bytes_eq other name)) a ++ filter (λ other. not (bytes_eq other name)) b
leave-append name [] b = refl
leave-append name (x ∷ a) b = by (bytes_eq x name) (leave-append name a b)
  where
    by : (e : Bool) → filter (λ other. not (bytes_eq other name)) (a ++ b) ≡ filter (λ other. not (bytes_eq other name)) a ++ filter (λ other. not (bytes_eq other name)) b
        → cond (not e) (x ∷ filter (λ other. not (bytes_eq other name)) (a ++ b)) (filter (λ other. not (bytes_eq other name)) (a ++ b))
        ≡ cond (not e) (x ∷ filter (λ other. not (bytes_eq other name)) a) (filter (λ other. not (bytes_eq other name)) a) ++ filter (λ other. not (bytes_eq other name)) b
    by true rest = rest
    by false rest = ap (λ (l : List (List ℕ)). x ∷ l) rest

-- one name more
pub once-push : (names : List (List ℕ)) (name : List ℕ) → once (names ++ name ∷ []) ≡ cond (has names name) (once names) (once names ++ name ∷ [])
once-push [] name = refl
once-push (x ∷ names) name =
    ap (λ (l : List (List ℕ)). x ∷ filter (λ other. not (bytes_eq other x)) l) (once-push names name) ∙ by (has names name) (bytes_eq name x) refl
  where
    by : (there same : Bool) → bytes_eq name x ≡ same
        → x ∷ filter (λ other. not (bytes_eq other x)) (cond there (once names) (once names ++ name ∷ []))
        ≡ cond (same || there) (x ∷ filter (λ other. not (bytes_eq other x)) (once names)) ((x ∷ filter (λ other. not (bytes_eq other x)) (once names)) ++ name ∷ [])
    by true true is = refl
    by true false is = refl
    by false true is =
        ap (λ (l : List (List ℕ)). x ∷ l) (leave-append x (once names) (name ∷ [])
        ∙ ap (λ (b : Bool). filter (λ other. not (bytes_eq other x)) (once names) ++ cond (not b) (name ∷ []) []) is ∙ append-nil (filter (λ other. not (bytes_eq other x)) (once names)))
    by false false is =
        ap (λ (l : List (List ℕ)). x ∷ l) (leave-append x (once names) (name ∷ [])
        ∙ ap (λ (b : Bool). filter (λ other. not (bytes_eq other x)) (once names) ++ cond (not b) (name ∷ []) []) is)

has-leave : (x name : List ℕ) (names : List (List ℕ)) → bytes_eq name x ≡ false → has (filter (λ other. not (bytes_eq other x)) names) name ≡ has names name
has-leave x name [] apart = refl
has-leave x name (y ∷ names) apart = by (bytes_eq y x) refl (has-leave x name names apart)
  where
    by : (b : Bool) → bytes_eq y x ≡ b → has (filter (λ other. not (bytes_eq other x)) names) name ≡ has names name
        → has (cond (not b) (y ∷ filter (λ other. not (bytes_eq other x)) names) (filter (λ other. not (bytes_eq other x)) names)) name ≡ (bytes_eq name y || has names name)
    by true is rest =
        let other : bytes_eq name y ≡ false = ap (bytes_eq name) ((bytes_decides y x).0 is) ∙ apart in
        rest ∙ ap (λ (b : Bool). b || has names name) (sym other)
    by false is rest = ap (λ (b : Bool). bytes_eq name y || b) rest

-- the same names are there
pub has-once : (names : List (List ℕ)) (name : List ℕ) → has (once names) name ≡ has names name
has-once [] name = refl
has-once (x ∷ names) name = by (bytes_eq name x) refl (has-once names name)
  where
    by : (b : Bool) → bytes_eq name x ≡ b → has (once names) name ≡ has names name → (b || has (filter (λ other. not (bytes_eq other x)) (once names)) name) ≡ (b || has names name)
    by true is rest = refl
    by false is rest = has-leave x name (once names) is ∙ rest

-- ---- places and the names there
abbrev slot_of : Entry → List ℕ × ScoreSlot
slot_of e = (e.0, e.1)

-- an entry stands at each place within
pub entry_at : (es : List Entry) (p : ℕ) → p < length es → (e : Entry) × (slice_get es p ≡ Some e)
entry_at [] p lt = absurd (omega (arith, lt))
entry_at (e ∷ es) zero lt = (e, refl)
entry_at (e ∷ es) (suc p) lt = entry_at es p (omega (arith, lt))

pub name_of_entry : (es : List Entry) (p : ℕ) (e : Entry) → slice_get es p ≡ Some e → name_at es p ≡ e.0
name_of_entry es p e at = ap (λ (o : Option Entry). unwrap_or (option_map (λ (x : Entry). x.0) o) []) at

slots_at : (es : List Entry) (p : ℕ) (e : Entry) → slice_get es p ≡ Some e → slice_get (slots es) p ≡ Some (e.0, e.1)
slots_at es p e at = slice_get-map slot_of es p ∙ ap (option_map slot_of) at

nat_eq-same : (i j : ℕ) → i ≡ j → nat_eq i j ≡ true
nat_eq-same i j e = grind (arith, nat_tests)

nat_eq-is : (i j : ℕ) → nat_eq i j ≡ true → i ≡ j
nat_eq-is i j e = grind (arith, nat_tests)

-- one name stands at one place
pub same_place : (es : List Entry) (p q : ℕ) → IsDistinct same_bytes (keys_of es) → p < length es → q < length es → bytes_eq (name_at es p) (name_at es q) ≡ nat_eq p q
same_place es p q apart lt lq =
    let e = entry_at es p lt in
    let f = entry_at es q lq in
    ap (λ (k : List ℕ). bytes_eq k (name_at es q)) (name_of_entry es p e.0 e.1) ∙ ap (bytes_eq e.0.0) (name_of_entry es q f.0 f.1)
    ∙ by e.0 f.0 e.1 f.1 (bytes_eq e.0.0 f.0.0) refl (nat_eq p q) refl
  where
    by : (e f : Entry) → slice_get es p ≡ Some e → slice_get es q ≡ Some f → (a : Bool) → bytes_eq e.0 f.0 ≡ a → (b : Bool) → nat_eq p q ≡ b → a ≡ b
    by e f at_p at_q true is true place = refl
    by e f at_p at_q false is false place = refl
    by e f at_p at_q true is false place =
        let key : f.0 ≡ e.0 = sym ((bytes_decides e.0 f.0).0 is) in
        let one : p ≡ q = one_place es p q e.0 e.1 f.1 apart (slots_at es p e at_p) (slots_at es q f at_q ∙ ap (λ (k : List ℕ). Some (k, f.1)) key) in
        absurd (true≢false (sym (nat_eq-same p q one) ∙ place))
    by e f at_p at_q false is true place =
        let one : p ≡ q = nat_eq-is p q place in
        let both : ◌≡◌ {A = Option Entry} (Some e) (Some f) = sym at_p ∙ ap (slice_get es) one ∙ at_q in
        let entry : e ≡ f = cc in
        absurd (true≢false (sym (ap (bytes_eq e.0) (sym (ap (λ (x : Entry). x.0) entry)) ∙ nat_list_eq_equiv.refl e.0) ∙ is))

-- a place is among others where its name is among theirs
pub any_place : (es : List Entry) (ps : List ℕ) (p : ℕ) → IsDistinct same_bytes (keys_of es) → IsWithin (length es) ps → p < length es → list_any (nat_eq p) ps ≡ has (names_at es ps) (name_at es p)
any_place es [] p apart within lt = refl
any_place es (q ∷ ps) p apart within lt =
    ap (λ (b : Bool). b || list_any (nat_eq p) ps) (sym (same_place es p q apart lt within.0)) ∙ ap (λ (b : Bool). bytes_eq (name_at es p) (name_at es q) || b) (any_place es ps p apart within.1 lt)

not_ltb : (i n : ℕ) → n ≤ i → nat_lt i n ≡ false
not_ltb i n h = grind (arith, nat_tests)

ltb_first : (n : ℕ) → nat_lt 0 (suc n) ≡ true
ltb_first n = grind (arith, nat_tests)

ltb_less : (p n : ℕ) → nat_lt p n ≡ nat_lt (suc p) (suc n)
ltb_less p n = grind (arith, nat_tests)

-- the slot of a name among the first entries
slot_front : (es : List Entry) (kept p : ℕ) (e : Entry) → IsDistinct same_bytes (keys_of es) → slice_get es p ≡ Some e → slot_at (take kept es) e.0 ≡ cond (nat_lt p kept) (Some e.1) None
unfolding IsDistinct
slot_front [] kept p e apart at = let no : None ≡ Some e = at in cc
slot_front (x ∷ es) zero p e apart at = ap (λ (b : Bool). cond b (Some e.1) None) (sym (not_ltb p 0 (omega arith)))
slot_front (x ∷ es) (suc kept) zero e apart at =
    let is : x ≡ e = cc in
    ap (λ (b : Bool). cond b (Some x.1) (slot_at (take kept es) e.0)) (ap (λ (k : Entry). bytes_eq e.0 k.0) is ∙ nat_list_eq_equiv.refl e.0) ∙ ap (λ (k : Entry). Some k.1) is ∙ ap (λ (b : Bool). cond b (Some e.1) None) (sym (ltb_first kept))
slot_front (x ∷ es) (suc kept) (suc p) e apart at =
    ap (λ (b : Bool). cond b (Some x.1) (slot_at (take kept es) e.0)) (nat_list_eq_equiv.symm e.0 x.0 ∙ none_there x.0 es p e.0 e.1 apart.0 (slots_at es p e at))
    ∙ slot_front es kept p e apart.1 at ∙ ap (λ (b : Bool). cond b (Some e.1) None) (ltb_less p kept)

-- the name at a place has another score, or is new
pub differs_at : (es : List Entry) (kept p : ℕ) (e : Entry) → IsDistinct same_bytes (keys_of es) → slice_get es p ≡ Some e
    → differs (before es kept) (members_by staged_score es) (name_at es p) ≡ not (nat_lt p kept && int_eq e.1.current e.1.staged)
differs_at es kept p e apart at =
    ap (differs (before es kept) (members_by staged_score es)) (name_of_entry es p e at)
    ∙ ap (λ (o : Option ℤ). not (same_score o (fin.get (members_by staged_score es) e.0))) (get_members current_score (take kept es) e.0 ∙ ap (option_map current_score) (slot_front es kept p e apart at))
    ∙ ap (λ (o : Option ℤ). not (same_score (option_map current_score (cond (nat_lt p kept) (Some e.1) None)) o)) (get_members staged_score es e.0 ∙ ap (option_map staged_score) (lookup_from_place same_equiv es p e.0 e.1 apart at))
    ∙ by (nat_lt p kept)
  where
    by : (b : Bool) → not (same_score (option_map current_score (cond b (Some e.1) None)) (Some e.1.staged)) ≡ not (b && int_eq e.1.current e.1.staged)
    by true = refl
    by false = refl

entry_slot : (es : List Entry) (p : ℕ) (e : Entry) (s : ScoreSlot) → slice_get es p ≡ Some e → slice_get (values_of es) p ≡ Some s → e.1 ≡ s
entry_slot es p e s at value =
    let both : ◌≡◌ {A = Option ScoreSlot} (Some e.1) (Some s) = sym (slice_get-map (λ (x : Entry). x.1) es p ∙ ap (option_map (λ (x : Entry). x.1)) at) ∙ value in
    cc

ltb_of : (i n : ℕ) → i < n → nat_lt i n ≡ true
ltb_of i n h = grind (arith, nat_tests)

pub new_moved : (es : List Entry) (kept p : ℕ) → IsDistinct same_bytes (keys_of es) → p < length es → kept ≤ p → differs (before es kept) (members_by staged_score es) (name_at es p) ≡ true
new_moved es kept p apart lt late =
    let e = entry_at es p lt in
    differs_at es kept p e.0 apart e.1 ∙ ap (λ (b : Bool). not (b && int_eq e.0.1.current e.0.1.staged)) (not_ltb p kept late)

pub kept_moved : (es : List Entry) (kept p : ℕ) (s : ScoreSlot) → IsDistinct same_bytes (keys_of es) → p < length es → slice_get (values_of es) p ≡ Some s → (s.staged ≡ s.current → ⊥) → differs (before es kept) (members_by staged_score es) (name_at es p) ≡ true
kept_moved es kept p s apart lt at other =
    let e = entry_at es p lt in
    differs_at es kept p e.0 apart e.1 ∙ ap (λ (x : ScoreSlot). not (nat_lt p kept && int_eq x.current x.staged)) (entry_slot es p e.0 s e.1 at) ∙ by (nat_lt p kept) (int_eq s.current s.staged) refl
  where
    by : (a b : Bool) → int_eq s.current s.staged ≡ b → not (a && b) ≡ true
    by true true is = absurd (other (sym ((signed_Decides s.current s.staged).0 is)))
    by true false is = refl
    by false b is = refl

pub kept_same : (es : List Entry) (kept p : ℕ) (s : ScoreSlot) → IsDistinct same_bytes (keys_of es) → p < length es → slice_get (values_of es) p ≡ Some s → p < kept → s.staged ≡ s.current → differs (before es kept) (members_by staged_score es) (name_at es p) ≡ false
kept_same es kept p s apart lt at early same =
    let e = entry_at es p lt in
    differs_at es kept p e.0 apart e.1 ∙ ap (λ (x : ScoreSlot). not (nat_lt p kept && int_eq x.current x.staged)) (entry_slot es p e.0 s e.1 at)
    ∙ ap (λ (b : Bool). not (b && int_eq s.current s.staged)) (ltb_of p kept early) ∙ ap (λ (b : Bool). not b) ((signed_Decides s.current s.staged).1 (sym same))

-- what the name at a place is to have
pub staged_at : (es : List Entry) (p : ℕ) (e : Entry) → IsDistinct same_bytes (keys_of es) → slice_get es p ≡ Some e → fin.get (members_by staged_score es) (name_at es p) ≡ Some e.1.staged
staged_at es p e apart at =
    ap (fin.get (members_by staged_score es)) (name_of_entry es p e at)
    ∙ get_members staged_score es e.0 ∙ ap (option_map staged_score) (lookup_from_place same_equiv es p e.0 e.1 apart at)

filter-push : (t : List ℕ → Bool) (names : List (List ℕ)) (name : List ℕ) → filter t (names ++ name ∷ []) ≡ filter t names ++ cond (t name) (name ∷ []) []
filter-push t [] name = refl
filter-push t (x ∷ names) name = by (t x) (filter-push t names name)
  where
    by : (b : Bool) → filter t (names ++ name ∷ []) ≡ filter t names ++ cond (t name) (name ∷ []) [] → cond b (x ∷ filter t (names ++ name ∷ [])) (filter t (names ++ name ∷ [])) ≡ cond b (x ∷ filter t names) (filter t names) ++ cond (t name) (name ∷ []) []
    by true rest = ap (λ (l : List (List ℕ)). x ∷ l) rest
    by false rest = rest

-- one name more: it is not moved, it was there, or it comes last
pub moved-kept : (old new : Members) (names : List (List ℕ)) (name : List ℕ) → differs old new name ≡ false → moved_names old new (names ++ name ∷ []) ≡ moved_names old new names
moved-kept old new names name same =
    ap once (filter-push (differs old new) names name ∙ ap (λ (b : Bool). filter (differs old new) names ++ cond b (name ∷ []) []) same ∙ append-nil (filter (differs old new) names))

pub moved-there : (old new : Members) (names : List (List ℕ)) (name : List ℕ) → has (moved_names old new names) name ≡ true → moved_names old new (names ++ name ∷ []) ≡ moved_names old new names
moved-there old new names name there = by (differs old new name) refl
  where
    by : (b : Bool) → differs old new name ≡ b → moved_names old new (names ++ name ∷ []) ≡ moved_names old new names
    by false is = moved-kept old new names name is
    by true is =
        ap once (filter-push (differs old new) names name ∙ ap (λ (b : Bool). filter (differs old new) names ++ cond b (name ∷ []) []) is)
        ∙ once-push (filter (differs old new) names) name
        ∙ ap (λ (b : Bool). cond b (once (filter (differs old new) names)) (once (filter (differs old new) names) ++ name ∷ [])) (sym (has-once (filter (differs old new) names) name) ∙ there)

pub moved-more : (old new : Members) (names : List (List ℕ)) (name : List ℕ) → differs old new name ≡ true → has (moved_names old new names) name ≡ false → moved_names old new (names ++ name ∷ []) ≡ moved_names old new names ++ name ∷ []
moved-more old new names name is absent =
    ap once (filter-push (differs old new) names name ∙ ap (λ (b : Bool). filter (differs old new) names ++ cond b (name ∷ []) []) is)
    ∙ once-push (filter (differs old new) names) name
    ∙ ap (λ (b : Bool). cond b (once (filter (differs old new) names)) (once (filter (differs old new) names) ++ name ∷ [])) (sym (has-once (filter (differs old new) names) name) ∙ absent)

pub names_at-push : (es : List Entry) (ps : List ℕ) (p : ℕ) → names_at es (ps ++ p ∷ []) ≡ names_at es ps ++ name_at es p ∷ []
names_at-push es [] p = refl
names_at-push es (q ∷ ps) p = ap (λ (l : List (List ℕ)). name_at es q ∷ l) (names_at-push es ps p)

pub IsWithin-push : (n : ℕ) (ps : List ℕ) (p : ℕ) → p < n → IsWithin n ps → IsWithin n (ps ++ p ∷ [])
IsWithin-push n [] p lt h = (lt, tt)
IsWithin-push n (q ∷ ps) p lt h = (h.0, IsWithin-push n ps p lt h.1)
