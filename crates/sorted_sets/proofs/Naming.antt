-- The names at the places that a draft notes.
use Rattle.std.proofs.Common.{◌≡◌, ℕ, zero, suc, ◌<◌, ◌&&◌, not, filter, ℤ, Bool, true, false, cond, if◌then◌else◌, List, [], ◌∷◌, ◌++◌, length, drop, slice_get, ◌≤◌, Option, None, Some, is_none, refl, sym, ap, subst, ◌∙◌, arith, append_assoc, append-nil, is_some, ◌||◌, true≢false}
use Rattle.std.specs.Ordering.{eq_by_cmp, nat_cmp}
use Rattle.std.specs.BTreeSet.{insert_key}
use Rattle.std.specs.Cmp.Lexicographic.{bytes_decides, nat_list_eq_equiv}
use Rattle.std.specs.Str.{bytes_eq}
use Rattle.std.specs.FinMap as fin
use Rattle.std.proofs.lemmas.List.{length-map}
use Rattle.std.proofs.lemmas.Option.{slice_get_within}
use Rattle.indexmap.specs.IndexMap.{set_value_at}
use Rattle.zset_core.specs.SortedSet.{Members, Pair, names_of, bytes_cmp}
use Rattle.zset_core.specs.Semantics.{outcome_of, writes, put_one, put_all, remove_all}
use Rattle.sorted_sets.specs.MovedMembers.{same_score, differs, once, moved_names}
use Rattle.sorted_sets.specs.NamesTouchedByPlan.{mention, mentions, noted, all_noted}
use Rattle.sorted_sets.specs.MembersWithStagedScores.{Entry, name_at, names_at, slots, IsWithin}
use Rattle.sorted_sets.specs.declared.set.members_with_staged_scores.ScoreSlot.{ScoreSlot}
use Rattle.zset_commands.specs.declared.flags.Flags.{Flags}
use Rattle.zset_core.specs.declared.pair_outcome.Outcome.TheVariants.{Stopped, Added}
use Rattle.sorted_sets.proofs.Bridge.{total, tied}
use Rattle.sorted_sets.proofs.Outlines.{has}
use Rattle.sorted_sets.proofs.Gathering.{get-remove_all, any_put}
use Rattle.sorted_sets.proofs.Effects.{moved-kept, moved-there, moved-more, names_at-push}

abbrev slot_of : Entry → List ℕ × ScoreSlot
slot_of e = (e.0, e.1)

-- ---- names
pub place_within : (es : List Entry) (p : ℕ) (x : List ℕ × ScoreSlot) → slice_get (slots es) p ≡ Some x → p < length es
place_within es p x at = subst (λ (n : ℕ). p < n) (length-map es slot_of) (slice_get_within (slots es) p x at)

pub name_push : (es : List Entry) (e : Entry) (p : ℕ) → p < length es → name_at (es ++ e ∷ []) p ≡ name_at es p
name_push [] e p lt = absurd (omega (arith, lt))
name_push (x ∷ es) e zero lt = refl
name_push (x ∷ es) e (suc p) lt = name_push es e p (omega (arith, lt))

pub name_last : (es : List Entry) (e : Entry) → name_at (es ++ e ∷ []) (length es) ≡ e.0
name_last [] e = refl
name_last (x ∷ es) e = name_last es e

name_written : (es : List Entry) (i : ℕ) (w : ScoreSlot) (p : ℕ) → name_at (set_value_at es i w) p ≡ name_at es p
name_written [] i w p = refl
name_written (e ∷ es) zero w zero = refl
name_written (e ∷ es) zero w (suc p) = refl
name_written (e ∷ es) (suc i) w zero = refl
name_written (e ∷ es) (suc i) w (suc p) = name_written es i w p

pub names_written : (es : List Entry) (i : ℕ) (w : ScoreSlot) (ps : List ℕ) → names_at (set_value_at es i w) ps ≡ names_at es ps
names_written es i w [] = refl
names_written es i w (p ∷ ps) =
    ap (λ (k : List ℕ). k ∷ names_at (set_value_at es i w) ps) (name_written es i w p) ∙ ap (λ (l : List (List ℕ)). name_at es p ∷ l) (names_written es i w ps)

pub names_where : (es fs : List Entry) (n : ℕ) (ps : List ℕ) → ((p : ℕ) → p < n → name_at fs p ≡ name_at es p) → IsWithin n ps → names_at fs ps ≡ names_at es ps
names_where es fs n [] same w = refl
names_where es fs n (p ∷ ps) same w =
    ap (λ (k : List ℕ). k ∷ names_at fs ps) (same p w.0) ∙ ap (λ (l : List (List ℕ)). name_at es p ∷ l) (names_where es fs n ps same w.1)

-- ---- mentions
xx_off : (xx : Bool) → writes (if xx then Stopped else Added) ≡ true → xx ≡ false
xx_off true wrote = absurd (true≢false (sym wrote))
xx_off false wrote = refl

-- a pair that adds its member mentions it
pub mention_new : (flags : Flags) (ms : Members) (q : List ℕ) (s : ℤ) → writes (outcome_of flags None s) ≡ true → mention flags ms q ≡ q ∷ []
mention_new flags ms q s wrote = ap (λ (b : Bool). if b && is_none (fin.get ms q) then [] else q ∷ []) (xx_off flags.xx wrote)

-- and so does the pair of a member
pub mention_there : (flags : Flags) (ms : Members) (q : List ℕ) (s : ℤ) → Some s ≡ fin.get ms q → mention flags ms q ≡ q ∷ []
mention_there flags ms q s at = ap (λ (o : Option ℤ). if flags.xx && is_none o then [] else q ∷ []) (sym at) ∙ by flags.xx
  where
    by : (b : Bool) → (if b && false then [] else q ∷ []) ≡ q ∷ []
    by true = refl
    by false = refl

equal_of : (q k : List ℕ) → eq_by_cmp bytes_cmp q k ≡ true → q ≡ k
equal_of q k h = sym ((bytes_decides k q).0 (tied q k ∙ h))

-- under XX a pair leaves who is a member
stays_member : (f : Flags) (old : Members) (z : ℤ) (m q : List ℕ) → f.xx ≡ true → is_none (fin.get (put_one f old m z) q) ≡ is_none (fin.get old q)
stays_member f old z m q on = by (fin.get old m) refl
  where
    put : Bool → Members
    put w = if w then fin.insert old m z else old

    same : (s : ℤ) → fin.get old m ≡ Some s → (b : Bool) → eq_by_cmp bytes_cmp q m ≡ b → is_none (cond b (Some z) (fin.get old q)) ≡ is_none (fin.get old q)
    same s at true is = sym (ap (λ (k : List ℕ). is_none (fin.get old k)) (equal_of q m is) ∙ ap is_none at)
    same s at false is = refl

    wrote : (s : ℤ) → fin.get old m ≡ Some s → (w : Bool) → is_none (fin.get (put w) q) ≡ is_none (fin.get old q)
    wrote s at true = ap is_none (fin.get-insert total old m z q) ∙ same s at (eq_by_cmp bytes_cmp q m) refl
    wrote s at false = refl

    by : (o : Option ℤ) → fin.get old m ≡ o → is_none (fin.get (put (writes (outcome_of f o z))) q) ≡ is_none (fin.get old q)
    by None at = ap (λ (b : Bool). is_none (fin.get (put (writes (if b then Stopped else Added))) q)) on
    by (Some s) at = wrote s at (writes (outcome_of f (Some s) z))

mention_put : (f : Flags) (old : Members) (z : ℤ) (m q : List ℕ) → mention f (put_one f old m z) q ≡ mention f old q
mention_put f old z m q = by f.xx refl
  where
    by : (xx : Bool) → f.xx ≡ xx → (if xx && is_none (fin.get (put_one f old m z) q) then [] else q ∷ []) ≡ (if xx && is_none (fin.get old q) then [] else q ∷ [])
    by true on = ap (λ (b : Bool). if b then [] else q ∷ []) (stays_member f old z m q on)
    by false off = refl

mentions_put : (f : Flags) (old : Members) (z : ℤ) (m : List ℕ) (ps : List Pair) → mentions f (put_one f old m z) ps ≡ mentions f old ps
mentions_put f old z m [] = refl
mentions_put f old z m (p ∷ ps) =
    ap (λ (l : List (List ℕ)). l ++ mentions f (put_one f old m z) ps) (mention_put f old z m p.1) ∙ ap (λ (l : List (List ℕ)). mention f old p.1 ++ l) (mentions_put f old z m ps)

-- one pair more
pub mentions_step : (f : Flags) (old new : Members) (z : ℤ) (m : List ℕ) (ps rest : List Pair) (was now end : List (List ℕ)) → ps ≡ (z, m) ∷ rest → new ≡ put_one f old m z
    → now ≡ was ++ mention f old m → was ++ mentions f old ps ≡ end → now ++ mentions f new rest ≡ end
mentions_step f old new z m ps rest was now end is after one done =
    ap (λ (l : List (List ℕ)). l ++ mentions f new rest) one ∙ append_assoc was (mention f old m) (mentions f new rest)
    ∙ ap (λ (l : List (List ℕ)). was ++ (mention f old m ++ l)) (ap (λ (s : Members). mentions f s rest) after ∙ mentions_put f old z m rest)
    ∙ sym (ap (λ (l : List Pair). was ++ mentions f old l) is) ∙ done

pub stays_members : (f : Flags) (old : Members) (ps : List Pair) (q : List ℕ) → f.xx ≡ true → is_none (fin.get (put_all f old ps) q) ≡ is_none (fin.get old q)
stays_members f old [] q on = refl
stays_members f old (p ∷ ps) q on = stays_members f (put_one f old p.1 p.0) ps q on ∙ stays_member f old p.0 p.1 q on

-- ---- the members that move among those mentioned are those that move among those named
none_same : (n : Option ℤ) → is_none n ≡ true → same_score None n ≡ true
none_same None h = refl
none_same (Some s) h = absurd (true≢false (sym h))

filter-mentions : (f : Flags) (old new : Members) → (f.xx ≡ true → (q : List ℕ) → is_none (fin.get new q) ≡ is_none (fin.get old q)) → (ps : List Pair)
    → filter (differs old new) (mentions f old ps) ≡ filter (differs old new) (names_of ps)
filter-mentions f old new stays [] = refl
filter-mentions f old new stays (p ∷ ps) = by f.xx refl (fin.get old p.1) refl (filter-mentions f old new stays ps)
  where
    d : List ℕ → Bool
    d = differs old new

    Rest : Type 0
    Rest = filter d (mentions f old ps) ≡ filter d (names_of ps)

    more : Rest → cond (d p.1) (p.1 ∷ filter d (mentions f old ps)) (filter d (mentions f old ps)) ≡ cond (d p.1) (p.1 ∷ filter d (names_of ps)) (filter d (names_of ps))
    more rest = ap (λ (l : List (List ℕ)). cond (d p.1) (p.1 ∷ l) l) rest

    by : (xx : Bool) → f.xx ≡ xx → (o : Option ℤ) → fin.get old p.1 ≡ o → Rest
        → filter d ((if xx && is_none o then [] else p.1 ∷ []) ++ mentions f old ps) ≡ cond (d p.1) (p.1 ∷ filter d (names_of ps)) (filter d (names_of ps))
    by true on None at rest =
        let gone : d p.1 ≡ false = ap (λ (o : Option ℤ). not (same_score o (fin.get new p.1))) at ∙ ap not (none_same (fin.get new p.1) (stays on p.1 ∙ ap is_none at)) in
        rest ∙ sym (ap (λ (b : Bool). cond b (p.1 ∷ filter d (names_of ps)) (filter d (names_of ps))) gone)
    by true on (Some s) at rest = more rest
    by false off o at rest = more rest

pub moved_mentions : (f : Flags) (old : Members) (ps : List Pair) → moved_names old (put_all f old ps) (mentions f old ps) ≡ moved_names old (put_all f old ps) (names_of ps)
moved_mentions f old ps = ap once (filter-mentions f old (put_all f old ps) (λ on q. stays_members f old ps q on) ps)

-- ---- ZREM: each name that is a member, once, where it first stands
noted_step : (m : Members) (all front : List (List ℕ)) (name : List ℕ) → has all name ≡ true → noted m (moved_names m (remove_all m all) front) name ≡ moved_names m (remove_all m all) (front ++ name ∷ [])
noted_step m all front name inside = by (fin.get m name) refl (has (moved_names m new front) name) refl
  where
    new : Members
    new = remove_all m all

    gone : fin.get new name ≡ None
    gone = get-remove_all m all name ∙ ap (λ (b : Bool). cond b None (fin.get m name)) inside

    at : (o : Option ℤ) → fin.get m name ≡ o → differs m new name ≡ not (same_score o None)
    at o is = ap (λ (n : Option ℤ). not (same_score (fin.get m name) n)) gone ∙ ap (λ (o : Option ℤ). not (same_score o None)) is

    by : (o : Option ℤ) → fin.get m name ≡ o → (h : Bool) → has (moved_names m new front) name ≡ h
        → (if is_some o && not h then moved_names m new front ++ name ∷ [] else moved_names m new front) ≡ moved_names m new (front ++ name ∷ [])
    by None is h there = sym (moved-kept m new front name (at None is))
    by (Some s) is true there = sym (moved-there m new front name there)
    by (Some s) is false there = sym (moved-more m new front name (at (Some s) is) there)

or-right : (a b : Bool) → b ≡ true → (a || b) ≡ true
or-right true b h = refl
or-right false b h = h

noted_from : (m : Members) (all front names : List (List ℕ)) → ((q : List ℕ) → has names q ≡ true → has all q ≡ true) → all_noted m (moved_names m (remove_all m all) front) names ≡ moved_names m (remove_all m all) (front ++ names)
noted_from m all front [] inside = ap (λ (l : List (List ℕ)). moved_names m (remove_all m all) l) (sym (append-nil front))
noted_from m all front (n ∷ names) inside =
    ap (λ (found : List (List ℕ)). all_noted m found names) (noted_step m all front n (inside n (ap (λ (b : Bool). b || has names n) (nat_list_eq_equiv.refl n))))
    ∙ noted_from m all (front ++ n ∷ []) names (λ q h. inside q (or-right (bytes_eq q n) (has names q) h))
    ∙ ap (λ (l : List (List ℕ)). moved_names m (remove_all m all) l) (append_assoc front (n ∷ []) names)

pub noted_all : (m : Members) (names : List (List ℕ)) → all_noted m [] names ≡ moved_names m (remove_all m names) names
noted_all m names = noted_from m names [] names (λ q h. h)

pub noted_absent : (m : Members) (found : List (List ℕ)) (name : List ℕ) → fin.get m name ≡ None → noted m found name ≡ found
noted_absent m found name none = ap (λ (o : Option ℤ). if is_some o && not (has found name) then found ++ name ∷ [] else found) none

pub noted_there : (m : Members) (found : List (List ℕ)) (name : List ℕ) → has found name ≡ true → noted m found name ≡ found
noted_there m found name there = ap (λ (b : Bool). if is_some (fin.get m name) && not b then found ++ name ∷ [] else found) there ∙ by (is_some (fin.get m name))
  where
    by : (b : Bool) → (if b && false then found ++ name ∷ [] else found) ≡ found
    by true = refl
    by false = refl

pub noted_new : (m : Members) (found : List (List ℕ)) (name : List ℕ) (s : ℤ) → fin.get m name ≡ Some s → has found name ≡ false → noted m found name ≡ found ++ name ∷ []
noted_new m found name s at absent =
    ap (λ (o : Option ℤ). if is_some o && not (has found name) then found ++ name ∷ [] else found) at ∙ ap (λ (b : Bool). if not b then found ++ name ∷ [] else found) absent

has_push : (names : List (List ℕ)) (n q : List ℕ) → has (names ++ n ∷ []) q ≡ (has names q || bytes_eq q n)
has_push [] n q = by (bytes_eq q n)
  where
    by : (b : Bool) → (b || false) ≡ b
    by true = refl
    by false = refl
has_push (x ∷ names) n q = ap (λ (b : Bool). bytes_eq q x || b) (has_push names n q) ∙ grouped (bytes_eq q x) (has names q) (bytes_eq q n)
  where
    grouped : (a b c : Bool) → (a || (b || c)) ≡ ((a || b) || c)
    grouped true b c = refl
    grouped false b c = refl

-- a place more in both
pub seen_more : (es : List Entry) (order order' keys keys' : List ℕ) (p : ℕ) → order' ≡ order ++ p ∷ [] → keys' ≡ insert_key nat_cmp keys p
    → (q : List ℕ) → has (names_at es order) q ≡ has (names_at es keys) q → has (names_at es order') q ≡ has (names_at es keys') q
seen_more es order order' keys keys' p is put q old =
    ap (λ (l : List ℕ). has (names_at es l) q) is ∙ ap (λ (l : List (List ℕ)). has l q) (names_at-push es order p) ∙ has_push (names_at es order) (name_at es p) q
    ∙ ap (λ (b : Bool). b || bytes_eq q (name_at es p)) old ∙ sym (ap (λ (l : List ℕ). has (names_at es l) q) put ∙ any_put es (bytes_eq q) keys p)

pub drop_all : (names : List (List ℕ)) (i : ℕ) → length names ≤ i → drop i names ≡ []
drop_all [] zero h = refl
drop_all [] (suc i) h = refl
drop_all (x ∷ names) zero h = absurd (omega (arith, h))
drop_all (x ∷ names) (suc i) h = drop_all names i (omega (arith, h))

pub not_true : (a b : Bool) → a ≡ not b → a ≡ true → b ≡ false
not_true a true is on = absurd (true≢false (sym on ∙ is))
not_true a false is on = refl

pub not_false : (a b : Bool) → a ≡ not b → a ≡ false → b ≡ true
not_false a true is off = refl
not_false a false is off = absurd (true≢false (sym is ∙ off))

-- the one pair of INCR
pub moved_mention : (f : Flags) (old : Members) (m : List ℕ) (s : ℤ) → moved_names old (put_one f old m s) (mention f old m) ≡ moved_names old (put_one f old m s) (m ∷ [])
moved_mention f old m s = ap (λ (l : List (List ℕ)). moved_names old (put_one f old m s) l) (sym (append-nil (mention f old m))) ∙ moved_mentions f old ((s, m) ∷ [])
