-- The records of a world replay from no sets to this world.
use Rattle.std.proofs.Common.{◌≡◌, ℕ, zero, suc, ◌≤◌, ℤ, Bool, true, false, cond, ◌||◌, ◌⊎◌, inl, inr, List, [], ◌∷◌, ◌++◌, length, take, drop, map, Option, None, Some, is_some, IsSome, IfSome, unwrap_or, nat_eq, refl, sym, ap, subst, ◌∙◌, arith, length-drop}
use Rattle.std.specs.List.{AllByRecursion, list_any}
use Rattle.std.specs.Ordering.{eq_by_cmp}
use Rattle.std.specs.Cmp.{eq_by_cmp_equiv}
use Rattle.std.specs.FinMap as fin
use Rattle.std.proofs.lemmas.List.{append-nil, take-append-drop}
use Rattle.score_bounds.specs.ScoreTexts.{IsScore, IsPlain, score_text, score_value}
use Rattle.zset_core.specs.SortedSet.{Members, Pair, bytes_cmp, whole}
use Rattle.zset_core.specs.Semantics.{put_all}
use Rattle.zset_core.specs.SetsByKey.{World, is_empty, set_at, put_set}
use Rattle.zset_commands.specs.RequestLimits.{IsSpelled}
use Rattle.sorted_sets.specs.WorldWithinRequestLimits.{IsBoundedSet, IsBoundedAt, IsBoundedWorld}
use Rattle.sorted_sets.proofs.CallerLemmas.{total, exact}
use Rattle.sorted_sets.proofs.CallerLemmas.{get_put_set, filled}
use Rattle.log_records.specs.Records.{Record}
use Rattle.log_records.specs.Replay.{after, after_reading, replay_as, replay}
use Rattle.log_records.specs.declared.version.Version.TheVariants.{Effects}
use Rattle.log_records.specs.Dump.{add_record, cut_pieces, set_records, records_at, image}
use Rattle.log_records.proofs.AddRecord.{asked_add}
use Rattle.log_records.proofs.WholeListing.{each_found, each_of_whole}
use Rattle.log_records.proofs.ReplayLemmas.{replay_as-append}
use Rattle.log_records.proofs.SameWorlds.{set_at-put_set-same}
use Rattle.log_records.proofs.SetUnion.{plain, same_bytes, union, put_all-append}

-- a pair's score and its member are those of a request
each_spelled : (m : Members) (ps : List Pair) → IsBoundedSet m → AllByRecursion (λ p. fin.get m p.1 ≡ Some p.0) ps → AllByRecursion IsSpelled ps
each_spelled m [] bounded each = tt
each_spelled m (p ∷ ps) bounded each = (subst (λ (o : Option ℤ). IfSome o (λ score. IsSpelled (score, p.1))) each.0 (bounded p.1), each_spelled m ps bounded each.1)

pub whole_spelled : (m : Members) → IsBoundedSet m → AllByRecursion IsSpelled (whole m)
whole_spelled m bounded = each_spelled m (whole m) bounded (each_of_whole m)

scores : (ps : List Pair) → AllByRecursion IsSpelled ps → AllByRecursion (λ p. IsScore p.0) ps
scores [] each = tt
scores (p ∷ ps) each = (each.0.0, scores ps each.1)

pub each_take : (P : Pair → Type 0) (n : ℕ) (ps : List Pair) → AllByRecursion P ps → AllByRecursion P (take n ps)
each_take P zero ps each = tt
each_take P (suc n) [] each = tt
each_take P (suc n) (p ∷ ps) each = (each.0, each_take P n ps each.1)

pub each_drop : (P : Pair → Type 0) (n : ℕ) (ps : List Pair) → AllByRecursion P ps → AllByRecursion P (drop n ps)
each_drop P zero ps each = each
each_drop P (suc n) [] each = tt
each_drop P (suc n) (p ∷ ps) each = each_drop P n ps each.1

-- the world with pairs added at a key; where there are none, the world
abbrev pub added : World → List ℕ → List Pair → World
added world key [] = world
added world key (p ∷ ps) = put_set world key (put_all plain (set_at world key) (p ∷ ps))

put_twice : (w : World) (k : List ℕ) (one two : Members) → put_set (put_set w k one) k two ≡ put_set w k two
put_twice w k one two = fin.same_map total exact _ _ (λ q.
    get_put_set (put_set w k one) k two q ∙ ap (cond (eq_by_cmp bytes_cmp q k) (filled two)) (get_put_set w k one q) ∙ by (eq_by_cmp bytes_cmp q k) (filled two) (filled one) (fin.get w q) ∙ sym (get_put_set w k two q))
  where
    by : (b : Bool) (x y z : Option Members) → cond b x (cond b y z) ≡ cond b x z
    by true x y z = refl
    by false x y z = refl

added-append : (w : World) (key : List ℕ) (p : Pair) (ps more : List Pair) → added (added w key (p ∷ ps)) key more ≡ added w key ((p ∷ ps) ++ more)
added-append w key p ps [] = ap (added w key) (sym (append-nil (p ∷ ps)))
added-append w key p ps (x ∷ more) =
    let one : Members = put_all plain (set_at w key) (p ∷ ps) in
    ap (λ (m : Members). put_set (put_set w key one) key (put_all plain m (x ∷ more))) (set_at-put_set-same w key one)
    ∙ put_twice w key one (put_all plain one (x ∷ more))
    ∙ ap (put_set w key) (sym (put_all-append plain (set_at w key) (p ∷ ps) (x ∷ more)))

module _ (read_back : (score : ℤ) → IsScore score → score_value (score_text score) ≡ Some score) (is_plain : (score : ℤ) → IsScore score → IsPlain (score_text score)) where
  after_add : (w : World) (key : List ℕ) (p : Pair) (ps : List Pair) → AllByRecursion (λ p. IsScore p.0) (p ∷ ps) → after Effects w (add_record key (p ∷ ps)) ≡ Some (added w key (p ∷ ps))
  after_add w key p ps each = ap (after_reading Effects w) (asked_add read_back is_plain key p ps each)

  replay_pieces : (n : ℕ) (ps : List Pair) (w : World) (key : List ℕ) → length ps ≤ n → AllByRecursion (λ p. IsScore p.0) ps → replay_as Effects w (map (add_record key) (cut_pieces n ps)) ≡ Some (added w key ps)
  replay_pieces zero [] w key le each = refl
  replay_pieces zero (p ∷ ps) w key le each = absurd (omega (arith, le))
  replay_pieces (suc n) [] w key le each = refl
  replay_pieces (suc n) (p ∷ ps) w key le each =
      let first = take 511 ps in
      let behind = drop 511 ps in
      replay_as-append Effects w (add_record key (p ∷ first) ∷ []) (map (add_record key) (cut_pieces n behind)) (added w key (p ∷ first)) (rw (after_add w key p first (each.0, each_take (λ p. IsScore p.0) 511 ps each.1)) refl)
      ∙ replay_pieces n behind (added w key (p ∷ first)) key (omega (arith, le, length-drop 511 ps)) (each_drop (λ p. IsScore p.0) 511 ps each.1)
      ∙ ap Some (added-append w key p first behind ∙ ap (λ l. added w key (p ∷ l)) (take-append-drop 511 ps))

  -- ---- one set
  empty_set : (m : Members) → fin.empty ≡ m → is_empty m ≡ true
  empty_set m is = ap is_empty (sym is) ∙ ap (λ n. nat_eq n 0) (fin.len-empty bytes_cmp ℤ)

  led : (w : World) (key : List ℕ) (m : Members) (ps : List Pair) → put_all plain (set_at w key) ps ≡ m → put_all plain fin.empty ps ≡ m → is_empty m ≡ false → added w key ps ≡ put_set w key m
  led w key m [] leads from_none some = let no : true ≡ false = sym (empty_set m from_none) ∙ some in cc
  led w key m (p ∷ ps) leads from_none some = ap (put_set w key) leads

  replay_set : (w : World) (key : List ℕ) (m : Members) → (set_at w key ≡ fin.empty) ⊎ (set_at w key ≡ m) → is_empty m ≡ false → IsBoundedSet m → replay_as Effects w (set_records key m) ≡ Some (put_set w key m)
  replay_set w key m start some bounded =
      replay_pieces (length (whole m)) (whole m) w key (omega arith) (scores (whole m) (whole_spelled m bounded))
      ∙ ap Some (led w key m (whole m) (union (set_at w key) m start) (union fin.empty m (inl refl)) some)

  -- ---- all sets
  -- at each key there is what the other world has there, or nothing
  abbrev IsPart : World → World → Type 0
  IsPart w world = (q : List ℕ) → (fin.get w q ≡ None) ⊎ (fin.get w q ≡ fin.get world q)

  abbrev has_key : List (List ℕ) → List ℕ → Bool
  has_key keys q = list_any (eq_by_cmp bytes_cmp q) keys

  -- the world that records replay to has these sets of the other world
  abbrev LeadsAt : World → World → List Record → List (List ℕ) → Type 0
  LeadsAt world w records keys = (end : World) × (replay_as Effects w records ≡ Some end) × ((q : List ℕ) → fin.get end q ≡ cond (has_key keys q) (fin.get world q) (fin.get w q))

  step_at : (world w : World) (key : List ℕ) (m : Members) (keys : List (List ℕ)) → fin.get world key ≡ Some m → IsBoundedAt key m → IsPart w world
      → ((next : World) → IsPart next world → LeadsAt world next (records_at world keys) keys) → LeadsAt world w (set_records key m ++ records_at world keys) (key ∷ keys)
  step_at world w key m keys at bounded part on =
      let next = put_set w key m in
      let more = on next part_on in
      (more.0, replay_as-append Effects w (set_records key m) (records_at world keys) next (replay_set w key m start bounded.filled bounded.members) ∙ more.1, λ q. more.2 q ∙ ap (cond (has_key keys q) (fin.get world q)) (next_at q) ∙ found q (eq_by_cmp bytes_cmp q key) refl (has_key keys q))
    where
      start : (set_at w key ≡ fin.empty) ⊎ (set_at w key ≡ m)
      start = elim (part key) [ inl none ↦ inl (ap (λ (o : Option Members). unwrap_or o fin.empty) none) | inr same ↦ inr (ap (λ (o : Option Members). unwrap_or o fin.empty) (same ∙ at)) ]

      next_at : (q : List ℕ) → fin.get (put_set w key m) q ≡ cond (eq_by_cmp bytes_cmp q key) (Some m) (fin.get w q)
      next_at q = get_put_set w key m q ∙ ap (λ b. cond (eq_by_cmp bytes_cmp q key) (cond b None (Some m)) (fin.get w q)) bounded.filled

      there : (q : List ℕ) → eq_by_cmp bytes_cmp q key ≡ true → fin.get world q ≡ Some m
      there q h = ap (fin.get world) (same_bytes q key h) ∙ at

      part_on : IsPart (put_set w key m) world
      part_on q = subst (λ (o : Option Members). (o ≡ None) ⊎ (o ≡ fin.get world q)) (sym (next_at q)) (by (eq_by_cmp bytes_cmp q key) refl)
        where
          by : (b : Bool) → eq_by_cmp bytes_cmp q key ≡ b → (cond b (Some m) (fin.get w q) ≡ None) ⊎ (cond b (Some m) (fin.get w q) ≡ fin.get world q)
          by true h = inr (sym (there q h))
          by false h = part q

      found : (q : List ℕ) (e : Bool) → eq_by_cmp bytes_cmp q key ≡ e → (a : Bool) → cond a (fin.get world q) (cond e (Some m) (fin.get w q)) ≡ cond (e || a) (fin.get world q) (fin.get w q)
      found q true h true = refl
      found q true h false = sym (there q h)
      found q false h a = refl

  replay_keys : (world : World) → IsBoundedWorld world → (keys : List (List ℕ)) → AllByRecursion (λ key. IsSome (fin.get world key)) keys → (w : World) → IsPart w world → LeadsAt world w (records_at world keys) keys
  replay_keys world bounded [] there w part = (w, refl, λ q. refl)
  replay_keys world bounded (key ∷ keys) there w part = by (replay_keys world bounded keys there.1) (fin.get world key) refl there.0 (bounded key)
    where
      by : ((next : World) → IsPart next world → LeadsAt world next (records_at world keys) keys) → (o : Option Members) → fin.get world key ≡ o → IsSome o → IfSome o (IsBoundedAt key) → LeadsAt world w (set_records key (set_at world key) ++ records_at world keys) (key ∷ keys)
      by on None at some h = let no : false ≡ true = some in cc
      by on (Some m) at some h =
          subst (λ (s : Members). LeadsAt world w (set_records key s ++ records_at world keys) (key ∷ keys)) (sym (ap (λ (o : Option Members). unwrap_or o fin.empty) at))
          (step_at world w key m keys at h part on)

  pub keys_there : (world : World) → AllByRecursion (λ key. IsSome (fin.get world key)) (fin.keys world)
  keys_there world = each_found (eq_by_cmp bytes_cmp) (eq_by_cmp_equiv total).refl (λ key. IsSome (fin.get world key)) (fin.keys world) (λ q h. fin.contains_key-keys world q ∙ h)

  pub image_leads : (world : World) → IsBoundedWorld world → replay fin.empty (image world) ≡ Some world
  image_leads world bounded =
      let all = replay_keys world bounded (fin.keys world) (keys_there world) fin.empty (λ q. inl (fin.get-empty bytes_cmp q)) in
      all.1 ∙ ap Some (fin.same_map total exact all.0 world (λ q. all.2 q ∙ ap (λ b. cond b (fin.get world q) (fin.get {R = bytes_cmp} fin.empty q)) (sym (fin.contains_key-keys world q)) ∙ by (fin.get world q) _ (fin.get-empty bytes_cmp q)))
    where
      by : (o other : Option Members) → other ≡ None → cond (is_some o) o other ≡ o
      by None other e = e
      by (Some m) other e = refl
