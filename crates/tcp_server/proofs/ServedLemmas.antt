-- What a hand-over to workers of a table gives: their passes, and how many connections came.
use Rattle.std.proofs.Common.{◌≡◌, ◌≢◌, ℕ, zero, suc, ◌+◌, ◌-◌, ◌<◌, ◌≤◌, if◌then◌else◌, eqb, Bool, true, false, Option, Some, List, [], ◌∷◌, ◌++◌, length, length-append, take, get_or, ◌⊎◌, inl, inr, refl, sym, ◌∙◌, ap, subst, ⊎_elim, arith}
use Rattle.std.specs.Prelude.{All, Vec, vec_len}
use Rattle.std.specs.List.{sum_by}
use Rattle.std.proofs.lemmas.Bool.{cases_eq}
use Rattle.std.proofs.lemmas.Bool.Decides.{eqb_tells}
use Rattle.std.proofs.lemmas.List.Elements.{All-nil, All-cons, All-map, All-same, All-push}
use Rattle.std.proofs.lemmas.List.Sums.{sum_by-cons}
use Rattle.std.proofs.lemmas.List.{map-append, take_all, length-map}
use Rattle.hand_over.specs.ChannelInvariant.{times, once_below}
use Rattle.hand_over.specs.Outcome.{all_of, HandlersServed, IsHandedOver}
use Rattle.connection_channel.specs.declared.arrivals.ArrivalKind.{ArrivalKind}
use Rattle.connection_channel.specs.declared.arrivals.ArrivalKind.TheVariants.{End, Failure}
use Rattle.hand_over.specs.declared.outcome.HandedOver.{HandedOver}
use Rattle.set_table.specs.TableAndPassViews.{TableView, PassView, IsPassOf}
use Rattle.table_worker.specs.WorkerAnswers.{WorkerView}
use Rattle.tcp_server.specs.ServerRun.{IsAttended}
use Rattle.table_worker.specs.WorkerRequests.{HandlerView, Keeps, Attends, worker_on, new_handler, new_handlers, passes_of, AllKeep}

times-append : (x : ℕ) (a b : List ℕ) → times x (a ++ b) ≡ times x a + times x b
times-append x [] b = omega arith
times-append x (y ∷ ys) b = let s = times-append x ys b in omega arith

abbrev one_where : Bool → ℕ
one_where b = if b then 1 else 0

times_other : (x y : ℕ) (ys : List ℕ) → y ≢ x → times x (y ∷ ys) ≡ times x ys
times_other x y ys other = ⊎_elim
    (λ (t : (eqb y x ≡ true) × (y ≡ x)). absurd (other t.1))
    (λ (t : (eqb y x ≡ false) × (y ≢ x)). let e : one_where (eqb y x) ≡ 0 = ap one_where t.0 in omega arith)
    (eqb_tells y x)

times_own : (x : ℕ) (ys : List ℕ) → times x (x ∷ ys) ≡ 1 + times x ys
times_own x ys = ⊎_elim
    (λ (t : (eqb x x ≡ true) × (x ≡ x)). let e : one_where (eqb x x) ≡ 1 = ap one_where t.0 in omega arith)
    (λ (t : (eqb x x ≡ false) × (x ≢ x)). absurd (t.1 refl))
    (eqb_tells x x)

-- a list that has n is another list with n more
record Has (n : ℕ) (zs : List ℕ) : Type 0 where
  pub others : List ℕ
  pub longer : length zs ≡ length others + 1
  pub split : (x : ℕ) → times x zs ≡ times x (n ∷ []) + times x others

has : (n : ℕ) (zs : List ℕ) → 0 < times n zs → Has n zs
has n [] some = absurd (omega (arith, some))
has n (z ∷ zs) some = ⊎_elim
    (λ (same : z ≡ n). record { others = zs; longer = omega arith; split = λ x. subst (λ (y : ℕ). times x (z ∷ zs) ≡ times x (y ∷ []) + times x zs) same (times-append x (z ∷ []) zs) })
    (λ (other : z ≢ n).
    let rest = has n zs (let e = times_other n z zs other in omega (arith, some)) in
    record { others = z ∷ rest.others; longer = (let e = rest.longer in omega arith); split = λ x. (let e = rest.split x in let a = times-append x (z ∷ []) zs in let b = times-append x (z ∷ []) rest.others in omega arith) })
    (cases_eq z n)

-- a list that has each number below n once, and no other, has n numbers
counted : (n : ℕ) (zs : List ℕ) → ((x : ℕ) → times x zs ≡ once_below x n) → length zs ≡ n
counted zero [] once = refl
counted zero (z ∷ zs) once = absurd (let e = once z in let o = times_own z zs in omega arith)
counted (suc n) zs once =
    let own = times_own n [] in
    let some : 0 < times n zs = (let e = once n in omega arith) in
    let h = has n zs some in
    let rest = counted n h.others (λ x. (let e = once x in let s = h.split x in omega arith)) in
    (let e = h.longer in omega arith)

pub count_told : (n : ℕ) (taken left : List ℕ) → ((x : ℕ) → times x taken + times x left ≡ once_below x n) → length taken + length left ≡ n
count_told n taken left once =
    let c = counted n (taken ++ left) (λ x. (let e = once x in let a = times-append x taken left in omega arith)) in
    omega (arith, length-append taken left)

-- the numbers of all lists are as many as the lists have together
pub length_all_of : {A : Type 0} (lists : List (Vec ℕ A)) → length (all_of lists) ≡ sum_by (λ v. vec_len v) lists
length_all_of [] = refl
length_all_of {A} (v ∷ vs) = let rest = length_all_of vs in let one = v.ok.0 in omega (arith, length-append v.items (all_of vs), sum_by-cons (λ (w : Vec ℕ A). vec_len w) v vs)

pub length_at_end : {A : Type 0} (lists : List (Vec ℕ A)) (i : ℕ) → length lists ≤ i → sum_by (λ v. vec_len v) (take i lists) ≡ length (all_of lists)
length_at_end {A} lists i all = ap (λ (l : List (Vec ℕ A)). sum_by (λ v. vec_len v) l) (take_all i lists all) ∙ sym (length_all_of lists)

pub passes_more : (old new : List PassView) (handlers : List HandlerView) (h : HandlerView) (pass : PassView)
    → old ≡ passes_of handlers → new ≡ old ++ pass ∷ [] → pass ≡ h.worker.pass → new ≡ passes_of (handlers ++ h ∷ [])
passes_more old new handlers h pass old_is new_is pass_is =
    new_is ∙ ap (λ (l : List PassView). l ++ pass ∷ []) old_is ∙ ap (λ (p : PassView). passes_of handlers ++ p ∷ []) pass_is
    ∙ sym (map-append (λ (x : HandlerView). x.worker.pass) handlers (h ∷ []))

pub handlers_more : (table : TableView) (old new : List HandlerView) (passes : List PassView) (pass : PassView) (h : HandlerView)
    → old ≡ new_handlers table passes → new ≡ old ++ h ∷ [] → h.worker ≡ worker_on table pass → h.handled ≡ 0 → h.connections ≡ [] → new ≡ new_handlers table (passes ++ pass ∷ [])
handlers_more table old new passes pass h old_is new_is worker_is none empty =
    let same : h ≡ new_handler table pass = λ i. record { worker = worker_is i; handled = none i; connections = empty i } in
    new_is ∙ ap (λ (l : List HandlerView). l ++ h ∷ []) old_is ∙ ap (λ (x : HandlerView). new_handlers table passes ++ x ∷ []) same
    ∙ sym (map-append (new_handler table) passes (pass ∷ []))

pub none_more : (old new : List HandlerView) (h : HandlerView) → All (λ x. x.handled ≡ 0) old → new ≡ old ++ h ∷ [] → h.handled ≡ 0 → All (λ x. x.handled ≡ 0) new
none_more old new h all new_is none =
    let None' : HandlerView → Type 0 = λ x. x.handled ≡ 0 in All-same None' new (old ++ h ∷ []) new_is (All-push None' old h all none)

abbrev OnTable : TableView → HandlerView → Type 0
OnTable table h = h.worker.table ≡ table

keeps_on_table : (table : TableView) (pass : PassView) (worker : WorkerView) → Keeps (worker_on table pass) worker → Keeps (worker_on table pass) (worker_on table worker.pass)
keeps_on_table table pass worker k =
    let same : worker ≡ worker_on table worker.pass = λ i. record { table = k.table i; pass = worker.pass } in
    subst (λ (w : WorkerView). Keeps (worker_on table pass) w) same k

module _ {A : Type 0} where
  pub all_keep : (table : TableView) (passes : List PassView) (handed : List HandlerView) (lists : List (Vec ℕ A))
      → HandlersServed Attends (λ h. h.handled) (new_handlers table passes) handed lists → AllKeep table passes (passes_of handed)
  all_keep table [] [] [] served = tt
  all_keep table (pass ∷ passes) (h ∷ handed) (list ∷ lists) served = (keeps_on_table table pass h.worker served.0.worker, all_keep table passes handed lists served.2)
  all_keep table [] [] (list ∷ lists) served = absurd served
  all_keep table [] (h ∷ handed) [] served = absurd served
  all_keep table [] (h ∷ handed) (list ∷ lists) served = absurd served
  all_keep table (pass ∷ passes) [] [] served = absurd served
  all_keep table (pass ∷ passes) [] (list ∷ lists) served = absurd served
  all_keep table (pass ∷ passes) (h ∷ handed) [] served = absurd served

  same_tables : (table : TableView) (passes : List PassView) (handed : List HandlerView) (lists : List (Vec ℕ A))
      → HandlersServed Attends (λ h. h.handled) (new_handlers table passes) handed lists → All (OnTable table) handed
  same_tables table [] [] [] served = All-nil (OnTable table)
  same_tables table (pass ∷ passes) (h ∷ handed) (list ∷ lists) served = All-cons (OnTable table) h handed served.0.worker.table (same_tables table passes handed lists served.2)
  same_tables table [] [] (list ∷ lists) served = absurd served
  same_tables table [] (h ∷ handed) [] served = absurd served
  same_tables table [] (h ∷ handed) (list ∷ lists) served = absurd served
  same_tables table (pass ∷ passes) [] [] served = absurd served
  same_tables table (pass ∷ passes) [] (list ∷ lists) served = absurd served
  same_tables table (pass ∷ passes) (h ∷ handed) [] served = absurd served

  pub own_passes : (table : TableView) (passes : List PassView) (handed : List HandlerView) (lists : List (Vec ℕ A))
      → HandlersServed Attends (λ h. h.handled) (new_handlers table passes) handed lists → All (λ h. IsPassOf h.worker.table h.worker.pass) handed → All (IsPassOf table) (passes_of handed)
  own_passes table passes handed lists served own =
      let tables = same_tables table passes handed lists served in
      All-map (IsPassOf table) (λ h. h.worker.pass) handed (λ k d within. subst (λ (t : TableView). IsPassOf t (get_or handed k d).worker.pass) (tables k d within) (own k d within))

  pub as_many_handed : (table : TableView) (passes : List PassView) (handed : List HandlerView) (lists : List (Vec ℕ A))
      → HandlersServed Attends (λ h. h.handled) (new_handlers table passes) handed lists → length handed ≡ length passes
  as_many_handed table [] [] [] served = refl
  as_many_handed table (pass ∷ passes) (h ∷ handed) (list ∷ lists) served = ap suc (as_many_handed table passes handed lists served.2)
  as_many_handed table [] [] (list ∷ lists) served = absurd served
  as_many_handed table [] (h ∷ handed) [] served = absurd served
  as_many_handed table [] (h ∷ handed) (list ∷ lists) served = absurd served
  as_many_handed table (pass ∷ passes) [] [] served = absurd served
  as_many_handed table (pass ∷ passes) [] (list ∷ lists) served = absurd served
  as_many_handed table (pass ∷ passes) (h ∷ handed) [] served = absurd served

module _ {A : Type 0} (came : A → ℕ) (last : A → Option ArrivalKind) (before after : A) (limit : ℕ) (table : TableView) (first : List PassView) (handlers : List HandlerView) (handed : HandedOver HandlerView) (are : handlers ≡ new_handlers table first) (is : IsHandedOver came last Attends (λ h. h.handled) before handlers limit after handed) where
  served_new : HandlersServed Attends (λ h. h.handled) (new_handlers table first) handed.handlers.items handed.taken.items
  served_new = subst (λ (l : List HandlerView). HandlersServed Attends (λ h. h.handled) l handed.handlers.items handed.taken.items) are is.served

  pub handed_count : length handed.handlers.items ≡ length first
  handed_count = as_many_handed table first handed.handlers.items handed.taken.items served_new

  pub taken_count : length handed.taken.items ≡ length first
  taken_count =
      let made : length (new_handlers table first) ≡ length first = length-map first (new_handler table) in
      let same : length handlers ≡ length (new_handlers table first) = ap (λ (l : List HandlerView). length l) are in
      (let lists = is.lists in let own = handed.taken.ok.0 in omega arith)

  pub attended : (passes : List PassView) (connections : ℕ) → passes ≡ passes_of handed.handlers.items → All (λ h. IsPassOf h.worker.table h.worker.pass) handed.handlers.items
      → connections ≡ length (all_of handed.taken.items) + vec_len handed.left → IsAttended came last before after limit table first passes connections handed.fault
  attended passes connections passes_are own counted_is =
      let n = count_told (came after - came before) (all_of handed.taken.items) handed.left.items is.once in
      let count : came after ≡ came before + connections = (let r = is.rise in omega arith) in
      record {
        own = All-same (IsPassOf table) passes (passes_of handed.handlers.items) passes_are (own_passes table first handed.handlers.items handed.taken.items served_new own);
        keep = subst (λ (l : List PassView). AllKeep table first l) (sym passes_are) (all_keep table first handed.handlers.items handed.taken.items served_new);
        count = count;
        fault_is = is.fault;
        stop = ⊎_elim (λ (e : came after ≡ came before + limit). inl (let c : connections ≡ limit = omega arith in c)) (λ (others : (last after ≡ Some End) ⊎ (last after ≡ Some Failure)). inr others) is.stop;
      }
