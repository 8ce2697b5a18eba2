-- An item that is read was encoded so, and an encoding is read as its item.
use Rattle.std.proofs.Common.{◌≡◌, ℕ, zero, suc, ◌<◌, ◌≤◌, false, List, [], ◌∷◌, ◌++◌, length, take, drop, All, Option, Some, None, Result, Ok, Err, refl, sym, ap, subst, ◌∙◌, inl, inr, append_assoc, length-append, arith}
use Rattle.std.specs.Prelude.{nat_lt, ◌==◌}
use Rattle.std.specs.List.{flat_map}
use Rattle.std.specs.Char.{is_ascii_digit}
use Rattle.std.proofs.lemmas.Bool.{eqb-true, ne_eqb, ltb-false, le-ltb}
use Rattle.std.proofs.lemmas.List.{take-append-drop, length-take-le, take_at, drop_at}
use Rattle.std.proofs.lemmas.List.Elements.{All-nil, All-cons, All-head, All-tail}
use Rattle.resp_wire.specs.declared.fault.ProtocolFault.TheVariants.{NotAnArray, BadNumber, TooManyArguments, TooLong, BadBulk}
use Rattle.resp_wire.specs.declared.fault.Stop.{Stop}
use Rattle.resp_wire.specs.declared.fault.Stop.TheVariants.{Short, Wrong}
use Rattle.resp_messages.specs.RequestEncoding.{line, argument, request, IsArgument, IsRequest, Item, Ask, SkipZero, SkipMinus, encoding_of, IsItem}
use Rattle.resp_wire.specs.Parser.{◌>>=◌, byte_at, line_end_at, number_at, body_at, argument_at, arguments_at, count_at, head_at, behind_head, item_at}
use Rattle.resp_wire.proofs.ParserLemmas.{bind_ok, ok_is, chosen, guard_ok, wanted_ok, byte_takes, byte_again, line_end_takes, line_end_again}
use Rattle.resp_wire.proofs.Numbers.{digit_range, number_takes, number_again}

-- ---- arguments

pub body_takes : (n : ℕ) (bytes value rest : List ℕ) → body_at n bytes ≡ Ok (value, rest) → (bytes ≡ value ++ 13 ∷ 10 ∷ rest) × (length value ≡ n)
unfolding body_at
body_takes n bytes value rest e =
    let g = guard_ok (nat_lt (length bytes) n) Short (line_end_at BadBulk (drop n bytes) >>= λ r. Ok (take n bytes, r)) (value, rest) e in
    let long : n ≤ length bytes = ltb-false _ _ g.0 in
    let b = bind_ok (line_end_at BadBulk (drop n bytes)) (λ r. Ok (take n bytes, r)) (value, rest) g.1 in
    let ends = line_end_takes BadBulk (drop n bytes) b.0 b.1 in
    let same = ok_is (take n bytes, b.0) (value, rest) b.2 in
    let parts : bytes ≡ take n bytes ++ 13 ∷ 10 ∷ b.0 = sym (take-append-drop n bytes) ∙ ap (λ (t : List ℕ). take n bytes ++ t) ends in
    subst (λ (p : List ℕ × List ℕ). (bytes ≡ p.0 ++ 13 ∷ 10 ∷ p.1) × (length p.0 ≡ n)) same (parts, length-take-le n bytes long)

pub body_again : (value rest : List ℕ) → body_at (length value) (value ++ 13 ∷ 10 ∷ rest) ≡ Ok (value, rest)
unfolding body_at
body_again value rest =
    let long : nat_lt (length (value ++ 13 ∷ 10 ∷ rest)) (length value) ≡ false = le-ltb _ _ (omega (arith, length-append value (13 ∷ 10 ∷ rest))) in
    rw (long, take_at value (13 ∷ 10 ∷ rest) (length value) refl, drop_at value (13 ∷ 10 ∷ rest) (length value) refl, line_end_again BadBulk rest) refl

regroup_argument : (a value rest : List ℕ) → a ++ (value ++ 13 ∷ 10 ∷ rest) ≡ (a ++ (value ++ 13 ∷ 10 ∷ [])) ++ rest
regroup_argument a value rest =
    ap (λ (t : List ℕ). a ++ t) (sym (append_assoc value (13 ∷ 10 ∷ []) rest)) ∙ sym (append_assoc a (value ++ 13 ∷ 10 ∷ []) rest)

pub argument_takes : (bytes value rest : List ℕ) → argument_at bytes ≡ Ok (value, rest) → (bytes ≡ argument value ++ rest) × IsArgument value
unfolding argument_at
argument_takes bytes value rest e =
    let a = bind_ok (byte_at 36 BadBulk bytes) (λ r. (number_at 65536 TooLong r >>= λ n. body_at n.0 n.1)) (value, rest) e in
    let n = bind_ok (number_at 65536 TooLong a.0) (λ m. body_at m.0 m.1) (value, rest) a.2 in
    let t = number_takes 65536 TooLong a.0 n.0.0 n.0.1 (omega arith) (omega arith) n.1 in
    let b = body_takes n.0.0 n.0.1 value rest n.2 in
    let prefix = byte_takes 36 BadBulk bytes a.0 a.1 in
    let inner : a.0 ≡ line (length value) ++ (value ++ 13 ∷ 10 ∷ rest) = t.0 ∙ ap (λ (x : List ℕ). line n.0.0 ++ x) b.0 ∙ ap (λ (k : ℕ). line k ++ (value ++ 13 ∷ 10 ∷ rest)) (sym b.1) in
    (prefix ∙ ap (λ (x : List ℕ). 36 ∷ x) (inner ∙ regroup_argument (line (length value)) value rest), omega (arith, t.1, b.1))

pub argument_again : (value rest : List ℕ) → IsArgument value → argument_at (argument value ++ rest) ≡ Ok (value, rest)
unfolding argument_at
argument_again value rest fits =
    let inner : number_at 65536 TooLong ((line (length value) ++ (value ++ 13 ∷ 10 ∷ [])) ++ rest) ≡ Ok (length value, value ++ 13 ∷ 10 ∷ rest) =
    ap (number_at 65536 TooLong) (sym (regroup_argument (line (length value)) value rest)) ∙ number_again 65536 TooLong (length value) (value ++ 13 ∷ 10 ∷ rest) (omega arith) fits in
    rw (byte_again 36 BadBulk ((line (length value) ++ (value ++ 13 ∷ 10 ∷ [])) ++ rest), inner, body_again value rest) refl

pub record AreArguments (n : ℕ) (bytes : List ℕ) (arguments : List (List ℕ)) (rest : List ℕ) : Type 0 where
  pub parts : bytes ≡ flat_map argument arguments ++ rest
  pub count : length arguments ≡ n
  pub each : All IsArgument arguments

pub arguments_takes : (n : ℕ) (bytes : List ℕ) (arguments : List (List ℕ)) (rest : List ℕ) → arguments_at n bytes ≡ Ok (arguments, rest) → AreArguments n bytes arguments rest
unfolding arguments_at
arguments_takes zero bytes arguments rest e =
    subst (λ (p : List (List ℕ) × List ℕ). AreArguments zero bytes p.0 p.1) (ok_is ([], bytes) (arguments, rest) e) (record { parts = refl; count = refl; each = All-nil IsArgument })
arguments_takes (suc n) bytes arguments rest e =
    let a = bind_ok (argument_at bytes) (λ f. (arguments_at n f.1 >>= λ o. Ok (f.0 ∷ o.0, o.1))) (arguments, rest) e in
    let b = bind_ok (arguments_at n a.0.1) (λ o. Ok (a.0.0 ∷ o.0, o.1)) (arguments, rest) a.2 in
    let first = argument_takes bytes a.0.0 a.0.1 a.1 in
    let others = arguments_takes n a.0.1 b.0.0 b.0.1 b.1 in
    let all : AreArguments (suc n) bytes (a.0.0 ∷ b.0.0) b.0.1 = record {
      parts = first.0 ∙ ap (λ (t : List ℕ). argument a.0.0 ++ t) others.parts ∙ sym (append_assoc (argument a.0.0) (flat_map argument b.0.0) b.0.1);
      count = ap suc others.count;
      each = All-cons IsArgument a.0.0 b.0.0 first.1 others.each;
    } in
    subst (λ (p : List (List ℕ) × List ℕ). AreArguments (suc n) bytes p.0 p.1) (ok_is (a.0.0 ∷ b.0.0, b.0.1) (arguments, rest) b.2) all

pub arguments_again : (arguments : List (List ℕ)) (rest : List ℕ) → All IsArgument arguments → arguments_at (length arguments) (flat_map argument arguments ++ rest) ≡ Ok (arguments, rest)
unfolding arguments_at
arguments_again [] rest each = refl
arguments_again (value ∷ arguments) rest each =
    let first : argument_at ((argument value ++ flat_map argument arguments) ++ rest) ≡ Ok (value, flat_map argument arguments ++ rest) =
    ap argument_at (append_assoc (argument value) (flat_map argument arguments) rest) ∙ argument_again value (flat_map argument arguments ++ rest) (All-head IsArgument value arguments each) in
    rw (first, arguments_again arguments rest (All-tail IsArgument value arguments each)) refl

-- some arguments are there, and the next one stops
pub arguments_stop : (arguments : List (List ℕ)) (n : ℕ) (rest : List ℕ) (stop : Stop) → All IsArgument arguments → length arguments < n → argument_at rest ≡ Err stop → arguments_at n (flat_map argument arguments ++ rest) ≡ Err stop
unfolding arguments_at
arguments_stop [] zero rest stop each lt e = absurd (omega arith)
arguments_stop [] (suc n) rest stop each lt e = rw e refl
arguments_stop (value ∷ arguments) zero rest stop each lt e = absurd (omega arith)
arguments_stop (value ∷ arguments) (suc n) rest stop each lt e =
    let first : argument_at ((argument value ++ flat_map argument arguments) ++ rest) ≡ Ok (value, flat_map argument arguments ++ rest) =
    ap argument_at (append_assoc (argument value) (flat_map argument arguments) rest) ∙ argument_again value (flat_map argument arguments ++ rest) (All-head IsArgument value arguments each) in
    rw (first, arguments_stop arguments n rest stop (All-tail IsArgument value arguments each) (omega arith) e) refl

-- ---- heads

abbrev pub head_text : Option ℕ → List ℕ
head_text None = 42 ∷ 45 ∷ 49 ∷ 13 ∷ 10 ∷ []
head_text (Some n) = 42 ∷ line n

abbrev pub IsHead : Option ℕ → Type 0
IsHead None = Unit {0}
IsHead (Some n) = n ≤ 1027

pub count_takes : (bytes : List ℕ) (head : Option ℕ) (rest : List ℕ) → count_at bytes ≡ Ok (head, rest) → (42 ∷ bytes ≡ head_text head ++ rest) × IsHead head
unfolding count_at
count_takes [] head rest e = absurd cc
count_takes (b ∷ bytes) head rest e =
    elim (chosen (b == 45) _ _ (Ok (head, rest)) e) [
      | inl y ↦
          let a = bind_ok (byte_at 49 BadNumber bytes) (λ r. (line_end_at BadNumber r >>= λ after. Ok (None, after))) (head, rest) y.1 in
          let c = bind_ok (line_end_at BadNumber a.0) (λ after. Ok (None, after)) (head, rest) a.2 in
          let same = ok_is (None, c.0) (head, rest) c.2 in
          let is : b ≡ 45 = eqb-true b 45 y.0 in
          let text : 42 ∷ b ∷ bytes ≡ 42 ∷ 45 ∷ 49 ∷ 13 ∷ 10 ∷ c.0 = ap (λ (k : ℕ). 42 ∷ k ∷ bytes) is ∙ ap (λ (t : List ℕ). 42 ∷ 45 ∷ t) (byte_takes 49 BadNumber bytes a.0 a.1) ∙ ap (λ (t : List ℕ). 42 ∷ 45 ∷ 49 ∷ t) (line_end_takes BadNumber a.0 c.0 c.1) in
          subst (λ (p : Option ℕ × List ℕ). (42 ∷ b ∷ bytes ≡ head_text p.0 ++ p.1) × IsHead p.0) same (text, tt)
      | inr z ↦
          let a = bind_ok (number_at 1027 TooManyArguments (b ∷ bytes)) (λ n. Ok (Some n.0, n.1)) (head, rest) z.1 in
          let t = number_takes 1027 TooManyArguments (b ∷ bytes) a.0.0 a.0.1 (omega arith) (omega arith) a.1 in
          subst (λ (p : Option ℕ × List ℕ). (42 ∷ b ∷ bytes ≡ head_text p.0 ++ p.1) × IsHead p.0) (ok_is (Some a.0.0, a.0.1) (head, rest) a.2) (ap (λ (x : List ℕ). 42 ∷ x) t.0, t.1)
    ]

pub head_takes : (bytes : List ℕ) (head : Option ℕ) (rest : List ℕ) → head_at bytes ≡ Ok (head, rest) → (bytes ≡ head_text head ++ rest) × IsHead head
unfolding head_at
head_takes bytes head rest e =
    let a = bind_ok (byte_at 42 NotAnArray bytes) count_at (head, rest) e in
    let t = count_takes a.0 head rest a.2 in
    (byte_takes 42 NotAnArray bytes a.0 a.1 ∙ t.0, t.1)

pub count_number : (bytes : List ℕ) (n : ℕ) (rest : List ℕ) → number_at 1027 TooManyArguments bytes ≡ Ok (n, rest) → count_at bytes ≡ Ok (Some n, rest)
unfolding number_at count_at
count_number [] n rest e = absurd cc
count_number (b ∷ bytes) n rest e =
    let w = wanted_ok (is_ascii_digit b) (Wrong BadNumber) _ (n, rest) e in
    let r = digit_range b w.0 in
    let no_sign : (b == 45) ≡ false = ne_eqb b 45 (λ is. absurd (omega arith)) in
    rw (no_sign, e) refl

pub head_again : (n : ℕ) (rest : List ℕ) → n ≤ 1027 → head_at (42 ∷ (line n ++ rest)) ≡ Ok (Some n, rest)
unfolding head_at
head_again n rest le =
    rw (byte_again 42 NotAnArray (line n ++ rest)) (count_number (line n ++ rest) n rest (number_again 1027 TooManyArguments n rest (omega arith) le))

-- ---- items

pub item_takes : (bytes : List ℕ) (item : Item) (rest : List ℕ) → item_at bytes ≡ Ok (item, rest) → (bytes ≡ encoding_of item ++ rest) × IsItem item
unfolding item_at behind_head
item_takes bytes item rest e =
    let a = bind_ok (head_at bytes) (λ h. behind_head h.0 h.1) (item, rest) e in
    let h = head_takes bytes a.0.0 a.0.1 a.1 in
    go a.0.0 a.0.1 h a.2
  where
    go : (head : Option ℕ) (behind : List ℕ) → (bytes ≡ head_text head ++ behind) × IsHead head → behind_head head behind ≡ Ok (item, rest) → (bytes ≡ encoding_of item ++ rest) × IsItem item
    go None behind h r = subst (λ (p : Item × List ℕ). (bytes ≡ encoding_of p.0 ++ p.1) × IsItem p.0) (ok_is (SkipMinus, behind) (item, rest) r) (h.0, tt)
    go (Some zero) behind h r = subst (λ (p : Item × List ℕ). (bytes ≡ encoding_of p.0 ++ p.1) × IsItem p.0) (ok_is (SkipZero, behind) (item, rest) r) (h.0, tt)
    go (Some (suc n)) behind h r =
        let w = bind_ok (arguments_at (suc n) behind) (λ arguments. Ok (Ask arguments.0, arguments.1)) (item, rest) r in
        let t = arguments_takes (suc n) behind w.0.0 w.0.1 w.1 in
        let text : bytes ≡ request w.0.0 ++ w.0.1 = h.0 ∙ ap (λ (x : List ℕ). 42 ∷ (line (suc n) ++ x)) t.parts ∙ ap (λ (x : List ℕ). 42 ∷ x) (sym (append_assoc (line (suc n)) (flat_map argument w.0.0) w.0.1)) ∙ ap (λ (k : ℕ). 42 ∷ ((line k ++ flat_map argument w.0.0) ++ w.0.1)) (sym t.count) in
        let is : IsRequest w.0.0 = record { some = omega (arith, t.count); few = omega (arith, t.count, h.1); each = t.each } in
        subst (λ (p : Item × List ℕ). (bytes ≡ encoding_of p.0 ++ p.1) × IsItem p.0) (ok_is (Ask w.0.0, w.0.1) (item, rest) w.2) (text, is)

-- a request of which some arguments are there
pub begun_reads : (n : ℕ) (arguments : List (List ℕ)) (rest : List ℕ) (read : Result (List (List ℕ) × List ℕ) Stop) → 0 < n → n ≤ 1027 → arguments_at n (flat_map argument arguments ++ rest) ≡ read
    → item_at ((42 ∷ (line n ++ flat_map argument arguments)) ++ rest) ≡ (read >>= λ w. Ok (Ask w.0, w.1))
unfolding item_at behind_head
begun_reads zero arguments rest read pos le e = absurd (omega arith)
begun_reads (suc n) arguments rest read pos le e =
    let head : head_at (42 ∷ ((line (suc n) ++ flat_map argument arguments) ++ rest)) ≡ Ok (Some (suc n), flat_map argument arguments ++ rest) =
    ap (λ (t : List ℕ). head_at (42 ∷ t)) (append_assoc (line (suc n)) (flat_map argument arguments) rest) ∙ head_again (suc n) (flat_map argument arguments ++ rest) le in
    rw (head, e) refl

skip_minus : (rest : List ℕ) → item_at (42 ∷ 45 ∷ 49 ∷ 13 ∷ 10 ∷ rest) ≡ Ok (SkipMinus, rest)
unfolding item_at behind_head head_at count_at byte_at line_end_at
skip_minus rest = refl

pub item_again : (item : Item) (rest : List ℕ) → IsItem item → item_at (encoding_of item ++ rest) ≡ Ok (item, rest)
unfolding item_at behind_head
item_again (Ask arguments) rest is = begun_reads (length arguments) arguments rest (Ok (arguments, rest)) is.some is.few (arguments_again arguments rest is.each)
item_again SkipZero rest is = rw (head_again 0 rest (omega arith)) refl
item_again SkipMinus rest is = skip_minus rest
