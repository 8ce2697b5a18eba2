-- Which row of the table a fault is told for.
use Rattle.std.proofs.Common.{◌≡◌, ◌≢◌, ℕ, zero, suc, ◌+◌, ◌*◌, ◌-◌, ◌^◌, ◌<◌, ◌≤◌, false, List, [], ◌∷◌, ◌++◌, length, take, drop, All, Option, Some, None, Result, Ok, Err, refl, sym, ap, subst, ◌∙◌, ◌⊎◌, inl, inr, append_assoc, arith}
use Rattle.std.specs.Prelude.{decimal, nat_lt, ◌==◌}
use Rattle.std.specs.List.{flat_map}
use Rattle.std.specs.Char.{is_ascii_digit}
use Rattle.std.proofs.lemmas.Bool.{eqb-true, eqb-false, ltb-true, ltb-false}
use Rattle.std.proofs.lemmas.Fmt.{decimal_digit}
use Rattle.std.proofs.lemmas.List.{take-append-drop, length-take-le}
use Rattle.std.proofs.lemmas.List.Elements.{All-nil, All-cons}
use Rattle.resp_wire.specs.declared.fault.ProtocolFault.{ProtocolFault}
use Rattle.resp_wire.specs.declared.fault.ProtocolFault.TheVariants.{NotAnArray, BadNumber, TooManyArguments, TooLong, BadBulk}
use Rattle.resp_wire.specs.declared.fault.Stop.{Stop}
use Rattle.resp_wire.specs.declared.fault.Stop.TheVariants.{Short, Wrong}
use Rattle.resp_messages.specs.RequestEncoding.{most_arguments, longest_argument, line, argument, IsArgument, Ask}
use Rattle.resp_wire.specs.Parser.{◌>>=◌, byte_at, line_end_at, digits_at, number_at, body_at, argument_at, arguments_at, count_at, head_at, behind_head, item_at}
use Rattle.resp_wire.specs.FirstWrongByte.{IsDigit, BeginsOtherwise, BeginsWithNoDigit, EndsNoLine, Exceeds, EndsWrong, IsNoMinusOne, BeginsNoCount, HasNoStar, HasTooManyArguments, HasWrongCount, IsDue, HasNoDollar, HasTooLong, HasWrongLength, HasNoEnd}
use Rattle.resp_wire.proofs.ParserLemmas.{chosen, byte_takes}
use Rattle.resp_wire.proofs.Numbers.{digit_range, digit_is, decimal_more, number_takes}
use Rattle.resp_wire.proofs.Items.{argument_takes, head_takes, head_text, IsHead}

-- the rows of each fault
abbrev pub Tells : ProtocolFault → List ℕ → Type 0
Tells NotAnArray text = HasNoStar text
Tells TooManyArguments text = HasTooManyArguments text
Tells BadNumber text = HasWrongCount text ⊎ HasWrongLength text
Tells TooLong text = HasTooLong text
Tells BadBulk text = HasNoDollar text ⊎ HasNoEnd text

-- a step that failed: the first part did, or the second one
bind_err : {A B : Type 0} (r : Result A Stop) (f : A → Result B Stop) (d : Stop) → (r >>= f) ≡ Err d → (r ≡ Err d) ⊎ ((x : A) × (r ≡ Ok x) × (f x ≡ Err d))
bind_err (Ok x) f d e = inr (x, refl, e)
bind_err (Err c) f d e = inl (let same : c ≡ d = cc in ap (λ (w : Stop). Err w) same)

abbrev failed : {A : Type 0} → Stop → Result A Stop
failed d = Err d

wrong_is : {A : Type 0} (f g : ProtocolFault) → failed {A = A} (Wrong f) ≡ failed (Wrong g) → f ≡ g
wrong_is f g e = cc

abbrev worked : {A : Type 0} → A → Result A Stop
worked x = Ok x

never_wrong : {A : Type 0} (x : A) (d : Stop) → worked x ≡ Err d → ⊥
never_wrong x d e = cc

byte_wrong : (wanted : ℕ) (f g : ProtocolFault) (bytes : List ℕ) → byte_at wanted f bytes ≡ Err (Wrong g) → (f ≡ g) × BeginsOtherwise wanted bytes
unfolding byte_at
byte_wrong wanted f g [] e = absurd cc
byte_wrong wanted f g (b ∷ bytes) e = elim (chosen (b == wanted) (Ok bytes) (Err (Wrong f)) (Err (Wrong g)) e) [
  | inl y ↦ absurd (never_wrong bytes (Wrong g) y.1)
  | inr z ↦ (wrong_is f g z.1, eqb-false b wanted z.0)
]

line_end_wrong : (f g : ProtocolFault) (bytes : List ℕ) → line_end_at f bytes ≡ Err (Wrong g) → (f ≡ g) × EndsNoLine bytes
unfolding line_end_at
line_end_wrong f g bytes e = elim (bind_err (byte_at 13 f bytes) (byte_at 10 f) (Wrong g) e) [
  | inl first ↦ let w = byte_wrong 13 f g bytes first in (w.0, no_return bytes w.1)
  | inr second ↦
      let w = byte_wrong 10 f g second.0 second.2 in
      (w.0, subst EndsNoLine (sym (byte_takes 13 f bytes second.0 second.1)) (no_feed second.0 w.1))
]
  where
    no_return : (bytes : List ℕ) → BeginsOtherwise 13 bytes → EndsNoLine bytes
    no_return [] h = absurd h
    no_return (a ∷ []) h = h
    no_return (a ∷ b ∷ more) h = inl h

    no_feed : (bytes : List ℕ) → BeginsOtherwise 10 bytes → EndsNoLine (13 ∷ bytes)
    no_feed [] h = absurd h
    no_feed (b ∷ more) h = inr (refl, h)

no_digit : (b : ℕ) → is_ascii_digit b ≡ false → IsDigit b → ⊥
no_digit b e is = let n = sym e ∙ digit_is b is.0 is.1 in absurd cc

abbrev InNumber : ℕ → ProtocolFault → ProtocolFault → List ℕ → Type 0
InNumber limit over f text = ((over ≡ f) × Exceeds limit text) ⊎ ((BadNumber ≡ f) × EndsWrong limit text)

digits_wrong : (limit : ℕ) (over : ProtocolFault) (n : ℕ) (bytes : List ℕ) (f : ProtocolFault) → limit < 2 ^ 32 → n ≤ limit → digits_at limit over n bytes ≡ Err (Wrong f) → InNumber limit over f (decimal n ++ bytes)
unfolding digits_at
digits_wrong limit over n [] f lim le e = absurd cc
digits_wrong limit over n (b ∷ bytes) f lim le e =
    elim (chosen (is_ascii_digit b) _ _ (Err (Wrong f)) e) [
      | inl y ↦
          let range = digit_range b y.0 in
          elim (chosen (n == 0) (Err (Wrong BadNumber)) _ (Err (Wrong f)) y.1) [
            | inl zero_first ↦
                inr (wrong_is BadNumber f zero_first.1, record { number = n; behind = b ∷ bytes; within = le; wrong = (no_line bytes (λ is. absurd (omega arith)), λ d. eqb-true n 0 zero_first.0); text_is = refl })
            | inr goes_on ↦
                let pos : 0 < n = omega (arith, eqb-false n 0 goes_on.0) in
                let d : 48 + (b - 48) ≡ b = omega arith in
                elim (chosen (nat_lt limit (n * 10 + (b - 48))) (Err (Wrong over)) _ (Err (Wrong f)) goes_on.1) [
                  | inl beyond ↦
                      inl (wrong_is over f beyond.1, record { before = n; digit = b - 48; more = bytes; within = le; is_digit = omega arith; beyond = ltb-true _ _ beyond.0; text_is = ap (λ (k : ℕ). decimal n ++ k ∷ bytes) (sym d) })
                  | inr still ↦
                      let within : n * 10 + (b - 48) ≤ limit = ltb-false _ _ still.0 in
                      let later = digits_wrong limit over (n * 10 + (b - 48)) bytes f lim within still.1 in
                      let more : decimal (n * 10 + (b - 48)) ≡ decimal n ++ b ∷ [] = decimal_more n (b - 48) pos (omega arith) (omega arith) ∙ ap (λ (k : ℕ). decimal n ++ k ∷ []) d in
                      let same : decimal (n * 10 + (b - 48)) ++ bytes ≡ decimal n ++ b ∷ bytes = ap (λ (t : List ℕ). t ++ bytes) more ∙ append_assoc (decimal n) (b ∷ []) bytes in
                      subst (InNumber limit over f) same later
                ]
          ]
      | inr z ↦
          elim (bind_err (line_end_at BadNumber (b ∷ bytes)) (λ r. Ok (n, r)) (Wrong f) z.1) [
            | inl w ↦
                let t = line_end_wrong BadNumber f (b ∷ bytes) w in
                inr (t.0, record { number = n; behind = b ∷ bytes; within = le; wrong = (t.1, λ d. absurd (no_digit b z.0 d)); text_is = refl })
            | inr x ↦ absurd (never_wrong (n, x.0) (Wrong f) x.2)
          ]
    ]
  where
    no_line : (more : List ℕ) → b ≢ 13 → EndsNoLine (b ∷ more)
    no_line [] h = h
    no_line (c ∷ more) h = inl h

number_wrong : (limit : ℕ) (over : ProtocolFault) (bytes : List ℕ) (f : ProtocolFault) → limit < 2 ^ 32 → 9 ≤ limit → number_at limit over bytes ≡ Err (Wrong f) → InNumber limit over f bytes ⊎ ((BadNumber ≡ f) × BeginsWithNoDigit bytes)
unfolding number_at
number_wrong limit over [] f lim le e = absurd cc
number_wrong limit over (b ∷ bytes) f lim le e =
    elim (chosen (is_ascii_digit b) (digits_at limit over (b - 48) bytes) (Err (Wrong BadNumber)) (Err (Wrong f)) e) [
      | inl y ↦
          let range = digit_range b y.0 in
          let d : 48 + (b - 48) ≡ b = omega arith in
          let one : decimal (b - 48) ≡ b ∷ [] = decimal_digit (b - 48) (omega arith) ∙ ap (λ (k : ℕ). k ∷ []) d in
          inl (subst (λ (t : List ℕ). InNumber limit over f (t ++ bytes)) one (digits_wrong limit over (b - 48) bytes f lim (omega arith) y.1))
      | inr z ↦ inr (wrong_is BadNumber f z.1, no_digit b z.0)
    ]

abbrev InCount : ProtocolFault → List ℕ → Type 0
InCount f text = ((TooManyArguments ≡ f) × Exceeds most_arguments text) ⊎ ((BadNumber ≡ f) × (BeginsNoCount text ⊎ EndsWrong most_arguments text))

-- what stands behind the minus of a -1
abbrev pub behind_minus : List ℕ → Result (Option ℕ × List ℕ) Stop
behind_minus bytes = byte_at 49 BadNumber bytes >>= λ rest. (line_end_at BadNumber rest >>= λ after. Ok (None, after))

minus_wrong : (bytes : List ℕ) (f : ProtocolFault) → behind_minus bytes ≡ Err (Wrong f) → (BadNumber ≡ f) × IsNoMinusOne bytes
minus_wrong bytes f e =
    elim (bind_err (byte_at 49 BadNumber bytes) (λ rest. (line_end_at BadNumber rest >>= λ after. Ok (None, after))) (Wrong f) e) [
      | inl w ↦ let t = byte_wrong 49 BadNumber f bytes w in (t.0, other bytes t.1)
      | inr x ↦
          elim (bind_err (line_end_at BadNumber x.0) (λ after. Ok (None, after)) (Wrong f) x.2) [
            | inl w ↦
                let t = line_end_wrong BadNumber f x.0 w in
                let one : IsNoMinusOne (49 ∷ x.0) = inr (refl, t.1) in
                (t.0, subst IsNoMinusOne (sym (byte_takes 49 BadNumber bytes x.0 x.1)) one)
            | inr y ↦ absurd (never_wrong (None, y.0) (Wrong f) y.2)
          ]
    ]
  where
    other : (bytes : List ℕ) → BeginsOtherwise 49 bytes → IsNoMinusOne bytes
    other [] h = absurd h
    other (b ∷ more) h = inl h

count_wrong : (bytes : List ℕ) (f : ProtocolFault) → count_at bytes ≡ Err (Wrong f) → InCount f bytes
unfolding count_at
count_wrong [] f e = absurd cc
count_wrong (b ∷ bytes) f e =
    elim (chosen (b == 45) _ _ (Err (Wrong f)) e) [
      | inl y ↦ let t = minus_wrong bytes f y.1 in inr (t.0, inl (inr (eqb-true b 45 y.0, t.1)))
      | inr z ↦
          elim (bind_err (number_at most_arguments TooManyArguments (b ∷ bytes)) (λ n. Ok (Some n.0, n.1)) (Wrong f) z.1) [
            | inr x ↦ absurd (never_wrong (Some x.0.0, x.0.1) (Wrong f) x.2)
            | inl w ↦
                elim (number_wrong most_arguments TooManyArguments (b ∷ bytes) f (omega arith) (omega arith) w) [
                  | inr none ↦ inr (none.0, inl (inl (eqb-false b 45 z.0, none.1)))
                  | inl number ↦ elim number [
                    | inl over ↦ inl over
                    | inr ends ↦ inr (ends.0, inr ends.1)
                  ]
                ]
          ]
    ]

body_wrong : (n : ℕ) (bytes : List ℕ) (f : ProtocolFault) → body_at n bytes ≡ Err (Wrong f) → (BadBulk ≡ f) × (value behind : List ℕ) × (length value ≡ n) × (bytes ≡ value ++ behind) × EndsNoLine behind
unfolding body_at
body_wrong n bytes f e =
    elim (chosen (nat_lt (length bytes) n) (Err Short) _ (Err (Wrong f)) e) [
      | inl short ↦ absurd (let n = short.1 in cc)
      | inr long ↦
          elim (bind_err (line_end_at BadBulk (drop n bytes)) (λ r. Ok (take n bytes, r)) (Wrong f) long.1) [
            | inl w ↦
                let t = line_end_wrong BadBulk f (drop n bytes) w in
                (t.0, take n bytes, drop n bytes, length-take-le n bytes (ltb-false _ _ long.0), sym (take-append-drop n bytes), t.1)
            | inr x ↦ absurd (never_wrong (take n bytes, x.0) (Wrong f) x.2)
          ]
    ]

-- the rows of an argument, which stands at the start of this
abbrev InArgument : ProtocolFault → List ℕ → Type 0
InArgument f next =
    ((BadBulk ≡ f) × BeginsOtherwise 36 next)
    ⊎ ((behind : List ℕ) × (next ≡ 36 ∷ behind) × (TooLong ≡ f) × Exceeds longest_argument behind)
    ⊎ ((behind : List ℕ) × (next ≡ 36 ∷ behind) × (BadNumber ≡ f) × (BeginsWithNoDigit behind ⊎ EndsWrong longest_argument behind))
    ⊎ ((value behind : List ℕ) × (next ≡ 36 ∷ (line (length value) ++ (value ++ behind))) × (BadBulk ≡ f) × IsArgument value × EndsNoLine behind)

argument_wrong : (bytes : List ℕ) (f : ProtocolFault) → argument_at bytes ≡ Err (Wrong f) → InArgument f bytes
unfolding argument_at
argument_wrong bytes f e =
    elim (bind_err (byte_at 36 BadBulk bytes) (λ r. (number_at longest_argument TooLong r >>= λ n. body_at n.0 n.1)) (Wrong f) e) [
      | inl w ↦ inl (byte_wrong 36 BadBulk f bytes w)
      | inr x ↦
          let is = byte_takes 36 BadBulk bytes x.0 x.1 in
          elim (bind_err (number_at longest_argument TooLong x.0) (λ n. body_at n.0 n.1) (Wrong f) x.2) [
            | inl w ↦
                elim (number_wrong longest_argument TooLong x.0 f (omega arith) (omega arith) w) [
                  | inr none ↦ inr (inr (inl (x.0, is, none.0, inl none.1)))
                  | inl number ↦ elim number [
                    | inl over ↦ inr (inl (x.0, is, over.0, over.1))
                    | inr ends ↦ inr (inr (inl (x.0, is, ends.0, inr ends.1)))
                  ]
                ]
            | inr y ↦
                let t = number_takes longest_argument TooLong x.0 y.0.0 y.0.1 (omega arith) (omega arith) y.1 in
                let w = body_wrong y.0.0 y.0.1 f y.2 in
                let text : bytes ≡ 36 ∷ (line (length w.1) ++ (w.1 ++ w.2)) = is ∙ ap (λ (r : List ℕ). 36 ∷ r) (t.0 ∙ ap (λ (r : List ℕ). line y.0.0 ++ r) w.4 ∙ ap (λ (k : ℕ). line k ++ (w.1 ++ w.2)) (sym w.3)) in
                inr (inr (inr (w.1, w.2, text, w.0, omega (arith, t.1, w.3), w.5)))
          ]
    ]

-- whole arguments, fewer than are due, and the next one has the fault
record Due (n : ℕ) (bytes : List ℕ) (f : ProtocolFault) : Type 0 where
  whole : List (List ℕ)
  next : List ℕ
  few : length whole < n
  each : All IsArgument whole
  text : bytes ≡ flat_map argument whole ++ next
  wrong : argument_at next ≡ Err (Wrong f)

arguments_wrong : (n : ℕ) (bytes : List ℕ) (f : ProtocolFault) → arguments_at n bytes ≡ Err (Wrong f) → Due n bytes f
unfolding arguments_at
arguments_wrong zero bytes f e = absurd cc
arguments_wrong (suc n) bytes f e =
    elim (bind_err (argument_at bytes) (λ a. (arguments_at n a.1 >>= λ o. Ok (a.0 ∷ o.0, o.1))) (Wrong f) e) [
      | inl w ↦ record { whole = []; next = bytes; few = omega arith; each = All-nil IsArgument; text = refl; wrong = w }
      | inr x ↦
          let first = argument_takes bytes x.0.0 x.0.1 x.1 in
          elim (bind_err (arguments_at n x.0.1) (λ o. Ok (x.0.0 ∷ o.0, o.1)) (Wrong f) x.2) [
            | inr y ↦ absurd (never_wrong (x.0.0 ∷ y.0.0, y.0.1) (Wrong f) y.2)
            | inl w ↦
                let due = arguments_wrong n x.0.1 f w in
                record {
                  whole = x.0.0 ∷ due.whole;
                  next = due.next;
                  few = omega (arith, due.few);
                  each = All-cons IsArgument x.0.0 due.whole first.1 due.each;
                  text = first.0 ∙ ap (λ (t : List ℕ). argument x.0.0 ++ t) due.text ∙ sym (append_assoc (argument x.0.0) (flat_map argument due.whole) due.next);
                  wrong = due.wrong;
                }
          ]
    ]

told_by : (text : List ℕ) (f g : ProtocolFault) → f ≡ g → Tells f text → Tells g text
told_by text f g same row = subst (λ (w : ProtocolFault). Tells w text) same row

told_in_argument : (text next : List ℕ) (f : ProtocolFault) → IsDue text next → InArgument f next → Tells f text
told_in_argument text next f due (inl no_dollar) = told_by text BadBulk f no_dollar.0 (inl (record { next = next; due = due; wrong = no_dollar.1 }))
told_in_argument text next f due (inr (inl long)) = told_by text TooLong f long.2 (record { behind = long.0; due = subst (IsDue text) long.1 due; exceeds = long.3 })
told_in_argument text next f due (inr (inr (inl number))) = told_by text BadNumber f number.2 (inr (record { behind = number.0; due = subst (IsDue text) number.1 due; wrong = number.3 }))
told_in_argument text next f due (inr (inr (inr no_end))) = told_by text BadBulk f no_end.3 (inr (record { value = no_end.0; behind = no_end.1; due = subst (IsDue text) no_end.2 due; fits = no_end.4; wrong = no_end.5 }))

told_in_count : (text behind : List ℕ) (f : ProtocolFault) → text ≡ 42 ∷ behind → InCount f behind → Tells f text
told_in_count text behind f is (inl many) = told_by text TooManyArguments f many.0 (record { behind = behind; exceeds = many.1; text_is = is })
told_in_count text behind f is (inr number) = told_by text BadNumber f number.0 (inl (record { behind = behind; wrong = number.1; text_is = is }))

-- what head_takes says of a count
abbrev Head : List ℕ → Option ℕ → List ℕ → Type 0
Head text None behind = Unit {0}
Head text (Some n) behind = (text ≡ 42 ∷ (line n ++ behind)) × (n ≤ most_arguments)

as_head : (text : List ℕ) (head : Option ℕ) (behind : List ℕ) → (text ≡ head_text head ++ behind) × IsHead head → Head text head behind
as_head text None behind h = tt
as_head text (Some n) behind h = h

pub row_of : (text : List ℕ) (f : ProtocolFault) → item_at text ≡ Err (Wrong f) → Tells f text
unfolding item_at head_at behind_head
row_of text f e =
    elim (bind_err (byte_at 42 NotAnArray text >>= count_at) (λ head. behind_head head.0 head.1) (Wrong f) e) [
      | inl w ↦
          elim (bind_err (byte_at 42 NotAnArray text) count_at (Wrong f) w) [
            | inl none ↦ let t = byte_wrong 42 NotAnArray f text none in told_by text NotAnArray f t.0 t.1
            | inr x ↦ told_in_count text x.0 f (byte_takes 42 NotAnArray text x.0 x.1) (count_wrong x.0 f x.2)
          ]
      | inr x ↦ let h = head_takes text x.0.0 x.0.1 x.1 in go x.0.0 x.0.1 (as_head text x.0.0 x.0.1 h) x.2
    ]
  where
    go : (head : Option ℕ) (behind : List ℕ) → Head text head behind → behind_head head behind ≡ Err (Wrong f) → Tells f text
    go None behind h r = absurd cc
    go (Some zero) behind h r = absurd cc
    go (Some (suc n)) behind h r =
        elim (bind_err (arguments_at (suc n) behind) (λ arguments. Ok (Ask arguments.0, arguments.1)) (Wrong f) r) [
          | inr y ↦ absurd (never_wrong (Ask y.0.0, y.0.1) (Wrong f) y.2)
          | inl w ↦
              let due = arguments_wrong (suc n) behind f w in
              let is : IsDue text due.next = record { count = suc n; whole = due.whole; most = h.1; few = due.few; each = due.each; text_is = h.0 ∙ ap (λ (t : List ℕ). 42 ∷ (line (suc n) ++ t)) due.text } in
              told_in_argument text due.next f is (argument_wrong due.next f due.wrong)
        ]
