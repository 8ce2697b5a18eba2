-- More bytes behind a text do not change what is read at its start.
use Rattle.std.proofs.Common.{◌≡◌, ℕ, zero, suc, ◌+◌, ◌*◌, ◌-◌, Bool, true, false, cond, List, [], ◌∷◌, ◌++◌, length, take, drop, Option, Some, None, Result, Ok, Err, refl, length-append, arith, inl, inr}
use Rattle.std.specs.Prelude.{nat_lt, ◌==◌}
use Rattle.std.specs.Char.{is_ascii_digit}
use Rattle.std.proofs.lemmas.Bool.{cases_lt, lt-ltb, le-ltb}
use Rattle.std.proofs.lemmas.List.{take-append-le, drop-append-le}
use Rattle.resp_wire.specs.declared.fault.ProtocolFault.{ProtocolFault}
use Rattle.resp_wire.specs.declared.fault.ProtocolFault.TheVariants.{NotAnArray, BadNumber, TooManyArguments, TooLong, BadBulk}
use Rattle.resp_wire.specs.declared.fault.Stop.{Stop}
use Rattle.resp_wire.specs.declared.fault.Stop.TheVariants.{Short, Wrong}
use Rattle.resp_messages.specs.RequestEncoding.{Item, Ask}
use Rattle.resp_wire.specs.Parser.{◌>>=◌, byte_at, line_end_at, digits_at, number_at, body_at, argument_at, arguments_at, count_at, head_at, behind_head, item_at}

-- later is what the longer text reads, where read is what the shorter one does; grow puts the new bytes behind
abbrev pub Goes : {A : Type 0} → (A → A) → Result A Stop → Result A Stop → Type 0
Goes grow (Ok x) later = later ≡ Ok (grow x)
Goes grow (Err Short) later = Unit {0}
Goes grow (Err (Wrong f)) later = later ≡ Err (Wrong f)

abbrev pub behind : {A : Type 0} → List ℕ → A × List ℕ → A × List ℕ
behind more x = (x.0, x.1 ++ more)

abbrev pub longer : List ℕ → List ℕ → List ℕ
longer more rest = rest ++ more

bind_goes : {A B : Type 0} (ga : A → A) (gb : B → B) (r later : Result A Stop) (f : A → Result B Stop) → Goes ga r later → ((x : A) → Goes gb (f x) (f (ga x))) → Goes gb (r >>= f) (later >>= f)
bind_goes ga gb (Ok x) later f h step = rw h (step x)
bind_goes ga gb (Err Short) later f h step = tt
bind_goes ga gb (Err (Wrong w)) later f h step = rw h refl

cond_goes : {A : Type 0} (g : A → A) (b : Bool) (x y x' y' : Result A Stop) → Goes g x x' → Goes g y y' → Goes g (cond b x y) (cond b x' y')
cond_goes g true x y x' y' p q = p
cond_goes g false x y x' y' p q = q

pub byte_goes : (wanted : ℕ) (f : ProtocolFault) (more bytes : List ℕ) → Goes (longer more) (byte_at wanted f bytes) (byte_at wanted f (bytes ++ more))
unfolding byte_at
byte_goes wanted f more [] = tt
byte_goes wanted f more (b ∷ bytes) = cond_goes (longer more) (b == wanted) (Ok bytes) (Err (Wrong f)) (Ok (bytes ++ more)) (Err (Wrong f)) refl refl

pub line_end_goes : (f : ProtocolFault) (more bytes : List ℕ) → Goes (longer more) (line_end_at f bytes) (line_end_at f (bytes ++ more))
unfolding line_end_at
line_end_goes f more bytes = bind_goes (longer more) (longer more) _ _ (byte_at 10 f) (byte_goes 13 f more bytes) (λ x. byte_goes 10 f more x)

ended_goes : {A : Type 0} (a : A) (f : ProtocolFault) (more bytes : List ℕ) → Goes (behind more) (line_end_at f bytes >>= λ rest. Ok (a, rest)) (line_end_at f (bytes ++ more) >>= λ rest. Ok (a, rest))
ended_goes a f more bytes = bind_goes (longer more) (behind more) _ _ (λ (rest : List ℕ). Ok (a, rest)) (line_end_goes f more bytes) (λ x. refl)

digits_goes : (limit : ℕ) (over : ProtocolFault) (n : ℕ) (more bytes : List ℕ) → Goes (behind more) (digits_at limit over n bytes) (digits_at limit over n (bytes ++ more))
unfolding digits_at
digits_goes limit over n more [] = tt
digits_goes limit over n more (b ∷ bytes) =
    cond_goes (behind more) (is_ascii_digit b) _ _ _ _
    (cond_goes (behind more) (n == 0) _ _ _ _ refl
    (cond_goes (behind more) (nat_lt limit (n * 10 + (b - 48))) _ _ _ _ refl (digits_goes limit over (n * 10 + (b - 48)) more bytes)))
    (ended_goes n BadNumber more (b ∷ bytes))

pub number_goes : (limit : ℕ) (over : ProtocolFault) (more bytes : List ℕ) → Goes (behind more) (number_at limit over bytes) (number_at limit over (bytes ++ more))
unfolding number_at
number_goes limit over more [] = tt
number_goes limit over more (b ∷ bytes) = cond_goes (behind more) (is_ascii_digit b) _ _ _ _ (digits_goes limit over (b - 48) more bytes) refl

body_goes : (n : ℕ) (more bytes : List ℕ) → Goes (behind more) (body_at n bytes) (body_at n (bytes ++ more))
unfolding body_at
body_goes n more bytes =
    elim (cases_lt (length bytes) n) [
      | inl lt ↦ rw (lt-ltb _ _ lt) tt
      | inr le ↦
          let short : nat_lt (length bytes) n ≡ false = le-ltb _ _ le in
          let long : nat_lt (length (bytes ++ more)) n ≡ false = le-ltb _ _ (omega (arith, length-append bytes more)) in
          rw (short, long, take-append-le n bytes more le, drop-append-le n bytes more le) (ended_goes (take n bytes) BadBulk more (drop n bytes))
    ]

pub argument_goes : (more bytes : List ℕ) → Goes (behind more) (argument_at bytes) (argument_at (bytes ++ more))
unfolding argument_at
argument_goes more bytes =
    bind_goes (longer more) (behind more) _ _ (λ (rest : List ℕ). (number_at 65536 TooLong rest >>= λ n. body_at n.0 n.1)) (byte_goes 36 BadBulk more bytes)
    (λ x. bind_goes (behind more) (behind more) _ _ (λ (n : ℕ × List ℕ). body_at n.0 n.1) (number_goes 65536 TooLong more x) (λ n. body_goes n.0 more n.1))

pub arguments_goes : (n : ℕ) (more bytes : List ℕ) → Goes (behind more) (arguments_at n bytes) (arguments_at n (bytes ++ more))
unfolding arguments_at
arguments_goes zero more bytes = refl
arguments_goes (suc n) more bytes =
    bind_goes (behind more) (behind more) _ _ (λ (first : List ℕ × List ℕ). (arguments_at n first.1 >>= λ others. Ok (first.0 ∷ others.0, others.1))) (argument_goes more bytes)
    (λ first. bind_goes (behind more) (behind more) _ _ (λ (others : List (List ℕ) × List ℕ). Ok (first.0 ∷ others.0, others.1)) (arguments_goes n more first.1) (λ others. refl))

count_goes : (more bytes : List ℕ) → Goes (behind more) (count_at bytes) (count_at (bytes ++ more))
unfolding count_at
count_goes more [] = tt
count_goes more (b ∷ bytes) =
    cond_goes (behind more) (b == 45) _ _ _ _
    (bind_goes (longer more) (behind more) _ _ (λ (rest : List ℕ). (line_end_at BadNumber rest >>= λ after. Ok (None, after))) (byte_goes 49 BadNumber more bytes) (λ x. ended_goes None BadNumber more x))
    (bind_goes (behind more) (behind more) _ _ (λ (n : ℕ × List ℕ). Ok (Some n.0, n.1)) (number_goes 1027 TooManyArguments more (b ∷ bytes)) (λ n. refl))

pub head_goes : (more bytes : List ℕ) → Goes (behind more) (head_at bytes) (head_at (bytes ++ more))
unfolding head_at
head_goes more bytes = bind_goes (longer more) (behind more) _ _ count_at (byte_goes 42 NotAnArray more bytes) (λ x. count_goes more x)

behind_goes : (head : Option ℕ) (more bytes : List ℕ) → Goes (behind more) (behind_head head bytes) (behind_head head (bytes ++ more))
unfolding behind_head
behind_goes None more bytes = refl
behind_goes (Some zero) more bytes = refl
behind_goes (Some (suc n)) more bytes =
    bind_goes (behind more) (behind more) _ _ (λ (arguments : List (List ℕ) × List ℕ). Ok (Ask arguments.0, arguments.1)) (arguments_goes (suc n) more bytes) (λ arguments. refl)

pub item_goes : (more bytes : List ℕ) → Goes (behind more) (item_at bytes) (item_at (bytes ++ more))
unfolding item_at
item_goes more bytes =
    bind_goes (behind more) (behind more) _ _ (λ (head : Option ℕ × List ℕ). behind_head head.0 head.1) (head_goes more bytes) (λ head. behind_goes head.0 more head.1)

pub still_item : (bytes more : List ℕ) (item : Item) (rest : List ℕ) → item_at bytes ≡ Ok (item, rest) → item_at (bytes ++ more) ≡ Ok (item, rest ++ more)
still_item bytes more item rest e = rw e at (item_goes more bytes)

pub still_wrong : (bytes more : List ℕ) (f : ProtocolFault) → item_at bytes ≡ Err (Wrong f) → item_at (bytes ++ more) ≡ Err (Wrong f)
still_wrong bytes more f e = rw e at (item_goes more bytes)
