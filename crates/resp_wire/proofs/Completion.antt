-- What is too short can be completed.
use Rattle.std.proofs.Common.{◌≡◌, ℕ, zero, suc, ◌+◌, ◌*◌, ◌-◌, ◌<◌, ◌^◌, Bool, true, false, cond, List, [], ◌∷◌, ◌++◌, length, take, drop, replicate, Option, Some, None, Result, Ok, Err, refl, sym, ap, ◌∙◌, ◌⊎◌, inl, inr, append_assoc, length-append, arith}
use Rattle.std.specs.Prelude.{nat_lt, ◌==◌}
use Rattle.std.specs.Char.{is_ascii_digit}
use Rattle.std.proofs.lemmas.Bool.{cases_lt, lt-ltb, le-ltb}
use Rattle.std.proofs.lemmas.List.{append-nil, take-append-le, drop-append-le, length-replicate}
use Rattle.resp_wire.specs.declared.fault.ProtocolFault.{ProtocolFault}
use Rattle.resp_wire.specs.declared.fault.ProtocolFault.TheVariants.{NotAnArray, BadNumber, TooManyArguments, TooLong, BadBulk}
use Rattle.resp_wire.specs.declared.fault.Stop.{Stop}
use Rattle.resp_wire.specs.declared.fault.Stop.TheVariants.{Short, Wrong}
use Rattle.resp_messages.specs.RequestEncoding.{line, Item, Ask, SkipZero, SkipMinus, IsItem, encoding_of}
use Rattle.resp_wire.specs.Parser.{◌>>=◌, byte_at, line_end_at, digits_at, number_at, body_at, argument_at, arguments_at, count_at, head_at, behind_head, item_at}
use Rattle.resp_wire.proofs.ParserLemmas.{byte_again}
use Rattle.resp_wire.proofs.Numbers.{digits_end, number_again}
use Rattle.resp_wire.proofs.Items.{body_again, count_number, item_takes}
use Rattle.resp_wire.proofs.Extension.{Goes, behind, number_goes, argument_goes, arguments_goes, head_goes}

abbrev pub Reader : Type 0 → Type 0
Reader A = List ℕ → Result (A × List ℕ) Stop

-- bytes that complete a text
abbrev pub Completes : {A : Type 0} → Reader A → List ℕ → Type 0
Completes {A} r bytes = (more : List ℕ) × (x : A) × (r (bytes ++ more) ≡ Ok (x, []))

abbrev pub Ends : {A : Type 0} → Reader A → Type 0
Ends r = (bytes : List ℕ) → r bytes ≡ Err Short → Completes r bytes

-- nothing is short, or already whole
abbrev pub Starts : {A : Type 0} → Reader A → Type 0
Starts {A} r = (r [] ≡ Err Short) ⊎ ((x : A) × (r [] ≡ Ok (x, [])))

finish : {A : Type 0} (r : Reader A) → Starts r → Ends r → (more : List ℕ) × (x : A) × (r more ≡ Ok (x, []))
finish r (inl short) ends = ends [] short
finish r (inr whole) ends = ([], whole.0, whole.1)

byte_ends : {B : Type 0} (wanted : ℕ) (f : ProtocolFault) (next : Reader B) → Starts next → Ends next → Ends (λ bytes. byte_at wanted f bytes >>= next)
unfolding byte_at
byte_ends wanted f next starts ends [] e = let n = finish next starts ends in (wanted ∷ n.0, n.1, rw (byte_again wanted f n.0) n.2)
byte_ends {B = B} wanted f next starts ends (b ∷ bytes) e = go (b == wanted) e
  where
    go : (t : Bool) → ((cond t (Ok bytes) (Err (Wrong f))) >>= next) ≡ Err Short → (more : List ℕ) × (x : B) × (((cond t (Ok (bytes ++ more)) (Err (Wrong f))) >>= next) ≡ Ok (x, []))
    go true h = ends bytes h
    go false h = absurd cc

cond_ends : {A : Type 0} (t : Bool) (r s : Reader A) (bytes : List ℕ) → (r bytes ≡ Err Short → Completes r bytes) → (s bytes ≡ Err Short → Completes s bytes) → cond t (r bytes) (s bytes) ≡ Err Short → Completes (λ b. cond t (r b) (s b)) bytes
cond_ends true r s bytes p q e = p e
cond_ends false r s bytes p q e = q e

wrong_ends : {A : Type 0} (f : ProtocolFault) → Ends {A = A} (λ bytes. Err (Wrong f))
wrong_ends f bytes e = absurd cc

bind_ends : {A B : Type 0} (r : Reader A) (f : A → Reader B) → ((more bytes : List ℕ) → Goes (behind more) (r bytes) (r (bytes ++ more))) → Ends r → ((x : A) → Starts (f x)) → ((x : A) → Ends (f x)) → Ends (λ bytes. r bytes >>= λ p. f p.0 p.1)
bind_ends {A = A} {B = B} r f goes ends starts f_ends bytes e = go (r bytes) refl e
  where
    go : (read : Result (A × List ℕ) Stop) → r bytes ≡ read → (read >>= λ p. f p.0 p.1) ≡ Err Short → Completes (λ bytes. r bytes >>= λ p. f p.0 p.1) bytes
    go (Ok x) is h =
        let m = f_ends x.0 x.1 h in
        let later : r (bytes ++ m.0) ≡ Ok (x.0, x.1 ++ m.0) = rw is at (goes m.0 bytes) in
        (m.0, m.1, rw later m.2)
    go (Err Short) is h =
        let m = ends bytes is in
        let n = finish (f m.1) (starts m.1) (f_ends m.1) in
        let whole : r ((bytes ++ m.0) ++ n.0) ≡ Ok (m.1, n.0) = rw m.2 at (goes n.0 (bytes ++ m.0)) in
        let same : r (bytes ++ (m.0 ++ n.0)) ≡ Ok (m.1, n.0) = ap r (sym (append_assoc bytes m.0 n.0)) ∙ whole in
        (m.0 ++ n.0, n.1, rw same n.2)
    go (Err (Wrong w)) is h = absurd cc

bind_assoc : {A B C : Type 0} (r : Result A Stop) (f : A → Result B Stop) (g : B → Result C Stop) → ((r >>= f) >>= g) ≡ (r >>= λ x. (f x >>= g))
bind_assoc (Ok x) f g = refl
bind_assoc (Err e) f g = refl

ended_ends : {A : Type 0} (a : A) (f : ProtocolFault) → Ends (λ bytes. line_end_at f bytes >>= λ rest. Ok (a, rest))
unfolding line_end_at byte_at
ended_ends a f bytes e =
    let last : Ends (λ rest. byte_at 10 f rest >>= λ r. Ok (a, r)) = byte_ends 10 f (λ r. Ok (a, r)) (inr (a, refl)) (λ rest h. absurd cc) in
    let both = byte_ends 13 f (λ rest. byte_at 10 f rest >>= λ r. Ok (a, r)) (inl refl) last bytes (sym (bind_assoc (byte_at 13 f bytes) (byte_at 10 f) (λ r. Ok (a, r))) ∙ e) in
    (both.0, both.1, bind_assoc (byte_at 13 f (bytes ++ both.0)) (byte_at 10 f) (λ r. Ok (a, r)) ∙ both.2)

digits_ends : (limit : ℕ) (over : ProtocolFault) (n : ℕ) → Ends (digits_at limit over n)
unfolding digits_at
digits_ends limit over n [] e = (13 ∷ 10 ∷ [], n, digits_end limit over n [])
digits_ends limit over n (b ∷ bytes) e =
    cond_ends (is_ascii_digit b)
    (λ r. cond (n == 0) (Err (Wrong BadNumber)) (cond (nat_lt limit (n * 10 + (b - 48))) (Err (Wrong over)) (digits_at limit over (n * 10 + (b - 48)) r)))
    (λ r. line_end_at BadNumber (b ∷ r) >>= λ rest. Ok (n, rest))
    bytes
    (cond_ends (n == 0) (λ r. Err (Wrong BadNumber)) (λ r. cond (nat_lt limit (n * 10 + (b - 48))) (Err (Wrong over)) (digits_at limit over (n * 10 + (b - 48)) r)) bytes (wrong_ends BadNumber bytes)
    (cond_ends (nat_lt limit (n * 10 + (b - 48))) (λ r. Err (Wrong over)) (digits_at limit over (n * 10 + (b - 48))) bytes (wrong_ends over bytes) (digits_ends limit over (n * 10 + (b - 48)) bytes)))
    (ended_ends n BadNumber (b ∷ bytes))
    e

number_ends : (limit : ℕ) (over : ProtocolFault) → limit < 2 ^ 32 → Ends (number_at limit over)
unfolding number_at
number_ends limit over lim [] e = (line 0, 0, ap (number_at limit over) (sym (append-nil (line 0))) ∙ number_again limit over 0 [] lim (omega arith))
number_ends limit over lim (b ∷ bytes) e = cond_ends (is_ascii_digit b) (digits_at limit over (b - 48)) (λ r. Err (Wrong BadNumber)) bytes (digits_ends limit over (b - 48) bytes) (wrong_ends BadNumber bytes) e

body_ends : (n : ℕ) → Ends (body_at n)
unfolding body_at
body_ends n bytes e = elim (cases_lt (length bytes) n) [
  | inl lt ↦ missing lt
  | inr le ↦
      let short : nat_lt (length bytes) n ≡ false = le-ltb _ _ le in
      let m = ended_ends (take n bytes) BadBulk (drop n bytes) (rw short at e) in
      let long : nat_lt (length (bytes ++ m.0)) n ≡ false = le-ltb _ _ (omega (arith, length-append bytes m.0)) in
      (m.0, m.1, rw (long, take-append-le n bytes m.0 le, drop-append-le n bytes m.0 le) m.2)
]
  where
    missing : length bytes < n → Completes (body_at n) bytes
    missing lt =
        let value = bytes ++ replicate (n - length bytes) 0 in
        let len : length value ≡ n = omega (arith, length-append bytes (replicate (n - length bytes) 0), length-replicate {A = ℕ} (n - length bytes) 0) in
        (replicate (n - length bytes) 0 ++ 13 ∷ 10 ∷ [], value, ap (body_at n) (sym (append_assoc bytes (replicate (n - length bytes) 0) (13 ∷ 10 ∷ []))) ∙ ap (λ (k : ℕ). body_at k (value ++ 13 ∷ 10 ∷ [])) (sym len) ∙ body_again value [])

body_starts : (n : ℕ) → Starts (body_at n)
unfolding body_at line_end_at byte_at
body_starts zero = inl refl
body_starts (suc n) = inl (let lt : nat_lt 0 (suc n) ≡ true = lt-ltb _ _ (omega arith) in rw lt refl)

argument_ends : Ends argument_at
unfolding argument_at number_at
argument_ends = byte_ends 36 BadBulk (λ rest. (number_at 65536 TooLong rest >>= λ n. body_at n.0 n.1)) (inl refl)
    (bind_ends (number_at 65536 TooLong) body_at (number_goes 65536 TooLong) (number_ends 65536 TooLong (omega arith)) body_starts body_ends)

argument_nil : argument_at [] ≡ Err Short
unfolding argument_at byte_at
argument_nil = refl

arguments_starts : (n : ℕ) → Starts (arguments_at n)
unfolding arguments_at
arguments_starts zero = inr ([], refl)
arguments_starts (suc n) = inl (rw argument_nil refl)

pair_ends : {A B : Type 0} (f : A → B) → (x : A) → Ends {A = B} (λ rest. Ok (f x, rest))
pair_ends f x bytes e = absurd cc

mapped_starts : {A B : Type 0} (r : Reader A) (f : A → B) → Starts r → Starts (λ bytes. r bytes >>= λ p. Ok (f p.0, p.1))
mapped_starts r f (inl e) = inl (rw e refl)
mapped_starts r f (inr x) = inr (f x.0, rw x.1 refl)

arguments_ends : (n : ℕ) → Ends (arguments_at n)
unfolding arguments_at
arguments_ends zero bytes e = absurd cc
arguments_ends (suc n) bytes e =
    bind_ends argument_at (λ w rest. (arguments_at n rest >>= λ others. Ok (w ∷ others.0, others.1))) argument_goes argument_ends
    (λ w. mapped_starts (arguments_at n) (λ (ws : List (List ℕ)). w ∷ ws) (arguments_starts n))
    (λ w. bind_ends (arguments_at n) (λ ws rest. Ok (w ∷ ws, rest)) (arguments_goes n) (arguments_ends n) (λ ws. inr (w ∷ ws, refl)) (λ ws. pair_ends (λ (x : List (List ℕ)). w ∷ x) ws))
    bytes e

count_ends : Ends count_at
unfolding count_at line_end_at byte_at
count_ends [] e = (line 0, Some 0, count_number (line 0) 0 [] (ap (number_at 1027 TooManyArguments) (sym (append-nil (line 0))) ∙ number_again 1027 TooManyArguments 0 [] (omega arith) (omega arith)))
count_ends (b ∷ bytes) e =
    cond_ends (b == 45) (λ r. (byte_at 49 BadNumber r >>= λ rest. (line_end_at BadNumber rest >>= λ after. Ok (None, after)))) (λ r. (number_at 1027 TooManyArguments (b ∷ r) >>= λ n. Ok (Some n.0, n.1))) bytes
    (byte_ends 49 BadNumber (λ rest. (line_end_at BadNumber rest >>= λ after. Ok (None, after))) (inl refl) (ended_ends None BadNumber) bytes)
    (bind_ends (number_at 1027 TooManyArguments) (λ n rest. Ok (Some n, rest)) (number_goes 1027 TooManyArguments) (number_ends 1027 TooManyArguments (omega arith)) (λ n. inr (Some n, refl)) (λ n. pair_ends (λ (k : ℕ). Some k) n) (b ∷ bytes))
    e

head_ends : Ends head_at
unfolding head_at count_at
head_ends = byte_ends 42 NotAnArray count_at (inl refl) count_ends

behind_starts : (head : Option ℕ) → Starts (behind_head head)
unfolding behind_head
behind_starts None = inr (SkipMinus, refl)
behind_starts (Some zero) = inr (SkipZero, refl)
behind_starts (Some (suc n)) = mapped_starts (arguments_at (suc n)) (λ (ws : List (List ℕ)). Ask ws) (arguments_starts (suc n))

behind_ends : (head : Option ℕ) → Ends (behind_head head)
unfolding behind_head
behind_ends None bytes e = absurd cc
behind_ends (Some zero) bytes e = absurd cc
behind_ends (Some (suc n)) bytes e = bind_ends (arguments_at (suc n)) (λ ws rest. Ok (Ask ws, rest)) (arguments_goes (suc n)) (arguments_ends (suc n)) (λ ws. inr (Ask ws, refl)) (λ ws. pair_ends (λ (x : List (List ℕ)). Ask x) ws) bytes e

pub item_ends : Ends item_at
unfolding item_at
item_ends = bind_ends head_at behind_head head_goes head_ends behind_starts behind_ends

pub begins : (text : List ℕ) → item_at text ≡ Err Short → (item : Item) × (x : ℕ) × (more : List ℕ) × IsItem item × (text ++ x ∷ more ≡ encoding_of item)
begins text e = let m = item_ends text e in go m.0 m.1 m.2
  where
    go : (more : List ℕ) (item : Item) → item_at (text ++ more) ≡ Ok (item, []) → (item : Item) × (x : ℕ) × (more : List ℕ) × IsItem item × (text ++ x ∷ more ≡ encoding_of item)
    go [] item h = absurd (let n = sym e ∙ ap item_at (sym (append-nil text)) ∙ h in cc)
    go (x ∷ more) item h = let t = item_takes (text ++ x ∷ more) item [] h in (item, x, more, t.1, t.0 ∙ append-nil (encoding_of item))
