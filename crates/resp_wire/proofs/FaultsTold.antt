-- What a row of the table says of a text is told of it.
use Rattle.std.proofs.Common.{◌≡◌, ℕ, ◌+◌, ◌*◌, ◌-◌, ◌%◌, ◌^◌, ◌<◌, ◌≤◌, Bool, true, false, List, [], ◌∷◌, ◌++◌, length, Err, refl, sym, ap, subst, ◌∙◌, ◌⊎◌, inl, inr, append_assoc, length-append, arith}
use Rattle.std.specs.Prelude.{decimal, nat_lt, ◌==◌}
use Rattle.std.specs.List.{flat_map}
use Rattle.std.specs.Char.{is_ascii_digit}
use Rattle.std.proofs.lemmas.Bool.{ne_eqb, eq-eqb, lt-ltb, le-ltb}
use Rattle.std.proofs.lemmas.Fmt.{decimal_by_steps}
use Rattle.std.proofs.lemmas.List.{take_at, drop_at}
use Rattle.resp_wire.specs.declared.fault.ProtocolFault.{ProtocolFault}
use Rattle.resp_wire.specs.declared.fault.ProtocolFault.TheVariants.{NotAnArray, BadNumber, TooManyArguments, TooLong, BadBulk}
use Rattle.resp_wire.specs.declared.fault.Stop.{Stop}
use Rattle.resp_wire.specs.declared.fault.Stop.TheVariants.{Wrong}
use Rattle.resp_messages.specs.RequestEncoding.{most_arguments, longest_argument, line, argument, IsArgument}
use Rattle.resp_wire.specs.Parser.{byte_at, line_end_at, digits_at, number_at, body_at, argument_at, count_at, head_at, item_at}
use Rattle.resp_wire.specs.FirstWrongByte.{IsDigit, BeginsOtherwise, BeginsWithNoDigit, EndsNoLine, Exceeds, IsWrongBehind, EndsWrong, IsNoMinusOne, BeginsNoCount, HasNoStar, IsDue}
use Rattle.resp_wire.proofs.ParserLemmas.{byte_again}
use Rattle.resp_wire.proofs.Numbers.{digit_range, digit_is, number_digits, number_again}
use Rattle.resp_wire.proofs.Items.{arguments_stop, begun_reads}
use Rattle.resp_wire.proofs.FaultRows.{Tells, behind_minus}

byte_other : (wanted : ℕ) (f : ProtocolFault) (bytes : List ℕ) → BeginsOtherwise wanted bytes → byte_at wanted f bytes ≡ Err (Wrong f)
unfolding byte_at
byte_other wanted f [] h = absurd h
byte_other wanted f (b ∷ more) h = rw (ne_eqb b wanted h) refl

line_end_other : (f : ProtocolFault) (bytes : List ℕ) → EndsNoLine bytes → line_end_at f bytes ≡ Err (Wrong f)
unfolding line_end_at byte_at
line_end_other f [] h = absurd h
line_end_other f (a ∷ []) h = rw (ne_eqb a 13 h) refl
line_end_other f (a ∷ b ∷ more) (inl h) = rw (ne_eqb a 13 h) refl
line_end_other f (a ∷ b ∷ more) (inr h) = rw (eq-eqb a 13 h.0, ne_eqb b 10 h.1) refl

not_digit : (b : ℕ) → (IsDigit b → ⊥) → is_ascii_digit b ≡ false
not_digit b h = go (is_ascii_digit b) refl
  where
    go : (t : Bool) → is_ascii_digit b ≡ t → is_ascii_digit b ≡ false
    go true e = absurd (h (digit_range b e))
    go false e = e

digits_other : (limit : ℕ) (over : ProtocolFault) (n : ℕ) (behind : List ℕ) → IsWrongBehind n behind → digits_at limit over n behind ≡ Err (Wrong BadNumber)
unfolding digits_at
digits_other limit over n [] h = absurd h
digits_other limit over n (b ∷ more) h = go (is_ascii_digit b) refl
  where
    go : (t : Bool) → is_ascii_digit b ≡ t → digits_at limit over n (b ∷ more) ≡ Err (Wrong BadNumber)
    go true e = rw (e, eq-eqb n 0 (h.1 (digit_range b e))) refl
    go false e = rw (e, line_end_other BadNumber (b ∷ more) h.0) refl

digits_beyond : (limit : ℕ) (over : ProtocolFault) (n d : ℕ) (more : List ℕ) → 0 < n → d < 10 → limit < n * 10 + d → digits_at limit over n ((48 + d) ∷ more) ≡ Err (Wrong over)
unfolding digits_at
digits_beyond limit over n d more pos small beyond =
    let a : is_ascii_digit (48 + d) ≡ true = digit_is (48 + d) (omega arith) (omega arith) in
    let b : (n == 0) ≡ false = ne_eqb n 0 (λ e. absurd (omega arith)) in
    let s : (48 + d) - 48 ≡ d = omega arith in
    let c : nat_lt limit (n * 10 + d) ≡ true = lt-ltb _ _ beyond in
    rw (a, b, s, c) refl

number_beyond : (limit : ℕ) (over : ProtocolFault) (text : List ℕ) → limit < 2 ^ 32 → 9 ≤ limit → Exceeds limit text → number_at limit over text ≡ Err (Wrong over)
number_beyond limit over text lim le x =
    ap (number_at limit over) x.text_is ∙ number_digits limit over lim x.before (omega (arith, x.within)) x.within ((48 + x.digit) ∷ x.more) ∙ digits_beyond limit over x.before x.digit x.more (omega (arith, x.beyond, x.is_digit)) x.is_digit x.beyond

number_ends : (limit : ℕ) (over : ProtocolFault) (text : List ℕ) → limit < 2 ^ 32 → EndsWrong limit text → number_at limit over text ≡ Err (Wrong BadNumber)
number_ends limit over text lim x =
    ap (number_at limit over) x.text_is ∙ number_digits limit over lim x.number (omega (arith, x.within)) x.within x.behind ∙ digits_other limit over x.number x.behind x.wrong

number_none : (limit : ℕ) (over : ProtocolFault) (text : List ℕ) → BeginsWithNoDigit text → number_at limit over text ≡ Err (Wrong BadNumber)
unfolding number_at
number_none limit over [] h = absurd h
number_none limit over (b ∷ more) h = rw (not_digit b h) refl

no_minus : (n : ℕ) → n < 2 ^ 64 → (more : List ℕ) → BeginsOtherwise 45 (decimal n ++ more)
no_minus = decimal_by_steps (λ m ds. (more : List ℕ) → BeginsOtherwise 45 (ds ++ more))
    (λ m small more is. absurd (omega arith))
    (λ m ds ten ih more. subst (BeginsOtherwise 45) (sym (append_assoc ds ((48 + m % 10) ∷ []) more)) (ih ((48 + m % 10) ∷ more)))

count_number_wrong : (text : List ℕ) (stop : Stop) → BeginsOtherwise 45 text → number_at most_arguments TooManyArguments text ≡ Err stop → count_at text ≡ Err stop
unfolding count_at
count_number_wrong [] stop h e = absurd h
count_number_wrong (b ∷ more) stop h e = rw (ne_eqb b 45 h, e) refl

minus_none : (more : List ℕ) → IsNoMinusOne more → behind_minus more ≡ Err (Wrong BadNumber)
unfolding byte_at
minus_none [] h = absurd h
minus_none (c ∷ behind) (inl h) = rw (ne_eqb c 49 h) refl
minus_none (c ∷ behind) (inr h) = rw (eq-eqb c 49 h.0, line_end_other BadNumber behind h.1) refl

count_none : (text : List ℕ) → BeginsNoCount text → count_at text ≡ Err (Wrong BadNumber)
unfolding count_at
count_none [] h = absurd h
count_none (b ∷ more) (inl h) = rw (ne_eqb b 45 h.0, number_none most_arguments TooManyArguments (b ∷ more) h.1) refl
count_none (b ∷ more) (inr h) = rw (eq-eqb b 45 h.0) (minus_none more h.1)

in_head : (text behind : List ℕ) (stop : Stop) → text ≡ 42 ∷ behind → count_at behind ≡ Err stop → item_at text ≡ Err stop
unfolding item_at head_at
in_head text behind stop is e = rw (is, byte_again 42 NotAnArray behind, e) refl

no_array : (text : List ℕ) → HasNoStar text → item_at text ≡ Err (Wrong NotAnArray)
unfolding item_at head_at
no_array text h = rw (byte_other 42 NotAnArray text h) refl

in_argument : (text next : List ℕ) (stop : Stop) → IsDue text next → argument_at next ≡ Err stop → item_at text ≡ Err stop
in_argument text next stop due e =
    let regroup : 42 ∷ (line due.count ++ (flat_map argument due.whole ++ next)) ≡ (42 ∷ (line due.count ++ flat_map argument due.whole)) ++ next = ap (λ (t : List ℕ). 42 ∷ t) (sym (append_assoc (line due.count) (flat_map argument due.whole) next)) in
    ap item_at (due.text_is ∙ regroup) ∙ begun_reads due.count due.whole next (Err stop) (omega (arith, due.few)) due.most (arguments_stop due.whole due.count next stop due.each due.few e)

length_wrong : (behind : List ℕ) (stop : Stop) → number_at longest_argument TooLong behind ≡ Err stop → argument_at (36 ∷ behind) ≡ Err stop
unfolding argument_at
length_wrong behind stop e = rw (byte_again 36 BadBulk behind, e) refl

no_dollar : (next : List ℕ) → BeginsOtherwise 36 next → argument_at next ≡ Err (Wrong BadBulk)
unfolding argument_at
no_dollar next h = rw (byte_other 36 BadBulk next h) refl

body_other : (value behind : List ℕ) → EndsNoLine behind → body_at (length value) (value ++ behind) ≡ Err (Wrong BadBulk)
unfolding body_at
body_other value behind h =
    let long : nat_lt (length (value ++ behind)) (length value) ≡ false = le-ltb _ _ (omega (arith, length-append value behind)) in
    rw (long, take_at value behind (length value) refl, drop_at value behind (length value) refl, line_end_other BadBulk behind h) refl

no_end : (value behind : List ℕ) → IsArgument value → EndsNoLine behind → argument_at (36 ∷ (line (length value) ++ (value ++ behind))) ≡ Err (Wrong BadBulk)
unfolding argument_at
no_end value behind fits h =
    rw (byte_again 36 BadBulk (line (length value) ++ (value ++ behind)), number_again longest_argument TooLong (length value) (value ++ behind) (omega arith) fits, body_other value behind h) refl

pub told : (text : List ℕ) (f : ProtocolFault) → Tells f text → item_at text ≡ Err (Wrong f)
told text NotAnArray row = no_array text row
told text TooManyArguments row =
    let x = row.exceeds in
    let first : BeginsOtherwise 45 row.behind = subst (BeginsOtherwise 45) (sym x.text_is) (no_minus x.before (omega (arith, x.within)) ((48 + x.digit) ∷ x.more)) in
    in_head text row.behind (Wrong TooManyArguments) row.text_is (count_number_wrong row.behind (Wrong TooManyArguments) first (number_beyond most_arguments TooManyArguments row.behind (omega arith) (omega arith) x))
told text BadNumber (inl row) = in_head text row.behind (Wrong BadNumber) row.text_is (go row.wrong)
  where
    go : BeginsNoCount row.behind ⊎ EndsWrong most_arguments row.behind → count_at row.behind ≡ Err (Wrong BadNumber)
    go (inl none) = count_none row.behind none
    go (inr x) =
        let first : BeginsOtherwise 45 row.behind = subst (BeginsOtherwise 45) (sym x.text_is) (no_minus x.number (omega (arith, x.within)) x.behind) in
        count_number_wrong row.behind (Wrong BadNumber) first (number_ends most_arguments TooManyArguments row.behind (omega arith) x)
told text BadNumber (inr row) = in_argument text (36 ∷ row.behind) (Wrong BadNumber) row.due (length_wrong row.behind (Wrong BadNumber) (go row.wrong))
  where
    go : BeginsWithNoDigit row.behind ⊎ EndsWrong longest_argument row.behind → number_at longest_argument TooLong row.behind ≡ Err (Wrong BadNumber)
    go (inl none) = number_none longest_argument TooLong row.behind none
    go (inr x) = number_ends longest_argument TooLong row.behind (omega arith) x
told text TooLong row = in_argument text (36 ∷ row.behind) (Wrong TooLong) row.due (length_wrong row.behind (Wrong TooLong) (number_beyond longest_argument TooLong row.behind (omega arith) (omega arith) row.exceeds))
told text BadBulk (inl row) = in_argument text row.next (Wrong BadBulk) row.due (no_dollar row.next row.wrong)
told text BadBulk (inr row) = in_argument text (36 ∷ (line (length row.value) ++ (row.value ++ row.behind))) (Wrong BadBulk) row.due (no_end row.value row.behind row.fits row.wrong)
