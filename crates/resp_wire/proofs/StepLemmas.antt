-- The steps of a decoder.
use Rattle.std.proofs.Common.{◌≡◌, ℕ, zero, suc, ◌+◌, ◌-◌, ◌<◌, ◌≤◌, List, [], ◌∷◌, ◌++◌, length, drop, All, Option, Some, None, Ok, Err, refl, sym, ap, subst, ◌∙◌, append_assoc, length-append, arith}
use Rattle.std.specs.List.{flat_map, AllByRecursion}
use Rattle.std.proofs.lemmas.List.{append-nil, drop_at, drop-drop}
use Rattle.std.proofs.lemmas.List.Concat.{flat_map-append}
use Rattle.std.proofs.lemmas.List.Elements.{All-nil}
use Rattle.resp_wire.specs.declared.fault.Stop.{Stop}
use Rattle.resp_messages.specs.RequestEncoding.{line, argument, IsArgument, Item, SkipZero, SkipMinus, IsSkip, encoding_of}
use Rattle.resp_wire.specs.Parser.{head_at, argument_at}
use Rattle.resp_wire.specs.Parser.{item_at}
use Rattle.resp_wire.specs.DecoderView.{begun}
use Rattle.resp_wire.specs.declared.decoder_steps.End.TheVariants as ends
use Rattle.resp_wire.specs.DecoderSteps.{SkipsTo, Skips, Went, Steps, Stepped, EndIs}
use Rattle.resp_wire.specs.declared.decoder_steps.End.{End}
use Rattle.resp_wire.proofs.Items.{head_takes, argument_takes, arguments_stop, begun_reads}

pub head_shorter : (rest : List ℕ) (head : Option ℕ) (after : List ℕ) → head_at rest ≡ Ok (head, after) → length after < length rest
head_shorter rest None after e = let t = head_takes rest None after e in omega (arith, ap length t.0)
head_shorter rest (Some n) after e = let t = head_takes rest (Some n) after e in omega (arith, ap length t.0, length-append (line n) after)

skip_push : (items : List Item) (item : Item) → AllByRecursion IsSkip items → IsSkip item → AllByRecursion IsSkip (items ++ item ∷ [])
skip_push [] item each is = (is, tt)
skip_push (first ∷ items) item each is = (each.0, skip_push items item each.1 is)

skips_push : (bytes rest after : List ℕ) (item : Item) → IsSkip item → rest ≡ encoding_of item ++ after → SkipsTo bytes rest → SkipsTo bytes after
skips_push bytes rest after item is text so = record {
  skips = so.skips ++ item ∷ [];
  each = skip_push so.skips item so.each is;
  text = so.text ∙ ap (λ (t : List ℕ). flat_map encoding_of so.skips ++ t) text ∙ sym (append_assoc (flat_map encoding_of so.skips) (encoding_of item) after) ∙ ap (λ (t : List ℕ). t ++ after) (sym (flat_map-append encoding_of so.skips (item ∷ []) ∙ ap (λ (t : List ℕ). flat_map encoding_of so.skips ++ t) (append-nil (encoding_of item))));
}

abbrev pub head_count : Option ℕ → ℕ
head_count None = 0
head_count (Some n) = n

pub skips_more : (bytes rest after : List ℕ) (head : Option ℕ) → head_at rest ≡ Ok (head, after) → (0 < (head_count head) → ⊥) → SkipsTo bytes rest → SkipsTo bytes after
skips_more bytes rest after None e nope so = skips_push bytes rest after SkipMinus tt (head_takes rest None after e).0 so
skips_more bytes rest after (Some zero) e nope so = skips_push bytes rest after SkipZero tt (head_takes rest (Some zero) after e).0 so
skips_more bytes rest after (Some (suc n)) e nope so = absurd (nope (omega arith))

pub skips_none : (bytes : List ℕ) → SkipsTo bytes bytes
skips_none bytes = record { skips = []; each = tt; text = refl }

pub arguments_more : (arguments : List (List ℕ)) (value rest after total : List ℕ) → argument_at rest ≡ Ok (value, after) → flat_map argument arguments ++ rest ≡ total → flat_map argument (arguments ++ value ∷ []) ++ after ≡ total
arguments_more arguments value rest after total e so =
    let t = argument_takes rest value after e in
    let text : flat_map argument (arguments ++ value ∷ []) ≡ flat_map argument arguments ++ argument value = flat_map-append argument arguments (value ∷ []) ∙ ap (λ (x : List ℕ). flat_map argument arguments ++ x) (append-nil (argument value)) in
    ap (λ (x : List ℕ). x ++ after) text ∙ append_assoc (flat_map argument arguments) (argument value) after ∙ ap (λ (x : List ℕ). flat_map argument arguments ++ x) (sym t.0) ∙ so

pub argument_shorter : (rest value after : List ℕ) → argument_at rest ≡ Ok (value, after) → length after < length rest
argument_shorter rest value after e = let t = argument_takes rest value after e in omega (arith, ap length t.0, length-append (argument value) after)

pub begun_text : (count : ℕ) (before after : List (List ℕ)) (bytes rest : List ℕ) → 0 < count → flat_map argument after ++ rest ≡ flat_map argument before ++ bytes → begun count before ++ bytes ≡ begun count after ++ rest
begun_text zero before after bytes rest pos e = absurd (omega arith)
begun_text (suc n) before after bytes rest pos e =
    ap (λ (t : List ℕ). 42 ∷ t) (append_assoc (line (suc n)) (flat_map argument before) bytes ∙ ap (λ (t : List ℕ). line (suc n) ++ t) (sym e) ∙ sym (append_assoc (line (suc n)) (flat_map argument after) rest))

pub begun_stops : (count : ℕ) (arguments : List (List ℕ)) (rest : List ℕ) (stop : Stop) → 0 < count → count ≤ 1027 → All IsArgument arguments → length arguments < count → argument_at rest ≡ Err stop → item_at (begun count arguments ++ rest) ≡ Err stop
begun_stops zero arguments rest stop pos le each few e = absurd (omega arith)
begun_stops (suc n) arguments rest stop pos le each few e = begun_reads (suc n) arguments rest (Err stop) pos le (arguments_stop arguments (suc n) rest stop each few e)

pub went_stop : (count : ℕ) (before after : List (List ℕ)) (bytes rest : List ℕ) (stop : Stop) → 0 < count → count ≤ 1027 → length rest ≤ length bytes → All IsArgument after → length after ≤ count
    → flat_map argument after ++ rest ≡ flat_map argument before ++ bytes → (argument_at rest ≡ Err stop) × (length after < count) → Went count before bytes (ends.Stopped stop) after rest
went_stop count before after bytes rest stop pos le shorter each few text stops = record {
  text = begun_text count before after bytes rest pos text;
  shorter = shorter;
  each = each;
  few = few;
  end_is = begun_stops count after rest stop pos le each stops.1 stops.0;
}

-- the end of a text, by its length
pub suffix : (a b x r : List ℕ) → a ++ b ≡ x ++ r → length r ≤ length b → drop (length b - length r) b ≡ r
suffix a b x r e le =
    let k = length b - length r in
    let lengths : length a + length b ≡ length x + length r = omega (arith, ap length e, length-append a b, length-append x r) in
    let at : length a + k ≡ length x = omega arith in
    let left : drop (length a + k) (a ++ b) ≡ drop k b = sym (drop-drop k (length a) (a ++ b)) ∙ ap (drop k) (drop_at a b (length a) refl) in
    let right : drop (length a + k) (x ++ r) ≡ r = rw at (drop_at x r (length x) refl) in
    sym left ∙ ap (drop (length a + k)) e ∙ right

pub steps_from : (count₀ : ℕ) (before : List (List ℕ)) (bytes : List ℕ) (skipped count : ℕ) (body : List ℕ) (end : End) (after : List (List ℕ)) (rest : List ℕ)
    → Skips (begun count₀ before ++ bytes) (begun count before ++ body) skipped → length body + skipped ≤ length bytes → 0 < count → count ≤ 1027 → Went count before body end after rest
    → Steps count₀ before bytes (record { skipped = skipped; used = length bytes - length rest; count = count; end = end }) after
steps_from count₀ before bytes skipped count body end after rest s room pos le w = go end w
  where
    stepped : (end : End) → Went count before body end after rest → (end ≡ ends.Whole → 0 < count) → Stepped count₀ before bytes (record { skipped = skipped; used = length bytes - length rest; count = count; end = end }) after
    stepped end w some =
        let whole : begun count₀ before ++ bytes ≡ (flat_map encoding_of s.skips ++ begun count after) ++ rest = s.text ∙ ap (λ (t : List ℕ). flat_map encoding_of s.skips ++ t) w.text ∙ sym (append_assoc (flat_map encoding_of s.skips) (begun count after) rest) in
        let shorter : length rest ≤ length body = w.shorter in
        let end_at : drop (length bytes - length rest) bytes ≡ rest = suffix (begun count₀ before) bytes (flat_map encoding_of s.skips ++ begun count after) rest whole (omega arith) in
        record {
          text = record { skips = s.skips; each = s.each; many = s.many; text = s.text ∙ ap (λ (t : List ℕ). flat_map encoding_of s.skips ++ t) (w.text ∙ ap (λ (t : List ℕ). begun count after ++ t) (sym end_at)) };
          used = (omega arith, omega arith);
          within = le;
          each = w.each;
          few = w.few;
          end_is = subst (EndIs count before end after) (sym end_at) w.end_is;
          some = some;
        }

    go : (end : End) → Went count before body end after rest → Steps count₀ before bytes (record { skipped = skipped; used = length bytes - length rest; count = count; end = end }) after
    go ends.Memory w = w.end_is
    go ends.Whole w = stepped ends.Whole w (λ _. pos)
    go (ends.Stopped stop) w = stepped (ends.Stopped stop) w (λ _. pos)

pub no_skips : (text : List ℕ) → Skips text text 0
no_skips text = record { skips = []; each = tt; text = refl; many = refl }

-- the skips, as far as the head of a request
skips_counted : (bytes rest : List ℕ) → SkipsTo bytes rest → Skips bytes rest (length bytes - length rest)
skips_counted bytes rest so = record { skips = so.skips; each = so.each; text = so.text; many = omega (arith, ap length so.text, length-append (flat_map encoding_of so.skips) rest) }

pub skips_to_head : (before : List (List ℕ)) (bytes rest : List ℕ) (count : ℕ) (body : List ℕ) → length before ≤ 0 → SkipsTo bytes rest → head_at rest ≡ Ok (Some count, body) → 0 < count
    → Skips (begun 0 before ++ bytes) (begun count before ++ body) (length bytes - length rest)
skips_to_head before bytes rest zero body none so e pos = absurd (omega arith)
skips_to_head [] bytes rest (suc n) body none so e pos =
    let t : rest ≡ 42 ∷ (line (suc n) ++ body) = (head_takes rest (Some (suc n)) body e).0 in
    let same : rest ≡ (42 ∷ (line (suc n) ++ [])) ++ body = t ∙ ap (λ (x : List ℕ). 42 ∷ (x ++ body)) (sym (append-nil (line (suc n)))) in
    let s = skips_counted bytes rest so in
    record { skips = s.skips; each = s.each; many = s.many; text = s.text ∙ ap (λ (x : List ℕ). flat_map encoding_of s.skips ++ x) same }
skips_to_head (w ∷ ws) bytes rest (suc n) body none so e pos = absurd (omega arith)

pub head_stops : (rest : List ℕ) (stop : Stop) → head_at rest ≡ Err stop → item_at rest ≡ Err stop
unfolding item_at
head_stops rest stop e = rw e refl

pub skips_shorter : (bytes rest : List ℕ) → SkipsTo bytes rest → length rest ≤ length bytes
skips_shorter bytes rest so = omega (arith, ap length so.text, length-append (flat_map encoding_of so.skips) rest)

pub stopped_at_head : (count : ℕ) (before : List (List ℕ)) (bytes rest : List ℕ) (stop : Stop) → count ≤ 0 → length before ≤ count → SkipsTo bytes rest → head_at rest ≡ Err stop
    → Stepped count before bytes (record { skipped = length bytes - length rest; used = length bytes - length rest; count = 0; end = ends.Stopped stop }) before
stopped_at_head (suc n) before bytes rest stop none few so e = absurd (omega arith)
stopped_at_head zero (w ∷ ws) bytes rest stop none few so e = absurd (omega arith)
stopped_at_head zero [] bytes rest stop none few so e =
    let s = skips_counted bytes rest so in
    let end_at : drop (length bytes - length rest) bytes ≡ rest = suffix [] bytes (flat_map encoding_of so.skips) rest so.text (skips_shorter bytes rest so) in
    record {
      text = record { skips = s.skips; each = s.each; many = s.many; text = s.text ∙ ap (λ (t : List ℕ). flat_map encoding_of s.skips ++ t) (sym end_at) };
      used = (omega arith, omega arith);
      within = omega arith;
      each = All-nil IsArgument;
      few = omega arith;
      end_is = subst (λ (t : List ℕ). item_at t ≡ Err stop) (sym end_at) (head_stops rest stop e);
      some = λ is. absurd cc;
    }
