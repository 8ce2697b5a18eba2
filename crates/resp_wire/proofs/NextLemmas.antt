-- What `next` answers.
use Rattle.std.proofs.Common.{◌≡◌, ℕ, zero, suc, ◌+◌, ◌-◌, ◌<◌, ◌≤◌, ◌^◌, List, [], ◌∷◌, ◌++◌, length, drop, Option, Some, None, Ok, Err, refl, sym, ap, subst, ◌∙◌, length-append, arith}
use Rattle.std.specs.List.{flat_map, AllByRecursion}
use Rattle.std.proofs.lemmas.List.{append-nil, drop-drop, length-drop}
use Rattle.resp_wire.specs.declared.fault.ProtocolFault.{ProtocolFault}
use Rattle.resp_wire.specs.declared.fault.WireFault.TheVariants.{Protocol}
use Rattle.resp_wire.specs.declared.fault.Stop.{Stop}
use Rattle.resp_wire.specs.declared.fault.Stop.TheVariants.{Short, Wrong}
use Rattle.resp_wire.specs.declared.decoder_steps.End.TheVariants as ends
use Rattle.resp_wire.specs.declared.decoder_steps.Step.{Step}
use Rattle.resp_messages.specs.RequestEncoding.{request, line, argument, IsRequest, Item, Ask, SkipZero, SkipMinus, IsSkip, IsItem, encoding_of}
use Rattle.resp_wire.specs.Parser.{item_at}
use Rattle.resp_wire.specs.Stream.{requests_among, items, requests, rest, fault, fault_of}
use Rattle.resp_wire.specs.DecoderFields.{IsSound, wire_of}
use Rattle.resp_wire.specs.declared.decoder.Decoder.TheInside.{Inside}
use Rattle.resp_wire.specs.DecoderView.{DecoderView, begun, Gave, Waits, Stops, Nexts}
use Rattle.resp_wire.specs.DecoderSteps.{Skips, Stepped, Steps, StepEnd}
use Rattle.resp_wire.specs.declared.decoder_steps.End.{End}
use Rattle.std.specs.Prelude.{IfNone, IfSome}
use Rattle.resp_wire.proofs.Items.{item_again}
use Rattle.resp_wire.proofs.Streams.{split, split_prefix, split_item, split_stop, requests_among_append}

skips_are_items : (skips : List Item) → AllByRecursion IsSkip skips → AllByRecursion IsItem skips
skips_are_items [] each = tt
skips_are_items (Ask arguments ∷ skips) each = absurd each.0
skips_are_items (SkipZero ∷ skips) each = (tt, skips_are_items skips each.1)
skips_are_items (SkipMinus ∷ skips) each = (tt, skips_are_items skips each.1)

requests_among_skips : (skips : List Item) → AllByRecursion IsSkip skips → requests_among skips ≡ []
requests_among_skips [] each = refl
requests_among_skips (Ask arguments ∷ skips) each = absurd each.0
requests_among_skips (SkipZero ∷ skips) each = requests_among_skips skips each.1
requests_among_skips (SkipMinus ∷ skips) each = requests_among_skips skips each.1

-- skips, and then a request
pub gave_from : (old new : DecoderView) (arguments : List (List ℕ)) (skipped : ℕ) → Skips old.held (request arguments ++ new.held) skipped → IsRequest arguments → Gave old new arguments
unfolding items requests rest fault
gave_from old new arguments skipped s is =
    let each = skips_are_items s.skips s.each in
    let behind : split (request arguments ++ new.held) ≡ (Ask arguments ∷ (split new.held).0, (split new.held).1) = split_item (request arguments ++ new.held) (Ask arguments) new.held (item_again (Ask arguments) new.held is) in
    let all : split old.held ≡ (s.skips ++ Ask arguments ∷ (split new.held).0, (split new.held).1) =
    ap split s.text ∙ split_prefix s.skips (request arguments ++ new.held) each ∙ ap (λ (x : List Item × List ℕ). (s.skips ++ x.0, x.1)) behind in
    record {
      skips = s.skips;
      skipped = s.each;
      text = s.text;
      first = ap (λ (x : List Item × List ℕ). x.0) all;
      requests_are = ap (λ (x : List Item × List ℕ). requests_among x.0) all ∙ requests_among_append s.skips (Ask arguments ∷ (split new.held).0) ∙ ap (λ (x : List (List (List ℕ))). x ++ (arguments ∷ requests_among (split new.held).0)) (requests_among_skips s.skips s.each);
      rest_is = ap (λ (x : List Item × List ℕ). x.1) all;
      fault_is = ap (λ (x : List Item × List ℕ). fault_of (item_at x.1)) all;
    }

-- skips, and then no whole item
pub waits_from : (old new : DecoderView) (skipped : ℕ) (stop : Stop) → Skips old.held new.held skipped → item_at new.held ≡ Err stop → Waits old new × (fault old.held ≡ fault_of (item_at new.held))
unfolding items requests rest fault
waits_from old new skipped stop s e =
    let each = skips_are_items s.skips s.each in
    let all : split old.held ≡ (s.skips ++ [], new.held) = ap split s.text ∙ split_prefix s.skips new.held each ∙ ap (λ (x : List Item × List ℕ). (s.skips ++ x.0, x.1)) (split_stop new.held stop e) in (
      record {
        none = ap (λ (x : List Item × List ℕ). requests_among x.0) all ∙ ap requests_among (append-nil s.skips) ∙ requests_among_skips s.skips s.each;
        held_is = sym (ap (λ (x : List Item × List ℕ). x.1) all);
      },
      ap (λ (x : List Item × List ℕ). fault_of (item_at x.1)) all,
    )

pub waits_short : (old new : DecoderView) (skipped : ℕ) → Skips old.held new.held skipped → item_at new.held ≡ Err Short → Waits old new × (fault old.held ≡ None)
waits_short old new skipped s e = let w = waits_from old new skipped Short s e in (w.0, w.1 ∙ ap fault_of e)

pub stops_wrong : (old new : DecoderView) (skipped : ℕ) (f : ProtocolFault) → Skips old.held new.held skipped → item_at new.held ≡ Err (Wrong f) → new.fault ≡ Some f → Stops old (Protocol f) new
stops_wrong old new skipped f s e is = let w = waits_from old new skipped (Wrong f) s e in (w.0, w.1 ∙ ap fault_of e, is)

-- a request of which all arguments are there
pub begun_whole : (count : ℕ) (arguments : List (List ℕ)) → 0 < count → length arguments ≡ count → begun count arguments ≡ request arguments
begun_whole zero arguments pos e = absurd (omega arith)
begun_whole (suc n) arguments pos e = ap (λ (k : ℕ). 42 ∷ (line k ++ flat_map argument arguments)) (sym e)

-- the numbers of a decoder after a step
pub record Numbers (start begun_len taken : ℕ) (bytes : List ℕ) (step : Step) (after : List (List ℕ)) : Type 0 where
  pub within : start + step.used ≤ length bytes
  pub begun_is : (begun_len + step.used) - step.skipped ≡ length (begun step.count after)
  pub room : (taken + step.skipped) + (((begun_len + step.used) - step.skipped) + (length bytes - (start + step.used))) < 2 ^ 64
  pub order : step.skipped ≤ step.used

pub numbers_after : (start begun_len taken count : ℕ) (before : List (List ℕ)) (bytes : List ℕ) (step : Step) (after : List (List ℕ)) → start ≤ length bytes → begun_len ≡ length (begun count before) → taken + (begun_len + (length bytes - start)) < 2 ^ 64
    → Stepped count before (drop start bytes) step after → Numbers start begun_len taken bytes step after
numbers_after start begun_len taken count before bytes step after le is room st =
    let prefix = flat_map encoding_of st.text.skips in
    let left : length (drop start bytes) ≡ length bytes - start = length-drop start bytes in
    let last : length (drop step.used (drop start bytes)) ≡ length (drop start bytes) - step.used = length-drop step.used (drop start bytes) in
    let many : step.skipped ≡ length prefix = st.text.many in
    let whole : length (begun count before) + length (drop start bytes) ≡ length prefix + (length (begun step.count after) + length (drop step.used (drop start bytes))) =
    sym (length-append (begun count before) (drop start bytes)) ∙ ap length st.text.text ∙ length-append prefix (begun step.count after ++ drop step.used (drop start bytes)) ∙ ap (λ (k : ℕ). length prefix + k) (length-append (begun step.count after) (drop step.used (drop start bytes))) in
    let used : step.used ≤ length (drop start bytes) = st.used.1 in
    let order : step.skipped ≤ step.used = st.used.0 in
    record { within = omega arith; begun_is = omega arith; room = omega arith; order = order }

pub skips_at : (x a bytes : List ℕ) (start used k : ℕ) → Skips x (a ++ drop used (drop start bytes)) k → Skips x (a ++ drop (start + used) bytes) k
skips_at x a bytes start used k s = subst (λ (t : List ℕ). Skips x (a ++ t) k) (drop-drop used start bytes) s

pub whole_gave : (start count : ℕ) (before : List (List ℕ)) (bytes : List ℕ) (step : Step) (after : List (List ℕ)) (old new : DecoderView) → Stepped count before (drop start bytes) step after → step.end ≡ ends.Whole
    → old.held ≡ begun count before ++ drop start bytes → new.held ≡ drop (start + step.used) bytes → Gave old new after
whole_gave start count before bytes step after old new st whole o n =
    let full : length after ≡ step.count = rw whole at st.end_is in
    let pos : 0 < step.count = st.some whole in
    let text : begun step.count after ≡ request after = begun_whole step.count after pos full in
    let s : Skips (begun count before ++ drop start bytes) (begun step.count after ++ drop (start + step.used) bytes) step.skipped = skips_at _ (begun step.count after) bytes start step.used step.skipped st.text in
    let s' : Skips (begun count before ++ drop start bytes) (request after ++ drop (start + step.used) bytes) step.skipped = subst (λ (t : List ℕ). Skips (begun count before ++ drop start bytes) (t ++ drop (start + step.used) bytes) step.skipped) text s in
    let s'' : Skips old.held (request after ++ new.held) step.skipped = rw (o, n) s' in
    gave_from old new after step.skipped s'' (record { some = omega arith; few = omega (arith, st.within); each = st.each })

pub stopped_text : (start count : ℕ) (before : List (List ℕ)) (bytes : List ℕ) (step : Step) (after : List (List ℕ)) (old new : DecoderView) → Stepped count before (drop start bytes) step after
    → old.held ≡ begun count before ++ drop start bytes → new.held ≡ begun step.count after ++ drop (start + step.used) bytes → Skips old.held new.held step.skipped
stopped_text start count before bytes step after old new st o n = rw (o, n) (skips_at _ (begun step.count after) bytes start step.used step.skipped st.text)

pub stopped_item : (start count : ℕ) (before : List (List ℕ)) (bytes : List ℕ) (step : Step) (after : List (List ℕ)) (new : DecoderView) (stop : Stop) → Stepped count before (drop start bytes) step after → step.end ≡ ends.Stopped stop
    → new.held ≡ begun step.count after ++ drop (start + step.used) bytes → item_at new.held ≡ Err stop
stopped_item start count before bytes step after new stop st e n =
    let end : item_at (begun step.count after ++ drop step.used (drop start bytes)) ≡ Err stop = rw e at st.end_is in
    rw n (subst (λ (t : List ℕ). item_at (begun step.count after ++ t) ≡ Err stop) (drop-drop step.used start bytes) end)

pub stepped : (count : ℕ) (before : List (List ℕ)) (unread bytes : List ℕ) → unread ≡ bytes → (step : Step) (after : List (List ℕ)) (end : End) → step.end ≡ end → (end ≡ ends.Memory → ⊥) → Steps count before unread step after → Stepped count before bytes step after
stepped count before unread bytes same step after end is some h = go end some (subst (λ (e : End). StepEnd e (after ≡ before) (Stepped count before bytes step after)) is (subst (λ (t : List ℕ). Steps count before t step after) same h))
  where
    go : (end : End) → (end ≡ ends.Memory → ⊥) → StepEnd end (after ≡ before) (Stepped count before bytes step after) → Stepped count before bytes step after
    go ends.Whole some h = h
    go ends.Memory some h = absurd (some refl)
    go (ends.Stopped stop) some h = h

-- the same of a decoder's fields, after a step over what it had not read
pub numbers_of : {A : Type 0} (d : Inside A) (unread : List ℕ) → unread ≡ drop d.start d.bytes.items → (step : Step) (after : List (List ℕ)) (end : End) → step.end ≡ end → (end ≡ ends.Memory → ⊥) → Steps d.count d.arguments.items unread step after
    → IsSound d → Numbers d.start d.begun d.taken d.bytes.items step after
numbers_of d unread same step after end is some h sound =
    numbers_after d.start d.begun d.taken d.count d.arguments.items d.bytes.items step after sound.start sound.begun_is sound.room (stepped d.count d.arguments.items unread (drop d.start d.bytes.items) same step after end is some h)

-- what is held and what was taken come to as much after a step as before
pub whole_count : {A : Type 0} (d : Inside A) (step : Step) (after : List (List ℕ)) (old : DecoderView) → IsSound d → Numbers d.start d.begun d.taken d.bytes.items step after → old ≡ wire_of d
    → (d.taken + (d.begun + step.used)) + length (drop (d.start + step.used) d.bytes.items) ≡ old.taken + length old.held
whole_count d step after old sound n o =
    let before = begun d.count d.arguments.items in
    let held : length old.held ≡ length before + length (drop d.start d.bytes.items) = ap (λ (w : DecoderView). length w.held) o ∙ length-append before (drop d.start d.bytes.items) in
    let same : old.taken ≡ d.taken = ap (λ (w : DecoderView). w.taken) o in
    let left = length-drop d.start d.bytes.items in
    let last = length-drop (d.start + step.used) d.bytes.items in
    omega (arith, n.within, sound.begun_is, sound.start)

pub stopped_count : {A : Type 0} (d : Inside A) (step : Step) (after : List (List ℕ)) (old : DecoderView) → IsSound d → Numbers d.start d.begun d.taken d.bytes.items step after → old ≡ wire_of d
    → (d.taken + step.skipped) + length (begun step.count after ++ drop (d.start + step.used) d.bytes.items) ≡ old.taken + length old.held
stopped_count d step after old sound n o =
    let before = begun d.count d.arguments.items in
    let held : length old.held ≡ length before + length (drop d.start d.bytes.items) = ap (λ (w : DecoderView). length w.held) o ∙ length-append before (drop d.start d.bytes.items) in
    let same : old.taken ≡ d.taken = ap (λ (w : DecoderView). w.taken) o in
    let kept = length-append (begun step.count after) (drop (d.start + step.used) d.bytes.items) in
    let left = length-drop d.start d.bytes.items in
    let last = length-drop (d.start + step.used) d.bytes.items in
    omega (arith, n.within, n.begun_is, n.order, sound.begun_is, sound.start)

-- of no fault everything is so
pub some_at : (P : ProtocolFault → Type 0) (f : Option ProtocolFault) → f ≡ None → IfSome f P
some_at P None e = tt
some_at P (Some f) e = absurd cc

pub none_is : {P : Type 0} (f : Option ProtocolFault) → P → IfNone f P
none_is None p = p
none_is (Some f) p = tt

pub none_at : {P : Type 0} (f : Option ProtocolFault) → f ≡ None → IfNone f P → P
none_at None e p = p
none_at (Some f) e p = absurd cc

-- what a call that gave a request says
pub gave_at : (old new : DecoderView) (given : Option (List (List ℕ))) (arguments : List (List ℕ)) → old.fault ≡ None → given ≡ Some arguments → IfNone old.fault (Nexts old (Ok given) new) → Gave old new arguments × (new.fault ≡ None)
gave_at old new given arguments none is h = subst (λ (o : Option (List (List ℕ))). Nexts old (Ok o) new) is (none_at old.fault none h)
