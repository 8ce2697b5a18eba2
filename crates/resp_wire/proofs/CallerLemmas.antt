-- What callers cite: what a decoder that answered no fault answers next, and an error that is handed on; and those of
-- the devices, on how known bytes go together.
use Rattle.std.proofs.Common.{◌≡◌, ℕ, List, subst, ap, Option, None, Some, Result, Ok, Err}
use Rattle.std.specs.Prelude.{IfNone, IsErrAnd}
pub use Rattle.byte_devices.proofs.CallerLemmas.{append_known-append_known, append_known-nil, prepend_known-prepend_known, prepend_known-nil, write_more}
use Rattle.resp_wire.specs.declared.fault.ProtocolFault.{ProtocolFault}
use Rattle.resp_wire.specs.declared.fault.WireFault.{WireFault}
use Rattle.resp_wire.specs.declared.fault.WireFault.TheVariants.{Protocol}
use Rattle.resp_wire.specs.Stream.{fault}
use Rattle.resp_wire.specs.DecoderView.{DecoderView, Gave, Waits, Stops, Nexts}

none_at : {X P : Type 0} (o : Option X) → o ≡ None → IfNone o P → P
none_at None e p = p
none_at (Some x) e p = absurd cc

module _ (old new : DecoderView) (unfaulted : old.fault ≡ None) where
  pub gave_at : (next : Option (List (List ℕ))) (arguments : List (List ℕ)) → next ≡ Some arguments → IfNone old.fault (Nexts old (Ok next) new) → Gave old new arguments × (new.fault ≡ None)
  gave_at next arguments is h = subst (λ (o : Option (List (List ℕ))). Nexts old (Ok o) new) is (none_at old.fault unfaulted h)

  pub waits_at : (next : Option (List (List ℕ))) → next ≡ None → IfNone old.fault (Nexts old (Ok next) new) → Waits old new × (fault old.held ≡ None) × (new.fault ≡ None)
  waits_at next is h = subst (λ (o : Option (List (List ℕ))). Nexts old (Ok o) new) is (none_at old.fault unfaulted h)

  pub stops_at : (told : WireFault) (f : ProtocolFault) → told ≡ Protocol f → IfNone old.fault (Nexts old (Err told) new) → Waits old new × (fault old.held ≡ Some f) × (new.fault ≡ Some f)
  stops_at told f is h = subst (λ (t : WireFault). Stops old t new) is (none_at old.fault unfaulted h)

-- an error that is handed on
pub err_is : {T E : Type 0} (result : Result T E) (end : E) → IsErrAnd result (λ e. e ≡ end) → result ≡ Err end
err_is (Ok value) end h = absurd h
err_is (Err e) end h = ap Err h
