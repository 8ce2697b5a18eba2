-- What a decoder holds, and what its answers say.
use Rattle.std.specs.Prelude.{◌≡◌, ℕ, zero, suc, List, [], ◌∷◌, ◌++◌, Option, Some, None, Result, Ok, Err}
use Rattle.std.specs.List.{flat_map, AllByRecursion}
use Rattle.resp_wire.specs.declared.fault.ProtocolFault.{ProtocolFault}
use Rattle.resp_wire.specs.declared.fault.WireFault.{WireFault}
use Rattle.resp_wire.specs.declared.fault.WireFault.TheVariants.{NoMemory, Protocol}
use Rattle.resp_messages.specs.RequestEncoding.{line, argument, request, Item, Ask, IsSkip, encoding_of}
use Rattle.resp_wire.specs.Stream.{items, requests, rest, fault}

-- the bytes that are held, how many were given as requests or skipped before them, and the fault that was
-- answered, which is answered for good
pub record DecoderView : Type 0 where
  pub held : List ℕ
  pub taken : ℕ
  pub fault : Option ProtocolFault

-- the text of a request of n arguments of which these are there; no request has begun where n is 0
abbrev pub begun : ℕ → List (List ℕ) → List ℕ
begun zero arguments = []
begun (suc n) arguments = 42 ∷ (line (suc n) ++ flat_map argument arguments)

-- the first request of the held bytes was given, and they were taken off up to its end
pub record Gave (old new : DecoderView) (arguments : List (List ℕ)) : Type 0 where
  pub skips : List Item
  pub skipped : AllByRecursion IsSkip skips
  pub text : old.held ≡ flat_map encoding_of skips ++ (request arguments ++ new.held)
  pub first : items old.held ≡ skips ++ Ask arguments ∷ items new.held
  pub requests_are : requests old.held ≡ arguments ∷ requests new.held
  pub rest_is : rest old.held ≡ rest new.held
  pub fault_is : fault old.held ≡ fault new.held

-- no request is whole: the skips were taken off
pub record Waits (old new : DecoderView) : Type 0 where
  pub none : requests old.held ≡ []
  pub held_is : new.held ≡ rest old.held

-- out of memory: nothing moved; at a fault of the protocol the skips were taken off
abbrev pub Stops : DecoderView → WireFault → DecoderView → Type 0
Stops old NoMemory new = new ≡ old
Stops old (Protocol f) new = Waits old new × (fault old.held ≡ Some f) × (new.fault ≡ Some f)

-- the next request was asked for, where no fault was answered before
abbrev pub Nexts : DecoderView → Result (Option (List (List ℕ))) WireFault → DecoderView → Type 0
Nexts old (Ok (Some arguments)) new = Gave old new arguments × (new.fault ≡ None)
Nexts old (Ok None) new = Waits old new × (fault old.held ≡ None) × (new.fault ≡ None)
Nexts old (Err f) new = Stops old f new
