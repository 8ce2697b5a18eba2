-- How a session goes on from turn to turn, where a part of what was read is answered in each.
use Rattle.std.proofs.Common.{◌≡◌, ℕ, ◌+◌, List, [], ◌++◌, length, refl, sym, ◌∙◌, ap, subst, arith, append_assoc, length-append, Result, Option, None, Err}
use Rattle.std.proofs.lemmas.List.{append-nil}
use Rattle.std.specs.Io.KnownBytes.{append_known, prepend_known}
use Rattle.resp_wire.specs.declared.fault.ProtocolFault.{ProtocolFault}
use Rattle.resp_wire.specs.Stream.{requests, rest, fault}
use Rattle.resp_wire.specs.DecoderView.{DecoderView}
use Rattle.resp_wire.specs.Response.{Response}
use Rattle.zset_commands.specs.AbstractCommand.{Asked}
use Rattle.zset_commands.specs.declared.refusal.Refusal.{Refusal}
use Rattle.session_core.specs.declared.session_end.SessionFault.{SessionFault}
use Rattle.session_core.specs.declared.session_end.SessionFault.TheVariants.{ReadFault, TooManyReads}
use Rattle.session_core.specs.declared.resumable_session.Progress.{Progress}
use Rattle.session_core.specs.Exchange.{Exchanges, texts}
use Rattle.session_core.specs.SessionEnd.{SessionEnds, Served}
use Rattle.session_core.specs.ServeSteps.{fed, Answered, Halfway, Halted, SessionUnderway}
use Rattle.session_core.specs.Interleaved.{PartWay}
use Rattle.resp_wire.proofs.CallerLemmas.{append_known-append_known, prepend_known-prepend_known}
use Rattle.session_core.proofs.ExchangeLemmas.{texts-append, ends_after}

module _ {S : Type 0} (talk : S → List (List (List ℕ)) → List Response → S → Type 0) (start : S) (source₀ drain₀ source₁ source₂ drain₁ : Option (List ℕ)) (here : S) (wire : DecoderView) (progress : Progress) (way : SessionUnderway talk start source₀ source₁ drain₀ drain₁ here wire progress) where
  -- a piece was read
  pub reads : (piece : List ℕ) → source₁ ≡ prepend_known piece source₂ → ((a b : List ℕ) → requests (a ++ b) ≡ requests a ++ requests (rest a ++ b)) → ((a b : List ℕ) → rest (a ++ b) ≡ rest (rest a ++ b)) → ((a b : List ℕ) → fault (a ++ b) ≡ fault (rest a ++ b))
      → PartWay talk start source₀ source₂ drain₀ drain₁ here (fed wire piece) progress
  reads piece given requests_cut rest_cut fault_cut = record {
    read = way.read ++ piece;
    written = way.written;
    given = requests way.read;
    read_is = way.read_is ∙ ap (prepend_known way.read) given ∙ prepend_known-prepend_known way.read piece source₂;
    written_is = way.written_is;
    replied = way.replied;
    requests_are = requests_cut way.read piece ∙ ap (λ (h : List ℕ). requests way.read ++ requests (h ++ piece)) (sym way.held_is);
    rest_is = rest_cut way.read piece ∙ ap (λ (h : List ℕ). rest (h ++ piece)) (sym way.held_is);
    fault_is = fault_cut way.read piece ∙ ap (λ (h : List ℕ). fault (h ++ piece)) (sym way.held_is);
    unfaulted = refl;
    out_is = way.out_is;
    count_is = way.count_is;
  }

  -- no more is read
  pub breaks : source₁ ≡ prepend_known [] source₂ → Served talk start source₀ source₂ drain₀ drain₁ (Err ReadFault) here × Served talk start source₀ source₂ drain₀ drain₁ (Err TooManyReads) here
  breaks given =
      let read_is = way.read_is ∙ ap (prepend_known way.read) given ∙ prepend_known-prepend_known way.read [] source₂ ∙ ap (λ (l : List ℕ). prepend_known l source₂) (append-nil way.read) in (
        record { read = way.read; written = way.written; read_is = read_is; written_is = way.written_is; at_end = tt; line = (way.replied, way.fault_is) },
        record { read = way.read; written = way.written; read_is = read_is; written_is = way.written_is; at_end = tt; line = (way.replied, way.fault_is) },
      )

-- exchanges follow what was said
module _ {S : Type 0} (allows : S → Asked → Result Response Refusal → S → Type 0) (talk : S → List (List (List ℕ)) → List Response → S → Type 0) (append : (s m t : S) (qs : List (List (List ℕ))) (rs : List Response) (more : List (List (List ℕ))) (others : List Response) → talk s qs rs m → Exchanges allows m more others t → talk s (qs ++ more) (rs ++ others) t)
    (start : S) (source₀ drain₀ source₁ drain₁ : Option (List ℕ)) (here : S) (wire : DecoderView) (progress : Progress) (part : PartWay talk start source₀ source₁ drain₀ drain₁ here wire progress) where
  -- all that was left is answered
  pub answered : (there : S) (new : DecoderView) (after : Progress) (drain₂ : Option (List ℕ)) → Answered allows here wire progress drain₁ there new after drain₂ → SessionUnderway talk start source₀ source₁ drain₀ drain₂ there new after
  answered there new after drain₂ a = record {
    read = part.read;
    written = part.written ++ a.written;
    read_is = part.read_is;
    written_is = a.told_is ∙ ap (λ (k : Option (List ℕ)). append_known k a.written) part.written_is ∙ append_known-append_known drain₀ part.written a.written;
    replied = record {
      replies = part.replied.replies ++ a.replied.replies;
      exchanges = subst (λ (l : List (List (List ℕ))). talk start l (part.replied.replies ++ a.replied.replies) there) (sym part.requests_are) (append start here there part.given part.replied.replies (requests wire.held) a.replied.replies part.replied.exchanges a.replied.exchanges);
      written_is = ap (λ (t : List ℕ). t ++ a.written) part.replied.written_is ∙ ap (λ (t : List ℕ). texts part.replied.replies ++ t) a.replied.written_is ∙ sym (texts-append part.replied.replies a.replied.replies);
    };
    held_is = a.held_is ∙ sym part.rest_is;
    fault_is = part.fault_is ∙ a.fault_is;
    unfaulted = a.unfaulted;
    out_is = omega (arith, a.out_is, part.out_is, length-append part.written a.written);
    count_is = omega (arith, a.count_is, part.count_is, ap length part.requests_are, length-append part.given (requests wire.held));
  }

  -- some more is answered
  pub halfway : (there : S) (new : DecoderView) (after : Progress) (drain₂ : Option (List ℕ)) → Halfway allows here wire progress drain₁ there new after drain₂ → PartWay talk start source₀ source₁ drain₀ drain₂ there new after
  halfway there new after drain₂ h = record {
    read = part.read;
    written = part.written ++ texts h.replies;
    given = part.given ++ h.given;
    read_is = part.read_is;
    written_is = h.told_is ∙ ap (λ (k : Option (List ℕ)). append_known k (texts h.replies)) part.written_is ∙ append_known-append_known drain₀ part.written (texts h.replies);
    replied = record {
      replies = part.replied.replies ++ h.replies;
      exchanges = append start here there part.given part.replied.replies h.given h.replies part.replied.exchanges h.exchanges;
      written_is = ap (λ (t : List ℕ). t ++ texts h.replies) part.replied.written_is ∙ sym (texts-append part.replied.replies h.replies);
    };
    requests_are = part.requests_are ∙ ap (λ (l : List (List (List ℕ))). part.given ++ l) h.requests_are ∙ sym (append_assoc part.given h.given (requests new.held));
    rest_is = part.rest_is ∙ h.rest_is;
    fault_is = part.fault_is ∙ h.fault_is;
    unfaulted = h.unfaulted;
    out_is = omega (arith, h.out_is, part.out_is, length-append part.written (texts h.replies));
    count_is = omega (arith, h.count_is, part.count_is, length-append part.given h.given);
  }

  -- the session ended at what was left
  pub halted : (there : S) (end : SessionFault) (drain₂ : Option (List ℕ)) → Halted allows here (requests wire.held) (fault wire.held) progress.out drain₁ end there drain₂ → Served talk start source₀ source₁ drain₀ drain₂ (Err end) there
  halted there end drain₂ h =
      let out : progress.out ≡ 0 + length (texts part.replied.replies) = omega (arith, part.out_is, ap length part.replied.written_is) in
      let counted = subst (λ (n : ℕ). SessionEnds (Exchanges allows) here (requests wire.held) (fault wire.held) n end h.written there) out h.ends in
      let all = ends_after allows talk append start here there part.given part.replied.replies part.replied.exchanges (requests wire.held) (fault wire.held) 0 end h.written counted in
      record {
        read = part.read;
        written = texts part.replied.replies ++ h.written;
        read_is = part.read_is;
        written_is = h.told_is ∙ ap (λ (k : Option (List ℕ)). append_known k h.written) part.written_is ∙ append_known-append_known drain₀ part.written h.written ∙ ap (λ (t : List ℕ). append_known drain₀ (t ++ h.written)) part.replied.written_is;
        at_end = tt;
        line = subst (λ (f : Option ProtocolFault). SessionEnds talk start (requests part.read) f 0 end (texts part.replied.replies ++ h.written) there) (sym part.fault_is) (subst (λ (l : List (List (List ℕ))). SessionEnds talk start l (fault wire.held) 0 end (texts part.replied.replies ++ h.written) there) (sym part.requests_are) all);
      }
