-- How a session goes on whose log is synced between its exchanges.
use Rattle.std.proofs.Common.{◌≡◌, ℕ, ◌+◌, List, [], ◌∷◌, ◌++◌, length, refl, sym, ap, ◌∙◌, subst, arith, Result, Option, Some, None, Ok, Err, MatchResult, inl}
use Rattle.std.specs.Io.KnownBytes.{append_known, prepend_known, IsAtEnd}
use Rattle.resp_wire.specs.declared.fault.ProtocolFault.{ProtocolFault}
use Rattle.resp_wire.specs.Stream.{requests, rest, fault}
use Rattle.resp_wire.specs.DecoderView.{DecoderView}
use Rattle.resp_wire.specs.Response.{Response}
use Rattle.append_log.specs.LoggedOwnerViewAndRuns.{LoggedView}
use Rattle.session_core.specs.declared.session_end.Ended.{Ended}
use Rattle.session_core.specs.declared.session_end.SessionFault.{SessionFault}
use Rattle.session_core.specs.declared.session_end.SessionFault.TheVariants.{NoMemory, ReadFault, WriteFault, Wire, TooManyReads}
use Rattle.session_core.specs.declared.resumable_session.Progress.{Progress}
use Rattle.append_log.specs.LoggedAnswers.{LoggedAnswers}
use Rattle.session_core.specs.Exchange.{Exchanges}
use Rattle.session_core.specs.SessionEnd.{Served}
use Rattle.session_core.specs.SendOutcome.{DrainFailed, SessionSourceFailed, SentOn}
use Rattle.session_core.specs.ServeSteps.{IsBetween, SessionUnderway, Answered, Halfway, Halted, fed}
use Rattle.session_core.specs.Interleaved.{PartWay}
use Rattle.held_replies.specs.OwnerSync.{IsSynced}
use Rattle.lone_sessions.specs.ExchangesBetweenSyncs.{IsAt, IsPast, TalkBetweenSyncs}
use Rattle.resp_wire.proofs.CallerLemmas.{prepend_known-nil}
use Rattle.session_core.proofs.HeldRequests.{halted_unfed}
use Rattle.session_core.proofs.ServeProgress as serves
use Rattle.session_core.proofs.TurnProgress as turns
use Rattle.session_core.proofs.Interleaving.{talk-on, moved-last, still, still_part, still_ended}
use Rattle.held_replies.proofs.SyncedLemmas.{synced-refl, synced-trans}

on : (s m t : LoggedView) (qs : List (List (List ℕ))) (rs : List Response) (more : List (List (List ℕ))) (others : List Response) → TalkBetweenSyncs s qs rs m → Exchanges LoggedAnswers m more others t → TalkBetweenSyncs s (qs ++ more) (rs ++ others) t
on = talk-on LoggedAnswers IsSynced synced-refl synced-trans

module _ (start : LoggedView) (source₀ drain₀ : Option (List ℕ)) where
  pub begins : SessionUnderway TalkBetweenSyncs start source₀ source₀ drain₀ drain₀ start (record { held = []; taken = 0; fault = None }) (record { requests = 0; out = 0 })
  begins = serves.begins LoggedAnswers TalkBetweenSyncs synced-refl on start source₀ drain₀

  pub unserved : Served TalkBetweenSyncs start source₀ source₀ drain₀ drain₀ (Err NoMemory) start
  unserved = serves.unserved LoggedAnswers TalkBetweenSyncs synced-refl on start source₀ drain₀

  -- the log was synced, and the session is under way or has ended as before
  module _ (source₁ drain₁ drain₂ : Option (List ℕ)) (here there : LoggedView) (synced : IsSynced here there) (same : drain₂ ≡ drain₁) where
    pub synced_way : (wire : DecoderView) (progress : Progress) → SessionUnderway TalkBetweenSyncs start source₀ source₁ drain₀ drain₁ here wire progress → SessionUnderway TalkBetweenSyncs start source₀ source₁ drain₀ drain₂ there wire progress
    synced_way wire progress way =
        let P : Option (List ℕ) → Type 0 = λ d. SessionUnderway TalkBetweenSyncs start source₀ source₁ drain₀ d there wire progress in
        subst P (sym same) (still LoggedAnswers IsSynced synced-refl synced-trans start source₀ source₁ drain₀ drain₁ here there wire progress way synced)

    pub synced_part : (wire : DecoderView) (progress : Progress) → PartWay TalkBetweenSyncs start source₀ source₁ drain₀ drain₁ here wire progress → PartWay TalkBetweenSyncs start source₀ source₁ drain₀ drain₂ there wire progress
    synced_part wire progress part =
        let P : Option (List ℕ) → Type 0 = λ d. PartWay TalkBetweenSyncs start source₀ source₁ drain₀ d there wire progress in
        subst P (sym same) (still_part LoggedAnswers IsSynced synced-refl synced-trans start here there source₀ source₁ drain₀ drain₁ wire progress part synced)

    pub synced_end : (result : Result Ended SessionFault) → Served TalkBetweenSyncs start source₀ source₁ drain₀ drain₁ result here → Served TalkBetweenSyncs start source₀ source₁ drain₀ drain₂ result there
    synced_end result served =
        let P : Option (List ℕ) → Type 0 = λ d. Served TalkBetweenSyncs start source₀ source₁ drain₀ d result there in
        subst P (sym same) (still_ended LoggedAnswers IsSynced synced-refl synced-trans start here there synced source₀ source₁ drain₀ drain₁ result served)

    -- what is held can't be let go
    pub unsent_part : (wire : DecoderView) (progress : Progress) → PartWay TalkBetweenSyncs start source₀ source₁ drain₀ drain₁ here wire progress → Served TalkBetweenSyncs start source₀ source₁ drain₀ drain₂ (Err (WriteFault progress.out)) there
    unsent_part wire progress part = record {
      read = part.read;
      written = part.written;
      read_is = part.read_is;
      written_is = same ∙ part.written_is;
      at_end = tt;
      line = (
        omega (arith, part.out_is),
        inl (record {
          run = part.given;
          left = requests wire.held;
          asked_is = part.requests_are;
          replies = part.replied.replies;
          exchanges = moved-last LoggedAnswers IsSynced synced-refl synced-trans start here there part.given part.replied.replies part.replied.exchanges synced;
          cut = inl part.replied.written_is;
        }),
      );
    }

    pub unsent_way : (wire : DecoderView) (progress : Progress) → SessionUnderway TalkBetweenSyncs start source₀ source₁ drain₀ drain₁ here wire progress → Served TalkBetweenSyncs start source₀ source₁ drain₀ drain₂ (Err (WriteFault progress.out)) there
    unsent_way wire progress way = synced_end (Err (WriteFault progress.out)) (serves.last_flush_fails LoggedAnswers TalkBetweenSyncs synced-refl on start source₀ drain₀ source₁ drain₁ here wire progress way drain₁ refl (Err (WriteFault progress.out)) refl)

  -- a turn
  module _ (source₁ drain₁ : Option (List ℕ)) (here : LoggedView) (wire : DecoderView) (progress : Progress) (part : PartWay TalkBetweenSyncs start source₀ source₁ drain₀ drain₁ here wire progress) (there : LoggedView) (drain₂ : Option (List ℕ)) where
    pub answered : (new : DecoderView) (after : Progress) → Answered LoggedAnswers here wire progress drain₁ there new after drain₂ → SessionUnderway TalkBetweenSyncs start source₀ source₁ drain₀ drain₂ there new after
    answered new after a = turns.answered LoggedAnswers TalkBetweenSyncs on start source₀ drain₀ source₁ drain₁ here wire progress part there new after drain₂ a

    pub halfway : (new : DecoderView) (after : Progress) → Halfway LoggedAnswers here wire progress drain₁ there new after drain₂ → PartWay TalkBetweenSyncs start source₀ source₁ drain₀ drain₂ there new after
    halfway new after h = turns.halfway LoggedAnswers TalkBetweenSyncs on start source₀ drain₀ source₁ drain₁ here wire progress part there new after drain₂ h

    pub halted : (end : SessionFault) → Halted LoggedAnswers here (requests wire.held) (fault wire.held) progress.out drain₁ end there drain₂ → Served TalkBetweenSyncs start source₀ source₁ drain₀ drain₂ (Err end) there
    halted end h = turns.halted LoggedAnswers TalkBetweenSyncs on start source₀ drain₀ source₁ drain₁ here wire progress part there end drain₂ h

  -- the source may be read no more
  pub read_out : (source₁ drain₁ : Option (List ℕ)) (here : LoggedView) (wire : DecoderView) (progress : Progress) → SessionUnderway TalkBetweenSyncs start source₀ source₁ drain₀ drain₁ here wire progress → Served TalkBetweenSyncs start source₀ source₁ drain₀ drain₁ (Err TooManyReads) here
  read_out source₁ drain₁ here wire progress way = (turns.breaks TalkBetweenSyncs start source₀ drain₀ source₁ source₁ drain₁ here wire progress way (prepend_known-nil source₁)).1

  -- a read
  module _ (source₁ source₂ drain₁ : Option (List ℕ)) (here : LoggedView) (wire : DecoderView) (progress : Progress) (way : SessionUnderway TalkBetweenSyncs start source₀ source₁ drain₀ drain₁ here wire progress) where
    pub read_fails : source₁ ≡ prepend_known [] source₂ → Served TalkBetweenSyncs start source₀ source₂ drain₀ drain₁ (Err ReadFault) here
    read_fails given = (turns.breaks TalkBetweenSyncs start source₀ drain₀ source₁ source₂ drain₁ here wire progress way given).0

    pub read_ends : (ended : Ended) → source₁ ≡ prepend_known [] source₂ → IsAtEnd source₂ → ended.requests ≡ progress.requests → ended.rest ≡ length wire.held → Served TalkBetweenSyncs start source₀ source₂ drain₀ drain₁ (Ok ended) here
    read_ends ended given at_end count left = serves.finishes LoggedAnswers TalkBetweenSyncs synced-refl on start source₀ drain₀ source₁ drain₁ here wire progress way drain₁ refl source₂ here ended
        (record { read_is = given; at_end = at_end; told_is = refl; stays = refl; requests_are = count; rest_is = left })

    module _ (requests_cut : (a b : List ℕ) → requests (a ++ b) ≡ requests a ++ requests (rest a ++ b)) (rest_cut : (a b : List ℕ) → rest (a ++ b) ≡ rest (rest a ++ b)) (fault_cut : (a b : List ℕ) → fault (a ++ b) ≡ fault (rest a ++ b)) (piece : List ℕ) (given : source₁ ≡ prepend_known piece source₂) where
      pub read_piece : PartWay TalkBetweenSyncs start source₀ source₂ drain₀ drain₁ here (fed wire piece) progress
      read_piece = turns.reads TalkBetweenSyncs start source₀ drain₀ source₁ source₂ drain₁ here wire progress way piece given requests_cut rest_cut fault_cut

      pub read_unfed : Served TalkBetweenSyncs start source₀ source₂ drain₀ drain₁ (Err NoMemory) here
      read_unfed = turns.halted LoggedAnswers TalkBetweenSyncs on start source₀ drain₀ source₂ drain₁ here (fed wire piece) progress read_piece here NoMemory drain₁
          (halted_unfed LoggedAnswers here (requests (wire.held ++ piece)) (fault (wire.held ++ piece)) progress.out drain₁)

-- a fault that is handed on
module _ (start : LoggedView) (source₀ source₁ drain₀ drain₁ : Option (List ℕ)) (here : LoggedView) (wire : DecoderView) (progress : Progress) (end : SessionFault) (served : Served TalkBetweenSyncs start source₀ source₁ drain₀ drain₁ (Err end) here) where
  pub past_fault : (result : Result Unit SessionFault) → result ≡ Err end → IsPast start source₀ source₁ drain₀ drain₁ result here wire progress
  past_fault result is = let P : Result Unit SessionFault → Type 0 = λ r. IsPast start source₀ source₁ drain₀ drain₁ r here wire progress in subst P (sym is) served

  pub at_fault : (result : Result (Option Ended) SessionFault) → result ≡ Err end → IsAt start source₀ source₁ drain₀ drain₁ result here wire progress
  at_fault result is = let P : Result (Option Ended) SessionFault → Type 0 = λ r. IsAt start source₀ source₁ drain₀ drain₁ r here wire progress in subst P (sym is) served

-- a fault between two reads is none of the source's
unread_good : (end : SessionFault) (old new : ℕ) → IsBetween end → new ≡ old → SessionSourceFailed end old new
unread_good NoMemory old new between same = same
unread_good ReadFault old new between same = absurd between
unread_good (WriteFault out) old new between same = same
unread_good (Wire told) old new between same = same
unread_good TooManyReads old new between same = absurd between

pub unread : (result : Result (Option Ended) SessionFault) (end : SessionFault) (old new : ℕ) → result ≡ Err end → IsBetween end → new ≡ old → MatchResult result (λ next. new ≡ old) (λ fault. SessionSourceFailed fault old new)
unread result end old new is between same =
    let P : Result (Option Ended) SessionFault → Type 0 = λ r. MatchResult r (λ next. new ≡ old) (λ fault. SessionSourceFailed fault old new) in
    subst P (sym is) (unread_good end old new between same)

-- all was sent on, where a session ends so
pub sent_so : (end : SessionFault) (told flushed : Option (List ℕ)) → IsBetween end → ((fault : ProtocolFault) → end ≡ Wire fault → ⊥) → SentOn end told flushed
sent_so NoMemory told flushed between other = tt
sent_so ReadFault told flushed between other = absurd between
sent_so (WriteFault out) told flushed between other = tt
sent_so (Wire fault) told flushed between other = absurd (other fault refl)
sent_so TooManyReads told flushed between other = absurd between

-- how a session ends, by a fault that is handed on
module _ (start : LoggedView) (source₀ source₁ drain₀ drain₁ : Option (List ℕ)) (here : LoggedView) (result : Result Ended SessionFault) (end : SessionFault) (is : result ≡ Err end) where
  pub ends_fault : Served TalkBetweenSyncs start source₀ source₁ drain₀ drain₁ (Err end) here → Served TalkBetweenSyncs start source₀ source₁ drain₀ drain₁ result here
  ends_fault served = let P : Result Ended SessionFault → Type 0 = λ r. Served TalkBetweenSyncs start source₀ source₁ drain₀ drain₁ r here in subst P (sym is) served

pub unsent : (result : Result Ended SessionFault) (end : SessionFault) → result ≡ Err end → (begun old new : ℕ) → old ≡ begun → DrainFailed end old new → MatchResult result (λ ended. new ≡ begun) (λ fault. DrainFailed fault begun new)
unsent result end is begun old new same failed =
    let P : Result Ended SessionFault → Type 0 = λ r. MatchResult r (λ ended. new ≡ begun) (λ fault. DrainFailed fault begun new) in
    let Q : ℕ → Type 0 = λ n. DrainFailed end n new in
    subst P (sym is) (subst Q same failed)

fault_in : Result Ended SessionFault → SessionFault
fault_in (Ok ended) = NoMemory
fault_in (Err end) = end

pub not_many : (read : Result (Option Ended) SessionFault) (result : Result Ended SessionFault) (end : SessionFault) → read ≡ Err end → result ≡ Err end → (read ≡ Err TooManyReads → ⊥) → result ≡ Err TooManyReads → ⊥
unfolding fault_in
not_many read result end read_is is not many = not (read_is ∙ ap Err (ap fault_in (sym is ∙ many)))
