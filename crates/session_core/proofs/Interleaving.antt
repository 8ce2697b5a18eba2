-- Sessions between whose exchanges the state goes on: others share the executor, or its log is synced. Each goes on as if it were
-- served alone.
use Rattle.std.proofs.Common.{◌≡◌, ℕ, List, [], ◌∷◌, ◌++◌, refl, sym, subst, Bool, true, false, Result, Option, Some, None, Ok, Err, MatchResult, ◌⊎◌, inl, inr}
use Rattle.std.specs.Io.KnownBytes.{prepend_known}
use Rattle.resp_wire.specs.declared.fault.ProtocolFault.{ProtocolFault}
use Rattle.resp_wire.specs.Stream.{requests, rest, fault}
use Rattle.resp_wire.specs.DecoderView.{DecoderView}
use Rattle.resp_wire.specs.Response.{Response}
use Rattle.zset_commands.specs.AbstractCommand.{Asked}
use Rattle.zset_commands.specs.declared.refusal.Refusal.{Refusal}
use Rattle.session_core.specs.declared.resumable_session.Progress.{Progress}
use Rattle.session_core.specs.declared.session_end.Ended.{Ended}
use Rattle.session_core.specs.declared.session_end.SessionFault.{SessionFault}
use Rattle.session_core.specs.declared.session_end.SessionFault.TheVariants.{NoMemory, ReadFault, WriteFault, Wire, TooManyReads}
use Rattle.session_core.specs.Exchange.{Exchanges}
use Rattle.session_core.specs.SessionEnd.{Replied, Broken, Finished, Served, SessionEnds}
use Rattle.session_core.specs.ServeSteps.{SessionUnderway, fed}
use Rattle.session_core.specs.Interleaved.{StateMoves, Talk, TalkBetween, Turn, Follows, PartWay, TakesTurns}
use Rattle.session_core.proofs.ExchangeLemmas.{exchanges-append}
use Rattle.session_core.proofs.HeldRequests.{halted_unfed}
use Rattle.session_core.proofs.ServeProgress.{begins, finishes}
use Rattle.session_core.proofs.TurnProgress.{reads, answered, halfway, halted, breaks}

-- what may go on between the exchanges of a session
module _ {S : Type 0} (allows : S → Asked → Result Response Refusal → S → Type 0) (between : S → S → Type 0) (refl_at : (s : S) → between s s) (trans : (a b c : S) → between a b → between b c → between a c) where
  -- the state went on first
  moved-first : (s m t : S) (qs : List (List (List ℕ))) (rs : List Response) → between s m → TalkBetween allows between m qs rs t → TalkBetween allows between s qs rs t
  moved-first s m t [] [] moves talk = trans s m t moves talk
  moved-first s m t (q ∷ qs) (r ∷ rs) moves (before, after, first, exchange, others) = (before, after, trans s m before moves first, exchange, others)
  moved-first s m t [] (r ∷ rs) moves talk = absurd talk
  moved-first s m t (q ∷ qs) [] moves talk = absurd talk

  -- the state went on last
  pub moved-last : (s m t : S) (qs : List (List (List ℕ))) (rs : List Response) → TalkBetween allows between s qs rs m → between m t → TalkBetween allows between s qs rs t
  moved-last s m t [] [] talk moves = trans s m t talk moves
  moved-last s m t (q ∷ qs) (r ∷ rs) (before, after, first, exchange, others) moves = (before, after, first, exchange, moved-last after m t qs rs others moves)
  moved-last s m t [] (r ∷ rs) talk moves = absurd talk
  moved-last s m t (q ∷ qs) [] talk moves = absurd talk

  talk-append : (s m t : S) (qs : List (List (List ℕ))) (rs : List Response) (more : List (List (List ℕ))) (others : List Response) → TalkBetween allows between s qs rs m → TalkBetween allows between m more others t → TalkBetween allows between s (qs ++ more) (rs ++ others) t
  talk-append s m t [] [] more others moves talk = moved-first s m t more others moves talk
  talk-append s m t (q ∷ qs) (r ∷ rs) more others (before, after, first, exchange, behind) talk = (before, after, first, exchange, talk-append after m t qs rs more others behind talk)
  talk-append s m t [] (r ∷ rs) more others none talk = absurd none
  talk-append s m t (q ∷ qs) [] more others none talk = absurd none

  -- exchanges with nothing between them
  undisturbed : (s t : S) (qs : List (List (List ℕ))) (rs : List Response) → Exchanges allows s qs rs t → TalkBetween allows between s qs rs t
  undisturbed s t [] [] same = subst (between s) (sym same) (refl_at s)
  undisturbed s t (q ∷ qs) (r ∷ rs) h = (s, h.0, refl_at s, h.1, undisturbed h.0 t qs rs h.2)
  undisturbed s t [] (r ∷ rs) h = absurd h
  undisturbed s t (q ∷ qs) [] h = absurd h

  pub talk-on : (s m t : S) (qs : List (List (List ℕ))) (rs : List Response) (more : List (List (List ℕ))) (others : List Response) → TalkBetween allows between s qs rs m → Exchanges allows m more others t → TalkBetween allows between s (qs ++ more) (rs ++ others) t
  talk-on s m t qs rs more others talk exchanges = talk-append s m t qs rs more others talk (undisturbed m t more others exchanges)

  -- the state went on, and the session is under way as before
  pub still : (start : S) (source₀ source₁ drain₀ drain₁ : Option (List ℕ)) (before here : S) (wire : DecoderView) (progress : Progress) → SessionUnderway (TalkBetween allows between) start source₀ source₁ drain₀ drain₁ before wire progress → between before here
      → SessionUnderway (TalkBetween allows between) start source₀ source₁ drain₀ drain₁ here wire progress
  still start source₀ source₁ drain₀ drain₁ before here wire progress way moves = record {
    read = way.read;
    written = way.written;
    read_is = way.read_is;
    written_is = way.written_is;
    replied = record {
      replies = way.replied.replies;
      exchanges = moved-last start before here (requests way.read) way.replied.replies way.replied.exchanges moves;
      written_is = way.replied.written_is;
    };
    held_is = way.held_is;
    fault_is = way.fault_is;
    unfaulted = way.unfaulted;
    out_is = way.out_is;
    count_is = way.count_is;
  }

  pub still_part : (start before here : S) (source₀ source₁ drain₀ drain₁ : Option (List ℕ)) (wire : DecoderView) (progress : Progress) → PartWay (TalkBetween allows between) start source₀ source₁ drain₀ drain₁ before wire progress → between before here
      → PartWay (TalkBetween allows between) start source₀ source₁ drain₀ drain₁ here wire progress
  still_part start before here source₀ source₁ drain₀ drain₁ wire progress part moves = record {
    read = part.read;
    written = part.written;
    given = part.given;
    read_is = part.read_is;
    written_is = part.written_is;
    replied = record {
      replies = part.replied.replies;
      exchanges = moved-last start before here part.given part.replied.replies part.replied.exchanges moves;
      written_is = part.replied.written_is;
    };
    requests_are = part.requests_are;
    rest_is = part.rest_is;
    fault_is = part.fault_is;
    unfaulted = part.unfaulted;
    out_is = part.out_is;
    count_is = part.count_is;
  }

  -- the state went on, and the session has ended as before
  module _ (start before here : S) (moves : between before here) where
    still_replied : (asked : List (List (List ℕ))) (written : List ℕ) → Replied (TalkBetween allows between) start asked written before → Replied (TalkBetween allows between) start asked written here
    still_replied asked written r = record { replies = r.replies; exchanges = moved-last start before here asked r.replies r.exchanges moves; written_is = r.written_is }

    still_broken : (kept : List Response → List ℕ → Type 0) (asked : List (List (List ℕ))) (written : List ℕ) → Broken (TalkBetween allows between) kept start asked written before → Broken (TalkBetween allows between) kept start asked written here
    still_broken kept asked written b = record {
      run = b.run;
      left = b.left;
      asked_is = b.asked_is;
      replies = b.replies;
      exchanges = moved-last start before here b.run b.replies b.exchanges moves;
      cut = b.cut;
    }

    still_faulted : (asked : List (List (List ℕ))) (behind : Option ProtocolFault) (so_far : ℕ) (end : SessionFault) (written : List ℕ) → SessionEnds (TalkBetween allows between) start asked behind so_far end written before → SessionEnds (TalkBetween allows between) start asked behind so_far end written here
    still_faulted asked behind so_far NoMemory written e = still_broken _ asked written e
    still_faulted asked behind so_far ReadFault written e = (still_replied asked written e.0, e.1)
    still_faulted asked behind so_far TooManyReads written e = (still_replied asked written e.0, e.1)
    still_faulted asked behind so_far (Wire told) written e = record {
      fault_is = e.fault_is;
      replies = e.replies;
      exchanges = moved-last start before here asked e.replies e.exchanges moves;
      written_is = e.written_is;
    }
    still_faulted asked behind so_far (WriteFault out) written (is, inl broken) = (is, inl (still_broken _ asked written broken))
    still_faulted asked behind so_far (WriteFault out) written (is, inr cut) = (
      is,
      inr (record {
        told = cut.told;
        fault_is = cut.fault_is;
        replies = cut.replies;
        exchanges = moved-last start before here asked cut.replies cut.exchanges moves;
        cut = cut.cut;
      }),
    )

    still_finished : (read : List ℕ) (ended : Ended) (written : List ℕ) → Finished (TalkBetween allows between) start read ended written before → Finished (TalkBetween allows between) start read ended written here
    still_finished read ended written f = record {
      replied = still_replied (requests read) written f.replied;
      unfaulted = f.unfaulted;
      requests_are = f.requests_are;
      rest_is = f.rest_is;
    }

    pub still_ended : (source₀ source₁ drain₀ drain₁ : Option (List ℕ)) (result : Result Ended SessionFault) → Served (TalkBetween allows between) start source₀ source₁ drain₀ drain₁ result before → Served (TalkBetween allows between) start source₀ source₁ drain₀ drain₁ result here
    still_ended source₀ source₁ drain₀ drain₁ result served = record {
      read = served.read;
      written = served.written;
      read_is = served.read_is;
      written_is = served.written_is;
      at_end = served.at_end;
      line = line result served.line;
    }
      where
        line : (result : Result Ended SessionFault)
            → MatchResult result (λ ended. Finished (TalkBetween allows between) start served.read ended served.written before) (λ end. SessionEnds (TalkBetween allows between) start (requests served.read) (fault served.read) 0 end served.written before)
            → MatchResult result (λ ended. Finished (TalkBetween allows between) start served.read ended served.written here) (λ end. SessionEnds (TalkBetween allows between) start (requests served.read) (fault served.read) 0 end served.written here)
        line (Ok ended) finished = still_finished served.read ended served.written finished
        line (Err end) ends = still_faulted (requests served.read) (fault served.read) 0 end served.written ends

module _ {S : Type 0} (allows : S → Asked → Result Response Refusal → S → Type 0) where
  pub moves-refl : (s : S) → StateMoves allows s s
  moves-refl s = record { requests = []; replies = []; exchanges = refl }

  pub moves-trans : (a b c : S) → StateMoves allows a b → StateMoves allows b c → StateMoves allows a c
  moves-trans a b c x y = record {
    requests = x.requests ++ y.requests;
    replies = x.replies ++ y.replies;
    exchanges = exchanges-append allows a b c x.requests x.replies y.requests y.replies x.exchanges y.exchanges;
  }

  moved_on : (s m t : S) (qs : List (List (List ℕ))) (rs : List Response) (more : List (List (List ℕ))) (others : List Response) → Talk allows s qs rs m → Exchanges allows m more others t → Talk allows s (qs ++ more) (rs ++ others) t
  moved_on = talk-on allows (StateMoves allows) moves-refl moves-trans

  module _ (start here there : S) (source₀ source₁ drain₀ drain₁ drain₂ : Option (List ℕ)) (wire new : DecoderView) (progress after : Progress) where
    follows : (result : Result Bool SessionFault) → PartWay (Talk allows) start source₀ source₁ drain₀ drain₁ here wire progress → Turn allows here wire progress drain₁ result there new after drain₂
        → Follows allows start source₀ source₁ drain₀ drain₂ result there new after
    follows (Ok true) part turn = answered allows (Talk allows) moved_on start source₀ drain₀ source₁ drain₁ here wire progress part there new after drain₂ turn
    follows (Ok false) part turn = halfway allows (Talk allows) moved_on start source₀ drain₀ source₁ drain₁ here wire progress part there new after drain₂ turn
    follows (Err end) part turn = halted allows (Talk allows) moved_on start source₀ drain₀ source₁ drain₁ here wire progress part there end drain₂ turn

  -- the requests of a turn are moves
  moved_to : (here there : S) (asked : List (List (List ℕ))) (behind : Option ProtocolFault) (before : ℕ) (end : SessionFault) (written : List ℕ) → SessionEnds (Exchanges allows) here asked behind before end written there → StateMoves allows here there
  moved_to here there asked behind before NoMemory written e = record { requests = e.run; replies = e.replies; exchanges = e.exchanges }
  moved_to here there asked behind before ReadFault written e = record { requests = asked; replies = e.0.replies; exchanges = e.0.exchanges }
  moved_to here there asked behind before (WriteFault out) written (is, inl broken) = record { requests = broken.run; replies = broken.replies; exchanges = broken.exchanges }
  moved_to here there asked behind before (WriteFault out) written (is, inr cut) = record { requests = asked; replies = cut.replies; exchanges = cut.exchanges }
  moved_to here there asked behind before (Wire told) written e = record { requests = asked; replies = e.replies; exchanges = e.exchanges }
  moved_to here there asked behind before TooManyReads written e = record { requests = asked; replies = e.0.replies; exchanges = e.0.exchanges }

  pub moved_by : (here there : S) (drain₁ drain₂ : Option (List ℕ)) (wire new : DecoderView) (progress after : Progress) (result : Result Bool SessionFault) → Turn allows here wire progress drain₁ result there new after drain₂ → StateMoves allows here there
  moved_by here there drain₁ drain₂ wire new progress after (Ok true) a = record { requests = requests wire.held; replies = a.replied.replies; exchanges = a.replied.exchanges }
  moved_by here there drain₁ drain₂ wire new progress after (Ok false) h = record { requests = h.given; replies = h.replies; exchanges = h.exchanges }
  moved_by here there drain₁ drain₂ wire new progress after (Err end) h = moved_to here there (requests wire.held) (fault wire.held) progress.out end h.written h.ends

  module _ (requests_cut : (a b : List ℕ) → requests (a ++ b) ≡ requests a ++ requests (rest a ++ b)) (rest_cut : (a b : List ℕ) → rest (a ++ b) ≡ rest (rest a ++ b)) (fault_cut : (a b : List ℕ) → fault (a ++ b) ≡ fault (rest a ++ b)) where
    pub takes_turns : TakesTurns allows
    takes_turns = record {
      begins = λ start source drain. begins allows (Talk allows) moves-refl moved_on start source drain;
      waits = λ start before here source₀ source₁ drain₀ drain₁ wire progress way moves. still allows (StateMoves allows) moves-refl moves-trans start source₀ source₁ drain₀ drain₁ before here wire progress way moves;
      waits_part = λ start before here source₀ source₁ drain₀ drain₁ wire progress part moves. still_part allows (StateMoves allows) moves-refl moves-trans start before here source₀ source₁ drain₀ drain₁ wire progress part moves;
      waits_ended = λ start before here source₀ source₁ drain₀ drain₁ result served moves. still_ended allows (StateMoves allows) moves-refl moves-trans start before here moves source₀ source₁ drain₀ drain₁ result served;
      reads = λ start here source₀ source₁ source₂ drain₀ drain₁ wire progress piece way given. reads (Talk allows) start source₀ drain₀ source₁ source₂ drain₁ here wire progress way piece given requests_cut rest_cut fault_cut;
      turns = λ start here there source₀ source₁ drain₀ drain₁ drain₂ wire new progress after result part turn. follows start here there source₀ source₁ drain₀ drain₁ drain₂ wire new progress after result part turn;
      ends = λ start here source₀ source₁ source₂ drain₀ drain₁ wire progress ended way given at_end count left.
          finishes allows (Talk allows) moves-refl moved_on start source₀ drain₀ source₁ drain₁ here wire progress way drain₁ refl source₂ here ended
          (record { read_is = given; at_end = at_end; told_is = refl; stays = refl; requests_are = count; rest_is = left });
      breaks = λ start here source₀ source₁ source₂ drain₀ drain₁ wire progress way given. breaks (Talk allows) start source₀ drain₀ source₁ source₂ drain₁ here wire progress way given;
      lacks = λ start here source₀ source₁ source₂ drain₀ drain₁ wire progress piece way given.
          halted allows (Talk allows) moved_on start source₀ drain₀ source₂ drain₁ here (fed wire piece) progress (reads (Talk allows) start source₀ drain₀ source₁ source₂ drain₁ here wire progress way piece given requests_cut rest_cut fault_cut)
          here NoMemory drain₁ (halted_unfed allows here (requests (wire.held ++ piece)) (fault (wire.held ++ piece)) progress.out drain₁);
    }
