-- How a reload goes on from read to read, and how it ends.
use Rattle.std.proofs.Common.{◌≡◌, ℕ, List, [], ◌++◌, sym, ◌∙◌, ap, subst, Option, Some, None, Result, Ok, Err}
use Rattle.std.specs.Io.KnownBytes.{prepend_known}
use Rattle.resp_wire.specs.Stream.{requests, rest, fault}
use Rattle.resp_wire.specs.DecoderView.{DecoderView}
use Rattle.resp_wire.proofs.CallerLemmas.{prepend_known-prepend_known, prepend_known-nil}
use Rattle.zset_core.specs.SetsByKey.{World}
use Rattle.log_records.specs.ReloadOutcome.{ReloadReads}
use Rattle.log_records.specs.declared.version.Version.{Version}
use Rattle.log_records.specs.ReloadSteps.{ReadsOn, Underway}
use Rattle.log_records.specs.declared.reload_outcome.Loaded.{Loaded}
use Rattle.log_records.specs.declared.reload_outcome.ReloadFault.{ReloadFault}
use Rattle.log_records.specs.declared.reload_outcome.ReloadFault.TheVariants.{NoMemory, TooManyReads}
use Rattle.log_records.proofs.HeldReplay.{replayed_start, less_nothing, all_replayed}

-- memory ran out before anything was read
pub unread : (source : Option (List ℕ)) (start : World) (result : Result Loaded ReloadFault) → result ≡ Err NoMemory → ReloadReads source source start result start
unread source start result is =
    subst (λ (r : Result Loaded ReloadFault). ReloadReads source source start r start) (sym is) (record {
      bytes = [];
      read_is = prepend_known-nil source;
      reloaded = (0, [], 0, None, (replayed_start start).replayed);
    })

pub begins : (source : Option (List ℕ)) (start : World) → Underway source source start (record { held = []; taken = 0; fault = None }) start 0 None
begins source start = record { bytes = []; read_is = prepend_known-nil source; holds = replayed_start start; less = less_nothing }

module _ (source₀ source₁ : Option (List ℕ)) (start : World) (wire : DecoderView) (world : World) (count : ℕ) (version : Option Version) (way : Underway source₀ source₁ start wire world count version) where
  pub too_many : ((a b : List ℕ) → requests (a ++ b) ≡ requests a ++ requests (rest a ++ b))
      → ((a b : List ℕ) → rest (a ++ b) ≡ rest (rest a ++ b))
      → ((a b : List ℕ) → fault (a ++ b) ≡ fault (rest a ++ b))
      → ReloadReads source₀ source₁ start (Err TooManyReads) world
  too_many cut_requests cut_rest cut_fault =
      record { bytes = way.bytes; read_is = way.read_is; reloaded = all_replayed cut_requests cut_rest cut_fault start way.bytes wire world count version way.holds way.less }

  module _ (source₂ : Option (List ℕ)) (wire' : DecoderView) (world' : World) (count' : ℕ) (version' : Option Version) where
    joined : (piece : List ℕ) → source₁ ≡ prepend_known piece source₂ → source₀ ≡ prepend_known (way.bytes ++ piece) source₂
    joined piece is = way.read_is ∙ ap (prepend_known way.bytes) is ∙ prepend_known-prepend_known way.bytes piece source₂

    pub reads_on : ReadsOn source₁ source₂ wire wire' world world' count count' version version' (Ok None) → Underway source₀ source₂ start wire' world' count' version'
    reads_on r =
        let on = r.rounded start way.bytes way.holds way.less in
        record { bytes = way.bytes ++ r.piece; read_is = joined r.piece r.read_is; holds = on.0; less = on.1 }

    pub loads : (loaded : Loaded) → ReadsOn source₁ source₂ wire wire' world world' count count' version version' (Ok (Some loaded)) → ReloadReads source₀ source₂ start (Ok loaded) world'
    loads loaded r = record { bytes = way.bytes ++ r.piece; read_is = joined r.piece r.read_is; reloaded = r.rounded start way.bytes way.holds way.less }

    pub fails : (end : ReloadFault) (result : Result Loaded ReloadFault) → result ≡ Err end → ReadsOn source₁ source₂ wire wire' world world' count count' version version' (Err end) → ReloadReads source₀ source₂ start result world'
    fails end result is r =
        subst (λ (x : Result Loaded ReloadFault). ReloadReads source₀ source₂ start x world') (sym is)
        (record { bytes = way.bytes ++ r.piece; read_is = joined r.piece r.read_is; reloaded = r.rounded start way.bytes way.holds way.less })
