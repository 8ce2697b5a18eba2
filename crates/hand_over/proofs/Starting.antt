-- Each worker that is started takes one part of the pass.
use Rattle.std.proofs.Common.{◌≡◌, ◌+◌, List, [], ◌∷◌, ◌++◌, length, map, sym, ap, ◌∙◌, subst, arith}
use Rattle.std.proofs.Math.ListN.{length-append}
use Rattle.std.specs.Prelude.{All}
use Rattle.std.proofs.lemmas.List.{map-append}
use Rattle.std.proofs.lemmas.List.Elements.{All-push}
use Rattle.connection_channel.specs.declared.channel_protocol.ChannelPassView.{ChannelPassView}
use Rattle.connection_channel.specs.ChannelInvariant.{pass_view}

-- what the workers that were started are
abbrev pub Started : {H D K : Type 0} → (K → H) → (D → H) → (K → Type 0) → ChannelPassView → ChannelPassView → List D → List K → Type 0
Started f g on v0 v ds ks =
    (v ≡ pass_view v.parts v0.sends v0.sent v0.stops v0.taken) × (v.parts + length ds ≡ v0.parts) × (length ks ≡ length ds) × All on ks × (map f ks ≡ map g ds)

pub starts : {H D K : Type 0} (f : K → H) (g : D → H) (on : K → Type 0) (v0 v w : ChannelPassView) (ds : List D) (d : D) (ks ks' : List K)
    → Started f g on v0 v ds ks → w ≡ pass_view w.parts v.sends v.sent v.stops v.taken → w.parts + 1 ≡ v.parts → (k : K) × (ks' ≡ ks ++ k ∷ []) × on k × (f k ≡ g d)
    → Started f g on v0 w (ds ++ d ∷ []) ks'
starts {H} {D} {K} f g on v0 v w ds d ks ks' s e p k =
    let a = length-append ds (d ∷ []) in let b = length-append ks (k.0 ∷ []) in (
      e ∙ ap (λ (y : ChannelPassView). pass_view w.parts y.sends y.sent y.stops y.taken) s.0,
      (let q = s.1 in omega arith),
      (let l : length ks' ≡ length (ks ++ k.0 ∷ []) = ap length k.1 in let q = s.2 in omega arith),
      subst (All on) (sym k.1) (All-push on ks k.0 s.3 k.2),
      ap (map f) k.1 ∙ map-append f ks (k.0 ∷ []) ∙ (λ i. s.4 i ++ k.3 i ∷ []) ∙ sym (map-append g ds (d ∷ [])),
    )
