-- How many pairs an offset of LIMIT passes over.
use Rattle.std.proofs.Common.{◌≡◌, ℕ, ℤ, pos, negsuc, false, List, length, drop, min, sym, ap, ◌∙◌, arith, nat_abs, true≢false}
use lib.Signed.{lt_z}
use Rattle.std.proofs.lemmas.List.{drop_min}
use Rattle.zset_core.specs.SortedSet.{Pair}
use Rattle.zset_core.specs.Semantics.{from_offset}

pub offset_of : (z y : ℤ) (len : ℕ) (ps : List Pair) → lt_z y (pos 0) ≡ false → y ≡ z → length ps ≡ len → from_offset z ps ≡ drop (min len (nat_abs y)) ps
offset_of (pos n) y len ps up is long =
    sym (drop_min n ps) ∙ ap (λ (k : ℕ). drop k ps) (omega (arith, long)) ∙ ap (λ (x : ℤ). drop (min len (nat_abs x)) ps) (sym is)
offset_of (negsuc n) y len ps up is long = absurd (true≢false (ap (λ (x : ℤ). lt_z x (pos 0)) (sym is) ∙ up))
