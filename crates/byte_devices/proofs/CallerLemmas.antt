-- What callers cite: how known bytes go together.
use Rattle.std.proofs.Common.{◌≡◌, ℕ, ◌+◌, List, [], ◌++◌, take, drop, refl, sym, ◌∙◌, ap, append_assoc, Option, None, Some}
use Rattle.std.proofs.lemmas.List.{append-nil}
use Rattle.std.proofs.Math.Seq.{take-add}
use Rattle.std.specs.Io.KnownBytes.{append_known, prepend_known}

pub append_known-append_known : (known : Option (List ℕ)) (a b : List ℕ) → append_known (append_known known a) b ≡ append_known known (a ++ b)
append_known-append_known None a b = refl
append_known-append_known (Some held) a b = ap Some (append_assoc held a b)

pub append_known-nil : (known : Option (List ℕ)) → append_known known [] ≡ known
append_known-nil None = refl
append_known-nil (Some held) = ap Some (append-nil held)

pub prepend_known-prepend_known : (a b : List ℕ) (known : Option (List ℕ)) → prepend_known a (prepend_known b known) ≡ prepend_known (a ++ b) known
prepend_known-prepend_known a b None = refl
prepend_known-prepend_known a b (Some left) = ap Some (sym (append_assoc a b left))

pub prepend_known-nil : (known : Option (List ℕ)) → known ≡ prepend_known [] known
prepend_known-nil None = refl
prepend_known-nil (Some left) = refl

-- one write more of the bytes
pub write_more : (first old new : Option (List ℕ)) (bytes : List ℕ) (n m : ℕ) → old ≡ append_known first (take n bytes) → new ≡ append_known old (take m (drop n bytes)) → new ≡ append_known first (take (n + m) bytes)
write_more first old new bytes n m was is =
    is ∙ ap (λ (k : Option (List ℕ)). append_known k (take m (drop n bytes))) was
    ∙ append_known-append_known first (take n bytes) (take m (drop n bytes))
    ∙ ap (append_known first) (sym (take-add n m bytes))
