-- Bytes on their way: what a drain takes of those held, and what it does not.
use Rattle.std.proofs.Common.{◌≡◌, ℕ, ◌+◌, List, ◌++◌, take, drop, sym, ◌∙◌, ap, Option}
use Rattle.std.proofs.lemmas.List.{take-append-drop, drop-drop}
use Rattle.std.specs.Io.KnownBytes.{append_known}
use Rattle.resp_wire.proofs.CallerLemmas.{append_known-append_known}

-- the drain took so many more of the bytes held, and what was handed in stays
pub taken_more : (old new : Option (List ℕ)) (bytes : List ℕ) (n m : ℕ) → new ≡ append_known old (take m (drop n bytes)) → append_known new (drop (n + m) bytes) ≡ append_known old (drop n bytes)
taken_more old new bytes n m is =
    ap (λ (k : Option (List ℕ)). append_known k (drop (n + m) bytes)) is
    ∙ append_known-append_known old (take m (drop n bytes)) (drop (n + m) bytes)
    ∙ ap (λ (l : List ℕ). append_known old (take m (drop n bytes) ++ l)) (sym (drop-drop m n bytes))
    ∙ ap (append_known old) (take-append-drop m (drop n bytes))
