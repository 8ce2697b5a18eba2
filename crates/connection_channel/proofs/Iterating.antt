-- A loop that takes the elements of a list one by one.
use Rattle.std.proofs.Common.{◌≡◌, ℕ, ◌<◌, ◌≤◌, List, length, sym, subst, ◌∙◌, arith}
use Rattle.std.specs.Prelude.{All, Option, Some, None}
use Rattle.std.specs.Iterator.{Yields}
use Rattle.std.specs.Vec.Iter.{into_iter_items, into_iter_len, into_iter_steps}
use Rattle.std.specs.declared.vec.IntoIter.{IntoIter}
use Rattle.std.proofs.lemmas.List.{map-id}
use Rattle.std.proofs.lemmas.Iterator.Adapters.{YieldsList-from_vec}
use Rattle.std.proofs.lemmas.Iterator.Consumers.{YieldsList-turn, YieldsList-end}

-- what holds of each element holds of the next one, and fewer than all came before it
pub given : {A Z : Type 0} (P : A → Type 0) (s t u : IntoIter A Z) (all xs : List A) (r : Option A) (x : A)
    → All P all → into_iter_items s ≡ all → into_iter_len s ≡ length all → Yields (into_iter_steps {X = A} {Z = Z}) s xs t → r ≡ Some x → into_iter_steps t r u → (length xs < length all) × P x
given P s t u all xs r x h items len y is step =
    let k = YieldsList-turn (YieldsList-from_vec all items len) xs t y r u x is step in (k.0, subst P (sym k.1) (h (length xs) x k.0))

-- at the end all were given
pub all_given : {A Z : Type 0} (s t u : IntoIter A Z) (all xs : List A) (r : Option A)
    → into_iter_items s ≡ all → into_iter_len s ≡ length all → Yields (into_iter_steps {X = A} {Z = Z}) s xs t → r ≡ None → into_iter_steps t r u → xs ≡ all
all_given s t u all xs r items len y is step =
    let k = YieldsList-end (YieldsList-from_vec all items len) xs t y r u is step in sym (map-id xs) ∙ k.0

-- a list with room for all has room for what the next one gives
pub holds_next : (k ks ds l all cap first : ℕ) → ds < l → all ≡ l → k ≡ ks → ks ≡ ds → all ≤ first → cap ≡ first → k < cap
holds_next k ks ds l all cap first h e f g r s = omega arith
