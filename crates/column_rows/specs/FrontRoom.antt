-- Rows that stand behind room at the front of their vector.
use Rattle.std.specs.Prelude.{◌+◌, ◌-◌, ◌^◌, ◌<◌, ℕ, ℤ, List, drop}
use Rattle.std.proofs.Common.{ap, sym, subst, ◌∙◌, le_refl, le-add_right, add-le-add, sub-le, add-sub_of_le, lt_of_le_of_lt}
use Rattle.std.proofs.lemmas.List.{length-drop}
use Rattle.std.specs.declared.vec.Vec.{Vec}

-- the vector without so many of its first places: the other elements, with the same room behind them
abbrev pub without_first : {A : Type 0} → ℕ → Vec (ℤ × List ℕ) A → Vec (ℤ × List ℕ) A
without_first left v = record {
  ptr = v.ptr;
  len = v.len - left;
  cap = v.len - left + (v.cap - v.len);
  alloc = v.alloc;
  items = drop left v.items;
  ok = (ap (λ n. n - left) v.ok.0 ∙ sym (length-drop left v.items), le-add_right (v.len - left) (v.cap - v.len));
  small = lt_of_le_of_lt (add-le-add (sub-le v.len left) (le_refl (v.cap - v.len))) (subst (λ n. n < 2 ^ 63) (sym (add-sub_of_le v.ok.1)) v.small);
}
