-- What a pass remembers of the keys that it met.
use Rattle.std.specs.Prelude.{◌≡◌, ◌≢◌, ℕ, List}
use Rattle.std.proofs.Math.ListN.{get_or}
use Rattle.std.specs.declared.option.Option.{Option}
use Rattle.std.specs.declared.option.Option.TheVariants.{None, Some}
use Rattle.place_names.specs.Naming.{Naming, IsPlace, hash_from, name_at_place}
use Rattle.place_names.specs.declared.key_cache.MetKey.{MetKey}

-- a slot says this place
pub record Says (slots : List (Option MetKey)) (place : ℕ) : Type 0 where
  pub slot : ℕ
  pub met : MetKey
  pub here : get_or slots slot None ≡ Some met
  pub place_is : met.place ≡ place

-- the place is known as the one of the key that it bears
abbrev pub IsMet : Naming → ℕ → Type 0
IsMet known place = (key : List ℕ) × IsPlace known key place

-- every slot says such a place
abbrev pub AllMet : Naming → List (Option MetKey) → Type 0
AllMet known slots = (place : ℕ) → Says slots place → IsMet known place

-- the name that is known at the place has this hash
pub record HasHash (known : Naming) (place hash : ℕ) : Type 0 where
  pub name : List ℕ
  pub here : name_at_place known place ≡ Some name
  pub hash_is : hash_from 7 name ≡ hash

-- each hash that is kept, which is one other than 0, is that of its place's name
abbrev pub AllHashed : Naming → List ℕ → Type 0
AllHashed known hashes = (place : ℕ) → get_or hashes place 0 ≢ 0 → HasHash known place (get_or hashes place 0)
