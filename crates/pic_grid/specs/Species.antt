-- What a deck and a dump say of each species, and its limits: this project's profile.
use Rattle.std.specs.Prelude.{◌≡◌, ℕ, pos, ◌<◌, ◌≤◌, ◌≤ℤ◌, IsTrue, List, [], length, sum_by, slice_index_or}
use Rattle.std.specs.List.{list_all}
use Rattle.pic_num.specs.declared.motion.Kind.{Kind}
use Rattle.pic_num.specs.Limits.{most_mass, most_species, most_letters, least_charge, greatest_charge}
pub use Rattle.pic_num.specs.Names.{is_name_byte}

-- a name has 1 to 32 bytes, each a letter, a digit or `_`
pub record IsName (name : List ℕ) : Type 0 where
  pub least : 1 ≤ length name
  pub most : length name ≤ most_letters
  pub bytes : IsTrue (list_all is_name_byte name)

-- the limits of charge and mass
pub record IsKind (k : Kind) : Type 0 where
  pub charge_low : least_charge ≤ℤ k.charge
  pub charge_high : k.charge ≤ℤ greatest_charge
  pub mass_low : 1 ≤ k.mass
  pub mass_high : k.mass ≤ most_mass

-- a species: its name, what its particles have in common, and how many there are
pub record HeadView : Type 0 where
  pub name : List ℕ
  pub kind : Kind
  pub count : ℕ

-- a species that isn't there
abbrev pub no_head : HeadView
no_head = record {
  name = [];
  kind = record { charge = pos 0; mass = 0; kick = record { n = pos 0; k = 0 }; turn = record { n = pos 0; k = 0 } };
  count = 0;
}

-- the species of a run: 16 at most, with names of their own, and at most so many particles
pub record AreHeads (most : ℕ) (heads : List HeadView) : Type 0 where
  pub few : length heads ≤ most_species
  pub names : (i : ℕ) → i < length heads → IsName (slice_index_or heads i no_head).name
  pub kinds : (i : ℕ) → i < length heads → IsKind (slice_index_or heads i no_head).kind
  pub differ : (i j : ℕ) → i < j → j < length heads → (slice_index_or heads i no_head).name ≡ (slice_index_or heads j no_head).name → ⊥
  pub total : sum_by (λ h. h.count) heads ≤ most
