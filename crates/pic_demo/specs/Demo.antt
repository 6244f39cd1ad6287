-- The demonstration's deck, this project's profile: a thermal plasma in a periodic box, of electrons at
-- random places and of an ion where each of them stands. So no place is charged, and Gauss's law holds
-- with E = 0. A number seeds both generators.
use Rattle.std.specs.Prelude.{ℕ, ℤ, pos, negsuc, ◌^◌, List, [], ◌∷◌, codes}
use Rattle.pic_num.specs.declared.mult.Scales.{Scales}
use Rattle.pic_num.specs.Multiplier.{Multiplier}
use Rattle.pic_settings.specs.declared.settings.Settings.{Settings}
use Rattle.pic_deck.specs.declared.species.Fill.TheVariants.{Random, Pair}
use Rattle.pic_deck.specs.declared.species.Species.{Species}
use Rattle.pic_devices.specs.Devices.{no_devices}
use Rattle.pic_deck.specs.Deck.{DeckView, deck_view}
use Rattle.pic_deck.specs.Keys.{no_field}

-- the multiplier n / 2^k
abbrev pub times : ℤ → ℕ → Multiplier
times n k = record { n = n; k = k }

-- the same number on each axis
abbrev pub on_each : {A : Type 0} → A → List A
on_each a = a ∷ a ∷ a ∷ []

abbrev pub demo_scales : Scales
demo_scales = record {
  e_to_b = times (pos 1) 4;
  b_to_e = times (pos 1) 1;
  e_force = times (pos 1) 30;
  b_force = times (pos 1) 30;
}

-- 16 cells of 2^12 sub-cells on each axis, and 16 steps, of which every fourth has a frame
abbrev pub demo_settings : Settings
demo_settings = record {
  version = 1;
  cells = record { n = record { x = 16; y = 16; z = 16 }; side = 2 ^ 12 };
  tiles = on_each 4;
  steps = 16;
  every = 4;
  filter = 0;
  scales = demo_scales;
}

-- how many particles each species has
abbrev pub particles_of_each : ℕ
particles_of_each = 8192

-- electrons at random places, at rest in the mean
abbrev pub electron : ℕ → Species
electron seed = record {
  name = codes "electron";
  kind = record { charge = negsuc 0; mass = 1; kick = times (negsuc 0) 2; turn = times (negsuc 0) 0 };
  count = particles_of_each;
  fill = Random particles_of_each seed 54 (on_each (pos 0)) (on_each 1048576);
}

-- an ion where each electron stands, with a velocity of its own
abbrev pub ion : ℕ → Species
ion seed = record {
  name = codes "ion";
  kind = record { charge = pos 1; mass = 1836; kick = times (pos 1) 10; turn = times (pos 1) 10 };
  count = particles_of_each;
  fill = Pair 0 seed 55 (on_each (pos 0)) (on_each 16384);
}

-- the deck that a number makes
abbrev pub demo_deck : ℕ → DeckView
demo_deck seed = deck_view demo_settings no_field (electron seed ∷ ion seed ∷ []) no_devices
