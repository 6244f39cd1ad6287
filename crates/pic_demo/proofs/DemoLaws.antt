-- The demonstration's deck is within the limits of a deck.
use Rattle.std.proofs.Common.{◌≡◌, ℕ, zero, suc, ◌<◌, ◌≤◌, ◌^◌, List, [], ◌∷◌, take, refl, arith}
use Rattle.std.proofs.Math.IntN.{pos}
use Rattle.std.specs.Prelude.{slice_index, slice_index_or, codes}
use Rattle.std.proofs.lemmas.List.Elements.{All-nil}
use Rattle.pic_num.specs.declared.axis.Axis.{Axis}
use Rattle.pic_num.specs.declared.axis.Axis.TheVariants.{X, Y, Z}
use Rattle.pic_num.specs.Limits.{allowance_of}
use Rattle.pic_num.specs.Sizes.{IsAtMost}
use Rattle.pic_num.specs.Space.{spot, along}
use Rattle.pic_num.proofs.VersionLaws.{side_of_bits}
use Rattle.pic_grid.specs.Species.{IsName, IsKind, AreHeads, no_head}
use Rattle.pic_grid.specs.Tiles.{IsTiled}
use Rattle.pic_devices.specs.declared.devices.Devices.{Devices}
use Rattle.pic_devices.specs.Devices.{no_devices}
use Rattle.pic_deck.specs.declared.fields.InitialFields.{InitialFields}
use Rattle.pic_settings.specs.declared.settings.Settings.{Settings}
use Rattle.pic_deck.specs.declared.species.Species.{Species}
use Rattle.pic_deck.specs.Deck.{AreSettings, IsWithinLimits, deck_view, terms_of, heads_of}
use Rattle.pic_deck.specs.Keys.{no_field}
use Rattle.pic_deck.specs.Species.{IsFilledFrom, AreFilled, species_at, fastest_drift}
use Rattle.pic_deck.proofs.ForceLaws.{zero_mild, zero_set_up}
use Rattle.pic_deck.proofs.InitialLaws.{AreRows-none}
use Rattle.pic_demo.specs.Demo.{on_each, electron, ion, demo_settings, demo_deck}

-- one number on each axis
each_at_most : (n m : ℕ) → n ≤ m → (k : ℕ) → k < 3 → slice_index (on_each n) k ≤ m
each_at_most n m h zero below = h
each_at_most n m h (suc zero) below = h
each_at_most n m h (suc (suc zero)) below = h
each_at_most n m h (suc (suc (suc k))) below = absurd (omega (arith, below))

at_rest : (a : Axis) → IsAtMost (along a (spot (on_each (pos 0)))) (fastest_drift 4096)
at_rest X = record { size = omega arith }
at_rest Y = record { size = omega arith }
at_rest Z = record { size = omega arith }

-- what holds of the electrons and of the ions
both : (P : ℕ → Type 0) → P 0 → P 1 → (i : ℕ) → i < 2 → P i
both P e p zero below = e
both P e p (suc zero) below = p
both P e p (suc (suc i)) below = absurd (omega (arith, below))

settings_within : AreSettings 1 demo_settings.cells (record { x = 4; y = 4; z = 4 }) 16 4 0
settings_within = record {
  version = record { least = omega arith; most = omega arith };
  cells = record {
    x_least = omega arith;
    x_most = omega arith;
    y_least = omega arith;
    y_most = omega arith;
    z_least = omega arith;
    z_most = omega arith;
  };
  allowed = record {
    x = omega arith;
    y = omega arith;
    z = omega arith;
    sides = side_of_bits 1 12 (omega arith) (omega arith);
  };
  tiles = record { x = tiled; y = tiled; z = tiled; most = omega arith };
  steps = omega arith;
  every_low = omega arith;
  every_high = omega arith;
  filter = omega arith;
}
  where
    tiled : IsTiled 16 4
    tiled = record { low = omega arith; high = omega arith; divides = refl }

heads_within : (seed : ℕ) → AreHeads (allowance_of 1).particles (heads_of (demo_deck seed))
heads_within seed = record {
  few = omega arith;
  names = both (λ i. IsName (slice_index_or (heads_of (demo_deck seed)) i no_head).name) electron_name ion_name;
  kinds = both (λ i. IsKind (slice_index_or (heads_of (demo_deck seed)) i no_head).kind) electron_kind ion_kind;
  differ = differ;
  total = omega arith;
}
  where
    electron_name : IsName (codes "electron")
    electron_name = record { least = omega arith; most = omega arith; bytes = refl }

    ion_name : IsName (codes "ion")
    ion_name = record { least = omega arith; most = omega arith; bytes = refl }

    electron_kind : IsKind (electron seed).kind
    electron_kind = record { charge_low = omega arith; charge_high = omega arith; mass_low = omega arith; mass_high = omega arith }

    ion_kind : IsKind (ion seed).kind
    ion_kind = record { charge_low = omega arith; charge_high = omega arith; mass_low = omega arith; mass_high = omega arith }

    differ : (i j : ℕ) → i < j → j < 2 → (slice_index_or (heads_of (demo_deck seed)) i no_head).name
        ≡ (slice_index_or (heads_of (demo_deck seed)) j no_head).name → ⊥
    differ zero zero h below e = omega (arith, h)
    differ zero (suc zero) h below e = cc
    differ (suc i) (suc zero) h below e = omega (arith, h)
    differ (suc i) zero h below e = omega (arith, h)
    differ i (suc (suc j)) h below e = omega (arith, below)

filled_within : (seed : ℕ) → seed < 2 ^ 32 → AreFilled (terms_of demo_settings) (electron seed ∷ ion seed ∷ [])
filled_within seed small = record {
  each = both (λ i. IsFilledFrom (terms_of demo_settings) (take i ss) (species_at ss i)) electrons ions;
}
  where
    ss : List Species
    ss = electron seed ∷ ion seed ∷ []

    electrons : IsFilledFrom (terms_of demo_settings) [] (electron seed)
    electrons = record {
      fill = (
        omega arith,
        record {
          seed = omega (arith, small);
          stream = omega arith;
          drift = at_rest;
          spread = each_at_most 1048576 1048576 (omega arith);
        },
      );
      count = refl;
      opposite = tt;
    }

    ions : IsFilledFrom (terms_of demo_settings) (electron seed ∷ []) (ion seed)
    ions = record {
      fill = (
        omega arith,
        record {
          seed = omega (arith, small);
          stream = omega arith;
          drift = at_rest;
          spread = each_at_most 16384 1048576 (omega arith);
        },
      );
      count = refl;
      opposite = tt;
    }

pub demo_within : (seed : ℕ) → seed < 2 ^ 32 → IsWithinLimits (demo_deck seed)
demo_within seed small = record {
  settings = settings_within;
  edges = AreRows-none _;
  faces = AreRows-none _;
  heads = heads_within seed;
  filled = filled_within seed small;
  e = zero_mild _ _ _ (zero_set_up _ [] refl refl);
  b = zero_mild _ _ _ (zero_set_up _ [] refl refl);
  loops = record { few = omega arith; each = All-nil _ };
  probes = record { few_places = omega arith; places = All-nil _; few_ids = omega arith; ids = All-nil _ };
}

-- the same of parts that are the demonstration's
pub within_by : (s : Settings) (f : InitialFields) (ss : List Species) (ds : Devices) (seed : ℕ) → s ≡ demo_settings → f ≡ no_field
    → ss ≡ electron seed ∷ ion seed ∷ [] → ds ≡ no_devices → seed < 2 ^ 32 → IsWithinLimits (deck_view s f ss ds)
within_by s f ss ds seed settings field species devices small = rw (settings, field, species, devices) (demo_within seed small)
