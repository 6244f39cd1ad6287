-- The walk of the demonstration's table, part by part.
use Rattle.std.proofs.Common.{◌≡◌, ℕ, true, leb, int_le, List, [], ◌∷◌, Option, None, Ok, ◌∙◌, refl, arith}
use Rattle.std.proofs.Math.IntN.{ℤ, pos}
use Rattle.std.proofs.lemmas.Bool.{le-leb}
use Rattle.std.proofs.lemmas.Int.{ints}
use Rattle.std.specs.Prelude.{⊤, codes}
use Rattle.pic_num.specs.Space.{spot}
use Rattle.pic_walk.specs.Bounds.{most_seed}
use Rattle.pic_walk.specs.Draw.{draw}
use Rattle.pic_walk.specs.Limits.{limits_at}
use Rattle.pic_walk.specs.Path.{key_at, element_at}
use Rattle.pic_walk.specs.FillKind.{alone, only}
use Rattle.pic_walk.specs.Walk.{◌>>=◌, some_or, number, within, limited, whole, of_length, fixed, each, elements, array_of, number_at, numbers, three}
use Rattle.pic_walk.specs.Walk.{text, multiplier, first_unlisted, known, listed, table_of, needed, need, given, optional}
use Rattle.pic_walk.proofs.WalkLaws.{then_ok}
use Rattle.pic_deck.specs.Deck.{terms_of}
use Rattle.pic_deck.specs.Fill.{random, pair, species_number, species_fill}
use Rattle.pic_deck.specs.Initial.{set_up}
use Rattle.pic_devices.specs.Devices.{no_devices}
use Rattle.pic_settings.specs.Keys.{axis_tiles, next_tiles, tiles, side_in, filter_in, grid, run, scale, settings}
use Rattle.pic_settings.specs.Tiles.{tiles_of_axis, few_tiles}
use Rattle.pic_deck.specs.Keys.{deck_keys, fields, no_field, species_name, species_kind}
use Rattle.pic_deck.specs.Keys.{counted, species_in, one_species, species_list, devices, force_allowed, forces, deck}
use Rattle.pic_deck.specs.Species.{is_name, is_new_name, particles_of}
use Rattle.pic_deck.proofs.ForceLaws.{no_forces, zero_set_up}
use Rattle.pic_demo.specs.Demo.{electron, ion, demo_settings}
use Rattle.pic_demo.specs.Table.{demo_table, DemoIsWalked}

-- what the walk of a literal table unfolds: its values, its keys, and what a species has but its particles
unfoldable values_read : ⊤
unfolding multiplier three numbers number_at array_of elements each fixed of_length whole limited within number text some_or ◌>>=◌ limits_at
values_read = tt

unfoldable keys_read : ⊤
unfolding values_read need needed given optional table_of listed known first_unlisted key_at element_at
keys_read = tt

unfoldable heads_read : ⊤
unfolding keys_read species_name is_name is_new_name species_kind counted
heads_read = tt

settings_walked : (seed : ℕ) → settings (demo_table seed) ≡ Ok demo_settings
unfolding keys_read settings grid run scale tiles next_tiles axis_tiles tiles_of_axis few_tiles side_in filter_in
settings_walked seed = refl

listed_walked : (seed : ℕ) → listed (deck_keys (demo_table seed)) [] (demo_table seed) ≡ Ok (demo_table seed)
unfolding keys_read
listed_walked seed = refl

fields_walked : (seed : ℕ) → optional no_field (fields demo_settings.cells.n) (codes "field") [] (demo_table seed) ≡ Ok no_field
unfolding keys_read
fields_walked seed = refl

species_walked : (seed : ℕ) → int_le (pos 0) (pos seed) ≡ true → leb seed most_seed ≡ true
    → optional [] (species_list (terms_of demo_settings)) (codes "species") [] (demo_table seed) ≡ Ok (electron seed ∷ ion seed ∷ [])
unfolding heads_read species_list one_species species_in species_fill only alone random pair species_number draw
species_walked seed some few = rw (some, few)

devices_walked : (seed : ℕ) → devices (terms_of demo_settings) (particles_of (electron seed ∷ ion seed ∷ [])) (demo_table seed) ≡ Ok no_devices
unfolding devices
devices_walked seed = refl

-- a scale by which no force value is too large
none_allowed : (path : List ℕ) (o : Option ℤ) → o ≡ None → force_allowed path o ≡ Ok tt
unfolding force_allowed
none_allowed path o e = rw e

forces_walked : forces demo_settings no_field ≡ Ok tt
unfolding forces
forces_walked =
    let zero = zero_set_up (spot no_field.e) [] refl refl in
    let n = demo_settings.cells.n in
    let e = none_allowed (key_at (codes "scale") (codes "e_force")) _ (no_forces n demo_settings.scales.e_force (set_up (spot no_field.e) []) zero) in
    let b = none_allowed (key_at (codes "scale") (codes "b_force")) _ (no_forces n demo_settings.scales.b_force (set_up (spot no_field.b) []) zero) in
    then_ok _ _ _ e ∙ b

pub demo_walked : DemoIsWalked
unfolding deck
demo_walked seed small =
    let some : int_le (pos 0) (pos seed) ≡ true = grind (arith, ints) in
    let few : leb seed most_seed ≡ true = le-leb _ _ (omega (arith, small)) in
    then_ok _ _ _ (listed_walked seed)
    ∙ then_ok _ _ _ (settings_walked seed)
    ∙ then_ok _ _ _ (fields_walked seed)
    ∙ then_ok _ _ _ (species_walked seed some few)
    ∙ then_ok _ _ _ (devices_walked seed)
    ∙ then_ok _ _ _ forces_walked
