-- The demonstration's deck as a TOML table, this project's profile: what its text spells, with a number for
-- the seed of both generators. Keys stand in byte order, as `toml` has them.
use Rattle.std.specs.Prelude.{◌≡◌, ◌^◌, ◌<◌, ℕ, ℤ, pos, negsuc, List, [], ◌∷◌, codes, Ok}
use Rattle.toml.specs.Data.{Data, string, integer, array, table, Items, no_items, item, Members, no_members, member}
use Rattle.pic_deck.specs.Keys.{deck}
use Rattle.pic_demo.specs.Demo.{on_each, demo_deck}

abbrev pub integers : List ℤ → Items
integers [] = no_items
integers (z ∷ zs) = item (integer z) (integers zs)

abbrev pub number_array : List ℤ → Data
number_array zs = array (integers zs)

-- a multiplier as a deck writes it
abbrev pub fraction : ℤ → ℕ → Data
fraction n k = number_array (n ∷ pos k ∷ [])

abbrev pub grid_table : Data
grid_table = table
    (member (codes "cells") (number_array (on_each (pos 16)))
    (member (codes "tiles") (number_array (on_each (pos 4))) no_members))

abbrev pub run_table : Data
run_table = table
    (member (codes "every") (integer (pos 4))
    (member (codes "steps") (integer (pos 16)) no_members))

abbrev pub scale_table : Data
scale_table = table
    (member (codes "b_force") (fraction (pos 1) 30)
    (member (codes "b_to_e") (fraction (pos 1) 1)
    (member (codes "e_force") (fraction (pos 1) 30)
    (member (codes "e_to_b") (fraction (pos 1) 4) no_members))))

abbrev pub random_table : ℕ → Data
random_table seed = table
    (member (codes "count") (integer (pos 8192))
    (member (codes "drift") (number_array (on_each (pos 0)))
    (member (codes "seed") (integer (pos seed))
    (member (codes "spread") (number_array (on_each (pos 1048576)))
    (member (codes "stream") (integer (pos 54)) no_members)))))

abbrev pub pair_table : ℕ → Data
pair_table seed = table
    (member (codes "drift") (number_array (on_each (pos 0)))
    (member (codes "of") (string (codes "electron"))
    (member (codes "seed") (integer (pos seed))
    (member (codes "spread") (number_array (on_each (pos 16384)))
    (member (codes "stream") (integer (pos 55)) no_members)))))

abbrev pub electron_table : ℕ → Data
electron_table seed = table
    (member (codes "charge") (integer (negsuc 0))
    (member (codes "kick") (fraction (negsuc 0) 2)
    (member (codes "mass") (integer (pos 1))
    (member (codes "name") (string (codes "electron"))
    (member (codes "random") (random_table seed)
    (member (codes "turn") (fraction (negsuc 0) 0) no_members))))))

abbrev pub ion_table : ℕ → Data
ion_table seed = table
    (member (codes "charge") (integer (pos 1))
    (member (codes "kick") (fraction (pos 1) 10)
    (member (codes "mass") (integer (pos 1836))
    (member (codes "name") (string (codes "ion"))
    (member (codes "pair") (pair_table seed)
    (member (codes "turn") (fraction (pos 1) 10) no_members))))))

-- the whole table
abbrev pub demo_table : ℕ → Members
demo_table seed =
    member (codes "grid") grid_table
    (member (codes "run") run_table
    (member (codes "scale") scale_table
    (member (codes "species") (array (item (electron_table seed) (item (ion_table seed) no_items)))
    (member (codes "version") (integer (pos 1)) no_members))))

-- the walk of a deck gives the demonstration's deck for it
abbrev pub DemoIsWalked : Type 0
DemoIsWalked = (seed : ℕ) → seed < 2 ^ 32 → deck (demo_table seed) ≡ Ok (demo_deck seed)
