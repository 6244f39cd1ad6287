-- The walk of what a deck sets for its run, this project's profile: the version, and the keys of the tables of the
-- grid, the run and the scales in their order.
use Rattle.std.specs.Prelude.{pos, ℕ, ◌==◌, ◌^◌, List, [], ◌∷◌, length, codes, slice_index, if◌then◌else◌, Ok}
use Rattle.toml.specs.Data.{Data, Members}
use Rattle.pic_num.specs.declared.mult.Scales.{Scales}
use Rattle.pic_num.specs.Limits.{most_version, allowance_of, fewest_cells_of_axis, most_steps}
use Rattle.pic_num.specs.Space.{triple}
use Rattle.pic_block.specs.Cells.{Grid}
use Rattle.pic_walk.specs.declared.limits.Limits.{Limits}
use Rattle.pic_walk.specs.Path.{key_at}
use Rattle.pic_walk.specs.Limits.{from_to, thrice}
use Rattle.pic_walk.specs.Walk.{Walked, ◌>>=◌, number, within, whole, array_of, three, multiplier, table_of, need, optional}
use Rattle.pic_settings.specs.declared.run.Course.{Course}
use Rattle.pic_settings.specs.declared.settings.Settings.{Settings}
use Rattle.pic_settings.specs.Tiles.{tiles_of_axis, few_tiles}

-- the keys of `grid`: a deck of version 1 has no side of its own
abbrev pub grid_keys : ℕ → List (List ℕ)
grid_keys version =
    if version == 1 then codes "cells" ∷ codes "tiles" ∷ []
    else codes "cells" ∷ codes "tiles" ∷ codes "sub" ∷ []

-- the keys of `run`: a deck of version 1 has no filter
abbrev pub run_keys : ℕ → List (List ℕ)
run_keys version =
    if version == 1 then codes "steps" ∷ codes "every" ∷ []
    else codes "steps" ∷ codes "every" ∷ codes "filter" ∷ []

-- the keys of `scale`
abbrev pub scale_keys : List (List ℕ)
scale_keys = codes "e_to_b" ∷ codes "b_to_e" ∷ codes "e_force" ∷ codes "b_force" ∷ []

-- how many cells each axis may have
abbrev pub cell_limits : ℕ → List Limits
cell_limits version = thrice (from_to (pos fewest_cells_of_axis) (pos (allowance_of version).cells))

-- the powers of two that a side may be
abbrev pub bit_limits : ℕ → Limits
bit_limits version = from_to (pos (allowance_of version).least_bits) (pos (allowance_of version).greatest_bits)

-- the tiles of an axis of n cells
unfoldable pub axis_tiles : ℕ → List ℕ → Data → Walked ℕ
axis_tiles n path d = number path d >>= tiles_of_axis n path

-- the tiles of the next axis, of those with these cells
unfoldable pub next_tiles : List ℕ → List ℕ → List ℕ → Data → Walked ℕ
next_tiles ns done path d = axis_tiles (slice_index ns (length done)) path d

-- the tiles of all three axes, not too many
unfoldable pub tiles : List ℕ → List ℕ → Data → Walked (List ℕ)
tiles ns path d = array_of 3 (next_tiles ns) path d >>= few_tiles path

-- the side of a cell: the one that version 1 has, or the power of two at the key `sub`
unfoldable pub side_in : ℕ → Members → Walked ℕ
side_in version t =
    if version == 1 then Ok (2 ^ (allowance_of version).least_bits)
    else need (whole (bit_limits version)) (codes "sub") (codes "grid") t >>= (λ bits. Ok (2 ^ bits))

-- the cells with their side, and the tiles, in a deck of a version
unfoldable pub grid : ℕ → Members → Walked (Grid × List ℕ)
grid version ms =
    need (table_of (grid_keys version)) (codes "grid") [] ms
    >>= (λ t. need (three (cell_limits version)) (codes "cells") (codes "grid") t
    >>= (λ ns. need (tiles ns) (codes "tiles") (codes "grid") t
    >>= (λ ts. side_in version t
    >>= (λ side. Ok (record { n = triple ns; side = side }, ts)))))

-- how many steps there may be, from these on
abbrev pub step_limits : ℕ → Limits
step_limits least = from_to (pos least) (pos most_steps)

-- the filter of the current: none, where the key isn't there
unfoldable pub filter_in : ℕ → Members → Walked ℕ
filter_in version t =
    if version == 1 then Ok 0
    else optional 0 (whole (from_to (pos 0) (pos (allowance_of version).filter))) (codes "filter") (codes "run") t

-- how many steps, after how many a frame is due, and the filter of the current
unfoldable pub run : ℕ → Members → Walked Course
run version ms =
    need (table_of (run_keys version)) (codes "run") [] ms
    >>= (λ t. need (whole (step_limits 0)) (codes "steps") (codes "run") t
    >>= (λ steps. need (whole (step_limits 1)) (codes "every") (codes "run") t
    >>= (λ every. filter_in version t
    >>= (λ filter. Ok (record { steps = steps; every = every; filter = filter })))))

-- the steps of a run that goes on behind so many, no fewer than these and not too many
unfoldable pub steps_fit : ℕ → ℕ → Walked (Unit {0})
steps_fit least steps =
    within (step_limits least) (key_at (codes "run") (codes "steps")) (pos steps) >>= (λ _. Ok tt)

-- the multipliers of the fields
unfoldable pub scale : Members → Walked Scales
scale ms =
    need (table_of scale_keys) (codes "scale") [] ms
    >>= (λ t. need multiplier (codes "e_to_b") (codes "scale") t
    >>= (λ e_to_b. need multiplier (codes "b_to_e") (codes "scale") t
    >>= (λ b_to_e. need multiplier (codes "e_force") (codes "scale") t
    >>= (λ e_force. need multiplier (codes "b_force") (codes "scale") t
    >>= (λ b_force. Ok (record { e_to_b = e_to_b; b_to_e = b_to_e; e_force = e_force; b_force = b_force }))))))

-- the version of a deck, and its grid, run and scales
unfoldable pub settings : Members → Walked Settings
settings ms =
    need (whole (from_to (pos 1) (pos most_version))) (codes "version") [] ms
    >>= (λ version. grid version ms
    >>= (λ g. run version ms
    >>= (λ r. scale ms
    >>= (λ scales. Ok (record { version = version; cells = g.0; tiles = g.1; steps = r.steps; every = r.every; filter = r.filter; scales = scales })))))
