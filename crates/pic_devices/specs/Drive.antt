-- The loops of current that drive a run, as a deck says them: the walk of the tables `drive`, this
-- project's profile.
use Rattle.std.specs.Prelude.{ℕ, ℤ, pos, List, [], ◌∷◌, codes, Ok}
use Rattle.toml.specs.Data.{Data, Members}
use Rattle.pic_num.specs.declared.axis.Axis.{Axis}
use Rattle.pic_num.specs.Limits.{most_loops, most_wave, most_drive}
use Rattle.pic_num.specs.Space.{Triple}
use Rattle.pic_block.specs.Cells.{axis_of}
use Rattle.pic_grid.specs.declared.loops.Loop.{Loop}
use Rattle.pic_walk.specs.declared.limits.Limits.{Limits}
use Rattle.pic_walk.specs.Limits.{from_to, either_way, below}
use Rattle.pic_walk.specs.Walk.{Walked, ◌>>=◌, within, limited, whole, three, elements, count_of_items, each, table_of, need}
use Rattle.pic_devices.specs.Lists.{list_within}

-- the keys of a driven loop
abbrev pub loop_keys : List (List ℕ)
loop_keys = codes "axis" ∷ codes "cell" ∷ codes "wave" ∷ []

-- an axis by its number
abbrev pub axis_limits : Limits
axis_limits = from_to (pos 0) (pos 2)

-- an axis
unfoldable pub axis : List ℕ → Data → Walked Axis
axis path d = whole axis_limits path d >>= (λ number. Ok (axis_of number))

-- one of the n cells
abbrev pub cell_limits : Triple → List Limits
cell_limits n = below n.x ∷ below n.y ∷ below n.z ∷ []

-- a number of a wave
abbrev pub drive_limits : Limits
drive_limits = either_way most_drive

-- how many numbers a wave has
abbrev pub wave_limits : Limits
wave_limits = from_to (pos 1) (pos most_wave)

-- the next number of a wave
unfoldable pub amplitude : List ℤ → List ℕ → Data → Walked ℤ
amplitude done path d = limited drive_limits path d

-- a wave: its numbers, and then how many there are
unfoldable pub wave : List ℕ → Data → Walked (List ℤ)
wave path d = list_within wave_limits amplitude path d

-- the loop that a table is
unfoldable pub loop_in : Triple → List ℕ → Members → Walked Loop
loop_in n path t =
    need axis (codes "axis") path t
    >>= (λ a. need (three (cell_limits n)) (codes "cell") path t
    >>= (λ cell. need wave (codes "wave") path t
    >>= (λ numbers. Ok (record { axis = a; cell = cell; wave = numbers }))))

-- the next loop
unfoldable pub one_loop : Triple → List Loop → List ℕ → Data → Walked Loop
one_loop n done path d = table_of loop_keys path d >>= loop_in n path

-- all loops on n cells: how many there are, and then each
unfoldable pub drive_list : Triple → List ℕ → Data → Walked (List Loop)
drive_list n path d =
    elements path d
    >>= (λ ds. within (from_to (pos 0) (pos most_loops)) path (pos (count_of_items ds))
    >>= (λ _. each (one_loop n) path [] ds))
