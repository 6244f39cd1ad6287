-- The push phase and its current, computed on worked rows.
use Rattle.std.specs.Prelude.{◌≡◌, ℤ, pos, negsuc, ℕ, ◌-ℤ◌, ◌*ℤ◌, List, [], ◌∷◌, map, refl, Some, None}
use Rattle.pic_num.specs.declared.axis.Axis.TheVariants.{X}
use Rattle.pic_num.specs.declared.motion.What.TheVariants.{Far}
use Rattle.pic_num.specs.declared.motion.Particle.{Particle}
use Rattle.pic_num.specs.declared.motion.Kind.{Kind}
use Rattle.pic_num.specs.First.{first_of}
use Rattle.pic_num.specs.Flux.{simpson}
use Rattle.pic_num.specs.Multiplier.{Multiplier}
use Rattle.pic_num.specs.Push.{pushed, turned, half_turned, cross, dot, first_above}
use Rattle.pic_num.specs.Rounding.{rounded, scaled, truncated, residue}
use Rattle.pic_num.specs.Space.{Triple, Spot, unwrapped}
use Rattle.pic_grid.specs.declared.stop.Stop.TheVariants.{Push}
use Rattle.pic_grid.specs.Current.{sum_images, wrapped, flux_after, current}
use Rattle.pic_grid.specs.Differences.{div_e}
use Rattle.pic_grid.specs.Flux.{flux, path_flux}
use Rattle.pic_grid.specs.Gather.{gathered, shifted_weight}
use Rattle.pic_grid.specs.Hat.{hat, periodic_hat, weight}
use Rattle.pic_grid.specs.Path.{floor_of, same_int, crossing, is_before, put, crossings, break_on, step_on, walk, path}
use Rattle.pic_grid.specs.PushPhase.{Surroundings, push_of, moved, after_push, moved_all, halt_of, push_stop}
use Rattle.pic_grid.specs.Sums.{sum_over, sum_below, sum_cells}

abbrev cell : ℕ → ℕ → ℕ → Triple
cell x y z = record { x = x; y = y; z = z }

abbrev no_multiplier : Multiplier
no_multiplier = record { n = pos 0; k = 0 }

abbrev ions : Kind
ions = record { charge = pos 1; mass = 1; kick = no_multiplier; turn = no_multiplier }

abbrev electrons : Kind
electrons = record { charge = negsuc 0; mass = 1; kick = no_multiplier; turn = no_multiplier }

-- two species and no field, on two cells an axis
abbrev still : Surroundings
still = record { side = 4096; cells = cell 2 2 2; kinds = ions ∷ electrons ∷ []; of_e = λ a p. pos 0; of_b = λ a p. pos 0 }

-- an ion at rest, and an electron there that moves by half a cell
abbrev ion : Particle
ion = record { id = 0; species = 0; x = 1024 ∷ 0 ∷ 0 ∷ []; v = pos 0 ∷ pos 0 ∷ pos 0 ∷ [] }

abbrev electron : Particle
electron = record { id = 1; species = 1; x = 1024 ∷ 0 ∷ 0 ∷ []; v = pos 8388608 ∷ pos 0 ∷ pos 0 ∷ [] }

-- a particle that would move by two cells
abbrev fast : ℕ → Particle
fast id = record { id = id; species = 1; x = 1024 ∷ 0 ∷ 0 ∷ []; v = pos 33554432 ∷ pos 0 ∷ pos 0 ∷ [] }

electron_moves_half_a_cell : moved_all still (ion ∷ electron ∷ [])
    ≡ ion ∷ record electron { x = 3072 ∷ 0 ∷ 0 ∷ [] } ∷ []
unfolding moved_all push_of after_push moved residue pushed turned half_turned cross dot first_above first_of scaled rounded gathered sum_cells sum_below
    shifted_weight periodic_hat
electron_moves_half_a_cell = refl

nothing_stops_them : push_stop still (ion ∷ electron ∷ []) ≡ None
unfolding push_stop halt_of push_of pushed turned half_turned cross dot first_above first_of scaled rounded gathered sum_cells sum_below
    shifted_weight periodic_hat
nothing_stops_them = refl

electron_carries_its_charge_back : map (current still (ion ∷ electron ∷ []) X) (cell 0 0 0 ∷ cell 1 0 0 ∷ cell 0 1 0 ∷ cell 0 0 1 ∷ [])
    ≡ negsuc 412316860415 ∷ pos 0 ∷ pos 0 ∷ pos 0 ∷ []
unfolding current flux_after wrapped sum_images path_flux sum_over flux simpson hat path walk crossings crossing floor_of same_int is_before put break_on
    truncated step_on push_of pushed turned half_turned cross dot first_above first_of scaled rounded gathered sum_cells sum_below shifted_weight periodic_hat
electron_carries_its_charge_back = refl

first_fast_one_is_the_stop : push_stop still (ion ∷ fast 1 ∷ fast 2 ∷ []) ≡ Some (Push 1 Far X (pos 8192))
unfolding push_stop halt_of push_of pushed turned half_turned cross dot first_above first_of scaled rounded gathered sum_cells sum_below
    shifted_weight periodic_hat
first_fast_one_is_the_stop = refl

fast_ones_stand_still : moved_all still (fast 0 ∷ []) ≡ fast 0 ∷ []
unfolding moved_all push_of after_push moved residue pushed turned half_turned cross dot first_above first_of scaled rounded gathered sum_cells sum_below
    shifted_weight periodic_hat
fast_ones_stand_still = refl

fast_ones_carry_nothing : current still (fast 0 ∷ []) X (cell 0 0 0) ≡ pos 0
unfolding current flux_after wrapped sum_images path_flux sum_over flux simpson hat path walk crossings crossing floor_of same_int is_before put break_on
    truncated step_on push_of pushed turned half_turned cross dot first_above first_of scaled rounded gathered sum_cells sum_below shifted_weight periodic_hat
fast_ones_carry_nothing = refl

-- the law of continuity on one path through a corner and over the edge of the box: what the current
-- takes out of each node is the fall of its charge

abbrev nodes : List Triple
nodes = cell 0 0 0 ∷ cell 1 0 0 ∷ cell 0 1 0 ∷ cell 1 1 0 ∷ cell 0 0 1 ∷ cell 1 0 1 ∷ cell 0 1 1 ∷ cell 1 1 1 ∷ []

abbrev outflow : Triple → Spot → Triple → ℤ
outflow p d node = div_e (cell 2 2 2) (λ a. wrapped (cell 2 2 2) (path_flux 4096 (pos 3) (path 4096 (unwrapped p) d) a)) node

abbrev fall : Triple → Triple → Triple → ℤ
fall p q node = pos 36 *ℤ pos (weight 4096 (cell 2 2 2) p node) -ℤ pos 36 *ℤ pos (weight 4096 (cell 2 2 2) q node)

current_meets_charge_at_a_corner : map (outflow (cell 4000 4094 8190) (record { x = pos 200; y = pos 12; z = pos 4 })) nodes
    ≡ map (fall (cell 4000 4094 8190) (cell 4200 4106 2)) nodes
unfolding wrapped sum_images path_flux sum_over flux simpson hat path walk crossings crossing floor_of same_int is_before put break_on truncated step_on
    weight periodic_hat
current_meets_charge_at_a_corner = refl
