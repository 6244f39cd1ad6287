-- The definitions of weights, fluxes, paths and gathers, computed on worked rows.
use Rattle.std.specs.Prelude.{◌≡◌, ℤ, pos, negsuc, ℕ, ◌*◌, List, [], ◌∷◌, map, refl, if◌then◌else◌, ◌==◌, ◌&&◌}
use Rattle.pic_num.specs.declared.axis.Axis.{Axis}
use Rattle.pic_num.specs.declared.axis.Axis.TheVariants.{X, Z}
use Rattle.pic_num.specs.Flux.{simpson}
use Rattle.pic_num.specs.Rounding.{rounded, truncated}
use Rattle.pic_num.specs.Space.{Triple, Spot}
use Rattle.pic_grid.specs.Current.{sum_images, wrapped}
use Rattle.pic_grid.specs.Flux.{flux, path_flux}
use Rattle.pic_grid.specs.Gather.{gathered, gathered_b, gathered_e, offset_e, shifted_weight}
use Rattle.pic_grid.specs.Hat.{hat, periodic_hat, weight}
use Rattle.pic_grid.specs.Path.{floor_of, same_int, crossing, is_before, put, crossings, break_on, step_on, walk, path}
use Rattle.pic_grid.specs.Sums.{sum_over, sum_below, sum_cells}

-- a grid of two cells on each axis
abbrev small : Triple
small = record { x = 2; y = 2; z = 2 }

abbrev at : ℕ → ℕ → ℕ → Triple
at x y z = record { x = x; y = y; z = z }

abbrev spot_of : ℤ → ℤ → ℤ → Spot
spot_of x y z = record { x = x; y = y; z = z }

abbrev near : ℕ → ℕ → ℕ → Spot
near x y z = record { x = pos x; y = pos y; z = pos z }

-- charge: 12 times the weight

abbrev charge_at : Triple → Triple → ℕ
charge_at point node = 12 * weight 4096 small point node

node_has_its_whole_charge : charge_at (at 0 0 0) (at 0 0 0) ≡ 824633720832
unfolding weight periodic_hat
node_has_its_whole_charge = refl

other_node_has_none : charge_at (at 0 0 0) (at 1 0 0) ≡ 0
unfolding weight periodic_hat
other_node_has_none = refl

all_nodes : List Triple
all_nodes = at 0 0 0 ∷ at 1 0 0 ∷ at 0 1 0 ∷ at 1 1 0 ∷ at 0 0 1 ∷ at 1 0 1 ∷ at 0 1 1 ∷ at 1 1 1 ∷ []

centre_charges_eight_nodes_alike : map (charge_at (at 2048 2048 2048)) all_nodes
    ≡ 103079215104 ∷ 103079215104 ∷ 103079215104 ∷ 103079215104 ∷ 103079215104 ∷ 103079215104 ∷ 103079215104 ∷ 103079215104 ∷ []
unfolding weight periodic_hat all_nodes
centre_charges_eight_nodes_alike = refl

-- paths

break_point_up : path 4096 (near 4000 100 0) (near 200 3 0)
    ≡ record { from = near 4000 100 0; to = near 4096 101 0; cell = near 0 0 0 }
    ∷ record { from = near 4096 101 0; to = near 4200 103 0; cell = near 1 0 0 }
    ∷ []
unfolding path walk crossings crossing floor_of same_int is_before put break_on truncated step_on
break_point_up = refl

break_point_is_truncated_towards_the_start : path 4096 (near 4000 100 0) (spot_of (pos 200) (negsuc 2) (pos 0))
    ≡ record { from = near 4000 100 0; to = near 4096 99 0; cell = near 0 0 0 }
    ∷ record { from = near 4096 99 0; to = near 4200 97 0; cell = near 1 0 0 }
    ∷ []
unfolding path walk crossings crossing floor_of same_int is_before put break_on truncated step_on
break_point_is_truncated_towards_the_start = refl

corner_crossing_has_four_pieces : path 4096 (near 4090 4090 4090) (near 12 12 12)
    ≡ record { from = near 4090 4090 4090; to = near 4096 4096 4096; cell = near 0 0 0 }
    ∷ record { from = near 4096 4096 4096; to = near 4096 4096 4096; cell = near 1 0 0 }
    ∷ record { from = near 4096 4096 4096; to = near 4096 4096 4096; cell = near 1 1 0 }
    ∷ record { from = near 4096 4096 4096; to = near 4102 4102 4102; cell = near 1 1 1 }
    ∷ []
unfolding path walk crossings crossing floor_of same_int is_before put break_on truncated step_on
corner_crossing_has_four_pieces = refl

later_fraction_comes_later : path 4096 (near 4000 4094 0) (near 200 12 0)
    ≡ record { from = near 4000 4094 0; to = near 4033 4096 0; cell = near 0 0 0 }
    ∷ record { from = near 4033 4096 0; to = near 4096 4099 0; cell = near 0 1 0 }
    ∷ record { from = near 4096 4099 0; to = near 4200 4106 0; cell = near 1 1 0 }
    ∷ []
unfolding path walk crossings crossing floor_of same_int is_before put break_on truncated step_on
later_fraction_comes_later = refl

face_is_crossed_at_once_going_back : path 4096 (near 8192 0 0) (spot_of (negsuc 4095) (pos 0) (pos 0))
    ≡ record { from = near 8192 0 0; to = near 8192 0 0; cell = near 2 0 0 }
    ∷ record { from = near 8192 0 0; to = near 4096 0 0; cell = near 1 0 0 }
    ∷ []
unfolding path walk crossings crossing floor_of same_int is_before put break_on truncated step_on
face_is_crossed_at_once_going_back = refl

-- fluxes of charge 1

abbrev flux_of : Spot → Spot → Axis → Spot → ℤ
flux_of p d a edge = path_flux 4096 (pos 1) (path 4096 p d) a edge

straight_move : flux_of (near 1024 0 0) (near 2048 0 0) X (near 0 0 0) ≡ pos 412316860416
unfolding path_flux sum_over flux simpson hat path walk crossings crossing floor_of same_int is_before put break_on truncated step_on
straight_move = refl

abbrev edges_round : Spot → Axis → List ℤ
edges_round d a = map (flux_of (near 0 0 0) d a) (near 0 0 0 ∷ near 0 1 0 ∷ near 0 0 1 ∷ near 0 1 1 ∷ near 1 0 0 ∷ [])

plane_diagonal : edges_round (near 2048 2048 0) X ≡ pos 309237645312 ∷ pos 103079215104 ∷ pos 0 ∷ pos 0 ∷ pos 0 ∷ []
unfolding path_flux sum_over flux simpson hat path walk crossings crossing floor_of same_int is_before put break_on truncated step_on
plane_diagonal = refl

space_diagonal : edges_round (near 2048 2048 2048) X
    ≡ pos 240518168576 ∷ pos 68719476736 ∷ pos 68719476736 ∷ pos 34359738368 ∷ pos 0 ∷ []
unfolding path_flux sum_over flux simpson hat path walk crossings crossing floor_of same_int is_before put break_on truncated step_on
space_diagonal = refl

space_diagonal_along_z : map (flux_of (near 0 0 0) (near 2048 2048 2048) Z) (near 0 0 0 ∷ near 1 0 0 ∷ near 0 1 0 ∷ near 1 1 0 ∷ near 0 0 1 ∷ [])
    ≡ pos 240518168576 ∷ pos 68719476736 ∷ pos 68719476736 ∷ pos 34359738368 ∷ pos 0 ∷ []
unfolding path_flux sum_over flux simpson hat path walk crossings crossing floor_of same_int is_before put break_on truncated step_on
space_diagonal_along_z = refl

whole_cell_back : map (flux_of (near 8192 0 0) (spot_of (negsuc 4095) (pos 0) (pos 0)) X) (near 1 0 0 ∷ near 2 0 0 ∷ near 0 0 0 ∷ [])
    ≡ negsuc 824633720831 ∷ pos 0 ∷ pos 0 ∷ []
unfolding path_flux sum_over flux simpson hat path walk crossings crossing floor_of same_int is_before put break_on truncated step_on
whole_cell_back = refl

-- over the edge of a box of four cells on x

wraps_at_the_box : map (wrapped (at 4 2 2) (flux_of (near 100 0 0) (spot_of (negsuc 199) (pos 0) (pos 0)) X))
    (at 0 0 0 ∷ at 3 0 0 ∷ at 1 0 0 ∷ at 2 0 0 ∷ at 0 1 0 ∷ [])
    ≡ negsuc 20132659199 ∷ negsuc 20132659199 ∷ pos 0 ∷ pos 0 ∷ pos 0 ∷ []
unfolding wrapped sum_images path_flux sum_over flux simpson hat path walk crossings crossing floor_of same_int is_before put break_on truncated step_on
wraps_at_the_box = refl

-- gathers of Ex, of one force value at the place (0, 0, 0)

abbrev lone : ℤ → Triple → ℤ
lone v p = if p.x == 0 && (p.y == 0 && p.z == 0) then v else pos 0

abbrev gathered_x : ℤ → Triple → ℤ
gathered_x v point = gathered 4096 small (offset_e 4096 X) (lone v) point

half_side_from_its_place : gathered_x (pos 8) (at 0 0 0) ≡ pos 4
unfolding gathered sum_cells sum_below shifted_weight periodic_hat rounded
half_side_from_its_place = refl

at_its_place : gathered_x (pos 8) (at 2048 0 0) ≡ pos 8
unfolding gathered sum_cells sum_below shifted_weight periodic_hat rounded
at_its_place = refl

one_cell_away : gathered_x (pos 8) (at 0 4096 0) ≡ pos 0
unfolding gathered sum_cells sum_below shifted_weight periodic_hat rounded
one_cell_away = refl

half_is_rounded_up : gathered_x (pos 1) (at 0 0 0) ≡ pos 1
unfolding gathered sum_cells sum_below shifted_weight periodic_hat rounded
half_is_rounded_up = refl

minus_half_is_rounded_up : gathered_x (negsuc 0) (at 0 0 0) ≡ pos 0
unfolding gathered sum_cells sum_below shifted_weight periodic_hat rounded
minus_half_is_rounded_up = refl

-- gathers of all components, each with one force value, 8, at its place in the cell (0, 0, 0)

abbrev lone_ones : Axis → Triple → ℤ
lone_ones a p = lone (pos 8) p

e_at_the_places_of_its_components : map (gathered_e 4096 small lone_ones) (at 2048 0 0 ∷ at 0 2048 0 ∷ at 0 0 2048 ∷ [])
    ≡ near 8 2 2 ∷ near 2 8 2 ∷ near 2 2 8 ∷ []
unfolding gathered sum_cells sum_below shifted_weight periodic_hat rounded
e_at_the_places_of_its_components = refl

b_at_the_places_of_its_components : map (gathered_b 4096 small lone_ones) (at 0 2048 2048 ∷ at 2048 0 2048 ∷ at 2048 2048 0 ∷ [])
    ≡ near 8 2 2 ∷ near 2 8 2 ∷ near 2 2 8 ∷ []
unfolding gathered sum_cells sum_below shifted_weight periodic_hat rounded
b_at_the_places_of_its_components = refl
