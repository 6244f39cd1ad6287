-- The charge that a path carries through the edges of the grid (J. Villasenor and O. Buneman,
-- Comput. Phys. Commun. 69, 1992, 306), 12 times as in `simpson`. No edge here is wrapped.
use Rattle.std.specs.Prelude.{ℤ, pos, ℕ, ◌-ℤ◌, ◌*ℤ◌, if◌then◌else◌, List}
use Rattle.pic_num.specs.declared.axis.Axis.{Axis}
use Rattle.pic_num.specs.Flux.{simpson}
use Rattle.pic_num.specs.Space.{Spot, along, next_axis}
use Rattle.pic_grid.specs.Hat.{hat}
use Rattle.pic_grid.specs.Path.{same_int}
use Rattle.pic_grid.specs.Segment.{Piece}
use Rattle.pic_grid.specs.Sums.{sum_over}

-- the weight of a point for an edge, on one axis across the edge
abbrev pub edge_weight : ℕ → Axis → Spot → Spot → ℤ
edge_weight side axis p edge = hat side (along axis p) (along axis edge *ℤ pos side)

-- the flux of a charge q on one piece through an edge along an axis: by Simpson's rule where the
-- edge's index on that axis is that of the piece's cell, else 0. a0 and a1 are the weights of the
-- piece's start and end for the edge on the next axis, b0 and b1 those on the third.
unfoldable pub flux : ℕ → ℤ → Piece → Axis → Spot → ℤ
flux side q s axis edge =
    let second = next_axis axis in
    let third = next_axis second in
    let a0 = edge_weight side second s.from edge in
    let a1 = edge_weight side second s.to edge in
    let b0 = edge_weight side third s.from edge in
    let b1 = edge_weight side third s.to edge in
    let through = simpson q (along axis s.to -ℤ along axis s.from) a0 a1 b0 b1 in
    if same_int (along axis edge) (along axis s.cell) then through else pos 0

-- the flux of a charge q on all pieces of a path
unfoldable pub path_flux : ℕ → ℤ → List Piece → Axis → Spot → ℤ
path_flux side q pieces axis edge = sum_over (λ s. flux side q s axis edge) pieces
