-- What is gathered at a point by its places is the force there.
use Rattle.std.proofs.Common.{◌≡◌, ◌/◌, subst}
use Rattle.pic_num.specs.Space.{Triple, Spot}
use Rattle.pic_block.specs.Cells.{Grid}
use Rattle.pic_grid.specs.Gather.{gathered_e, gathered_b}
use Rattle.pic_grid.specs.Lattice.{Field, value_at}
use Rattle.pic_gather.specs.Sides.{ArePlacesOf, Gathers}
use Rattle.pic_gather.specs.declared.sides.Places.{Places}

-- a point's places in a lattice of these cells
module _ (f : Field) (cells : Grid) (point : Triple) (at : Places) (n_is : cells.n ≡ f.cells) (side_is : cells.side ≡ f.side)
    (are : ArePlacesOf cells.side cells.n point at)
  where
    here : ArePlacesOf f.side f.cells point at
    here = subst (λ (g : Grid). ArePlacesOf g.side g.n point at) (λ i. record { n = n_is i; side = side_is i }) are

    pub e_is : (r : Spot) → Gathers f at.middles at.nodes r → r ≡ gathered_e f.side f.cells (value_at f) point
    e_is r gathers = gathers (f.side / 2) 0 point here.middles here.nodes

    pub b_is : (r : Spot) → Gathers f at.nodes at.middles r → r ≡ gathered_b f.side f.cells (value_at f) point
    b_is r gathers = gathers 0 (f.side / 2) point here.nodes here.middles
