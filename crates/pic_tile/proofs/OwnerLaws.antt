-- Whose cell a position lies in.
use Rattle.std.proofs.Common.{◌≡◌, ℕ, ◌<◌, [], ◌∷◌, All, get_or, subst, arith}
use Rattle.std.proofs.lemmas.Nat.{div_below}
use Rattle.pic_num.specs.declared.motion.Particle.{Particle}
use Rattle.pic_num.specs.Space.{Triple, triple}
use Rattle.pic_block.specs.Cells.{IsWithin}
use Rattle.pic_grid.specs.Hat.{IsInBox}
use Rattle.pic_tile.specs.Owners.{cell_of_point}

-- the cell of a position of the box is one of the cells
pub cell_within : (side : ℕ) (n point : Triple) → 0 < side → IsInBox side n point → IsWithin (cell_of_point side point) n
cell_within side n point some w = record {
  x = div_below point.x side n.x some w.x;
  y = div_below point.y side n.y some w.y;
  z = div_below point.z side n.z some w.z;
}

-- one particle of the box is a list of such
pub one_in_box : (side : ℕ) (n : Triple) (x : Particle) → IsInBox side n (triple x.x) → All (λ p. IsInBox side n (triple p.x)) (x ∷ [])
one_in_box side n x h = λ k d below. subst (λ (i : ℕ). IsInBox side n (triple (get_or (x ∷ []) i d).x)) (let e : 0 ≡ k = omega arith in e) h
