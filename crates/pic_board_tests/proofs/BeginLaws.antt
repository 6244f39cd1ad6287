-- Two particles at the begin of a push.
use Rattle.std.proofs.Common.{◌≡◌, ℕ, ◌<◌, ◌≤◌, List, [], ◌∷◌, length, sym, subst, arith}
use Rattle.std.proofs.lemmas.List.Elements.{All-nil, All-cons}
use Rattle.pic_num.specs.declared.motion.Particle.{Particle}
use Rattle.pic_num.specs.Space.{Triple, triple}
use Rattle.pic_grid.specs.Hat.{HasTwo, IsInBox}
use Rattle.pic_grid.specs.PushPhase.{CanShare}
use Rattle.pic_tile.specs.CoreState.{IsOpening, IsSoundFrame}
use Rattle.pic_tile.specs.Frame.{FrameValue}
use Rattle.pic_tile.specs.Parcels.{AreFreshTiles}
use Rattle.pic_tile.specs.Tile.{TileValue}
use Rattle.pic_tile.specs.Tiling.{Tiling, cells_of}
use Rattle.pic_core.proofs.StartLaws.{opening_of}

-- a place on the axis x, in the first two cells
pub near_in_box : (m : Tiling) (a : ℕ) → m.side ≡ 4096 → HasTwo (cells_of m) → a < 8192 → IsInBox m.side (cells_of m) (triple (a ∷ 0 ∷ 0 ∷ []))
near_in_box m a side two near =
    let n : Triple = cells_of m in
    let x : 2 ≤ n.x = two.x in
    let y : 2 ≤ n.y = two.y in
    let z : 2 ≤ n.z = two.z in
    subst (λ (s : ℕ). IsInBox s n (triple (a ∷ 0 ∷ 0 ∷ []))) (sym side)
    (record { x = omega (arith, x, near); y = omega (arith, y); z = omega (arith, z) })

pub opening_two : (f : FrameValue) (m : Tiling) (x y : Particle) (ts : List TileValue) → IsSoundFrame f → f.map ≡ m → AreFreshTiles m (x ∷ y ∷ []) ts
    → x.id ≡ 0 → y.id ≡ 1 → x.species < length f.kinds → y.species < length f.kinds
    → IsInBox m.side (cells_of m) (triple x.x) → IsInBox m.side (cells_of m) (triple y.x) → IsOpening f ts
opening_two f m x y ts sound same fresh first second own other near also =
    let Can : Particle → Type 0 = λ p. CanShare f.map.side (cells_of f.map) f.kinds p in
    let place : (p : Particle) → IsInBox m.side (cells_of m) (triple p.x) → IsInBox f.map.side (cells_of f.map) (triple p.x) = λ p is.
    subst (λ (n : Tiling). IsInBox n.side (cells_of n) (triple p.x)) (sym same) is in
    opening_of f (x ∷ y ∷ []) ts sound (subst (λ (n : Tiling). AreFreshTiles n (x ∷ y ∷ []) ts) (sym same) fresh)
    (record { identities = λ i. first i ∷ second i ∷ [] })
    (All-cons Can x (y ∷ []) (record { species = own; place = place x near })
    (All-cons Can y [] (record { species = other; place = place y also }) (All-nil Can)))
    (omega arith)
