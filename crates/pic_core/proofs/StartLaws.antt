-- What a push of all tiles can begin with: tiles into which a list is cut.
use Rattle.std.proofs.Common.{◌≡◌, ◌<◌, ◌≤◌, All, List, [], ◌∷◌, length, sym, subst, arith}
use Rattle.std.proofs.lemmas.List.Elements.{All-nil, All-cons, All-weaker}
use Rattle.pic_num.specs.declared.motion.Particle.{Particle}
use Rattle.pic_num.specs.Limits.{most_particles}
use Rattle.pic_num.specs.Space.{triple}
use Rattle.pic_grid.specs.Hat.{IsInBox}
use Rattle.pic_grid.specs.PushPhase.{CanShare}
use Rattle.pic_tile.specs.InOrder.{AreOrdered}
use Rattle.pic_tile.proofs.StandForLaws.{stands_list}
use Rattle.pic_tile.specs.CoreState.{IsOpening, IsSoundFrame, all_particles}
use Rattle.pic_tile.specs.Frame.{FrameValue}
use Rattle.pic_tile.specs.Held.{chains_of}
use Rattle.pic_tile.specs.Owners.{tile_of}
use Rattle.pic_tile.specs.Parcels.{AreFreshTiles}
use Rattle.pic_tile.specs.Tile.{TileValue}
use Rattle.pic_tile.specs.Tiling.{Tiling, cells_of}
use Rattle.pic_tile.proofs.HeldLaws.{fresh_stand}

-- fresh tiles of a list within the limits can be pushed, and the list is found from them
pub opening_of : (f : FrameValue) (xs : List Particle) (ts : List TileValue) → IsSoundFrame f → AreFreshTiles f.map xs ts → AreOrdered xs
    → All (CanShare f.map.side (cells_of f.map) f.kinds) xs → length xs ≤ most_particles → IsOpening f ts
opening_of f xs ts sound fresh ordered can few =
    let some : 0 < f.map.side = (let least = sound.least in omega (arith, least)) in
    let inside = All-weaker (CanShare f.map.side (cells_of f.map) f.kinds)
    (λ x. IsInBox f.map.side (cells_of f.map) (triple x.x)) (λ x share. share.place) xs can in
    let same : all_particles ts ≡ xs =
    stands_list (tile_of f.map) (chains_of ts) xs (fresh_stand f.map xs ts some sound.map.thick inside fresh) ordered in
    record {
      fresh = subst (λ (ys : List Particle). AreFreshTiles f.map ys ts) (sym same) fresh;
      ordered = subst (λ (ys : List Particle). AreOrdered ys) (sym same) ordered;
      can = subst (λ (ys : List Particle). All (CanShare f.map.side (cells_of f.map) f.kinds) ys) (sym same) can;
      few = subst (λ (ys : List Particle). length ys ≤ most_particles) (sym same) few;
    }

-- the tiles of one particle can be
pub opening_one : (f : FrameValue) (m : Tiling) (x : Particle) (ts : List TileValue) → IsSoundFrame f → f.map ≡ m → AreFreshTiles m (x ∷ []) ts
    → x.id ≡ 0 → x.species < length f.kinds → IsInBox m.side (cells_of m) (triple x.x) → IsOpening f ts
opening_one f m x ts sound same fresh first species place =
    opening_of f (x ∷ []) ts sound (subst (λ (n : Tiling). AreFreshTiles n (x ∷ []) ts) (sym same) fresh)
    (record { identities = λ i. first i ∷ [] })
    (All-cons (CanShare f.map.side (cells_of f.map) f.kinds) x []
    (record { species = species; place = subst (λ (n : Tiling). IsInBox n.side (cells_of n) (triple x.x)) (sym same) place })
    (All-nil (CanShare f.map.side (cells_of f.map) f.kinds)))
    (omega arith)
