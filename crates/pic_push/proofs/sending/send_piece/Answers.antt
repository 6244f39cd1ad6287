use Rattle.std.proofs.Common.{ap, sym, subst, ◌∙◌}
use Rattle.std.proofs.Math.Decide.{ℕ_discrete}
use Rattle.pic_num.specs.Space.{Spot, Triple, triple, spot}
use Rattle.pic_grid.specs.Flux.{flux}
use Rattle.pic_grid.specs.Segment.{Piece}
use Rattle.pic_tile.specs.Directions.{here}
use Rattle.pic_tile.specs.Tile.{parcel_at}
use Rattle.pic_push.specs.declared.region.Region.{Region}
use Rattle.pic_push.specs.Region.{LiesIn}
use Rattle.pic_push.specs.Sends.{HasParcelsWithin, most_sent}
use Rattle.pic_push.proofs.GainLaws.{no_parcel, gains_still}
use Rattle.pic_push.proofs.RegionLaws.{inside_up, reach_to, reached, inside_alone, inside_edges}
use Rattle.pic_push.proofs.TrackLaws.{wide_room}
use Rattle.pic_push.proofs.UnreachedLaws.{piece_clear}
use Rattle.pic_push.proofs.sending.send_piece.Goals as goal
use Rattle.pic_push.proofs.sending.send_piece.Goals.{After-region_of}

-- the piece's cell is at that region of the tile, and of the own block
region_is : (c : After-region_of) → LiesIn c.region_of.result (spot c.args.zone.low) (triple c.args.zone.size) c.args.piece.now.cell
region_is c =
    subst (λ (e : Spot). LiesIn c.region_of.result (spot c.args.zone.low) (triple c.args.zone.size) e) (ap (λ (t : Piece). t.cell) c.piece.view_is)
    c.region_of.ensures

own_region : (c : After-region_of) → LiesIn c.region_of.result c.args.own.now.flux.low c.args.own.now.flux.size c.args.piece.now.cell
own_region c =
    let e = c.args.piece.now.cell in
    subst (λ (l : Spot). LiesIn c.region_of.result l c.args.own.now.flux.size e) (sym c.requires.room.low_is)
    (subst (λ (n : Triple). LiesIn c.region_of.result (spot c.args.zone.low) n e) (sym c.requires.room.size_is) (region_is c))

own_open : (c : After-region_of) → HasParcelsWithin most_sent c.args.own.now.flux.low c.args.own.now.flux.size c.args.tile.now
own_open c =
    subst (λ (l : Spot). HasParcelsWithin most_sent l c.args.own.now.flux.size c.args.tile.now) (sym c.requires.room.low_is)
    (subst (λ (n : Triple). HasParcelsWithin most_sent (spot c.args.zone.low) n c.args.tile.now) (sym c.requires.room.size_is) c.requires.open)

pub deposit_inside-requires-clause-edges : goal.deposit_inside-requires-clause-edges
deposit_inside-requires-clause-edges c =
    let b = c.args.own.now.flux in
    let e = c.args.piece.now.cell in
    inside_edges b.low b.size e
    (subst (λ (p : Region). LiesIn p b.low b.size e) c.in-Inside.is (own_region (goal.at.deposit_inside-requires-clause-edges c).After-region_of))

pub deposit_inside-requires-clause-room : goal.deposit_inside-requires-clause-room
deposit_inside-requires-clause-room c = wide_room c.args.own.now.flux c.requires.room.most

pub returns-in-Inside-clause-others : goal.returns-in-Inside-clause-others
returns-in-Inside-clause-others c =
    let low = spot c.args.zone.low in
    let size = triple c.args.zone.size in
    let s = c.args.piece.now in
    let at = subst (λ (p : Region). LiesIn p low size s.cell) c.in-Inside.is (region_is (goal.at.returns-in-Inside-clause-others c).After-region_of) in
    gains_still (flux c.args.sub c.args.q s) c.args.tile.now
    (λ d p few is. elim (ℕ_discrete d here) [
      | yes same ↦ absurd (no_parcel p (sym c.requires.open.apart ∙ ap (parcel_at c.args.tile.now) (sym same) ∙ is))
      | no other ↦
          piece_clear c.args.sub c.args.q s low size (reach_to here) most_sent d p c.requires.inside (reached here low size s.cell inside_up at) few
          (inside_alone d few other) (c.requires.open.room d p few is)
    ])
