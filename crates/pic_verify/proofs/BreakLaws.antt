-- The break of a frame that was read.
use Rattle.std.proofs.Common.{◌≡◌, List, Option, pos, ap, ◌∙◌}
use Rattle.std.specs.Prelude.{All, slice_index_or}
use Rattle.pic_num.specs.declared.motion.Kind.{Kind}
use Rattle.pic_num.specs.declared.motion.Particle.{Particle}
use Rattle.pic_block.specs.Cells.{place_of}
use Rattle.pic_grid.specs.Differences.{div_e}
use Rattle.pic_grid.specs.Lattice.{Field, value_at}
use Rattle.pic_grid.specs.PushPhase.{CanShare}
use Rattle.pic_charge.specs.declared.breaks.Break.{Break}
use Rattle.pic_charge.specs.Charge.{rho_of}
use Rattle.pic_charge.specs.ChargeRoom.{RoomView}
use Rattle.pic_charge.specs.Gauss.{first_break}
use Rattle.pic_record.specs.Layout.{LayoutView}
use Rattle.pic_record.specs.FrameFields.{IsHeld, field_with}
use Rattle.pic_verify.specs.Verified.{break_of, IsRoomFor}

-- every particle of a frame has a share of the charge
pub can_share : (l : LayoutView) (e b : Field) (particles : List Particle) → IsHeld l e b particles → All (CanShare l.side l.cells l.kinds) particles
can_share l e b particles held = λ k d below. record { species = (held.species k d below).species; place = (held.places k d below).place }

-- what is found in room for the charge of a frame
pub break_found : (l : LayoutView) (room : RoomView) (e : Field) (particles others : List Particle) (kinds : List Kind) (found : Option Break)
    → e.cells ≡ l.cells → IsRoomFor l room → kinds ≡ l.kinds → others ≡ particles
    → found ≡ first_break room.grid.n (div_e room.grid.n (value_at e)) (rho_of room.grid.side room.filter room.grid.n kinds others)
    → found ≡ break_of l e.values particles
unfolding break_of
break_found l room e particles others kinds found e_cells of kinds_is same is =
    is
    ∙ ap (λ cells. first_break room.grid.n (div_e room.grid.n (λ a p. slice_index_or e.values (place_of cells a p) (pos 0)))
    (rho_of room.grid.side room.filter room.grid.n kinds others)) e_cells
    ∙ (λ i. first_break (of.cells i) (div_e (of.cells i) (value_at (field_with l e.values)))
    (rho_of (of.side i) (of.filter i) (of.cells i) (kinds_is i) (same i)))
