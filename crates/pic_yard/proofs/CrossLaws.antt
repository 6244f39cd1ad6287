-- A board may be shared by threads, and a seat at it may go to another.
use denote.Param.Send.{IsSend, IsSync, sendable, enum_send, recorded_send, struct_send}
use denote.Enum.Declared.{shape as shape_of}
use denote.Enum.Enum.{Enum}
use denote.RattleType.{RattleType}
use denote.Struct.Declared.{Declared, shape}
use denote.Struct.Struct.{Struct}
use denote.Struct.Tuple.{TupleAt, type_at}
use mir.Syntax.{Sym}
use Rattle.std.proofs.Common.{[], ◌∷◌}
use Rattle.std.proofs.Crossing as std
use Rattle.std.proofs.alloc.Global.TheSendSync as global
use Rattle.std.specs.contracts.option.Option as option
use Rattle.atomic_table.proofs.send_lease.SendLease.TheSendSync as lease
use Rattle.atomic_table.proofs.shared.Seat.TheSendSync as seats
use Rattle.atomic_table.proofs.shared.Shared.TheSendSync as shared
use Rattle.atomic_table.specs.contracts.shared.Seat as seat
use Rattle.pic_chain.proofs.node.Node.TheLaws.TheKnot as knot
use Rattle.pic_block.proofs.block.Block.TheSendSync as block
use Rattle.pic_grid.proofs.stop.Stop.TheSendSync as stop
use Rattle.pic_tile.proofs.dir.Dir.TheSendSync as dir
use Rattle.pic_tile.proofs.frame.Frame.TheSendSync as frame
use Rattle.pic_tile.specs.contracts.parcel.Parcel as parcel
use Rattle.pic_tile.specs.contracts.parcel.ParcelBox as boxed
use Rattle.pic_tile.specs.contracts.tile.Tile as tile
use Rattle.pic_yard.specs.contracts.slot_content.Berth as berth
use Rattle.pic_yard.specs.contracts.slot_content.SlotContent as holds
use Rattle.pic_yard.specs.contracts.view.View as view
use Rattle.pic_yard.specs.contracts.yard.Yard as yard

parcel_send : IsSend (parcel.the_field).row
parcel_send = search (sendable, std.crosses, knot.send-Node, block.the_send, stop.the_send, dir.the_send) depth 30 fits 4000

parcel_sync : IsSync (parcel.the_field).row
parcel_sync = search (sendable, std.crosses, knot.sync-Node, block.the_sync, stop.the_sync, dir.the_sync) depth 30 fits 4000

boxed_send : IsSend (boxed.the_field).row
boxed_send = search (sendable, std.crosses, parcel_send) depth 30 fits 4000

tile_send : IsSend tile.the_row
tile_send = search (sendable, std.crosses, boxed_send) depth 30 fits 4000

tile_sync : IsSync tile.the_row
tile_sync = search (sendable, std.crosses, parcel_sync) depth 30 fits 4000

pub berth_send : IsSend berth.the_row
berth_send = search (sendable, std.crosses, tile_send) depth 30 fits 4000

content_send : IsSend holds.the_row
content_send =
    let whole : IsSend (Enum (shape_of holds.the_type)) = enum_send (shape_of holds.the_type) ((berth_send, tt), ((boxed_send, tt), tt)) in
    recorded_send _ _ _ (holds.the_type).to_one whole

pub yard_sync : IsSync yard.the_row
yard_sync = search (sendable, std.crosses, content_send, tile_sync, frame.the_sync, lease.the_sync, shared.the_sync, global.the_sync, global.the_send) depth 40
    fits 8000

pub seat_send : IsSend (seat.the_row (option.the_row holds.the_row) view.the_row)
seat_send = search (sendable, std.crosses, seats.the_send, content_send) depth 30 fits 4000

-- so may a closure with two things that each may go
pub pair_send : (name : Sym) (A B : RattleType) → IsSend A → IsSend B → IsSend (TupleAt name (A ∷ B ∷ []))
pair_send name A B a b =
    let kind : Declared = type_at name (A ∷ B ∷ []) in
    recorded_send (Struct (shape kind)) kind.D kind.to kind.to_one (struct_send (shape kind) (a, (b, tt)))
