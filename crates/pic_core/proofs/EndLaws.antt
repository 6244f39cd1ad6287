-- When all tiles are shut, they have what the push phase leaves.
use Rattle.std.proofs.Common.{◌∙◌, arith}
use Rattle.pic_tile.specs.CoreState.{CoreState, Stands, AreAllShut, is_merged, merged_into, all_particles}
use Rattle.pic_tile.specs.Exchanged.{AreExchanged}
use Rattle.pic_tile.specs.Frame.{felt_in}
use Rattle.pic_tile.proofs.ExchangedLaws.{are_exchanged}
use Rattle.pic_tile.proofs.OpeningLaws.{opening_inside, felt_side, felt_cells}
use Rattle.pic_push.proofs.LayerSumLaws.{layers_current}
use Rattle.pic_push.proofs.WayLaws.{leads}
use Rattle.pic_core.proofs.SlotLaws.{bounded}

pub all_exchanged : (s : CoreState) → Stands s → AreAllShut s → AreExchanged (felt_in s.frame) s.frame.map (all_particles s.opening) s.received
all_exchanged s h all =
    let least = h.frame.least in
    are_exchanged layers_current leads (felt_in s.frame) s.frame.map (all_particles s.opening) s.opening
    (omega (arith, least)) h.frame.map.thick (felt_side s.frame h.frame) (felt_cells s.frame h.frame)
    (opening_inside s.frame s.opening h.opening) h.opening.fresh s.received (merged_into s) h.opening.ordered h.places.received
    (λ r below d within. bounded d (is_merged s r d) within ∙ h.turn.over r below (all r below) d within) h.place.receives
