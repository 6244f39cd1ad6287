use Rattle.std.proofs.Common.{◌≡◌, ℕ, ◌+◌, ◌-◌, ◌*◌, ap, arith, ◌∙◌}
use Rattle.pic_tile.specs.Directions.{here}
use Rattle.pic_tile.specs.Tiling.{neighbour_of}
use Rattle.pic_core.proofs.BesideLaws.{three}
use Rattle.pic_core.proofs.around.beside.Goals as goal

pub returns : goal.returns
returns c =
    let m = c.args.map.now.tiles in
    let t = c.args.tile in
    let step = c.args.step in
    let small = c.requires.step in
    let number = c.number-here.ensures.value in
    let down : c.of.result ≡ here - step + 0 * step = c.of.ensures ∙ omega (arith, number) in
    let own : here ≡ here - step + 1 * step = omega (arith, small) in
    let up : c.of-2.result ≡ here - step + 2 * step = c.of-2.ensures ∙ omega (arith, number, small) in
    three (λ (e : ℕ). neighbour_of m t (here - step + e * step)) c.neighbour.result c.neighbour-2.result c.neighbour-3.result
    (c.neighbour.ensures.value ∙ ap (neighbour_of m t) down)
    (c.neighbour-2.ensures.value ∙ ap (neighbour_of m t) own)
    (c.neighbour-3.ensures.value ∙ ap (neighbour_of m t) up)
