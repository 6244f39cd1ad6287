use Rattle.std.proofs.Common.{◌≡◌, ◌+◌, ◌∙◌, arith}
use Rattle.pic_block.proofs.RowLaws.{place_of-along}
use Rattle.pic_num.specs.Space.{triple}
use Rattle.pic_block.specs.Cells.{place_of}
use Rattle.pic_block.proofs.PlaceLaws.{row_end, layer_end, axis_end}
use Rattle.pic_block.proofs.places.Place.following.Goals as goal

pub returns-then-x-nx-clause-number : goal.returns-then-x-nx-clause-number
returns-then-x-nx-clause-number c = λ h. place_of-along (triple c.args.size) c.args.self.axis (triple c.args.self.inner) 1

pub returns-then-y-ny-clause-number : goal.returns-then-y-ny-clause-number
returns-then-y-ny-clause-number c = λ h.
    let p = triple c.args.self.inner in
    let n = triple c.args.size in
    let x : p.x + 1 ≡ n.x = omega arith in
    row_end n c.args.self.axis p x

pub returns-then-z-nz-clause-number : goal.returns-then-z-nz-clause-number
returns-then-z-nz-clause-number c = λ h.
    let p = triple c.args.self.inner in
    let n = triple c.args.size in
    let x : p.x + 1 ≡ n.x = omega arith in
    let y : p.y + 1 ≡ n.y = omega arith in
    layer_end n c.args.self.axis p x y

pub returns-clause-number : goal.returns-clause-number
returns-clause-number c = λ h.
    let p = triple c.args.self.inner in
    let n = triple c.args.size in
    let x : p.x + 1 ≡ n.x = omega arith in
    let y : p.y + 1 ≡ n.y = omega arith in
    let z : p.z + 1 ≡ n.z = omega arith in
    (λ i. place_of n (c.next.ensures i) (record { x = 0; y = 0; z = 0 })) ∙ axis_end n c.args.self.axis p x y z h
