use Rattle.std.proofs.Common.{◌≡◌, nat_eq, sym, ◌∙◌, ap}
use Rattle.pic_num.specs.Sub.{bits_of, bits_of-side}
use Rattle.pic_num.proofs.sub.SubPartialEq.eq.Goals as goal

pub returns : goal.returns
returns c =
    let one : c.t1-1.inside.bits ≡ bits_of c.args.self.now = sym (bits_of-side c.t1-1.inside.bits c.t1-1.invariant.0 c.t1-1.invariant.1)
    ∙ ap bits_of c.t1-1.view_is in
    let two : c.t2-1.inside.bits ≡ bits_of c.args.other.now = sym (bits_of-side c.t2-1.inside.bits c.t2-1.invariant.0 c.t2-1.invariant.1)
    ∙ ap bits_of c.t2-1.view_is in
    c.eq.ensures ∙ (λ i. nat_eq (one i) (two i))
