use Rattle.std.proofs.Common.{rules, ◌&&◌, arith}
use Rattle.std.proofs.lemmas.Bool.{and_parts}
use Rattle.std.proofs.lemmas.Int.{ints}
use Rattle.pic_push.proofs.reach.is_here.Goals as goal

pub returns-then-known : goal.returns-then-known
returns-then-known c = λ here. c.requires c.if-known.true

pub returns : goal.returns
returns c = λ here.
    let outer = and_parts (c.is_among.result && c.is_among-2.result) c.is_among-3.result here in
    let inner = and_parts c.is_among.result c.is_among-2.result outer.0 in
    let x = c.is_among.ensures.0 inner.0 in
    let y = c.is_among-2.ensures.0 inner.1 in
    let z = c.is_among-3.ensures.0 outer.1 in
    record {
      x_low = first_of (search (rules, x.0), omega (arith, ints, x.0));
      x_high = first_of (search (rules, x.1), omega (arith, ints, x.1));
      y_low = first_of (search (rules, y.0), omega (arith, ints, y.0));
      y_high = first_of (search (rules, y.1), omega (arith, ints, y.1));
      z_low = first_of (search (rules, z.0), omega (arith, ints, z.0));
      z_high = first_of (search (rules, z.1), omega (arith, ints, z.1));
    }
