use Rattle.std.proofs.Common.{rules, refl, sym, arith, true≢false}
use Rattle.std.proofs.lemmas.Int.{ints}
use Rattle.pic_block.proofs.block.is_inside.Goals as goal

pub returns : goal.returns
returns c =
    let x = c.if-not-is_among.ensures.0 refl in
    let y = c.if-not-is_among-2.ensures.0 refl in
    let z = c.if-not-is_among-3.ensures.0 refl in (
      λ _. record {
        x_low = first_of (search (rules, x.0), omega (arith, ints, x.0));
        x_high = first_of (search (rules, x.1), omega (arith, ints, x.1));
        y_low = first_of (search (rules, y.0), omega (arith, ints, y.0));
        y_high = first_of (search (rules, y.1), omega (arith, ints, y.1));
        z_low = first_of (search (rules, z.0), omega (arith, ints, z.0));
        z_high = first_of (search (rules, z.1), omega (arith, ints, z.1));
      },
      λ _. refl,
    )

pub returns-then-not-is_among-2 : goal.returns-then-not-is_among-2
returns-then-not-is_among-2 c = (
  λ yes. absurd (true≢false (sym yes)),
  λ h. c.if-not-is_among-2.ensures.1 (
    first_of (search (rules, h.y_low), omega (arith, ints, h.y_low)),
    first_of (
      search (rules, h.y_high),
      omega
          (arith, ints, h.y_high),
    ),
  ),
)

pub returns-then-not-is_among-3 : goal.returns-then-not-is_among-3
returns-then-not-is_among-3 c = (
  λ yes. absurd (true≢false (sym yes)),
  λ h. c.if-not-is_among-3.ensures.1 (
    first_of (search (rules, h.z_low), omega (arith, ints, h.z_low)),
    first_of (
      search (rules, h.z_high),
      omega
          (arith, ints, h.z_high),
    ),
  ),
)
