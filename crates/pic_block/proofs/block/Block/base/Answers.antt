use Rattle.std.proofs.Common.{rules, ◌≡◌, ℤ, to_z, of_z, ◌*ℤ◌, ◌+ℤ◌, ◌-ℤ◌, pos, sym, ◌∙◌, ap}
use Rattle.std.specs.Int.{w64, int_wrap}
use mir.Syntax.{w32}
use mir.Val.{SFits}
use Rattle.pic_num.specs.Space.{spot}
use Rattle.std.proofs.lemmas.Int.{to_z-of_z, int_wrap_fits, int_wrap-mul_left, int_wrap-mul_right}
use Rattle.pic_block.specs.Block.{BlockValues}
use Rattle.pic_block.proofs.FourLaws.{sums_wrap}
use Rattle.pic_block.proofs.block.Block.base.Goals as goal

-- a number in 64 bits is what they hold of it
wrapped : (y z : ℤ) → SFits w64 y → y ≡ z → y ≡ int_wrap w64 z
wrapped y z fits e = sym (int_wrap_fits w64 y fits) ∙ ap (int_wrap w64) e

-- a product as the code passes its factors on
times : (p y z d m : ℤ) → SFits w64 y → SFits w64 z → p ≡ int_wrap w64 (to_z w64 (of_z w64 y) *ℤ to_z w64 (of_z w64 z)) → y ≡ d → z ≡ int_wrap w64 m
    → p ≡ int_wrap w64 (d *ℤ m)
times p y z d m first second is h k =
    is ∙ (λ i. int_wrap w64 ((to_z-of_z w64 y first ∙ h) i *ℤ (to_z-of_z w64 z second ∙ k) i)) ∙ int_wrap-mul_right w64 d m

-- the same where the first factor is what 64 bits hold
plain : (p y z d m : ℤ) → SFits w64 y → SFits w64 z → p ≡ int_wrap w64 (to_z w64 (of_z w64 y) *ℤ to_z w64 (of_z w64 z)) → y ≡ int_wrap w64 d → z ≡ m
    → p ≡ int_wrap w64 (d *ℤ m)
plain p y z d m first second is h k =
    is ∙ (λ i. int_wrap w64 ((to_z-of_z w64 y first ∙ h) i *ℤ (to_z-of_z w64 z second ∙ k) i)) ∙ int_wrap-mul_left w64 d m

-- a sum
plus : (s y z m k : ℤ) → SFits w64 y → SFits w64 z → s ≡ int_wrap w64 (to_z w64 (of_z w64 y) +ℤ to_z w64 (of_z w64 z)) → y ≡ int_wrap w64 m → z ≡ int_wrap w64 k
    → s ≡ int_wrap w64 (m +ℤ k)
plus s y z m k first second is h e =
    is ∙ (λ i. int_wrap w64 (to_z-of_z w64 y first i +ℤ to_z-of_z w64 z second i)) ∙ sums_wrap y z m k h e

-- how far a cell lies over the zone's lowest, as the code passes both on
apart : (d c l low : ℤ) → SFits w32 c → SFits w32 l → d ≡ to_z w32 (of_z w32 c) -ℤ to_z w32 (of_z w32 l) → l ≡ low → d ≡ c -ℤ low
apart d c l low first second is same = is ∙ (λ i. to_z-of_z w32 c first i -ℤ (to_z-of_z w32 l second ∙ same) i)

pub returns-clause-base : goal.returns-clause-base
returns-clause-base c =
    let low = spot c.self.inside.zone.low in
    let cell = spot c.args.cell in
    let lx : SFits w32 low.x = search rules in
    let ly : SFits w32 low.y = search rules in
    let lz : SFits w32 low.z = search rules in
    let cx : SFits w32 cell.x = search rules in
    let cy : SFits w32 cell.y = search rules in
    let cz : SFits w32 cell.z = search rules in
    let fits_row : SFits w64 c.from-row.result = record { sfits = c.from-row.type_inv } in
    let fits_y : SFits w64 c.from.result = record { sfits = c.from.type_inv } in
    let fits_z : SFits w64 c.from-2.result = record { sfits = c.from-2.type_inv } in
    let fits_dx : SFits w64 c.over-dx.result = record { sfits = c.over-dx.type_inv } in
    let fits_dy : SFits w64 c.over-dy.result = record { sfits = c.over-dy.type_inv } in
    let fits_dz : SFits w64 c.over-dz.result = record { sfits = c.over-dz.type_inv } in
    let fits_layer : SFits w64 c.product-layer.result = record { sfits = c.product-layer.type_inv } in
    let fits_z_part : SFits w64 c.product.result = record { sfits = c.product.type_inv } in
    let fits_y_part : SFits w64 c.product-2.result = record { sfits = c.product-2.type_inv } in
    let fits_both : SFits w64 c.sum.result = record { sfits = c.sum.type_inv } in
    let fits_here : SFits w64 c.sum-2.result = record { sfits = c.sum-2.type_inv } in
    let fits_count : SFits w64 c.product-3.result = record { sfits = c.product-3.type_inv } in
    let row = c.from-row.ensures ∙ ap (λ (b : BlockValues). pos b.size.x) c.self.view_is in
    let y = c.from.ensures ∙ ap (λ (b : BlockValues). pos b.size.y) c.self.view_is in
    let z = c.from-2.ensures ∙ ap (λ (b : BlockValues). pos b.size.z) c.self.view_is in
    let dx = apart c.over-dx.result cell.x low.x _ cx lx c.over-dx.ensures (ap (λ (b : BlockValues). b.low.x) c.self.view_is) in
    let dy = apart c.over-dy.result cell.y low.y _ cy ly c.over-dy.ensures (ap (λ (b : BlockValues). b.low.y) c.self.view_is) in
    let dz = apart c.over-dz.result cell.z low.z _ cz lz c.over-dz.ensures (ap (λ (b : BlockValues). b.low.z) c.self.view_is) in
    let layer = times c.product-layer.result c.from-row.result c.from.result _ _ fits_row fits_y c.product-layer.ensures row (wrapped _ _ fits_y y) in
    let z_part = times c.product.result c.over-dz.result c.product-layer.result _ _ fits_dz fits_layer c.product.ensures dz layer in
    let y_part = times c.product-2.result c.over-dy.result c.from-row.result _ _ fits_dy fits_row c.product-2.ensures dy (wrapped _ _ fits_row row) in
    let both = plus c.sum.result c.product.result c.product-2.result _ _ fits_z_part fits_y_part c.sum.ensures z_part y_part in
    let here = plus c.sum-2.result c.sum.result c.over-dx.result _ _ fits_both fits_dx c.sum-2.ensures both (wrapped _ _ fits_dx dx) in
    let count = plain c.product-3.result c.product-layer.result c.from-2.result _ _ fits_layer fits_z c.product-3.ensures layer z in
    record {
      here = to_z-of_z w64 _ fits_here ∙ here;
      row = to_z-of_z w64 _ fits_row ∙ wrapped _ _ fits_row row;
      layer = to_z-of_z w64 _ fits_layer ∙ layer;
      count = to_z-of_z w64 _ fits_count ∙ count;
    }
