-- A block whose values, which were lent, are those of the filtered lattice.
use Rattle.std.proofs.Common.{◌≡◌, ℤ, List, length, drop, sym, ◌∙◌, ap, subst, arith}
use Rattle.std.proofs.lemmas.List.{take_at}
use Rattle.pic_num.specs.declared.axis.Axis.{Axis}
use Rattle.pic_num.specs.Sizes.{IsAtMost}
use Rattle.pic_num.specs.Space.{Triple}
use Rattle.pic_block.specs.Block.{BlockValues, IsAmongCells, AllAtMost, inner_of, inner_at, outer_of}
use Rattle.pic_block.specs.Cells.{IsWithin}
use Rattle.pic_block.specs.Lending.{with_values}
use Rattle.pic_block.proofs.BlockLaws.{inner_within}
use Rattle.pic_grid.specs.Copying.{AreValuesOf}
use Rattle.pic_grid.specs.Lattice.{Field, EachAtMost, value_at}
use Rattle.pic_grid.specs.Parts.{origin}
use Rattle.pic_grid.proofs.CopyLaws.{copied_block}
use Rattle.pic_grid.proofs.LatticeLaws.{value_at-field_of}
use Rattle.pic_filter.specs.Smoothing.{most_to_smooth, most_smoothed, smoothed, smoothed_each, smoothed_field}
use Rattle.pic_filter.proofs.SizeLaws.{smoothed_small}

module _ (f : Field) (b : BlockValues) (low size : Triple) (values : List ℤ) (n : Triple) (cells : f.cells ≡ n) (among : IsAmongCells b.low b.size n)
    (low_is : low ≡ outer_of b.low origin) (size_is : size ≡ b.size) (long : length values ≡ length b.values)
    (are : AreValuesOf (smoothed_field f) low size values)
  where
    abbrev pub given_back : BlockValues
    given_back = with_values b values

    outer_within : (p : Triple) → IsWithin p b.size → IsWithin (outer_of b.low p) n
    outer_within p w =
        let x = w.x in
        let y = w.y in
        let z = w.z in
        let in_x = among.x_high in
        let in_y = among.y_high in
        let in_z = among.z_high in
        record { x = omega (arith, x, in_x); y = omega (arith, y, in_y); z = omega (arith, z, in_z) }

    -- it has the filtered values,
    pub block_smoothed : (a : Axis) (p : Triple) → IsWithin p b.size → inner_at given_back a p ≡ smoothed n (value_at f a) (outer_of b.low p)
    block_smoothed a p w =
        let all = take_at values (drop (length values) b.values) (length b.values) long in
        let copied = copied_block (smoothed_field f) b low values low_is (subst (λ (m : Triple). AreValuesOf (smoothed_field f) low m values) size_is are) in
        let within : IsWithin (outer_of b.low p) f.cells = subst (IsWithin (outer_of b.low p)) (sym cells) (outer_within p w) in
        (λ i. inner_at (record b { values = all i }) a p)
        ∙ copied.values a p w
        ∙ value_at-field_of f.side f.cells f.parts (smoothed_each f.cells (value_at f)) a (outer_of b.low p) within
        ∙ ap (λ (m : Triple). smoothed m (value_at f a) (outer_of b.low p)) cells

    -- which are small
    pub block_small : EachAtMost most_to_smooth f → AllAtMost most_smoothed given_back
    block_small small = record {
      at_most = λ a c inside.
          let p = inner_of b.low c in
          let w = inner_within b.low b.size c inside in
          let each : (q : Triple) → IsWithin q n → IsAtMost (value_at f a q) most_to_smooth = λ q in_cells.
          small.at_most a q (subst (IsWithin q) (sym cells) in_cells) in
          subst (λ (v : ℤ). IsAtMost v most_smoothed) (sym (block_smoothed a p w))
          (smoothed_small n (value_at f a) most_to_smooth each (outer_of b.low p) (outer_within p w));
    }
