-- A row of a block that is changed where it stands, in the block's values, which are lent for it.
use Rattle.std.proofs.Common.{◌≡◌, ℕ, ℤ, ◌+◌, ◌-◌, ◌*◌, ◌<◌, ◌≤◌, List, ◌++◌, length, take, drop, refl, sym, ◌∙◌, ap, subst, arith}
use Rattle.pic_num.specs.declared.axis.Axis.{Axis}
use Rattle.pic_num.specs.Sizes.{IsAtMost}
use Rattle.pic_num.specs.Space.{Triple}
use Rattle.pic_block.specs.Block.{BlockValues, inner_at}
use Rattle.pic_block.specs.Cells.{count_of}
use Rattle.pic_block.specs.Lending.{with_values}
use Rattle.pic_block.specs.Rows.{row_of, with_row}
use Rattle.pic_block.proofs.RowLaws.{row_value, row_given, part_long}
use Rattle.pic_field.specs.Lines.{OnRow, Changed, AreSmall}
use Rattle.pic_field.specs.Rows.{row_at, IsSmallRow}
use Rattle.pic_field.proofs.LineLaws.{row_changed, row_small}

-- of the values of a block, count from the place start on are the row on an axis at the layers y and z
pub record IsLent (b : BlockValues) (axis : Axis) (y z : ℕ) (values : List ℤ) (start count : ℕ) : Type 0 where
  pub shape : length b.values ≡ 3 * count_of b.size
  pub in_y : y < b.size.y
  pub in_z : z < b.size.z
  pub same : values ≡ b.values
  pub at : start ≡ row_of b.size axis y z
  pub end : start + b.size.x ≤ length b.values
  pub size : count ≡ b.size.x

module _ (b : BlockValues) (axis : Axis) (y z : ℕ) (values : List ℤ) (start count : ℕ) (l : IsLent b axis y z values start count)
  where
    abbrev pub lent : List ℤ
    lent = take (start + count - start) (drop start values)

    fits : start + count ≤ length values
    fits = omega (arith, l.end, l.size, ap length l.same)

    pub lent_long : length lent ≡ b.size.x
    lent_long = part_long values start count fits ∙ l.size

    pub lent_below : (x : ℕ) → x < length lent → x < b.size.x
    lent_below x below = omega (arith, below, lent_long)

    pub lent_value : (x : ℕ) → x < b.size.x → row_at lent x ≡ inner_at b axis (record { x = x; y = y; z = z })
    lent_value x below = row_value b values start (start + count - start) axis x y z l.same l.at (omega (arith, below, l.size))

    -- it is small where the block is
    pub lent_small : (most : ℕ) → AreSmall most (OnRow axis y z) b → IsSmallRow most (length lent) lent
    lent_small most small = record {
      at_most = λ x below.
          let p : Triple = record { x = x; y = y; z = z } in
          let on : OnRow axis y z axis p = record { axis_is = refl; y_is = refl; z_is = refl } in
          subst (λ (v : ℤ). IsAtMost v most) (sym (lent_value x (lent_below x below)))
          (small.at_most axis p (record { x = lent_below x below; y = l.in_y; z = l.in_z }) on);
    }

    -- given back with other values it is the block's row,
    module _ (row : List ℤ) (long : length row ≡ length lent)
      where
        abbrev pub given_back : BlockValues
        given_back = with_values b (take start values ++ (row ++ drop (start + count - start) (drop start values)))

        is : given_back ≡ with_row b axis y z row
        is =
            let whole : start + count - start ≡ b.size.x = omega (arith, l.size) in
            let same_long : length row ≡ start + count - start = omega (arith, long, lent_long, whole) in
            row_given b values row start (start + count - start) axis y z l.same l.at whole (omega (arith, fits)) same_long

        -- a change of its places,
        pub lent_changed : (g : Axis → Triple → ℤ → ℤ)
            → ((x : ℕ) → x < length lent → row_at row x ≡ g axis (record { x = x; y = y; z = z }) (row_at lent x))
            → Changed g (OnRow axis y z) b given_back
        lent_changed g made =
            row_changed g b given_back axis y z row is l.shape l.in_y l.in_z (long ∙ lent_long)
            (λ x below. made x (omega (arith, below, lent_long)) ∙ ap (g axis (record { x = x; y = y; z = z })) (lent_value x below))

        -- and as small as its values
        pub lent_calm : (most : ℕ) → IsSmallRow most (length lent) row → AreSmall most (OnRow axis y z) given_back
        lent_calm most small =
            row_small most b given_back axis y z row is l.shape l.in_y l.in_z (long ∙ lent_long)
            (subst (λ (n : ℕ). IsSmallRow most n row) lent_long small)
