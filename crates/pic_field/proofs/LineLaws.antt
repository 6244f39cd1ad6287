-- What a phase has done of a block: rows join to lines, lines to layers, layers to the whole.
use Rattle.std.proofs.Common.{◌≡◌, ℕ, ℤ, ◌+◌, ◌*◌, ◌<◌, ◌≤◌, ◌⊎◌, ◌&&◌, Bool, true, false, inl, inr, List, length, refl, sym, ◌∙◌, ap, subst, arith}
use Rattle.std.proofs.lemmas.Bool.{cases_lt}
use Rattle.pic_num.specs.declared.axis.Axis.{Axis}
use Rattle.pic_num.specs.declared.axis.Axis.TheVariants.{X, Y, Z}
use Rattle.pic_num.specs.Sizes.{IsAtMost}
use Rattle.pic_num.specs.Space.{Triple}
use Rattle.pic_block.specs.Cells.{IsWithin, count_of}
use Rattle.pic_block.specs.Block.{BlockValues, inner_at}
use Rattle.pic_block.specs.Rows.{with_row}
use Rattle.pic_block.proofs.RowLaws.{IsOff, row_here, row_others, row_shape, row_size}
use Rattle.pic_field.specs.Beside.{swept_layer}
use Rattle.pic_field.specs.Lines.{OnRow, OnLine, OnLines, OnStrip, OnLayers, Changed, AreSmall}
use Rattle.pic_field.proofs.BesideLaws.{layer_below, layer_back}
use Rattle.pic_field.specs.Rows.{row_at, IsSmallRow}

-- two answers that are both yes
pub both_true : (s t : Bool) → (s && t) ≡ true → (s ≡ true) × (t ≡ true)
both_true true true e = (refl, refl)
both_true true false e = cc
both_true false t e = cc

-- of the places of a box R has those of P and those of Q, and no place is in both
pub record IsJoined (n : Triple) (P Q R : Axis → Triple → Type 0) : Type 0 where
  pub apart : (a : Axis) (p : Triple) → P a p → Q a p → ⊥
  pub either : (a : Axis) (p : Triple) → IsWithin p n → R a p → P a p ⊎ Q a p
  pub left : (a : Axis) (p : Triple) → P a p → R a p
  pub right : (a : Axis) (p : Triple) → Q a p → R a p

module _ (g : Axis → Triple → ℤ → ℤ) (P Q R : Axis → Triple → Type 0) (old mid new : BlockValues)
  where
    within_mid : Changed g P old mid → (p : Triple) → IsWithin p old.size → IsWithin p mid.size
    within_mid first p w = subst (λ (n : Triple). IsWithin p n) (sym first.shaped.size) w

    -- one change after another, of other places,
    pub changed_next : Changed g P old mid → Changed g Q mid new → IsJoined old.size P Q R → Changed g R old new
    changed_next first then join = record {
      shaped = record { low = then.shaped.low ∙ first.shaped.low; size = then.shaped.size ∙ first.shaped.size };
      done = λ a p w r. elim (join.either a p w r) [
        | inl here ↦ then.rest a p (within_mid first p w) (λ q. join.apart a p here q) ∙ first.done a p w here
        | inr here ↦ then.done a p (within_mid first p w) here ∙ ap (g a p) (first.rest a p w (λ q. join.apart a p q here))
      ];
      rest = λ a p w none.
          then.rest a p (within_mid first p w) (λ q. none (join.right a p q)) ∙ first.rest a p w (λ q. none (join.left a p q));
    }

    -- leaves small values where both left them
    pub small_next : (most : ℕ) → Changed g Q mid new → AreSmall most P mid → AreSmall most Q new → IsJoined mid.size P Q R → AreSmall most R new
    small_next most then first now join = record {
      at_most = λ a p w r.
          let v : IsWithin p mid.size = subst (λ (n : Triple). IsWithin p n) then.shaped.size w in
          elim (join.either a p v r) [
            | inl here ↦ subst (λ (z : ℤ). IsAtMost z most) (sym (then.rest a p v (λ q. join.apart a p here q))) (first.at_most a p v here)
            | inr here ↦ now.at_most a p w here
          ];
    }

    -- so it does where two answers that are both yes say so,
    pub calm_next : (most : ℕ) (s t : Bool) → Changed g Q mid new → (s ≡ true → AreSmall most P mid) → (t ≡ true → AreSmall most Q new)
        → IsJoined mid.size P Q R → (s && t) ≡ true → AreSmall most R new
    calm_next most s t then first now join both = let each = both_true s t both in small_next most then (first each.0) (now each.1) join

    -- and keeps those of places that it leaves alone
    pub small_kept : (most : ℕ) → Changed g Q old mid → AreSmall most P old → ((a : Axis) (p : Triple) → R a p → P a p)
        → ((a : Axis) (p : Triple) → R a p → Q a p → ⊥)
        → AreSmall most R mid
    small_kept most first before in_p apart = record {
      at_most = λ a p w r.
          let v : IsWithin p old.size = subst (λ (n : Triple). IsWithin p n) first.shaped.size w in
          subst (λ (z : ℤ). IsAtMost z most) (sym (first.rest a p v (apart a p r))) (before.at_most a p v (in_p a p r));
    }

-- the same change said otherwise: by what makes the values,
pub changed_as : (g h : Axis → Triple → ℤ → ℤ) (P : Axis → Triple → Type 0) (old new : BlockValues) → Changed g P old new
    → ((a : Axis) (p : Triple) → IsWithin p old.size → P a p → g a p (inner_at old a p) ≡ h a p (inner_at old a p)) → Changed h P old new
changed_as g h P old new change same = record {
  shaped = change.shaped;
  done = λ a p w here. change.done a p w here ∙ same a p w here;
  rest = change.rest;
}

-- a row that is written is a change of its places
pub row_changed : (g : Axis → Triple → ℤ → ℤ) (b new : BlockValues) (axis : Axis) (y z : ℕ) (row : List ℤ) → new ≡ with_row b axis y z row
    → length b.values ≡ 3 * count_of b.size → y < b.size.y → z < b.size.z → length row ≡ b.size.x
    → ((x : ℕ) → x < b.size.x → row_at row x ≡ g axis (record { x = x; y = y; z = z }) (inner_at b axis (record { x = x; y = y; z = z })))
    → Changed g (OnRow axis y z) b new
row_changed g b new axis y z row is whole in_y in_z long values = record {
  shaped = record { low = ap (λ (d : BlockValues). d.low) is ∙ row_shape b axis y z row; size = ap (λ (d : BlockValues). d.size) is ∙ row_size b axis y z row };
  done = λ a p w on.
      let at : p ≡ record { x = p.x; y = y; z = z } = λ i. record { x = p.x; y = on.y_is i; z = on.z_is i } in
      (λ i. inner_at (is i) (on.axis_is i) (at i))
      ∙ row_here b axis y z row whole in_y in_z long p.x w.x
      ∙ values p.x w.x
      ∙ sym (λ i. g (on.axis_is i) (at i) (inner_at b (on.axis_is i) (at i)));
  rest = λ a p w none.
      let off : IsOff axis y z a p = record { off = λ e f h. none (record { axis_is = e; y_is = f; z_is = h }) } in
      ap (λ (d : BlockValues). inner_at d a p) is ∙ row_others b axis y z row whole in_y in_z long a p w off;
}

pub row_small : (most : ℕ) (b new : BlockValues) (axis : Axis) (y z : ℕ) (row : List ℤ) → new ≡ with_row b axis y z row
    → length b.values ≡ 3 * count_of b.size → y < b.size.y → z < b.size.z → length row ≡ b.size.x
    → IsSmallRow most b.size.x row → AreSmall most (OnRow axis y z) new
row_small most b new axis y z row is whole in_y in_z long small = record {
  at_most = λ a p w on.
      let v : IsWithin p b.size = subst (λ (n : Triple). IsWithin p n) (ap (λ (d : BlockValues). d.size) is ∙ row_size b axis y z row) w in
      let at : p ≡ record { x = p.x; y = y; z = z } = λ i. record { x = p.x; y = on.y_is i; z = on.z_is i } in
      subst (λ (k : ℤ). IsAtMost k most) (sym ((λ i. inner_at (is i) (on.axis_is i) (at i)) ∙ row_here b axis y z row whole in_y in_z long p.x v.x))
      (small.at_most p.x v.x);
}

-- the rows of a line: two of them, and the third
abbrev pub OnTwo : ℕ → ℕ → Axis → Triple → Type 0
OnTwo y z a p = OnRow X y z a p ⊎ OnRow Y y z a p

x_not_y : (y z : ℕ) (a : Axis) (p : Triple) → OnRow X y z a p → OnRow Y y z a p → ⊥
x_not_y y z a p h k = let e : X ≡ Y = sym h.axis_is ∙ k.axis_is in cc

two_not_z : (y z : ℕ) (a : Axis) (p : Triple) → OnTwo y z a p → OnRow Z y z a p → ⊥
two_not_z y z a p (inl h) k = let e : X ≡ Z = sym h.axis_is ∙ k.axis_is in cc
two_not_z y z a p (inr h) k = let e : Y ≡ Z = sym h.axis_is ∙ k.axis_is in cc

pub two_rows : (n : Triple) (y z : ℕ) → IsJoined n (OnRow X y z) (OnRow Y y z) (OnTwo y z)
two_rows n y z = record { apart = x_not_y y z; either = λ a p w r. r; left = λ a p h. inl h; right = λ a p h. inr h }

pub on_line : (axis : Axis) (y z : ℕ) (a : Axis) (p : Triple) → OnRow axis y z a p → OnLine y z a p
on_line axis y z a p h = record { y_is = h.y_is; z_is = h.z_is }

which_row : (y z : ℕ) (a : Axis) (p : Triple) → OnLine y z a p → OnTwo y z a p ⊎ OnRow Z y z a p
which_row y z X p h = inl (inl (record { axis_is = refl; y_is = h.y_is; z_is = h.z_is }))
which_row y z Y p h = inl (inr (record { axis_is = refl; y_is = h.y_is; z_is = h.z_is }))
which_row y z Z p h = inr (record { axis_is = refl; y_is = h.y_is; z_is = h.z_is })

two_on_line : (y z : ℕ) (a : Axis) (p : Triple) → OnTwo y z a p → OnLine y z a p
two_on_line y z a p (inl h) = on_line X y z a p h
two_on_line y z a p (inr h) = on_line Y y z a p h

-- a row of a line is as small as the line, and stays so while another row of it is changed
pub row_of_line : (most : ℕ) (axis : Axis) (y z : ℕ) (b : BlockValues) → AreSmall most (OnLine y z) b → AreSmall most (OnRow axis y z) b
row_of_line most axis y z b small = record { at_most = λ a p w on. small.at_most a p w (on_line axis y z a p on) }

pub row_kept : (most : ℕ) (g : Axis → Triple → ℤ → ℤ) (axis other : Axis) (y z : ℕ) (old new : BlockValues) → (axis ≡ other → ⊥)
    → Changed g (OnRow axis y z) old new → AreSmall most (OnRow other y z) old → AreSmall most (OnRow other y z) new
row_kept most g axis other y z old new differ change small =
    small_kept g (OnRow other y z) (OnRow axis y z) (OnRow other y z) old new new most change small (λ a p on. on)
    (λ a p on off. differ (sym off.axis_is ∙ on.axis_is))

pub three_rows : (n : Triple) (y z : ℕ) → IsJoined n (OnTwo y z) (OnRow Z y z) (OnLine y z)
three_rows n y z = record { apart = two_not_z y z; either = λ a p w r. which_row y z a p r; left = two_on_line y z; right = on_line Z y z }

-- three rows that are changed one after another are a change of the line
pub line_changed : (g : Axis → Triple → ℤ → ℤ) (y z : ℕ) (b one two three : BlockValues) → Changed g (OnRow X y z) b one → Changed g (OnRow Y y z) one two
    → Changed g (OnRow Z y z) two three → Changed g (OnLine y z) b three
line_changed g y z b one two three first second third =
    let both = changed_next g (OnRow X y z) (OnRow Y y z) (OnTwo y z) b one two first second (two_rows b.size y z) in
    changed_next g (OnTwo y z) (OnRow Z y z) (OnLine y z) b two three both third (three_rows b.size y z)

pub line_small : (most : ℕ) (g h : Axis → Triple → ℤ → ℤ) (y z : ℕ) (one two three : BlockValues) → Changed g (OnRow Y y z) one two
    → Changed h (OnRow Z y z) two three
    → AreSmall most (OnRow X y z) one → AreSmall most (OnRow Y y z) two → AreSmall most (OnRow Z y z) three → AreSmall most (OnLine y z) three
line_small most g h y z one two three second third small_x small_y small_z =
    let both = small_next g (OnRow X y z) (OnRow Y y z) (OnTwo y z) one one two most second small_x small_y (two_rows one.size y z) in
    small_next h (OnTwo y z) (OnRow Z y z) (OnLine y z) one two three most third both small_z (three_rows two.size y z)

-- so it is small where three answers that are all yes say so
pub line_calm : (most : ℕ) (g h : Axis → Triple → ℤ → ℤ) (y z : ℕ) (one two three : BlockValues) (s t u : Bool) → Changed g (OnRow Y y z) one two
    → Changed h (OnRow Z y z) two three → (s ≡ true → AreSmall most (OnRow X y z) one) → (t ≡ true → AreSmall most (OnRow Y y z) two)
    → (u ≡ true → AreSmall most (OnRow Z y z) three) → ((s && t) && u) ≡ true → AreSmall most (OnLine y z) three
line_calm most g h y z one two three s t u second third small_x small_y small_z all =
    let last = both_true (s && t) u all in
    let first = both_true s t last.0 in
    line_small most g h y z one two three second third (small_x first.0) (small_y first.1) (small_z last.1)

-- a place is one of the lines of a layer below one
pub record BelowLine (y z : ℕ) (a : Axis) (p : Triple) : Type 0 where
  pub y_below : p.y < y
  pub z_is : p.z ≡ z

-- the lines of a layer
pub lines_more : (n : Triple) (y z : ℕ) → IsJoined n (BelowLine y z) (OnLine y z) (BelowLine (y + 1) z)
lines_more n y z = record {
  apart = λ a p h k. let below : p.y < y = h.y_below in let same : p.y ≡ y = k.y_is in absurd (omega arith);
  either = λ a p w r. elim (cases_lt p.y y) [
    | inl below ↦ inl (record { y_below = below; z_is = r.z_is })
    | inr least ↦ (let last : p.y < y + 1 = r.y_below in let same : p.y ≡ y = omega arith in inr (record { y_is = same; z_is = r.z_is }))
  ];
  left = λ a p h. let below : p.y < y = h.y_below in record { y_below = omega arith; z_is = h.z_is };
  right = λ a p h. let same : p.y ≡ y = h.y_is in record { y_below = omega arith; z_is = h.z_is };
}

-- the lines of a strip in a layer,
pub strip_more : (n : Triple) (from y z : ℕ) → from ≤ y → IsJoined n (OnLines from y z) (OnLine y z) (OnLines from (y + 1) z)
strip_more n from y z past = record {
  apart = λ a p h k. let below : p.y < y = h.y_below in let same : p.y ≡ y = k.y_is in absurd (omega arith);
  either = λ a p w r. elim (cases_lt p.y y) [
    | inl below ↦ inl (record { y_from = r.y_from; y_below = below; z_is = r.z_is })
    | inr least ↦ (let last : p.y < y + 1 = r.y_below in let same : p.y ≡ y = omega arith in inr (record { y_is = same; z_is = r.z_is }))
  ];
  left = λ a p h. let below : p.y < y = h.y_below in record { y_from = h.y_from; y_below = omega arith; z_is = h.z_is };
  right = λ a p h. let same : p.y ≡ y = h.y_is in record { y_from = omega arith; y_below = omega arith; z_is = h.z_is };
}

-- the layers of a strip, in the order of a sweep,
pub layers_more : (d : Bool) (n : Triple) (from to k : ℕ) → k < n.z
    → IsJoined n (OnLayers d from to n.z k) (OnLines from to (swept_layer d n.z k)) (OnLayers d from to n.z (k + 1))
layers_more d n from to k inside = record {
  apart = λ a p h l.
      let same : swept_layer d n.z p.z ≡ k = ap (swept_layer d n.z) l.z_is ∙ layer_back d n.z k inside in
      let before : swept_layer d n.z p.z < k = h.z_before in
      absurd (omega (arith, same, before));
  either = λ a p w r. elim (cases_lt (swept_layer d n.z p.z) k) [
    | inl before ↦ inl (record { y_from = r.y_from; y_below = r.y_below; z_before = before })
    | inr least ↦
        (let last : swept_layer d n.z p.z < k + 1 = r.z_before in
        let same : swept_layer d n.z p.z ≡ k = omega (arith, least, last) in
        inr (record { y_from = r.y_from; y_below = r.y_below; z_is = sym (layer_back d n.z p.z w.z) ∙ ap (swept_layer d n.z) same }))
  ];
  left = λ a p h. let before : swept_layer d n.z p.z < k = h.z_before in record { y_from = h.y_from; y_below = h.y_below; z_before = omega (arith, before) };
  right = λ a p h.
      let same : swept_layer d n.z p.z ≡ k = ap (swept_layer d n.z) h.z_is ∙ layer_back d n.z k inside in
      record { y_from = h.y_from; y_below = h.y_below; z_before = omega (arith, same) };
}

-- which are at last the whole strip,
pub layers_all : (d : Bool) (n p : Triple) (from to : ℕ) (a : Axis) → IsWithin p n → OnStrip from to a p → OnLayers d from to n.z n.z a p
layers_all d n p from to a w on = record { y_from = on.y_from; y_below = on.y_below; z_before = layer_below d n.z p.z w.z }

layers_on : (d : Bool) (from to count k : ℕ) (a : Axis) (p : Triple) → OnLayers d from to count k a p → OnStrip from to a p
layers_on d from to count k a p on = record { y_from = on.y_from; y_below = on.y_below }

pub strip_changed : (g : Axis → Triple → ℤ → ℤ) (d : Bool) (from to : ℕ) (old new : BlockValues)
    → Changed g (OnLayers d from to old.size.z old.size.z) old new → Changed g (OnStrip from to) old new
strip_changed g d from to old new change = record {
  shaped = change.shaped;
  done = λ a p w on. change.done a p w (layers_all d old.size p from to a w on);
  rest = λ a p w none. change.rest a p w (λ on. none (layers_on d from to old.size.z old.size.z a p on));
}

pub strip_small : (most : ℕ) (d : Bool) (from to : ℕ) (b : BlockValues) → AreSmall most (OnLayers d from to b.size.z b.size.z) b
    → AreSmall most (OnStrip from to) b
strip_small most d from to b small = record { at_most = λ a p w on. small.at_most a p w (layers_all d b.size p from to a w on) }

-- and the strips of a block
pub strips_more : (n : Triple) (from mid to : ℕ) → from ≤ mid → mid ≤ to → IsJoined n (OnStrip from mid) (OnStrip mid to) (OnStrip from to)
strips_more n from mid to past more = record {
  apart = λ a p h k. let below : p.y < mid = h.y_below in let least : mid ≤ p.y = k.y_from in absurd (omega (arith, below, least));
  either = λ a p w r. elim (cases_lt p.y mid) [
    | inl below ↦ inl (record { y_from = r.y_from; y_below = below })
    | inr least ↦ inr (record { y_from = least; y_below = r.y_below })
  ];
  left = λ a p h. let below : p.y < mid = h.y_below in record { y_from = h.y_from; y_below = omega (arith, below, more) };
  right = λ a p h. let least : mid ≤ p.y = h.y_from in record { y_from = omega (arith, least, past); y_below = h.y_below };
}
