-- A block whose values were changed before a step of E, place by place, and what the step makes of it.
use Rattle.std.proofs.Common.{◌≡◌, ◌≢◌, ℕ, ℤ, pos, ◌+◌, ◌-◌, ◌*◌, ◌<◌, ◌+ℤ◌, ◌-ℤ◌, length, slice_index_or, refl, sym, ◌∙◌, ap, subst, arith}
use Rattle.std.proofs.lemmas.Int.{ints}
use Rattle.std.proofs.lemmas.Nat.{mod_below}
use Rattle.std.proofs.lemmas.List.{get_or-set_same, get_or-set_other, length-set}
use Rattle.pic_num.specs.declared.axis.Axis.{Axis}
use Rattle.pic_num.specs.declared.axis.Axis.TheVariants.{X, Y, Z}
use Rattle.pic_num.specs.declared.mult.Scales.{Scales}
use Rattle.pic_num.specs.Limits.{most_value}
use Rattle.pic_num.specs.Sizes.{IsAtMost}
use Rattle.pic_num.specs.Space.{Triple, Spot, next_axis, unwrapped}
use Rattle.pic_block.specs.Block.{BlockValues, InZone, IsAmongCells, IsShaped, AllAtMost, inner_of, inner_at, edge_at, with_edge, outer_of}
use Rattle.pic_block.specs.Cells.{IsWithin, count_of, place_of}
use Rattle.pic_block.proofs.BlockLaws.{inner_within}
use Rattle.pic_block.proofs.CellLaws.{place_of_below, places_more}
use Rattle.pic_grid.specs.Differences.{down, curl_b}
use Rattle.pic_grid.specs.Lattice.{Field, EachAtMost, value_at}
use Rattle.pic_field.specs.FieldPhases.{full_of, full_in, lowest, stop_of_full, IsFullStep, no_current, no_drive, most_drive_value, most_lessened, most_raised}
use Rattle.pic_grid.specs.declared.stop.Phase.TheVariants.{Electric}
use Rattle.pic_field.specs.FieldPhases.{least_fault}
use Rattle.pic_field.specs.Lines.{Changed}
use Rattle.pic_field.proofs.CalmLaws.{least_fault-same, own_values}
use Rattle.pic_field.proofs.ZoneLaws.{inner_of-outer_of, outer_inside, edge_at-outer, edge_at-shaped}

-- the places whose numbers are less than one
pub record BelowNumber (size : Triple) (i : ℕ) (a : Axis) (p : Triple) : Type 0 where
  pub number : place_of size a p < i

-- a value of the block whose lowest cell is low, with the curl of m and less that of a block j
abbrev pub raised : Triple → (Axis → Triple → ℤ) → BlockValues → Spot → Axis → Triple → ℤ → ℤ
raised n m j low a p v = v +ℤ (curl_b n m a (outer_of low p) -ℤ inner_at j a p)

-- the curl of small values
pub curl_most : (n : Triple) (m : Axis → Triple → ℤ) (most : ℕ) (a : Axis) (p : Triple) → IsAtMost (m (next_axis (next_axis a)) p) most
    → IsAtMost (m (next_axis (next_axis a)) (down n (next_axis a) p)) most → IsAtMost (m (next_axis a) p) most
    → IsAtMost (m (next_axis a) (down n (next_axis (next_axis a)) p)) most → IsAtMost (curl_b n m a p) (4 * most)
curl_most n m most a p one two three four =
    let h = one.size in
    let i = two.size in
    let j = three.size in
    let k = four.size in record { size = omega (arith, ints, h, i, j, k) }

pub none_raised : (g : Axis → Triple → ℤ → ℤ) (b : BlockValues) → Changed g (BelowNumber b.size 0) b b
none_raised g b = record {
  shaped = record { low = refl; size = refl };
  done = λ a p w below. absurd (omega (arith, below.number));
  rest = λ a p w apart. refl;
}

-- a walk's step: the component on a at the cell c of the grid, which lies p above the lowest
module _ (g : Axis → Triple → ℤ → ℤ) (old mid : BlockValues) (n : Triple) (i : ℕ) (a : Axis) (p : Triple) (c : Spot)
    (among : IsAmongCells old.low old.size n) (changed : Changed g (BelowNumber old.size i) old mid) (within : IsWithin p old.size)
    (number : place_of old.size a p ≡ i) (at : c ≡ unwrapped (outer_of old.low p))
  where
    cell_is : inner_of mid.low c ≡ p
    cell_is = (λ j. inner_of (changed.shaped.low j) (at j)) ∙ inner_of-outer_of old.low old.size n p among

    place_is : place_of mid.size a (inner_of mid.low c) ≡ place_of old.size a p
    place_is = λ j. place_of (changed.shaped.size j) a (cell_is j)

    -- the old value is there still
    pub still_old : edge_at mid a c ≡ inner_at old a p
    still_old = ap (λ (q : Triple). inner_at mid a q) cell_is ∙ changed.rest a p within (λ below. let less = below.number in omega (arith, less, number))

    module _ (new : BlockValues) (v : ℤ) (long : length mid.values ≡ 3 * count_of mid.size) (value : v ≡ g a p (inner_at old a p))
        (is : new ≡ with_edge mid a c v)
      where
        same_place : (b : Axis) (q : Triple) → place_of mid.size b q ≡ place_of old.size b q
        same_place b q = ap (λ (m : Triple). place_of m b q) changed.shaped.size

        others : (b : Axis) (q : Triple) → place_of old.size b q ≢ place_of old.size a p → inner_at (with_edge mid a c v) b q ≡ inner_at mid b q
        others b q other =
            get_or-set_other mid.values (place_of mid.size a (inner_of mid.low c)) (place_of mid.size b q) v (pos 0)
            (λ e. other (sym (same_place b q) ∙ e ∙ place_is))

        own : inner_at (with_edge mid a c v) a p ≡ v
        own =
            let below : place_of old.size a p < 3 * count_of old.size = place_of_below old.size a p within in
            let count : 3 * count_of mid.size ≡ 3 * count_of old.size = ap (λ (m : Triple). 3 * count_of m) changed.shaped.size in
            let stored = get_or-set_same mid.values (place_of mid.size a (inner_of mid.low c)) v (pos 0) (omega (arith, below, count, long, place_is)) in
            ap (λ (k : ℕ). slice_index_or (with_edge mid a c v).values k (pos 0)) (same_place a p ∙ sym place_is) ∙ stored

        more : Changed g (BelowNumber old.size (i + 1)) old (with_edge mid a c v)
        more = record {
          shaped = record { low = changed.shaped.low; size = changed.shaped.size };
          done = λ b q w below.
              places_more old.size (λ f r. inner_at (with_edge mid a c v) f r ≡ g f r (inner_at old f r)) i a p number within
              (λ f r u less. others f r (λ e. omega (arith, e, number, less)) ∙ changed.done f r u (record { number = less }))
              (own ∙ value) b q w below.number;
          rest = λ b q w apart.
              others b q (λ e. apart (record { number = omega (arith, e, number) }))
              ∙ changed.rest b q w (λ below. apart (let less = below.number in record { number = omega (arith, less) }));
        }

        pub raised_more : Changed g (BelowNumber old.size (i + 1)) old new
        raised_more = subst (λ (b : BlockValues). Changed g (BelowNumber old.size (i + 1)) old b) (sym is) more

        pub raised_long : length new.values ≡ 3 * count_of new.size
        raised_long =
            subst (λ (b : BlockValues). length b.values ≡ 3 * count_of b.size) (sym is)
            (length-set mid.values (place_of mid.size a (inner_of mid.low c)) v ∙ long)

-- at its end
pub raised_all : (g : Axis → Triple → ℤ → ℤ) (old new : BlockValues) (i : ℕ) → Changed g (BelowNumber old.size i) old new → i ≡ 3 * count_of old.size
    → (a : Axis) (p : Triple) → IsWithin p old.size → inner_at new a p ≡ g a p (inner_at old a p)
raised_all g old new i changed end a p w =
    let below : place_of old.size a p < 3 * count_of old.size = place_of_below old.size a p w in
    changed.done a p w (record { number = omega (arith, below, end) })

-- a block that g changed, as a step of E without a current reads it: where that is the step with the current j that m drives,
module _ (scales : Scales) (b : Field) (m j : Axis → Triple → ℤ) (g : Axis → Triple → ℤ → ℤ) (old mid : BlockValues)
    (among : IsAmongCells old.low old.size b.cells) (shaped : IsShaped mid old)
    (values : (a : Axis) (p : Triple) → IsWithin p old.size → inner_at mid a p ≡ g a (outer_of old.low p) (inner_at old a p))
    (same : (a : Axis) (q : Triple) (v : ℤ) → full_of scales b no_drive a q (g a q v) (pos 0) ≡ full_of scales b m a q v (j a q))
  where
    -- it takes that step,
    pub step_changed : (new : BlockValues) → IsFullStep scales b no_drive no_current mid new → IsFullStep scales b m j old new
    step_changed new step a p w =
        let inside : IsWithin p mid.size = subst (λ (n : Triple). IsWithin p n) (sym shaped.size) w in
        step a p inside ∙ (λ i. full_of scales b no_drive a (outer_of (shaped.low i) p) (values a p w i) (pos 0))
        ∙ same a (outer_of old.low p) (inner_at old a p)

    -- with its stop
    pub stop_changed : stop_of_full scales b no_drive no_current mid ≡ stop_of_full scales b m j old
    stop_changed =
        (λ i. least_fault Electric scales.e_force (lowest (shaped.low i)) (shaped.size i) (full_in scales b no_drive no_current mid))
        ∙ least_fault-same Electric scales.e_force (lowest old.low) old.size (full_in scales b no_drive no_current mid) (full_in scales b m j old) (λ a p w.
        let q = outer_of old.low p in
        let value = sym (own_values old mid b.cells among shaped a p) ∙ values a p w ∙ ap (g a q) (sym (edge_at-outer old b.cells a p among)) in
        ap (λ (v : ℤ). full_of scales b no_drive a q v (pos 0)) value ∙ same a q (edge_at old a (unwrapped q)))

-- values that are small place by place are small
pub all_small_in : (most : ℕ) (b : BlockValues) → ((a : Axis) (p : Triple) → IsWithin p b.size → IsAtMost (inner_at b a p) most) → AllAtMost most b
all_small_in most b small = record { at_most = λ a c inside. small a (inner_of b.low c) (inner_within b.low b.size c inside) }

-- so they are where a block of its zone has none but small ones
pub block_small : (j b : BlockValues) (n : Triple) → IsShaped j b → IsAmongCells b.low b.size n → AllAtMost most_value j
    → (a : Axis) (p : Triple) → IsWithin p b.size → IsAtMost (inner_at j a p) most_value
block_small j b n shaped among small a p w =
    let in_j : InZone j.low j.size (unwrapped (outer_of b.low p)) =
    subst (λ (l : Spot). InZone l j.size (unwrapped (outer_of b.low p))) (sym shaped.low)
    (subst (λ (m : Triple). InZone b.low m (unwrapped (outer_of b.low p))) (sym shaped.size) (outer_inside b.low b.size n p among w)) in
    subst (λ (v : ℤ). IsAtMost v most_value) (edge_at-shaped j b n a p shaped among) (small.at_most a (unwrapped (outer_of b.low p)) in_j)

-- small values stay small
pub raised_small : (v curl j : ℤ) → IsAtMost v most_value → IsAtMost curl (4 * most_drive_value) → IsAtMost j most_value
    → IsAtMost (v +ℤ (curl -ℤ j)) most_lessened
raised_small v curl j one two three =
    let h = one.size in
    let k = two.size in
    let l = three.size in record { size = omega (arith, ints, h, k, l) }

pub lessened_small : (v j : ℤ) → IsAtMost v most_raised → IsAtMost j most_value → IsAtMost (v -ℤ j) most_lessened
lessened_small v j one two =
    let h = one.size in
    let k = two.size in record { size = omega (arith, ints, h, k) }

-- the cell that lies p above the lowest of a zone among the cells is one of them
pub outer_within : (low : Spot) (size n p : Triple) → IsAmongCells low size n → IsWithin p size → IsWithin (outer_of low p) n
outer_within low size n p among w = record {
  x = omega (arith, among.x_high, w.x);
  y = omega (arith, among.y_high, w.y);
  z = omega (arith, among.z_high, w.z);
}

down_within : (n : Triple) (a : Axis) (p : Triple) → IsWithin p n → IsWithin (down n a p) n
down_within n X p h = record { x = mod_below (p.x + (n.x - 1)) n.x (omega (arith, h.x)); y = h.y; z = h.z }
down_within n Y p h = record { x = h.x; y = mod_below (p.y + (n.y - 1)) n.y (omega (arith, h.y)); z = h.z }
down_within n Z p h = record { x = h.x; y = h.y; z = mod_below (p.z + (n.z - 1)) n.z (omega (arith, h.z)) }

-- the curl of what drives B, at a cell
pub drive_curl : (m : Field) (a : Axis) (p : Triple) → IsWithin p m.cells → EachAtMost most_drive_value m
    → IsAtMost (curl_b m.cells (value_at m) a p) (4 * most_drive_value)
drive_curl m a p w small =
    let second = next_axis a in
    let third = next_axis second in
    curl_most m.cells (value_at m) most_drive_value a p (small.at_most third p w)
    (small.at_most third (down m.cells second p) (down_within m.cells second p w)) (small.at_most second p w)
    (small.at_most second (down m.cells third p) (down_within m.cells third p w))
