-- Values of a lattice, copied run by run into rows, and row by row into blocks.
use Rattle.std.proofs.Common.{◌≡◌, ℕ, ℤ, pos, ◌+◌, ◌-◌, ◌*◌, ◌/◌, ◌<◌, ◌≤◌, ◌-ℤ◌, List, ◌++◌, length, take}
use Rattle.std.proofs.Common.{drop, slice_index_or, unsigned_abs, inl, inr, refl, sym, ◌∙◌, ap, subst, arith}
use Rattle.std.proofs.lemmas.Bool.{cases_lt}
use Rattle.std.proofs.lemmas.Int.{ints}
use Rattle.std.proofs.lemmas.List.{length-drop}
use Rattle.std.proofs.lemmas.Nat.{mul-add-lt}
use Rattle.std.proofs.Math.Nat.{mul-le-mul_right}
use Rattle.pic_num.specs.declared.axis.Axis.{Axis}
use Rattle.pic_num.specs.Space.{Triple, Spot, unwrapped}
use Rattle.pic_block.specs.Block.{BlockValues, InZone, IsAmongCells, inner_of, inner_at, outer_of, edge_at, no_block}
use Rattle.pic_block.specs.Cells.{Grid, IsWithin, count_of, cell_of, index_of, place_of}
use Rattle.pic_block.specs.Rows.{row_of}
use Rattle.pic_block.proofs.BlockLaws.{inner_within}
use Rattle.pic_block.proofs.BlockRowLaws.{rows_of}
use Rattle.pic_block.proofs.CellLaws.{place_of_same, place_of_below, cell_of_within, index_of_below}
use Rattle.pic_block.proofs.RowLaws.{place_of-row}
use Rattle.pic_block.proofs.WrittenLaws.{written_before, written_part, written_long}
use Rattle.pic_grid.specs.Copying.{IsRunOf, AreValuesOf, IsCopied, AreAmong, AreCopied}
use Rattle.pic_grid.specs.Lattice.{Field, value_at}
use Rattle.pic_grid.specs.Parts.{IsLattice, value_in, joined}
use Rattle.pic_grid.proofs.LatticeLaws.{value_at-field_of, is_field_of}
use Rattle.pic_grid.proofs.PartLaws.{IsAxisCut, cut, block_of, number_of, block_has, part_of_within, value_at-joined}

-- a row stays as long
pub filled_long : (row part : List ℤ) (done more : ℕ) → done + more ≤ length row → length part ≡ more
    → length (take done row ++ (part ++ drop (done + more - done) (drop done row))) ≡ length row
filled_long row part done more fits long =
    let rest = length-drop (done + more - done) (drop done row) in
    let all = written_long row part (drop (done + more - done) (drop done row)) done (omega (arith, fits)) in
    omega (arith, fits, long, rest, length-drop done row, all)

pub as_long : (f : Field) (a : Axis) (p : Triple) (count n : ℕ) (row : List ℤ) → count ≡ n → IsRunOf f a p count row → IsRunOf f a p n row
as_long f a p count n row same = subst (λ (k : ℕ). IsRunOf f a p k row) same

-- one run more
pub run_more : (f : Field) (a : Axis) (p : Triple) (done more : ℕ) (row part rest : List ℤ) → IsRunOf f a p done row → done ≤ length row → length part ≡ more
    → ((i : ℕ) → i < more → slice_index_or part i (pos 0) ≡ value_at f a (record p { x = p.x + done + i }))
    → IsRunOf f a p (done + more) (take done row ++ (part ++ rest))
run_more f a p done more row part rest before room long values = record {
  values = λ k below. elim (cases_lt k done) [
    | inl less ↦ written_before row part rest done room k (pos 0) less ∙ before.values k less
    | inr least ↦
        (let j : k - done < more = omega (arith, below, least) in
        let same : p.x + done + (k - done) ≡ p.x + k = omega (arith, least) in
        written_part row part rest done room k (pos 0) least (omega (arith, j, long)) ∙ values (k - done) j
        ∙ ap (λ (x : ℕ). value_at f a (record p { x = x })) same)
  ];
}

-- the first i rows of so many layers have the values of a lattice from the cell low on
pub record RowsCopied (f : Field) (low n : Triple) (i : ℕ) (values : List ℤ) : Type 0 where
  pub at : (a : Axis) (p : Triple) → IsWithin p n → place_of (rows_of n) a (record { x = 0; y = p.y; z = p.z }) < i
      → slice_index_or values (place_of n a p) (pos 0) ≡ value_at f a (record { x = low.x + p.x; y = low.y + p.y; z = low.z + p.z })

pub rows_none : (f : Field) (low n : Triple) (values : List ℤ) → RowsCopied f low n 0 values
rows_none f low n values = record { at = λ a p w below. absurd (omega (arith, below)) }

-- rows follow each other
row_at : (n : Triple) (a : Axis) (y z : ℕ) → row_of n a y z ≡ place_of (rows_of n) a (record { x = 0; y = y; z = z }) * n.x
unfolding place_of index_of
row_at n a y z = omega arith

-- one row more
pub rows_more : (f : Field) (low n : Triple) (values part rest : List ℤ) (i start : ℕ) (b : Axis) (r : Triple) → IsWithin r (rows_of n)
    → place_of (rows_of n) b r ≡ i → start ≡ row_of n b r.y r.z → start ≤ length values → length part ≡ n.x
    → IsRunOf f b (record { x = low.x; y = low.y + r.y; z = low.z + r.z }) n.x part
    → RowsCopied f low n i values → RowsCopied f low n (i + 1) (take start values ++ (part ++ rest))
rows_more f low n values part rest i start b r within number at room long run before = record { at = go }
  where
    r_is : record { x = 0; y = r.y; z = r.z } ≡ r
    r_is = let h = within.x in let x : 0 ≡ r.x = omega (arith, h) in λ t. record { x = x t; y = r.y; z = r.z }

    begin : start ≡ i * n.x
    begin = at ∙ row_at n b r.y r.z ∙ ap (λ (k : ℕ). k * n.x) (ap (place_of (rows_of n) b) r_is ∙ number)

    go : (a : Axis) (p : Triple) → IsWithin p n → place_of (rows_of n) a (record { x = 0; y = p.y; z = p.z }) < i + 1
        → slice_index_or (take start values ++ (part ++ rest)) (place_of n a p) (pos 0)
        ≡ value_at f a (record { x = low.x + p.x; y = low.y + p.y; z = low.z + p.z })
    go a p w below =
        let k = place_of (rows_of n) a (record { x = 0; y = p.y; z = p.z }) in
        let place : place_of n a p ≡ k * n.x + p.x = place_of-row n a p.x p.y p.z ∙ ap (λ (m : ℕ). m + p.x) (row_at n a p.y p.z) in
        elim (cases_lt k i) [
          | inl less ↦
              (let before_row : k * n.x + p.x < n.x * i = mul-add-lt k n.x p.x i less w.x in
              written_before values part rest start room (place_of n a p) (pos 0) (omega (arith, place, before_row, begin)) ∙ before.at a p w less)
          | inr least ↦
              (let same : k ≡ i = omega (arith, below, least) in
              let in_rows : IsWithin (record { x = 0; y = p.y; z = p.z }) (rows_of n) = record { x = omega arith; y = w.y; z = w.z } in
              let both = place_of_same (rows_of n) a (record { x = 0; y = p.y; z = p.z }) b r in_rows within (same ∙ sym number) in
              let here : place_of n a p ≡ start + p.x = place ∙ ap (λ (m : ℕ). m * n.x + p.x) same ∙ ap (λ (m : ℕ). m + p.x) (sym begin) in
              let inner : place_of n a p - start ≡ p.x = omega (arith, here) in
              let x = w.x in
              written_part values part rest start room (place_of n a p) (pos 0) (omega (arith, here)) (omega (arith, inner, x, long))
              ∙ ap (λ (m : ℕ). slice_index_or part m (pos 0)) inner
              ∙ run.values p.x w.x
              ∙ (λ t. value_at f (sym both.0 t) (record { x = low.x + p.x; y = low.y + (sym both.1 t).y; z = low.z + (sym both.1 t).z })))
        ]

-- all rows
pub rows_all : (f : Field) (low n : Triple) (i : ℕ) (values : List ℤ) → 3 * count_of (rows_of n) ≤ i → RowsCopied f low n i values → AreValuesOf f low n values
rows_all f low n i values end copied = record {
  at = λ a p w.
      let in_rows : IsWithin (record { x = 0; y = p.y; z = p.z }) (rows_of n) = record { x = omega arith; y = w.y; z = w.z } in
      let below = place_of_below (rows_of n) a (record { x = 0; y = p.y; z = p.z }) in_rows in
      copied.at a p w (omega (arith, below, end));
}

-- a block with the new values
pub copied_block : (f : Field) (b : BlockValues) (low : Triple) (values : List ℤ) → low ≡ outer_of b.low (record { x = 0; y = 0; z = 0 })
    → AreValuesOf f low b.size values → IsCopied f b (record b { values = values })
copied_block f b low values is copied = record {
  shaped = record { low = refl; size = refl };
  values = λ a p w. copied.at a p w ∙ (λ t. value_at f a (moved p t));
}
  where
    moved : (p : Triple) → record { x = low.x + p.x; y = low.y + p.y; z = low.z + p.z } ≡ outer_of b.low p
    moved p =
        let x : low.x + p.x ≡ unsigned_abs b.low.x + p.x = (let e = ap (λ (t : Triple). t.x) is in omega (arith, e)) in
        let y : low.y + p.y ≡ unsigned_abs b.low.y + p.y = (let e = ap (λ (t : Triple). t.y) is in omega (arith, e)) in
        let z : low.z + p.z ≡ unsigned_abs b.low.z + p.z = (let e = ap (λ (t : Triple). t.z) is in omega (arith, e)) in
        λ i. record { x = x i; y = y i; z = z i }

-- the blocks below i are copied
pub record BlocksCopied (f : Field) (old : List BlockValues) (i : ℕ) (now : List BlockValues) : Type 0 where
  pub long : length now ≡ length old
  pub done : (k : ℕ) → k < i → IsCopied f (slice_index_or old k no_block) (slice_index_or now k no_block)
  pub left : (k : ℕ) → i ≤ k → slice_index_or now k no_block ≡ slice_index_or old k no_block

-- the blocks of a lattice lie among its cells
axis_among : (n k part s : ℕ) (low : ℤ) → IsAxisCut n k → s ≡ n / k → part < k → low ≡ pos (part * s) → unsigned_abs low + s ≤ n
axis_among n k part s low c is below at =
    let last : (part + 1) * s ≤ k * s = mul-le-mul_right s (omega (arith, below)) in
    let whole : k * s ≡ n = ap (λ (m : ℕ). k * m) is ∙ c.whole in
    let low_is : unsigned_abs low ≡ part * s = ap unsigned_abs at in
    omega (arith, last, whole, low_is)

pub are_among : (n parts s : Triple) (blocks : List BlockValues) (m : Triple) → IsLattice n parts s blocks → n ≡ m → AreAmong m blocks
are_among n parts s blocks m l same = record { each = λ i inside. subst (IsAmongCells (block i).low (block i).size) same (among i inside) }
  where
    block : ℕ → BlockValues
    block i = slice_index_or blocks i no_block

    among : (i : ℕ) → i < length blocks → IsAmongCells (block i).low (block i).size n
    among i inside =
        let below : i < count_of parts = subst (λ (k : ℕ). i < k) l.zones.count inside in
        let zone = l.zones.zones i below in
        let at = cell_of_within parts i below in
        let c = cut n parts l.cells l.parts_fit in
        let low = zone.low in
        let size = zone.size in
        record {
          x_low = rw (ap (λ (t : Spot). t.x) low) (omega (arith, ints));
          x_high = axis_among n.x parts.x (cell_of parts i).x (block i).size.x (block i).low.x c.x (ap (λ (t : Triple). t.x) size) at.x
              (ap (λ (t : Spot). t.x) low ∙ (λ t. pos ((cell_of parts i).x * (sym size t).x)));
          y_low = rw (ap (λ (t : Spot). t.y) low) (omega (arith, ints));
          y_high = axis_among n.y parts.y (cell_of parts i).y (block i).size.y (block i).low.y c.y (ap (λ (t : Triple). t.y) size) at.y
              (ap (λ (t : Spot). t.y) low ∙ (λ t. pos ((cell_of parts i).y * (sym size t).y)));
          z_low = rw (ap (λ (t : Spot). t.z) low) (omega (arith, ints));
          z_high = axis_among n.z parts.z (cell_of parts i).z (block i).size.z (block i).low.z c.z (ap (λ (t : Triple). t.z) size) at.z
              (ap (λ (t : Spot). t.z) low ∙ (λ t. pos ((cell_of parts i).z * (sym size t).z)));
        }

-- a cell, counted from the lowest of a zone that has it and back
back_to : (low : Spot) (size p : Triple) (n : Triple) → InZone low size (unwrapped p) → IsAmongCells low size n → outer_of low (inner_of low (unwrapped p)) ≡ p
back_to low size p n zone among =
    let lx = among.x_low in
    let ly = among.y_low in
    let lz = among.z_low in
    let x : unsigned_abs low.x + unsigned_abs (pos p.x -ℤ low.x) ≡ p.x = omega (arith, ints, zone.x_low, lx) in
    let y : unsigned_abs low.y + unsigned_abs (pos p.y -ℤ low.y) ≡ p.y = omega (arith, ints, zone.y_low, ly) in
    let z : unsigned_abs low.z + unsigned_abs (pos p.z -ℤ low.z) ≡ p.z = omega (arith, ints, zone.z_low, lz) in
    λ i. record { x = x i; y = y i; z = z i }

-- copied blocks are as good parts,
pub copied_lattice : (n parts s : Triple) (old new : List BlockValues) (f : Field) → IsLattice n parts s old → AreCopied f old new → IsLattice n parts s new
copied_lattice n parts s old new f l h = record {
  cells = l.cells;
  parts_fit = l.parts_fit;
  layers = l.layers;
  zones = record {
    count = h.long ∙ l.zones.count;
    zones = λ i below.
        let inside : i < length old = subst (λ (k : ℕ). i < k) (sym l.zones.count) below in
        let shaped = (h.each i inside).shaped in
        let zone = l.zones.zones i below in
        record { low = shaped.low ∙ zone.low; size = shaped.size ∙ zone.size };
  };
}

-- and the lattice is the other one with its own side and parts
pub copied_is : (grid : Grid) (parts s : Triple) (old new : List BlockValues) (f : Field) → IsLattice grid.n parts s old → AreCopied f old new
    → f.cells ≡ grid.n → length f.values ≡ 3 * count_of f.cells → joined grid parts new ≡ record f { side = grid.side; parts = parts }
copied_is grid parts s old new f l h cells long =
    let n = grid.n in
    let g : Field = record f { side = grid.side; parts = parts } in
    let l' = copied_lattice n parts s old new f l h in
    sym (is_field_of grid.side n parts (value_in n parts new) g cells refl refl (long ∙ ap (λ (m : Triple). 3 * count_of m) cells) (λ a p w.
    let k = number_of n parts p in
    let below : k < length old = subst (λ (m : ℕ). k < m) (sym l.zones.count) (index_of_below parts _ (part_of_within n parts p l.cells l.parts_fit w)) in
    let b = block_of n parts old p in
    let c = block_of n parts new p in
    let one = h.each k below in
    let zone = block_has n parts old p l.cells l.parts_fit l.zones w in
    let q = inner_of b.low (unwrapped p) in
    let inside : IsWithin q b.size = inner_within b.low b.size (unwrapped p) zone in
    let back : outer_of b.low q ≡ p = back_to b.low b.size p n zone ((are_among n parts s old n l refl).each k below) in
    let value : edge_at c a (unwrapped p) ≡ value_at f a p =
    ap (λ (low : Spot). inner_at c a (inner_of low (unwrapped p))) one.shaped.low ∙ one.values a q inside ∙ ap (value_at f a) back in
    sym value ∙ sym (value_at-joined grid parts new a p w) ∙ value_at-field_of grid.side n parts (value_in n parts new) a p w))
