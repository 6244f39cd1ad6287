-- A lattice of blocks: its cells lie in the blocks of their parts, and a write in one block is a
-- write in the lattice.
use Rattle.std.proofs.Common.{◌≡◌, ◌≢◌, ℕ, ℤ, pos, ◌+◌, ◌*◌, ◌/◌, ◌%◌, ◌<◌, ◌≤◌, ◌+ℤ◌, ◌≤ℤ◌, ◌<ℤ◌, List, [], ◌∷◌, ◌++◌, length}
use Rattle.std.proofs.Common.{length-append, replicate, slice_index_or, slice_set, unsigned_abs, inl, inr, refl, sym, ◌∙◌, ap, subst, arith}
use Rattle.std.proofs.lemmas.Bool.{cases_eq, cases_lt}
use Rattle.std.proofs.lemmas.Grind.{get_or-set_at}
use Rattle.std.proofs.lemmas.Int.{ints}
use Rattle.std.proofs.lemmas.List.{get_or-set_other, get_or-replicate, get_or_past, get_or_read, length-set, length-replicate}
use Rattle.std.proofs.lemmas.Nat.{div-add-mod', mod_below, div_below}
use Rattle.std.proofs.Math.ListN.{get_or-append}
use Rattle.std.proofs.Math.Nat.{div-le_self, le-mul_of_pos_right}
use Rattle.std.proofs.Math.Seq.{get_or-append_seam}
use borrow.Author.Count.{below_more}
use Rattle.pic_num.specs.Limits.{most_cells_of_axis}
use Rattle.pic_num.specs.declared.axis.Axis.{Axis}
use Rattle.pic_num.specs.Space.{Triple, Spot, unwrapped}
use Rattle.pic_block.specs.Cells.{Grid, IsCells, IsSize, IsWithin, count_of, index_of, cell_of, place_of}
use Rattle.pic_block.specs.Block.{BlockValues, InZone, inner_of, edge_at, with_edge, no_block}
use Rattle.pic_block.proofs.CellLaws.{index_of_below, cell_of-index_of, place_of_below}
use Rattle.pic_block.proofs.BlockLaws.{edge_same, edge_at-other}
use Rattle.pic_grid.specs.Lattice.{IsParts, value_at, with_value, values_of}
use Rattle.pic_grid.specs.Parts.{part_size, part_with, corner_of, IsPart, ArePartsOf, IsLattice, value_in, joined}
use Rattle.pic_grid.proofs.LatticeLaws.{value_at-field_of, length-values_of, same_values}

-- an axis of n cells is cut into k parts
pub record IsAxisCut (n k : ℕ) : Type 0 where
  pub least : 1 ≤ n / k
  pub most : n / k ≤ most_cells_of_axis
  pub few : k ≤ most_cells_of_axis
  pub whole : k * (n / k) ≡ n

axis_cut : (n k : ℕ) → 2 ≤ n → n ≤ most_cells_of_axis → 1 ≤ k → n % k ≡ 0 → IsAxisCut n k
axis_cut n k least most parts rest =
    let all : n / k * k + n % k ≡ n = div-add-mod' n k in
    let whole : k * (n / k) ≡ n = omega arith in
    let some : 0 < n / k = grind arith in
    let few : k ≤ k * (n / k) = le-mul_of_pos_right k some in
    let layers : n / k ≤ n = div-le_self n k in
    record { least = omega arith; most = omega arith; few = omega arith; whole = whole }

pub record IsCut (n parts : Triple) : Type 0 where
  pub x : IsAxisCut n.x parts.x
  pub y : IsAxisCut n.y parts.y
  pub z : IsAxisCut n.z parts.z

pub cut : (n parts : Triple) → IsCells n → IsParts n parts → IsCut n parts
cut n parts h k = record {
  x = axis_cut n.x parts.x h.x_least h.x_most k.x_least k.x_whole;
  y = axis_cut n.y parts.y h.y_least h.y_most k.y_least k.y_whole;
  z = axis_cut n.z parts.z h.z_least h.z_most k.z_least k.z_whole;
}

pub part_size_limits : (n parts : Triple) → IsCells n → IsParts n parts → IsSize (part_size n parts)
part_size_limits n parts h k =
    let c = cut n parts h k in
    let x : n.x / parts.x ≤ most_cells_of_axis = c.x.most in
    let y : n.y / parts.y ≤ most_cells_of_axis = c.y.most in
    let z : n.z / parts.z ≤ most_cells_of_axis = c.z.most in
    record { x_least = c.x.least; x_most = omega arith; y_least = c.y.least; y_most = omega arith; z_least = c.z.least; z_most = omega arith }

pub parts_limits : (n parts : Triple) → IsCells n → IsParts n parts → IsSize parts
parts_limits n parts h k =
    let c = cut n parts h k in
    let x : parts.x ≤ most_cells_of_axis = c.x.few in
    let y : parts.y ≤ most_cells_of_axis = c.y.few in
    let z : parts.z ≤ most_cells_of_axis = c.z.few in
    record { x_least = k.x_least; x_most = omega arith; y_least = k.y_least; y_most = omega arith; z_least = k.z_least; z_most = omega arith }

axis_part : (n k p : ℕ) → IsAxisCut n k → p < n → p / (n / k) < k
axis_part n k p c h =
    let whole : k * (n / k) ≡ n = c.whole in
    let least : 1 ≤ n / k = c.least in
    div_below p (n / k) k (omega arith) (omega arith)

-- the part of a cell is one of the parts
pub part_of_within : (n parts p : Triple) → IsCells n → IsParts n parts → IsWithin p n → IsWithin (part_with (part_size n parts) p) parts
part_of_within n parts p h k w =
    let c = cut n parts h k in
    record { x = axis_part n.x parts.x p.x c.x w.x; y = axis_part n.y parts.y p.y c.y w.y; z = axis_part n.z parts.z p.z c.z w.z }

-- a number and the end of its row
pub low_end : (p s : ℕ) → pos (p / s * s) ≤ℤ pos p
low_end p s = omega (arith, ints, div-add-mod' p s)

pub high_end : (p s : ℕ) → 1 ≤ s → pos p <ℤ (pos (p / s * s) +ℤ pos s)
high_end p s h =
    let rest : p % s < s = mod_below p s (omega arith) in
    omega (arith, ints, div-add-mod' p s)

-- a cell lies in the box of its part
pub in_part : (s p : Triple) → IsSize s → InZone (corner_of s (part_with s p)) s (unwrapped p)
in_part s p h = record {
  x_low = low_end p.x s.x;
  x_high = high_end p.x s.x h.x_least;
  y_low = low_end p.y s.y;
  y_high = high_end p.y s.y h.y_least;
  z_low = low_end p.z s.z;
  z_high = high_end p.z s.z h.z_least;
}

-- the number of a cell's part, and its block
abbrev pub number_of : Triple → Triple → Triple → ℕ
number_of n parts p = index_of parts (part_with (part_size n parts) p)

abbrev pub block_of : Triple → Triple → List BlockValues → Triple → BlockValues
block_of n parts blocks p = slice_index_or blocks (number_of n parts p) no_block

-- a cell lies in the block of its part
pub block_has : (n parts : Triple) (blocks : List BlockValues) (p : Triple) → IsCells n → IsParts n parts → ArePartsOf n parts blocks → IsWithin p n
    → InZone (block_of n parts blocks p).low (block_of n parts blocks p).size (unwrapped p)
block_has n parts blocks p h k are w =
    let s = part_size n parts in
    let among : IsWithin (part_with s p) parts = part_of_within n parts p h k w in
    let zone : IsPart s (cell_of parts (number_of n parts p)) (block_of n parts blocks p) =
    are.zones (number_of n parts p) (index_of_below parts (part_with s p) among) in
    let number : cell_of parts (number_of n parts p) ≡ part_with s p = cell_of-index_of parts (part_with s p) among in
    let low : (block_of n parts blocks p).low ≡ corner_of s (part_with s p) = zone.low ∙ ap (corner_of s) number in
    let inside : InZone (corner_of s (part_with s p)) s (unwrapped p) = in_part s p (part_size_limits n parts h k) in
    let sized : InZone (corner_of s (part_with s p)) (block_of n parts blocks p).size (unwrapped p) =
    subst (λ (m : Triple). InZone (corner_of s (part_with s p)) m (unwrapped p)) (sym zone.size) inside in
    subst (λ (l : Spot). InZone l (block_of n parts blocks p).size (unwrapped p)) (sym low) sized

pub number_below : (n parts : Triple) (blocks : List BlockValues) (p : Triple) → IsCells n → IsParts n parts → ArePartsOf n parts blocks → IsWithin p n
    → number_of n parts p < length blocks
number_below n parts blocks p h k are w =
    let below : number_of n parts p < count_of parts = index_of_below parts (part_with (part_size n parts) p) (part_of_within n parts p h k w) in
    let count : length blocks ≡ count_of parts = are.count in
    omega arith

-- a component of the lattice is that of the block of its part
pub value_at-joined : (grid : Grid) (parts : Triple) (blocks : List BlockValues) (a : Axis) (p : Triple) → IsWithin p grid.n
    → value_at (joined grid parts blocks) a p ≡ edge_at (block_of grid.n parts blocks p) a (unwrapped p)
unfolding value_in
value_at-joined grid parts blocks a p w = value_at-field_of grid.side grid.n parts (value_in grid.n parts blocks) a p w

-- the same of the list of values
values_of-joined : (n parts : Triple) (blocks : List BlockValues) (a : Axis) (p : Triple) → IsWithin p n
    → slice_index_or (values_of n (value_in n parts blocks)) (place_of n a p) (pos 0) ≡ edge_at (block_of n parts blocks p) a (unwrapped p)
values_of-joined n parts blocks = value_at-joined (record { n = n; side = 0 }) parts blocks

same_spot : (p q : Triple) → unwrapped p ≡ unwrapped q → p ≡ q
same_spot p q e i = record { x = unsigned_abs (e i).x; y = unsigned_abs (e i).y; z = unsigned_abs (e i).z }

-- a write in the block of a cell's part leaves every other component
joined_other : (n parts : Triple) (blocks : List BlockValues) (a : Axis) (p : Triple) (v : ℤ) (f : Axis) (q : Triple)
    → IsCells n → IsParts n parts → ArePartsOf n parts blocks → IsWithin p n → IsWithin q n → place_of n f q ≢ place_of n a p
    → edge_at (block_of n parts (slice_set blocks (number_of n parts p) (with_edge (block_of n parts blocks p) a (unwrapped p) v)) q) f (unwrapped q)
    ≡ edge_at (block_of n parts blocks q) f (unwrapped q)
joined_other n parts blocks a p v f q h k are wp wq other =
    let b = block_of n parts blocks p in
    let kp = number_of n parts p in
    let kq = number_of n parts q in
    let after = with_edge b a (unwrapped p) v in
    elim (cases_eq kq kp) as (λ _. edge_at (slice_index_or (slice_set blocks kp after) kq no_block) f (unwrapped q)
    ≡ edge_at (slice_index_or blocks kq no_block) f (unwrapped q)) [
      | inl e ↦
          (let written : slice_index_or (slice_set blocks kp after) kq no_block
          ≡ after = get_or-set_at blocks kp kq after no_block e (number_below n parts blocks p h k are wp) in
          let zone : InZone b.low b.size (unwrapped q) = subst (λ (m : ℕ). InZone (slice_index_or blocks m no_block).low (slice_index_or blocks m no_block).size
          (unwrapped q)) e (block_has n parts blocks q h k are wq) in
          let apart : place_of b.size f (inner_of b.low (unwrapped q)) ≢ place_of b.size a (inner_of b.low (unwrapped p)) = λ same.
          (let both = edge_same b f (unwrapped q) a (unwrapped p) zone (block_has n parts blocks p h k are wp) same in
          other (λ i. place_of n (both.0 i) (same_spot q p both.1 i))) in
          ap (λ (c : BlockValues). edge_at c f (unwrapped q)) written
          ∙ edge_at-other b a (unwrapped p) v f (unwrapped q) apart
          ∙ ap (λ (m : ℕ). edge_at (slice_index_or blocks m no_block) f (unwrapped q)) (sym e))
      | inr differ ↦ ap (λ (c : BlockValues). edge_at c f (unwrapped q)) (get_or-set_other blocks kp kq after no_block differ)
    ]

-- a write in the block of a cell's part is a write in the lattice
pub joined_set : (n parts : Triple) (blocks : List BlockValues) (a : Axis) (p : Triple) (v : ℤ)
    → IsCells n → IsParts n parts → ArePartsOf n parts blocks → IsWithin p n
    → edge_at (with_edge (block_of n parts blocks p) a (unwrapped p) v) a (unwrapped p) ≡ v
    → values_of n (value_in n parts (slice_set blocks (number_of n parts p) (with_edge (block_of n parts blocks p) a (unwrapped p) v)))
    ≡ slice_set (values_of n (value_in n parts blocks)) (place_of n a p) v
joined_set n parts blocks a p v h k are w stored =
    let b = block_of n parts blocks p in
    let after = with_edge b a (unwrapped p) v in
    let new = slice_set blocks (number_of n parts p) after in
    let xs = values_of n (value_in n parts blocks) in
    let size : length xs ≡ 3 * count_of n = length-values_of n (value_in n parts blocks) in
    let below : place_of n a p < 3 * count_of n = place_of_below n a p w in
    same_values n (values_of n (value_in n parts new)) (slice_set xs (place_of n a p) v) (length-values_of n (value_in n parts new))
    (length-set xs (place_of n a p) v ∙ size) (λ f q wq.
    let read = values_of-joined n parts new f q wq in
    elim (cases_eq (place_of n f q) (place_of n a p)) as (λ _. slice_index_or (values_of n (value_in n parts new)) (place_of n f q) (pos 0)
    ≡ slice_index_or (slice_set xs (place_of n a p) v) (place_of n f q) (pos 0)) [
      | inl e ↦
          (let here = values_of-joined n parts new a p w in
          let written : slice_index_or new (number_of n parts p) no_block ≡ after =
          get_or-set_at blocks (number_of n parts p) (number_of n parts p) after no_block refl (number_below n parts blocks p h k are w) in
          ap (λ (j : ℕ). slice_index_or (values_of n (value_in n parts new)) j (pos 0)) e
          ∙ here
          ∙ ap (λ (c : BlockValues). edge_at c a (unwrapped p)) written
          ∙ stored
          ∙ sym (get_or-set_at xs (place_of n a p) (place_of n f q) v (pos 0) e (omega arith)))
      | inr differ ↦
          read
          ∙ joined_other n parts blocks a p v f q h k are w wq differ
          ∙ sym (values_of-joined n parts blocks f q wq)
          ∙ sym (get_or-set_other xs (place_of n a p) (place_of n f q) v (pos 0) differ)
    ])

-- the first i blocks of zeros
pub record IsLaid (n parts : Triple) (i : ℕ) (blocks : List BlockValues) : Type 0 where
  pub count : length blocks ≡ i
  pub zones : (j : ℕ) → j < i → IsPart (part_size n parts) (cell_of parts j) (slice_index_or blocks j no_block)
  pub zeros : (j : ℕ) → j < i → (slice_index_or blocks j no_block).values ≡ replicate (3 * count_of (part_size n parts)) (pos 0)

pub laid_more : (n parts : Triple) (i : ℕ) (blocks : List BlockValues) (b : BlockValues) → IsLaid n parts i blocks
    → IsPart (part_size n parts) (cell_of parts i) b → b.values ≡ replicate (3 * count_of (part_size n parts)) (pos 0)
    → IsLaid n parts (i + 1) (blocks ++ b ∷ [])
laid_more n parts i blocks b laid here zeros =
    let count : length blocks ≡ i = laid.count in
    let last : slice_index_or (blocks ++ b ∷ []) i no_block ≡ b = subst (λ (m : ℕ). slice_index_or (blocks ++ b ∷ []) m no_block ≡ b) count
    (get_or-append_seam blocks b [] no_block) in
    let left : (j : ℕ) → j < i → slice_index_or (blocks ++ b ∷ []) j no_block ≡ slice_index_or blocks j no_block =
    λ j h. get_or-append blocks (b ∷ []) no_block j (omega arith) in
    record {
      count = length-append blocks (b ∷ []) ∙ omega arith;
      zones = below_more (λ j. IsPart (part_size n parts) (cell_of parts j) (slice_index_or (blocks ++ b ∷ []) j no_block)) i
          (λ j h. subst (λ (c : BlockValues). IsPart (part_size n parts) (cell_of parts j) c) (sym (left j h)) (laid.zones j h))
          (subst (λ (c : BlockValues). IsPart (part_size n parts) (cell_of parts i) c) (sym last) here);
      zeros = below_more (λ j. (slice_index_or (blocks ++ b ∷ []) j no_block).values ≡ replicate (3 * count_of (part_size n parts)) (pos 0)) i
          (λ j h. ap (λ (c : BlockValues). c.values) (left j h) ∙ laid.zeros j h)
          (ap (λ (c : BlockValues). c.values) last ∙ zeros);
    }

zero_read : (m j : ℕ) → slice_index_or (replicate m (pos 0)) j (pos 0) ≡ pos 0
zero_read m j = elim (cases_lt j m) as (λ _. slice_index_or (replicate m (pos 0)) j (pos 0) ≡ pos 0) [
  | inl h ↦ get_or-replicate m j (pos 0) (pos 0) h
  | inr h ↦
      (let size : length (replicate m (pos 0)) ≡ m = length-replicate m (pos 0) in
      get_or_past (replicate m (pos 0)) j (pos 0) (omega arith))
]

-- blocks of zeros make a lattice of zeros
pub joined_zeros : (n parts : Triple) (blocks : List BlockValues) → IsCells n → IsParts n parts
    → ((j : ℕ) → j < count_of parts → (slice_index_or blocks j no_block).values ≡ replicate (3 * count_of (part_size n parts)) (pos 0))
    → values_of n (value_in n parts blocks) ≡ replicate (3 * count_of n) (pos 0)
joined_zeros n parts blocks h k zeros =
    same_values n (values_of n (value_in n parts blocks)) (replicate (3 * count_of n) (pos 0)) (length-values_of n (value_in n parts blocks))
    (length-replicate (3 * count_of n) (pos 0)) (λ a p w.
    let b = block_of n parts blocks p in
    let here = zeros (number_of n parts p) (index_of_below parts (part_with (part_size n parts) p) (part_of_within n parts p h k w)) in
    values_of-joined n parts blocks a p w
    ∙ ap (λ (xs : List ℤ). slice_index_or xs (place_of b.size a (inner_of b.low (unwrapped p))) (pos 0)) here
    ∙ zero_read (3 * count_of (part_size n parts)) (place_of b.size a (inner_of b.low (unwrapped p)))
    ∙ sym (zero_read (3 * count_of n) (place_of n a p)))

-- a block over the same zone is as good a part
pub are_parts_with : (n parts : Triple) (blocks : List BlockValues) (k : ℕ) (new : BlockValues) → ArePartsOf n parts blocks
    → new.low ≡ (slice_index_or blocks k no_block).low → new.size ≡ (slice_index_or blocks k no_block).size → ArePartsOf n parts (slice_set blocks k new)
are_parts_with n parts blocks k new are low size =
    let b = slice_index_or blocks k no_block in
    let count : length blocks ≡ count_of parts = are.count in
    record {
      count = length-set blocks k new ∙ count;
      zones = λ j h. elim (cases_eq j k) as (λ _. IsPart (part_size n parts) (cell_of parts j) (slice_index_or (slice_set blocks k new) j no_block)) [
        | inl e ↦
            (let below : k < length blocks = omega arith in
            let written : slice_index_or (slice_set blocks k new) j no_block ≡ new = get_or-set_at blocks k j new no_block e below in
            let old : IsPart (part_size n parts) (cell_of parts j) b = subst
            (λ (m : ℕ). IsPart (part_size n parts) (cell_of parts j) (slice_index_or blocks m no_block)) e (are.zones j h) in
            let now : IsPart (part_size n parts) (cell_of parts j) new = record { low = low ∙ old.low; size = size ∙ old.size } in
            subst (λ (d : BlockValues). IsPart (part_size n parts) (cell_of parts j) d) (sym written) now)
        | inr differ ↦ subst (λ (d : BlockValues). IsPart (part_size n parts) (cell_of parts j) d) (sym (get_or-set_other blocks k j new no_block differ))
            (are.zones j h)
      ];
    }

-- what the fields of a lattice say of a cell: its part is one of the parts,
pub lattice_part : (n parts s : Triple) (blocks : List BlockValues) (p : Triple) → IsLattice n parts s blocks → IsWithin p n → IsWithin (part_with s p) parts
lattice_part n parts s blocks p l w =
    subst (λ (m : Triple). IsWithin (part_with m p) parts) (sym l.layers) (part_of_within n parts p l.cells l.parts_fit w)

pub lattice_number : (n parts s : Triple) (blocks : List BlockValues) (p : Triple) (i : ℕ) → IsLattice n parts s blocks
    → i ≡ index_of parts (part_with s p) → i ≡ number_of n parts p
lattice_number n parts s blocks p i l e = e ∙ ap (λ (m : Triple). index_of parts (part_with m p)) l.layers

-- its block stands in the list,
pub lattice_below : (n parts s : Triple) (blocks : List BlockValues) (p : Triple) (i : ℕ) → IsLattice n parts s blocks → IsWithin p n
    → i ≡ index_of parts (part_with s p) → i < length blocks
lattice_below n parts s blocks p i l w e =
    let number : i ≡ number_of n parts p = lattice_number n parts s blocks p i l e in
    let below : number_of n parts p < length blocks = number_below n parts blocks p l.cells l.parts_fit l.zones w in
    subst (λ (m : ℕ). m < length blocks) (sym number) below

-- what was read there is its block,
pub lattice_block : (n parts s : Triple) (blocks : List BlockValues) (p : Triple) (i : ℕ) (b : BlockValues) → IsLattice n parts s blocks → IsWithin p n
    → i ≡ index_of parts (part_with s p) → b ≡ slice_index_or blocks i b → b ≡ block_of n parts blocks p
lattice_block n parts s blocks p i b l w e read =
    get_or_read blocks i b (lattice_below n parts s blocks p i l w e) read no_block
    ∙ ap (λ (m : ℕ). slice_index_or blocks m no_block) (lattice_number n parts s blocks p i l e)

-- and the cell lies in its zone
pub lattice_has : (n parts s : Triple) (blocks : List BlockValues) (p : Triple) (b : BlockValues) (c : Spot) → IsLattice n parts s blocks → IsWithin p n
    → b ≡ block_of n parts blocks p → c ≡ unwrapped p → InZone b.low b.size c
lattice_has n parts s blocks p b c l w here at =
    let inside = block_has n parts blocks p l.cells l.parts_fit l.zones w in
    let block : InZone b.low b.size (unwrapped p) = subst (λ (d : BlockValues). InZone d.low d.size (unwrapped p)) (sym here) inside in
    subst (λ (d : Spot). InZone b.low b.size d) (sym at) block

-- a write in that block keeps the lattice
pub lattice_kept : (n parts s : Triple) (blocks : List BlockValues) (i : ℕ) (a : Axis) (c : Spot) (v : ℤ) (b new : BlockValues) → IsLattice n parts s blocks
    → i < length blocks → b ≡ slice_index_or blocks i b → new ≡ with_edge b a c v → IsLattice n parts s (slice_set blocks i new)
lattice_kept n parts s blocks i a c v b new l below read after =
    let here : b ≡ slice_index_or blocks i no_block = get_or_read blocks i b below read no_block in
    let written : new ≡ with_edge (slice_index_or blocks i no_block) a c v = after ∙ ap (λ (d : BlockValues). with_edge d a c v) here in
    let zones : ArePartsOf n parts (slice_set blocks i new) = are_parts_with n parts blocks i new l.zones (ap (λ (d : BlockValues). d.low) written)
    (ap (λ (d : BlockValues). d.size) written) in
    record { cells = l.cells; parts_fit = l.parts_fit; layers = l.layers; zones = zones }

-- and is the write of the lattice
pub lattice_set : (grid : Grid) (parts s : Triple) (blocks : List BlockValues) (p : Triple) (i : ℕ) (a : Axis) (c : Spot) (v : ℤ) (b new : BlockValues)
    → IsLattice grid.n parts s blocks → IsWithin p grid.n → i ≡ index_of parts (part_with s p) → b ≡ slice_index_or blocks i b → c ≡ unwrapped p
    → new ≡ with_edge b a c v → edge_at new a c ≡ v
    → joined grid parts (slice_set blocks i new) ≡ with_value (joined grid parts blocks) a p v
lattice_set grid parts s blocks p i a c v b new l w e read at after stored =
    let n = grid.n in
    let number : i ≡ number_of n parts p = lattice_number n parts s blocks p i l e in
    let here : b ≡ block_of n parts blocks p = lattice_block n parts s blocks p i b l w e read in
    let written : new ≡ with_edge (block_of n parts blocks p) a (unwrapped p) v = after ∙ (λ j. with_edge (here j) a (at j) v) in
    let held : edge_at (with_edge (block_of n parts blocks p) a (unwrapped p) v) a (unwrapped p) ≡ v = sym (λ j. edge_at (written j) a (at j)) ∙ stored in
    let whole = joined_set n parts blocks a p v l.cells l.parts_fit l.zones w held in
    (λ j. joined grid parts (slice_set blocks (number j) (written j))) ∙ (λ j. record { cells = n; side = grid.side; parts = parts; values = whole j })
