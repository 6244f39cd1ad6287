use Rattle.std.proofs.Common.{◌≡◌, ℕ, ℤ, pos, ◌+◌, ◌-◌, ◌*◌, ◌<◌, ◌≤◌, List, length, take, drop, slice_index_or, rules, sym, ◌∙◌, ap, subst, arith}
use Rattle.pic_num.specs.Space.{triple, axis_number}
use Rattle.pic_block.specs.Cells.{count_of}
use Rattle.pic_block.specs.Rows.{part_end}
use Rattle.pic_block.proofs.RowLaws.{part_long}
use Rattle.pic_grid.specs.Lattice.{Field, value_at}
use Rattle.pic_grid.specs.Parts.{part_size, joined}
use Rattle.pic_grid.proofs.SlotLaws.{slots_of, slots_index, slots_row, slots_end, slots_inside, slots_run}
use Rattle.pic_grid.proofs.lattice.Lattice.run_at.Goals as goal
use Rattle.pic_grid.proofs.lattice.Lattice.run_at.Goals.{After-number}

pub index-block-requires : goal.index-block-requires
index-block-requires c =
    let below = slots_index c.self.inside.cells (triple c.self.inside.parts) (triple c.self.inside.layers) c.self.inside.blocks.items _
    c.args.x c.args.y c.args.z c.self.invariant.lattice c.self.view_is c.requires.x c.requires.y c.requires.z in
    search (rules, below)

-- the number of the run's first value among those of its block, and how many it has
abbrev start : After-number → ℕ
start c = c.number.result * count_of (triple c.self.inside.layers) + (c.args.x.place + c.args.y.place + c.args.z.place)

abbrev count : After-number → ℕ
count c = (triple c.self.inside.layers).x - c.args.x.place

-- the run ends among those values, and with its part; it has the values of the lattice
record Known (c : After-number) : Type 0 where
  fits : start c + count c ≤ length c.values-values.result.now
  end : c.args.x.index + count c ≡ part_end (part_size c.self.inside.cells.n (triple c.self.inside.parts)).x c.args.x.index
  inside : c.args.x.index + count c ≤ c.self.inside.cells.n.x
  values : (i : ℕ) → i < count c
      → slice_index_or (take (start c + count c - start c) (drop (start c) c.values-values.result.now)) i (pos 0)
      ≡ value_at (joined c.self.inside.cells (triple c.self.inside.parts) c.self.inside.blocks.items) c.args.axis
      (record { x = c.args.x.index + i; y = c.args.y.index; z = c.args.z.index })

known : (c : After-number) → Known c
known c =
    let n = c.self.inside.cells.n in
    let parts = triple c.self.inside.parts in
    let s = triple c.self.inside.layers in
    let blocks = c.self.inside.blocks.items in
    let l = c.self.invariant.lattice in
    let b = c.index-block.result.now in
    let read = c.index-block.ensures in
    let on = slots_of c.self.inside.cells parts blocks _ c.args.x c.args.y c.args.z c.self.view_is c.requires.x c.requires.y c.requires.z in
    let whole : length b.values ≡ 3 * count_of b.size = sym (ap length c.values-values.ensures.value) ∙ c.values-values.ensures.shape in
    let same : b.values ≡ c.values-values.result.now = sym c.values-values.ensures.value in
    let at : axis_number c.args.axis * count_of s + (c.args.x.place + c.args.y.place + c.args.z.place) ≡ start c =
    ap (λ (m : ℕ). m * count_of s + (c.args.x.place + c.args.y.place + c.args.z.place)) (sym c.number.ensures) in
    let end = slots_end n parts s blocks c.args.x c.args.y c.args.z l on b read in
    record {
      fits = subst (λ (m : ℕ). m + count c ≤ length c.values-values.result.now) at
          (subst (λ (xs : List ℤ). axis_number c.args.axis * count_of s + (c.args.x.place + c.args.y.place + c.args.z.place) + count c ≤ length xs) same
          (slots_row n parts s blocks c.args.x c.args.y c.args.z l on b read c.args.axis whole));
      end = end;
      inside = slots_inside n parts s blocks c.args.x c.args.y c.args.z l on b read;
      values = λ i below.
          (λ j. slice_index_or (take (start c + count c - start c) (drop (sym at j) (sym same j))) i (pos 0))
          ∙ slots_run n parts s blocks c.args.x c.args.y c.args.z l on b read c.self.inside.cells.side c.args.axis (start c + count c - start c) i
          (omega arith) (omega (arith, end));
    }

pub slice_bounds-result-end : goal.slice_bounds-result-end
slice_bounds-result-end c = (known (goal.at.slice_bounds-result-end c).After-number).fits

pub returns-clause-inside : goal.returns-clause-inside
returns-clause-inside c =
    let at = (goal.at.returns-clause-inside c).After-number in
    let k = known at in
    let long = part_long c.values-values.result.now (start at) (count at) k.fits in
    subst (λ (f : Field). c.args.x.index + length (take (start at + count at - start at) (drop (start at) c.values-values.result.now)) ≤ f.cells.x)
    c.self.view_is (omega (arith, k.inside, long))

pub returns-clause-values : goal.returns-clause-values
returns-clause-values c = λ i below.
    let at = (goal.at.returns-clause-values c).After-number in
    let k = known at in
    let long = part_long c.values-values.result.now (start at) (count at) k.fits in
    k.values i (omega (arith, long))
    ∙ ap (λ (f : Field). value_at f c.args.axis (record { x = c.args.x.index + i; y = c.args.y.index; z = c.args.z.index })) c.self.view_is
