use Rattle.std.proofs.Common.{◌≡◌, ℕ, ◌+◌, ap, sym, subst, ◌∙◌, arith}
use Rattle.std.proofs.Math.IntN.{ℤ, pos, ◌-ℤ◌}
use Rattle.std.specs.Prelude.{Option}
use Rattle.pic_num.specs.Sizes.{IsAtMost}
use Rattle.pic_num.specs.Space.{Triple, Spot}
use Rattle.pic_block.specs.Block.{outer_of}
use Rattle.pic_block.specs.Cells.{IsWithin}
use Rattle.pic_grid.specs.Current.{wrapped}
use Rattle.pic_grid.specs.Lattice.{value_at}
use Rattle.pic_filter.specs.Smoothing.{smoothed, filtered, filter_in, most_to_smooth}
use Rattle.pic_filter.proofs.SameLaws.{smoothed_same}
use Rattle.pic_ways.specs.declared.room.Smoothing.{Smoothing}
use Rattle.pic_ways.specs.Margin.{edge_or_zero}
use Rattle.pic_ways.specs.Room.{HasSome, HasSmoothing}
use Rattle.pic_ways.proofs.MarginLaws.{box_wraps, box_edge}
use Rattle.pic_ways.proofs.room.take_current_off.Goals as goal

-- the cell of a box that begins at the lowest one
at_origin : (low : Spot) (p : Triple) → low ≡ record { x = pos 0; y = pos 0; z = pos 0 } → outer_of low p ≡ p
at_origin low p is = ap (λ (l : Spot). outer_of l p) is ∙ (λ t. record { x = same p.x t; y = same p.y t; z = same p.z t })
  where
    same : (i : ℕ) → 0 + i ≡ i
    same i = omega arith

pub smooth-requires-clause-small : goal.smooth-requires-clause-small
smooth-requires-clause-small c =
    let n = c.args.cells.n in
    let has : HasSmoothing n c.in-Some.s = subst (λ (o : Option Smoothing). HasSome n o) c.in-Some.is c.requires.room in
    record {
      at_most = λ a p h.
          let old : IsWithin p c.in-Some.s.current.cells = subst (λ (m : Triple). IsWithin p m) c.fold.ensures.cells h in
          let inside : IsWithin p n = subst (λ (m : Triple). IsWithin p m) has.current old in
          let value = c.fold.ensures.values a p old ∙ ap (λ (m : Triple). wrapped m (edge_or_zero c.args.flux.now a) p) has.current in
          subst (λ (v : ℤ). IsAtMost v most_to_smooth) (sym value) (c.requires.current a p inside);
    }

pub returns-in-None-clause-values : goal.returns-in-None-clause-values
unfolding filtered
returns-in-None-clause-values c = λ a p h.
    let n = c.args.cells.n in
    let inside : IsWithin p c.args.e.now.cells = subst (λ (m : Triple). IsWithin p m) (sym c.requires.cells) h in
    let f = edge_or_zero c.args.flux.now a in
    c.take_off.ensures.values a p inside
    ∙ ap (λ (m : Triple). value_at c.args.e.now a p -ℤ wrapped m f p) c.requires.cells
    ∙ ap (λ (o : Option Smoothing). value_at c.args.e.now a p -ℤ filtered (filter_in o) n (wrapped n f) p) (sym c.in-None.is)

pub returns-in-Some-clause-values : goal.returns-in-Some-clause-values
unfolding filtered
returns-in-Some-clause-values c = λ a p h.
    let n = c.args.cells.n in
    let s = c.in-Some.s in
    let has : HasSmoothing n s = subst (λ (o : Option Smoothing). HasSome n o) c.in-Some.is c.requires.room in
    let inside : IsWithin p c.args.e.now.cells = subst (λ (m : Triple). IsWithin p m) (sym c.requires.cells) h in
    let f = edge_or_zero c.args.flux.now a in
    let b = c.smooth.new.to in
    let low = c.smooth.ensures.shape.low ∙ has.low in
    let size = c.smooth.ensures.shape.size ∙ has.size in
    let cell : IsWithin p s.filtered.size = subst (λ (m : Triple). IsWithin p m) (sym has.size) h in
    let folded = λ (q : Triple) (k : IsWithin q n).
    c.fold.ensures.values a q (subst (λ (m : Triple). IsWithin q m) (sym has.current) k) ∙ ap (λ (m : Triple). wrapped m f q) has.current in
    let value = box_wraps n b a p low size h ∙ box_edge n b a p low size h ∙ c.smooth.ensures.values a p cell
    ∙ ap (λ (q : Triple). smoothed n (value_at c.fold.new.to a) q) (at_origin s.filtered.low p has.low)
    ∙ smoothed_same n (value_at c.fold.new.to a) (wrapped n f) folded p h in
    c.take_off-in-Some.ensures.values a p inside
    ∙ ap (λ (m : Triple). value_at c.args.e.now a p -ℤ wrapped m (edge_or_zero b a) p) c.requires.cells
    ∙ ap (λ (v : ℤ). value_at c.args.e.now a p -ℤ v) value
    ∙ ap (λ (o : Option Smoothing). value_at c.args.e.now a p -ℤ filtered (filter_in o) n (wrapped n f) p) (sym c.in-Some.is)
