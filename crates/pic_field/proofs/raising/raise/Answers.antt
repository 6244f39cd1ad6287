use Rattle.std.proofs.Common.{◌≡◌, ◌*◌, ◌<◌, ◌^◌, ◌+ℤ◌, ◌-ℤ◌, ℤ, to_z, of_z, sym, ◌∙◌, ap, subst, arith}
use mir.Syntax.{w128}
use mir.Val.{SFits}
use Rattle.pic_num.specs.Sizes.{IsAtMost}
use Rattle.pic_num.specs.Space.{Triple, Spot, triple, spot, unwrapped}
use Rattle.pic_num.proofs.SizeLaws.{codes, code_fits, code_is}
use Rattle.pic_block.specs.Block.{InZone, inner_at, edge_at, outer_of}
use Rattle.pic_block.specs.Cells.{IsWithin, count_of, place_of}
use Rattle.pic_block.proofs.PlaceLaws.{first_place, next_place}
use Rattle.pic_grid.specs.Differences.{curl_b}
use Rattle.pic_grid.specs.Lattice.{value_at}
use Rattle.pic_field.specs.Lines.{OnStrip}
use Rattle.pic_field.specs.FieldPhases.{most_lessened}
use Rattle.pic_field.proofs.CalmLaws.{all_small}
use Rattle.pic_field.proofs.RaisedLaws.{raised, none_raised, still_old, raised_more, raised_long, raised_all, raised_small, all_small_in, block_small, outer_within, drive_curl}
use Rattle.pic_field.proofs.ZoneLaws.{edge_at-shaped}
use Rattle.pic_field.proofs.raising.raise.Goals as goal
use Rattle.pic_field.proofs.raising.raise.Goals.{After-at}

-- where the walk stands
record Here (c : After-at) : Type 0 where
  below : c.loop-number._number < 3 * count_of (triple c.zone-zone.result.size)
  within : IsWithin (triple c.loop-number.place.inner) c.args.e.now.size
  number : place_of c.args.e.now.size c.loop-number.place.axis (triple c.loop-number.place.inner) ≡ c.loop-number._number
  at : spot c.unwrapped-at.result ≡ unwrapped (outer_of c.args.e.now.low (triple c.loop-number.place.inner))
  old : IsAtMost (inner_at c.args.e.now c.loop-number.place.axis (triple c.loop-number.place.inner)) (2 ^ 90)
  curl : IsAtMost c.curl_of.result (2 ^ 66)
  taken : c.at.result ≡ inner_at c.args.j.now c.loop-number.place.axis (triple c.loop-number.place.inner)
  current : IsAtMost c.at.result (2 ^ 90)

here : (c : After-at) → Here c
here c =
    let e = c.args.e.now in
    let p = triple c.loop-number.place.inner in
    let a = c.loop-number.place.axis in
    let below : c.loop-number._number < 3 * count_of (triple c.zone-zone.result.size) =
    omega (arith, c.place_count-number-end.ensures, c.loop-number-test.true) in
    let within = subst (λ (n : Triple). IsWithin p n) c.zone-zone.ensures.size (c.loop-number.invariant.place.within below) in
    let at = c.unwrapped-at.ensures ∙ ap unwrapped (c.cell_in-cell.ensures.value ∙ ap (λ (l : Spot). outer_of l p) c.zone-zone.ensures.low) in
    let taken = c.at.ensures ∙ ap (edge_at c.args.j.now a) at ∙ edge_at-shaped c.args.j.now e c.args.m.now.cells a p c.requires.j_shape c.requires.among in
    record {
      below = below;
      within = within;
      number = ap (λ (n : Triple). place_of n a p) (sym c.zone-zone.ensures.size) ∙ c.loop-number.invariant.place.number below;
      at = at;
      old = (all_small (2 ^ 90) (OnStrip 0 e.size.y) e c.args.m.now.cells c.requires.among c.requires.e_small).at_most a p within
          (record { y_from = omega arith; y_below = within.y });
      curl = subst (λ (v : ℤ). IsAtMost v (2 ^ 66)) (sym c.curl_of.ensures)
          (drive_curl c.args.m.now a (triple c.cell_in-cell.result)
          (subst (λ (n : Triple). IsWithin (triple c.cell_in-cell.result) n) c.cells-cells.ensures.value c.cell_in-cell.ensures.within) c.requires.m_small);
      taken = taken;
      current = subst (λ (v : ℤ). IsAtMost v (2 ^ 90)) (sym taken) (block_small c.args.j.now e c.args.m.now.cells c.requires.j_shape c.requires.among
          c.requires.j_small a p within);
    }

-- a value and what is added to it
module _ (v w j : ℤ) (old : IsAtMost v (2 ^ 90)) (curl : IsAtMost w (2 ^ 66)) (current : IsAtMost j (2 ^ 90))
  where
    abbrev word : ℤ → ℤ
    word z = to_z w128 (of_z w128 z)

    more_fits : SFits w128 (word w -ℤ word j)
    more_fits = code_fits w128 (search codes depth 14) tt

    more_is : word (word w -ℤ word j) ≡ w -ℤ j
    more_is = code_is (search codes depth 16) tt

    sum_fits : SFits w128 (v +ℤ word (word w -ℤ word j))
    sum_fits = code_fits w128 (search codes depth 24) tt

pub overflow_sub-more : goal.overflow_sub-more
overflow_sub-more c =
    let h = here (goal.at.overflow_sub-more c).After-at in
    more_fits (inner_at c.args.e.now c.loop-number.place.axis (triple c.loop-number.place.inner)) _ _ h.old h.curl h.current

pub add-requires-clause-room : goal.add-requires-clause-room
add-requires-clause-room c =
    let at = (goal.at.add-requires-clause-room c).After-at in
    let h = here at in
    let is = still_old _ c.args.e.now c.loop-number.e c.args.m.now.cells c.loop-number._number c.loop-number.place.axis (triple c.loop-number.place.inner)
    (spot c.unwrapped-at.result) c.requires.among c.loop-number.invariant.changed h.within h.number h.at in
    subst (λ (v : ℤ). SFits w128 (v +ℤ to_z w128 (of_z w128 (to_z w128 (of_z w128 c.curl_of.result) -ℤ to_z w128 (of_z w128 c.at.result))))) (sym is)
    (sum_fits _ c.curl_of.result c.at.result h.old h.curl h.current)

pub cell_in-cell-requires : goal.cell_in-cell-requires
cell_in-cell-requires c = record {
  among = rw (c.zone-zone.ensures.low, c.zone-zone.ensures.size, c.cells-cells.ensures.value) c.requires.among;
  within = c.loop-number.invariant.place.within (omega (arith, c.place_count-number-end.ensures, c.loop-number-test.true));
}

pub curl_of-requires : goal.curl_of-requires
curl_of-requires c = record {
  within = subst (λ (n : Triple). IsWithin (triple c.cell_in-cell.result) n) c.cells-cells.ensures.value c.cell_in-cell.ensures.within;
  small = c.requires.m_small;
}

pub add-requires-clause-within : goal.add-requires-clause-within
add-requires-clause-within c =
    let shaped = c.loop-number.invariant.changed.shaped in
    let low = c.zone-zone.ensures.low ∙ sym shaped.low in
    let size = c.zone-zone.ensures.size ∙ sym shaped.size in
    rw c.unwrapped-at.ensures (subst (λ (l : Spot). InZone l c.loop-number.e.size (unwrapped (triple c.cell_in-cell.result))) low
    (subst (λ (n : Triple). InZone (spot c.zone-zone.result.low) n (unwrapped (triple c.cell_in-cell.result))) size c.cell_in-cell.ensures.inside))

pub following-place-requires : goal.following-place-requires
following-place-requires c = record {
  within = c.loop-number.invariant.place.within (omega (arith, c.place_count-number-end.ensures, c.loop-number-test.true));
}

pub returns-clause-shape : goal.returns-clause-shape
returns-clause-shape c = c.loop-number.invariant.changed.shaped

pub loop-number-init : goal.loop-number-init
loop-number-init c = record {
  place = first_place (triple c.zone-zone.result.size) _ _ c.first-place.ensures.axis c.first-place.ensures.inner;
  changed = none_raised _ c.args.e.now;
  long = c.zone-zone.ensures.shape;
}

pub loop-number-preserved : goal.loop-number-preserved
loop-number-preserved c =
    let e = c.args.e.now in
    let m = c.args.m.now in
    let i = c.loop-number._number in
    let a = c.loop-number.place.axis in
    let p = triple c.loop-number.place.inner in
    let g = raised m.cells (value_at m) c.args.j.now e.low in
    let h = here (goal.at.loop-number-preserved c).After-at in
    let q = spot c.unwrapped-at.result in
    let changed = c.loop-number.invariant.changed in
    let old = still_old g e c.loop-number.e m.cells i a p q c.requires.among changed h.within h.number h.at in
    let cell : triple c.cell_in-cell.result ≡ outer_of e.low p = c.cell_in-cell.ensures.value ∙ ap (λ (l : Spot). outer_of l p) c.zone-zone.ensures.low in
    let curl : c.curl_of.result ≡ curl_b m.cells (value_at m) a (outer_of e.low p) = c.curl_of.ensures ∙ ap (curl_b m.cells (value_at m) a) cell in
    let more = more_is (inner_at e a p) c.curl_of.result c.at.result h.old h.curl h.current ∙ (λ j. curl j -ℤ h.taken j) in
    let value : edge_at c.loop-number.e a q +ℤ to_z w128 (of_z w128 (to_z w128 (of_z w128 c.curl_of.result) -ℤ to_z w128 (of_z w128 c.at.result)))
    ≡ g a p (inner_at e a p) = λ j. old j +ℤ more j in
    let is = c.add.ensures.after in
    record {
      place = next_place (triple c.zone-zone.result.size) i a p _ _ c.loop-number.invariant.place h.below c.following-place.ensures.within
          c.following-place.ensures.number;
      changed = raised_more g e c.loop-number.e m.cells i a p q c.requires.among changed h.within h.number h.at c.add.new.self _ c.loop-number.invariant.long
          value is;
      long = raised_long g e c.loop-number.e m.cells i a p q c.requires.among changed h.within h.number h.at c.add.new.self _ c.loop-number.invariant.long
          value is;
    }

pub returns-clause-values : goal.returns-clause-values
returns-clause-values c =
    let end : c.loop-number._number ≡ 3 * count_of (triple c.zone-zone.result.size) =
    omega (arith, c.place_count-number-end.ensures, c.loop-number-test.false, c.loop-number.auto._number-end) in
    raised_all _ c.args.e.now c.loop-number.e c.loop-number._number c.loop-number.invariant.changed
    (end ∙ ap (λ (n : Triple). 3 * count_of n) c.zone-zone.ensures.size)

pub returns-clause-small : goal.returns-clause-small
returns-clause-small c =
    let e = c.args.e.now in
    let m = c.args.m.now in
    let new = c.loop-number.e in
    let shaped = c.loop-number.invariant.changed.shaped in
    let small = all_small (2 ^ 90) (OnStrip 0 e.size.y) e m.cells c.requires.among c.requires.e_small in
    all_small_in most_lessened new (λ a p v.
    let w : IsWithin p e.size = subst (λ (n : Triple). IsWithin p n) shaped.size v in
    subst (λ (x : ℤ). IsAtMost x most_lessened) (sym (returns-clause-values c a p w))
    (raised_small _ _ _ (small.at_most a p w (record { y_from = omega arith; y_below = w.y }))
    (drive_curl m a (outer_of e.low p) (outer_within e.low e.size m.cells p c.requires.among w) c.requires.m_small)
    (block_small c.args.j.now e m.cells c.requires.j_shape c.requires.among c.requires.j_small a p w)))
