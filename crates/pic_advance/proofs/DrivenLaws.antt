-- Blocks that take a step of E, in two groups, and all blocks of a lattice.
use Rattle.std.proofs.Common.{◌≡◌, ℤ, ◌<◌, All, List, length, Option, sym, ◌∙◌, ap, arith}
use Rattle.std.proofs.lemmas.List.Elements.{All-from_get_or}
use Rattle.pic_num.specs.declared.axis.Axis.{Axis}
use Rattle.pic_num.specs.declared.mult.Scales.{Scales}
use Rattle.pic_num.specs.Space.{Triple}
use Rattle.pic_block.specs.Block.{BlockValues, outer_of, no_block}
use Rattle.pic_block.specs.Cells.{count_of}
use Rattle.pic_grid.specs.declared.stop.Phase.TheVariants.{Electric}
use Rattle.pic_grid.specs.declared.stop.Stop.{Stop}
use Rattle.pic_grid.specs.Lattice.{Field, EachAtMost}
use Rattle.pic_grid.specs.Parts.{origin}
use Rattle.pic_field.specs.FieldPhases.{full_of, full_in, least_fault, stop_of_full, no_drive, most_raised}
use Rattle.pic_team.specs.Sharing.{CanShare}
use Rattle.pic_advance.specs.Blocks.{block_in, EachBlock, IsMade, earlier}
use Rattle.pic_advance.specs.Driven.{CanBeDriven, CanDrive, IsDriven, current_in, driven_stop, full_all}
use Rattle.pic_advance.proofs.EachLaws.{each_append, stops_append, all_front, all_back}
use Rattle.pic_advance.proofs.RowStopLaws.{row_stop_is}
use Rattle.pic_advance.proofs.TakenLaws.{HasBlocks, taken_among, taken_edge, taken_value, taken_small}

-- a step of E can be shared out
pub steps_share : (scales : Scales) (b : Field) (j : Option Field)
    → CanShare (λ i es (us : List BlockValues). CanDrive b j × All (CanBeDriven b.cells) es)
    (λ i es us fs vs stop. EachBlock (IsDriven scales b (current_in j)) es fs × (stop ≡ driven_stop scales b (current_in j) es)) earlier
steps_share scales b j = record {
  front = λ i xs ys us vs beside can. (can.0, all_front (CanBeDriven b.cells) xs ys can.1);
  back = λ i xs ys us vs beside can. (can.0, all_back (CanBeDriven b.cells) xs ys can.1);
  whole = λ i xs ys xs' ys' us vs us' vs' a c beside p q. (
    each_append (IsDriven scales b (current_in j)) xs ys xs' ys' p.0 q.0,
    stops_append (stop_of_full scales b no_drive (current_in j)) xs ys a c p.1 q.1,
  );
}

module _ (n : Triple) (e : Field) (es : List BlockValues) (h : HasBlocks n e es)
  where
    -- what the calls for the blocks require
    pub all_can_drive : EachAtMost most_raised e → e.cells ≡ n → All (CanBeDriven n) es
    all_can_drive small same = All-from_get_or (CanBeDriven n) es no_block (λ i below.
        record { among = taken_among n e es h i below; small = taken_small n e es h most_raised i below small same })

    module _ (scales : Scales) (b : Field) (j : Axis → Triple → ℤ)
      where
        -- what the step makes of the blocks is what it makes of the lattice,
        pub full_made : (fs : List BlockValues) → EachBlock (IsDriven scales b j) es fs → EachBlock (IsMade (full_all scales b j e)) es fs
        full_made fs each = record {
          long = each.long;
          each = λ i below.
              let one = each.each i below in
              record {
                shaped = one.shaped;
                values = λ a p w.
                    let q = outer_of (block_in es i).low p in
                    one.values a p w ∙ ap (λ (v : ℤ). full_of scales b no_drive a q v (j a q)) (sym (taken_value n e es h i a p below w));
              };
        }

        -- and its stop is that of all cells
        pub full_stop_is : (stop : Option Stop) → stop ≡ driven_stop scales b j es
            → stop ≡ least_fault Electric scales.e_force origin n (full_all scales b j e)
        full_stop_is stop is =
            is
            ∙ row_stop_is Electric scales.e_force n e.parts es (λ i. full_in scales b no_drive j (block_in es i)) (full_all scales b j e)
            h.cells h.parts h.zones (λ i below a p w.
            let q = outer_of (block_in es i).low p in
            let inside : i < length es = (let count : length es ≡ count_of e.parts = h.zones.count in omega (arith, below, count)) in
            ap (λ (v : ℤ). full_of scales b no_drive a q v (j a q)) (sym (taken_edge n e es h i a p inside w)))
