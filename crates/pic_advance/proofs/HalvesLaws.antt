-- Both half steps of B over blocks, one after another and in two groups, and over all blocks of a lattice.
use Rattle.std.proofs.Common.{◌≡◌, ℕ, ℤ, ◌+◌, ◌<◌, List, ◌++◌, length, set, Option, Some, None}
use Rattle.std.proofs.Common.{sym, ◌∙◌, ap, arith}
use Rattle.pic_num.specs.declared.axis.Axis.{Axis}
use Rattle.pic_num.specs.declared.mult.Scales.{Scales}
use Rattle.pic_num.specs.Limits.{most_value}
use Rattle.pic_num.specs.Push.{unless}
use Rattle.pic_num.specs.Rounding.{scaled}
use Rattle.pic_num.specs.Space.{Triple}
use Rattle.pic_block.specs.Block.{BlockValues, outer_of}
use Rattle.pic_block.specs.Cells.{IsWithin}
use Rattle.pic_grid.specs.declared.stop.Phase.TheVariants.{Half1, Half2}
use Rattle.pic_grid.specs.declared.stop.Stop.{Stop}
use Rattle.pic_grid.specs.Gather.{force_of}
use Rattle.pic_grid.specs.Lattice.{Field, EachAtMost, value_at, field_of}
use Rattle.pic_grid.specs.Parts.{origin}
use Rattle.pic_grid.proofs.LatticeLaws.{value_at-field_of}
use Rattle.pic_field.specs.FieldPhases.{half_of, half_in, twice_in, least_fault, stop_of_half, stop_of_second}
use Rattle.pic_team.specs.Sharing.{CanShare}
use Rattle.pic_advance.specs.Blocks.{block_in, EachBlock, IsMade, earlier, earliest}
use Rattle.pic_advance.specs.Halves.{CanHalve, AreHalves, AreHalved, first_stop, second_stop, between, HalfStep}
use Rattle.pic_advance.specs.Pairs.{AllPairs}
use Rattle.pic_advance.specs.Phases.{Advances}
use Rattle.pic_advance.proofs.EachLaws.{stops_append}
use Rattle.pic_advance.proofs.EarliestLaws.{earliest_zero, earliest_more, none_earlier, none_earliest}
use Rattle.pic_advance.proofs.PairLaws.{IsPairing, can_front, can_back, pairing_none, pairing_more, pairing_all, pairs_append}
use Rattle.pic_advance.proofs.RowStopLaws.{row_stop_is}
use Rattle.pic_advance.proofs.SamePhaseLaws.{values_same, advances_same}
use Rattle.pic_advance.proofs.TakenLaws.{HasBlocks, same_long, same_zone, taken_among, taken_edge, taken_value, taken_small}

-- the blocks before i have taken both half steps, and the others and those beside them are as they were
pub record IsHalving (scales : Scales) (e : Field) (bs fs cs gs : List BlockValues) (first second : Option Stop) (i : ℕ) : Type 0 where
  pub pairs : IsPairing (AreHalves scales e) bs fs cs gs i
  pub first_is : first ≡ earliest (first_stop scales e bs) i
  pub second_is : first ≡ None → second ≡ earliest (second_stop scales e bs) i

module _ (scales : Scales) (e : Field) (bs fs : List BlockValues)
  where
    pub halving_none : IsHalving scales e bs fs bs fs None None 0
    halving_none = record {
      pairs = pairing_none (AreHalves scales e) bs fs;
      first_is = sym (earliest_zero (first_stop scales e bs));
      second_is = λ none. sym (earliest_zero (second_stop scales e bs));
    }

    -- what a loop's step leaves
    pub halving_more : (cs gs : List BlockValues) (first second one other first' second' : Option Stop) (i : ℕ) (b f c g : BlockValues)
        → length fs ≡ length bs → IsHalving scales e bs fs cs gs first second i → i < length bs
        → b ≡ block_in cs i → f ≡ block_in gs i → AreHalves scales e b f c g → one ≡ stop_of_half Half1 scales e b
        → (one ≡ None → other ≡ stop_of_second scales e b) → first' ≡ earlier first one → second' ≡ earlier second other
        → IsHalving scales e bs fs (set cs i c) (set gs i g) first' second' (i + 1)
    halving_more cs gs first second one other first' second' i b f c g same d below b_is f_is halves one_is other_is is is' =
        let was : b ≡ block_in bs i = b_is ∙ d.pairs.rest i (omega arith) in
        record {
          pairs = pairing_more (AreHalves scales e) bs fs cs gs i b f c g same d.pairs below b_is f_is halves;
          first_is = is ∙ (λ l. earlier (d.first_is l) ((one_is ∙ ap (stop_of_half Half1 scales e) was) l)) ∙ sym (earliest_more (first_stop scales e bs) i);
          second_is = λ none.
              let both = none_earlier first one (sym is ∙ none) in
              is' ∙ (λ l. earlier (d.second_is both.0 l) ((other_is both.1 ∙ ap (stop_of_second scales e) was) l))
              ∙ sym (earliest_more (second_stop scales e bs) i);
        }

    pub halving_all : (cs gs : List BlockValues) (first second : Option Stop) (i : ℕ) → length fs ≡ length bs → i ≡ length bs
        → IsHalving scales e bs fs cs gs first second i → AreHalved scales e bs fs cs gs (first, second)
    halving_all cs gs first second i same all d = record {
      pairs = pairing_all (AreHalves scales e) bs fs cs gs i same all d.pairs;
      first = d.first_is ∙ ap (earliest (first_stop scales e bs)) all;
      second = λ none. d.second_is none ∙ ap (earliest (second_stop scales e bs)) all;
    }

halved_append : (scales : Scales) (e : Field) (bs bs' fs fs' cs cs' gs gs' : List BlockValues) (p q : Option Stop × Option Stop)
    → AreHalved scales e bs fs cs gs p → AreHalved scales e bs' fs' cs' gs' q
    → AreHalved scales e (bs ++ bs') (fs ++ fs') (cs ++ cs') (gs ++ gs') (earlier p.0 q.0, earlier p.1 q.1)
halved_append scales e bs bs' fs fs' cs cs' gs gs' p q one other = record {
  pairs = pairs_append (AreHalves scales e) bs bs' fs fs' cs cs' gs gs' one.pairs other.pairs;
  first = stops_append (stop_of_half Half1 scales e) bs bs' p.0 q.0 one.first other.first;
  second = λ none.
      let both = none_earlier p.0 q.0 none in
      stops_append (stop_of_second scales e) bs bs' p.1 q.1 (one.second both.0) (other.second both.1);
}

-- both half steps can be shared out
pub halves_share : (scales : Scales) (e : Field)
    → CanShare (λ i bs fs. EachAtMost most_value e × AllPairs (CanHalve e.cells) bs fs) (λ i bs fs cs gs stops. AreHalved scales e bs fs cs gs stops)
    (λ p q. (earlier p.0 q.0, earlier p.1 q.1))
halves_share scales e = record {
  front = λ i xs ys us vs beside can. (can.0, can_front (CanHalve e.cells) xs ys us vs beside can.1);
  back = λ i xs ys us vs beside can. (can.0, can_back (CanHalve e.cells) xs ys us vs beside can.1);
  whole = λ i xs ys xs' ys' us vs us' vs' a c beside p q. halved_append scales e xs ys us vs xs' ys' us' vs' a c p q;
}

-- the values of B between both, and after both, by those of the lattice
abbrev pub half_all : Scales → Field → Field → Axis → Triple → ℤ
half_all scales e b a p = half_of scales e a p (value_at b a p)

abbrev pub twice_all : Scales → Field → Field → Axis → Triple → ℤ
twice_all scales e b a p = half_of scales e a p (half_all scales e b a p)

-- as B between both is read
pub between_at : (scales : Scales) (e b : Field) (a : Axis) (p : Triple) → IsWithin p e.cells → value_at (between scales e b) a p ≡ half_all scales e b a p
between_at scales e b a p w = value_at-field_of e.side e.cells b.parts (half_all scales e b) a p w

module _ (scales : Scales) (e : Field) (n : Triple) (b f : Field) (bs fs : List BlockValues) (h : HasBlocks n b bs) (k : HasBlocks n f fs)
    (parts : f.parts ≡ b.parts)
  where
    -- what the calls for the blocks require
    pub all_can_halve : EachAtMost most_value b → b.cells ≡ n → AllPairs (CanHalve n) bs fs
    all_can_halve small cells = record {
      long = same_long n b f bs fs h k parts;
      each = λ i below. record {
        advance = record { among = taken_among n b bs h i below; small = taken_small n b bs h most_value i below small cells };
        zone = same_zone n b f bs fs h k parts i below;
      };
    }

    module _ (cs gs : List BlockValues) (stops : Option Stop × Option Stop) (halved : AreHalved scales e bs fs cs gs stops)
      where
        -- the first stop of the blocks is that of all cells,
        pub first_is : stops.0 ≡ least_fault Half1 scales.b_force origin n (half_all scales e b)
        first_is =
            halved.first
            ∙ row_stop_is Half1 scales.b_force n b.parts bs (λ i. half_in scales e (block_in bs i)) (half_all scales e b) h.cells h.parts h.zones
            (λ i below a p w.
            let inside : i < length bs = (let count = h.zones.count in omega (arith, count, below)) in
            ap (half_of scales e a (outer_of (block_in bs i).low p)) (sym (taken_edge n b bs h i a p inside w)))

        module _ (none : stops.0 ≡ None)
          where
            free : (i : ℕ) → i < length bs → stop_of_half Half1 scales e (block_in bs i) ≡ None
            free i below = none_earliest (first_stop scales e bs) (length bs) (sym halved.first ∙ none) i below

            -- where there is none the second is,
            pub second_is : stops.1 ≡ least_fault Half2 scales.b_force origin n (twice_all scales e b)
            second_is =
                halved.second none
                ∙ row_stop_is Half2 scales.b_force n b.parts bs (λ i. twice_in scales e (block_in bs i)) (twice_all scales e b) h.cells h.parts h.zones
                (λ i below a p w.
                let inside : i < length bs = (let count = h.zones.count in omega (arith, count, below)) in
                let q = outer_of (block_in bs i).low p in
                ap (λ (v : ℤ). half_of scales e a q (half_of scales e a q v)) (sym (taken_edge n b bs h i a p inside w)))

            -- what both make of the blocks is what they make of the lattice,
            pub twice_made : EachBlock (IsMade (twice_all scales e b)) bs cs
            twice_made = record {
              long = halved.pairs.long;
              each = λ i below.
                  let one = halved.pairs.each i below in
                  record {
                    shaped = one.shaped;
                    values = λ a p w.
                        let q = outer_of (block_in bs i).low p in
                        one.values (free i below) a p w
                        ∙ ap (λ (v : ℤ). half_of scales e a q (half_of scales e a q v)) (sym (taken_value n b bs h i a p below w));
                  };
            }

            -- and so are the force values between them
            pub forces_made : EachBlock (IsMade (force_of scales.b_force (half_all scales e b))) bs gs
            forces_made = record {
              long = halved.pairs.beside ∙ same_long n b f bs fs h k parts;
              each = λ i below.
                  let one = halved.pairs.each i below in
                  record {
                    shaped = one.beside_shaped;
                    values = λ a p w.
                        let q = outer_of (block_in bs i).low p in
                        one.forces (free i below) a p w
                        ∙ ap (λ (v : ℤ). scaled (half_of scales e a q v) scales.b_force) (sym (taken_value n b bs h i a p below w));
                  };
            }

-- the force values of B between both, and what the second half step answers from there
pub between_forced : (scales : Scales) (e b r : Field) → r ≡ field_of e.side e.cells b.parts (force_of scales.b_force (half_all scales e b))
    → r ≡ field_of e.side e.cells b.parts (force_of scales.b_force (value_at (between scales e b)))
between_forced scales e b r is = is ∙ (λ i. record {
  cells = e.cells;
  side = e.side;
  parts = b.parts;
  values = values_same e.cells (force_of scales.b_force (half_all scales e b)) (force_of scales.b_force (value_at (between scales e b)))
      (λ a p w. ap (λ (v : ℤ). scaled v scales.b_force) (sym (between_at scales e b a p w))) i;
})

pub second_answer : (scales : Scales) (e b r : Field) (o : Option Stop) → r ≡ field_of e.side e.cells b.parts (twice_all scales e b)
    → o ≡ least_fault Half2 scales.b_force origin e.cells (twice_all scales e b) → HalfStep Half2 scales e (between scales e b) (unless o r)
second_answer scales e b r o is o_is =
    advances_same Half2 scales.b_force e.side e.cells b.parts (twice_all scales e b) (half_all scales e (between scales e b)) (unless o r)
    (λ a p w. ap (half_of scales e a p) (sym (between_at scales e b a p w))) (found o o_is)
  where
    found : (o : Option Stop) → o ≡ least_fault Half2 scales.b_force origin e.cells (twice_all scales e b)
        → Advances Half2 scales.b_force e.side e.cells b.parts (twice_all scales e b) (unless o r)
    found None none = (is, sym none)
    found (Some stop) one = sym one
