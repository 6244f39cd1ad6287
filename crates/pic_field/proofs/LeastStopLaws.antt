-- The stop of a box is the least: the order of places is that of their numbers, and what is found
-- first along the numbers is at the least of them.
use Rattle.std.proofs.Common.{◌≡◌, ℤ, ◌^◌, Bool, true, false, cond, ltb}
use Rattle.std.proofs.Common.{Option, Some, None, unsigned_abs, refl, sym, ◌∙◌, ap}
use Rattle.std.proofs.lemmas.Bool.{ltb-true, lt-ltb, le-ltb}
use borrow.Author.Tests.{ltb-false}
use Rattle.pic_num.specs.declared.axis.Axis.{Axis}
use Rattle.pic_num.specs.Multiplier.{Multiplier}
use Rattle.pic_num.specs.Rounding.{scaled}
use Rattle.pic_num.specs.Space.{Triple}
use Rattle.pic_num.proofs.LeastLaws.{finds_none, finds_some}
use Rattle.pic_grid.specs.declared.stop.Bound.{Bound}
use Rattle.pic_grid.specs.declared.stop.Bound.TheVariants.{Value, Force}
use Rattle.pic_grid.specs.declared.stop.Phase.{Phase}
use Rattle.pic_grid.specs.declared.stop.Stop.{Stop}
use Rattle.pic_grid.specs.declared.stop.Stop.TheVariants.{Field as field_stop}
use Rattle.pic_grid.specs.Arrays.{array_of_triple}
use Rattle.pic_field.specs.FieldPhases.{fault_of, cell_above, least_fault, IsBounded}
use Rattle.pic_field.specs.LeastStop.{LeastStop, Passes, value_passes, force_passes, IsLeastStop}
use Rattle.pic_field.proofs.FaultLaws.{fault_of-none, box_finds, box_is, least_fault-bounded}
use Rattle.pic_field.proofs.OrderLaws.{before_place, place_before}

some_is : (s t : Stop) → Some s ≡ Some t → t ≡ s
some_is s t e = cc

-- the stop of one new value v, of the component on a at the cell c
module _ (phase : Phase) (by : Multiplier) (a : Axis) (c : Triple) (v : ℤ)
  where
    abbrev on_value : Stop
    on_value = field_stop phase Value a (array_of_triple c) v

    abbrev on_force : Stop
    on_force = field_stop phase Force a (array_of_triple c) (scaled v by)

    -- by the two tests: whether v is too large, and whether its force value is
    abbrev chosen : Bool → Bool → Option Stop
    chosen t u = cond t (Some on_value) (cond u (Some on_force) None)

    -- a value that passes neither bound stops nothing
    none_fault_of : IsBounded by v → fault_of phase by a c v ≡ None
    unfolding fault_of
    none_fault_of bounded =
        let value = le-ltb (2 ^ 90) (unsigned_abs v) bounded.value.size in
        let force = le-ltb (2 ^ 44) (unsigned_abs (scaled v by)) bounded.force.size in
        λ i. chosen (value i) (force i)

    -- what a stop says of the value at its place
    pub record Names (stop : Stop) : Type 0 where
      pub bound : Bound
      pub number : ℤ
      pub names : stop ≡ field_stop phase bound a (array_of_triple c) number
      pub passes : Passes by v bound number

    -- a stop of a value names the bound that it passes
    pub fault_of-some : (stop : Stop) → fault_of phase by a c v ≡ Some stop → Names stop
    unfolding fault_of
    fault_of-some stop some = go (ltb (2 ^ 90) (unsigned_abs v)) (ltb (2 ^ 44) (unsigned_abs (scaled v by))) refl refl some
      where
        go : (t u : Bool) → ltb (2 ^ 90) (unsigned_abs v) ≡ t → ltb (2 ^ 44) (unsigned_abs (scaled v by)) ≡ u
            → chosen t u ≡ Some stop → Names stop
        go true u value force is = record {
          bound = Value;
          number = v;
          names = some_is on_value stop is;
          passes = value_passes (ltb-true (2 ^ 90) (unsigned_abs v) value);
        }
        go false true value force is = record {
          bound = Force;
          number = scaled v by;
          names = some_is on_force stop is;
          passes = force_passes (record { size = ltb-false (2 ^ 90) (unsigned_abs v) value }) (ltb-true (2 ^ 44) (unsigned_abs (scaled v by)) force);
        }
        go false false value force is = cc

    -- and a value that passes a bound has that stop
    some_fault_of : (bound : Bound) (number : ℤ) → Passes by v bound number
        → fault_of phase by a c v ≡ Some (field_stop phase bound a (array_of_triple c) number)
    unfolding fault_of
    some_fault_of Value number (value_passes large) =
        ap (λ (t : Bool). chosen t (ltb (2 ^ 44) (unsigned_abs (scaled v by)))) (lt-ltb (2 ^ 90) (unsigned_abs v) large)
    some_fault_of Force number (force_passes small large) =
        let value = le-ltb (2 ^ 90) (unsigned_abs v) small.size in
        let force = lt-ltb (2 ^ 44) (unsigned_abs (scaled v by)) large in
        λ i. chosen (value i) (force i)

module _ (phase : Phase) (by : Multiplier) (low size : Triple) (f : Axis → Triple → ℤ)
  where
    -- a stop is the least
    least_fault-some : (stop : Stop) → least_fault phase by low size f ≡ Some stop → IsLeastStop phase by low size f stop
    least_fault-some stop some =
        let l = (box_finds phase by low size f).some stop some in
        let a = l.at.0 in
        let p = l.at.1 in
        let here = fault_of-some phase by a (cell_above low p) (f a (cell_above low p)) stop l.found in
        record {
          axis = a;
          at = p;
          bound = here.bound;
          value = here.number;
          names = here.names;
          within = l.within;
          passes = here.passes;
          least = λ b q v before. fault_of-none phase by b _ _ (l.before (b, q) v (before_place size b q a p v before));
        }

    -- the least stop is the answer
    some_least_fault : (stop : Stop) → IsLeastStop phase by low size f stop → least_fault phase by low size f ≡ Some stop
    some_least_fault stop h = box_is phase by low size f (Some stop) (finds_some stop (record {
      at = (h.axis, h.at);
      within = h.within;
      found = some_fault_of phase by h.axis (cell_above low h.at) (f h.axis (cell_above low h.at)) h.bound h.value h.passes
          ∙ ap (λ (s : Stop). Some s) (sym h.names);
      before = λ c v less. none_fault_of phase by c.0 _ _ (h.least c.0 c.1 v (place_before size c.0 c.1 h.axis h.at v h.within less));
    }))

-- the law
pub least_stop : LeastStop
least_stop phase by low size f = (
  (
    (λ none. record { bounded = least_fault-bounded phase by low size f none }),
    λ each. box_is phase by low size f None (finds_none (λ c w. none_fault_of phase by c.0 _ _ (each.bounded c.0 c.1 w))),
  ),
  λ stop. (least_fault-some phase by low size f stop, some_least_fault phase by low size f stop),
)
