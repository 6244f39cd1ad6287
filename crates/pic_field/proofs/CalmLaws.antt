-- Where every new value is small there is no stop, and else the stop is that of the new values.
use Rattle.std.proofs.Common.{◌≡◌, ℕ, ℤ, ◌*◌, ◌/◌, ◌%◌, ◌<◌, None, sym, ◌∙◌, ap, subst, arith}
use Rattle.pic_num.specs.declared.axis.Axis.{Axis}
use Rattle.pic_num.specs.Multiplier.{Multiplier}
use Rattle.pic_num.specs.Sizes.{IsAtMost}
use Rattle.pic_num.specs.Space.{Triple, unwrapped}
use Rattle.pic_num.proofs.FirstLaws.{first_of_same}
use Rattle.pic_block.specs.Cells.{IsWithin, count_of, cell_of, axis_of}
use Rattle.pic_block.specs.Block.{BlockValues, IsAmongCells, IsShaped, AllAtMost, inner_at, edge_at, outer_of}
use Rattle.pic_block.proofs.CellLaws.{place_within}
use Rattle.pic_grid.specs.declared.stop.Phase.{Phase}
use Rattle.pic_field.specs.FieldPhases.{lowest, cell_above, fault_of, fault_at, least_fault, IsBounded}
use Rattle.pic_field.specs.LeastStop.{EachBounded}
use Rattle.pic_field.specs.Lines.{OnStrip, AreSmall}
use Rattle.pic_field.proofs.LeastStopLaws.{least_stop}
use Rattle.pic_field.proofs.ZoneLaws.{edge_at-outer, outer_inside}

-- equal values have one stop
pub least_fault-same : (phase : Phase) (by : Multiplier) (low size : Triple) (f g : Axis → Triple → ℤ)
    → ((a : Axis) (p : Triple) → IsWithin p size → f a (cell_above low p) ≡ g a (cell_above low p))
    → least_fault phase by low size f ≡ least_fault phase by low size g
unfolding least_fault
least_fault-same phase by low size f g same =
    first_of_same (fault_at phase by low size f) (fault_at phase by low size g) 0 (3 * count_of size) (λ i least below.
    let a = axis_of (i / count_of size) in
    let p = cell_of size (i % count_of size) in
    let inside : i < 3 * count_of size = omega (arith, below) in
    ap (fault_of phase by a (cell_above low p)) (same a p (place_within size i inside)))

-- values of a block that are all small are small at some places
pub all_small : (most : ℕ) (P : Axis → Triple → Type 0) (b : BlockValues) (n : Triple) → IsAmongCells b.low b.size n → AllAtMost most b → AreSmall most P b
all_small most P b n among all = record {
  at_most = λ a p w here.
      subst (λ (z : ℤ). IsAtMost z most) (edge_at-outer b n a p among) (all.at_most a (unwrapped (outer_of b.low p)) (outer_inside b.low b.size n p among w));
}

-- the values of a block of the same zone, by axis and cell of the grid
pub own_values : (old new : BlockValues) (n : Triple) → IsAmongCells old.low old.size n → IsShaped new old → (a : Axis) (p : Triple)
    → inner_at new a p ≡ edge_at new a (unwrapped (outer_of old.low p))
own_values old new n among shaped a p =
    sym ((λ i. edge_at new a (unwrapped (outer_of (sym shaped.low i) p)))
    ∙ edge_at-outer new n a p (subst (λ (d : BlockValues). IsAmongCells d.low d.size n)
    (λ i. record { low = sym shaped.low i; size = sym shaped.size i; values = new.values }) among))

module _ (phase : Phase) (by : Multiplier) (f : Axis → Triple → ℤ) (old new : BlockValues) (n : Triple) (among : IsAmongCells old.low old.size n)
    (shaped : IsShaped new old) (values : (a : Axis) (p : Triple) → IsWithin p old.size → inner_at new a p ≡ f a (outer_of old.low p))
  where
    pub calm_none : (most : ℕ) → AreSmall most (OnStrip 0 old.size.y) new → ((v : ℤ) → IsAtMost v most → IsBounded by v)
        → least_fault phase by (lowest old.low) old.size f ≡ None
    calm_none most small safe =
        let each : EachBounded by (lowest old.low) old.size f = record {
          bounded = λ a p w.
              let v : IsWithin p new.size = subst (λ (m : Triple). IsWithin p m) (sym shaped.size) w in
              subst (IsBounded by) (values a p w) (safe (inner_at new a p) (small.at_most a p v (record { y_from = omega arith; y_below = w.y })));
        } in
        (least_stop phase by (lowest old.low) old.size f).0.1 each

    pub new_stop : least_fault phase by (lowest new.low) new.size (λ a p. edge_at new a (unwrapped p)) ≡ least_fault phase by (lowest old.low) old.size f
    new_stop =
        (λ i. least_fault phase by (lowest (shaped.low i)) (shaped.size i) (λ a p. edge_at new a (unwrapped p)))
        ∙ least_fault-same phase by (lowest old.low) old.size (λ a p. edge_at new a (unwrapped p)) f (λ a p w.
        sym (own_values old new n among shaped a p) ∙ values a p w)
