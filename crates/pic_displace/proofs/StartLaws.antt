-- The E of the displaced start: what wraps from a block of all ways' flux is their current, and how large E is.
use Rattle.std.proofs.Common.{◌≡◌, ℕ, ◌+◌, ◌*◌, ◌^◌, ◌<◌, ◌≤◌, Bool, true, false, cond, List, length, Option, refl, sym, ap, subst, ◌∙◌, arith}
use Rattle.std.proofs.Math.IntN.{ℤ, pos, ◌+ℤ◌, ◌-ℤ◌}
use Rattle.std.proofs.Math.Nat.{mul-le-mul_right}
use Rattle.std.specs.Prelude.{All, ◌==◌}
use Rattle.std.proofs.lemmas.Int.{ints}
use Rattle.pic_num.specs.declared.axis.Axis.{Axis}
use Rattle.pic_num.specs.Limits.{most_side, most_particles, most_flux_of, most_value}
use Rattle.pic_num.specs.Sizes.{IsAtMost}
use Rattle.pic_num.specs.Space.{Triple, Spot}
use Rattle.pic_block.specs.Block.{BlockValues, InZone, IsShaped, edge_at, inner_of}
use Rattle.pic_block.specs.Cells.{Grid, IsWithin, count_of, place_of}
use Rattle.pic_block.proofs.BlockLaws.{in_zone_shaped}
use Rattle.pic_block.proofs.ShapeLaws.{shaped_back, zero_read}
use Rattle.pic_grid.specs.Current.{wrapped}
use Rattle.pic_grid.specs.Hat.{HasTwo}
use Rattle.pic_grid.specs.Lattice.{Field, EachAtMost, value_at, field_of}
use Rattle.pic_grid.proofs.LatticeLaws.{is_field_of, value_at-field_of}
use Rattle.pic_flux.specs.Adds.{Adds}
use Rattle.pic_filter.specs.Smoothing.{filtered, smoothed, most_to_smooth, most_smoothed}
use Rattle.pic_filter.proofs.SizeLaws.{smoothed_small}
use Rattle.pic_num.specs.declared.motion.Particle.{Particle}
use Rattle.pic_num.proofs.VersionLaws.{side_least, side_most}
use Rattle.pic_deck.specs.declared.species.Species.{Species}
use Rattle.pic_deck.specs.Deck.{DeckView, IsWithinLimits as IsDeckWithinLimits, deck_grid, initial_e}
use Rattle.pic_load.specs.Loading.{AreLoaded, loaded}
use Rattle.pic_ways.specs.declared.way.Way.{Way}
use Rattle.pic_ways.specs.Margin.{margin_low, margin_size, edge_or_zero}
use Rattle.pic_ways.specs.Room.{IsEmptyMargin}
use Rattle.pic_ways.specs.Way.{IsWithinLimits, flux_of_ways, current_of_ways}
use Rattle.pic_displace.specs.Displace.{way_of, displaced_e, BecomesDisplaced}
use Rattle.pic_displace.proofs.DisplaceLaws.{few_particles, all_ways_within}
use Rattle.pic_ways.proofs.MarginLaws.{edges_are}
use Rattle.pic_ways.proofs.WaySizeLaws.{currents_most, fluxes_beyond, wraps}

none_and : (x y f : ℤ) → x ≡ pos 0 → y ≡ x +ℤ f → y ≡ f
none_and x y f h k = omega (arith, ints, h, k)

-- what wraps from the block to which the flux of all ways was added
pub block_current : {A : Type 0} (side : ℕ) (n : Triple) (way : A → Option Way) (xs : List A) (empty full : BlockValues) → 0 < side → side ≤ most_side
    → All (λ x. IsWithinLimits side n (way x)) xs → IsEmptyMargin n empty → IsShaped empty full → Adds empty full (flux_of_ways side way xs)
    → (a : Axis) (p : Triple) → wrapped n (edge_or_zero full a) p ≡ current_of_ways side n way xs a p
block_current side n way xs empty full above most are is shape adds a p =
    let f = flux_of_ways side way xs in
    let same : (b : Axis) (c : Spot) → edge_or_zero full b c ≡ f b c = edges_are full f
    (λ b c h.
    let back = in_zone_shaped full empty c (shaped_back empty full shape) h in
    none_and (edge_at empty b c) (edge_at full b c) (f b c) (zero_at b c) (adds.at b c back))
    (λ b c out. fluxes_beyond side n above most way xs are b c
    (λ h. out (in_zone_shaped empty full c shape (subst (λ (e : BlockValues). InZone e.low e.size c) (sym is) h)))) in
    (λ t. wrapped n (λ c. same a c t) p) ∙ wraps side n way xs a p
  where
    zero_at : (b : Axis) (c : Spot) → edge_at empty b c ≡ pos 0
    zero_at b c =
        ap (λ (e : BlockValues). edge_at e b c) is
        ∙ zero_read (3 * count_of (margin_size n)) (place_of (margin_size n) b (inner_of margin_low c))

-- it is small enough to be filtered
pub current_small : {A : Type 0} (side : ℕ) (n : Triple) (way : A → Option Way) (xs : List A) → 0 < side → side ≤ most_side → HasTwo n
    → All (λ x. IsWithinLimits side n (way x)) xs → length xs ≤ most_particles → (a : Axis) (p : Triple)
    → IsAtMost (current_of_ways side n way xs a p) most_to_smooth
current_small side n way xs above most two are few a p =
    let all = currents_most side n above most way xs are a p two in
    let count : length xs * most_flux_of 1 ≤ most_particles * most_flux_of 1 = mul-le-mul_right (most_flux_of 1) few in
    record { size = omega (arith, all, count) }

-- and so is what a filter makes of it
pub filtered_small : (filter : ℕ) (n : Triple) (g : Triple → ℤ) → ((p : Triple) → IsWithin p n → IsAtMost (g p) most_to_smooth) → (p : Triple) → IsWithin p n
    → IsAtMost (filtered filter n g p) most_smoothed
unfolding filtered
filtered_small filter n g small p within = go (filter == 0)
  where
    go : (t : Bool) → IsAtMost (cond t g (smoothed n g) p) most_smoothed
    go true = let s = small p within in record { size = omega (arith, s.size) }
    go false = smoothed_small n g most_to_smooth small p within

pub less_small : (x y : ℤ) → IsAtMost x (2 ^ 84) → IsAtMost y most_smoothed → IsAtMost (x -ℤ y) most_value
less_small x y h k = record { size = omega (arith, ints, h.size, k.size) }

-- the deck's own E
pub initial_small : (d : DeckView) (e : Field) → IsDeckWithinLimits d → e ≡ field_of e.side d.cells e.parts (initial_e d) → EachAtMost (2 ^ 84) e
initial_small d e limits is = subst (λ (f : Field). EachAtMost (2 ^ 84) f) (sym is) (record {
  at_most = λ a p h. subst (λ (v : ℤ). IsAtMost v (2 ^ 84)) (sym (value_at-field_of e.side d.cells e.parts (initial_e d) a p h)) (limits.e.values a p h);
})

-- E less the filtered current of the ways is the displaced start's
pub displaced_now : (d : DeckView) (ps : List Particle) (n : Triple) (filter : ℕ) (current : Axis → Triple → ℤ) (old new : Field)
    → old ≡ field_of old.side d.cells old.parts (initial_e d) → n ≡ d.cells → filter ≡ d.filter
    → ((a : Axis) (p : Triple) → current a p ≡ current_of_ways d.side d.cells (way_of d.species ps) ps a p)
    → new.cells ≡ old.cells → new.side ≡ old.side → new.parts ≡ old.parts → length new.values ≡ 3 * count_of new.cells
    → ((a : Axis) (p : Triple) → IsWithin p n → value_at new a p ≡ value_at old a p -ℤ filtered filter n (current a) p)
    → BecomesDisplaced d ps old new
unfolding displaced_e
displaced_now d ps n filter current old new was is by same cells side parts shape values = record {
  is = is_field_of old.side d.cells old.parts (displaced_e d ps) new whole side parts (shape ∙ ap (λ (m : Triple). 3 * count_of m) whole) value;
}
  where
    whole : new.cells ≡ d.cells
    whole = cells ∙ ap (λ (f : Field). f.cells) was

    value : (a : Axis) (p : Triple) → IsWithin p d.cells → value_at new a p ≡ displaced_e d ps a p
    value a p h =
        values a p (subst (λ (m : Triple). IsWithin p m) (sym is) h)
        ∙ (λ t. value_at (was t) a p -ℤ filtered (by t) (is t) (λ q. same a q t) p)
        ∙ ap (λ (v : ℤ). v -ℤ filtered d.filter d.cells (current_of_ways d.side d.cells (way_of d.species ps) ps a) p)
        (value_at-field_of old.side d.cells old.parts (initial_e d) a p h)

-- no value of it is too large for its test
pub displaced_small : (d : DeckView) (ps : List Particle) → IsDeckWithinLimits d → 0 < d.side → d.side ≤ most_side → HasTwo d.cells
    → All (λ x. IsWithinLimits d.side d.cells (way_of d.species ps x)) ps → length ps ≤ most_particles
    → (a : Axis) (p : Triple) → IsWithin p d.cells → IsAtMost (displaced_e d ps a p) most_value
unfolding displaced_e
displaced_small d ps limits above most two are few a p h =
    less_small (initial_e d a p) (filtered d.filter d.cells (current_of_ways d.side d.cells (way_of d.species ps) ps a) p) (limits.e.values a p h)
    (filtered_small d.filter d.cells (current_of_ways d.side d.cells (way_of d.species ps) ps a)
    (λ q w. current_small d.side d.cells (way_of d.species ps) ps above most two are few a q) p h)

-- The list of a deck's particles.
module _ (d : DeckView) (ps : List Particle) (limits : IsDeckWithinLimits d) (are : AreLoaded d ps) (is : ps ≡ loaded d) where
  above : 0 < d.side
  above = let least = side_least d.version d.side limits.settings.allowed.sides in omega (arith, least)

  most : d.side ≤ most_side
  most = side_most d.version d.side limits.settings.allowed.sides

  two : HasTwo d.cells
  two = let cells = limits.settings.cells in record { x = cells.x_least; y = cells.y_least; z = cells.z_least }

  ways : All (λ x. IsWithinLimits d.side d.cells (way_of d.species ps x)) ps
  ways = all_ways_within d (deck_grid d) d.species ps refl refl is limits are

  -- what wraps from the block is the current of its ways
  pub now_current : (g : Grid) (species : List Species) (empty full : BlockValues) → g ≡ deck_grid d → species ≡ d.species → IsEmptyMargin d.cells empty
      → IsShaped empty full → Adds empty full (flux_of_ways g.side (way_of species ps) ps) → (a : Axis) (p : Triple)
      → wrapped g.n (edge_or_zero full a) p ≡ current_of_ways d.side d.cells (way_of d.species ps) ps a p
  now_current g species empty full cells same zeros shape adds a p =
      ap (λ (h : Grid). wrapped h.n (edge_or_zero full a) p) cells
      ∙ block_current d.side d.cells (way_of d.species ps) ps empty full above most ways zeros shape
      (subst (λ (f : Axis → Spot → ℤ). Adds empty full f) (λ t. flux_of_ways (cells t).side (way_of (same t) ps) ps) adds) a p

  pub current_fits : (a : Axis) (p : Triple) → IsAtMost (current_of_ways d.side d.cells (way_of d.species ps) ps a p) most_to_smooth
  current_fits = current_small d.side d.cells (way_of d.species ps) ps above most two ways (few_particles d ps are)

  pub values_fit : (a : Axis) (p : Triple) → IsWithin p d.cells → IsAtMost (displaced_e d ps a p) most_value
  values_fit = displaced_small d ps limits above most two ways (few_particles d ps are)
