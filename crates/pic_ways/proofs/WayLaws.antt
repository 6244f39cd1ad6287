-- Gauss's law through ways that charges have gone: what a node's charge loses by them is the divergence of
-- their current.
use Rattle.std.proofs.Common.{◌≡◌, ℕ, ◌<◌, List, [], ◌∷◌, map, Option, Some, None, sym, ◌∙◌, arith}
use Rattle.std.proofs.Math.IntN.{ℤ, pos, ◌+ℤ◌, ◌-ℤ◌, ◌*ℤ◌}
use Rattle.std.specs.Prelude.{All}
use Rattle.std.proofs.lemmas.Int.{ints}
use Rattle.std.proofs.lemmas.List.Elements.{All-head, All-tail}
use Rattle.pic_num.specs.declared.motion.Kind.{Kind}
use Rattle.pic_num.specs.declared.motion.Particle.{Particle}
use Rattle.pic_num.specs.Space.{Triple, triple, spot}
use Rattle.pic_num.proofs.ProductLaws.{minus_itself}
use Rattle.pic_block.specs.Cells.{IsWithin}
use Rattle.pic_grid.specs.Current.{wrapped}
use Rattle.pic_grid.specs.Differences.{div_e}
use Rattle.pic_grid.specs.Hat.{HasTwo, weight}
use Rattle.pic_grid.specs.Sums.{sum_over}
use Rattle.pic_filter.specs.Smoothing.{filtered}
use Rattle.pic_filter.proofs.FilteredLaws.{filtered_same, filtered_minus, div_e-filtered}
use Rattle.pic_charge.specs.Charge.{share, charge_of, rho_of}
use Rattle.pic_split.proofs.ContinuityLaws.{continuity_of_move}
use Rattle.pic_split.proofs.ImageLaws.{div_e-zero, div_e-add, div_e-less, wrapped-zero}
use Rattle.pic_ways.specs.declared.way.Way.{Way}
use Rattle.pic_ways.specs.Way.{HasCome, at_start, way_flux, current_of_ways, WaysKeepGauss}

regroup : (a b c d : ℤ) → (a -ℤ b) +ℤ (c -ℤ d) ≡ (a +ℤ c) -ℤ (b +ℤ d)
regroup a b c d = omega (arith, ints)

module _ (side : ℕ) (n : Triple) (kinds : List Kind) (node : Triple) (above : 0 < side) (two : HasTwo n) where
  -- one particle: the divergence of its way's current is what its share there loses by it
  div_way : (o : Option Way) (x : Particle) → IsWithin node n → HasCome side n kinds x o
      → div_e n (λ a p. wrapped n (way_flux side o a) p) node ≡ share side n kinds (at_start x o) node -ℤ share side n kinds x node
  unfolding way_flux share
  div_way None x within come =
      (λ t. div_e n (λ a p. wrapped-zero n p t) node) ∙ div_e-zero n node ∙ minus_itself (share side n kinds x node)
  div_way (Some w) x within come =
      continuity_of_move side n w.charge (triple w.from) (spot w.by) node above two within come.way.from come.way.by
      ∙ (λ t. pos 12 *ℤ come.charge t *ℤ pos (weight side n (triple w.from) node)
      -ℤ pos 12 *ℤ come.charge t *ℤ pos (weight side n (sym come.place t) node))

  -- all particles
  div_ways : (way : Particle → Option Way) (xs : List Particle) → IsWithin node n → All (λ x. HasCome side n kinds x (way x)) xs
      → div_e n (current_of_ways side n way xs) node
      ≡ charge_of side n kinds (map (λ x. at_start x (way x)) xs) node -ℤ charge_of side n kinds xs node
  unfolding current_of_ways charge_of sum_over
  div_ways way [] within come = div_e-zero n node
  div_ways way (x ∷ xs) within come =
      let P : Particle → Type 0 = λ y. HasCome side n kinds y (way y) in
      let first = div_way (way x) x within (All-head P x xs come) in
      let rest = div_ways way xs within (All-tail P x xs come) in
      div_e-add n (λ a p. wrapped n (way_flux side (way x) a) p) (current_of_ways side n way xs) node
      ∙ (λ t. first t +ℤ rest t)
      ∙ regroup (share side n kinds (at_start x (way x)) node) (share side n kinds x node)
      (charge_of side n kinds (map (λ y. at_start y (way y)) xs) node) (charge_of side n kinds xs node)

-- where E meets Gauss's law for the particles at the beginnings of their ways, E less the filtered current
-- of the ways meets it for the particles at the ends
pub gauss_by_ways : WaysKeepGauss
unfolding rho_of
gauss_by_ways side filter n kinds way xs e node above two within come meets =
    let before = charge_of side n kinds (map (λ x. at_start x (way x)) xs) in
    let after = charge_of side n kinds xs in
    let current = current_of_ways side n way xs in
    let falls =
    div_e-filtered filter n current node
    ∙ filtered_same filter n (div_e n current) (λ q. before q -ℤ after q) (λ q inner. div_ways side n kinds q above two way xs inner come) node within
    ∙ filtered_minus filter n before after node in
    div_e-less n e (λ a. filtered filter n (current a)) node
    ∙ (λ t. meets t -ℤ falls t)
    ∙ less_less (filtered filter n before node) (filtered filter n after node)
  where
    less_less : (a b : ℤ) → a -ℤ (a -ℤ b) ≡ b
    less_less a b = omega (arith, ints)
