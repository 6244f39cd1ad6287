-- How large the flux of a push can be at an edge.
use Rattle.std.proofs.Common.{◌≡◌, ℕ, ◌*◌, ◌<◌, ◌≤◌, List, length, Result, Ok, Err, refl, arith}
use Rattle.std.specs.Prelude.{unsigned_abs, All}
use Rattle.std.proofs.lemmas.Int.{ints}
use Rattle.pic_num.specs.Limits.{most_charge, most_side, most_flux_of}
use Rattle.pic_num.specs.declared.motion.Particle.{Particle}
use Rattle.pic_num.specs.declared.axis.Axis.{Axis}
use Rattle.pic_num.specs.Push.{Shift, Halting}
use Rattle.pic_num.proofs.SizeLaws.{times_at_most}
use Rattle.pic_num.specs.Space.{Spot, triple, along, unwrapped}
use Rattle.pic_grid.specs.PushPhase.{Surroundings, kind_of, push_of}
use Rattle.pic_grid.specs.Species.{IsKind}
use Rattle.pic_grid.proofs.OverLaws.{sum_over_bound}
use Rattle.pic_grid.proofs.SpeciesLaws.{kind_of_most}
use Rattle.pic_split.proofs.LeadLaws.{move_along}
use Rattle.pic_split.proofs.WayLaws.{path_flux_size}
use Rattle.pic_grid.specs.Traces.{trace_of, traces, IsFluxAtMost}
use Rattle.pic_push.proofs.PushLaws.{push_move}

-- what one path can carry through an edge
abbrev pub most_of_one : ℕ
most_of_one = most_charge * (12 * (most_side * most_side * most_side))

pub product_most : (side q d : ℕ) → side ≤ most_side → q ≤ most_charge → d ≤ side → q * d * (12 * (side * side)) ≤ most_of_one
product_most side q d most h k =
    let first = times_at_most q d most_charge most_side h (omega (arith, k, most)) in
    let square = times_at_most side side most_side most_side most most in
    let all = times_at_most (q * d) (12 * (side * side)) (most_charge * most_side) (12 * (most_side * most_side)) first (omega (arith, square)) in
    omega (arith, all)

trace_size : (w : Surroundings) (particle : Particle) (r : Result Shift Halting) (a : Axis) (c : Spot) → push_of w particle ≡ r → 0 < w.side
    → w.side ≤ most_side → All IsKind w.kinds
    → unsigned_abs (trace_of w.side w.kinds particle r a c) ≤ most_of_one
unfolding trace_of
trace_size w particle (Err h) a c is some side limits = omega (arith, ints)
trace_size w particle (Ok s) a c is some side limits =
    let move = push_move w particle s is in
    let size = path_flux_size w.side (kind_of w.kinds particle).charge (unwrapped (triple particle.x)) s.d a c some move in
    let charge = kind_of_most w.kinds particle limits in
    let way = move_along w.side a s.d move in
    let most = product_most w.side (unsigned_abs (kind_of w.kinds particle).charge) (unsigned_abs (along a s.d)) side charge way in
    omega (arith, size, most)

-- the flux of as many particles
pub flux_size : (w : Surroundings) (particles : List Particle) (count : ℕ) → 0 < w.side → w.side ≤ most_side → All IsKind w.kinds
    → length particles ≤ count → IsFluxAtMost (most_flux_of count) (traces w particles)
unfolding traces
flux_size w particles count some side limits few = record {
  at_most = λ a c.
      let all = sum_over_bound (λ particle. trace_of w.side w.kinds particle (push_of w particle) a c) particles most_of_one
      (λ particle. trace_size w particle (push_of w particle) a c refl some side limits) in
      record { size = omega (arith, all, few) };
}
