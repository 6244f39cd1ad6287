-- The force value of the least place that has one too large.
use Rattle.std.proofs.Common.{◌≡◌, ◌<◌, Bool, cond, Some, None, unsigned_abs, sym, ◌∙◌, ap, subst}
use Rattle.std.proofs.Math.IntN.{ℤ}
use Rattle.std.specs.Prelude.{nat_le}
use Rattle.std.proofs.lemmas.Bool.{leb-false, lt-leb}
use Rattle.pic_num.specs.declared.axis.Axis.{Axis}
use Rattle.pic_num.specs.Limits.{most_force}
use Rattle.pic_num.specs.Multiplier.{Multiplier}
use Rattle.pic_num.specs.Rounding.{scaled}
use Rattle.pic_num.specs.Space.{Triple}
use Rattle.pic_num.proofs.FirstLaws.{some_if}
use Rattle.pic_num.proofs.LeastLaws.{finds_some}
use Rattle.pic_field.proofs.OrderLaws.{before_place, place_before}
use Rattle.pic_deck.specs.Initial.{strong, first_strong}
use Rattle.pic_deck.proofs.ForceLaws.{weak_where, none_where, strong_finds, strong_is, none_strong}
use Rattle.pic_laws.specs.LeastStrong.{IsLeastStrong, LeastStrong}

-- one value
module _ (by : Multiplier) (v : ℤ)
  where
    abbrev force : ℤ
    force = scaled v by

    strong_where : (f : ℤ) → strong by v ≡ Some f → (f ≡ force) × (most_force < unsigned_abs f)
    unfolding strong
    strong_where f some =
        let found = some_if (nat_le (unsigned_abs force) most_force) force f some in
        (sym found.1, subst (λ (z : ℤ). most_force < unsigned_abs z) found.1 (leb-false (unsigned_abs force) most_force found.0))

    some_where : (f : ℤ) → f ≡ force → most_force < unsigned_abs f → strong by v ≡ Some f
    unfolding strong
    some_where f is large =
        ap (λ (t : Bool). cond t None (Some force)) (lt-leb (unsigned_abs force) most_force (subst (λ (z : ℤ). most_force < unsigned_abs z) is large))
        ∙ ap (λ (z : ℤ). Some z) (sym is)

module _ (n : Triple) (by : Multiplier) (g : Axis → Triple → ℤ)
  where
    some_least : (f : ℤ) → first_strong n by g ≡ Some f → IsLeastStrong n by g f
    some_least f some =
        let l = (strong_finds n by g).some f some in
        let here = strong_where by (g l.at.0 l.at.1) f l.found in
        record {
          axis = l.at.0;
          cell = l.at.1;
          within = l.within;
          value = here.0;
          large = here.1;
          least = λ b q v before. weak_where by (g b q) (l.before (b, q) v (before_place n b q l.at.0 l.at.1 v before));
        }

    least_some : (f : ℤ) → IsLeastStrong n by g f → first_strong n by g ≡ Some f
    least_some f is = strong_is n by g (Some f) (finds_some f (record {
      at = (is.axis, is.cell);
      within = is.within;
      found = some_where by (g is.axis is.cell) f is.value is.large;
      before = λ c v less. none_where by (g c.0 c.1) (is.least c.0 c.1 v (place_before n c.0 c.1 is.axis is.cell v is.within less));
    }))

-- the law
pub least_strong : LeastStrong
least_strong n by g = (
  (
    (λ none. record { weak = λ a p w. weak_where by (g a p) ((strong_finds n by g).none none (a, p) w) }),
    λ are. none_strong n by g are.weak,
  ),
  λ f. (some_least n by g f, least_some n by g f),
)
