-- Arrays of numbers that stand for one thing: a row of a field, a particle, a place that is watched.
use Rattle.std.proofs.Common.{◌≡◌, ℕ, ℤ, pos, ◌≤ℤ◌, List, [], ◌∷◌, length, slice_index_or, Ok, unsigned_abs}
use Rattle.std.proofs.Common.{refl, sym, ap, ◌∙◌, subst, arith}
use Rattle.std.proofs.lemmas.Int.{ints}
use Rattle.toml.specs.Data.{Data}
use Rattle.pic_num.specs.declared.axis.Axis.{Axis}
use Rattle.pic_num.specs.declared.axis.Axis.TheVariants.{X, Y, Z}
use Rattle.pic_num.specs.Sizes.{IsAtMost}
use Rattle.pic_num.specs.Space.{Triple, spot, along, axis_number}
use Rattle.pic_block.specs.Cells.{Grid, IsCells, axis_of}
use Rattle.pic_walk.specs.declared.limits.Limits.{Limits}
use Rattle.pic_walk.specs.declared.point6.Point6.{Point6}
use Rattle.pic_walk.specs.declared.row.Row.{Row}
use Rattle.pic_walk.specs.Bounds.{fastest}
use Rattle.pic_walk.specs.Extent.{extent_of, IsExtent}
use Rattle.pic_walk.specs.Limits.{MeetsLimits, limits_at}
use Rattle.pic_walk.specs.Points.{speed_limits, point_limits, point_of}
use Rattle.pic_walk.specs.Rows.{row_limits, row_from}
use Rattle.pic_walk.specs.Walk.{◌>>=◌, numbers}
use Rattle.pic_walk.proofs.WalkLaws.{then_ok, went}
use Rattle.pic_devices.specs.declared.place.Place.{Place}
use Rattle.pic_devices.specs.Probes.{place_limits, place_from}
use Rattle.pic_deck_laws.specs.NumberRows.{row_numbers, point_numbers, place_numbers, IsFieldRow, IsParticle, IsWatched}
use Rattle.pic_deck_laws.specs.Spelling.{integers}
use Rattle.pic_deck_laws.proofs.ValueLaws.{natural_is, FitFrom, Within, numbers_ok, numbers_from, three_of}
use Rattle.pic_deck_laws.proofs.DriveLaws.{number_back, axis_back, number_most}

-- numbers within limits that stand for one thing, which is written as these numbers
pub record Stands {A : Type 0} (limits : List Limits) (from : List ℤ → A) (to : A → List ℤ) (Fits : A → Type 0) : Type 0 where
  pub there : (zs : List ℤ) → length zs ≡ length limits → FitFrom (Within limits) 0 zs → (zs ≡ to (from zs)) × Fits (from zs)
  pub size : (a : A) → length (to a) ≡ length limits
  pub fit : (a : A) → Fits a → FitFrom (Within limits) 0 (to a)
  pub back : (a : A) → Fits a → from (to a) ≡ a

pub row_ok : {A : Type 0} (limits : List Limits) (from : List ℤ → A) (to : A → List ℤ) (Fits : A → Type 0) → Stands limits from to Fits
    → (path : List ℕ) (d : Data) (a : A) → numbers limits path d >>= (λ zs. Ok (from zs)) ≡ Ok a → (d ≡ integers (to a)) × Fits a
row_ok limits from to Fits stands path d a e =
    let w = went _ _ _ e in
    let found = numbers_ok limits path d w.value w.first in
    let is = stands.there w.value found.size found.fit in
    let same : from w.value ≡ a = cc w.then in
    (found.is ∙ ap integers (is.0 ∙ ap to same), subst Fits same is.1)

pub row_of : {A : Type 0} (limits : List Limits) (from : List ℤ → A) (to : A → List ℤ) (Fits : A → Type 0) → Stands limits from to Fits
    → (path : List ℕ) (a : A) → Fits a → numbers limits path (integers (to a)) >>= (λ zs. Ok (from zs)) ≡ Ok a
row_of limits from to Fits stands path a fits =
    then_ok _ (to a) _ (numbers_from limits path (to a) (stands.size a) (stands.fit a fits)) ∙ ap Ok (stands.back a fits)

-- a number that isn't below 0
size_is : (z : ℤ) (l : Limits) → MeetsLimits l z → l.low ≡ pos 0 → z ≡ pos (unsigned_abs z)
size_is z l m low = natural_is z (unsigned_abs z) (omega (arith, ints, subst (λ (y : ℤ). y ≤ℤ z) low m.low)) refl

-- Rows of a field
row_there : (n : Triple) → IsCells n → (zs : List ℤ) → length zs ≡ 5 → FitFrom (Within (row_limits n)) 0 zs
    → (zs ≡ row_numbers (row_from zs)) × IsFieldRow n (row_from zs)
unfolding limits_at
row_there n cells [] size fit = absurd (omega (arith, size))
row_there n cells (a ∷ []) size fit = absurd (omega (arith, size))
row_there n cells (a ∷ b ∷ []) size fit = absurd (omega (arith, size))
row_there n cells (a ∷ b ∷ c ∷ []) size fit = absurd (omega (arith, size))
row_there n cells (a ∷ b ∷ c ∷ d ∷ []) size fit = absurd (omega (arith, size))
row_there n cells (a ∷ b ∷ c ∷ d ∷ v ∷ []) size fit =
    let fa = fit.0 in
    let fb = fit.1.0 in
    let fc = fit.1.1.0 in
    let fd = fit.1.1.1.0 in
    let fv = fit.1.1.1.1.0 in
    let sa : a ≡ pos (unsigned_abs a) = size_is a _ fa refl in
    let sb : b ≡ pos (unsigned_abs b) = size_is b _ fb refl in
    let sc : c ≡ pos (unsigned_abs c) = size_is c _ fc refl in
    let sd : d ≡ pos (unsigned_abs d) = size_is d _ fd refl in
    let axis : a ≡ pos (axis_number (axis_of (unsigned_abs a))) =
    sa ∙ ap pos (sym (number_back (unsigned_abs a) (omega (arith, ints, fa.low, fa.high))))
    in (
      (λ i. axis i ∷ sb i ∷ sc i ∷ sd i ∷ v ∷ []),
      record {
        allowed = record {
          within = record {
            x = omega (arith, ints, fb.low, fb.high, cells.x_least);
            y = omega (arith, ints, fc.low, fc.high, cells.y_least);
            z = omega (arith, ints, fd.low, fd.high, cells.z_least);
          };
          value = fv;
        };
        three = refl;
      },
    )
row_there n cells (a ∷ b ∷ c ∷ d ∷ v ∷ w ∷ zs) size fit = absurd (omega (arith, size))

row_fit : (n : Triple) (r : Row) → IsFieldRow n r → FitFrom (Within (row_limits n)) 0 (row_numbers r)
unfolding limits_at
row_fit n r is = (
  record { low = omega (arith, ints); high = omega (arith, ints, number_most r.axis) },
  (
    record { low = omega (arith, ints); high = omega (arith, ints, is.allowed.within.x) },
    (
      record { low = omega (arith, ints); high = omega (arith, ints, is.allowed.within.y) },
      (record { low = omega (arith, ints); high = omega (arith, ints, is.allowed.within.z) }, (is.allowed.value, tt)),
    ),
  ),
)

pub row_back : (n : Triple) (r : Row) → IsFieldRow n r → row_from (row_numbers r) ≡ r
row_back n r is = λ i. record { axis = axis_back r.axis i; cell = sym (three_of r.cell is.three) i; value = r.value }

pub row_stands : (n : Triple) → IsCells n → Stands (row_limits n) row_from row_numbers (IsFieldRow n)
row_stands n cells = record { there = row_there n cells; size = λ r. refl; fit = row_fit n; back = row_back n }

-- Places
place_there : (n : Triple) → IsCells n → (zs : List ℤ) → length zs ≡ 5 → FitFrom (Within (place_limits n)) 0 zs
    → (zs ≡ place_numbers (place_from zs)) × IsWatched n (place_from zs)
unfolding limits_at
place_there n cells [] size fit = absurd (omega (arith, size))
place_there n cells (a ∷ []) size fit = absurd (omega (arith, size))
place_there n cells (a ∷ b ∷ []) size fit = absurd (omega (arith, size))
place_there n cells (a ∷ b ∷ c ∷ []) size fit = absurd (omega (arith, size))
place_there n cells (a ∷ b ∷ c ∷ d ∷ []) size fit = absurd (omega (arith, size))
place_there n cells (f ∷ a ∷ b ∷ c ∷ d ∷ []) size fit =
    let ff = fit.0 in
    let fa = fit.1.0 in
    let fb = fit.1.1.0 in
    let fc = fit.1.1.1.0 in
    let fd = fit.1.1.1.1.0 in
    let sf : f ≡ pos (unsigned_abs f) = size_is f _ ff refl in
    let sa : a ≡ pos (unsigned_abs a) = size_is a _ fa refl in
    let sb : b ≡ pos (unsigned_abs b) = size_is b _ fb refl in
    let sc : c ≡ pos (unsigned_abs c) = size_is c _ fc refl in
    let sd : d ≡ pos (unsigned_abs d) = size_is d _ fd refl in
    let axis : a ≡ pos (axis_number (axis_of (unsigned_abs a))) =
    sa ∙ ap pos (sym (number_back (unsigned_abs a) (omega (arith, ints, fa.low, fa.high))))
    in (
      (λ i. sf i ∷ axis i ∷ sb i ∷ sc i ∷ sd i ∷ []),
      record {
        allowed = record {
          field = omega (arith, ints, ff.low, ff.high);
          within = record {
            x = omega (arith, ints, fb.low, fb.high, cells.x_least);
            y = omega (arith, ints, fc.low, fc.high, cells.y_least);
            z = omega (arith, ints, fd.low, fd.high, cells.z_least);
          };
        };
        three = refl;
      },
    )
place_there n cells (a ∷ b ∷ c ∷ d ∷ v ∷ w ∷ zs) size fit = absurd (omega (arith, size))

place_fit : (n : Triple) (p : Place) → IsWatched n p → FitFrom (Within (place_limits n)) 0 (place_numbers p)
unfolding limits_at
place_fit n p is = (
  record { low = omega (arith, ints); high = omega (arith, ints, is.allowed.field) },
  (
    record { low = omega (arith, ints); high = omega (arith, ints, number_most p.axis) },
    (
      record { low = omega (arith, ints); high = omega (arith, ints, is.allowed.within.x) },
      (
        record { low = omega (arith, ints); high = omega (arith, ints, is.allowed.within.y) },
        (record { low = omega (arith, ints); high = omega (arith, ints, is.allowed.within.z) }, tt),
      ),
    ),
  ),
)

place_back : (n : Triple) (p : Place) → IsWatched n p → place_from (place_numbers p) ≡ p
place_back n p is = λ i. record { field = p.field; axis = axis_back p.axis i; cell = sym (three_of p.cell is.three) i }

pub place_stands : (n : Triple) → IsCells n → Stands (place_limits n) place_from place_numbers (IsWatched n)
place_stands n cells = record { there = place_there n cells; size = λ p. refl; fit = place_fit n; back = place_back n }

-- Particles
speed_size : (side : ℕ) (z : ℤ) → MeetsLimits (speed_limits side) z → IsAtMost z (fastest side)
speed_size side z m = record { size = omega (arith, ints, m.low, m.high) }

size_speed : (side : ℕ) (z : ℤ) → IsAtMost z (fastest side) → MeetsLimits (speed_limits side) z
size_speed side z is = record { low = omega (arith, ints, is.size); high = omega (arith, ints, is.size) }

speeds : (side : ℕ) (u v w : ℤ) → MeetsLimits (speed_limits side) u → MeetsLimits (speed_limits side) v → MeetsLimits (speed_limits side) w
    → (a : Axis) → IsAtMost (along a (spot (u ∷ v ∷ w ∷ []))) (fastest side)
speeds side u v w fu fv fw X = speed_size side u fu
speeds side u v w fu fv fw Y = speed_size side v fv
speeds side u v w fu fv fw Z = speed_size side w fw

point_there : (g : Grid) → IsExtent (extent_of g) → (zs : List ℤ) → length zs ≡ 6 → FitFrom (Within (point_limits g)) 0 zs
    → (zs ≡ point_numbers (point_of zs)) × IsParticle g (point_of zs)
unfolding limits_at
point_there g extent [] size fit = absurd (omega (arith, size))
point_there g extent (a ∷ []) size fit = absurd (omega (arith, size))
point_there g extent (a ∷ b ∷ []) size fit = absurd (omega (arith, size))
point_there g extent (a ∷ b ∷ c ∷ []) size fit = absurd (omega (arith, size))
point_there g extent (a ∷ b ∷ c ∷ u ∷ []) size fit = absurd (omega (arith, size))
point_there g extent (a ∷ b ∷ c ∷ u ∷ v ∷ []) size fit = absurd (omega (arith, size))
point_there g extent (a ∷ b ∷ c ∷ u ∷ v ∷ w ∷ []) size fit =
    let fa = fit.0 in
    let fb = fit.1.0 in
    let fc = fit.1.1.0 in
    let sa : a ≡ pos (unsigned_abs a) = size_is a _ fa refl in
    let sb : b ≡ pos (unsigned_abs b) = size_is b _ fb refl in
    let sc : c ≡ pos (unsigned_abs c) = size_is c _ fc refl in (
      (λ i. sa i ∷ sb i ∷ sc i ∷ u ∷ v ∷ w ∷ []),
      record {
        allowed = record {
          place = record {
            x = omega (arith, ints, fa.low, fa.high, extent.x_some);
            y = omega (arith, ints, fb.low, fb.high, extent.y_some);
            z = omega (arith, ints, fc.low, fc.high, extent.z_some);
          };
          speed = speeds g.side u v w fit.1.1.1.0 fit.1.1.1.1.0 fit.1.1.1.1.1.0;
        };
        places = refl;
        speeds = refl;
      },
    )
point_there g extent (a ∷ b ∷ c ∷ u ∷ v ∷ w ∷ z ∷ zs) size fit = absurd (omega (arith, size))

point_fit : (g : Grid) (p : Point6) → IsParticle g p → FitFrom (Within (point_limits g)) 0 (point_numbers p)
unfolding limits_at
point_fit g p is =
    let place = is.allowed.place in
    let speed = is.allowed.speed in (
      record { low = omega (arith, ints); high = omega (arith, ints, place.x) },
      (
        record { low = omega (arith, ints); high = omega (arith, ints, place.y) },
        (
          record { low = omega (arith, ints); high = omega (arith, ints, place.z) },
          (size_speed g.side _ (speed X), (size_speed g.side _ (speed Y), (size_speed g.side _ (speed Z), tt))),
        ),
      ),
    )

pub three_signed : (zs : List ℤ) → length zs ≡ 3 → zs ≡ slice_index_or zs 0 (pos 0) ∷ slice_index_or zs 1 (pos 0) ∷ slice_index_or zs 2 (pos 0) ∷ []
three_signed [] size = absurd (omega (arith, size))
three_signed (a ∷ []) size = absurd (omega (arith, size))
three_signed (a ∷ b ∷ []) size = absurd (omega (arith, size))
three_signed (a ∷ b ∷ c ∷ []) size = refl
three_signed (a ∷ b ∷ c ∷ d ∷ zs) size = absurd (omega (arith, size))

point_back : (g : Grid) (p : Point6) → IsParticle g p → point_of (point_numbers p) ≡ p
point_back g p is = λ i. record { x = sym (three_of p.x is.places) i; v = sym (three_signed p.v is.speeds) i }

pub point_stands : (g : Grid) → IsExtent (extent_of g) → Stands (point_limits g) point_of point_numbers (IsParticle g)
point_stands g extent = record { there = point_there g extent; size = λ p. refl; fit = point_fit g; back = point_back g }
