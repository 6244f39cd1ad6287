-- A deck without displaced species: its E stays, and has passed its test.
use Rattle.std.proofs.Common.{◌≡◌, ℕ, Bool, true, false, cond, List, [], ◌∷◌}
use Rattle.std.proofs.Common.{length, Option, None, Ok, inl, inr, refl, sym, ap, ◌∙◌, arith}
use Rattle.std.proofs.Math.IntN.{ℤ, pos, ◌+ℤ◌, ◌-ℤ◌}
use Rattle.std.specs.Prelude.{◌==◌, codes}
use Rattle.std.proofs.lemmas.Bool.{cases_Bool, cases_lt}
use Rattle.std.proofs.lemmas.Int.{ints}
use Rattle.std.proofs.lemmas.List.{get_or_past}
use Rattle.std.proofs.lemmas.List.Folds.{list_any_at}
use Rattle.pic_num.specs.declared.axis.Axis.{Axis}
use Rattle.pic_num.specs.declared.motion.Particle.{Particle}
use Rattle.pic_num.specs.Space.{Triple}
use Rattle.pic_grid.specs.Current.{wrapped}
use Rattle.pic_grid.specs.Lattice.{Field, field_of}
use Rattle.pic_grid.specs.Sums.{sum_over}
use Rattle.pic_filter.specs.Smoothing.{filtered, smoothed, smoothed_along}
use Rattle.pic_split.proofs.ImageLaws.{wrapped-zero}
use Rattle.pic_walk.specs.Path.{key_at}
use Rattle.pic_deck.specs.declared.species.Fill.{Fill}
use Rattle.pic_deck.specs.declared.species.Fill.TheVariants.{Points, Lattice, Random, Pair, Displace}
use Rattle.pic_deck.specs.declared.species.Species.{Species}
use Rattle.pic_deck.specs.Deck.{DeckView, IsWithinLimits, initial_e}
use Rattle.pic_deck.specs.Initial.{first_strong}
use Rattle.pic_deck.proofs.ForceLaws.{none_strong}
use Rattle.pic_deck.specs.Keys.{force_allowed}
use Rattle.pic_deck.specs.Reading.{as_read}
use Rattle.pic_deck.specs.Species.{species_at, no_species}
use Rattle.pic_ways.specs.declared.way.Way.{Way}
use Rattle.pic_ways.specs.Way.{way_flux, current_of_ways}
use Rattle.pic_displace.specs.Displace.{is_displacement, has_displaced, way_by, way_of, displaced_e, displaced_allowed, BecomesDisplaced}

one_answer : {t : Bool} → t ≡ true → t ≡ false → ⊥
one_answer {t} affirmed denied = cc

-- a particle of a species that isn't displaced has no way
pub no_way_by : (ss : List Species) (ps : List Particle) (x : Particle) (f : Fill) → is_displacement f ≡ false → way_by ss ps x f ≡ None
no_way_by ss ps x (Points points) h = refl
no_way_by ss ps x (Lattice first gap count v) h = refl
no_way_by ss ps x (Random count seed stream drift spread) h = refl
no_way_by ss ps x (Pair named seed stream drift spread) h = refl
no_way_by ss ps x (Displace named by v) h = absurd (one_answer refl h)

plain_at : (ss : List Species) (k : ℕ) → has_displaced ss ≡ false → is_displacement (species_at ss k).fill ≡ false
plain_at ss k none = elim (cases_lt k (length ss)) [
  | inl below ↦ elim (cases_Bool (is_displacement (species_at ss k).fill)) [
    | inl displaced ↦ absurd (one_answer (list_any_at (λ (s : Species). is_displacement s.fill) ss k no_species below displaced) none)
    | inr plain ↦ plain
  ]
  | inr past ↦ ap (λ (s : Species). is_displacement s.fill) (get_or_past ss k no_species past)
]

no_way : (ss : List Species) (ps : List Particle) → has_displaced ss ≡ false → (x : Particle) → way_of ss ps x ≡ None
unfolding way_of
no_way ss ps none x = no_way_by ss ps x (species_at ss x.species).fill (plain_at ss x.species none)

no_current : (side : ℕ) (n : Triple) (way : Particle → Option Way) (xs : List Particle) → ((x : Particle) → way x ≡ None) → (a : Axis) (p : Triple)
    → current_of_ways side n way xs a p ≡ pos 0
unfolding current_of_ways sum_over way_flux
no_current side n way [] none a p = refl
no_current side n way (x ∷ xs) none a p = (λ t. no_flux (none x) t +ℤ no_current side n way xs none a p t)
  where
    no_flux : way x ≡ None → wrapped n (way_flux side (way x) a) p ≡ pos 0
    no_flux e = ap (λ (o : Option Way). wrapped n (way_flux side o a) p) e ∙ wrapped-zero n p

pub filtered_zero : (filter : ℕ) (n p : Triple) → filtered filter n (λ q. pos 0) p ≡ pos 0
unfolding filtered smoothed smoothed_along
filtered_zero filter n p = go (filter == 0)
  where
    go : (t : Bool) → cond t (λ q. pos 0) (smoothed n (λ q. pos 0)) p ≡ pos 0
    go true = refl
    go false = refl

less_none : (z : ℤ) → z -ℤ pos 0 ≡ z
less_none z = omega (arith, ints)

-- the displaced start's E is the deck's
pub stays : (d : DeckView) (ps : List Particle) → has_displaced d.species ≡ false → (a : Axis) (p : Triple) → displaced_e d ps a p ≡ initial_e d a p
unfolding displaced_e
stays d ps none a p =
    (λ t. initial_e d a p -ℤ filtered d.filter d.cells (λ q. no_current d.side d.cells (way_of d.species ps) ps (no_way d.species ps none) a q t) p)
    ∙ ap (λ (v : ℤ). initial_e d a p -ℤ v) (filtered_zero d.filter d.cells p)
    ∙ less_none (initial_e d a p)

pub becomes_itself : (d : DeckView) (ps : List Particle) (e : Field) → has_displaced d.species ≡ false
    → e ≡ field_of e.side d.cells e.parts (initial_e d) → BecomesDisplaced d ps e e
becomes_itself d ps e none is = record {
  is = is ∙ (λ t. field_of e.side d.cells e.parts (λ a p. sym (stays d ps none a p) t));
}

pub allowed : (d : DeckView) (ps : List Particle) → IsWithinLimits d → has_displaced d.species ≡ false → displaced_allowed d ps ≡ Ok tt
unfolding as_read force_allowed
allowed d ps limits none =
    ap (λ (o : Option ℤ). as_read (force_allowed (key_at (codes "scale") (codes "e_force")) o))
    ((λ t. first_strong d.cells d.scales.e_force (λ a p. stays d ps none a p t)) ∙ none_strong d.cells d.scales.e_force (initial_e d) limits.e.forces)
