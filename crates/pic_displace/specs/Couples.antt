-- Species in couples: one that is named, and one that is displaced from it. Before the displaced
-- ones have gone their ways, the charges of a couple cancel at every node.
use Rattle.std.specs.Prelude.{◌≡◌, ℕ, pos, ◌<◌, ◌==◌, Bool, false, List, length, if◌then◌else◌}
use Rattle.std.specs.List.{count_by}
use Rattle.pic_num.specs.declared.axis.Axis.{Axis}
use Rattle.pic_num.specs.Space.{Triple}
use Rattle.pic_block.specs.Cells.{IsWithin}
use Rattle.pic_grid.specs.Lattice.{field_of}
use Rattle.pic_charge.specs.Gauss.{MeetsGauss}
use Rattle.pic_deck.specs.declared.species.Fill.{Fill}
use Rattle.pic_deck.specs.declared.species.Fill.TheVariants.{Points, Lattice, Random, Pair, Displace}
use Rattle.pic_deck.specs.declared.species.Species.{Species}
use Rattle.pic_deck.specs.Deck.{DeckView, IsWithinLimits, initial_e}
use Rattle.pic_deck.specs.Species.{species_at}
use Rattle.pic_load.specs.Loading.{AreLoaded, loaded}
use Rattle.pic_displace.specs.Displace.{is_displacement, displaced_e, kinds_of}

-- whether a species that is filled so is displaced from the one of a number
abbrev pub is_displaced_from : ℕ → Fill → Bool
is_displaced_from number (Points points) = false
is_displaced_from number (Lattice first gap count v) = false
is_displaced_from number (Random count seed stream drift spread) = false
is_displaced_from number (Pair named seed stream drift spread) = false
is_displaced_from number (Displace named by v) = named == number

-- how many of some species are displaced from the one of a number
abbrev pub displaced_from : List Species → ℕ → ℕ
displaced_from ss number = count_by (λ s. is_displaced_from number s.fill) ss

-- the species come in disjoint couples, one named and one displaced: from each that is displaced
-- none is displaced, and from each other one exactly one
pub record InCouples (ss : List Species) : Type 0 where
  pub each : (number : ℕ) → number < length ss
      → displaced_from ss number ≡ (if is_displacement (species_at ss number).fill then 0 else 1)

-- the E that a deck says is 0 everywhere
pub record HasNoE (d : DeckView) : Type 0 where
  pub none : (a : Axis) (p : Triple) → IsWithin p d.cells → initial_e d a p ≡ pos 0

-- Where a deck says no E and its species come in couples, the displaced start's E meets Gauss's law
-- for the particles where they stand.
abbrev pub CouplesMeetGauss : Type 0
CouplesMeetGauss =
    (d : DeckView) (parts : Triple)
    → IsWithinLimits d
    → AreLoaded d (loaded d)
    → HasNoE d
    → InCouples d.species
    → MeetsGauss d.side d.filter d.cells (kinds_of d) (loaded d)
    (field_of d.side d.cells parts (displaced_e d (loaded d)))
