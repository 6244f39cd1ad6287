-- What the type of a deck keeps.
use Rattle.std.specs.Prelude.{◌≡◌, length, All, ⊤}
use Rattle.pic_header.specs.Header.{AreMultipliers, HasMultipliers}
use Rattle.pic_deck.specs.declared.species.Fill.{Fill}
use Rattle.pic_deck.specs.declared.species.Fill.TheVariants.{Points, Lattice, Random, Pair, Displace}
use Rattle.pic_deck.specs.Deck.{DeckView, IsWithinLimits}
use Rattle.pic_deck.specs.Species.{Point6}

-- a particle of a deck: its position and its velocity have three numbers each
pub record IsSixfold (point : Point6) : Type 0 where
  pub place : length point.x ≡ 3
  pub speed : length point.v ≡ 3

-- what fills a species says its particles' numbers by threes
abbrev pub IsByThrees : Fill → Type 0
IsByThrees (Points points) = All IsSixfold points
IsByThrees (Lattice first gap count v) = length v ≡ 3
IsByThrees (Random count seed stream drift spread) = ⊤
IsByThrees (Pair named seed stream drift spread) = ⊤
IsByThrees (Displace named by v) = length v ≡ 3

-- a deck as its type keeps it: all that it says is within its limits, each multiplier too, and the
-- numbers of its particles and of its loops' cells are said by threes
pub record IsKeptDeck (d : DeckView) : Type 0 where
  pub limits : IsWithinLimits d
  pub scales : AreMultipliers d.scales
  pub kinds : All (λ s. HasMultipliers s.kind) d.species
  pub fills : All (λ s. IsByThrees s.fill) d.species
  pub loops : All (λ l. length l.cell ≡ 3) d.loops
