-- The species of a deck, with no walk from key to key: what their tables spell where they are accepted.
use Rattle.std.specs.Prelude.{◌≡◌, ◌↔◌, ℕ, ◌≤◌, List, length, codes, Ok}
use Rattle.toml.specs.Data.{Data, string, integer, Members}
use Rattle.pic_num.specs.Limits.{most_species}
use Rattle.pic_walk.specs.Extent.{extent_of, IsExtent}
use Rattle.pic_walk.specs.FillKind.{source_key}
use Rattle.pic_walk.specs.Terms.{TermsView}
use Rattle.pic_deck.specs.declared.species.Fill.{Fill}
use Rattle.pic_deck.specs.declared.species.Species.{Species}
use Rattle.pic_deck.specs.Keys.{species_keys, species_list}
use Rattle.pic_deck.specs.Species.{IsNext}
use Rattle.pic_deck_laws.specs.FillTables.{HasAlone, source_of, SpellsFill}
use Rattle.pic_deck_laws.specs.ScaleTable.{HasMultiplier}
use Rattle.pic_deck_laws.specs.Spelling.{natural, Has, HasOnly, IsTable, IsArrayOf}

-- a table has one source alone, whose value spells what fills a species
pub record HasFill (version : ℕ) (t : Members) (done : List Species) (f : Fill) : Type 0 where
  pub alone : HasAlone version t (source_of f)
  pub value : Data
  pub there : Has t (source_key (source_of f)) value
  pub spells : SpellsFill done value f

-- a table spells a species after earlier ones, and has nothing else; it is one that may come next
pub record IsSpeciesTable (terms : TermsView) (done : List Species) (t : Members) (s : Species) : Type 0 where
  pub keys : HasOnly (species_keys terms.version) t
  pub name : Has t (codes "name") (string s.name)
  pub charge : Has t (codes "charge") (integer s.kind.charge)
  pub mass : Has t (codes "mass") (natural s.kind.mass)
  pub kick : HasMultiplier t (codes "kick") s.kind.kick
  pub turn : HasMultiplier t (codes "turn") s.kind.turn
  pub fill : HasFill terms.version t done s.fill
  pub next : IsNext terms done s

-- an array spells the species of a deck, a table each, and not too many
pub record AreSpeciesTables (terms : TermsView) (d : Data) (ss : List Species) : Type 0 where
  pub tables : IsArrayOf (λ done e s. IsTable e (λ t. IsSpeciesTable terms done t s)) d ss
  pub few : length ss ≤ most_species

-- in the box of a grid, species are accepted exactly where the value spells them
abbrev pub SpeciesAreSpelled : Type 0
SpeciesAreSpelled =
    (terms : TermsView) → IsExtent (extent_of terms.grid) → (path : List ℕ) (d : Data) (ss : List Species)
    → (species_list terms path d ≡ Ok ss) ↔ AreSpeciesTables terms d ss
