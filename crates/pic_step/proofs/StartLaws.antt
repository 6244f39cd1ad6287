-- What a deck says of its species is within the limits of a run's.
use Rattle.std.proofs.Common.{◌≡◌, ℕ, ◌+◌, ◌<◌, List, [], ◌∷◌, ◌++◌, length, get_or, map, take, sym, ap, ◌∙◌, subst, arith}
use Rattle.std.proofs.lemmas.List.{get_or-map, length-map, map-append, take_more}
use Rattle.std.proofs.lemmas.List.Elements.{All-from_get_or}
use Rattle.pic_num.specs.declared.motion.Kind.{Kind}
use Rattle.pic_num.specs.Space.{Triple}
use Rattle.pic_block.specs.Cells.{Grid}
use Rattle.pic_grid.specs.Lattice.{Field}
use Rattle.pic_grid.specs.Tiles.{AreTiles}
use Rattle.pic_grid.specs.PushPhase.{no_kind}
use Rattle.pic_grid.specs.Species.{IsKind, AreHeads, no_head}
use Rattle.pic_deck.specs.declared.species.Species.{Species}
use Rattle.pic_deck.specs.Deck.{DeckView, IsWithinLimits, deck_grid, heads_of}
use Rattle.pic_deck.specs.Species.{head_of, no_species}
use Rattle.pic_tile.specs.Frame.{AreKinds}
use Rattle.pic_tile.specs.Tiling.{Tiling, cells_of}
use Rattle.pic_step.specs.Kept.{IsCut}
use Rattle.pic_step.specs.SerialRun.{kinds_of}

-- the kinds of the species are within the limits
kind_at : {most : ℕ} (d : DeckView) → AreHeads most (heads_of d) → (i : ℕ) → i < length (kinds_of d) → IsKind (get_or (kinds_of d) i no_kind)
kind_at d heads i below =
    let count = length-map d.species (λ (s : Species). s.kind) in
    let same = length-map d.species head_of in
    let inside : i < length d.species = omega (arith, below, count) in
    let h = heads.kinds i (omega (arith, inside, same)) in
    let of_head = get_or-map head_of d.species i no_species no_head inside in
    let of_kind = get_or-map (λ (s : Species). s.kind) d.species i no_species no_kind inside in
    subst IsKind (ap (λ t. t.kind) of_head ∙ sym of_kind) h

-- and there are no more than a run may have
pub are_kinds : {most : ℕ} (d : DeckView) → AreHeads most (heads_of d) → AreKinds (kinds_of d)
are_kinds d heads = record {
  few =
      let count = length-map d.species (λ (s : Species). s.kind) in
      let same = length-map d.species head_of in
      let few = heads.few in
      omega (arith, count, same, few);
  limits = All-from_get_or IsKind (kinds_of d) no_kind (kind_at d heads);
}

-- the kinds of one more species
pub kinds_more : (all : List Species) (i : ℕ) (s : Species) (before after : List Kind) → i < length all → s ≡ get_or all i s
    → before ≡ map (λ (t : Species). t.kind) (take i all) → after ≡ before ++ s.kind ∷ [] → after ≡ map (λ (t : Species). t.kind) (take (i + 1) all)
kinds_more all i s before after below at so_far more =
    let kind : Species → Kind = λ t. t.kind in
    more ∙ (λ k. so_far k ++ (at k).kind ∷ []) ∙ sym (ap (map kind) (take_more all i s below) ∙ map-append kind (take i all) (get_or all i s ∷ []))

-- a deck's tiles fit its cells
pub deck_tiles : (d : DeckView) (g : Grid) (t : Triple) → IsWithinLimits d → g ≡ deck_grid d → t ≡ d.tiles → AreTiles g.n t
deck_tiles d g t limits of_grid of_tiles =
    subst (λ (n : Triple). AreTiles n t) (sym (ap (λ (h : Grid). h.n) of_grid)) (subst (AreTiles d.cells) (sym of_tiles) limits.settings.tiles)

-- a lattice that took the values of another is cut as it was
pub cut_as : (m : Tiling) (f g h : Field) → IsCut m f → g.cells ≡ cells_of m → h ≡ record g { side = f.side; parts = f.parts } → IsCut m h
cut_as m f g h cut cells is = record {
  cells = ap (λ (k : Field). k.cells) is ∙ cells;
  side = ap (λ (k : Field). k.side) is ∙ cut.side;
  parts = ap (λ (k : Field). k.parts) is ∙ cut.parts;
}
