-- The slots of tiles are laid, one tile after another.
use Rattle.std.proofs.Common.{◌≡◌, ℕ, suc, ◌+◌, ◌*◌, ◌<◌, List, [], ◌∷◌, ◌++◌, length, length-append}
use Rattle.std.proofs.Common.{set, get_or, replicate, Some, None, refl, sym, ap, ◌∙◌, subst, arith}
use Rattle.std.proofs.Math.Decide.{ℕ_discrete}
use Rattle.std.proofs.lemmas.List.{get_or-set_other, length-set, length-replicate}
use mathlib.Core.Option.{some}
use lib.ListN.{get_elem?}
use Rattle.atomic_table.proofs.Lists.{at_longer, at_last}
use Rattle.pic_tile.specs.Directions.{directions}
use Rattle.pic_tile.specs.Tile.{TileValue, no_tile, tile_in}
use Rattle.pic_tile.proofs.TileLaws.{same_there}
use Rattle.pic_yard.specs.declared.opening.Opening.{Opening}
use Rattle.pic_yard.specs.declared.slot_content.SlotContent.TheVariants as holds
use Rattle.pic_yard.specs.Contents.{Slot, tiles_in}
use Rattle.pic_yard.specs.Laying.{AreLaid, HasBoxes}
use Rattle.pic_yard.proofs.Turns.{IsLaying}
use Rattle.pic_yard.specs.Laws.{IsLaid}
use Rattle.pic_yard.specs.Sits.{slot_at}

pub boxes_none : (xs : List Slot) → HasBoxes 0 xs xs
boxes_none xs = record { long = omega arith; boxes = λ d below. absurd (omega (arith, below)); others = λ slot y there. there }

pub boxes_more : (n : ℕ) (old new : List Slot) → HasBoxes n old new → HasBoxes (n + 1) old (new ++ None ∷ [])
boxes_more n old new has = record {
  long = let l = has.long in let a = length-append new (None ∷ []) in omega (arith, l, a);
  boxes = λ d below. elim (ℕ_discrete d n) [
    | yes is ↦ at_last new None (length old + d) (has.long ∙ ap (λ (k : ℕ). length old + k) (sym is))
    | no apart ↦ at_longer new (None ∷ []) (length old + d) None (has.boxes d (omega (arith, below, apart)))
  ];
  others = λ slot y there. at_longer new (None ∷ []) slot y (has.others slot y there);
}

pub laying_none : (tiles : List TileValue) → IsLaying tiles tiles 0 []
laying_none tiles = record {
  laid = record {
    long = refl;
    boxes = λ r d below dir. absurd (omega (arith, below));
    homes = λ t below. absurd (omega (arith, below));
  };
  long = refl;
  rest = λ t after. refl;
}

module _ (tiles : List TileValue) (n : ℕ) (old new : List Slot) (laid : AreLaid tiles n old) (has : HasBoxes directions old new) where
  abbrev home_of : TileValue → List Slot
  home_of tile = Some (holds.Tile (Some tile)) ∷ []

  one_laid : (tile : TileValue) → tile ≡ tile_in tiles n → AreLaid tiles (n + 1) (new ++ home_of tile)
  one_laid tile is =
      let long : length old ≡ n * suc directions = laid.long in
      let more : length new ≡ length old + directions = has.long in
      record {
        long = let a = length-append new (home_of tile) in omega (arith, long, more, a);
        boxes = λ r d below dir. elim (ℕ_discrete r n) [
          | yes same ↦
              let at : length old + d ≡ slot_at r d = omega (arith, long, same) in
              at_longer new (home_of tile) (slot_at r d) None (subst (λ (k : ℕ). get_elem? new k ≡ some None) at (has.boxes d dir))
          | no apart ↦
              at_longer new (home_of tile) (slot_at r d) None (has.others (slot_at r d) None (laid.boxes r d (omega (arith, below, apart)) dir))
        ];
        homes = λ t below. elim (ℕ_discrete t n) [
          | yes same ↦
              at_last new (Some (holds.Tile (Some tile))) (slot_at t directions) (omega (arith, long, more, same))
              ∙ ap (λ (u : TileValue). some (Some (holds.Tile (Some u)))) (is ∙ ap (tile_in tiles) (sym same))
          | no apart ↦
              at_longer new (home_of tile) (slot_at t directions) (Some (holds.Tile (Some (tile_in tiles t))))
              (has.others (slot_at t directions) (Some (holds.Tile (Some (tile_in tiles t)))) (laid.homes t (omega (arith, below, apart))))
        ];
      }

pub laying_more : (tiles left : List TileValue) (n : ℕ) (old new : List Slot) (bare : TileValue) → n < length left → IsLaying tiles left n old
    → HasBoxes directions old new
    → IsLaying tiles (set left n bare) (n + 1) (new ++ Some (holds.Tile (Some (tile_in left n))) ∷ [])
laying_more tiles left n old new bare inside laying has = record {
  laid = one_laid tiles n old new laying.laid has (tile_in left n) (laying.rest n (omega arith));
  long = length-set left n bare ∙ laying.long;
  rest = λ t after. get_or-set_other left n t bare no_tile (omega (arith, after)) ∙ laying.rest t (omega (arith, after));
}

-- a board of tiles, all of whose slots are laid
pub laid_of : (o : Opening) (words : List ℕ) (slots : List Slot) → length o.tiles.items ≡ tiles_in o → words ≡ replicate (tiles_in o + 1) 0
    → AreLaid o.tiles.items (length o.tiles.items) slots → IsLaid o words slots
laid_of o words slots count zeros laid =
    record {
      words_long = ap (λ (ws : List ℕ). length ws) zeros ∙ length-replicate (tiles_in o + 1) 0 ∙ omega arith;
      zero = λ i. ap (λ (ws : List ℕ). get_or ws i 0) zeros ∙ same_there (tiles_in o + 1) i 0;
      laid = subst (λ (n : ℕ). AreLaid o.tiles.items n slots) count laid;
    }
