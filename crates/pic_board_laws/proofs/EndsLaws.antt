-- The board and the core at the start and at the end, and where only slots change.
use Rattle.std.proofs.Common.{◌≡◌, ℕ, suc, ◌*◌, ◌<◌, Bool, false, List, nat_eq, eq-eqb, refl, sym, ap, ◌∙◌, subst, arith}
use Rattle.std.specs.Prelude.{replicate, slice_index}
use Rattle.std.proofs.lemmas.Bool.{false≢true}
use Rattle.pic_block.specs.Cells.{count_of}
use Rattle.pic_tile.specs.CoreState.{IsOpening, IsSoundFrame, tile_count, mark, slot_of}
use Rattle.pic_tile.specs.Directions.{directions}
use Rattle.pic_tile.specs.Frame.{FrameValue}
use Rattle.pic_tile.specs.Tile.{TileValue}
use Rattle.pic_tile.proofs.TileLaws.{same_there}
use Rattle.pic_core.proofs.OpenLaws.{opened_stands}
use Rattle.pic_core.proofs.TurnLaws.{lt_false}
use Rattle.pic_yard.specs.Contents.{tiles_in}
use Rattle.pic_board_laws.specs.Laws.{SlotsAreNoEvents, TheBoardBeginsAsTheCore, TheBoardEndsAsTheCore}

pub slots_alone : SlotsAreNoEvents
slots_alone o s c homes x = record {
  stood = record {
    frame = x.stood.frame;
    opening = x.stood.opening;
    claimed = x.stood.claimed;
    posted = λ r d below dir. (
      λ on. let is = (x.stood.posted r d below dir).0 on in record { claimed = is.claimed; unowed = is.unowed },
      λ is. (x.stood.posted r d below dir).1 (record { claimed = is.claimed; unowed = is.unowed }),
    );
    merged = x.stood.merged;
    shut = x.stood.shut;
  };
  stands = x.stands;
}

pub begins : TheBoardBeginsAsTheCore
begins o words slots c sound opens laid at = record {
  stood = record {
    frame = at.frame;
    opening = at.opening;
    claimed = λ t below. unset c.claimed t (tile_count c) at.marks.claimed ∙ sym (lt_false t (slice_index words 0) (omega (arith, none)));
    posted = λ r d below dir. (
      λ on. absurd (false≢true (sym (unset c.posted (slot_of r d) (tile_count c * directions) at.marks.posted) ∙ on)),
      λ is. absurd (let less = is.claimed in omega (arith, none, less)),
    );
    merged = λ r d below dir. unset c.merged (slot_of r d) (tile_count c * directions) at.marks.merged ∙ sym (unshut r);
    shut = λ r below. unset c.shut r (tile_count c) at.marks.shut ∙ sym (unshut r);
  };
  stands = opened_stands c (record {
    frame = refl;
    opening = refl;
    tiles_are = at.tiles_are ∙ sym at.opening;
    mail = at.mail;
    received = at.received;
    marks = at.marks;
  }) (subst (λ (f : FrameValue). IsSoundFrame f) (sym at.frame) sound)
      (subst (λ (f : FrameValue). IsOpening f c.opening) (sym at.frame) (subst (λ (ts : List TileValue). IsOpening o.frame ts) (sym at.opening) opens));
}
  where
    none : slice_index words 0 ≡ 0
    none = laid.zero 0

    unshut : (r : ℕ) → nat_eq (slice_index words (suc r)) (suc directions) ≡ false
    unshut r = ap (λ (w : ℕ). nat_eq w (suc directions)) (laid.zero (suc r))

    unset : (ms : List Bool) (i n : ℕ) → ms ≡ replicate n false → mark ms i ≡ false
    unset ms i n is = ap (λ (l : List Bool). mark l i) is ∙ same_there n i false

pub ends : TheBoardEndsAsTheCore
ends o s c over x r below =
    let tile : r < tiles_in o = subst (λ (f : FrameValue). r < count_of f.map.tiles) x.stood.frame below in
    x.stood.shut r tile ∙ ap (λ (w : ℕ). nat_eq w (suc directions)) (over.words r tile) ∙ eq-eqb (suc directions) (suc directions) refl
