-- The census of the board: the particles that lie in its slots, and those that its seats have.
use Rattle.std.specs.Prelude.{◌≡◌, ℕ, ◌<◌, ◌⊎◌, List, [], ◌++◌, length, map, IsPermutation, Bool}
use Rattle.std.specs.Prelude.{true, if◌then◌else◌, Some, None}
use Rattle.std.specs.List.{range_with_len, flat_map}
use mathlib.Core.Option.{Option, none, some}
use lib.ListN.{get_elem?}
use Rattle.pic_num.specs.declared.motion.Particle.{Particle}
use Rattle.pic_tile.specs.Same.{Same}
use Rattle.pic_tile.specs.CoreState.{held_in, all_particles}
use Rattle.pic_tile.specs.Directions.{directions}
use Rattle.pic_tile.specs.Frame.{felt_in}
use Rattle.pic_tile.specs.Leaving.{going}
use Rattle.atomic_table.specs.Table.{State}
use Rattle.pic_yard.specs.declared.opening.Opening.{Opening}
use Rattle.pic_yard.specs.declared.slot_content.SlotContent.TheVariants.{Tile, Parcel}
use Rattle.pic_yard.specs.declared.view.View.{View}
use Rattle.pic_yard.specs.Contents.{Slot, tiles_in, to_of, from_of, start_at}
use Rattle.pic_yard.specs.Marks.{Lists}
use Rattle.pic_yard.specs.Members.{In}
use Rattle.pic_yard.specs.Rule.{Rule}

-- the particles of what a slot has, and of what lies at home in one: none where it is away
abbrev pub kept_in : Slot → List Particle
kept_in None = []
kept_in (Some (Tile None)) = []
kept_in (Some (Tile (Some tile))) = held_in tile
kept_in (Some (Parcel parcel)) = parcel.chain

abbrev pub lying : Option Slot → List Particle
lying none = []
lying (some slot) = kept_in slot

-- the particles of the parcel that goes to the tile r in the direction d
abbrev pub sent : Opening → ℕ → ℕ → List Particle
sent o r d = going (felt_in o.frame) o.frame.map d (start_at o (from_of o r d))

-- Which parcels are with seats, and with which: with the one that claimed its tile and is still to
-- post it, then with the one that has the right to the tile that it goes to.
pub record AreWithSeats (o : Opening) (views : List View) (out : ℕ → ℕ → Bool) (holder : ℕ → ℕ
    → ℕ) : Type 0 where
  pub listed : (r d : ℕ) → r < tiles_in o → d < directions → out r d ≡ true
      → Lists views (holder r d) (λ v. In (r, d) v.owes ⊎ In r v.rights)
  pub owed : (j : ℕ) (v : View) → get_elem? views j ≡ some v → v.live ≡ true
      → (r d : ℕ) → In (r, d) v.owes → (out r d ≡ true) × (holder r d ≡ j)
  pub rights : (j : ℕ) (v : View) → get_elem? views j ≡ some v → v.live ≡ true
      → (r d : ℕ) → In r v.rights → d < directions → (out r d ≡ true) × (holder r d ≡ j)

-- the particles of the parcels that are with seats, one parcel after another
unfoldable pub with_seats : Opening → (ℕ → ℕ → Bool) → List Particle
with_seats o out =
    flat_map (λ r. flat_map (λ d. if out r d then sent o r d else []) (range_with_len 0 directions))
    (range_with_len 0 (tiles_in o))

-- the identities in all slots and with all seats, one after another, are a rearrangement of
-- 0, 1, .., n - 1, where there were n particles at the start
pub record HasBoardCensus (o : Opening) (s : State Slot View) : Type 0 where
  pub out : ℕ → ℕ → Bool
  pub holder : ℕ → ℕ → ℕ
  pub with : AreWithSeats o s.views out holder
  pub rearranged : IsPermutation (range_with_len 0 (length (all_particles o.tiles.items)))
      (map (λ x. x.id) (flat_map lying s.homes ++ with_seats o out))

-- between any two steps, of whichever seats, no particle is lost and none is there twice
abbrev pub TheRuleKeepsTheCensus : Type 0
TheRuleKeepsTheCensus = (o : Opening) (s : State Slot View) → Rule o s → HasBoardCensus o s

-- a tile has at the start the identities of the parcels that its push makes of it
abbrev pub ATileIsItsParcels : Type 0
ATileIsItsParcels =
    (o : Opening) (t : ℕ)
    → t < tiles_in o
    → Same (map (λ x. x.id) (start_at o t))
    (map (λ x. x.id) (flat_map (λ d. sent o (to_of o t d) d) (range_with_len 0 directions)))
