-- The scratch memory that a core leaves is ready for the next.
use Rattle.std.proofs.Common.{◌≡◌, ◌≢◌, ℕ, ◌+◌, ◌*◌, ◌/◌, ◌%◌, ◌<◌, true, false, inl, inr, List, length}
use Rattle.std.proofs.Common.{get_or, slice_set, replicate, Option, None, sym, ap, ◌∙◌, subst, arith}
use Rattle.std.proofs.lemmas.Bool.{cases_lt}
use Rattle.std.proofs.lemmas.List.{get_or-set_same, get_or-set_other, get_or-replicate, length-replicate, length-set, ext_get_or}
use Rattle.std.proofs.Math.Decide.{ℕ_discrete}
use Rattle.pic_block.specs.Block.{AllAtMost}
use Rattle.pic_grid.specs.Traces.{most_flux}
use Rattle.pic_tile.specs.declared.parcel.Parcel.{Parcel}
use Rattle.pic_tile.specs.CoreState.{CoreState, Stands, AreAllShut, tile_count, slot_of, is_merged, merged_into, all_particles, first_particles}
use Rattle.pic_tile.specs.Directions.{directions, here}
use Rattle.pic_tile.specs.Frame.{felt_in}
use Rattle.pic_tile.specs.Tile.{TileValue, flux_of, flux_at, no_tile, parcel_at, tile_in}
use Rattle.pic_tile.specs.Tiling.{neighbour_of}
use Rattle.pic_tile.proofs.AllTilesLaws.{neighbour_below}
use Rattle.pic_tile.proofs.ExchangedLaws.{shared_out}
use Rattle.pic_tile.proofs.OpeningLaws.{opening_inside, felt_side, felt_cells}
use Rattle.pic_tile.proofs.ReceivedLaws.{merged_in_bound}
use Rattle.pic_tile.proofs.ReceivingLaws.{some_there}
use Rattle.pic_push.proofs.LayerSumLaws.{layers_current}
use Rattle.pic_push.proofs.PartialSumLaws.{partial_sums}
use Rattle.pic_push.proofs.WayLaws.{leads}
use Rattle.pic_core.specs.declared.scratch.Scratch.{Scratch}
use Rattle.pic_core.specs.AtStart.{AreBare, IsScratch}
use Rattle.pic_core.proofs.SlotLaws.{bounded}

-- Entries are set, one after another.

pub set_more : {X : Type 0} (x : X) (xs : List X) (i : ℕ) → i < length xs → ((k : ℕ) → k < i → get_or xs k x ≡ x)
    → (k : ℕ) → k < i + 1 → get_or (slice_set xs i x) k x ≡ x
set_more {X = X} x xs i inside done k below = elim (cases_lt k i) [
  | inl less ↦ (let other : k ≢ i = λ e. absurd (omega (arith, less, e)) in get_or-set_other {A = X} xs i k x x other ∙ done k less)
  | inr more ↦ (let same : k ≡ i = omega (arith, below, more) in
      ap (λ (j : ℕ). get_or (slice_set xs i x) j x) same ∙ get_or-set_same {A = X} xs i x x inside)
]

pub all_set : {X : Type 0} (x : X) (xs : List X) (n : ℕ) → length xs ≡ n → ((k : ℕ) → k < n → get_or xs k x ≡ x) → xs ≡ replicate n x
all_set {X = X} x xs n long done =
    let all = length-replicate {A = X} n x in
    ext_get_or x xs (replicate n x) (long ∙ sym all) (λ k below.
    done k (omega (arith, below, long)) ∙ sym (get_or-replicate {A = X} n k x x (omega (arith, below, long))))

-- Tiles without parcels are numbered, one after another.

pub record AreBareBelow (i : ℕ) (tiles : List TileValue) : Type 0 where
  pub numbers : (r : ℕ) → r < i → (tile_in tiles r).number ≡ r
  pub none : (r d : ℕ) → r < length tiles → d < directions → parcel_at (tile_in tiles r) d ≡ None

pub bare_below : (tiles : List TileValue) → ((r d : ℕ) → r < length tiles → d < directions → parcel_at (tile_in tiles r) d ≡ None) → AreBareBelow 0 tiles
bare_below tiles none = record { numbers = λ r below. absurd (omega (arith, below)); none = none }

pub bare_more : (tiles : List TileValue) (i : ℕ) (t : TileValue) → i < length tiles → AreBareBelow i tiles → t.number ≡ i
    → ((d : ℕ) → d < directions → parcel_at t d ≡ None) → AreBareBelow (i + 1) (slice_set tiles i t)
bare_more tiles i t inside done number none = record {
  numbers = λ r below. elim (ℕ_discrete r i) [
    | yes same ↦ ap (λ (u : TileValue). u.number) (this r same) ∙ number ∙ sym same
    | no apart ↦ ap (λ (u : TileValue). u.number) (other r apart) ∙ done.numbers r (omega (arith, below, apart))
  ];
  none = λ r d below within. elim (ℕ_discrete r i) [
    | yes same ↦ ap (λ (u : TileValue). parcel_at u d) (this r same) ∙ none d within
    | no apart ↦
        ap (λ (u : TileValue). parcel_at u d) (other r apart)
        ∙ done.none r d (let long = length-set {A = TileValue} tiles i t in omega (arith, below, long)) within
  ];
}
  where
    other : (r : ℕ) → (r ≡ i → ⊥) → tile_in (slice_set tiles i t) r ≡ tile_in tiles r
    other r apart = get_or-set_other {A = TileValue} tiles i r t no_tile apart

    this : (r : ℕ) → r ≡ i → tile_in (slice_set tiles i t) r ≡ t
    this r same = ap (tile_in (slice_set tiles i t)) same ∙ get_or-set_same {A = TileValue} tiles i t no_tile inside

pub bare_all : (tiles : List TileValue) (i n : ℕ) → i ≡ n → length tiles ≡ n → AreBareBelow i tiles → AreBare n tiles
bare_all tiles i n is long done = record {
  long = long;
  numbers = λ r below. done.numbers r (omega (arith, is, below));
  none = λ r d below within. done.none r d (omega (arith, long, below)) within;
}

-- When all tiles are shut.
module _ (s : CoreState) (h : Stands s) (all : AreAllShut s) where
  merged_all : (r d : ℕ) → r < tile_count s → d < directions → is_merged s r d ≡ true
  merged_all r d below within = h.turn.over r below (all r below) d within

  -- no claimer has a parcel any more
  pub no_parcels : (r d : ℕ) → r < tile_count s → d < directions → parcel_at (tile_in s.tiles r) d ≡ None
  no_parcels r d below within =
      let to = neighbour_of s.frame.map.tiles r d in
      let inside : to < tile_count s = neighbour_below s.frame.map.tiles r d below in
      h.place.gone r d below within (h.turn.ready to d inside within (merged_all to d inside within) d within)

  -- nothing is in the mail
  no_mail : s.mail ≡ replicate (tile_count s * directions) None
  no_mail = all_set {X = Option Parcel} None s.mail (tile_count s * directions) h.places.mail (λ k below.
      let r = k / directions in
      let d = k % directions in
      let tile : r < tile_count s = omega (arith, below) in
      let within : d < directions = omega arith in
      let slot : k ≡ slot_of r d = omega arith in
      ap (λ (j : ℕ). get_or s.mail j None) slot ∙ h.place.taken r d tile within (merged_all r d tile within))

  -- so the scratch memory is as at the start, once the tiles are bare and the marks are taken away
  pub scratch_again : (scratch : Scratch) → AreBare (tile_count s) scratch.bare.items → scratch.mail.items ≡ s.mail → scratch.claimed.items ≡ replicate
      (length s.claimed) false
      → scratch.posted.items ≡ replicate (length s.posted) false → scratch.merged.items ≡ replicate (length s.merged) false
      → scratch.shut.items ≡ replicate (length s.shut) false → IsScratch s.frame.map scratch
  scratch_again scratch bare mail claimed posted merged shut = record {
    bare = bare;
    mail = mail ∙ no_mail;
    claimed = claimed ∙ ap (λ (n : ℕ). replicate n false) h.places.claimed;
    posted = posted ∙ ap (λ (n : ℕ). replicate n false) h.places.posted;
    merged = merged ∙ ap (λ (n : ℕ). replicate n false) h.places.merged;
    shut = shut ∙ ap (λ (n : ℕ). replicate n false) h.places.shut;
  }

  -- and the flux of each tile is within the bound
  pub flux_bound : (r : ℕ) → r < tile_count s → AllAtMost most_flux (flux_at (tile_in s.received r) here)
  flux_bound r below =
      let w = felt_in s.frame in
      let m = s.frame.map in
      let xs = all_particles s.opening in
      let least = h.frame.least in
      let some : 0 < m.side = omega (arith, least) in
      let side = felt_side s.frame h.frame in
      let cells = felt_cells s.frame h.frame in
      let inside = opening_inside s.frame s.opening h.opening in
      let got = h.place.receives r below in
      let own = some_there (parcel_at (tile_in s.received r) here)
      (got.there (bounded here (is_merged s r here) (omega arith) ∙ merged_all r here below (omega arith))) in
      let shared = shared_out layers_current leads w m xs s.opening some h.frame.map.thick side cells inside h.opening.fresh in
      subst (λ (o : Option Parcel). AllAtMost most_flux (flux_of o)) (sym own.1)
      (merged_in_bound partial_sums w m (first_particles s) xs (merged_into s r) r own.0 some h.frame.most side cells
      h.frame.frame.kinds_are.limits h.frame.map.thick below shared inside h.opening.few (got.own own.0 own.1))
