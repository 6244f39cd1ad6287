-- The states that the events' code makes, from what it reads.
use Rattle.std.proofs.Common.{◌≡◌, ℕ, ◌*◌, ◌<◌, ◌≤◌, true, List, All, get_or, slice_set, length, Option, Some, None, refl, sym, ap, ◌∙◌, subst}
use Rattle.std.proofs.lemmas.List.{get_or_default}
use Rattle.pic_num.specs.Limits.{most_particles}
use Rattle.pic_tile.specs.declared.parcel.Parcel.{Parcel}
use Rattle.pic_tile.specs.CoreEvents.{CanClaim, CanPost, CanMerge, Claims, after_claim}
use Rattle.pic_tile.specs.CoreState.{CoreState, Stands, tile_count, slot_of, mail_at, first_particles}
use Rattle.pic_tile.specs.Directions.{directions, here}
use Rattle.pic_tile.specs.Frame.{felt_in}
use Rattle.pic_tile.specs.Pushed.{IsOfTile, IsPushed}
use Rattle.pic_tile.specs.Receiving.{Merged}
use Rattle.pic_tile.specs.Tile.{TileValue, parcel_at, with_parcel, chain_at, no_tile, tile_in}
use Rattle.pic_tile.specs.Tiling.{neighbour_of}
use Rattle.pic_tile.proofs.OpeningLaws.{opening_few, opening_own}
use Rattle.pic_tile.proofs.ReceivedLaws.{MayMerge}
use Rattle.pic_core.proofs.MergeLaws.{merge_sent}
use Rattle.pic_core.proofs.SlotLaws.{slot_below}
use Rattle.pic_core.proofs.StandLaws.{claim_stands, post_stands, merge_stands, can_be_merged}

-- an entry that is read
read : {X : Type 0} (xs : List X) (i n : ℕ) (x d : X) → length xs ≡ n → i < n → x ≡ get_or xs i x → x ≡ get_or xs i d
read xs i n x d long below is = is ∙ get_or_default xs i x d (subst (λ (k : ℕ). i < k) (sym long) below)

module _ (s : CoreState) (t : ℕ) (x : TileValue) (h : Stands s) (can : CanClaim s t) (is : x ≡ get_or s.tiles t x) where
  -- a tile that is claimed is as at the start
  waiting : x ≡ tile_in s.opening t
  waiting = read {X = TileValue} s.tiles t (tile_count s) x no_tile h.places.tiles can.tile is ∙ h.place.waits t can.tile can.free

  pub claim_few : length (chain_at x here) ≤ most_particles
  claim_few = subst (λ (v : TileValue). length (chain_at v here) ≤ most_particles) (sym waiting) (opening_few s.frame s.opening h.opening t)

  pub claim_own : All (IsOfTile s.frame.map s.frame.kinds x.number) (chain_at x here)
  claim_own =
      subst (λ (v : TileValue). All (IsOfTile s.frame.map s.frame.kinds v.number) (chain_at v here)) (sym waiting)
      (subst (λ (k : ℕ). All (IsOfTile s.frame.map s.frame.kinds k) (chain_at (tile_in s.opening t) here)) (sym (h.opening.fresh.numbers t can.tile))
      (opening_own s.frame s.opening h.opening t can.tile))

  module _ (u : TileValue) (number : u.number ≡ x.number) (pushed : IsPushed (felt_in s.frame) s.frame.map (chain_at x here) u) where
    numbered : u.number ≡ t
    numbered = number ∙ ap (λ (v : TileValue). v.number) waiting ∙ h.opening.fresh.numbers t can.tile

    started : IsPushed (felt_in s.frame) s.frame.map (first_particles s t) u
    started = subst (λ (v : TileValue). IsPushed (felt_in s.frame) s.frame.map (chain_at v here) u) waiting pushed

    pub claim_made : Stands (after_claim s t u)
    claim_made = claim_stands s t u h can numbered started

    pub claimed : Claims s t (after_claim s t u)
    claimed = record { tile = u; number = numbered; pushed = started; is = refl }

pub post_made : (s : CoreState) (t d slot : ℕ) (x u : TileValue) (p : Option Parcel) → Stands s → CanPost s t d
    → slot ≡ slot_of (neighbour_of s.frame.map.tiles t d) d → x ≡ get_or s.tiles t x → u ≡ with_parcel x d None → p ≡ parcel_at x d
    → Stands (record s { posted = slice_set s.posted slot true; mail = slice_set s.mail slot p; tiles = slice_set s.tiles t u })
post_made s t d slot x u p h can at is left taken =
    let found : x ≡ tile_in s.tiles t = read {X = TileValue} s.tiles t (tile_count s) x no_tile h.places.tiles can.tile is in
    let now : u ≡ with_parcel (tile_in s.tiles t) d None = left ∙ ap (λ (v : TileValue). with_parcel v d None) found in
    let out : p ≡ parcel_at (tile_in s.tiles t) d = taken ∙ ap (λ (v : TileValue). parcel_at v d) found in
    subst (λ (z : CoreState). Stands z)
    (λ i. record s { posted = slice_set s.posted (sym at i) true; mail = slice_set s.mail (sym at i) (sym out i); tiles = slice_set s.tiles t (sym now i) })
    (post_stands s t d h can)

-- A merge: y is read from the mail, and x is the receiver's tile.
module _ (s : CoreState) (r d slot : ℕ) (h : Stands s) (can : CanMerge s r d) (at : slot ≡ slot_of r d) (y : Option Parcel)
    (is : y ≡ get_or s.mail slot y)
  where
    mail_is : y ≡ mail_at s r d
    mail_is =
        let n = tile_count s * directions in
        let below : slot < n = subst (λ (k : ℕ). k < n) (sym at) (slot_below r d (tile_count s) can.tile can.dir) in
        read {X = Option Parcel} s.mail slot n y None h.places.mail below is
        ∙ ap (λ (k : ℕ). get_or s.mail k None) at

    pub merge_some : y ≡ None → ⊥
    merge_some none =
        let sent = merge_sent s r d h.places h.turn h.place can in
        let there : mail_at s r d ≡ Some sent.parcel = sent.there in
        let absent : mail_at s r d ≡ None = sym mail_is ∙ none in
        cc

    module _ (p : Parcel) (there : y ≡ Some p) (x : TileValue) (tile : x ≡ get_or s.received r x) where
      found : x ≡ tile_in s.received r
      found = read {X = TileValue} s.received r (tile_count s) x no_tile h.places.received can.tile tile

      pub merge_may : MayMerge p x
      merge_may = subst (λ (v : TileValue). MayMerge p v) (sym found) (can_be_merged s r d p h can (sym mail_is ∙ there))

      pub merge_made : (u : TileValue) (left : Option Parcel) → Merged p x u → left ≡ None
          → Stands (record s { merged = slice_set s.merged slot true; mail = slice_set s.mail slot left; received = slice_set s.received r u })
      merge_made u left merged none =
          subst (λ (z : CoreState). Stands z)
          (λ i. record s { merged = slice_set s.merged (sym at i) true; mail = slice_set s.mail (sym at i) (sym none i); received = slice_set s.received r u })
          (merge_stands s r d u p h can (sym mail_is ∙ there) (subst (λ (v : TileValue). Merged p v u) found merged))

pub received_read : (s : CoreState) (r : ℕ) (x : TileValue) → Stands s → r < tile_count s → x ≡ get_or s.received r x → x ≡ tile_in s.received r
received_read s r x h below is = read {X = TileValue} s.received r (tile_count s) x no_tile h.places.received below is
