-- Tiles: what stands at a direction after a parcel is put or taken.
use Rattle.std.proofs.Common.{◌≡◌, ◌<◌, ℕ, List, length, Option, None, Some, slice_index_or, slice_set, inl, inr, arith, sym, ◌∙◌, ap, IfSome}
use Rattle.std.specs.Prelude.{replicate}
use Rattle.std.proofs.lemmas.List.{get_or-replicate, get_or_past, get_or_default, length-replicate, length-set}
use Rattle.std.proofs.lemmas.Bool.{cases_lt}
use Rattle.std.proofs.lemmas.Grind.{get_or-set_at}
use Rattle.pic_tile.specs.declared.parcel.Parcel.{Parcel}
use Rattle.pic_tile.specs.Tile.{TileValue, AreParcels, parcel_at, with_parcel}

-- an entry of a list of the same, where it stands and past it
pub same_there : {X : Type 0} → (n i : ℕ) (x : X) → slice_index_or (replicate n x) i x ≡ x
same_there n i x = elim (cases_lt i n) [
  | inl less ↦ get_or-replicate n i x x less
  | inr more ↦ get_or_past (replicate n x) i x (let e : length (replicate n x) ≡ n = length-replicate n x in omega arith)
]

-- a parcel that is found has the direction of the place where it stands
pub dir_found : (ps : List (Option Parcel)) (d e : ℕ) (x o : Option Parcel)
    → AreParcels ps → d < length ps → d ≡ e → o ≡ slice_index_or ps d x → IfSome o (λ p. p.dir ≡ e)
dir_found ps d e x None h l k i = tt
dir_found ps d e x (Some p) h l k i = h.dirs d p (get_or_default ps d None x l ∙ sym i) ∙ k

-- where a parcel is taken none is left
pub none_left : (t u : TileValue) (d e : ℕ) → u ≡ with_parcel t d None → e ≡ d → parcel_at u e ≡ None
none_left t u d e taken same = elim (cases_lt e (length t.parcels)) [
  | inl less ↦ ap (λ (x : TileValue). parcel_at x e) taken ∙ get_or-set_at {X = Option Parcel} t.parcels d e None None same (omega arith)
  | inr more ↦
      (let long : length (slice_set t.parcels d None) ≡ length t.parcels = length-set {A = Option Parcel} t.parcels d None in
      ap (λ (x : TileValue). parcel_at x e) taken ∙ get_or_past {X = Option Parcel} (slice_set t.parcels d None) e None (omega arith))
]
