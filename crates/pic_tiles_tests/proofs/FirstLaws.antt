-- Particles one after another, and their tiles at the begin of a push.
use Rattle.std.proofs.Common.{◌≡◌, ℕ, zero, suc, ◌+◌, ◌≤◌, List, [], ◌∷◌, ◌++◌, length, refl, sym, ◌∙◌, ap, subst, arith}
use Rattle.std.specs.List.{All, range_with_len}
use Rattle.std.proofs.lemmas.List.{length-append, map-append}
use Rattle.std.proofs.lemmas.List.Elements.{All-nil, All-push, All-weaker}
use Rattle.pic_num.specs.declared.motion.Particle.{Particle}
use Rattle.pic_num.specs.Space.{Triple, triple}
use Rattle.pic_grid.specs.Hat.{IsInBox}
use Rattle.pic_grid.specs.PushPhase.{CanShare, no_kind}
use Rattle.pic_tile.specs.CoreState.{IsOpening, IsSoundFrame}
use Rattle.pic_tile.specs.Directions.{directions}
use Rattle.pic_tile.specs.Frame.{FrameValue}
use Rattle.pic_tile.specs.Parcels.{AreFreshTiles}
use Rattle.pic_tile.specs.Tile.{TileValue}
use Rattle.pic_tile.specs.Tiling.{Tiling, cells_of}
use Rattle.pic_core.proofs.StartLaws.{opening_of}
use Rattle.pic_tiles_tests.specs.Particles.{AreFirst, four}

pub first_none : AreFirst 0 []
first_none = record { long = refl; identities = refl; can = All-nil (CanShare 4096 four (no_kind ∷ no_kind ∷ [])) }

range_more : (a n : ℕ) → range_with_len a (n + 1) ≡ range_with_len a n ++ (a + n) ∷ []
range_more a zero = ap (λ k. k ∷ []) (let e : a ≡ a + 0 = omega arith in e)
range_more a (suc n) =
    ap (range_with_len a) (let e : suc n + 1 ≡ suc (n + 1) = omega arith in e)
    ∙ ap (λ xs. a ∷ xs) (range_more (a + 1) n ∙ ap (λ k. range_with_len (a + 1) n ++ k ∷ []) (let e : a + 1 + n ≡ a + suc n = omega arith in e))

-- one more
pub first_more : (n : ℕ) (xs : List Particle) (x : Particle) → AreFirst n xs → x.id ≡ n → CanShare 4096 four (no_kind ∷ no_kind ∷ []) x
    → AreFirst (n + 1) (xs ++ x ∷ [])
first_more n xs x first id can = record {
  long = (let more = length-append xs (x ∷ []) in let long = first.long in omega (arith, more, long));
  identities = map-append (λ (p : Particle). p.id) xs (x ∷ []) ∙ (λ i. first.identities i ++ id i ∷ [])
      ∙ ap (λ k. range_with_len 0 n ++ k ∷ []) (let e : n ≡ 0 + n = omega arith in e) ∙ sym (range_more 0 n);
  can = All-push (CanShare 4096 four (no_kind ∷ no_kind ∷ [])) xs x first.can can;
}

-- they lie in the box
pub first_inside : (m : Tiling) (n : ℕ) (xs : List Particle) → m.side ≡ 4096 → cells_of m ≡ four → AreFirst n xs
    → All (λ p. IsInBox m.side (cells_of m) (triple p.x)) xs
first_inside m n xs side cells first =
    All-weaker (CanShare 4096 four (no_kind ∷ no_kind ∷ [])) (λ p. IsInBox m.side (cells_of m) (triple p.x))
    (λ p can. subst (λ (s : ℕ). IsInBox s (cells_of m) (triple p.x)) (sym side)
    (subst (λ (c : Triple). IsInBox 4096 c (triple p.x)) (sym cells) can.place)) xs first.can

-- and their tiles can be pushed
pub opening_first : (f : FrameValue) (m : Tiling) (xs : List Particle) (ts : List TileValue) → IsSoundFrame f → f.map ≡ m → m.side ≡ 4096
    → cells_of m ≡ four → 2 ≤ length f.kinds → AreFreshTiles m xs ts → AreFirst directions xs → IsOpening f ts
opening_first f m xs ts sound same side cells two fresh first =
    let Can : Particle → Type 0 = λ p. CanShare f.map.side (cells_of f.map) f.kinds p in
    let side_is : 4096 ≡ f.map.side = sym (ap (λ (n : Tiling). n.side) same ∙ side) in
    let cells_are : four ≡ cells_of f.map = sym (ap (λ (n : Tiling). cells_of n) same ∙ cells) in
    opening_of f xs ts sound (subst (λ (n : Tiling). AreFreshTiles n xs ts) (sym same) fresh)
    (record { identities = first.identities ∙ ap (range_with_len 0) (sym first.long) })
    (All-weaker (CanShare 4096 four (no_kind ∷ no_kind ∷ [])) Can
    (λ p can. record {
      species = (let below = can.species in omega (arith, below, two));
      place = subst (λ (s : ℕ). IsInBox s (cells_of f.map) (triple p.x)) side_is
          (subst (λ (c : Triple). IsInBox 4096 c (triple p.x)) cells_are can.place);
    }) xs first.can)
    (let long = first.long in omega (arith, long))
