-- Lattices that a field was added to.
use Rattle.std.proofs.Common.{◌≡◌, ◌≢◌, ℕ, ◌+◌, ◌*◌, ◌<◌, ◌≤◌, length, inl, inr, refl, sym, ◌∙◌, ap, subst, unsigned_abs, arith}
use Rattle.std.proofs.Math.IntN.{ℤ, pos, ◌+ℤ◌}
use Rattle.std.proofs.lemmas.Bool.{cases_eq}
use Rattle.std.proofs.lemmas.Int.{ints}
use Rattle.std.proofs.lemmas.List.{length-set}
use Rattle.pic_num.specs.declared.axis.Axis.{Axis}
use Rattle.pic_num.specs.Sizes.{IsAtMost}
use Rattle.pic_num.specs.Space.{Triple}
use Rattle.pic_block.specs.Cells.{IsWithin, count_of, place_of}
use Rattle.pic_block.proofs.CellLaws.{place_of_below, place_of_same, places_more}
use Rattle.pic_block.proofs.PlaceLaws.{IsPlace}
use Rattle.pic_grid.specs.Lattice.{Field, EachAtMost, value_at, with_value, field_of}
use Rattle.pic_grid.proofs.LatticeLaws.{value_at-same, value_at-other, value_at-field_of, length-values_of, is_field_of}
use Rattle.pic_drive.specs.Drive.{only_there, plus}
use Rattle.pic_drive.proofs.OnlyLaws.{only_same, only_other}

-- values that are equal at every cell make one lattice
pub field_of_same : (side : ℕ) (n parts : Triple) (f g : Axis → Triple → ℤ) → ((a : Axis) (p : Triple) → IsWithin p n → f a p ≡ g a p)
    → field_of side n parts f ≡ field_of side n parts g
field_of_same side n parts f g same =
    is_field_of side n parts g (field_of side n parts f) refl refl refl (length-values_of n f) (λ a p w. value_at-field_of side n parts f a p w ∙ same a p w)

-- two additions are one
pub plus_twice : (f : Field) (g h k : Axis → Triple → ℤ) → ((a : Axis) (p : Triple) → IsWithin p f.cells → g a p +ℤ h a p ≡ k a p)
    → plus (plus f g) h ≡ plus f k
plus_twice f g h k both =
    field_of_same f.side f.cells f.parts _ _ (λ a p w.
    let first = value_at-field_of f.side f.cells f.parts (λ b q. value_at f b q +ℤ g b q) a p w in
    let sum = both a p w in
    omega (arith, ints, first, sum))

-- the addition of nothing
pub plus_none : (f : Field) (g : Axis → Triple → ℤ) → length f.values ≡ 3 * count_of f.cells → ((a : Axis) (p : Triple) → g a p ≡ pos 0) → f ≡ plus f g
plus_none f g long none =
    is_field_of f.side f.cells f.parts (λ a p. value_at f a p +ℤ g a p) f refl refl refl long (λ a p w. let zero = none a p in omega (arith, ints, zero))

-- to values that are given
pub plus_given : (side : ℕ) (n parts : Triple) (f g k : Axis → Triple → ℤ) → ((a : Axis) (p : Triple) → IsWithin p n → f a p +ℤ g a p ≡ k a p)
    → plus (field_of side n parts f) g ≡ field_of side n parts k
plus_given side n parts f g k both =
    field_of_same side n parts _ _ (λ a p w.
    let first = value_at-field_of side n parts f a p w in
    let sum = both a p w in
    omega (arith, ints, first, sum))

-- to one component
pub plus_one : (f : Field) (a : Axis) (p : Triple) (v w : ℤ) → length f.values ≡ 3 * count_of f.cells → IsWithin p f.cells → w ≡ value_at f a p +ℤ v
    → with_value f a p w ≡ plus f (only_there a p v)
plus_one f a p v w long within is =
    is_field_of f.side f.cells f.parts (λ b q. value_at f b q +ℤ only_there a p v b q) (with_value f a p w) refl refl refl
    (length-set f.values (place_of f.cells a p) w ∙ long) (λ b q at.
    elim (cases_eq (place_of f.cells a p) (place_of f.cells b q)) [
      | inl same ↦ here b q at same
      | inr other ↦ there b q at other
    ])
  where
    here : (b : Axis) (q : Triple) → IsWithin q f.cells → place_of f.cells a p ≡ place_of f.cells b q
        → value_at (with_value f a p w) b q ≡ value_at f b q +ℤ only_there a p v b q
    here b q at same =
        let both = place_of_same f.cells a p b q within at same in
        let P : Axis → Triple → Type 0 = λ c r. value_at (with_value f a p w) c r ≡ value_at f c r +ℤ only_there a p v c r in
        let own : P a p = value_at-same f a p w within long ∙ is ∙ ap (λ (t : ℤ). value_at f a p +ℤ t) (sym (only_same a p v)) in
        subst (λ (r : Triple). P b r) both.1 (subst (λ (c : Axis). P c p) both.0 own)

    there : (b : Axis) (q : Triple) → IsWithin q f.cells → place_of f.cells a p ≢ place_of f.cells b q
        → value_at (with_value f a p w) b q ≡ value_at f b q +ℤ only_there a p v b q
    there b q at other =
        let apart : (b ≡ a) × (q ≡ p) → ⊥ = λ both. other (λ i. place_of f.cells (sym both.0 i) (sym both.1 i)) in
        let stays = value_at-other f a p w b q (λ e. other (sym e)) in
        let none = only_other a p v b q apart in
        omega (arith, ints, stays, none)

-- small values stay small
pub plus_small : (f : Field) (g : Axis → Triple → ℤ) (m k most : ℕ) → EachAtMost m f → ((a : Axis) (p : Triple) → unsigned_abs (g a p) ≤ k) → m + k ≤ most
    → EachAtMost most (plus f g)
plus_small f g m k most small added room = record {
  at_most = λ a p w.
      let is = value_at-field_of f.side f.cells f.parts (λ b q. value_at f b q +ℤ g b q) a p w in
      let old = (small.at_most a p w).size in
      let new = added a p in record { size = omega (arith, ints, is, old, new, room) };
}

-- values that are given are as small as those
pub given_small : (side : ℕ) (n parts : Triple) (g : Axis → Triple → ℤ) (most : ℕ) → ((a : Axis) (p : Triple) → unsigned_abs (g a p) ≤ most)
    → EachAtMost most (field_of side n parts g)
given_small side n parts g most small = record {
  at_most = λ a p w. subst (λ (v : ℤ). IsAtMost v most) (sym (value_at-field_of side n parts g a p w)) (record { size = small a p });
}

-- a lattice has the cells, the side and the parts of another, and a value for each place
pub record IsLike (old new : Field) : Type 0 where
  pub cells : new.cells ≡ old.cells
  pub side : new.side ≡ old.side
  pub parts : new.parts ≡ old.parts
  pub long : length new.values ≡ 3 * count_of old.cells

-- its places before a number are 0
pub record AreNone (f : Field) (i : ℕ) : Type 0 where
  pub at : (a : Axis) (p : Triple) → IsWithin p f.cells → place_of f.cells a p < i → value_at f a p ≡ pos 0

-- one place more is made 0,
pub none_more : (old f g : Field) (i : ℕ) (a : Axis) (p : Triple) → IsLike old f → AreNone f i → IsPlace old.cells i a p → i < 3 * count_of old.cells
    → g ≡ with_value f a p (pos 0) → IsLike old g × AreNone g (i + 1)
none_more old f g i a p like none place below is =
    let w : IsWithin p f.cells = subst (λ (n : Triple). IsWithin p n) (sym like.cells) (place.within below) in
    let number : place_of f.cells a p ≡ i = ap (λ (n : Triple). place_of n a p) like.cells ∙ place.number below in
    let long : length f.values ≡ 3 * count_of f.cells = like.long ∙ ap (λ (n : Triple). 3 * count_of n) (sym like.cells) in
    let size : length (with_value f a p (pos 0)).values ≡ length f.values = length-set f.values (place_of f.cells a p) (pos 0) in
    subst (λ (h : Field). IsLike old h × AreNone h (i + 1)) (sym is) (
      record { cells = like.cells; side = like.side; parts = like.parts; long = size ∙ like.long },
      record {
        at = places_more f.cells (λ b q. value_at (with_value f a p (pos 0)) b q ≡ pos 0) i a p number w
            (λ b q at less.
            let other : place_of f.cells b q ≢ place_of f.cells a p = (λ e. omega (arith, e, number, less)) in
            value_at-other f a p (pos 0) b q other ∙ none.at b q at less)
            (value_at-same f a p (pos 0) w long);
      },
    )

-- and at last all
pub none_all : (old f : Field) (i : ℕ) → IsLike old f → AreNone f i → i ≡ 3 * count_of old.cells
    → f ≡ field_of old.side old.cells old.parts (λ _ _. pos 0)
none_all old f i like none end =
    is_field_of old.side old.cells old.parts (λ _ _. pos 0) f like.cells like.side like.parts like.long (λ a p w.
    let inside : IsWithin p f.cells = subst (λ (n : Triple). IsWithin p n) (sym like.cells) w in
    let number : place_of f.cells a p ≡ place_of old.cells a p = ap (λ (n : Triple). place_of n a p) like.cells in
    let below : place_of old.cells a p < 3 * count_of old.cells = place_of_below old.cells a p w in
    none.at a p inside (omega (arith, number, below, end)))
