-- The values of a block in the order of places: how large they are, what it has once they are given back, and what both half steps of B make of them.
use Rattle.std.proofs.Common.{◌≡◌, ℕ, ℤ, ◌+ℤ◌, ◌-ℤ◌, ◌*◌, ◌<◌, List, [], ◌∷◌, length, drop, sym, ◌∙◌, ap, subst, arith}
use Rattle.std.proofs.lemmas.List.{take_at}
use Rattle.pic_num.specs.declared.axis.Axis.{Axis}
use Rattle.pic_num.specs.declared.mult.Scales.{Scales}
use Rattle.pic_num.specs.Multiplier.{Multiplier}
use Rattle.pic_num.specs.Rounding.{scaled}
use Rattle.pic_num.specs.Sizes.{IsAtMost}
use Rattle.pic_num.specs.Space.{Triple}
use Rattle.pic_num.proofs.Ring.{ring, reads}
use Rattle.pic_block.specs.Block.{BlockValues, IsAmongCells, IsShaped, AllAtMost, inner_at}
use Rattle.pic_block.specs.Cells.{IsWithin, count_of, place_of}
use Rattle.pic_block.specs.Lending.{with_values}
use Rattle.pic_block.proofs.CellLaws.{place_of_below, place_of-number, place_within}
use Rattle.pic_grid.specs.Differences.{curl_e}
use Rattle.pic_grid.specs.Lattice.{Field, value_at}
use Rattle.pic_field.specs.FieldPhases.{half_of}
use Rattle.pic_field.specs.Lines.{OnStrip, AreSmall}
use Rattle.pic_field.specs.Rows.{row_at, IsSmallRow}
use Rattle.pic_field.proofs.CalmLaws.{all_small}

-- they are as small as those at its places
pub small_values : (b : BlockValues) (n : Triple) (most : ℕ) → IsAmongCells b.low b.size n → length b.values ≡ 3 * count_of b.size → AllAtMost most b
    → IsSmallRow most (length b.values) b.values
small_values b n most among long all = record {
  at_most = λ i below.
      let inside : i < 3 * count_of b.size = omega (arith, below, long) in
      let w = place_within b.size i inside in
      subst (λ (k : ℕ). IsAtMost (row_at b.values k) most) (place_of-number b.size i inside)
      ((all_small most (OnStrip 0 b.size.y) b n among all).at_most _ _ w (record { y_from = omega arith; y_below = w.y }));
}

-- given back, as many values are those of the block,
pub given : (b : BlockValues) (values : List ℤ) → length values ≡ length b.values → with_values b values ≡ record b { values = values }
given b values same = λ i. record b { values = take_at values (drop (length values) b.values) (length b.values) same i }

pub given_as_lent : (b : BlockValues) (values : List ℤ) → values ≡ b.values → with_values b values ≡ b
given_as_lent b values is = given b values (ap length is) ∙ (λ i. record b { values = is i })

-- which is as small as they are
pub given_small : (b : BlockValues) (values : List ℤ) (most : ℕ) → length b.values ≡ 3 * count_of b.size → length values ≡ length b.values
    → IsSmallRow most (length b.values) values → AreSmall most (OnStrip 0 b.size.y) (with_values b values)
given_small b values most long same small = subst (AreSmall most (OnStrip 0 b.size.y)) (sym (given b values same)) (record {
  at_most = λ a p w here. let below = place_of_below b.size a p w in small.at_most (place_of b.size a p) (omega (arith, below, long));
})

-- force values that are made of the values of another block of the zone
pub forced : (b f : BlockValues) (between new : List ℤ) (by : Multiplier) → IsShaped f b → between ≡ b.values → length b.values ≡ 3 * count_of b.size
    → length new ≡ length f.values → ((i : ℕ) → i < length between → row_at new i ≡ scaled (row_at between i) by)
    → (a : Axis) (p : Triple) → IsWithin p b.size → inner_at (with_values f new) a p ≡ scaled (inner_at b a p) by
forced b f between new by zone is long same made a p w =
    let below = place_of_below b.size a p w in
    ap (λ (g : BlockValues). inner_at g a p) (given f new same) ∙ ap (λ (m : Triple). row_at new (place_of m a p)) zone.size
    ∙ made (place_of b.size a p) (omega (arith, below, long, ap length is))
    ∙ ap (λ (xs : List ℤ). scaled (row_at xs (place_of b.size a p)) by) is

less_twice : (v c : ℤ) → (v -ℤ c) +ℤ (v -ℤ c) -ℤ v ≡ (v -ℤ c) -ℤ c
less_twice v c = ring (v ∷ c ∷ []) (search reads depth 40 fits 9000) tt

-- each half step of B takes the same off a value
pub twice_halved : (scales : Scales) (e : Field) (a : Axis) (p : Triple) (v : ℤ)
    → half_of scales e a p v +ℤ half_of scales e a p v -ℤ v ≡ half_of scales e a p (half_of scales e a p v)
unfolding half_of
twice_halved scales e a p v = less_twice v (curl_e e.cells (λ c q. scaled (value_at e c q) scales.e_to_b) a p)
