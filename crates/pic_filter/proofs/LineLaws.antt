-- Lines taken in one after another up y: what is then kept of the last ones.
use Rattle.std.proofs.Common.{◌≡◌, ℕ, ℤ, ◌+◌, ◌-◌, ◌%◌, ◌<◌, ◌+ℤ◌, List, length, sym, ◌∙◌, ap, arith}
use Rattle.std.proofs.lemmas.Int.{ints}
use Rattle.std.proofs.Math.Nat.{mod-add-mod, mod-eq_of_lt, add-mod_right}
use Rattle.pic_num.specs.declared.axis.Axis.TheVariants.{Y}
use Rattle.pic_num.specs.Space.{Triple}
use Rattle.pic_grid.specs.Differences.{up, down}
use Rattle.pic_filter.specs.declared.kept.Kept.{Kept}
use Rattle.pic_filter.specs.Kept.{kept_at, row_cell, TakeIn, HoldLines}
use Rattle.pic_filter.specs.Smoothing.{smoothed_along}

-- one layer up and one down, where there is one above
down_up : (n p : Triple) → p.y < n.y → down n Y (up n Y p) ≡ p
down_up n p below =
    let sum : p.y + 1 + (n.y - 1) ≡ p.y + n.y = omega (arith, below) in
    let y : ((p.y + 1) % n.y + (n.y - 1)) % n.y ≡ p.y =
    mod-add-mod (p.y + 1) n.y (n.y - 1) ∙ ap (λ (m : ℕ). m % n.y) sum ∙ add-mod_right p.y n.y ∙ mod-eq_of_lt below in
    λ i. record { x = p.x; y = y i; z = p.z }

module _ (n : Triple) (h : Triple → ℤ) (p : Triple) (old new : List Kept) (long : length new ≡ length old)
  where
    -- two lines, of which the last is that of p
    pub hold_first : (first : List Kept) → length old ≡ length first → TakeIn n h (down n Y p) first old → TakeIn n h p old new → HoldLines n h p new
    hold_first first as_long below own = record {
      one = λ i inside. ap (λ (k : Kept). k.one) (own.at i (omega (arith, inside, long)));
      two = λ i inside.
          ap (λ (k : Kept). k.two) (own.at i (omega (arith, inside, long)))
          ∙ ap (λ (k : Kept). k.one +ℤ h (row_cell n p i)) (below.at i (omega (arith, inside, long, as_long)));
    }

    module _ (held : HoldLines n h p old) (takes : TakeIn n h (up n Y p) old new)
      where
        -- and one more
        pub hold_next : p.y < n.y → HoldLines n h (up n Y p) new
        hold_next below = record {
          one = λ i inside. ap (λ (k : Kept). k.one) (takes.at i (omega (arith, inside, long)));
          two = λ i inside.
              ap (λ (k : Kept). k.two) (takes.at i (omega (arith, inside, long)))
              ∙ (λ j. held.one i (omega (arith, inside, long)) j +ℤ h (row_cell n (up n Y p) i))
              ∙ sym (ap (λ (q : Triple). h (row_cell n q i) +ℤ h (row_cell n (up n Y p) i)) (down_up n p below));
        }

        -- three lines by their weights are filtered along y
        pub three_lines : (i : ℕ) → i < length old → (kept_at new i).three ≡ smoothed_along Y n h (row_cell n p i)
        unfolding smoothed_along
        three_lines i inside =
            let all = ap (λ (k : Kept). k.three) (takes.at i inside) in
            let one = held.one i inside in
            let two = held.two i inside in
            omega (arith, ints, all, one, two)
