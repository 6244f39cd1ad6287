-- What loops drive: their laws, one loop more, and how large it is.
use Rattle.std.proofs.Common.{◌≡◌, ℕ, zero, suc, ◌+◌, ◌*◌, ◌%◌, ◌<◌, ◌≤◌, List, [], ◌∷◌, ◌++◌}
use Rattle.std.proofs.Common.{length, get_or, take, refl, sym, ◌∙◌, ap, subst, unsigned_abs, arith}
use Rattle.std.proofs.Math.IntN.{ℤ, pos, ◌+ℤ◌}
use Rattle.std.proofs.Math.Nat.{add-mod_right, mod-lt}
use Rattle.std.proofs.lemmas.Int.{ints}
use Rattle.std.proofs.lemmas.List.{take_all}
use Rattle.std.proofs.lemmas.List.Elements.{All-get_or}
use Rattle.std.specs.Prelude.{slice_index_or, All}
use Rattle.pic_num.specs.declared.axis.Axis.{Axis}
use Rattle.pic_num.specs.Limits.{most_drive, most_loops}
use Rattle.pic_num.specs.Sizes.{IsAtMost}
use Rattle.pic_num.specs.Space.{Triple, triple}
use Rattle.pic_grid.specs.declared.loops.Loop.{Loop}
use Rattle.pic_grid.specs.Loops.{IsLoop, AreLoops}
use Rattle.pic_grid.specs.Sums.{sum_over}
use Rattle.pic_grid.proofs.DifferenceLaws.{div_e-curl_b}
use Rattle.pic_grid.proofs.OverLaws.{sum_over-append, sum_over-one, sum_over_more}
use Rattle.pic_drive.specs.Drive.{wave_at, only_there, part_of, driven, most_driven, DrivesItsFace, Repeats, DrivesAddUp, DrivenCurrentIsClosed}
use Rattle.pic_drive.proofs.OnlyLaws.{only_same, only_other, only_size}

pub driven_none : (step : ℕ) (a : Axis) (p : Triple) → driven [] step a p ≡ pos 0
unfolding driven sum_over
driven_none step a p = refl

driven_one : (l : Loop) (step : ℕ) (a : Axis) (p : Triple) → driven (l ∷ []) step a p ≡ part_of step a p l
unfolding driven
driven_one l step a p = sum_over-one (part_of step a p) l

pub alone : (l : Loop) → DrivesItsFace l
alone l = record {
  own = λ step. driven_one l step l.axis (triple l.cell) ∙ only_same l.axis (triple l.cell) (wave_at step l);
  other = λ step a p apart. driven_one l step a p ∙ only_other l.axis (triple l.cell) (wave_at step l) a p apart;
}

pub again : (l : Loop) → Repeats l
again l step a p =
    let later : wave_at (step + length l.wave) l ≡ wave_at step l = ap (λ (i : ℕ). slice_index_or l.wave i (pos 0)) (add-mod_right step (length l.wave)) in
    driven_one l (step + length l.wave) a p ∙ ap (λ (v : ℤ). only_there l.axis (triple l.cell) v a p) later ∙ sym (driven_one l step a p)

together : (ls ms : List Loop) (step : ℕ) (a : Axis) (p : Triple) → driven (ls ++ ms) step a p ≡ driven ls step a p +ℤ driven ms step a p
unfolding driven
together ls ms step a p = sum_over-append (part_of step a p) ls ms

pub add_up : DrivesAddUp
add_up = record { none = driven_none; sum = together }

pub closed : DrivenCurrentIsClosed
closed n loops step p = div_e-curl_b n (driven loops step) p

-- one loop more
pub driven_more : (loops : List Loop) (step i : ℕ) (d : Loop) → i < length loops → (a : Axis) (p : Triple)
    → driven (take (i + 1) loops) step a p ≡ driven (take i loops) step a p +ℤ part_of step a p (get_or loops i d)
unfolding driven
driven_more loops step i d below a p = sum_over_more (part_of step a p) loops i d below

-- a number of a wave is one of those that are small
pub wave_small : (n : Triple) (l : Loop) (step : ℕ) → IsLoop n l → IsAtMost (wave_at step l) most_drive
wave_small n l step good =
    let some : 0 < length l.wave = good.some in
    All-get_or (λ (v : ℤ). IsAtMost v most_drive) l.wave (step % length l.wave) (pos 0) (mod-lt step some) good.sizes

-- what so many loops add is at most as large as their numbers together
prefix_size : (n : Triple) (loops : List Loop) (step : ℕ) → All (IsLoop n) loops → (a : Axis) (p : Triple) (i : ℕ) → i ≤ length loops
    → unsigned_abs (driven (take i loops) step a p) ≤ i * most_drive
prefix_size n loops step good a p zero h = let none = driven_none step a p in omega (arith, ints, none)
prefix_size n [] step good a p (suc i) h = absurd (omega (arith, h))
prefix_size n (l ∷ ls) step good a p (suc i) h =
    let loops : List Loop = l ∷ ls in
    let below : i < length loops = omega (arith, h) in
    let next : suc i ≡ i + 1 = omega arith in
    let more = ap (λ k. driven (take k loops) step a p) next ∙ driven_more loops step i l below a p in
    let before = prefix_size n loops step good a p i (omega (arith, h)) in
    let one : Loop = get_or loops i l in
    let number = (wave_small n one step (All-get_or (IsLoop n) loops i l below good)).size in
    let here = only_size one.axis (triple one.cell) (wave_at step one) a p most_drive number in
    rw more (omega (arith, ints, before, here))

-- so they are at most most_driven in size
pub drive_size : (n : Triple) (loops : List Loop) (step : ℕ) → AreLoops n most_loops loops → (a : Axis) (p : Triple) (i : ℕ) → i ≤ length loops
    → unsigned_abs (driven (take i loops) step a p) ≤ most_driven
drive_size n loops step are a p i h =
    let size = prefix_size n loops step are.each a p i h in
    let few = are.few in omega (arith, size, few, h)

pub driven_size : (n : Triple) (loops : List Loop) (step : ℕ) → AreLoops n most_loops loops → (a : Axis) (p : Triple)
    → unsigned_abs (driven loops step a p) ≤ most_driven
driven_size n loops step are a p =
    let all : take (length loops) loops ≡ loops = take_all (length loops) loops (omega arith) in
    subst (λ (ls : List Loop). unsigned_abs (driven ls step a p) ≤ most_driven) all (drive_size n loops step are a p (length loops) (omega arith))
