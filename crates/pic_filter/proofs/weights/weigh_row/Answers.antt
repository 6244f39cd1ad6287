use Rattle.std.proofs.Common.{◌≡◌, ◌+◌, ◌<◌, ℕ, ℤ, length, to_z, of_z, ◌∙◌, arith}
use mir.Syntax.{w128}
use Rattle.pic_filter.specs.Kept.{kept_at}
use Rattle.pic_filter.specs.Smoothing.{weighted}
use Rattle.pic_filter.proofs.FillLaws.{filled_more}
use Rattle.pic_filter.proofs.SizeLaws.{held, held_across}
use Rattle.pic_filter.proofs.weights.weigh_row.Goals as goal

pub loop-i-preserved : goal.loop-i-preserved
loop-i-preserved c =
    let i = c.loop-i.i in
    let sum : ℕ → ℤ = λ k. (kept_at c.args.kept.now k).three in
    let kept : (k : ℕ) → to_z w128 (of_z w128 (sum k)) ≡ sum k = λ k. held_across (sum k) (c.requires.small.at k).three in
    let inside : i < length c.loop-i.to = omega arith in
    let all : to_z w128 (of_z w128 c.weigh.result) ≡ weighted (sum i) (sum (i + 1)) (sum (i + 2)) =
    held c.weigh.result c.weigh.ensures.size ∙ c.weigh.ensures.value ∙ (λ j. weighted (kept i j) (kept (i + 1) j) (kept (i + 2) j)) in
    filled_more (λ k. weighted (sum k) (sum (k + 1)) (sum (k + 2))) i c.loop-i.to _ inside c.loop-i.invariant all
