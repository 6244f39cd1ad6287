use Rattle.std.proofs.Common.{◌∷◌, [], slice_index, slice_index_or, ap, ◌∙◌, rules}
use Rattle.std.proofs.Math.IntN.{ℤ, pos, ◌+ℤ◌}
use Rattle.std.proofs.lemmas.Int.{to_z-of_z}
use mir.Syntax.{w32}
use mir.Val.{SFits}
use Rattle.pic_num.specs.Rounding.{residue}
use Rattle.pic_num.specs.Space.{Triple, spot}
use Rattle.pic_load.specs.Loading.{moved}
use Rattle.pic_load.proofs.loading.moved.Goals as goal

pub returns-clause-value : goal.returns-clause-value
unfolding moved
returns-clause-value c =
    let n = c.extent.ensures.value in
    let length = c.extent.result in
    let from = c.args.from in
    let by = spot c.args.by in
    let x : SFits w32 (slice_index_or c.args.by 0 (pos 0)) = search rules in
    let y : SFits w32 (slice_index_or c.args.by 1 (pos 0)) = search rules in
    let z : SFits w32 (slice_index_or c.args.by 2 (pos 0)) = search rules in
    λ i.
    (c.moved_on-x.ensures.value ∙ ap (λ (d : ℤ). residue (pos (slice_index from 0) +ℤ d) (slice_index length 0)) (to_z-of_z w32 _ x)
    ∙ ap (λ (t : Triple). residue (pos (slice_index from 0) +ℤ by.x) t.x) n) i
    ∷ (c.moved_on-y.ensures.value ∙ ap (λ (d : ℤ). residue (pos (slice_index from 1) +ℤ d) (slice_index length 1)) (to_z-of_z w32 _ y)
    ∙ ap (λ (t : Triple). residue (pos (slice_index from 1) +ℤ by.y) t.y) n) i
    ∷ (c.moved_on-z.ensures.value ∙ ap (λ (d : ℤ). residue (pos (slice_index from 2) +ℤ d) (slice_index length 2)) (to_z-of_z w32 _ z)
    ∙ ap (λ (t : Triple). residue (pos (slice_index from 2) +ℤ by.z) t.z) n) i
    ∷ []
