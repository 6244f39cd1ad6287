use Rattle.std.proofs.Common.{◌+◌, ◌*◌, ◌%◌, ◌∷◌, [], slice_index, ap, ◌∙◌}
use Rattle.pic_num.specs.Space.{Triple}
use Rattle.pic_load.specs.Loading.{site}
use Rattle.pic_load.proofs.loading.site.Goals as goal

pub returns-clause-value : goal.returns-clause-value
unfolding site
returns-clause-value c =
    let n = c.extent.ensures.value in
    let first = c.args.first in
    let gap = c.args.gap in
    let at = c.args.at in
    λ i.
    (c.site_on-x.ensures.value ∙ ap (λ (t : Triple). (slice_index first 0 + slice_index at 0 * slice_index gap 0) % t.x) n) i
    ∷ (c.site_on-y.ensures.value ∙ ap (λ (t : Triple). (slice_index first 1 + slice_index at 1 * slice_index gap 1) % t.y) n) i
    ∷ (c.site_on-z.ensures.value ∙ ap (λ (t : Triple). (slice_index first 2 + slice_index at 2 * slice_index gap 2) % t.z) n) i
    ∷ []
