use Rattle.std.proofs.Common.{◌≡◌, ◌*◌, ◌∷◌, [], ap, ◌∙◌, refl}
use Rattle.pic_load.specs.Generator.{word}
use Rattle.pic_load.specs.Drawing.{scaled_word, drawn_place}
use Rattle.pic_load.proofs.GeneratorLaws.{word_after, left_more}
use Rattle.pic_load.proofs.drawing.draw_place.Goals as goal

pub returns-clause-value : goal.returns-clause-value
unfolding drawn_place
returns-clause-value c =
    let g = c.args.rng.now in
    let n = c.extent.ensures.value in
    let two = left_more 1 1 2 g _ _ c.draw_word.ensures.left c.draw_word-2.ensures.left refl in
    let y_word : c.draw_word-2.result ≡ word 1 g = c.draw_word-2.ensures.value ∙ ap (word 0) c.draw_word.ensures.left ∙ word_after 1 0 g in
    let z_word : c.draw_word-3.result ≡ word 2 g = c.draw_word-3.ensures.value ∙ ap (word 0) two ∙ word_after 2 0 g in
    let x : c.position_of-x.result ≡ scaled_word (word 0 g) (c.args.cells.n.x * c.args.cells.side) =
    c.position_of-x.ensures.value ∙ (λ i. scaled_word (c.draw_word.ensures.value i) (n i).x) in
    let y : c.position_of-y.result ≡ scaled_word (word 1 g) (c.args.cells.n.y * c.args.cells.side) =
    c.position_of-y.ensures.value ∙ (λ i. scaled_word (y_word i) (n i).y) in
    let z : c.position_of-z.result ≡ scaled_word (word 2 g) (c.args.cells.n.z * c.args.cells.side) =
    c.position_of-z.ensures.value ∙ (λ i. scaled_word (z_word i) (n i).z) in
    λ i. x i ∷ y i ∷ z i ∷ []

pub returns-clause-left : goal.returns-clause-left
returns-clause-left c =
    let g = c.args.rng.now in
    let two = left_more 1 1 2 g _ _ c.draw_word.ensures.left c.draw_word-2.ensures.left refl in
    left_more 2 1 3 g _ _ two c.draw_word-3.ensures.left refl
