use Rattle.pic_step.proofs.ImageLaws.{three_images_are_all}
use Rattle.pic_step.proofs.laws.three_images_are_all.Goals as goal

pub returns : goal.returns
returns c = three_images_are_all
