use Rattle.pic_load.proofs.GeneratorLaws.{drawn_word, left_after}
use Rattle.pic_load.proofs.drawing.draw_word.Goals as goal

pub returns-clause-value : goal.returns-clause-value
returns-clause-value c = drawn_word _ _ _ c.next_word.ensures

pub returns-clause-left : goal.returns-clause-left
returns-clause-left c = left_after _ _ _ c.next_word.ensures
