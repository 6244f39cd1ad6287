use Rattle.std.proofs.Common.{◌≡◌, IfOk, Result, Ok, Err, sym, subst}
use Rattle.pic_num.specs.declared.no_memory.NoMemory.{NoMemory}
use Rattle.pic_block.specs.Block.{BlockValues, AllAtMost}
use Rattle.pic_block.proofs.ShapeLaws.{zeros_at_most}
use Rattle.pic_base_tests.proofs.deposits.zeros.Goals as goal

made : (r : Result BlockValues NoMemory) (b : BlockValues) → IfOk r (λ a. a ≡ b) → AllAtMost 0 b → IfOk r (AllAtMost 0)
made (Ok a) b e h = subst (AllAtMost 0) (sym e) h
made (Err e) b f h = tt

pub returns : goal.returns
returns c = made c.new.result _ c.new.ensures (zeros_at_most _ _)
