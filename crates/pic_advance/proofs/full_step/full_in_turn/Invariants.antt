use Rattle.std.proofs.Common.{◌≡◌}
use Rattle.std.specs.Option.{option_copied}
use Rattle.pic_field.specs.FieldPhases.{stop_of_full, no_drive}
use Rattle.pic_advance.specs.Blocks.{block_in, earliest}
use Rattle.pic_advance.specs.Driven.{IsDriven, current_in}
use Rattle.pic_advance.proofs.EachLaws.{Stepping}
use Rattle.pic_advance.proofs.full_step.full_in_turn.Given as goal

-- the blocks before i are driven
abbrev pub invariant-loop-i : goal.invariant-loop-i
invariant-loop-i l =
    let j = current_in (option_copied l.step.current) in
    Stepping (IsDriven l.step.scales.now l.step.b.now j) l.fn.blocks l.blocks l.i
    × (l.least ≡ earliest (λ k. stop_of_full l.step.scales.now l.step.b.now no_drive j (block_in l.fn.blocks k)) l.i)
