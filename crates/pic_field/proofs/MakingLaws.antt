-- What a making asks of a block, part by part.
use Rattle.std.proofs.Common.{ℤ}
use Rattle.pic_num.specs.declared.axis.Axis.{Axis}
use Rattle.pic_num.specs.Space.{Triple}
use Rattle.pic_block.specs.Block.{BlockValues}
use Rattle.pic_block.specs.Cells.{IsWithin}
use Rattle.pic_field.specs.FieldPhases.{most_raised}
use Rattle.pic_field.specs.Lines.{Changed}
use Rattle.pic_field.specs.Makings.{CanMake}
use Rattle.pic_field.specs.declared.making.Making.{Making}
use Rattle.pic_field.specs.declared.making.Making.TheVariants.{Scaled, Less}
use Rattle.pic_field.proofs.LineLaws.{small_kept}

-- what it asks of some places it asks of some of them,
pub can_part : (P Q : Axis → Triple → Type 0) (b : BlockValues) (making : Making) → CanMake making P b
    → ((a : Axis) (p : Triple) → IsWithin p b.size → Q a p → P a p) → CanMake making Q b
can_part P Q b (Scaled by) can part = tt
can_part P Q b Less can part = record { at_most = λ a p w on. can.at_most a p w (part a p w on) }

-- also where others were made
pub can_kept : (g : Axis → Triple → ℤ → ℤ) (P Q R : Axis → Triple → Type 0) (old mid : BlockValues) (making : Making) → Changed g Q old mid
    → CanMake making P old → ((a : Axis) (p : Triple) → R a p → P a p) → ((a : Axis) (p : Triple) → R a p → Q a p → ⊥) → CanMake making R mid
can_kept g P Q R old mid (Scaled by) first can part apart = tt
can_kept g P Q R old mid Less first can part apart = small_kept g P Q R old mid mid most_raised first can part apart
