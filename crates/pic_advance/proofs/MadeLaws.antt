-- Blocks of new values, made for each by itself.
use Rattle.std.proofs.Common.{◌≡◌, ℤ, pos, ◌*◌, All, List, ap, ◌∙◌}
use Rattle.pic_num.specs.declared.axis.Axis.{Axis}
use Rattle.pic_num.specs.Space.{Triple}
use Rattle.pic_block.specs.Block.{BlockValues, inner_at}
use Rattle.pic_block.specs.Cells.{count_of, place_of}
use Rattle.pic_advance.specs.Blocks.{EachBlock, IsMade}
use Rattle.pic_advance.specs.Driven.{cleared}
use Rattle.pic_team.specs.Sharing.{CanShare}
use Rattle.pic_advance.proofs.EachLaws.{each_append, all_front, all_back, zero_there}

-- a block that is cleared has zeros
pub made_clear : (old new : BlockValues) → new ≡ cleared old → IsMade (λ a p. pos 0) old new
made_clear old new is = record {
  shaped = record { low = ap (λ (c : BlockValues). c.low) is; size = ap (λ (c : BlockValues). c.size) is };
  values = λ a p w. ap (λ (c : BlockValues). inner_at c a p) is ∙ zero_there (3 * count_of old.size) (place_of old.size a p);
}

-- blocks can be shared out, where each has to be so
pub making_shares : (Known : Type 0) (IsSo : BlockValues → Type 0) (g : Axis → Triple → ℤ)
    → CanShare (λ i bs (us : List BlockValues). Known × All IsSo bs)
    (λ i bs us cs vs (answer : Unit {0}). EachBlock (IsMade g) bs cs) (λ a b. tt)
making_shares Known IsSo g = record {
  front = λ i xs ys us vs beside can. (can.0, all_front IsSo xs ys can.1);
  back = λ i xs ys us vs beside can. (can.0, all_back IsSo xs ys can.1);
  whole = λ i xs ys xs' ys' us vs us' vs' a b beside p q. each_append (IsMade g) xs ys xs' ys' p q;
}
