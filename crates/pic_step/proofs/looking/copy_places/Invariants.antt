use Rattle.std.proofs.Common.{◌≡◌, All, take}
use Rattle.pic_step.specs.Shown.{HaveSameAt}
use Rattle.pic_step.proofs.looking.copy_places.Given as goal

-- the places so far
abbrev pub invariant-loop-place : goal.invariant-loop-place
invariant-loop-place l = record {
  same : All (HaveSameAt l.to l.from) (take l.place-index l.places);
  shape : l.to ≡ record l.initial.to { values = l.to.values };
}
