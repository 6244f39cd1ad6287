use Rattle.std.proofs.Common.{ap, refl}
use Rattle.pic_core.specs.Inside.{state_of}
use Rattle.pic_core.proofs.OpenLaws.{opened_made}
use Rattle.pic_core.proofs.machine.Core.begin.Goals as goal

pub invariant_of-core : goal.invariant_of-core
invariant_of-core c =
    let scratch = c.args.scratch in
    let is = c.requires.scratch in
    opened_made (state_of (record {
      frame = c.args.frame;
      opening = c.of.result;
      tiles = c.args.tiles;
      mail = scratch.mail;
      received = scratch.bare;
      claimed = scratch.claimed;
      posted = scratch.posted;
      merged = scratch.merged;
      shut = scratch.shut;
    })) c.args.tiles.items _ refl (ap (λ v. v.items) c.of.ensures) refl is.mail is.bare is.claimed is.posted is.merged is.shut
    c.sound.ensures c.requires.opening
