use Rattle.std.proofs.Common.{sym, ap, subst, ◌∙◌}
use Rattle.std.specs.Prelude.{sum}
use Rattle.pic_record.specs.Layout.{LayoutView, IsLayout}
use Rattle.pic_dump.specs.NextReads.{HasFrame}
use Rattle.pic_dump.proofs.UpgradeLaws.{follows_none, follows_frame, cuts_frame, cuts_end, ends_records, stops_records}
use Rattle.pic_dump.proofs.upgrading.put_records.Goals as goal

pub records-init : goal.records-init
records-init g c = record {
  follows = follows_none c.args.reader _ _ c.requires.start c.requires.limits.every_least;
  e = c.requires.e;
  b = c.requires.b;
  particles = c.requires.particles;
  limits = c.requires.limits;
}

pub returns-in_err-behind : goal.returns-in_err-behind
returns-in_err-behind g c = stops_records _ _ _ _ _ _ _ _ _ _ c.from_residual.ensures.1 c.records.invariant.follows c.in_err-behind.ensures.reads.answer

pub returns-in_err-put_frame-in-Frame : goal.returns-in_err-put_frame-in-Frame
returns-in_err-put_frame-in-Frame g c =
    let reads = rw c.in-Frame.is at c.in_ok-behind.ensures.reads in
    let has : HasFrame _ _ _ _ _ _ _ _ _ = reads.answer in
    cuts_frame _ _ _ _ _ _ _ _ _ _ _ _ _ _ _ _ c.from_residual-in_err-put_frame-in-Frame.ensures.1 c.records.invariant.follows has
    c.in_err-put_frame-in-Frame.ensures.bytes c.in_err-put_frame-in-Frame.ensures.cause.err

pub records-preserved : goal.records-preserved
records-preserved g c =
    let reads = rw c.in-Frame.is at c.in_ok-behind.ensures.reads in
    let has : HasFrame _ _ _ _ _ _ _ _ _ = reads.answer in
    let before = c.records.invariant in
    record {
      follows = follows_frame _ _ _ _ _ _ _ _ _ _ _ _ _ _ _ before.follows has c.in_ok-put_frame-in-Frame.ensures.bytes
          c.in_ok-put_frame-in-Frame.ensures.cause.ok;
      e = c.in_ok-behind.ensures.e.cells ∙ before.e ∙ ap (λ (l : LayoutView). l.cells) (sym has.layout);
      b = c.in_ok-behind.ensures.b.cells ∙ before.b ∙ ap (λ (l : LayoutView). l.cells) (sym has.layout);
      particles = c.in_ok-behind.ensures.particles ∙ before.particles ∙ ap (λ (l : LayoutView). sum l.counts) (sym has.layout);
      limits = subst IsLayout (sym has.layout) before.limits;
    }

pub returns-in_err-put_end-in-End : goal.returns-in_err-put_end-in-End
returns-in_err-put_end-in-End g c =
    let reads = rw c.in-End.is at c.in_ok-behind.ensures.reads in
    cuts_end _ _ _ _ _ _ _ _ _ _ _ c.from_residual-in_err-put_end-in-End.ensures.1 c.records.invariant.follows reads.answer
    c.in_err-put_end-in-End.ensures.bytes c.in_err-put_end-in-End.ensures.cause.err

pub returns-in-End : goal.returns-in-End
returns-in-End g c =
    let reads = rw c.in-End.is at c.in_ok-behind.ensures.reads in
    ends_records _ _ _ _ _ _ _ _ _ _ c.records.invariant.follows reads.answer c.in_ok-put_end-in-End.ensures.bytes c.in_ok-put_end-in-End.ensures.cause.ok
