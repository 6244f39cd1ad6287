use Rattle.std.proofs.Common.{◌≡◌, Some, None, sym, ap, subst, ◌∙◌}
use Rattle.std.specs.Prelude.{sum}
use Rattle.pic_record.specs.Layout.{LayoutView, IsLayout}
use Rattle.pic_dump.specs.NextReads.{HasFrame}
use Rattle.pic_charge.specs.ChargeRoom.{RoomView}
use Rattle.pic_verify.specs.Verified.{break_of, IsRoomFor}
use Rattle.pic_verify.proofs.WalkLaws.{follows_none, follows_frame, breaks_frame, ends_records, stops_records}
use Rattle.pic_verify.proofs.ReachedLaws.{good_none, good_frame, reached_record, reached_frame}
use Rattle.pic_verify.proofs.verifying.walk.Goals as goal

pub records-init : goal.records-init
records-init g c = record {
  follows = follows_none c.args.reader _ c.requires.start c.requires.limits.every_least;
  e = c.requires.e;
  b = c.requires.b;
  particles = c.requires.particles;
  room = c.requires.room;
  limits = c.requires.limits;
  good = good_none c.args.reader _;
}

pub returns-in_err-behind-clause-walks : goal.returns-in_err-behind-clause-walks
returns-in_err-behind-clause-walks g c = stops_records _ _ _ _ _ _ _ _ c.from_residual.ensures.1 c.records.invariant.follows
    c.in_err-behind.ensures.reads.answer

pub returns-in-Some-clause-walks : goal.returns-in-Some-clause-walks
returns-in-Some-clause-walks g c =
    let reads = rw c.in-Frame.is at c.in_ok-behind.ensures.reads in
    let has : HasFrame _ _ _ _ _ _ _ _ _ = reads.answer in
    let so_far = c.records.invariant.follows in
    let layout = has.layout ∙ so_far.on.layout in
    let e = c.next.new.state.e.values in
    let particles = c.next.new.state.particles.items in
    let some : break_of c.args.reader.layout e particles ≡ Some c.in-Some.at =
    ap (λ (l : LayoutView). break_of l e particles) (sym layout) ∙ sym c.in-Some.ensures.value in
    breaks_frame _ _ _ _ _ _ _ _ _ _ _ _ _ so_far has some

pub records-preserved : goal.records-preserved
records-preserved g c =
    let reads = rw c.in-Frame.is at c.in_ok-behind.ensures.reads in
    let has : HasFrame _ _ _ _ _ _ _ _ _ = reads.answer in
    let before = c.records.invariant in
    let layout = has.layout ∙ before.follows.on.layout in
    let e = c.next.new.state.e.values in
    let particles = c.next.new.state.particles.items in
    let none : break_of c.args.reader.layout e particles ≡ None = ap (λ (l : LayoutView). break_of l e particles) (sym layout)
    ∙ sym c.in_default.ensures.value in
    record {
      follows = follows_frame _ _ _ _ _ _ _ _ _ _ _ _ before.follows has none;
      e = c.in_ok-behind.ensures.e.cells ∙ before.e ∙ ap (λ (l : LayoutView). l.cells) (sym has.layout);
      b = c.in_ok-behind.ensures.b.cells ∙ before.b ∙ ap (λ (l : LayoutView). l.cells) (sym has.layout);
      particles = c.in_ok-behind.ensures.particles ∙ before.particles ∙ ap (λ (l : LayoutView). sum l.counts) (sym has.layout);
      room = subst (λ (v : RoomView). IsRoomFor c.in-Frame.behind.layout v) (sym c.first_break.ensures.room)
          (subst (λ (l : LayoutView). IsRoomFor l c.records.room) (sym has.layout) before.room);
      limits = subst IsLayout (sym has.layout) before.limits;
      good = good_frame _ _ _ _ _ _ _ _ _ _ _ _ before.good before.follows has none;
    }

pub returns-in-End-clause-walks : goal.returns-in-End-clause-walks
returns-in-End-clause-walks g c =
    let reads = rw c.in-End.is at c.in_ok-behind.ensures.reads in
    ends_records _ _ _ _ _ _ _ c.records.invariant.follows reads.answer

pub returns-in_err-behind-clause-reaches : goal.returns-in_err-behind-clause-reaches
returns-in_err-behind-clause-reaches g c =
    reached_record _ _ _ _ _ _ c.records.invariant.good c.records.invariant.follows c.in_err-behind.ensures.reads.answer.moves

pub returns-in-Some-clause-reaches : goal.returns-in-Some-clause-reaches
returns-in-Some-clause-reaches g c =
    let reads = rw c.in-Frame.is at c.in_ok-behind.ensures.reads in
    let has : HasFrame _ _ _ _ _ _ _ _ _ = reads.answer in
    reached_frame _ _ _ _ _ _ _ _ _ _ _ _ c.records.invariant.good c.records.invariant.follows has

pub returns-in-End-clause-reaches : goal.returns-in-End-clause-reaches
returns-in-End-clause-reaches g c =
    let reads = rw c.in-End.is at c.in_ok-behind.ensures.reads in
    reached_record _ _ _ _ _ _ c.records.invariant.good c.records.invariant.follows reads.answer.moves
