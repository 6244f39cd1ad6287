use Rattle.std.proofs.Common.{◌≡◌, Some, None, sym, ap, subst, ◌∙◌}
use Rattle.pic_record.specs.Layout.{LayoutView, IsLayout}
use Rattle.pic_dump.specs.NextReads.{HasFrame}
use Rattle.pic_verify.specs.Verified.{break_of, IsRoomFor}
use Rattle.pic_verify.proofs.ReachedLaws.{good_none, good_frame}
use Rattle.pic_charge.specs.ChargeRoom.{RoomView}
use Rattle.pic_resume.proofs.BehindLaws.{HasRoom, keeps_none, keeps_frame, breaks_kept, cuts_kept, behind_err, room_kept}
use Rattle.pic_resume.proofs.EndLaws.{ends_kept, stops_kept}
use Rattle.pic_resume.proofs.carrying.put_kept.Goals as goal

pub records-init : goal.records-init
records-init g c = record {
  keeps = keeps_none c.args.plan.steps c.args.reader _ _ _ _ c.requires.start c.requires.limits.every_least;
  good = good_none c.args.reader _;
  room = record { e = c.requires.e; b = c.requires.b; particles = c.requires.particles };
  charge = c.requires.charge;
  limits = c.requires.limits;
}

pub returns-in_err-behind : goal.returns-in_err-behind
returns-in_err-behind g c =
    let so_far = c.records.invariant in
    stops_kept _ _ _ _ _ _ _ _ _ _ _ _ _ _ c.from_residual.ensures.1 so_far.good so_far.keeps c.in_err-behind.ensures.reads.answer

pub returns-in-Some : goal.returns-in-Some
returns-in-Some g c =
    let reads = rw c.in-Frame.is at c.in_ok-behind.ensures.reads in
    let has : HasFrame _ _ _ _ _ _ _ _ _ = reads.answer in
    let so_far = c.records.invariant in
    let state = c.next.new.state in
    let layout = has.layout ∙ so_far.keeps.follows.on.layout in
    let some : break_of c.args.reader.layout state.e.values state.particles.items ≡ Some c.in-Some.at =
    ap (λ (l : LayoutView). break_of l state.e.values state.particles.items) (sym layout) ∙ sym c.in-Some.ensures.value in
    breaks_kept _ _ _ _ _ _ _ _ _ _ _ _ state _ _ _ so_far.good so_far.keeps has some

pub returns-in_err-put_due-in-Frame : goal.returns-in_err-put_due-in-Frame
returns-in_err-put_due-in-Frame g c =
    let reads = rw c.in-Frame.is at c.in_ok-behind.ensures.reads in
    let has : HasFrame _ _ _ _ _ _ _ _ _ = reads.answer in
    let so_far = c.records.invariant in
    let state = c.next.new.state in
    let layout = has.layout ∙ so_far.keeps.follows.on.layout in
    let none : break_of c.args.reader.layout state.e.values state.particles.items ≡ None =
    ap (λ (l : LayoutView). break_of l state.e.values state.particles.items) (sym layout) ∙ sym c.in_default.ensures.value in
    behind_err _ _ _ _ _ _ state _ _ c.from_residual-in_err-put_due-in-Frame.ensures.1 (cuts_kept _ _ _ _ _ _ _ _ _ _ _ _ _ _ state _ _ so_far.good
    so_far.keeps has none (c.in_err-put_due-in-Frame.ensures c.args.reader.layout (sym c.requires.every)))

pub records-preserved : goal.records-preserved
records-preserved g c =
    let reads = rw c.in-Frame.is at c.in_ok-behind.ensures.reads in
    let has : HasFrame _ _ _ _ _ _ _ _ _ = reads.answer in
    let so_far = c.records.invariant in
    let state = c.next.new.state in
    let layout = has.layout ∙ so_far.keeps.follows.on.layout in
    let none : break_of c.args.reader.layout state.e.values state.particles.items ≡ None =
    ap (λ (l : LayoutView). break_of l state.e.values state.particles.items) (sym layout) ∙ sym c.in_default.ensures.value in
    let room = room_kept c.records.reader.layout c.records.state state so_far.room c.in_ok-behind.ensures.e c.in_ok-behind.ensures.b
    c.in_ok-behind.ensures.particles in
    record {
      keeps = keeps_frame _ _ _ _ _ _ _ _ _ _ _ _ _ state _ _ so_far.keeps has none (subst (λ l. HasRoom l state) so_far.keeps.follows.on.layout room)
          (c.in_ok-put_due-in-Frame.ensures c.args.reader.layout (sym c.requires.every));
      good = good_frame _ _ _ _ _ _ _ _ _ _ _ _ so_far.good so_far.keeps.follows has none;
      room = subst (λ l. HasRoom l state) (sym has.layout) room;
      charge = subst (λ (v : RoomView). IsRoomFor c.in-Frame.behind.layout v) (sym c.first_break.ensures.room)
          (subst (λ (l : LayoutView). IsRoomFor l c.records.charge) (sym has.layout) so_far.charge);
      limits = subst IsLayout (sym has.layout) so_far.limits;
    }

pub returns-in-End : goal.returns-in-End
returns-in-End g c =
    let reads = rw c.in-End.is at c.in_ok-behind.ensures.reads in
    let (e, b, particles) = rw c.in-End.is at c.in_ok-behind.ensures.kept in
    let so_far = c.records.invariant in
    ends_kept _ _ _ _ _ _ _ _ _ _ c.records.state c.next.new.state _ so_far.good so_far.keeps reads.answer e b particles
