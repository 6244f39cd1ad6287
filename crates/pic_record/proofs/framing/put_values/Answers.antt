use Rattle.std.proofs.Common.{◌≡◌, ◌*◌, ◌<◌, length, take, drop, rules, ap, subst, ◌∙◌, arith}
use Rattle.std.proofs.Math.Seq.{take-length}
use Rattle.std.proofs.lemmas.Result.{err_from_is_err_and}
use Rattle.std.specs.Prelude.{flat_map}
use Rattle.pic_num.specs.Bytes.{i128_bytes}
use Rattle.pic_num.specs.Space.{triple}
use Rattle.pic_block.specs.Cells.{count_of, place_of, IsWithin}
use Rattle.pic_block.proofs.PlaceLaws.{first_place}
use Rattle.pic_energy.proofs.WalkLaws.{IsRun, run_is, run_fits, run_behind}
use Rattle.pic_record.specs.RecordText.{values_bytes}
use Rattle.pic_record.specs.Queues.{Queued}
use Rattle.pic_record.proofs.Waits.{queued_part, cut_of_part}
use Rattle.pic_record.proofs.framing.put_values.Given.{Over}
use Rattle.pic_record.proofs.framing.put_values.Goals as goal
use Rattle.pic_record.proofs.framing.put_values.Goals.{After-run-run}

-- the run that is read: a part of the values
record Read (g : Over) (c : After-run-run g) : Type 0 where
  at : place_of c.args.field.now.cells c.loop-done.place.axis (triple c.loop-done.place.inner) ≡ c.loop-done.done
  within : IsWithin (triple c.loop-done.place.inner) c.args.field.now.cells
  run : IsRun c.args.field.now c.loop-done.place.axis (triple c.loop-done.place.inner) c.run-run.result.now
  part : c.run-run.result.now ≡ take (length c.run-run.result.now) (drop c.loop-done.done c.args.field.now.values)

read : (g : Over) (c : After-run-run g) → Read g c
read g c =
    let count : 3 * c.count.result ≡ 3 * count_of c.args.field.now.cells =
    ap (λ k. 3 * k) (c.count.ensures.value ∙ ap count_of c.cells-cells.ensures.value) in
    let below = subst (λ k. c.loop-done.done < k) count c.loop-done-test.true in
    let at = c.loop-done.invariant.place.number below in
    let within = c.loop-done.invariant.place.within below in
    let ensures = c.run-run.ensures in
    let run : IsRun c.args.field.now c.loop-done.place.axis (triple c.loop-done.place.inner) c.run-run.result.now =
    record { some = ensures.some; inside = ensures.inside; values = ensures.values } in
    record { at = at; within = within; run = run; part = run_is c.args.field.now _ _ _ _ c.cells-cells.ensures.shape at within run }

pub returns-in_err-put_run-clause-bytes : goal.returns-in_err-put_run-clause-bytes
unfolding values_bytes
returns-in_err-put_run-clause-bytes g c =
    let exit = err_from_is_err_and c.from_residual.result c.from_residual.ensures.1 in
    let k = read g (goal.at.returns-in_err-put_run-clause-bytes g c).After-run-run in
    let before = g.O.Sink.told c.args.out.now in
    let mid = g.O.Sink.told c.loop-done.out in
    let now = g.O.Sink.told c.put_run.new.out in
    rw (exit.1) (record {
      answer = cut_of_part i128_bytes c.args.field.now.values c.run-run.result.now c.loop-done.done before mid now c.args.room.now c.loop-done.room
          k.part c.loop-done.invariant.queued c.in_err-put_run.ensures.bytes.answer;
    })

pub loop-done-init : goal.loop-done-init
loop-done-init g c = record {
  place = first_place c.args.field.now.cells _ _ c.first-place.ensures.axis c.first-place.ensures.inner;
  inside = omega arith;
  queued = search rules;
  calm = search rules;
}

pub loop-done-preserved : goal.loop-done-preserved
unfolding values_bytes
loop-done-preserved g c =
    let k = read g (goal.at.loop-done-preserved g c).After-run-run in
    let f = c.args.field.now in
    let run = c.run-run.result.now in
    let done = c.loop-done.done in
    let shape = c.cells-cells.ensures.shape in
    let size = c.numbers-size.ensures.value ∙ c.cells-cells.ensures.value in
    let behind = c.behind_run-place.ensures in
    let before = g.O.Sink.told c.args.out.now in
    let mid = g.O.Sink.told c.loop-done.out in
    let now = g.O.Sink.told c.put_run.new.out in
    let next = c.in_ok-put_run.ensures in
    record {
      place = run_behind f _ _ done run shape k.at k.within k.run _ _ _ size behind.within behind.number;
      inside = run_fits f _ _ done run shape k.at k.within k.run;
      queued = queued_part i128_bytes f.values run done before mid now c.args.room.now c.loop-done.room c.put_run.new.room k.part
          c.loop-done.invariant.queued next.bytes.answer;
      calm = next.cause.ok ∙ c.loop-done.invariant.calm;
    }

pub returns-clause-bytes : goal.returns-clause-bytes
unfolding values_bytes
returns-clause-bytes g c =
    let values = c.args.field.now.values in
    let count : 3 * c.count.result ≡ 3 * count_of c.args.field.now.cells =
    ap (λ k. 3 * k) (c.count.ensures.value ∙ ap count_of c.cells-cells.ensures.value) in
    let all : c.loop-done.done ≡ length values =
    omega (arith, count, c.cells-cells.ensures.shape, c.loop-done-test.false, c.loop-done.invariant.inside) in
    let whole = ap (λ i. take i values) all ∙ take-length values in
    record {
      answer = subst (λ vs. Queued (g.O.Sink.told c.args.out.now) (g.O.Sink.told c.loop-done.out) c.args.room.now c.loop-done.room (flat_map i128_bytes vs))
          whole c.loop-done.invariant.queued;
    }
