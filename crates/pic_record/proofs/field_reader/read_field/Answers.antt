use Rattle.std.proofs.Common.{◌≡◌, ◌+◌, ◌*◌, ◌≤◌, ◌++◌, length, get_or, take, refl, sym, ap, ◌∙◌, subst, arith}
use Rattle.std.proofs.lemmas.Result.{IfOk-from_err}
use Rattle.std.proofs.lemmas.List.{length-take-le}
use Rattle.std.proofs.Math.Seq.{take-length}
use Rattle.pic_block.specs.Cells.{count_of}
use Rattle.pic_block.specs.Block.{overwritten}
use Rattle.pic_grid.proofs.WholeLaws.{length-overwritten}
use Rattle.pic_fields.specs.Parser.{each}
use Rattle.pic_fields.specs.Reads.{always, HasRead}
use Rattle.pic_fields.proofs.ReadLaws.{read_same, read_up_to}
use Rattle.pic_fields.proofs.EachLaws.{read_none}
use Rattle.pic_fields.proofs.BehindLaws.{read_behind, exits_behind}
use Rattle.pic_record.specs.Firsts.{FirstAre}
use Rattle.pic_record.specs.FrameFields.{IsModerate, value_at, field_at}
use Rattle.pic_record.proofs.FrameLaws.{bounded_from}
use Rattle.pic_record.proofs.PartLaws.{first_with_piece, taken_with_piece}
use Rattle.pic_record.proofs.field_reader.read_field.Goals as goal

pub loop-first-init : goal.loop-first-init
loop-first-init g c = record {
  read = read_up_to (omega arith) (read_none (value_at c.args.by) c.args.place _);
  all = ap (λ n. 3 * n) (c.count.ensures.value ∙ ap count_of c.cells.ensures.value);
  most = omega arith;
  cells = refl;
  side = refl;
  parts = refl;
  length = refl;
  moderate = λ k d below. absurd (omega (arith, below));
}

pub returns-in_err-read_piece_of_values-clause-reads : goal.returns-in_err-read_piece_of_values-clause-reads
unfolding field_at value_at
returns-in_err-read_piece_of_values-clause-reads g c =
    let so_far = c.loop-first.invariant in
    let first = c.loop-first.first in
    let count = c.min-count.result in
    let n = 3 * count_of c.args.field.now.cells in
    let fits : first + count ≤ n = omega (arith, so_far.all, so_far.most, c.min-count.ensures) in
    let many : length (take count c.loop-first.values) ≡ count = length-take-le count c.loop-first.values (omega (arith, c.min-count.ensures, c.min-count.array_long)) in
    exits_behind (value_at c.args.by) first count n {view = always c.read_piece_of_values.new.values} c.from_residual.ensures.1
    fits (omega (arith, fits)) so_far.read (rw (c.new-measure.ensures, many) at c.in_err-read_piece_of_values.ensures.reads)

pub loop-first-preserved : goal.loop-first-preserved
unfolding value_at
loop-first-preserved g c =
    let so_far = c.loop-first.invariant in
    let by = c.args.by in
    let first = c.loop-first.first in
    let count = c.min-count.result in
    let old = c.loop-first.field.values in
    let vs = c.read_piece_of_values.new.values in
    let new = c.set_places.new.self.values in
    let many : length (take count c.loop-first.values) ≡ count = length-take-le count c.loop-first.values (omega (arith, c.min-count.ensures, c.min-count.array_long)) in
    let piece = rw (c.new-measure.ensures, many) at c.in_ok-read_piece_of_values.ensures in
    let few : first + count ≤ length old = omega (arith, so_far.length, c.cells.ensures.shape, so_far.all, so_far.most, c.min-count.ensures) in
    let long : length vs ≡ count = c.read_piece_of_values.auto.values ∙ many in
    let room : first ≤ length old = omega (arith, few) in
    let is : new ≡ overwritten first vs old = ap (λ f. f.values) c.set_places.ensures in
    let all : take first old ++ vs ≡ take (first + count) new =
    taken_with_piece first vs old room ∙ ap (λ n. take (first + n) (overwritten first vs old)) long ∙ ap (take (first + count)) (sym is) in
    let moderate : FirstAre (IsModerate by) (first + length vs) (overwritten first vs old) =
    first_with_piece (IsModerate by) first vs old room so_far.moderate
    (λ k d below. piece.moderate k d (omega (arith, below, long))) in
    record {
      read = read_up_to {a = take (first + count) new} (omega arith) (read_same all (read_behind (value_at by) first count so_far.read piece.reads.answer));
      all = so_far.all;
      most = omega (arith, so_far.most, c.min-count.ensures);
      cells = ap (λ f. f.cells) c.set_places.ensures ∙ so_far.cells;
      side = ap (λ f. f.side) c.set_places.ensures ∙ so_far.side;
      parts = ap (λ f. f.parts) c.set_places.ensures ∙ so_far.parts;
      length = ap length is ∙ length-overwritten first vs old (omega (arith, few, long)) ∙ so_far.length;
      moderate = λ k d below. subst (λ xs. IsModerate by (get_or xs k d)) (sym is) (moderate k d (omega (arith, below, long)));
    }

pub returns-clause-reads : goal.returns-clause-reads
unfolding field_at
returns-clause-reads g c =
    let so_far = c.loop-first.invariant in
    let i = c.loop-first.first in
    let vs = c.loop-first.field.values in
    let n = 3 * count_of c.args.field.now.cells in
    let all : i ≡ n = omega (arith, so_far.all, so_far.most, c.loop-first-test.false) in
    let whole : take i vs ≡ vs = ap (λ m. take m vs) (all ∙ sym (so_far.length ∙ c.cells.ensures.shape)) ∙ take-length vs in
    let before = g.S.Source.told c.args.source.now in
    let now = g.S.Source.told c.loop-first.source in
    record {
      answer = read_same whole (subst (λ m. HasRead (each m (value_at c.args.by)) c.args.place before (take i vs) (c.args.place + 16 * m) now) all
          so_far.read);
    }

pub returns-clause-bounds : goal.returns-clause-bounds
returns-clause-bounds g c =
    let so_far = c.loop-first.invariant in
    let f = c.loop-first.field in
    let shape : length f.values ≡ 3 * count_of f.cells = so_far.length ∙ c.cells.ensures.shape ∙ ap (λ n. 3 * count_of n) (sym so_far.cells) in
    bounded_from c.args.by f shape
    (λ k d below. so_far.moderate k d (omega (arith, below, so_far.length, c.cells.ensures.shape, so_far.all, so_far.most, c.loop-first-test.false)))

pub returns-in_err-read_piece_of_values-clause-bounds : goal.returns-in_err-read_piece_of_values-clause-bounds
returns-in_err-read_piece_of_values-clause-bounds g c = IfOk-from_err _ _ c.from_residual.ensures.0
