use Rattle.std.proofs.Common.{◌≡◌, Err, sym, ap, arith}
use Rattle.pic_fields.proofs.ReadLaws.{read_then, read_done, read_same, read_up_to}
use Rattle.pic_header.specs.Header.{HeaderView}
use Rattle.pic_header.specs.HeaderText.{form_length}
use Rattle.pic_header.specs.HeaderFields.{Form, loops_at, header_of, header_at, header_length}
use Rattle.pic_header.proofs.HeadReadLaws.{head_goes_on, head_exits, head_passes_on, head_by}
use Rattle.pic_header.proofs.RunLaws.{goes_on_by, goes_then, goes_done, goes_heads, goes_loops, runs_mark, runs_front, runs_form, form_few}
use Rattle.pic_header.proofs.WithinLaws.{within_short, within_first, within_then, within_by}
use Rattle.pic_header.proofs.LessLaws.{same_read_stop, same_head_stop, less_short, less_first, less_then, less_by}
use Rattle.pic_header.proofs.LoopLaws.{loops_of_version}
use Rattle.pic_header.proofs.head_reader.read_header.Goals as goal

pub returns-in_err-version-clause-reads : goal.returns-in_err-version-clause-reads
unfolding header_at
returns-in_err-version-clause-reads g c = head_exits _ (omega arith) c.from_residual.ensures.1 c.in_err-version.ensures.reads

pub returns-in_err-front-clause-reads : goal.returns-in_err-front-clause-reads
unfolding header_at
returns-in_err-front-clause-reads g c =
    head_goes_on _ c.in_ok-version.ensures.reads.answer (head_exits _ (omega arith) c.from_residual-in_err-front.ensures.1 c.in_err-front.ensures.reads)

pub returns-in_err-form-clause-reads : goal.returns-in_err-form-clause-reads
unfolding header_at
returns-in_err-form-clause-reads g c =
    head_goes_on _ c.in_ok-version.ensures.reads.answer (head_goes_on _ c.in_ok-front.ensures.reads.answer
    (head_exits _ (omega (arith, form_few c.in_ok-version.version)) c.from_residual-in_err-form.ensures.1 c.in_err-form.ensures.reads))

pub returns-in_err-heads-clause-reads : goal.returns-in_err-heads-clause-reads
unfolding header_at
returns-in_err-heads-clause-reads g c =
    let heads = rw (c.form_length-heads_place.ensures, c.allowance_of.ensures) at c.in_err-heads.ensures.reads in
    head_goes_on _ c.in_ok-version.ensures.reads.answer (head_goes_on _ c.in_ok-front.ensures.reads.answer
    (head_goes_on _ c.in_ok-form.ensures.reads.answer (head_passes_on _ (omega (arith, form_few c.in_ok-version.version))
    c.from_residual-in_err-heads.ensures.1 heads)))

pub returns-in_err-loops-clause-reads : goal.returns-in_err-loops-clause-reads
unfolding header_at
returns-in_err-loops-clause-reads g c =
    let heads = rw (c.form_length-heads_place.ensures, c.allowance_of.ensures) at c.in_ok-heads.ensures.reads in
    let loops = rw (c.form_length-heads_place.ensures, c.as_slice.ensures.value, c.new-cells.ensures) at c.in_err-loops.ensures.reads in
    let same : loops_at _ _ ≡ loops_at c.in_ok-front.front.cells c.in_ok-form.form.loops =
    λ i. loops_at (c.front.view_is i).cells (c.form.view_is i).loops in
    let few = c.in_ok-heads.ensures.heads.few in
    let some = c.in_ok-form.ensures.loops in
    let count = ap (λ (f : Form). f.loops) c.form.view_is in
    head_goes_on _ c.in_ok-version.ensures.reads.answer (head_goes_on _ c.in_ok-front.ensures.reads.answer
    (head_goes_on _ c.in_ok-form.ensures.reads.answer (head_goes_on _ heads.answer
    (head_passes_on _ (omega (
      arith,
      form_few c.in_ok-version.version,
      few,
      some,
      count,
      loops_of_version c.in_ok-version.version,
    ))
    c.from_residual-in_err-loops.ensures.1 (head_by same loops)))))

pub returns-clause-reads : goal.returns-clause-reads
unfolding header_at
returns-clause-reads g c =
    let heads = rw (c.form_length-heads_place.ensures, c.allowance_of.ensures) at c.in_ok-heads.ensures.reads in
    let loops = rw (c.form_length-heads_place.ensures, c.as_slice.ensures.value, c.new-cells.ensures) at c.in_ok-loops.ensures.reads in
    let same : loops_at _ _ ≡ loops_at c.in_ok-front.front.cells c.in_ok-form.form.loops =
    λ i. loops_at (c.front.view_is i).cells (c.form.view_is i).loops in
    let version = c.in_ok-version.version in
    let front = c.in_ok-front.front in
    let is : c.new.result ≡ header_of version front c.in_ok-form.form c.in_ok-heads.heads.items c.in_ok-loops.loops.items =
    rw (c.new.ensures, c.new-cells.ensures, c.from_vec.ensures, c.from_vec-2.ensures)
    (λ i. header_of version (c.front.view_is i) (c.form.view_is i) c.in_ok-heads.heads.items c.in_ok-loops.loops.items) in
    let length = ap (λ (h : HeaderView). header_length h) is in
    record {
      answer = read_same (sym is) (read_up_to (omega (arith, length)) (read_then _ c.in_ok-version.ensures.reads.answer
          (read_then _ c.in_ok-front.ensures.reads.answer (read_then _ c.in_ok-form.ensures.reads.answer (read_then _ heads.answer
          (read_then _ (head_by same loops).answer (read_done _ _ _)))))));
    }

pub returns-in_err-version-clause-within : goal.returns-in_err-version-clause-within
unfolding header_at
returns-in_err-version-clause-within g c =
    within_first _ (λ version. goes_then (goes_on_by 52 (runs_front version)) (λ front. goes_then (goes_on_by _ (runs_form version))
    (λ form. goes_then (goes_heads _) (λ heads. goes_then (goes_loops _ _) (λ loops. goes_done _)))))
    (within_short 8 runs_mark (omega arith) c.in_err-version.ensures.reads.answer.moves)

pub returns-in_err-front-clause-within : goal.returns-in_err-front-clause-within
unfolding header_at
returns-in_err-front-clause-within g c =
    within_then _ c.in_ok-version.ensures.reads.answer (within_first _ (λ front. goes_then (goes_on_by _ (runs_form c.in_ok-version.version))
    (λ form. goes_then (goes_heads _) (λ heads. goes_then (goes_loops _ _) (λ loops. goes_done _)))) c.in_err-front.ensures.within)

pub returns-in_err-form-clause-within : goal.returns-in_err-form-clause-within
unfolding header_at
returns-in_err-form-clause-within g c =
    let version = c.in_ok-version.version in
    within_then _ c.in_ok-version.ensures.reads.answer (within_then _ c.in_ok-front.ensures.reads.answer
    (within_first _ (λ form. goes_then (goes_heads _) (λ heads. goes_then (goes_loops _ _) (λ loops. goes_done _)))
    (within_short (form_length version) (runs_form version) (omega (arith, form_few version)) c.in_err-form.ensures.reads.answer.moves)))

pub returns-in_err-heads-clause-within : goal.returns-in_err-heads-clause-within
unfolding header_at
returns-in_err-heads-clause-within g c =
    let heads = rw (c.form_length-heads_place.ensures, c.allowance_of.ensures) at c.in_err-heads.ensures.within in
    within_then _ c.in_ok-version.ensures.reads.answer (within_then _ c.in_ok-front.ensures.reads.answer
    (within_then _ c.in_ok-form.ensures.reads.answer (within_first _ (λ heads. goes_then (goes_loops _ _) (λ loops. goes_done _)) heads)))

pub returns-in_err-loops-clause-within : goal.returns-in_err-loops-clause-within
unfolding header_at
returns-in_err-loops-clause-within g c =
    let heads = rw (c.form_length-heads_place.ensures, c.allowance_of.ensures) at c.in_ok-heads.ensures.reads in
    let loops = rw (c.form_length-heads_place.ensures, c.as_slice.ensures.value, c.new-cells.ensures) at c.in_err-loops.ensures.within in
    let same : loops_at _ _ ≡ loops_at c.in_ok-front.front.cells c.in_ok-form.form.loops =
    λ i. loops_at (c.front.view_is i).cells (c.form.view_is i).loops in
    within_then _ c.in_ok-version.ensures.reads.answer (within_then _ c.in_ok-front.ensures.reads.answer
    (within_then _ c.in_ok-form.ensures.reads.answer (within_then _ heads.answer (within_first _ (λ loops. goes_done _) (within_by same loops)))))

pub returns-clause-within : goal.returns-clause-within
unfolding header_at
returns-clause-within g c =
    let heads = rw (c.form_length-heads_place.ensures, c.allowance_of.ensures) at c.in_ok-heads.ensures.reads in
    let loops = rw (c.form_length-heads_place.ensures, c.as_slice.ensures.value, c.new-cells.ensures) at c.in_ok-loops.ensures.within in
    let same : loops_at _ _ ≡ loops_at c.in_ok-front.front.cells c.in_ok-form.form.loops =
    λ i. loops_at (c.front.view_is i).cells (c.form.view_is i).loops in
    within_then _ c.in_ok-version.ensures.reads.answer (within_then _ c.in_ok-front.ensures.reads.answer
    (within_then _ c.in_ok-form.ensures.reads.answer (within_then _ heads.answer (within_first _ (λ loops. goes_done _) (within_by same loops)))))

pub returns-in_err-version-clause-less : goal.returns-in_err-version-clause-less
unfolding header_at
returns-in_err-version-clause-less g c = λ same.
    less_first _ (λ version. goes_then (goes_on_by 52 (runs_front version)) (λ front. goes_then (goes_on_by _ (runs_form version))
    (λ form. goes_then (goes_heads _) (λ heads. goes_then (goes_loops _ _) (λ loops. goes_done _)))))
    (less_short 8 runs_mark (omega arith) (same_read_stop c.from_residual.ensures.1 same) c.in_err-version.ensures.reads.answer)

pub returns-in_err-front-clause-less : goal.returns-in_err-front-clause-less
unfolding header_at
returns-in_err-front-clause-less g c = λ same.
    less_then _ c.in_ok-version.ensures.reads.answer (less_first _ (λ front. goes_then (goes_on_by _ (runs_form c.in_ok-version.version))
    (λ form. goes_then (goes_heads _) (λ heads. goes_then (goes_loops _ _) (λ loops. goes_done _))))
    (c.in_err-front.ensures.less (ap Err (same_read_stop c.from_residual-in_err-front.ensures.1 same))))

pub returns-in_err-form-clause-less : goal.returns-in_err-form-clause-less
unfolding header_at
returns-in_err-form-clause-less g c = λ same.
    (let version = c.in_ok-version.version in
    less_then _ c.in_ok-version.ensures.reads.answer (less_then _ c.in_ok-front.ensures.reads.answer
    (less_first _ (λ form. goes_then (goes_heads _) (λ heads. goes_then (goes_loops _ _) (λ loops. goes_done _)))
    (less_short (form_length version) (runs_form version) (omega (arith, form_few version)) (same_read_stop c.from_residual-in_err-form.ensures.1 same)
    c.in_err-form.ensures.reads.answer))))

pub returns-in_err-heads-clause-less : goal.returns-in_err-heads-clause-less
unfolding header_at
returns-in_err-heads-clause-less g c = λ same.
    (let heads = rw (c.form_length-heads_place.ensures, c.allowance_of.ensures) at c.in_err-heads.ensures.less in
    less_then _ c.in_ok-version.ensures.reads.answer (less_then _ c.in_ok-front.ensures.reads.answer
    (less_then _ c.in_ok-form.ensures.reads.answer (less_first _ (λ heads. goes_then (goes_loops _ _) (λ loops. goes_done _))
    (heads (ap Err (same_head_stop c.from_residual-in_err-heads.ensures.1 same)))))))

pub returns-in_err-loops-clause-less : goal.returns-in_err-loops-clause-less
unfolding header_at
returns-in_err-loops-clause-less g c = λ failed.
    (let heads = rw (c.form_length-heads_place.ensures, c.allowance_of.ensures) at c.in_ok-heads.ensures.reads in
    let loops = rw (c.form_length-heads_place.ensures, c.as_slice.ensures.value, c.new-cells.ensures) at c.in_err-loops.ensures.less in
    let same : loops_at _ _ ≡ loops_at c.in_ok-front.front.cells c.in_ok-form.form.loops =
    λ i. loops_at (c.front.view_is i).cells (c.form.view_is i).loops in
    less_then _ c.in_ok-version.ensures.reads.answer (less_then _ c.in_ok-front.ensures.reads.answer
    (less_then _ c.in_ok-form.ensures.reads.answer (less_then _ heads.answer (less_first _ (λ loops. goes_done _)
    (less_by same (loops (ap Err (same_head_stop c.from_residual-in_err-loops.ensures.1 failed)))))))))
