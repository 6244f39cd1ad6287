use Rattle.std.proofs.Common.{◌≡◌, ℕ, List, Result, ◌-◌, ap, sym, ◌∙◌, subst, arith}
use Rattle.pic_num.specs.declared.motion.Kind.{Kind}
use Rattle.pic_grid.specs.Species.{HeadView, IsName}
use Rattle.pic_io.specs.Told.{Told}
use Rattle.pic_fields.specs.declared.read_stop.ReadStop.{ReadStop}
use Rattle.pic_fields.specs.Number.{within}
use Rattle.pic_fields.specs.Reads.{Reads, as_it_is}
use Rattle.pic_fields.proofs.ReadLaws.{moves_then, moves_up, read_then, read_done, read_same, read_up_to}
use Rattle.pic_header.specs.HeaderFields.{head_at, out_of_limits}
use Rattle.pic_header.proofs.NameLaws.{name_from, new_from}
use Rattle.pic_header.proofs.HeadReadLaws.{head_goes_on, head_exits, head_starves}
use Rattle.pic_header.proofs.RunLaws.{goes_on_by, goes_then, goes_done, runs_within, runs_kind, runs_name}
use Rattle.pic_header.proofs.WithinLaws.{within_short, within_first, within_then, within_done}
use Rattle.pic_header.proofs.LessLaws.{same_read_stop, was_fed, less_short, less_first, less_then}
use Rattle.pic_header.proofs.head_reader.read_head.Goals as goal

-- a species of these parts
abbrev head : List ℕ → Kind → ℕ → HeadView
head name kind count = record { name = name; kind = kind; count = count }

-- the particles so far, by the species before
so_many : (most n m : ℕ) → n ≡ m → {s e : ℕ} {x z : Told} {r : Result ℕ ReadStop} → Reads as_it_is (within out_of_limits 0 (most - n)) s e x z r
    → Reads as_it_is (within out_of_limits 0 (most - m)) s e x z r
so_many most n m is {s} {e} {x} {z} {r} h = subst (λ k. Reads as_it_is (within out_of_limits 0 (most - k)) s e x z r) is h

pub returns-in_err-name-clause-reads : goal.returns-in_err-name-clause-reads
unfolding head_at
returns-in_err-name-clause-reads g c = head_exits _ (omega arith) c.from_residual.ensures.1 c.in_err-name.ensures.reads

pub returns-in_err-kind-clause-reads : goal.returns-in_err-kind-clause-reads
unfolding head_at
returns-in_err-kind-clause-reads g c =
    head_goes_on _ c.in_ok-name.ensures.reads.answer (head_exits _ (omega arith) c.from_residual-in_err-kind.ensures.1 c.in_err-kind.ensures.reads)

pub returns-in_err-count-clause-reads : goal.returns-in_err-count-clause-reads
unfolding head_at
returns-in_err-count-clause-reads g c =
    head_goes_on _ c.in_ok-name.ensures.reads.answer (head_goes_on _ c.in_ok-kind.ensures.reads.answer
    (head_exits _ (omega arith) c.from_residual-in_err-count.ensures.1 (so_many _ _ _ c.requires.count c.in_err-count.ensures.reads)))

pub returns-in_err-head-clause-reads : goal.returns-in_err-head-clause-reads
returns-in_err-head-clause-reads g c =
    head_starves _ c.from_residual-in_err-head.ensures.1
    (c.in_ok-count.ensures.reads.answer.calm ∙ (c.in_ok-kind.ensures.reads.answer.calm ∙ c.in_ok-name.ensures.reads.answer.calm))
    (moves_up (omega arith) (moves_then c.in_ok-name.ensures.reads.answer.moves (moves_then c.in_ok-kind.ensures.reads.answer.moves
    c.in_ok-count.ensures.reads.answer.moves)))

pub returns-clause-reads : goal.returns-clause-reads
unfolding head_at
returns-clause-reads g c =
    let is = c.in_ok-head.ensures ∙ ap (λ (name : List ℕ). head name c.in_ok-kind.kind c.in_ok-count.count) c.bytes.ensures in
    record {
      answer = read_same (sym is) (read_up_to (omega arith) (read_then _ c.in_ok-name.ensures.reads.answer
          (read_then _ c.in_ok-kind.ensures.reads.answer (read_then _ (so_many _ _ _ c.requires.count c.in_ok-count.ensures.reads).answer (read_done _ _ _)))));
    }

pub returns-clause-new : goal.returns-clause-new
returns-clause-new g c =
    let is = c.in_ok-head.ensures ∙ ap (λ (name : List ℕ). head name c.in_ok-kind.kind c.in_ok-count.count) c.bytes.ensures in
    let (bytes, test, size, same) = c.in_ok-name.ensures.new in
    let (good, free) = new_from c.args.earlier.now bytes test in
    rw is (record {
      name = subst IsName (sym same) (name_from bytes size good);
      kind = c.in_ok-kind.ensures.limits;
      differs = λ i below equal. free i below (equal ∙ same);
      total = omega (arith, c.requires.count, c.requires.most, c.in_ok-count.ensures.high);
    })

pub returns-in_err-name-clause-within : goal.returns-in_err-name-clause-within
unfolding head_at
returns-in_err-name-clause-within g c =
    within_first _ (λ name. goes_then (goes_on_by 24 runs_kind) (λ kind. goes_then (goes_on_by 4 (runs_within _ _ _)) (λ count. goes_done _)))
    (within_short 32 (runs_name _) (omega arith) c.in_err-name.ensures.reads.answer.moves)

pub returns-in_err-kind-clause-within : goal.returns-in_err-kind-clause-within
unfolding head_at
returns-in_err-kind-clause-within g c =
    within_then _ c.in_ok-name.ensures.reads.answer (within_first _ (λ kind. goes_then (goes_on_by 4 (runs_within _ _ _)) (λ count. goes_done _))
    (within_short 24 runs_kind (omega arith) c.in_err-kind.ensures.reads.answer.moves))

pub returns-in_err-count-clause-within : goal.returns-in_err-count-clause-within
unfolding head_at
returns-in_err-count-clause-within g c =
    within_then _ c.in_ok-name.ensures.reads.answer (within_then _ c.in_ok-kind.ensures.reads.answer (within_first _ (λ count. goes_done _)
    (within_short 4 (runs_within _ _ _) (omega arith) c.in_err-count.ensures.reads.answer.moves)))

pub returns-in_err-head-clause-within : goal.returns-in_err-head-clause-within
unfolding head_at
returns-in_err-head-clause-within g c =
    within_then _ c.in_ok-name.ensures.reads.answer (within_then _ c.in_ok-kind.ensures.reads.answer
    (within_then _ (so_many _ _ _ c.requires.count c.in_ok-count.ensures.reads).answer (within_done _ _ _)))

pub returns-clause-within : goal.returns-clause-within
unfolding head_at
returns-clause-within g c =
    within_then _ c.in_ok-name.ensures.reads.answer (within_then _ c.in_ok-kind.ensures.reads.answer
    (within_then _ (so_many _ _ _ c.requires.count c.in_ok-count.ensures.reads).answer (within_done _ _ _)))

pub returns-in_err-name-clause-less : goal.returns-in_err-name-clause-less
unfolding head_at
returns-in_err-name-clause-less g c = λ same.
    less_first _ (λ name. goes_then (goes_on_by 24 runs_kind) (λ kind. goes_then (goes_on_by 4 (runs_within _ _ _)) (λ count. goes_done _)))
    (less_short 32 (runs_name _) (omega arith) (same_read_stop c.from_residual.ensures.1 same) c.in_err-name.ensures.reads.answer)

pub returns-in_err-kind-clause-less : goal.returns-in_err-kind-clause-less
unfolding head_at
returns-in_err-kind-clause-less g c = λ same.
    less_then _ c.in_ok-name.ensures.reads.answer (less_first _ (λ kind. goes_then (goes_on_by 4 (runs_within _ _ _)) (λ count. goes_done _))
    (less_short 24 runs_kind (omega arith) (same_read_stop c.from_residual-in_err-kind.ensures.1 same) c.in_err-kind.ensures.reads.answer))

pub returns-in_err-count-clause-less : goal.returns-in_err-count-clause-less
unfolding head_at
returns-in_err-count-clause-less g c = λ same.
    less_then _ c.in_ok-name.ensures.reads.answer (less_then _ c.in_ok-kind.ensures.reads.answer (less_first _ (λ count. goes_done _)
    (less_short 4 (runs_within _ _ _) (omega arith) (same_read_stop c.from_residual-in_err-count.ensures.1 same)
    (so_many _ _ _ c.requires.count c.in_err-count.ensures.reads).answer)))

pub returns-in_err-head-clause-less : goal.returns-in_err-head-clause-less
returns-in_err-head-clause-less g c = λ same. absurd (was_fed c.from_residual-in_err-head.ensures.1 same)
