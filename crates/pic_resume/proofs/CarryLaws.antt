-- A dump carried on, once its header was put.
use Rattle.std.proofs.Common.{◌≡◌, ℕ, suc, ◌≤◌, List, [], ◌∷◌, ◌++◌, length, take, All, Some, Result, Ok, Err, IsErrAnd, inr}
use Rattle.std.proofs.Common.{sym, ap, subst, ◌∙◌, arith}
use Rattle.std.proofs.lemmas.Result.{err_from_is_err_and}
use Rattle.pic_io.specs.Told.{Told, Calm}
use Rattle.pic_io.specs.Sink.{Appended}
use Rattle.pic_io.specs.Sinks.{Sinks, sinks, Wrote, Piece, outs, lines, CutAt, QuietSinks}
use Rattle.pic_io.specs.declared.side.Side.{Side}
use Rattle.pic_io.specs.declared.side.Side.TheVariants.{Out, Report}
use Rattle.pic_io.proofs.Puts.{wrote_none, wrote_out, wrote_twice, cut_failed}
use Rattle.pic_num.specs.Space.{triple}
use Rattle.pic_grid.specs.Tiles.{AreTiles}
use Rattle.pic_grid.specs.declared.snapshot.Snapshot.{Snapshot}
use Rattle.pic_fields.specs.Reads.{HasRead}
use Rattle.pic_fields.proofs.ReadLaws.{rose_after}
use Rattle.pic_header.specs.Header.{HeaderView, with_steps}
use Rattle.pic_header.specs.HeaderFields.{header_length, header_at}
use Rattle.pic_header.specs.HeaderText.{header_bytes}
use Rattle.pic_header.proofs.WithinLaws.{told_held}
use Rattle.pic_record.specs.FrameFields.{FrameView}
use Rattle.pic_record.specs.Layout.{layout_of}
use Rattle.pic_record.specs.Readable.{IsReadableParticle}
use Rattle.pic_dump.specs.DumpRead.{dump_with, read_dump}
use Rattle.pic_dump.specs.Standing.{Standing}
use Rattle.pic_dump.specs.Upgrade.{piece_of}
use Rattle.pic_dump.specs.Whole.{Parts, parts_of, parts_in, dump_parts, TakesWhole}
use Rattle.pic_dump.proofs.TakenLaws.{stands}
use Rattle.pic_dump.proofs.WholeLaws.{whole_behind}
use Rattle.pic_resume.specs.declared.carried.Carried.{Carried}
use Rattle.pic_resume.specs.declared.carry_stop.CarryStop.{CarryStop}
use Rattle.pic_resume.specs.declared.carry_stop.CarryStop.TheVariants.{ReadFault, BadDump, Refused, Broken, WriteFault, NoMemory}
use Rattle.pic_resume.specs.Carry.{kept_pieces, GoesOn, Carry, asked, going_on, carry_of}
use Rattle.pic_resume.specs.Carries.{CanGoOn, Finds, Answered, Carries, IsExact, IsEarly}
use Rattle.pic_resume.specs.Behind.{records_behind, kept_behind, FindsBehind, AnsweredBehind, CarriesBehind}
use Rattle.pic_resume.proofs.HeadLaws.{dump_is, whole_is, front_is, carries_err}

-- the header was read and put with so many steps, which are allowed
pub record HasHeader (steps : ℕ) (tiles : List ℕ) (h new : HeaderView) (x y o p : Told) : Type 0 where
  pub read : HasRead header_at 0 x h (header_length h) y
  pub allowed : asked steps tiles h ≡ Ok tt
  pub is : new ≡ with_steps steps h
  pub put : Appended o p (header_bytes new)
  pub calm : Calm o p

header_put : (steps : ℕ) (tiles : List ℕ) (h new : HeaderView) (x y o p report : Told) → HasHeader steps tiles h new x y o p
    → Wrote (sinks o report) (sinks p report) (header_bytes (with_steps steps h)) []
header_put steps tiles h new x y o p report has =
    wrote_out o p report (header_bytes (with_steps steps h)) (subst (λ (n : HeaderView). Appended o p (header_bytes n)) has.is has.put) has.calm

-- what was found of the records behind it
finds_all : (steps : ℕ) (tiles : List ℕ) (h new : HeaderView) (x y z o p report : Told) (b : Sinks) (answer : Result FrameView CarryStop)
    → HasHeader steps tiles h new x y o p → FindsBehind steps (stands h) y z (sinks p report) b answer
    → Finds steps tiles x z (sinks o report) b (going_on (with_steps steps h) answer)
finds_all steps tiles h new x y z o p report b answer has second =
    let (held, was, reads) = has.read.reads second.held second.was in
    let same = whole_is steps tiles h held second.held reads has.allowed in
    let k = kept_behind steps (stands h) second.held in
    let a = sinks o report in
    let put = wrote_twice a (sinks p report) b (header_bytes (with_steps steps h)) [] (outs k.pieces) (lines k.pieces)
    (header_put steps tiles h new x y o p report has) second.put in
    record {
      calm = second.calm ∙ has.read.calm;
      held = held;
      was = was;
      put = subst (λ (c : Carry). Wrote a b (c.head ++ outs c.kept) (lines c.kept)) (sym same) put;
      answered = ap (λ (c : Carry). c.answer) same ∙ ap (going_on (with_steps steps h)) second.answered;
    }

-- the same frame under the new header
with_layout : (steps : ℕ) (h : HeaderView) (f : FrameView) → h.steps ≤ steps → CanGoOn (layout_of h) f → CanGoOn (layout_of (with_steps steps h)) f
with_layout steps h f more can =
    let l = layout_of (with_steps steps h) in
    let good = can.readable in
    let least = can.step in
    let particles : All (IsReadableParticle l) f.particles = λ k d below.
    (let one = good.particles k d below in
    record { axes = one.axes; place = one.place; speeds = one.speeds; velocity = one.velocity; species = one.species }) in
    record {
      step = omega (arith, least, more);
      readable = record { e = good.e; b = good.b; identities = good.identities; particles = particles; energies = good.energies };
      gauss = can.gauss;
    }

-- a run goes on
pub gives_run : (steps : ℕ) (tiles : List ℕ) (h new : HeaderView) (x y z o p report : Told) (b : Sinks) (step : ℕ) (state : Snapshot)
    → HasHeader steps tiles h new x y o p → h.steps ≤ steps → AreTiles h.cells (triple tiles)
    → AnsweredBehind steps (stands h) y z (sinks p report) b state (Ok step)
    → Answered steps tiles x z (sinks o report) b (Ok (record { header = new; step = step; last = state }))
gives_run steps tiles h new x y z o p report b step state has more tiled second =
    let holds = second.holds in
    record {
      goes = record { header = with_steps steps h; last = second.last };
      finds = finds_all steps tiles h new x y z o p report b (Ok second.last) has second.finds;
      end = second.end;
      is = record { header = has.is; last = record { step = holds.step; e = holds.e; b = holds.b; particles = holds.particles } };
      can = with_layout steps h second.last more second.can;
      tiled = tiled;
    }

-- the parts of a dump that begins with a header
parts_are : (h : HeaderView) (held rest : List ℕ) → read_dump held ≡ Ok (dump_with h (records_behind (stands h) rest))
    → parts_in held ≡ parts_of h (length (records_behind (stands h) rest).0)
parts_are h held rest is = ap dump_parts is

-- or it doesn't
pub stops_behind : (steps : ℕ) (tiles : List ℕ) (h new : HeaderView) (x y z o p report : Told) (b : Sinks) (state : Snapshot) (stop : CarryStop)
    → HasHeader steps tiles h new x y o p → AnsweredBehind steps (stands h) y z (sinks p report) b state (Err stop)
    → Answered steps tiles x z (sinks o report) b (Err stop)
stops_behind steps tiles h new x y z o p report b state ReadFault has second =
    let (held, was, reads) = has.read.reads second.held second.was in
    let a = sinks o report in
    let n = length (records_behind (stands h) second.held).0 in
    let pieces = kept_pieces steps (layout_of h) (take second.count (records_behind (stands h) second.held).0) in
    let same = front_is steps tiles h held second.held second.count reads has.allowed in
    let takes = whole_behind h n second.count x y z has.read second.takes in
    let put = wrote_twice a (sinks p report) b (header_bytes (with_steps steps h)) [] (outs pieces) (lines pieces)
    (header_put steps tiles h new x y o p report has) second.put in
    record {
      rose = rose_after x y z has.read.calm second.rose;
      held = held;
      was = was;
      whole = suc second.count;
      takes = subst (λ (ps : Parts). TakesWhole ps 0 (suc second.count) x z) (sym (parts_are h held second.held (dump_is h held second.held reads))) takes;
      put = subst (λ (c : Carry). Wrote a b (c.head ++ outs c.kept) (lines c.kept)) (sym same) put;
    }
stops_behind steps tiles h new x y z o p report b state (BadDump place cause) has second =
    finds_all steps tiles h new x y z o p report b (Err (BadDump place cause)) has second
stops_behind steps tiles h new x y z o p report b state (Broken frame at) has second =
    finds_all steps tiles h new x y z o p report b (Err (Broken frame at)) has second
stops_behind steps tiles h new x y z o p report b state (WriteFault side) has second =
    let (held, was, reads) = has.read.reads second.held second.was in
    let same = whole_is steps tiles h held second.held reads has.allowed in
    let a = sinks o report in
    record {
      calm = second.calm ∙ has.read.calm;
      held = held;
      was = was;
      cut = subst (λ (c : Carry). CutAt side a b (piece_of c.head ∷ c.kept)) (sym same)
          (inr (sinks p report, header_put steps tiles h new x y o p report has, second.cut));
    }
stops_behind steps tiles h new x y z o p report b state (Refused r) has second = absurd second
stops_behind steps tiles h new x y z o p report b state NoMemory has second = absurd second

-- an answer that the bytes decide
exact_finds : (steps : ℕ) (tiles : List ℕ) (x z : Told) (a b : Sinks) (bytes : List ℕ) (answer : Result GoesOn CarryStop) → x.bytes ≡ Some bytes
    → Finds steps tiles x z a b answer → (carry_of steps tiles bytes).answer ≡ answer
exact_finds steps tiles x z a b bytes answer told finds =
    sym (ap (λ held. (carry_of steps tiles held).answer) (told_held x.bytes bytes finds.held told finds.was)) ∙ finds.answered

exact_cut : (side : Side) (a b : Sinks) (pieces : List Piece) → QuietSinks a b → CutAt side a b pieces → ⊥
exact_cut Out a b pieces quiet cut = quiet.out (cut_failed Out a b pieces cut).0
exact_cut Report a b pieces quiet cut = quiet.report (cut_failed Report a b pieces cut).0

pub exact : (steps : ℕ) (tiles : List ℕ) (x z : Told) (a b : Sinks) (result : Result Carried CarryStop) → Carries steps tiles x z a b result
    → IsExact steps tiles x z a b result
exact steps tiles x z a b (Ok c) v bytes told quiet quiet_sinks =
    let runs = v.answer in
    (runs.goes, exact_finds steps tiles x z a b bytes (Ok runs.goes) told runs.finds, runs.is)
exact steps tiles x z a b (Err ReadFault) v bytes told quiet quiet_sinks = absurd (quiet v.answer.rose)
exact steps tiles x z a b (Err (BadDump place cause)) v bytes told quiet quiet_sinks =
    exact_finds steps tiles x z a b bytes (Err (BadDump place cause)) told v.answer
exact steps tiles x z a b (Err (Refused r)) v bytes told quiet quiet_sinks = exact_finds steps tiles x z a b bytes (Err (Refused r)) told v.answer
exact steps tiles x z a b (Err (Broken frame at)) v bytes told quiet quiet_sinks =
    exact_finds steps tiles x z a b bytes (Err (Broken frame at)) told v.answer
exact steps tiles x z a b (Err (WriteFault side)) v bytes told quiet quiet_sinks =
    let cut = v.answer in
    absurd (exact_cut side a b (piece_of (carry_of steps tiles cut.held).head ∷ (carry_of steps tiles cut.held).kept) quiet_sinks cut.cut)
exact steps tiles x z a b (Err NoMemory) v bytes told quiet quiet_sinks = tt

-- from where a reader stands behind the header
pub gives_all : (steps : ℕ) (tiles : List ℕ) (h new : HeaderView) (r : Standing) (x y z o p report : Told) (b : Sinks) (step : ℕ) (state : Snapshot)
    → HasHeader steps tiles h new x y o p → h.steps ≤ steps → AreTiles h.cells (triple tiles) → r ≡ stands h
    → CarriesBehind steps r y z (sinks p report) b state (Ok step)
    → Carries steps tiles x z (sinks o report) b (Ok (record { header = new; step = step; last = state }))
gives_all steps tiles h new r x y z o p report b step state has more tiled at second =
    let there = rw at at second in
    record { answer = gives_run steps tiles h new x y z o p report b step state has more tiled there.answer }

pub stops_all : (steps : ℕ) (tiles : List ℕ) (h new : HeaderView) (r : Standing) (x y z o p report : Told) (b : Sinks) (state : Snapshot) (stop : CarryStop)
    (result : Result Carried CarryStop)
    → IsErrAnd result (λ u. u ≡ stop) → HasHeader steps tiles h new x y o p → r ≡ stands h → CarriesBehind steps r y z (sinks p report) b state (Err stop)
    → Carries steps tiles x z (sinks o report) b result
stops_all steps tiles h new r x y z o p report b state stop result is has at second =
    let there = rw at at second in
    carries_err steps tiles x z (sinks o report) b stop result is (stops_behind steps tiles h new x y z o p report b state stop has there.answer)

-- what stops behind the header isn't early
late_stop : (steps : ℕ) (r : Standing) (y z : Told) (a b : Sinks) (state : Snapshot) (stop : CarryStop) → AnsweredBehind steps r y z a b state (Err stop)
    → IsEarly (Err stop) → ⊥
late_stop steps r y z a b state ReadFault second early = early
late_stop steps r y z a b state (BadDump place cause) second early = early
late_stop steps r y z a b state (Broken frame at) second early = early
late_stop steps r y z a b state (WriteFault side) second early = early
late_stop steps r y z a b state (Refused refusal) second early = second
late_stop steps r y z a b state NoMemory second early = second

pub isnt_early : (steps : ℕ) (r : Standing) (y z : Told) (a b : Sinks) (state : Snapshot) (stop : CarryStop) (result : Result Carried CarryStop)
    → IsErrAnd result (λ u. u ≡ stop) → CarriesBehind steps r y z a b state (Err stop) → IsEarly result → ⊥
isnt_early steps r y z a b state stop result is second early =
    let q = err_from_is_err_and result is in
    late_stop steps r y z a b state stop second.answer (subst IsEarly (q.1 ∙ ap (λ u. Err u) q.2) early)

-- want of memory behind the header
pub starves : (steps : ℕ) (tiles : List ℕ) (h : HeaderView) (x y : Told) (a : Sinks) (result : Result Carried CarryStop)
    → IsErrAnd result (λ u. u ≡ NoMemory) → HasRead header_at 0 x h (header_length h) y → Carries steps tiles x y a a result
starves steps tiles h x y a result is first = carries_err steps tiles x y a a NoMemory result is (record { calm = first.calm; put = wrote_none a })
