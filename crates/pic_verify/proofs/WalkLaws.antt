-- The verdict after so many good frames is that of what follows them.
use Rattle.std.proofs.Common.{◌≡◌, ◌≢◌, ℕ, suc, ◌+◌, ◌*◌, ◌≤◌, List, [], ◌∷◌, ◌++◌, length, Option, Some, None, Result}
use Rattle.std.proofs.Common.{Ok, Err, IsErrAnd, refl, sym, ap, ◌∙◌, arith, add-one, append-nil, length-append}
use Rattle.std.proofs.lemmas.Result.{err_from_is_err_and}
use Rattle.pic_io.specs.Told.{Told}
use Rattle.pic_num.specs.declared.motion.Particle.{Particle}
use Rattle.pic_grid.specs.declared.stop.EndMark.{EndMark}
use Rattle.pic_grid.specs.Lattice.{Field}
use Rattle.pic_energy.specs.declared.amounts.Energies.{Energies}
use Rattle.pic_charge.specs.declared.breaks.Break.{Break}
use Rattle.pic_fields.specs.Parser.{Input, input, Fault, fault, Parsed}
use Rattle.pic_fields.specs.Reads.{HasReadAll, Stops}
use Rattle.pic_fields.specs.declared.read_stop.ReadStop.{ReadStop}
use Rattle.pic_fields.specs.declared.read_stop.ReadStop.TheVariants as read
use Rattle.pic_fields.proofs.ReadLaws.{some_rest, rose_after, moves_then, moves_up}
use Rattle.pic_record.specs.Layout.{LayoutView}
use Rattle.pic_record.specs.FrameFields.{FrameView, frame_of, frame_length}
use Rattle.pic_record.specs.Records.{AFrame, AnEnd, record_at}
use Rattle.pic_header.specs.Header.{HeaderView}
use Rattle.pic_dump.specs.DumpRead.{RecordsRead, with_frame, read_on, of_header}
use Rattle.pic_dump.specs.InTurn.{step_before}
use Rattle.pic_dump.specs.Standing.{Standing}
use Rattle.pic_dump.specs.NextReads.{HasFrame, record_most}
use Rattle.pic_record.specs.Due.{due_after}
use Rattle.pic_dump.proofs.ReadOnLaws.{read_on_frame, read_on_end, read_on_fault, with_frames, records_of}
use Rattle.pic_dump.proofs.ReadOnLaws.{HasReadOn, more_frames, on_none, on_frame, on_end, on_fault}
use Rattle.pic_dump.specs.Allowed.{records_length}
use Rattle.pic_dump.proofs.AllowedLaws.{Went, went_more, frames_fit, last_fits}
use Rattle.pic_verify.specs.declared.verify_stop.VerifyStop.TheVariants.{BadDump, Broken, NoMemory}
use Rattle.pic_verify.specs.Stops.{stop_of_read}
use Rattle.pic_verify.specs.Verified.{Verdict, break_of, unless_broken, at_end, verdict_behind, verdict_of, walked}
use Rattle.pic_verify.specs.Verifies.{Finds, Answered, Walks}

-- the verdict on a dump by its header
abbrev pub verdict_by : Parsed HeaderView → Verdict
verdict_by r = verdict_of (of_header r)

-- the verdict on records behind k good frames
abbrev verdict_at : LayoutView → ℕ → RecordsRead → Verdict
verdict_at l k r = verdict_behind l k r.0 r.1

-- a record of each kind
pub walked_frame : (n : ℕ) (l : LayoutView) (k : ℕ) (last : Option ℕ) (i j : Input) (f : FrameView) → record_at l last i ≡ Ok (AFrame f, j)
    → walked (suc n) l k last i ≡ unless_broken k (break_of l f.e f.particles) (walked n l (suc k) (Some f.step) j)
unfolding walked
walked_frame n l k last i j f is = ap (verdict_at l k) (read_on_frame n l last i j f is)

pub walked_end : (n : ℕ) (l : LayoutView) (k : ℕ) (last : Option ℕ) (i j : Input) (mark : EndMark) → record_at l last i ≡ Ok (AnEnd mark, j)
    → walked (suc n) l k last i ≡ Ok k
unfolding walked
walked_end n l k last i j mark is = ap (verdict_at l k) (read_on_end n l last i j mark is)

pub walked_fault : (n : ℕ) (l : LayoutView) (k : ℕ) (last : Option ℕ) (i : Input) (f : Fault) → record_at l last i ≡ Err f
    → walked (suc n) l k last i ≡ Err (BadDump f.place f.cause)
unfolding walked
walked_fault n l k last i f is = ap (verdict_at l k) (read_on_fault n l last i f is)

-- the verdict on all that was left where a reader stood before any frame
abbrev pub on_records : Standing → List ℕ → Verdict
on_records r held = walked (r.layout.steps + 2) r.layout 0 None (input r.place held)

-- k good frames were read, after which a reader stands here
pub record Follows (r : Standing) (before : Told) (k : ℕ) (here : Standing) (now : Told) : Type 0 where
  pub frames : List FrameView
  pub count : length frames ≡ k
  pub on : HasReadOn r before frames here now
  pub least : 1 ≤ r.layout.every
  pub went : Went r.layout k here.last
  pub good : (rest : RecordsRead) → verdict_at r.layout 0 (with_frames frames rest) ≡ verdict_at r.layout k rest

pub place_of : (r : Standing) (before : Told) (k : ℕ) (here : Standing) (now : Told) (so_far : Follows r before k here now)
    → here.place ≡ r.place + k * (1 + frame_length r.layout)
place_of r before k here now so_far = so_far.on.place ∙ ap (λ n. r.place + n * (1 + frame_length r.layout)) so_far.count

pub last_of : (r : Standing) (before : Told) (k : ℕ) (here : Standing) (now : Told) (so_far : Follows r before k here now) → here.last ≡ step_before r.layout k
last_of r before k here now so_far = so_far.on.last ∙ ap (step_before r.layout) so_far.count

-- where reading begins
unfoldable pub follows_none : (r : Standing) (before : Told) → r.last ≡ None → 1 ≤ r.layout.every → Follows r before 0 r before
follows_none r before start least = record {
  frames = [];
  count = refl;
  on = on_none r before start;
  least = least;
  went = rw start refl;
  good = λ rest. refl;
}

-- the frame that was read is due
pub due_here : (r : Standing) (before y z : Told) (k : ℕ) (here behind : Standing) (e b : Field) (particles : List Particle) (step : ℕ) (energies : Energies)
    → Follows r before k here y → HasFrame here y z e b particles behind step energies → due_after r.layout.steps r.layout.every here.last ≡ Some step
due_here r before y z k here behind e b particles step energies so_far has =
    ap (λ (m : LayoutView). due_after m.steps m.every here.last) (sym so_far.on.layout) ∙ has.due

-- the verdict behind a frame, by its break
pub by_break : (r : Standing) (before y : Told) (k : ℕ) (here : Standing) (so_far : Follows r before k here y) (f : FrameView) (rest : RecordsRead)
    → verdict_at r.layout 0 (with_frames (so_far.frames ++ f ∷ []) rest)
    ≡ unless_broken k (break_of r.layout f.e f.particles) (verdict_at r.layout (suc k) rest)
by_break r before y k here so_far f rest =
    ap (verdict_at r.layout 0) (sym (more_frames so_far.frames f rest)) ∙ so_far.good (with_frame f rest)

-- a good frame
unfoldable pub follows_frame : (r : Standing) (before y z : Told) (k : ℕ) (here behind : Standing) (e b : Field) (particles : List Particle) (step : ℕ)
    (energies : Energies)
    → Follows r before k here y → HasFrame here y z e b particles behind step energies → break_of r.layout e.values particles ≡ None
    → Follows r before (k + 1) behind z
follows_frame r before y z k here behind e b particles step energies so_far has none =
    let l = r.layout in
    let f = frame_of step e.values b.values particles energies in
    let went = went_more l k here.last step so_far.least so_far.went (due_here r before y z k here behind e b particles step energies so_far has) in
    record {
      frames = so_far.frames ++ f ∷ [];
      count = length-append so_far.frames (f ∷ []) ∙ ap (λ n. n + 1) so_far.count;
      on = on_frame r before y z so_far.frames here behind e b particles step energies so_far.on has;
      least = so_far.least;
      went = rw has.last went;
      good = λ rest.
          by_break r before y k here so_far f rest
          ∙ ap (λ o. unless_broken k o (verdict_at l (suc k) rest)) none
          ∙ ap (λ n. verdict_at l n rest) (sym (add-one k));
    }

-- the record where a reader stands ends within what the header allows, and a byte
record_ends : (r : Standing) (before y : Told) (k : ℕ) (here : Standing) (so_far : Follows r before k here y)
    → here.place + record_most here ≤ r.place + (records_length r.layout + 1)
record_ends r before y k here so_far = last_fits r here k so_far.on.layout (place_of r before k here y so_far) so_far.least so_far.went

-- the verdict on what was read
found : (r : Standing) (held : List ℕ) (records : RecordsRead) → records_of r held ≡ records → on_records r held ≡ verdict_at r.layout 0 records
unfolding walked
found r held records is = ap (verdict_at r.layout 0) is

-- and at the end of it
pub at_last : (r : Standing) (before y : Told) (k : ℕ) (here : Standing) (so_far : Follows r before k here y) (end : Result EndMark Fault)
    → verdict_at r.layout 0 (so_far.frames, end) ≡ at_end k end
at_last r before y k here so_far end =
    ap (λ (fs : List FrameView). verdict_behind r.layout 0 fs end) (sym (append-nil so_far.frames)) ∙ so_far.good ([], end)

-- a frame with a break
pub breaks_frame : (r : Standing) (before y z : Told) (k : ℕ) (here behind : Standing) (e b : Field) (particles : List Particle) (step : ℕ)
    (energies : Energies) (at : Break)
    → Follows r before k here y → HasFrame here y z e b particles behind step energies → break_of r.layout e.values particles ≡ Some at
    → Walks r before z (Err (Broken k at))
breaks_frame r before y z k here behind e b particles step energies at so_far has some =
    let l = r.layout in
    let f = frame_of step e.values b.values particles energies in
    let on = on_frame r before y z so_far.frames here behind e b particles step energies so_far.on has in
    let (rest, left) = some_rest z in
    let (held, was, is) = on.follows rest left in
    let records = read_on (suc on.n) l behind.last (input behind.place rest) in
    let due = due_here r before y z k here behind e b particles step energies so_far has in
    let fits = frames_fit l (k + 1) (Some step) so_far.least (went_more l k here.last step so_far.least so_far.went due) in
    let length_is : frame_length here.layout ≡ frame_length l = ap frame_length so_far.on.layout in
    let one_more : (k + 1) * (1 + frame_length l) ≡ k * (1 + frame_length l) + (1 + frame_length l) = omega arith in
    let place = place_of r before k here y so_far in
    let end : behind.place ≡ r.place + (k + 1) * (1 + frame_length l) = omega (arith, place, has.place, length_is, one_more) in
    record {
      moves = moves_up (omega (arith, fits, end)) on.moves;
      answer = record {
        calm = on.calm;
        held = held;
        was = was;
        verdict = found r held _ is ∙ by_break r before y k here so_far f records ∙ ap (λ o. unless_broken k o (verdict_at l (suc k) records)) some;
      };
      no_memory = λ wanted. absurd cc;
    }

-- the end record
pub ends_records : (r : Standing) (before y z : Told) (k : ℕ) (here : Standing) (mark : EndMark)
    → Follows r before k here y → HasReadAll (record_at here.layout here.last) here.place (here.place + record_most here) y (AnEnd mark) z
    → Walks r before z (Ok k)
ends_records r before y z k here mark so_far has =
    let (held, was, is) = on_end r before y z so_far.frames here (here.place + record_most here) mark so_far.on has in
    let verdict : Finds (on_records r) before z (Ok k) = record {
      calm = has.calm ∙ so_far.on.calm;
      held = held;
      was = was;
      verdict = found r held _ is ∙ at_last r before y k here so_far (Ok mark);
    } in
    record {
      moves = moves_up (record_ends r before y k here so_far) (moves_then so_far.on.moves has.moves);
      answer = (verdict, has.end);
      no_memory = λ wanted. absurd cc;
    }

stops_answer : (r : Standing) (before y z : Told) (k : ℕ) (here : Standing) (stop : ReadStop)
    → Follows r before k here y → Stops (record_at here.layout here.last) here.place (here.place + record_most here) y z stop
    → Answered (on_records r) before z (Err (stop_of_read stop))
stops_answer r before y z k here read.ReadFault so_far stops = rose_after before y z so_far.on.calm stops.why
stops_answer r before y z k here (read.BadDump place cause) so_far stops =
    let fails = stops.why in
    let (held, was, is) = on_fault r before y z so_far.frames here (fault place cause) so_far.on fails in
    record {
      calm = fails.calm ∙ so_far.on.calm;
      held = held;
      was = was;
      verdict = found r held _ is ∙ at_last r before y k here so_far
          (Err (fault place cause));
    }

-- reading a record wants no memory
stops_fed : (stop : ReadStop) (result : Verdict) → result ≡ Err (stop_of_read stop) → result ≢ Err NoMemory
stops_fed read.ReadFault result is = λ wanted. absurd cc
stops_fed (read.BadDump place cause) result is = λ wanted. absurd cc

-- the first fault, or a read that failed
pub stops_records : (r : Standing) (before y z : Told) (k : ℕ) (here : Standing) (stop : ReadStop) (result : Verdict)
    → IsErrAnd result (λ u. u ≡ stop_of_read stop) → Follows r before k here y
    → Stops (record_at here.layout here.last) here.place (here.place + record_most here) y z stop → Walks r before z result
stops_records r before y z k here stop result is so_far stops =
    let q = err_from_is_err_and result is in
    rw (q.1, q.2) (record {
      moves = moves_up (record_ends r before y k here so_far) (moves_then so_far.on.moves stops.moves);
      answer = stops_answer r before y z k here stop so_far stops;
      no_memory = stops_fed stop (Err (stop_of_read stop)) refl;
    })
