-- The records of a dump, read and put one after another.
use Rattle.std.proofs.Common.{◌≡◌, ◌≢◌, ℕ, suc, ◌+◌, ◌<◌, ◌≤◌, List, [], ◌∷◌, ◌++◌, length, take, None, Ok, Err, IsErrAnd}
use Rattle.std.proofs.Common.{refl, sym, ap, subst, ◌∙◌, arith, append_assoc, append-nil, length-append}
use Rattle.std.proofs.Math.Seq.{take-append_seam}
use Rattle.std.proofs.lemmas.Grind.{flat_map-append}
use Rattle.std.proofs.lemmas.List.{map-append, length-map}
use Rattle.std.proofs.lemmas.Result.{err_from_is_err_and}
use Rattle.pic_io.specs.Told.{Told, Rose, Calm}
use Rattle.pic_io.specs.Sink.{Appended, AppendedFront}
use Rattle.pic_io.specs.Sinks.{sinks, Wrote, Piece, outs, lines, CutAt}
use Rattle.pic_io.specs.declared.side.Side.TheVariants.{Out}
use Rattle.pic_io.proofs.Puts.{appended_none, appended_twice, cut_later, cut_out}
use Rattle.pic_num.specs.declared.motion.Particle.{Particle}
use Rattle.pic_grid.specs.declared.stop.EndMark.{EndMark}
use Rattle.pic_grid.specs.Lattice.{Field}
use Rattle.pic_energy.specs.declared.amounts.Energies.{Energies}
use Rattle.pic_fields.specs.Parser.{input, fault}
use Rattle.pic_fields.specs.Reads.{HasReadAll, Stops}
use Rattle.pic_fields.specs.declared.read_stop.ReadStop.{ReadStop}
use Rattle.pic_fields.specs.declared.read_stop.ReadStop.TheVariants as read
use Rattle.pic_fields.proofs.ReadLaws.{some_rest, rose_after, moves_then, moves_up, then_size}
use Rattle.pic_record.specs.Due.{due_after}
use Rattle.pic_record.specs.FrameFields.{FrameView, frame_of, frame_length}
use Rattle.pic_record.specs.Layout.{LayoutView}
use Rattle.pic_record.specs.Records.{AFrame, AnEnd, record_at}
use Rattle.pic_record.specs.RecordText.{frame_bytes, state_bytes, end_bytes}
use Rattle.pic_record.specs.Spelling.{record_bytes}
use Rattle.pic_dump.specs.DumpRead.{RecordsRead, read_on}
use Rattle.pic_dump.specs.InTurn.{step_before}
use Rattle.pic_dump.specs.NextReads.{HasFrame, most_of, record_most}
use Rattle.pic_dump.specs.Standing.{Standing}
use Rattle.pic_dump.specs.Allowed.{records_length}
use Rattle.pic_dump.specs.Upgrade.{Answer, Upgrade, piece_of, frame_pieces, end_pieces, upgrade_records, upgrade_behind, UpgradesBehind, Answered}
use Rattle.pic_dump.specs.Whole.{Parts, most_at, place_behind, frame_parts, TakesWhole}
use Rattle.pic_dump.proofs.AllowedLaws.{Went, went_more, last_fits}
use Rattle.pic_dump.proofs.TextLaws.{frame_some, end_some}
use Rattle.pic_dump.specs.UpgradeStops.{stop_of_read}
use Rattle.pic_dump.specs.declared.upgrade_stop.UpgradeStop.TheVariants.{WriteFault, NoMemory}
use Rattle.pic_dump.proofs.ReadOnLaws.{with_frames, records_of, HasReadOn, on_none, on_frame, on_end, on_fault}

-- the text of a frame is that of its values
pub same_text : (l : LayoutView) (step : ℕ) (e b : Field) (particles : List Particle) (energies : Energies)
    → frame_bytes step e b particles energies ≡ record_bytes l (AFrame (frame_of step e.values b.values particles energies))
unfolding frame_bytes state_bytes
same_text l step e b particles energies = refl

-- the pieces of frames have no line, are as many, and those of frames in two parts are those of both
none_lines : (l : LayoutView) (frames : List FrameView) → lines (frame_pieces l frames) ≡ []
none_lines l [] = refl
none_lines l (f ∷ frames) = none_lines l frames

pieces_count : (l : LayoutView) (frames : List FrameView) → length (frame_pieces l frames) ≡ length frames
pieces_count l frames = length-map frames (λ (f : FrameView). piece_of (record_bytes l (AFrame f)))

pieces_split : (l : LayoutView) (frames others : List FrameView) (rest : List Piece)
    → frame_pieces l (frames ++ others) ++ rest ≡ frame_pieces l frames ++ (frame_pieces l others ++ rest)
pieces_split l frames others rest =
    ap (λ ps. ps ++ rest) (map-append (λ (f : FrameView). piece_of (record_bytes l (AFrame f))) frames others)
    ∙ append_assoc (frame_pieces l frames) (frame_pieces l others) rest

outs_split : (ps qs : List Piece) → outs (ps ++ qs) ≡ outs ps ++ outs qs
outs_split ps qs = flat_map-append (λ (p : Piece). p.out) ps qs

-- a piece behind others
pub outs_more : (ps : List Piece) (text : List ℕ) → outs (ps ++ piece_of text ∷ []) ≡ outs ps ++ text
outs_more ps text = outs_split ps (piece_of text ∷ []) ∙ ap (λ t. outs ps ++ t) (append-nil text)

-- k frames were read and put, after which the reader stands here
pub record Follows (r : Standing) (before out : Told) (k : ℕ) (here : Standing) (now out' : Told) : Type 0 where
  pub frames : List FrameView
  pub count : length frames ≡ k
  pub on : HasReadOn r before frames here now
  pub least : 1 ≤ r.layout.every
  pub went : Went r.layout (length frames) here.last
  pub put : Appended out out' (outs (frame_pieces r.layout frames))
  pub calm : Calm out out'

pub follows_none : (r : Standing) (before out : Told) → r.last ≡ None → 1 ≤ r.layout.every → Follows r before out 0 r before out
follows_none r before out start least = record {
  frames = [];
  count = refl;
  on = on_none r before start;
  least = least;
  went = rw start refl;
  put = appended_none out;
  calm = refl;
}

-- a frame more was put
pub follows_frame : (r : Standing) (before out y z o p : Told) (k : ℕ) (here behind : Standing) (e b : Field) (particles : List Particle) (step : ℕ)
    (energies : Energies)
    → Follows r before out k here y o → HasFrame here y z e b particles behind step energies → Appended o p (frame_bytes step e b particles energies) → Calm o p
    → Follows r before out (k + 1) behind z p
follows_frame r before out y z o p k here behind e b particles step energies so_far has put calm =
    let l = r.layout in
    let f = frame_of step e.values b.values particles energies in
    let text = record_bytes l (AFrame f) in
    let pieces = frame_pieces l so_far.frames in
    let here_put = subst (Appended o p) (same_text l step e b particles energies) put in
    let spelled : FrameView → Piece = λ g. piece_of (record_bytes l (AFrame g)) in
    let due = ap (λ (m : LayoutView). due_after m.steps m.every here.last) (sym so_far.on.layout) ∙ has.due in
    let size = length-append so_far.frames (f ∷ []) in
    let went = went_more l (length so_far.frames) here.last step so_far.least so_far.went due in
    let more : outs pieces ++ text ≡ outs (frame_pieces l (so_far.frames ++ f ∷ [])) = sym (ap outs (map-append spelled so_far.frames (f ∷ []))
    ∙ outs_more pieces text) in
    record {
      frames = so_far.frames ++ f ∷ [];
      count = size ∙ ap (λ n. n + 1) so_far.count;
      on = on_frame r before y z so_far.frames here behind e b particles step energies so_far.on has;
      least = so_far.least;
      went = rw (has.last, size) went;
      put = subst (Appended out p) more (appended_twice out o p (outs pieces) text so_far.put here_put);
      calm = calm ∙ so_far.calm;
    }

-- how far the next record is read
ends_at : (r : Standing) (before y : Told) (frames : List FrameView) (here : Standing) → HasReadOn r before frames here y
    → here.place + record_most here ≡ place_behind r.layout r.place (length frames) + most_at r.layout (length frames)
ends_at r before y frames here on =
    let l = r.layout in
    let most : record_most here ≡ most_of l (due_after l.steps l.every (step_before l (length frames))) =
    (λ i. most_of (on.layout i) (due_after (on.layout i).steps (on.layout i).every (on.last i))) in
    omega (arith, most, on.place)

-- and that the header allows it, and a byte
record_fits : (r : Standing) (before out : Told) (k : ℕ) (here : Standing) (y o : Told) (so_far : Follows r before out k here y o)
    → here.place + record_most here ≤ r.place + (records_length r.layout + 1)
record_fits r before out k here y o so_far = last_fits r here (length so_far.frames) so_far.on.layout so_far.on.place so_far.least so_far.went

-- what is put of these records
pieces_are : (r : Standing) (held : List ℕ) (records : RecordsRead) → records_of r held ≡ records
    → upgrade_behind r held ≡ upgrade_records r.layout r.place records
unfolding upgrade_behind
pieces_are r held records is = ap (upgrade_records r.layout r.place) is

-- the frames on out are written, whatever another sink holds
wrote_frames : (l : LayoutView) (frames : List FrameView) (o p report : Told) → Appended o p (outs (frame_pieces l frames)) → Calm o p
    → Wrote (sinks o report) (sinks p report) (outs (frame_pieces l frames)) (lines (frame_pieces l frames))
wrote_frames l frames o p report put calm = record {
  out = put;
  report = subst (Appended report report) (sym (none_lines l frames)) (appended_none report);
  calm_out = calm;
  calm_report = refl;
}

-- a put failed behind them
cut_behind : (l : LayoutView) (frames : List FrameView) (text : List ℕ) (rest pieces : List Piece) (out o p report : Told)
    → pieces ≡ frame_pieces l frames ++ piece_of text ∷ rest → 0 < length text → Appended out o (outs (frame_pieces l frames)) → Calm out o
    → AppendedFront o p text → Rose o p → CutAt Out (sinks out report) (sinks p report) pieces
cut_behind l frames text rest pieces out o p report is some put calm front rose =
    subst (CutAt Out (sinks out report) (sinks p report)) (sym is)
    (cut_later Out (sinks out report) (sinks o report) (sinks p report) (frame_pieces l frames) (piece_of text ∷ rest)
    (wrote_frames l frames out o report put calm) (cut_out o p report (piece_of text) rest some front rose))

-- the put of a frame failed
pub cuts_frame : (r : Standing) (before out y z o p : Told) (k : ℕ) (here behind : Standing) (e b : Field) (particles : List Particle) (step : ℕ)
    (energies : Energies) (result : Answer)
    → IsErrAnd result (λ u. u ≡ WriteFault) → Follows r before out k here y o → HasFrame here y z e b particles behind step energies
    → AppendedFront o p (frame_bytes step e b particles energies) → Rose o p → UpgradesBehind r before z out p result
unfolding upgrade_behind
cuts_frame r before out y z o p k here behind e b particles step energies result stop so_far has front rose =
    let l = r.layout in
    let f = frame_of step e.values b.values particles energies in
    let text = record_bytes l (AFrame f) in
    let frames = so_far.frames in
    let on = on_frame r before y z frames here behind e b particles step energies so_far.on has in
    let (rest, left) = some_rest z in
    let (held, was, is) = on.follows rest left in
    let more = read_on (suc on.n) l behind.last (input behind.place rest) in
    let others = frame_pieces l more.0 ++ end_pieces more.1 in
    let found = ap (λ (u : Upgrade). u.pieces) (pieces_are r held (with_frames (frames ++ f ∷ []) more) is) in
    let pieces : (upgrade_behind r held).pieces ≡ frame_pieces l frames ++ piece_of text ∷ others = found
    ∙ ap (λ fs. frame_pieces l fs ++ end_pieces more.1) (append_assoc frames (f ∷ []) more.0)
    ∙ pieces_split l frames (f ∷ more.0) (end_pieces more.1) in
    let parts = ap (λ (u : Upgrade). u.parts.count) (pieces_are r held (with_frames (frames ++ f ∷ []) more) is) in
    let many = length-append (frames ++ f ∷ []) more.0 in
    let whole : record_most here ≡ 1 + frame_length here.layout = ap (most_of here.layout) has.due in
    let fits = record_fits r before out k here y o so_far in
    let here_front = subst (AppendedFront o p) (same_text l step e b particles energies) front in
    let some = subst (λ t. 0 < length t) (same_text l step e b particles energies) (frame_some step e b particles energies) in
    let q = err_from_is_err_and result stop in
    let one : UpgradesBehind r before z out p (Err WriteFault) = record {
      moves = moves_up (omega (arith, fits, whole, has.place)) on.moves;
      answer = record {
        calm = on.calm;
        held = held;
        was = was;
        cut = λ report. cut_behind l frames text others (upgrade_behind r held).pieces out o p report pieces some so_far.put so_far.calm here_front rose;
        last = length frames;
        few = omega (arith, parts, many, length-append frames (f ∷ []));
        moves = moves_up (omega (arith, whole, has.place, ends_at r before y frames here so_far.on)) on.moves;
      };
      no_memory = λ wanted. absurd cc;
    } in
    rw (q.1, q.2) one

-- the end record was put
pub ends_records : (r : Standing) (before out y z o p : Told) (k : ℕ) (here : Standing) (mark : EndMark)
    → Follows r before out k here y o → HasReadAll (record_at here.layout here.last) here.place (here.place + record_most here) y (AnEnd mark) z
    → Appended o p (end_bytes mark) → Calm o p → UpgradesBehind r before z out p (Ok k)
unfolding upgrade_behind
ends_records r before out y z o p k here mark so_far has put calm =
    let l = r.layout in
    let frames = so_far.frames in
    let (held, was, is) = on_end r before y z frames here (here.place + record_most here) mark so_far.on has in
    let same = pieces_are r held (frames, Ok mark) is in
    let text : outs (frame_pieces l frames) ++ end_bytes mark ≡ outs (upgrade_behind r held).pieces = sym (ap (λ (u : Upgrade). outs u.pieces) same
    ∙ outs_more (frame_pieces l frames) (end_bytes mark)) in
    let end : (upgrade_behind r held).parts.end (upgrade_behind r held).parts.count ≡ here.place + record_most here =
    ap (λ (u : Upgrade). u.parts.end u.parts.count) same ∙ sym (ends_at r before y frames here so_far.on) in
    let taken = moves_then so_far.on.moves has.moves in
    record {
      moves = moves_up (record_fits r before out k here y o so_far) taken;
      answer = (
        record {
          calm = has.calm ∙ so_far.on.calm;
          calm_out = calm ∙ so_far.calm;
          held = held;
          was = was;
          put = subst (Appended out p) text (appended_twice out o p (outs (frame_pieces l frames)) (end_bytes mark) so_far.put put);
          answered = ap (λ (u : Upgrade). u.answer) same ∙ ap (λ n. Ok n) so_far.count;
          moves = moves_up (omega (arith, end)) taken;
        },
        has.end,
      );
      no_memory = λ wanted. absurd cc;
    }

-- the put of the end record failed
pub cuts_end : (r : Standing) (before out y z o p : Told) (k : ℕ) (here : Standing) (mark : EndMark) (result : Answer)
    → IsErrAnd result (λ u. u ≡ WriteFault) → Follows r before out k here y o
    → HasReadAll (record_at here.layout here.last) here.place (here.place + record_most here) y (AnEnd mark) z
    → AppendedFront o p (end_bytes mark) → Rose o p → UpgradesBehind r before z out p result
unfolding upgrade_behind
cuts_end r before out y z o p k here mark result stop so_far has front rose =
    let l = r.layout in
    let frames = so_far.frames in
    let (held, was, is) = on_end r before y z frames here (here.place + record_most here) mark so_far.on has in
    let pieces = ap (λ (u : Upgrade). u.pieces) (pieces_are r held (frames, Ok mark) is) in
    let q = err_from_is_err_and result stop in
    let parts = ap (λ (u : Upgrade). u.parts.count) (pieces_are r held (frames, Ok mark) is) in
    let taken = moves_then so_far.on.moves has.moves in
    let one : UpgradesBehind r before z out p (Err WriteFault) = record {
      moves = moves_up (record_fits r before out k here y o so_far) taken;
      answer = record {
        calm = has.calm ∙ so_far.on.calm;
        held = held;
        was = was;
        cut = λ report. cut_behind l frames (end_bytes mark) [] (upgrade_behind r held).pieces out o p report pieces (end_some mark) so_far.put so_far.calm
            front rose;
        last = length frames;
        few = omega (arith, parts);
        moves = moves_up (omega (arith, ends_at r before y frames here so_far.on)) taken;
      };
      no_memory = λ wanted. absurd cc;
    } in
    rw (q.1, q.2) one

-- a read of the next record failed: these frames are whole
frames_whole : (r : Standing) (before y z : Told) (frames : List FrameView) (here : Standing) (on : HasReadOn r before frames here y)
    → Stops (record_at here.layout here.last) here.place (here.place + record_most here) y z read.ReadFault → (parts : Parts)
    → (n : ℕ) → parts ≡ frame_parts r.layout r.place (length frames + n) → TakesWhole parts r.place (length frames) before z
frames_whole r before y z frames here on stops parts n is =
    let taken = moves_then on.moves stops.moves in
    let size = then_size on.moves stops.moves in
    let part = stops.less refl in
    let all : TakesWhole (frame_parts r.layout r.place (length frames + n)) r.place (length frames) before z = record {
      front = taken.front;
      moved = taken.moved;
      exact = record {
        few = omega arith;
        ended = omega (arith, size, on.whole, on.place);
        next = omega (arith, size, on.whole, part, ends_at r before y frames here on);
      };
    } in
    subst (λ p. TakesWhole p r.place (length frames) before z) (sym is) all

-- reading the next record stopped
stops_answer : (r : Standing) (before out y z o : Told) (k : ℕ) (here : Standing) (stop : ReadStop)
    → Follows r before out k here y o → Stops (record_at here.layout here.last) here.place (here.place + record_most here) y z stop
    → Answered (upgrade_behind r) r.place before z out o (Err (stop_of_read stop))
unfolding upgrade_behind
stops_answer r before out y z o k here read.ReadFault so_far stops =
    let l = r.layout in
    let frames = so_far.frames in
    let on = so_far.on in
    let (rest, left) = some_rest y in
    let (held, was, is) = on.follows rest left in
    let more = read_on (suc on.n) l here.last (input here.place rest) in
    let ps = frame_pieces l frames in
    let others = frame_pieces l more.0 ++ end_pieces more.1 in
    let same = pieces_are r held (with_frames frames more) is in
    let pieces : (upgrade_behind r held).pieces ≡ ps ++ others = ap (λ (u : Upgrade). u.pieces) same ∙ pieces_split l frames more.0 (end_pieces more.1) in
    let front : outs ps ≡ outs (take (length frames) (upgrade_behind r held).pieces) = sym (ap (λ n. outs (take n (upgrade_behind r held).pieces))
    (sym (pieces_count l frames))
    ∙ ap (λ qs. outs (take (length ps) qs)) pieces
    ∙ ap outs (take-append_seam ps others)) in
    let parts : (upgrade_behind r held).parts ≡ frame_parts l r.place (length frames + length more.0) = ap (λ (u : Upgrade). u.parts) same
    ∙ ap (frame_parts l r.place) (length-append frames more.0) in
    record {
      rose = rose_after before y z on.calm stops.why;
      calm_out = so_far.calm;
      held = held;
      was = was;
      whole = length frames;
      put = subst (Appended out o) front so_far.put;
      takes = frames_whole r before y z frames here on stops (upgrade_behind r held).parts (length more.0) parts;
    }
stops_answer r before out y z o k here (read.BadDump place cause) so_far stops =
    let l = r.layout in
    let frames = so_far.frames in
    let fails = stops.why in
    let (held, was, is) = on_fault r before y z frames here (fault place cause) so_far.on fails in
    let same = pieces_are r held (frames, Err (fault place cause)) is in
    let text : outs (frame_pieces l frames) ≡ outs (upgrade_behind r held).pieces = sym (ap (λ (u : Upgrade). outs u.pieces) same
    ∙ ap outs (append-nil (frame_pieces l frames))) in
    let end : (upgrade_behind r held).parts.end (upgrade_behind r held).parts.count ≡ here.place + record_most here =
    ap (λ (u : Upgrade). u.parts.end u.parts.count) same ∙ sym (ends_at r before y frames here so_far.on) in
    record {
      calm = fails.calm ∙ so_far.on.calm;
      calm_out = so_far.calm;
      held = held;
      was = was;
      put = subst (Appended out o) text so_far.put;
      answered = ap (λ (u : Upgrade). u.answer) same;
      moves = moves_up (omega (arith, end)) (moves_then so_far.on.moves stops.moves);
    }

stops_fed : (stop : ReadStop) (result : Answer) → result ≡ Err (stop_of_read stop) → result ≢ Err NoMemory
stops_fed read.ReadFault result is = λ wanted. absurd cc
stops_fed (read.BadDump place cause) result is = λ wanted. absurd cc

pub stops_records : (r : Standing) (before out y z o : Told) (k : ℕ) (here : Standing) (stop : ReadStop) (result : Answer)
    → IsErrAnd result (λ u. u ≡ stop_of_read stop) → Follows r before out k here y o
    → Stops (record_at here.layout here.last) here.place (here.place + record_most here) y z stop → UpgradesBehind r before z out o result
stops_records r before out y z o k here stop result is so_far stops =
    let q = err_from_is_err_and result is in
    rw (q.1, q.2) (record {
      moves = moves_up (record_fits r before out k here y o so_far) (moves_then so_far.on.moves stops.moves);
      answer = stops_answer r before out y z o k here stop so_far stops;
      no_memory = stops_fed stop (Err (stop_of_read stop)) refl;
    })
