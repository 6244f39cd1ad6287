-- The dump of a run, carried on to more steps: its header with these steps, the frames that the longer run has of
-- them, and the state of the last one, from which the run goes on as the longer run.
use Rattle.std.proofs.Common.{◌≡◌, ℕ, ◌+◌, ◌-◌, ◌≤◌, Bool, true, false, cond, List, [], ◌∷◌, ◌++◌, length, map, filter, All, suc, Result, Ok}
use Rattle.std.proofs.Common.{refl, sym, ap, ◌∙◌, arith}
use Rattle.std.proofs.lemmas.List.{get_or_push, length_push, map-append}
use Rattle.std.proofs.lemmas.List.Elements.{All-filter}
use Rattle.pic_num.specs.Limits.{most_steps}
use Rattle.pic_num.specs.Space.{triple}
use Rattle.pic_grid.specs.Tiles.{AreTiles}
use Rattle.pic_energy.specs.Line.{frame_line}
use Rattle.pic_header.specs.Header.{HeaderView, IsHeader, with_steps}
use Rattle.pic_header.specs.HeaderText.{header_bytes}
use Rattle.pic_record.specs.Due.{is_due}
use Rattle.pic_record.specs.FrameFields.{FrameView}
use Rattle.pic_record.specs.Layout.{LayoutView, layout_of}
use Rattle.pic_walk.specs.Walk.{Walked, ◌>>=◌}
use Rattle.pic_deck.specs.declared.refusal.Refusal.{Refusal}
use Rattle.pic_deck.specs.Reading.{as_read}
use Rattle.pic_deck.specs.Tiles.{tiles_fit}
use Rattle.pic_deck.proofs.TileLaws.{tiles_that_fit, steps_that_fit}
use Rattle.pic_resume.specs.Carry.{GoesOn, Kept, asked, kept_frames, kept_piece, kept_pieces, no_frame, last_frame}
use Rattle.pic_resume.specs.Carry.{under_header, unless_refused, carry_kept, kept_by, carry_dump, carry_of}
use Rattle.pic_states.specs.declared.output.Output.TheVariants.{Dump}
use Rattle.pic_states.specs.FrameStates.{frame_in, world_in}
use Rattle.pic_states.specs.Frames.{frame_piece, due_states, frames_of, frames_behind, end_of_run}
use Rattle.pic_report.specs.Outcome.{out_text}
use Rattle.pic_states.specs.StatesOutcome.{states_outcome, dump_outcome}
use Rattle.pic_on_dump.specs.Resume.{resumed_state, behind_outcome, resume_of}
use Rattle.pic_states.proofs.FrameLaws.{end_joined}
use Rattle.pic_step.specs.SerialStep.{World}
use Rattle.pic_verify.specs.Verified.{Verdict}
use Rattle.pic_run_laws.proofs.StateFits.{IsGoodState, StopsFit, of_after, loops_after, stands}
use Rattle.pic_run_laws.proofs.GoodFrames.{frame_text}
use Rattle.pic_run_laws.proofs.KeptStates.{due_in, IsLast, resumed_states, last_of}
use Rattle.pic_run_laws.proofs.RunLaws.{states_good, run_read, run_verdict}

-- the frames that are kept are those of the states that are
kept_where : (b : Bool) (w : World) (fs : List FrameView) (ws : List World) → fs ≡ map frame_in ws
    → cond b (frame_in w ∷ fs) fs ≡ map frame_in (cond b (w ∷ ws) ws)
kept_where true w fs ws same = ap (λ t. frame_in w ∷ t) same
kept_where false w fs ws same = same

frames_kept : (steps every : ℕ) (ws : List World) → kept_frames steps every (map frame_in ws) ≡ map frame_in (filter (due_in steps every) ws)
frames_kept steps every [] = refl
frames_kept steps every (w ∷ ws) = kept_where (is_due steps every w.step) w _ _ (frames_kept steps every ws)

-- and what is put of a frame is what the run puts of the state
pieces_are : (l : LayoutView) (ws : List World) → All (IsGoodState l) ws → map (kept_piece l) (map frame_in ws) ≡ map (frame_piece Dump) ws
unfolding frame_piece
pieces_are l [] good = refl
pieces_are l (w ∷ ws) good = λ i. record { out = sym (frame_text l w (good 0 w (omega arith)).of) i; line = frame_line w.step (frame_in w).energies }
    ∷ pieces_are l ws (λ j d below. good (suc j) d (omega (arith, below))) i

pub kept_are : (steps : ℕ) (l : LayoutView) (ws : List World) → All (IsGoodState l) ws
    → kept_pieces steps l (map frame_in ws) ≡ map (frame_piece Dump) (filter (due_in steps l.every) ws)
kept_are steps l ws good =
    ap (map (kept_piece l)) (frames_kept steps l.every ws)
    ∙ pieces_are l (filter (due_in steps l.every) ws) (All-filter (due_in steps l.every) (IsGoodState l) ws good)

-- the last frame is that of the last state
last_is : (before ws : List World) (v : World) → ws ≡ before ++ v ∷ [] → last_frame (map frame_in ws) ≡ frame_in v
last_is before ws v are =
    let frames : map frame_in ws ≡ map frame_in before ++ frame_in v ∷ [] = ap (map frame_in) are ∙ map-append frame_in before (v ∷ []) in
    let count = length_push (map frame_in before) (frame_in v) in
    ap last_frame frames ∙ get_or_push (map frame_in before) (frame_in v) no_frame _ (omega (arith, count))

-- steps and tiles that are allowed
pub asked_fits : (steps : ℕ) (tiles : List ℕ) (h : HeaderView) → h.steps ≤ steps → steps ≤ most_steps → AreTiles h.cells (triple tiles)
    → asked steps tiles h ≡ Ok tt
unfolding asked as_read ◌>>=◌
asked_fits steps tiles h longer most tiled =
    ap (λ (r : Walked (Unit {0})). as_read (r >>= (λ _. tiles_fit h.cells tiles))) (steps_that_fit h.steps steps longer most)
    ∙ ap (λ (r : Walked (Unit {0})). as_read r) (tiles_that_fit h.cells tiles tiled)

module _ (h : HeaderView) (header : IsHeader h) (w : World) (begins : w.step ≡ 0) (fit : StopsFit (layout_of h)) (start : IsGoodState (layout_of h) w)
    (loops : w.loops ≡ h.loops) (steps : ℕ) (longer : h.steps ≤ steps)
  where
    -- the states whose frames stand in the dump
    abbrev states : List World
    states = due_states h.steps h.every w 0 (h.steps + 1)

    is_last : IsLast h.steps h.every w (h.steps + 1)
    is_last = last_of h.steps h.every w begins header.limits.every_least h.steps

    -- where the run goes on
    abbrev goes_on : GoesOn
    goes_on = record { header = with_steps steps h; last = last_frame (map frame_in states) }

    state_is : resumed_state goes_on ≡ is_last.last
    state_is =
        let v = is_last.last in
        ap (world_in (with_steps steps h)) (last_is is_last.before states v is_last.states)
        ∙ stands h v (of_after (layout_of h) w start.of v.step v is_last.reached) (loops_after w v.step v is_last.reached ∙ loops)

    -- the frames that are kept, and those behind them, are those of the longer run
    frames_are : kept_pieces steps (layout_of h) (map frame_in states) ++ frames_behind Dump steps h.every is_last.last
        ≡ frames_of Dump steps h.every w
    frames_are =
        let piece = frame_piece Dump in
        let kept = filter (due_in steps h.every) states in
        let rest = due_states steps h.every is_last.last 1 (steps - is_last.last.step) in
        ap (λ t. t ++ map piece rest) (kept_are steps (layout_of h) states (states_good h header w begins fit start))
        ∙ sym (map-append piece kept rest)
        ∙ ap (map piece) (resumed_states h.steps steps h.every w begins longer is_last)

    -- and it ends as that
    end_is : end_of_run (steps - is_last.last.step) is_last.last ≡ end_of_run steps w
    end_is =
        let v = is_last.last in
        let below = is_last.below in
        sym (end_joined steps v.step (steps - v.step) w v (omega (arith, below, longer)) is_last.reached)

    run_on : behind_outcome (header_bytes (with_steps steps h)) (kept_pieces steps (layout_of h) (map frame_in states)) (with_steps steps h)
        (resumed_state goes_on)
        ≡ dump_outcome (with_steps steps h) w
    run_on =
        let head = header_bytes (with_steps steps h) in
        ap (behind_outcome head (kept_pieces steps (layout_of h) (map frame_in states)) (with_steps steps h)) state_is
        ∙ (λ i. states_outcome Dump head (frames_are i) (end_is i))

    -- what is carried of the dump
    carried : (tiles : List ℕ) → asked steps tiles h ≡ Ok tt
        → carry_of steps tiles (out_text (dump_outcome h w))
        ≡ record {
          head = header_bytes (with_steps steps h);
          kept = kept_pieces steps (layout_of h) (map frame_in states);
          answer = Ok goes_on;
        }
    unfolding carry_of
    carried tiles fits =
        let kept : Verdict → Kept = kept_by steps (layout_of h) (map frame_in states) in
        ap (carry_dump steps tiles) (run_read h header w begins fit start)
        ∙ ap (λ (v : Verdict). carry_kept steps tiles h (kept v)) (run_verdict h header w begins fit start)
        ∙ ap (λ (r : Result (Unit {0}) Refusal). unless_refused r (under_header (with_steps steps h) (kept (Ok (length (map frame_in states)))))) fits

    -- so the run, resumed, is the longer one
    pub run_resumed : (tiles : List ℕ) → asked steps tiles h ≡ Ok tt
        → resume_of (carry_of steps tiles (out_text (dump_outcome h w))) ≡ dump_outcome (with_steps steps h) w
    run_resumed tiles fits = ap resume_of (carried tiles fits) ∙ run_on
