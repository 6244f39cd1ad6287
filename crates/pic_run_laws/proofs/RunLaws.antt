-- The dump of a run is a readable one, of the frames of its due states; so it is read, and verified.
use Rattle.std.proofs.Common.{◌≡◌, ℕ, zero, suc, ◌+◌, ◌-◌, ◌<◌, IsTrue, List, ◌∷◌, ◌++◌, length, get_or, map, All, Some, Ok, sym, ap, ◌∙◌, subst, arith}
use Rattle.std.proofs.lemmas.List.{get_or-map, length-map}
use Rattle.pic_record.specs.Due.{is_due}
use Rattle.pic_header.specs.HeaderText.{header_bytes}
use Rattle.pic_record.specs.RecordText.{end_bytes}
use Rattle.pic_header.specs.Header.{HeaderView, IsHeader}
use Rattle.pic_record.proofs.DueLaws.{due_in_turn}
use Rattle.pic_record.specs.FrameFields.{FrameView}
use Rattle.pic_record.specs.Layout.{layout_of}
use Rattle.pic_states.specs.declared.output.Output.TheVariants.{Dump}
use Rattle.pic_states.specs.Frames.{frame_piece, due_states, end_of_run}
use Rattle.pic_report.specs.Outcome.{out_text}
use Rattle.pic_states.specs.StatesOutcome.{dump_outcome}
use Rattle.pic_states.proofs.FrameLaws.{after_none, states_first}
use Rattle.pic_step.specs.SerialStep.{World}
use Rattle.pic_step.specs.SerialRun.{after}
use Rattle.pic_dump.specs.InTurn.{due_step}
use Rattle.pic_record.specs.Readable.{IsReadableEnd}
use Rattle.pic_dump.specs.Readable.{dump_bytes, IsDueFrame, IsReadableDump}
use Rattle.pic_dump.specs.DumpRead.{DumpRead, read_dump}
use Rattle.pic_dump.proofs.ReadableDump.{dumps_are_read}
use Rattle.pic_verify.specs.Verified.{ObeysGauss, verdict_of, verified}
use Rattle.pic_verify.proofs.ReadableDump.{good_verdict}
use Rattle.pic_states.specs.FrameStates.{frame_in}
use Rattle.pic_run_laws.proofs.StateFits.{IsGoodState, StopsFit}
use Rattle.pic_run_laws.proofs.GoodFrames.{readable_frame, obeys_gauss, frames_text}
use Rattle.pic_run_laws.proofs.TurnsLaws.{IsTurn, Goes, goes}

module _ (h : HeaderView) (header : IsHeader h) (w : World) (begins : w.step ≡ 0) (fit : StopsFit (layout_of h)) (start : IsGoodState (layout_of h) w)
  where
    -- behind the first frame
    behind_first : Goes (layout_of h) 0 (due_states h.steps h.every w 1 h.steps) (end_of_run h.steps w)
    behind_first =
        let l = layout_of h in
        let some = header.limits.every_least in
        let first : due_step l 0 ≡ 0 = omega arith in
        let on : due_step l 0 + 1 ≡ 1 = omega (arith, first) in
        let left : h.steps - due_step l 0 ≡ h.steps = omega (arith, first) in
        let due = subst (λ n. IsTrue (is_due h.steps h.every n)) (sym first) (due_in_turn h.steps h.every some).at_once in
        let reached = subst (λ n. after w n ≡ Ok w) (sym first) (after_none w) in
        subst (λ (vs : List World). Goes l 0 vs (end_of_run h.steps w)) (λ i. due_states h.steps h.every w (on i) (left i))
        (goes l w some header.limits.steps_most begins fit start h.steps 0 w (omega (arith, first)) due reached)

    -- the states whose frames the run puts
    abbrev pub states : List World
    states = due_states h.steps h.every w 0 (h.steps + 1)

    states_are : states ≡ w ∷ due_states h.steps h.every w 1 h.steps
    states_are = states_first h.steps h.every w h.steps header.limits.every_least begins

    in_turn : (k : ℕ) (d : World) → k < length (w ∷ due_states h.steps h.every w 1 h.steps)
        → IsTurn (layout_of h) k (get_or (w ∷ due_states h.steps h.every w 1 h.steps) k d)
    in_turn zero d below = record { awaited = ap (λ n. Some n) (sym begins); good = start }
    in_turn (suc j) d below =
        let on : 1 + j ≡ suc j = omega arith in
        subst (λ n. IsTurn (layout_of h) n (get_or (due_states h.steps h.every w 1 h.steps) j d)) on (behind_first.each j d (omega (arith, below)))

    each_turn : (k : ℕ) (d : World) → k < length states → IsTurn (layout_of h) k (get_or states k d)
    each_turn = subst (λ (vs : List World). (k : ℕ) (d : World) → k < length vs → IsTurn (layout_of h) k (get_or vs k d)) (sym states_are) in_turn

    -- each frame is that of the state with its number
    framed : (P : ℕ → FrameView → Type 0) → ((k : ℕ) (v : World) → IsTurn (layout_of h) k v → P k (frame_in v))
        → (k : ℕ) (d : FrameView) → k < length (map frame_in states) → P k (get_or (map frame_in states) k d)
    framed P each k d below =
        let inside : k < length states = omega (arith, below, length-map states frame_in) in
        subst (P k) (sym (get_or-map frame_in states k w d inside)) (each k (get_or states k w) (each_turn k w inside))

    readable : IsReadableDump h (map frame_in states) (end_of_run h.steps w)
    readable =
        let last = length (due_states h.steps h.every w 1 h.steps) in
        let same : 0 + last ≡ last = omega arith in
        record {
          header = header;
          last = last;
          count = length-map states frame_in ∙ ap length states_are;
          in_turn = framed (IsDueFrame (layout_of h)) (λ k v turn. record { due = turn.awaited; fits = readable_frame (layout_of h) v turn.good });
          end = subst (λ n. IsReadableEnd (layout_of h) (due_step (layout_of h) n) (end_of_run h.steps w)) same behind_first.end_fits;
        }

    -- each of these states is good
    pub states_good : All (IsGoodState (layout_of h)) states
    states_good k d below = (each_turn k d below).good

    -- what the run puts on out is the dump of these frames
    pub text_is : out_text (dump_outcome h w) ≡ dump_bytes h (map frame_in states) (end_of_run h.steps w)
    text_is = ap (λ t. header_bytes h ++ t ++ end_bytes (end_of_run h.steps w)) (frames_text (layout_of h) states states_good)

    -- so it is read as them
    abbrev pub dump : DumpRead
    dump = record { header = h; frames = map frame_in states; end = Ok (end_of_run h.steps w) }

    pub run_read : read_dump (out_text (dump_outcome h w)) ≡ Ok dump
    run_read = ap read_dump text_is ∙ dumps_are_read h (map frame_in states) (end_of_run h.steps w) readable

    -- and so verified
    pub run_verdict : verdict_of (Ok dump) ≡ Ok (length (map frame_in states))
    run_verdict = good_verdict h (map frame_in states) (end_of_run h.steps w)
        (framed (λ k f. ObeysGauss (layout_of h) f) (λ k v turn. obeys_gauss (layout_of h) v turn.good))

    pub run_verified : verified (out_text (dump_outcome h w)) ≡ Ok (length (dump_outcome h w).frames)
    unfolding verified
    run_verified =
        ap verdict_of run_read
        ∙ run_verdict
        ∙ ap (λ n. Ok n) (length-map states frame_in ∙ sym (length-map states (frame_piece Dump)))
