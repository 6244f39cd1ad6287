-- The frames of a run, one after another: those of its states that are due.
use Rattle.std.proofs.Common.{◌≡◌, ℕ, zero, suc, ◌+◌, ◌-◌, ◌%◌, ◌<◌, ◌≤◌, ◌==◌, ◌||◌, Bool, true, false, if◌then◌else◌, Result, List, [], ◌∷◌, ◌++◌, length}
use Rattle.std.proofs.Common.{take, map, Ok, Err, refl, sym, ap, ◌∙◌, subst, arith, append-nil, zero-add, length-append}
use Rattle.std.specs.Prelude.{codes}
use Rattle.std.specs.List.{flat_map, range_with_len, join_by}
use Rattle.std.proofs.lemmas.Bool.{eq-eqb}
use Rattle.std.proofs.lemmas.Grind.{flat_map-append}
use Rattle.std.proofs.lemmas.List.{map-append, length-map}
use Rattle.std.proofs.Math.Nat.{zero-mod}
use Rattle.std.proofs.Math.Seq.{take-append_seam}
use Rattle.pic_io.specs.declared.side.Side.{Side}
use Rattle.pic_io.specs.Told.{Told, Calm}
use Rattle.pic_io.specs.Sink.{Appended}
use Rattle.pic_io.specs.Sinks.{Sinks, sinks, Wrote, Writes, Piece, outs, lines, CutAt}
use Rattle.pic_io.proofs.Puts.{wrote_out, wrote_twice, cut_more, cut_later}
use Rattle.pic_grid.specs.declared.stop.EndMark.{EndMark}
use Rattle.pic_grid.specs.declared.stop.EndMark.TheVariants.{Done, Stopped}
use Rattle.pic_grid.specs.declared.stop.Stop.{Stop}
use Rattle.pic_grid.specs.Lattice.{value_at}
use Rattle.pic_devices.specs.declared.probes.Probes.{Probes}
use Rattle.pic_probe.specs.ProbeLine.{columns, probe_line}
use Rattle.pic_step.specs.SerialStep.{World, e_of, b_of, stepped}
use Rattle.pic_step.specs.SerialRun.{after, step_from, stopped_in}
use Rattle.pic_step.proofs.AfterLaws.{after_plus, step_after, after_stays}
use Rattle.pic_record.specs.Due.{is_due}
use Rattle.pic_report.specs.declared.ended.Ended.TheVariants as ended
use Rattle.pic_states.specs.declared.output.Output.{Output}
use Rattle.pic_states.specs.declared.output.Output.TheVariants.{Probe}
use Rattle.pic_states.specs.Frames.{frame_piece, due_state, due_states, frames_of, frames_behind, end_where, end_of_run, DueStatesJoin, EndsJoin}
use Rattle.pic_report.specs.Outcome.{answer_of}
use Rattle.pic_report.specs.Leaves.{HasFrames}
use Rattle.pic_states.specs.Runs.{WroteFrames}
use Rattle.pic_states.proofs.StateLaws.{stops_by_stop}

-- numbers, in two parts
range_split : (a m k n j : ℕ) → m + k ≡ n → a + m ≡ j → range_with_len a n ≡ range_with_len a m ++ range_with_len j k
range_split a zero k n j count from =
    let same : n ≡ k = omega (arith, count) in
    let at : a ≡ j = omega (arith, from) in
    λ i. range_with_len (at i) (same i)
range_split a (suc m) k n j count from =
    let more : n ≡ suc (m + k) = omega (arith, count) in
    ap (range_with_len a) more ∙ ap (λ t. a ∷ t) (range_split (a + 1) m k (m + k) j refl (omega (arith, from)))

-- the states that are due, in two parts
pub states_split : (steps every : ℕ) (w : World) (a m k n j : ℕ) → m + k ≡ n → a + m ≡ j
    → due_states steps every w a n ≡ due_states steps every w a m ++ due_states steps every w j k
unfolding due_states
states_split steps every w a m k n j count from =
    let here : ℕ → List World = λ i. due_state steps every (after w i) in
    ap (flat_map here) (range_split a m k n j count from) ∙ flat_map-append here (range_with_len a m) (range_with_len j k)

pub states_one : (steps every : ℕ) (w : World) (j : ℕ) → due_states steps every w j 1 ≡ due_state steps every (after w j)
unfolding due_states
states_one steps every w j = append-nil (due_state steps every (after w j))

-- one state more, where it is due
states_more : (steps every : ℕ) (w v : World) (n : ℕ) → after w (n + 1) ≡ Ok v
    → due_states steps every w 1 (n + 1) ≡ due_states steps every w 1 n ++ due_state steps every (Ok v)
states_more steps every w v n reached =
    states_split steps every w 1 n 1 (n + 1) (n + 1) refl (omega arith)
    ∙ ap (λ t. due_states steps every w 1 n ++ t) (states_one steps every w (n + 1) ∙ ap (due_state steps every) reached)

pub due_now : (steps every : ℕ) (w : World) → is_due steps every w.step ≡ true → due_state steps every (Ok w) ≡ w ∷ []
due_now steps every w due = ap (λ (d : Bool). if d then w ∷ [] else []) due

-- those from a state of the run on are those of the run
pub states_from : (steps every : ℕ) (w v : World) (m first count : ℕ) → after w m ≡ Ok v
    → due_states steps every v first count ≡ due_states steps every w (m + first) count
unfolding due_states
states_from steps every w v m first zero reached = refl
states_from steps every w v m first (suc count) reached =
    let next : m + (first + 1) ≡ m + first + 1 = omega arith in
    (λ i. due_state steps every (sym (after_plus w v m first reached) i) ++ states_from steps every w v m (first + 1) count reached i)
    ∙ ap (λ j. due_state steps every (after w (m + first)) ++ due_states steps every w j count) next

-- the states of a run up to one of them, and those that lead on from it, are those of the whole run
pub states_joined : DueStatesJoin
states_joined steps every m k w v all reached =
    ap (λ t. due_states steps every w 0 (m + 1) ++ t) (states_from steps every w v m 1 k reached)
    ∙ sym (states_split steps every w 0 (m + 1) k (steps + 1) (m + 1) (omega (arith, all)) (zero-add (m + 1)))

-- and it ends as they do
pub end_joined : EndsJoin
unfolding end_of_run
end_joined steps m k w v all reached = ap (λ n. end_where (after w n)) (sym all) ∙ ap end_where (after_plus w v m k reached)

-- no step was done yet
pub after_none : (w : World) → after w 0 ≡ Ok w
unfolding after
after_none w = refl

-- the states of a run: one step further, and after a stop
pub after_step : (w v v' : World) (n : ℕ) → after w n ≡ Ok v → stepped v ≡ Ok v' → after w (n + 1) ≡ Ok v'
unfolding after
after_step w v v' n reached steps =
    let next : suc n ≡ n + 1 = omega arith in
    subst (λ (k : ℕ). after w k ≡ Ok v') next (ap step_from reached ∙ ap (stopped_in (suc v.step)) steps)

pub after_stop : (w v : World) (stop : Stop) (n : ℕ) → after w n ≡ Ok v → stepped v ≡ Err stop → after w (n + 1) ≡ Err (Stopped (v.step + 1) stop)
unfolding after
after_stop w v stop n reached stops =
    let next : suc n ≡ n + 1 = omega arith in
    let number : suc v.step ≡ v.step + 1 = omega arith in
    subst (λ (k : ℕ). after w k ≡ Err (Stopped (v.step + 1) stop)) next
    (ap step_from reached ∙ ap (stopped_in (suc v.step)) stops ∙ ap (λ (s : ℕ). Err (Stopped s stop)) number)

-- no frame is due after a stop
pub none_due : (steps every : ℕ) (w : World) (end : EndMark) (first count : ℕ) → after w first ≡ Err end → due_states steps every w first count ≡ []
unfolding due_states
none_due steps every w end first zero stopped = refl
none_due steps every w end first (suc count) stopped =
    ap (λ r. due_state steps every r ++ due_states steps every w (first + 1) count) stopped
    ∙ none_due steps every w end (first + 1) count (after_stays w end first 1 stopped)

end_done : (steps : ℕ) (w v : World) → after w steps ≡ Ok v → Done v.step ≡ end_of_run steps w
unfolding end_of_run
end_done steps w v reached = sym (ap end_where reached)

pub end_stopped : (steps : ℕ) (w : World) (end : EndMark) (m : ℕ) → m ≤ steps → after w m ≡ Err end → end ≡ end_of_run steps w
unfolding end_of_run
end_stopped steps w end m most stopped =
    let all : m + (steps - m) ≡ steps = omega (arith, most) in
    sym (ap (λ n. end_where (after w n)) (sym all) ∙ ap end_where (after_stays w end m (steps - m) stopped))

-- the pieces of these states were written
abbrev pub WroteStates : Output → Sinks → Sinks → List World → Type 0
WroteStates output a b ws = Wrote a b (outs (map (frame_piece output) ws)) (lines (map (frame_piece output) ws))

-- some of them were written, and then others
states_wrote : (output : Output) (a b c : Sinks) (vs ws : List World) → WroteStates output a b vs → WroteStates output b c ws
    → WroteStates output a c (vs ++ ws)
states_wrote output a b c vs ws first second =
    let ps = map (frame_piece output) vs in
    let qs = map (frame_piece output) ws in
    let out = sym (flat_map-append (λ (p : Piece). p.out) ps qs) in
    let line = sym (flat_map-append (λ (p : Piece). p.line) ps qs) in
    subst (λ (rs : List Piece). Wrote a c (outs rs) (lines rs)) (sym (map-append (frame_piece output) vs ws))
    (subst (λ (x : List ℕ). Wrote a c x (lines (ps ++ qs))) out
    (subst (λ (y : List ℕ). Wrote a c (outs ps ++ outs qs) y) line
    (wrote_twice a b c (outs ps) (lines ps) (outs qs) (lines qs) first second)))

-- the frames of the states before one were written, and then that of the state, where it is due
pub more_written : (output : Output) (steps every : ℕ) (w v : World) (n : ℕ) (a b c : Sinks) → after w (n + 1) ≡ Ok v
    → WroteStates output a b (due_states steps every w 1 n) → WroteStates output b c (due_state steps every (Ok v))
    → WroteStates output a c (due_states steps every w 1 (n + 1))
more_written output steps every w v n a b c reached first second =
    subst (WroteStates output a c) (sym (states_more steps every w v n reached))
    (states_wrote output a b c (due_states steps every w 1 n) (due_state steps every (Ok v)) first second)

-- the frame of the state was cut
pub more_cut : (side : Side) (output : Output) (steps every : ℕ) (w v : World) (n : ℕ) (a b c : Sinks) → n < steps - w.step → after w (n + 1) ≡ Ok v
    → WroteStates output a b (due_states steps every w 1 n) → CutAt side b c (map (frame_piece output) (due_state steps every (Ok v)))
    → CutAt side a c (frames_behind output steps every w)
more_cut side output steps every w v n a b c below reached first second =
    let piece = frame_piece output in
    let count = steps - w.step in
    let before = due_states steps every w 1 n in
    let here = due_state steps every (Ok v) in
    let rest = due_states steps every w (n + 2) (count - (n + 1)) in
    let all : due_states steps every w 1 count ≡ (before ++ here) ++ rest =
    states_split steps every w 1 (n + 1) (count - (n + 1)) count (n + 2) (omega (arith, below)) (omega arith)
    ∙ ap (λ t. t ++ rest) (states_more steps every w v n reached) in
    let whole : frames_behind output steps every w ≡ (map piece before ++ map piece here) ++ map piece rest =
    ap (map piece) all ∙ map-append piece (before ++ here) rest ∙ ap (λ t. t ++ map piece rest) (map-append piece before here) in
    subst (CutAt side a c) (sym whole)
    (cut_more side a c (map piece before ++ map piece here) (map piece rest) (cut_later side a b c (map piece before) (map piece here) first second))

-- no frame was written yet
pub none_written : (output : Output) (steps every : ℕ) (w : World) (a : Sinks) → Wrote a a [] [] → WroteStates output a a (due_states steps every w 1 0)
unfolding due_states
none_written output steps every w a none = none

-- the first state's frame is always due
or_true : (b : Bool) → (b || true) ≡ true
or_true true = refl
or_true false = refl

first_due : (steps every : ℕ) → 1 ≤ every → is_due steps every 0 ≡ true
first_due steps every above =
    ap (λ (r : ℕ). 0 == steps || r == 0) (zero-mod every) ∙ or_true (0 == steps)

pub states_first : (steps every : ℕ) (w : World) (n : ℕ) → 1 ≤ every → w.step ≡ 0
    → due_states steps every w 0 (n + 1) ≡ w ∷ due_states steps every w 1 n
states_first steps every w n above begins =
    states_split steps every w 0 1 n (n + 1) 1 (omega arith) refl
    ∙ ap (λ t. t ++ due_states steps every w 1 n) (states_one steps every w 0
    ∙ ap (due_state steps every) (after_none w)
    ∙ due_now steps every w (ap (is_due steps every) begins ∙ first_due steps every above))

-- so its frame comes before those of the states behind it
pub frames_first : (output : Output) (steps every : ℕ) (w : World) → 1 ≤ every → w.step ≡ 0
    → frames_of output steps every w ≡ frame_piece output w ∷ frames_behind output steps every w
frames_first output steps every w above begins =
    let all : steps - w.step ≡ steps = omega (arith, begins) in
    ap (map (frame_piece output)) (states_first steps every w steps above begins)
    ∙ ap (λ n. frame_piece output w ∷ map (frame_piece output) (due_states steps every w 1 n)) (sym all)

-- so is the last one's
last_due : (steps every : ℕ) → is_due steps every steps ≡ true
last_due steps every = ap (λ (b : Bool). b || steps % every == 0) (eq-eqb steps steps refl)

-- a run that is done comes to its last step
reached_last : (w : World) (steps s : ℕ) → answer_of (end_of_run steps w) ≡ ended.Done s → (v : World) × (after w steps ≡ Ok v)
unfolding end_of_run
reached_last w steps s done = go (after w steps) refl done
  where
    go : (r : Result World EndMark) → after w steps ≡ r → answer_of (end_where r) ≡ ended.Done s → (v : World) × (after w steps ≡ Ok v)
    go (Ok v) is done' = (v, is)
    go (Err (Done other)) is done' = absurd (stops_by_stop w steps (Done other) is)
    go (Err (Stopped step stop)) is done' = absurd cc

-- and has a frame more than those of any step before
last_left : (steps every : ℕ) (w : World) (n s : ℕ) → n < steps - w.step → answer_of (end_of_run (steps - w.step) w) ≡ ended.Done s
    → 1 ≤ length (due_states steps every w (n + 1) (steps - w.step - n))
last_left steps every w n s below done =
    let count = steps - w.step in
    let (v, reached) = reached_last w count s done in
    let at : v.step ≡ steps = let came = step_after w v count reached in omega (arith, came, below) in
    let front = due_states steps every w (n + 1) (count - (n + 1)) in
    let split = states_split steps every w (n + 1) (count - (n + 1)) 1 (count - n) count (omega (arith, below)) (omega (arith, below)) in
    let last : due_states steps every w count 1 ≡ v ∷ [] =
    states_one steps every w count
    ∙ ap (due_state steps every) reached
    ∙ due_now steps every v (ap (is_due steps every) at ∙ last_due steps every) in
    let count_is = ap length split in
    let one = ap length last in
    omega (arith, count_is, length-append front (due_states steps every w count 1), one)

-- memory was wanting in a step: the frames before it stand
pub some_written : (workers : ℕ) (output : Output) (steps every : ℕ) (w : World) (n : ℕ) (a b : Sinks) → 2 ≤ workers → n < steps - w.step
    → WroteStates output a b (due_states steps every w 1 n)
    → HasFrames 0 workers (answer_of (end_of_run (steps - w.step) w)) [] (frames_behind output steps every w) a b
some_written workers output steps every w n a b many below wrote =
    let piece = frame_piece output in
    let count = steps - w.step in
    let front = due_states steps every w 1 n in
    let rest = due_states steps every w (n + 1) (count - n) in
    let split : frames_behind output steps every w ≡ map piece front ++ map piece rest =
    ap (map piece) (states_split steps every w 1 n (count - n) count (n + 1) (omega (arith, below)) (omega arith))
    ∙ map-append piece front rest in
    let number = length (map piece front) in
    let whole : take number (frames_behind output steps every w) ≡ map piece front =
    ap (take number) split ∙ take-append_seam (map piece front) (map piece rest) in
    let all = ap length split ∙ length-append (map piece front) (map piece rest) in
    record {
      front = record {
        number = number;
        most = omega (arith, all);
        wrote = subst (λ (ps : List Piece). Wrote a b (outs ps) (lines ps)) (sym whole) wrote;
      };
      many = many;
      enough = omega arith;
      left = λ s done. let more = last_left steps every w n s below done in omega (arith, all, more, length-map rest piece);
    }

-- a step stopped: its frames are all that are due
pub stopped_written : (output : Output) (steps every : ℕ) (w v : World) (stop : Stop) (n : ℕ) (a b : Sinks) → n < steps - w.step → after w n ≡ Ok v
    → stepped v ≡ Err stop → WroteStates output a b (due_states steps every w 1 n)
    → WroteFrames (frames_behind output steps every w) (end_of_run (steps - w.step) w) (Stopped (v.step + 1) stop) a b
stopped_written output steps every w v stop n a b below reached stops wrote =
    let count = steps - w.step in
    let end = Stopped (v.step + 1) stop in
    let here = after_stop w v stop n reached stops in
    let front = due_states steps every w 1 n in
    let all : due_states steps every w 1 count ≡ front =
    states_split steps every w 1 n (count - n) count (n + 1) (omega (arith, below)) (omega arith)
    ∙ ap (λ t. front ++ t) (none_due steps every w end (n + 1) (count - n) here)
    ∙ append-nil front in
    record {
      ends = end_stopped count w end (n + 1) (omega (arith, below)) here;
      wrote = subst (WroteStates output a b) (sym all) wrote;
    }

-- the last step was done
pub done_written : (output : Output) (steps every : ℕ) (w v : World) (a b : Sinks) → after w (steps - w.step) ≡ Ok v
    → WroteStates output a b (due_states steps every w 1 (steps - w.step))
    → WroteFrames (frames_behind output steps every w) (end_of_run (steps - w.step) w) (Done v.step) a b
done_written output steps every w v a b reached wrote = record { ends = end_done (steps - w.step) w v reached; wrote = wrote }

-- what is put of a state by an output of the same value
pub put_as : {T : Type 0} (a b : Sinks) (w : World) (o p : Output) (result : Result T Side) → o ≡ p → Writes a b (frame_piece p w ∷ []) result
    → Writes a b (frame_piece o w ∷ []) result
put_as a b w o p result is = subst (λ (q : Output). Writes a b (frame_piece q w ∷ []) result) (sym is)

-- a line on out alone
pub line_wrote : (o p r : Told) (text : List ℕ) → Appended o p text → Calm o p
    → Wrote (sinks o r) (sinks p r) (outs (record { out = text; line = [] } ∷ [])) (lines (record { out = text; line = [] } ∷ []))
line_wrote o p r text put calm = subst (λ (t : List ℕ). Wrote (sinks o r) (sinks p r) t []) (sym (append-nil text)) (wrote_out o p r text put calm)

-- what probes see of a state isn't empty
pub sight_some : (probes : Probes) (w : World) → 0 < length (frame_piece (Probe probes) w).out
unfolding frame_piece probe_line
sight_some probes w =
    let text = join_by (λ (column : List ℕ). column) (codes " ") (columns probes w.step (value_at (e_of w)) (value_at (b_of w)) w.particles) in
    omega (arith, length-append text (codes "\n"))
