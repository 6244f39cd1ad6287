-- How a run finishes, from how its parts do.
use Rattle.std.proofs.Common.{◌≡◌, ℕ, suc, ◌+◌, ◌≤◌, List, [], ◌∷◌, ◌++◌, length, take, Result, Ok, Err, refl, inl, inr, sym, ap, ◌∙◌, subst, append_assoc}
use Rattle.std.proofs.Common.{length-append, arith}
use Rattle.std.proofs.lemmas.Grind.{flat_map-append}
use Rattle.std.proofs.Math.Seq.{take-append-add}
use Rattle.pic_io.specs.declared.side.Side.{Side}
use Rattle.pic_io.specs.Sinks.{Sinks, Wrote, Piece, outs, lines, CutAt}
use Rattle.pic_io.proofs.Puts.{wrote_twice, cut_more, cut_later}
use Rattle.pic_grid.specs.declared.stop.EndMark.{EndMark}
use Rattle.pic_report.specs.declared.cut.Cut.{Cut}
use Rattle.pic_report.specs.declared.cut.Cut.TheVariants.{Write, NoMemory}
use Rattle.pic_report.specs.declared.ended.Ended.{Ended}
use Rattle.pic_states.specs.declared.output.Output.{Output}
use Rattle.pic_states.specs.Frames.{end_piece}
use Rattle.pic_report.specs.Outcome.{Outcome, with_head, answer_of}
use Rattle.pic_states.specs.StatesOutcome.{states_outcome}
use Rattle.pic_report.specs.Leaves.{HasFront, Fulfils, LeavesWhole, LeavesKept}
use Rattle.pic_report.specs.Finishes.{Finishes}
use Rattle.pic_states.specs.Runs.{WroteFrames, WritesFrames, WritesStates}
use Rattle.pic_report.proofs.PieceLaws.{wrote_one, cut_headed, cut_behind}

-- frames that were cut off
pub frames_cut : (workers : ℕ) (output : Output) (frames : List Piece) (last : EndMark) (a b : Sinks) (cut : Cut)
    → WritesFrames workers frames last a b (Err cut) → WritesStates 0 workers (states_outcome output [] frames last) a b (Err cut)
frames_cut workers output frames last a b (Write side) cut = cut_more side a b frames (end_piece output last ∷ []) cut
frames_cut workers output frames last a b NoMemory has = has

-- the end of a run, behind its frames: cut off, or whole
pub last_cut : (workers : ℕ) (output : Output) (frames : List Piece) (last end : EndMark) (side : Side) (a b c : Sinks) → WroteFrames frames last end a b
    → CutAt side b c (end_piece output end ∷ []) → WritesStates 0 workers (states_outcome output [] frames last) a c (Err (Write side))
last_cut workers output frames last end side a b c wrote cut =
    cut_later side a b c frames (end_piece output last ∷ []) wrote.wrote
    (subst (λ (e : EndMark). CutAt side b c (end_piece output e ∷ [])) wrote.ends cut)

pub last_done : (workers : ℕ) (output : Output) (frames : List Piece) (last end : EndMark) (a b c : Sinks) → WroteFrames frames last end a b
    → Wrote b c (outs (end_piece output end ∷ [])) (lines (end_piece output end ∷ []))
    → WritesStates 0 workers (states_outcome output [] frames last) a c (Ok (answer_of end))
last_done workers output frames last end a b c wrote put =
    subst (λ (e : EndMark). Fulfils (states_outcome output [] frames e) a c (answer_of end)) wrote.ends (record {
      answers = refl;
      wrote = wrote_twice a b c (outs frames) (lines frames) (end_piece output end).out (end_piece output end).line wrote.wrote
          (wrote_one b c (end_piece output end) put);
    })

-- a frame that was written, and the others of a run behind it
pub framed : (workers : ℕ) (output : Output) (p : Piece) (frames : List Piece) (last : EndMark) (a b c : Sinks) (finish : Result Ended Cut)
    → Wrote a b (outs (p ∷ [])) (lines (p ∷ [])) → WritesStates 0 workers (states_outcome output [] frames last) b c finish
    → WritesStates 1 workers (states_outcome output [] (p ∷ frames) last) a c finish
framed workers output p frames last a b c (Ok answer) first ends =
    let end = end_piece output last in
    record {
      answers = ends.answers;
      wrote = subst (λ (x : List ℕ). Wrote a c x ((p.line ++ lines frames) ++ end.line)) (sym (append_assoc p.out (outs frames) end.out))
          (subst (λ (y : List ℕ). Wrote a c (p.out ++ (outs frames ++ end.out)) y) (sym (append_assoc p.line (lines frames) end.line))
          (wrote_twice a b c p.out p.line (outs frames ++ end.out) (lines frames ++ end.line) (wrote_one a b p first) ends.wrote));
    }
framed workers output p frames last a b c (Err (Write side)) first ends = inr (b, wrote_one a b p first, ends)
framed workers output p frames last a b c (Err NoMemory) first has =
    let front = has.front in
    record {
      front = record {
        number = suc front.number;
        most = let most = front.most in omega (arith, most);
        wrote = wrote_twice a b c p.out p.line (outs (take front.number frames)) (lines (take front.number frames)) (wrote_one a b p first) front.wrote;
      };
      many = has.many;
      enough = omega arith;
      left = λ steps done. let more = has.left steps done in omega (arith, more);
    }

-- a head that was written, and a run behind it
pub headed : (workers : ℕ) (output : Output) (head : List ℕ) (frames : List Piece) (last : EndMark) (a b c : Sinks) (finish : Result Ended Cut)
    → Wrote a b head [] → WritesStates 1 workers (states_outcome output [] frames last) b c finish
    → Finishes (LeavesWhole workers) (states_outcome output head frames last) a c finish
headed workers output head frames last a b c (Ok answer) first ends = record {
  answers = ends.answers;
  wrote = subst (λ (x : List ℕ). Wrote a c x (lines frames ++ (end_piece output last).line)) (sym (append_assoc head (outs frames) (end_piece output last).out))
      (wrote_twice a b c head [] (outs frames ++ (end_piece output last).out) (lines frames ++ (end_piece output last).line) first ends.wrote);
}
headed workers output head frames last a b c (Err (Write side)) first ends = cut_headed side a b c head (frames ++ end_piece output last ∷ []) first ends
headed workers output head frames last a b c (Err NoMemory) first has =
    let front = has.front in
    inr (record {
      front = record {
        number = front.number;
        most = front.most;
        wrote = wrote_twice a b c head [] (outs (take front.number frames)) (lines (take front.number frames)) first front.wrote;
      };
      many = has.many;
      enough = has.enough;
      left = has.left;
    })

-- a run with no head
pub without_head : (workers : ℕ) (o : Outcome) (a b : Sinks) (finish : Result Ended Cut) → WritesStates 1 workers o a b finish
    → Finishes (LeavesWhole workers) o a b finish
without_head workers o a b (Ok answer) ends = ends
without_head workers o a b (Err (Write side)) ends = ends
without_head workers o a b (Err NoMemory) ends = inr ends

-- a run that left whole frames
pub left_kept : (workers : ℕ) (o : Outcome) (a b : Sinks) (finish : Result Ended Cut) → WritesStates 0 workers o a b finish → Finishes LeavesKept o a b finish
left_kept workers o a b (Ok answer) ends = ends
left_kept workers o a b (Err (Write side)) ends = ends
left_kept workers o a b (Err NoMemory) has = inr has.front

-- a run behind a head and frames that were written
module _ (head : List ℕ) (kept : List Piece) (a b c : Sinks) (first : Wrote a b (head ++ outs kept) (lines kept)) where
  outs_join : (frames : List Piece) → (head ++ outs kept) ++ outs frames ≡ head ++ outs (kept ++ frames)
  outs_join frames = append_assoc head (outs kept) (outs frames) ∙ ap (λ t. head ++ t) (sym (flat_map-append (λ (p : Piece). p.out) kept frames))

  lines_join : (frames : List Piece) → lines kept ++ lines frames ≡ lines (kept ++ frames)
  lines_join frames = sym (flat_map-append (λ (p : Piece). p.line) kept frames)

  front_more : (frames : List Piece) → Wrote b c (outs frames) (lines frames) → Wrote a c (head ++ outs (kept ++ frames)) (lines (kept ++ frames))
  front_more frames second =
      subst (λ (x : List ℕ). Wrote a c x (lines (kept ++ frames))) (outs_join frames)
      (subst (λ (y : List ℕ). Wrote a c ((head ++ outs kept) ++ outs frames) y) (lines_join frames)
      (wrote_twice a b c (head ++ outs kept) (lines kept) (outs frames) (lines frames) first second))

  front_kept : (frames : List Piece) (n : ℕ) → n ≤ length frames → Wrote b c (outs (take n frames)) (lines (take n frames))
      → HasFront head (kept ++ frames) a c
  front_kept frames n few second =
      let all = length-append kept frames in
      record {
        number = length kept + n;
        most = omega (arith, all, few);
        wrote = subst (λ (ps : List Piece). Wrote a c (head ++ outs ps) (lines ps)) (sym (take-append-add kept frames n))
            (front_more (take n frames) second);
      }

  pub went_on : (output : Output) (frames : List Piece) (last : EndMark) (finish : Result Ended Cut)
      → Finishes LeavesKept (states_outcome output [] frames last) b c finish
      → Finishes LeavesKept (states_outcome output head (kept ++ frames) last) a c finish
  went_on output frames last (Ok answer) ends =
      let end = end_piece output last in
      let out = sym (append_assoc (head ++ outs kept) (outs frames) end.out) ∙ ap (λ t. t ++ end.out) (outs_join frames) in
      let line = sym (append_assoc (lines kept) (lines frames) end.line) ∙ ap (λ t. t ++ end.line) (lines_join frames) in
      record {
        answers = ends.answers;
        wrote = subst (λ (x : List ℕ). Wrote a c x (lines (kept ++ frames) ++ end.line)) out
            (subst (λ (y : List ℕ). Wrote a c ((head ++ outs kept) ++ (outs frames ++ end.out)) y) line
            (wrote_twice a b c (head ++ outs kept) (lines kept) (outs frames ++ end.out) (lines frames ++ end.line) first ends.wrote));
      }
  went_on output frames last (Err (Write side)) ends =
      let rest = end_piece output last ∷ [] in
      subst (λ (ps : List Piece). CutAt side a c (with_head head ps)) (sym (append_assoc kept frames rest))
      (cut_behind side a b c head kept (frames ++ rest) first ends)
  went_on output frames last (Err NoMemory) (inl none) = inr (front_kept frames 0 (omega arith) none)
  went_on output frames last (Err NoMemory) (inr front) = inr (front_kept frames front.number front.most front.wrote)
