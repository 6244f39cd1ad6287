-- The command `resume`: how it ends, and what its answers mean.
use Rattle.std.proofs.Common.{◌≡◌, ℕ, suc, ◌-◌, List, [], ◌∷◌, ◌++◌, Option, Some, None, Result, Ok, Err, inl, inr, refl, sym, ap, ◌∙◌, subst, append_assoc}
use Rattle.std.proofs.Common.{arith}
use Rattle.std.specs.Prelude.{⊤, unwrap_or, IfSome, IsOk}
use Rattle.pic_io.specs.Told.{Told}
use Rattle.pic_io.specs.Sinks.{Sinks, Piece, CutAt}
use Rattle.pic_io.specs.declared.side.Side.{Side}
use Rattle.pic_io.specs.declared.side.Side.TheVariants.{Out, Report}
use Rattle.pic_io.proofs.Puts.{wrote_none, cut_from, cut_more}
use Rattle.pic_charge.specs.declared.breaks.Break.{Break}
use Rattle.pic_deck.specs.declared.refusal.Refusal.{Refusal}
use Rattle.pic_fields.specs.Parser.{Fault}
use Rattle.pic_grid.specs.declared.stop.EndMark.{EndMark}
use Rattle.pic_grid.specs.declared.stop.EndMark.TheVariants.{Done as EndDone, Stopped as EndStopped}
use Rattle.pic_header.specs.Header.{HeaderView, IsHeader, with_steps}
use Rattle.pic_record.specs.FrameFields.{FrameView}
use Rattle.pic_record.specs.Layout.{LayoutView, layout_of}
use Rattle.pic_dump.specs.Allowed.{TakesAllowed, TakesHeader}
use Rattle.pic_dump.specs.DumpRead.{DumpRead, read_dump}
use Rattle.pic_dump.specs.Upgrade.{piece_of}
use Rattle.pic_dump.proofs.UntakenLaws.{none_allowed, none_header}
use Rattle.pic_verify.specs.Reached.{TakesToRecord}
use Rattle.pic_verify.specs.Verified.{break_of, unless_broken, verdict_behind, verdict_of}
use Rattle.pic_verify.proofs.UntakenLaws.{none_reached}
use Rattle.pic_resume.specs.declared.carried.Carried.{Carried}
use Rattle.pic_resume.specs.declared.carry_stop.CarryStop.{CarryStop}
use Rattle.pic_resume.specs.declared.carry_stop.CarryStop.TheVariants as stop
use Rattle.pic_resume.specs.Carry.{GoesOn, Kept, asked, last_or_stop, going_on, under_header, unless_refused, kept_by, carry_dump, carry_of, carry_front}
use Rattle.pic_resume.specs.Carries.{Finds, GivesRun, FailsToRead, FailsToPut, PutsNothing, Answered, IsEarly}
use Rattle.pic_step.specs.SerialStep.{World}
use Rattle.pic_step.specs.SerialRun.{after}
use Rattle.pic_step.proofs.AfterLaws.{step_after}
use Rattle.pic_report.specs.declared.cut.Cut.{Cut}
use Rattle.pic_report.specs.declared.cut.Cut.TheVariants as cut
use Rattle.pic_report.specs.declared.early.Early.{Early}
use Rattle.pic_report.specs.declared.early.Early.TheVariants as why_early
use Rattle.pic_report.specs.declared.ended.Ended.{Ended}
use Rattle.pic_report.specs.declared.ended.Ended.TheVariants.{Refused, ReadFault, WriteFault, NoMemory}
use Rattle.pic_states.specs.declared.output.Output.TheVariants.{Dump}
use Rattle.pic_report.specs.Early.{ended_early}
use Rattle.pic_on_dump.specs.Stops.{early_of_carry}
use Rattle.pic_report.specs.Ended.{ended_of}
use Rattle.pic_report.specs.Lines.{early_line}
use Rattle.pic_report.specs.Reading.{Given, Held, Failed, FailedBehind, Gave}
use Rattle.pic_states.specs.Frames.{frames_behind, end_of_run, end_piece}
use Rattle.pic_report.specs.Outcome.{with_head, pieces_of, answer_of, told_outcome, early_outcome}
use Rattle.pic_states.specs.StatesOutcome.{states_outcome}
use Rattle.pic_report.specs.Leaves.{ComesTo, Fulfils, LeavesKept}
use Rattle.pic_report.specs.Finishes.{Finishes, Announces}
use Rattle.pic_report.specs.Manner.{Call, Performs}
use Rattle.pic_on_dump.specs.Resume.{resumed_state, carried_state, behind_outcome, ended_carry, resume_behind, resume_on, HasRun, IsResumable, ReadsResumed}
use Rattle.pic_on_dump.specs.Resume.{HasDump, resuming}
use Rattle.pic_report.specs.Meaning.{MeansIn}
use Rattle.pic_report.proofs.EndLaws.{finished, announced, fed, avoids, unlike, told_held, gave_known}
use Rattle.pic_states.proofs.StateLaws.{each_gauss, run_ends}
use Rattle.pic_report.proofs.PieceLaws.{told_behind}
use Rattle.pic_states.proofs.RunLaws.{went_on}
use Rattle.pic_on_dump.proofs.CarriedLaws.{frame_sound, carried_is}
use Rattle.pic_on_dump.proofs.VerifyLaws.{left_held, read}

-- a dump is refused, bad or broken, where its run doesn't go on
abbrev IsTold : CarryStop → Type 0
IsTold stop.ReadFault = ⊥
IsTold (stop.BadDump place cause) = ⊤
IsTold (stop.Refused refusal) = ⊤
IsTold (stop.Broken frame b) = ⊤
IsTold (stop.WriteFault side) = ⊥
IsTold stop.NoMemory = ⊥

-- where it does, its header has the steps that were asked for
abbrev IsAnswer : ℕ → Result GoesOn CarryStop → Type 0
IsAnswer steps (Ok g) = g.header.steps ≡ steps
IsAnswer steps (Err why) = IsTold why

abbrev IsLast : Result FrameView CarryStop → Type 0
IsLast (Ok f) = ⊤
IsLast (Err why) = IsTold why

last_behind : (l : LayoutView) (k : ℕ) (frames all : List FrameView) (end : Result EndMark Fault) → IsLast (last_or_stop all (verdict_behind l k frames end))
last_behind l k [] all (Ok mark) = tt
last_behind l k [] all (Err f) = tt
last_behind l k (f ∷ frames) all end = go (break_of l f.e f.particles) (last_behind l (suc k) frames all end)
  where
    go : (o : Option Break) → IsLast (last_or_stop all (verdict_behind l (suc k) frames end))
        → IsLast (last_or_stop all (unless_broken k o (verdict_behind l (suc k) frames end)))
    go (Some b) rest = tt
    go None rest = rest

answer_under : (steps : ℕ) (h : HeaderView) (r : Result FrameView CarryStop) → IsLast r → IsAnswer steps (going_on (with_steps steps h) r)
answer_under steps h (Ok f) is = refl
answer_under steps h (Err why) is = is

answer_kept : (steps : ℕ) (h : HeaderView) (k : Kept) (r : Result (Unit {0}) Refusal) → IsLast k.answer
    → IsAnswer steps (unless_refused r (under_header (with_steps steps h) k)).answer
answer_kept steps h k (Ok _) is = answer_under steps h k.answer is
answer_kept steps h k (Err refusal) is = tt

answer_dump : (steps : ℕ) (tiles : List ℕ) (r : Result DumpRead Fault) → IsAnswer steps (carry_dump steps tiles r).answer
answer_dump steps tiles (Ok d) =
    let l = layout_of d.header in
    answer_kept steps d.header (kept_by steps l d.frames (verdict_of (Ok d))) (asked steps tiles d.header) (last_behind l 0 d.frames d.frames d.end)
answer_dump steps tiles (Err f) = tt

answer_is : (steps : ℕ) (tiles held : List ℕ) → IsAnswer steps (carry_of steps tiles held).answer
unfolding carry_of
answer_is steps tiles held = answer_dump steps tiles (read_dump held)

-- that of a run isn't a refusal, nor want of memory
not_refused : (refusal : Refusal) (end : EndMark) → answer_of end ≡ Refused refusal → ⊥
not_refused refusal (EndDone steps) same = cc
not_refused refusal (EndStopped step why) same = cc

-- a command that ended with an answer that is told ran on to no step
not_run : (why : CarryStop) → IsTold why → HasRun (ended_carry why) → ⊥
not_run stop.ReadFault told run = told
not_run (stop.BadDump place cause) told run = run
not_run (stop.Refused refusal) told run = run
not_run (stop.Broken frame b) told run = run
not_run (stop.WriteFault side) told run = told
not_run stop.NoMemory told run = told

not_starved : (why : CarryStop) → IsTold why → ended_carry why ≡ NoMemory → ⊥
not_starved stop.ReadFault told same = told
not_starved (stop.BadDump place cause) told same = cc
not_starved (stop.Refused refusal) told same = cc
not_starved (stop.Broken frame b) told same = cc
not_starved (stop.WriteFault side) told same = told
not_starved stop.NoMemory told same = told

-- pieces that are cut behind a head that may be none
cut_pieces : (side : Side) (a b : Sinks) (head : List ℕ) (kept rest : List Piece) → CutAt side a b (piece_of head ∷ kept)
    → CutAt side a b (with_head head (kept ++ rest))
cut_pieces Out a b [] kept rest (inl one) = let some = one.some in absurd (omega (arith, some))
cut_pieces Report a b [] kept rest (inl one) = let some = one.some in absurd (omega (arith, some))
cut_pieces side a b [] kept rest (inr (mid, none, later)) = cut_more side a b kept rest (cut_from side a mid b kept none later)
cut_pieces side a b (byte ∷ head) kept rest cut = cut_more side a b (piece_of (byte ∷ head) ∷ kept) rest cut

cut_resumed : (side : Side) (a b : Sinks) (head : List ℕ) (kept : List Piece) (r : Result GoesOn CarryStop) → CutAt side a b (piece_of head ∷ kept)
    → CutAt side a b (pieces_of (resume_behind head kept r))
cut_resumed side a b head kept (Ok g) cut =
    let w = resumed_state g in
    let frames = frames_behind Dump g.header.steps g.header.every w in
    let rest = end_piece Dump (end_of_run (g.header.steps - w.step) w) ∷ [] in
    subst (λ (ps : List Piece). CutAt side a b (with_head head ps)) (sym (append_assoc kept frames rest)) (cut_pieces side a b head kept (frames ++ rest) cut)
cut_resumed side a b head kept (Err why) cut = cut_pieces side a b head kept ((resume_behind head kept (Err why)).last ∷ []) cut

-- a call that carried a dump, of which no more was taken than is allowed
module _ (steps : ℕ) (tiles : List ℕ) (source source' : Told) (allowed : TakesAllowed source source') (reached : TakesToRecord source source')
    (before mid now : Sinks) (finish : Result Ended Cut) where
  -- all that is kept of what the source held
  found : (answer : Result GoesOn CarryStop) (finds : Finds steps tiles source source' before mid answer)
      → ReadsResumed steps tiles source source' (Held finds.held) (ended_of finish)
      → ComesTo LeavesKept (resume_behind (carry_of steps tiles finds.held).head (carry_of steps tiles finds.held).kept answer) before now (ended_of finish)
      → Performs (resuming steps tiles) source source' before now (ended_of finish)
  found answer finds reads comes =
      let carry = carry_of steps tiles finds.held in
      record {
        read = read source source' allowed reached (Held finds.held) (finds.calm, left_held source.bytes finds.held finds.was);
        calm = λ _. finds.calm;
        reads = reads;
        comes = subst (λ (r : Result GoesOn CarryStop). ComesTo LeavesKept (resume_behind carry.head carry.kept r) before now (ended_of finish))
            (sym finds.answered) comes;
      }

  -- its run doesn't go on
  told : (why : CarryStop) → IsTold why → ((refusal : Refusal) → ended_carry why ≡ Refused refusal → TakesHeader source source')
      → Finds steps tiles source source' before mid (Err why) → Announces (early_outcome (ended_carry why)) mid now finish
      → Performs (resuming steps tiles) source source' before now (ended_of finish)
  told why is header finds ends =
      let carry = carry_of steps tiles finds.held in
      let answer = ended_carry why in
      let o = early_outcome answer in
      found (Err why) finds (record {
        memory = λ wanted. absurd (fed o mid now finish (not_starved why is) ends wanted);
        refused = λ refusal same. refused finish ends refusal same;
        end = λ run. absurd (avoids HasRun o mid now finish (not_run why is) (λ side run'. run') ends run);
        from = λ run g same. absurd (avoids HasRun o mid now finish (not_run why is) (λ side run'. run') ends run);
        part = tt;
      })
      (announced LeavesKept (told_outcome carry.head carry.kept (early_line answer) answer) before now finish
      (told_behind carry.head carry.kept (early_line answer) answer before mid now finish finds.put ends))
    where
      refused : (f : Result Ended Cut) → Announces (early_outcome (ended_carry why)) mid now f → (refusal : Refusal) → ended_of f ≡ Refused refusal
          → TakesHeader source source'
      refused (Ok answer) ends refusal same = header refusal (ends.answers ∙ same)
      refused (Err (cut.Write side)) ends refusal same = absurd (let other : WriteFault side ≡ Refused refusal = same in cc)
      refused (Err cut.NoMemory) ends refusal same = absurd ends

  -- a read failed
  unread : FailsToRead steps tiles source source' before mid → Announces (early_outcome ReadFault) mid now finish
      → Performs (resuming steps tiles) source source' before now (ended_of finish)
  unread fails ends =
      let carry = carry_front steps tiles fails.held fails.whole in
      let o = early_outcome ReadFault in
      record {
        read = read source source' allowed reached (FailedBehind fails.held fails.whole) (fails.rose, left_held source.bytes fails.held fails.was);
        calm = λ wanted. absurd (fed o mid now finish (λ same. cc) ends wanted);
        reads = record {
          memory = λ wanted. absurd (fed o mid now finish (λ same. cc) ends wanted);
          refused = λ refusal same. absurd (unlike o mid now finish (Refused refusal) (λ same'. cc) (λ side same'. cc) ends same);
          end = λ run. absurd (avoids HasRun o mid now finish (λ run'. run') (λ side run'. run') ends run);
          from = λ run g same. absurd (avoids HasRun o mid now finish (λ run'. run') (λ side run'. run') ends run);
          part = fails.takes;
        };
        comes = announced LeavesKept (told_outcome carry.head carry.kept (early_line ReadFault) ReadFault) before now finish
            (told_behind carry.head carry.kept (early_line ReadFault) ReadFault before mid now finish fails.put ends);
      }

  -- its run goes on
  pub resumed : (c : Carried) → IsHeader c.header → GivesRun steps tiles source source' before mid c
      → Finishes LeavesKept (behind_outcome [] [] c.header (carried_state c)) mid now finish
      → Performs (resuming steps tiles) source source' before now (ended_of finish)
  resumed c are gives ends =
      let g = gives.goes in
      let finds = gives.finds in
      let carry = carry_of steps tiles finds.held in
      let w = resumed_state g in
      let h = g.header in
      let last = end_of_run (h.steps - w.step) w in
      let header : IsHeader h = subst IsHeader gives.is.header are in
      let all : h.steps ≡ steps = subst (IsAnswer steps) finds.answered (answer_is steps tiles finds.held) in
      let ends_here = subst (λ (v : World). Finishes LeavesKept (behind_outcome [] [] h v) mid now finish) (carried_is g c gives.is)
      (subst (λ (x : HeaderView). Finishes LeavesKept (behind_outcome [] [] x (carried_state c)) mid now finish) gives.is.header ends) in
      let whole = went_on carry.head carry.kept before mid now finds.put Dump (frames_behind Dump h.steps h.every w) last finish ends_here in
      found (Ok g) finds (record {
        memory = λ _. inr gives.end;
        refused = λ refusal same. absurd (never (frames_behind Dump h.steps h.every w) last finish ends_here refusal same);
        end = λ _. gives.end;
        from = λ _ other same. subst (IsResumable steps) (ok_is g other (sym finds.answered ∙ same)) (record {
          sound = frame_sound h g.last header gives.can;
          header = all;
          behind = let most = gives.can.step in omega (arith, most, all);
        });
        part = tt;
      })
      (finished LeavesKept (behind_outcome carry.head carry.kept h w) before now finish whole)
    where
      ok_is : (x y : GoesOn) → ◌≡◌ {A = Result GoesOn CarryStop} (Ok x) (Ok y) → x ≡ y
      ok_is x y same = cc

      never : (frames : List Piece) (end : EndMark) (f : Result Ended Cut) → Finishes LeavesKept (states_outcome Dump [] frames end) mid now f
          → (refusal : Refusal) → ended_of f ≡ Refused refusal → ⊥
      never frames end (Ok answer) ends refusal same = not_refused refusal end (ends.answers ∙ same)
      never frames end (Err (cut.Write side)) ends refusal same = let other : WriteFault side ≡ Refused refusal = same in cc
      never frames end (Err cut.NoMemory) ends refusal same = let other : NoMemory ≡ Refused refusal = same in cc

-- a put of what is kept failed
put_failed : (steps : ℕ) (tiles : List ℕ) (side : Side) (source source' : Told) → TakesAllowed source source' → TakesToRecord source source'
    → (before now : Sinks) → FailsToPut steps tiles side source source' before now
    → Performs (resuming steps tiles) source source' before now (ended_of (Err (cut.Write side)))
put_failed steps tiles side source source' allowed reached before now fails =
    let carry = carry_of steps tiles fails.held in
    record {
      read = read source source' allowed reached (Held fails.held) (fails.calm, left_held source.bytes fails.held fails.was);
      calm = λ _. fails.calm;
      reads = record {
        memory = λ same. cc;
        refused = λ refusal same. cc;
        end = λ run. absurd run;
        from = λ run g same. absurd run;
        part = tt;
      };
      comes = inr (inl (record {
        side = side;
        failed = refl;
        cut = cut_resumed side before now carry.head carry.kept carry.answer fails.cut;
      }));
    }

-- memory was wanting, and nothing was put
put_none : (steps : ℕ) (tiles : List ℕ) (source source' : Told) → TakesAllowed source source' → TakesToRecord source source' → (before now : Sinks)
    → PutsNothing source source' before now → TakesHeader source source' → Performs (resuming steps tiles) source source' before now NoMemory
put_none steps tiles source source' allowed reached before now none header = record {
  read = read source source' allowed reached (Held (unwrap_or source.bytes [])) (gave_known source source' allowed.front none.calm);
  calm = λ _. none.calm;
  reads = record {
    memory = λ _. inl header;
    refused = λ refusal same. cc;
    end = λ run. absurd run;
    from = λ run g same. absurd run;
    part = tt;
  };
  comes = inr (inr (record { wanted = refl; left = inl none.put }));
}

-- why a dump wasn't carried on is told
pub not_carried : (steps : ℕ) (tiles : List ℕ) (why : CarryStop) (early : Early) (source source' : Told) → TakesAllowed source source'
    → TakesToRecord source source' → (before mid now : Sinks) (finish : Result Ended Cut) → early_of_carry why ≡ Ok early
    → Answered steps tiles source source' before mid (Err why) → (IsEarly (Err why) → TakesHeader source source')
    → Announces (early_outcome (ended_early early)) mid now finish → Performs (resuming steps tiles) source source' before now (ended_of finish)
not_carried steps tiles why early source source' allowed reached before mid now finish is answered header ends = go why is answered header
  where
    said : (e : Early) → e ≡ early → Announces (early_outcome (ended_early e)) mid now finish
    said e same = subst (λ (x : Early). Announces (early_outcome (ended_early x)) mid now finish) (sym same) ends

    go : (w : CarryStop) → early_of_carry w ≡ Ok early → Answered steps tiles source source' before mid (Err w)
        → (IsEarly (Err w) → TakesHeader source source') → Performs (resuming steps tiles) source source' before now (ended_of finish)
    go stop.ReadFault is' fails head = unread steps tiles source source' allowed reached before mid now finish fails (said why_early.ReadFault cc)
    go (stop.BadDump place cause) is' finds head =
        told steps tiles source source' allowed reached before mid now finish (stop.BadDump place cause) tt (λ refusal same. cc) finds
        (said (why_early.BadDump place cause) cc)
    go (stop.Refused refusal) is' finds head =
        told steps tiles source source' allowed reached before mid now finish (stop.Refused refusal) tt (λ _ _. head tt) finds
        (said (why_early.Refused refusal) cc)
    go (stop.Broken frame b) is' finds head =
        told steps tiles source source' allowed reached before mid now finish (stop.Broken frame b) tt (λ refusal same. cc) finds
        (said (why_early.Broken frame b) cc)
    go (stop.WriteFault side) is' fails head = absurd cc
    go stop.NoMemory is' none head = absurd cc

-- or it cuts the call off
pub cut_off : (steps : ℕ) (tiles : List ℕ) (why : CarryStop) (by : Cut) (source source' : Told) → TakesAllowed source source'
    → TakesToRecord source source' → (before now : Sinks) → early_of_carry why ≡ Err by
    → Answered steps tiles source source' before now (Err why) → (IsEarly (Err why) → TakesHeader source source')
    → Performs (resuming steps tiles) source source' before now (ended_of (Err by))
cut_off steps tiles stop.ReadFault by source source' allowed reached before now is fails head = absurd cc
cut_off steps tiles (stop.BadDump place cause) by source source' allowed reached before now is finds head = absurd cc
cut_off steps tiles (stop.Refused refusal) by source source' allowed reached before now is finds head = absurd cc
cut_off steps tiles (stop.Broken frame b) by source source' allowed reached before now is finds head = absurd cc
cut_off steps tiles (stop.WriteFault side) by source source' allowed reached before now is fails head =
    let same : cut.Write side ≡ by = cc in
    subst (λ (x : Cut). Performs (resuming steps tiles) source source' before now (ended_of (Err x))) same
    (put_failed steps tiles side source source' allowed reached before now fails)
cut_off steps tiles stop.NoMemory by source source' allowed reached before now is none head =
    let same : cut.NoMemory ≡ by = cc in
    subst (λ (x : Cut). Performs (resuming steps tiles) source source' before now (ended_of (Err x))) same
    (put_none steps tiles source source' allowed reached before now none (head tt))

-- it was wanting before anything was taken
pub resume_starved : (steps : ℕ) (tiles : List ℕ) (source : Told) (before : Sinks) → Performs (resuming steps tiles) source source before before NoMemory
resume_starved steps tiles source before =
    put_none steps tiles source source (none_allowed source) (none_reached source) before before (record { calm = refl; put = wrote_none before })
    (none_header source)

-- what its answers mean
module _ (steps : ℕ) (tiles : List ℕ) (c : Call) (ended : Ended) (p : Performs (resuming steps tiles) c.source c.source_now c.sinks c.sinks_now ended) where
  on_given : (given : Given) → Gave c.source c.source_now p.read.front given → ReadsResumed steps tiles c.source c.source_now given ended
      → Fulfils (resume_on steps tiles given) c.sinks c.sinks_now ended → MeansIn (resuming steps tiles) c (resume_on steps tiles given).answer
  on_given (Failed taken) gave reads ends = record { rose = gave.0; calm_out = ends.wrote.calm_out; calm_report = ends.wrote.calm_report }
  on_given (FailedBehind held whole) gave reads ends =
      record { rose = gave.0; calm_out = ends.wrote.calm_out; calm_report = ends.wrote.calm_report }
  on_given (Held held) gave reads ends = go (carry_of steps tiles held).answer refl (answer_is steps tiles held) ends
    where
      on_held : (r : Result GoesOn CarryStop) → (carry_of steps tiles held).answer ≡ r
          → IfSome c.source.bytes (λ bytes. (carry_of steps tiles bytes).answer ≡ r)
      on_held r is = told_held (λ bytes. (carry_of steps tiles bytes).answer ≡ r) c.source.bytes held gave.1 is

      ran : (g : GoesOn) → (carry_of steps tiles held).answer ≡ Ok g → HasRun ended → IsResumable steps g × HasDump steps tiles c g
      ran g is run = (reads.from run g is, record { held = on_held (Ok g) is; end = reads.end run })

      go : (r : Result GoesOn CarryStop) → (carry_of steps tiles held).answer ≡ r → IsAnswer steps r
          → Fulfils (resume_behind (carry_of steps tiles held).head (carry_of steps tiles held).kept r) c.sinks c.sinks_now ended
          → MeansIn (resuming steps tiles) c (resume_behind (carry_of steps tiles held).head (carry_of steps tiles held).kept r).answer
      go (Ok g) is all whole =
          let w = resumed_state g in
          let n = g.header.steps - w.step in
          run_ends w n (λ answer. (answer ≡ ended) → MeansIn (resuming steps tiles) c answer)
          (λ v reached same.
          let (can, has) = ran g is (subst HasRun same tt) in
          let came = step_after w v n reached in
          let header = can.header in
          let behind = can.behind in
          record {
            from = g;
            held = has;
            gauss = each_gauss w can.sound;
            all = omega (arith, came, header, behind);
            reached = subst IsOk (sym reached ∙ ap (λ m. after w (m - w.step)) header) refl;
          })
          (λ step why stops same.
          let (can, has) = ran g is (subst HasRun same tt) in
          record {
            from = g;
            held = has;
            gauss = each_gauss w can.sound;
            stops = sym (ap (λ m. after w (m - w.step)) can.header) ∙ stops;
          })
          whole.answers
      go (Err stop.ReadFault) is answer whole = absurd answer
      go (Err (stop.BadDump place cause)) is answer whole = on_held (Err (stop.BadDump place cause)) is
      go (Err (stop.Refused refusal)) is answer whole = on_held (Err (stop.Refused refusal)) is
      go (Err (stop.Broken frame b)) is answer whole = on_held (Err (stop.Broken frame b)) is
      go (Err (stop.WriteFault side)) is answer whole = absurd answer
      go (Err stop.NoMemory) is answer whole = absurd answer

  pub resume_means : Fulfils (resume_on steps tiles p.read.given) c.sinks c.sinks_now ended
      → MeansIn (resuming steps tiles) c (resume_on steps tiles p.read.given).answer
  resume_means ends = on_given p.read.given p.read.gave p.reads ends
