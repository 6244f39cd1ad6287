-- The records of a dump, read one after another, and put where they are kept.
use Rattle.std.proofs.Common.{◌≡◌, ℕ, suc, ◌+◌, ◌<◌, ◌≤◌, List, [], ◌∷◌, ◌++◌, length, take, Some, None, Result, Err, IsErrAnd}
use Rattle.std.proofs.Common.{refl, sym, ap, subst, ◌∙◌, arith, append_assoc}
use Rattle.std.specs.Prelude.{sum}
use Rattle.std.proofs.Math.Seq.{take-append_seam}
use Rattle.std.proofs.lemmas.Result.{err_from_is_err_and}
use Rattle.pic_io.specs.Told.{Told}
use Rattle.pic_io.specs.Sinks.{Sinks, Wrote, outs, lines, CutAt}
use Rattle.pic_io.specs.declared.side.Side.{Side}
use Rattle.pic_io.proofs.Puts.{wrote_none, cut_later, cut_more}
use Rattle.pic_num.specs.declared.motion.Particle.{Particle}
use Rattle.pic_grid.specs.declared.snapshot.Snapshot.{Snapshot}
use Rattle.pic_grid.specs.Lattice.{Field}
use Rattle.pic_charge.specs.declared.breaks.Break.{Break}
use Rattle.pic_energy.specs.declared.amounts.Energies.{Energies}
use Rattle.pic_fields.specs.Parser.{input}
use Rattle.pic_fields.specs.Reads.{Moves}
use Rattle.pic_fields.proofs.ReadLaws.{some_rest, moves_up}
use Rattle.pic_record.specs.FrameFields.{frame_of, field_with, IsSameShape}
use Rattle.pic_record.specs.Layout.{LayoutView}
use Rattle.pic_record.specs.Readable.{IsReadableFrame}
use Rattle.pic_dump.specs.Allowed.{records_length}
use Rattle.pic_dump.specs.DumpRead.{RecordsRead, read_on}
use Rattle.pic_dump.specs.NextReads.{HasFrame}
use Rattle.pic_dump.specs.Standing.{Standing}
use Rattle.pic_dump.proofs.AllowedLaws.{frames_fit}
use Rattle.pic_dump.proofs.ReadOnLaws.{with_frames, records_of, on_frame}
use Rattle.pic_verify.specs.Verified.{Verdict, break_of, unless_broken, verdict_behind}
use Rattle.pic_verify.specs.declared.verify_stop.VerifyStop.TheVariants as verify
use Rattle.pic_verify.proofs.MeaningLaws.{is_gauss}
use Rattle.pic_verify.proofs.WalkLaws.{Follows, place_of, by_break, follows_none, follows_frame, breaks_frame}
use Rattle.pic_verify.proofs.ReachedLaws.{AreGood, reached_frame}
use Rattle.pic_resume.specs.declared.carry_stop.CarryStop.{CarryStop}
use Rattle.pic_resume.specs.declared.carry_stop.CarryStop.TheVariants.{Broken, WriteFault}
use Rattle.pic_resume.specs.Carry.{Kept, kept_pieces, kept_by, last_frame}
use Rattle.pic_resume.specs.Carries.{HoldsFrame, CanGoOn}
use Rattle.pic_resume.specs.Behind.{records_behind, kept_records, kept_behind, CarriesBehind}
use Rattle.pic_resume.proofs.KeptLaws.{kept_split, wrote_more, last_is, broken_late, good_split}

-- the snapshot has room for the frames of a layout, each field in one part
pub record HasRoom (l : LayoutView) (state : Snapshot) : Type 0 where
  pub e : state.e ≡ field_with l state.e.values
  pub b : state.b ≡ field_with l state.b.values
  pub particles : length state.particles.items ≡ sum l.counts

-- k good frames were read, of which the snapshot holds the last, and those that are kept were put
pub record Keeps (steps : ℕ) (r : Standing) (before : Told) (a : Sinks) (k : ℕ) (here : Standing) (now : Told) (b : Sinks) (step : ℕ) (state : Snapshot) : Type
    0 where
  pub follows : Follows r before k here now
  pub put : Wrote a b (outs (kept_pieces steps r.layout follows.frames)) (lines (kept_pieces steps r.layout follows.frames))
  pub holds : 0 < k → HoldsFrame r.layout (last_frame follows.frames) step state
  pub can : 0 < k → CanGoOn r.layout (last_frame follows.frames)

-- where reading begins
pub keeps_none : (steps : ℕ) (r : Standing) (before : Told) (a : Sinks) (step : ℕ) (state : Snapshot) → r.last ≡ None → 1 ≤ r.layout.every
    → Keeps steps r before a 0 r before a step state
unfolding follows_none
keeps_none steps r before a step state start least = record {
  follows = follows_none r before start least;
  put = wrote_none a;
  holds = λ some. absurd (omega (arith, some));
  can = λ some. absurd (omega (arith, some));
}

-- a field of the same shape
same_shape : (l : LayoutView) (old new : Field) → old ≡ field_with l old.values → IsSameShape old new → new ≡ field_with l new.values
same_shape l old new is shape =
    let cells : new.cells ≡ l.cells = shape.cells ∙ ap (λ (f : Field). f.cells) is in
    let side : new.side ≡ l.side = shape.side ∙ ap (λ (f : Field). f.side) is in
    let parts : new.parts ≡ record { x = 1; y = 1; z = 1 } = shape.parts ∙ ap (λ (f : Field). f.parts) is in
    (λ i. record { cells = cells i; side = side i; parts = parts i; values = new.values })

pub room_kept : (l : LayoutView) (old new : Snapshot) → HasRoom l old → IsSameShape old.e new.e → IsSameShape old.b new.b
    → length new.particles.items ≡ length old.particles.items → HasRoom l new
room_kept l old new has e b particles = record {
  e = same_shape l old.e new.e has.e e;
  b = same_shape l old.b new.b has.b b;
  particles = particles ∙ has.particles;
}

-- the frame that was read, from which a run can go on
can_go_on : (r : Standing) (before y z : Told) (k : ℕ) (here behind : Standing) (e b : Field) (particles : List Particle) (step : ℕ) (energies : Energies)
    → Follows r before k here y → HasFrame here y z e b particles behind step energies → break_of r.layout e.values particles ≡ None
    → CanGoOn r.layout (frame_of step e.values b.values particles energies)
can_go_on r before y z k here behind e b particles step energies so_far has none =
    let layout = so_far.on.layout in
    let most = has.most in
    record {
      step = omega (arith, most, ap (λ (l : LayoutView). l.steps) layout);
      readable = subst (λ l. IsReadableFrame l (frame_of step e.values b.values particles energies)) layout has.readable;
      gauss = is_gauss r.layout (frame_of step e.values b.values particles energies) none;
    }

-- a good frame, put where it is kept
pub keeps_frame : (steps : ℕ) (r : Standing) (before y z : Told) (a b c : Sinks) (k : ℕ) (here behind : Standing) (last : ℕ) (old state : Snapshot) (step : ℕ)
    (energies : Energies)
    → Keeps steps r before a k here y b last old → HasFrame here y z state.e state.b state.particles.items behind step energies
    → break_of r.layout state.e.values state.particles.items ≡ None → HasRoom r.layout state
    → Wrote b c (outs (kept_pieces steps r.layout (frame_of step state.e.values state.b.values state.particles.items energies ∷ [])))
    (lines (kept_pieces steps r.layout (frame_of step state.e.values state.b.values state.particles.items energies ∷ [])))
    → Keeps steps r before a (k + 1) behind z c step state
unfolding follows_frame
keeps_frame steps r before y z a b c k here behind last old state step energies so_far has none room put =
    let l = r.layout in
    let f = frame_of step state.e.values state.b.values state.particles.items energies in
    let frames = so_far.follows.frames in
    let goes = can_go_on r before y z k here behind state.e state.b state.particles.items step energies so_far.follows has none in
    let there = wrote_more a b c (kept_pieces steps l frames) (kept_pieces steps l (f ∷ [])) so_far.put put in
    let holds : HoldsFrame l f step state = record { step = refl; e = room.e; b = room.b; particles = refl } in
    record {
      follows = follows_frame r before y z k here behind state.e state.b state.particles.items step energies so_far.follows has none;
      put = subst (λ ps. Wrote a c (outs ps) (lines ps)) (sym (kept_split steps l frames (f ∷ []))) there;
      holds = λ some. subst (λ g. HoldsFrame l g step state) (sym (last_is frames f)) holds;
      can = λ some. subst (CanGoOn l) (sym (last_is frames f)) goes;
    }

-- what is kept of the records that were left, by what they are and the verdict on them
pub kept_are : (steps : ℕ) (r : Standing) (held : List ℕ) (records : RecordsRead) (verdict : Verdict) → records_of r held ≡ records
    → verdict_behind r.layout 0 records.0 records.1 ≡ verdict → kept_behind steps r held ≡ kept_by steps r.layout records.0 verdict
unfolding records_behind
kept_are steps r held records verdict is found = ap (kept_records steps r) is ∙ ap (kept_by steps r.layout records.0) found

-- a frame with a break
pub breaks_kept : (steps : ℕ) (r : Standing) (before y z : Told) (a b : Sinks) (k : ℕ) (here behind : Standing) (last : ℕ) (old state : Snapshot) (step : ℕ)
    (energies : Energies) (at : Break)
    → AreGood r before k y → Keeps steps r before a k here y b last old → HasFrame here y z state.e state.b state.particles.items behind step energies
    → break_of r.layout state.e.values state.particles.items ≡ Some at → CarriesBehind steps r before z a b state (Err (Broken k at))
unfolding records_behind
breaks_kept steps r before y z a b k here behind last old state step energies at good so_far has some =
    let l = r.layout in
    let f = frame_of step state.e.values state.b.values state.particles.items energies in
    let frames = so_far.follows.frames in
    let on = on_frame r before y z frames here behind state.e state.b state.particles.items step energies so_far.follows.on has in
    let (rest, left) = some_rest z in
    let (held, was, is) = on.follows rest left in
    let more = read_on (suc on.n) l behind.last (input behind.place rest) in
    let verdict : verdict_behind l 0 ((frames ++ f ∷ []) ++ more.0) more.1 ≡ Err (verify.Broken k at) = by_break r before y k here so_far.follows f more
    ∙ ap (λ o. unless_broken k o (verdict_behind l (suc k) more.0 more.1)) some in
    let kept = kept_are steps r held (with_frames (frames ++ f ∷ []) more) (Err (verify.Broken k at)) is verdict in
    let front : take k ((frames ++ f ∷ []) ++ more.0) ≡ frames = ap (take k) (append_assoc frames (f ∷ []) more.0)
    ∙ ap (λ n. take n (frames ++ f ∷ more.0)) (sym so_far.follows.count)
    ∙ take-append_seam frames (f ∷ more.0) in
    let pieces : (kept_behind steps r held).pieces ≡ kept_pieces steps l frames = ap (λ (q : Kept). q.pieces) kept ∙ ap (kept_pieces steps l) front in
    let walks = breaks_frame r before y z k here behind state.e state.b state.particles.items step energies at so_far.follows has some in
    record {
      answer = record {
        calm = on.calm;
        held = held;
        was = was;
        put = subst (λ ps. Wrote a b (outs ps) (lines ps)) (sym pieces) so_far.put;
        answered = ap (λ (q : Kept). q.answer) kept;
      };
      moves = walks.moves;
      reaches = reached_frame r before y z k here behind state.e state.b state.particles.items step energies good so_far.follows has;
    }

-- no more was taken for good frames than the header allows
follows_moves : (r : Standing) (before y : Told) (k : ℕ) (here : Standing) → Follows r before k here y
    → Moves r.place (r.place + (records_length r.layout + 1)) before y
follows_moves r before y k here so_far =
    let fits = frames_fit r.layout k here.last so_far.least so_far.went in
    moves_up (omega (arith, fits, place_of r before k here y so_far)) so_far.on.moves

-- the put of a good frame that is kept failed
pub cuts_kept : (steps : ℕ) (side : Side) (r : Standing) (before y z : Told) (a b c : Sinks) (k : ℕ) (here behind : Standing) (last : ℕ)
    (old state : Snapshot) (step : ℕ) (energies : Energies)
    → AreGood r before k y → Keeps steps r before a k here y b last old → HasFrame here y z state.e state.b state.particles.items behind step energies
    → break_of r.layout state.e.values state.particles.items ≡ None
    → CutAt side b c (kept_pieces steps r.layout (frame_of step state.e.values state.b.values state.particles.items energies ∷ []))
    → CarriesBehind steps r before z a c state (Err (WriteFault side))
unfolding records_behind follows_frame
cuts_kept steps side r before y z a b c k here behind last old state step energies good so_far has none cut =
    let l = r.layout in
    let f = frame_of step state.e.values state.b.values state.particles.items energies in
    let frames = so_far.follows.frames in
    let goes = follows_frame r before y z k here behind state.e state.b state.particles.items step energies so_far.follows has none in
    let (rest, left) = some_rest z in
    let (held, was, is) = goes.on.follows rest left in
    let more = read_on (suc goes.on.n) l behind.last (input behind.place rest) in
    let records = with_frames (frames ++ f ∷ []) more in
    let verdict = verdict_behind l 0 records.0 records.1 in
    let found : verdict ≡ verdict_behind l (k + 1) more.0 more.1 = goes.good more in
    let (others, split) = good_split (frames ++ f ∷ []) more.0 verdict
    (λ j at broken. (let later = broken_late l (k + 1) j more.0 more.1 at (sym found ∙ broken) in omega (arith, later, goes.count))) in
    let kept = kept_are steps r held records verdict is refl in
    let pieces : (kept_behind steps r held).pieces
    ≡ kept_pieces steps l frames ++ (kept_pieces steps l (f ∷ []) ++ kept_pieces steps l others) =
    ap (λ (q : Kept). q.pieces) kept
    ∙ ap (kept_pieces steps l) (split ∙ append_assoc frames (f ∷ []) others)
    ∙ kept_split steps l frames (f ∷ others)
    ∙ ap (λ ps. kept_pieces steps l frames ++ ps) (kept_split steps l (f ∷ []) others) in
    let all = cut_later side a b c (kept_pieces steps l frames) (kept_pieces steps l (f ∷ []) ++ kept_pieces steps l others) so_far.put
    (cut_more side b c (kept_pieces steps l (f ∷ [])) (kept_pieces steps l others) cut) in
    record {
      answer = record { calm = goes.on.calm; held = held; was = was; cut = subst (CutAt side a c) (sym pieces) all };
      moves = follows_moves r before z (k + 1) behind goes;
      reaches = reached_frame r before y z k here behind state.e state.b state.particles.items step energies good so_far.follows has;
    }

-- an answer that a call handed on
pub behind_err : (steps : ℕ) (r : Standing) (before now : Told) (a b : Sinks) (state : Snapshot) (stop : CarryStop) (result : Result ℕ CarryStop)
    → IsErrAnd result (λ u. u ≡ stop) → CarriesBehind steps r before now a b state (Err stop) → CarriesBehind steps r before now a b state result
behind_err steps r before now a b state stop result is has =
    let q = err_from_is_err_and result is in
    rw (q.1, q.2) has
