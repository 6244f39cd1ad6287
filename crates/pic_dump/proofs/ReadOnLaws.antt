-- The records of a dump, read one after another.
use Rattle.std.proofs.Common.{◌≡◌, ℕ, suc, ◌+◌, ◌-◌, ◌*◌, ◌≤◌, List, [], ◌∷◌, ◌++◌, length, Option, Some, None, Ok, Err}
use Rattle.std.proofs.Common.{refl, sym, ap, subst, ◌∙◌, arith, append_assoc, append-nil, length-append, add-one}
use Rattle.pic_io.specs.Told.{Told, Calm}
use Rattle.pic_num.specs.declared.motion.Particle.{Particle}
use Rattle.pic_grid.specs.declared.stop.EndMark.{EndMark}
use Rattle.pic_grid.specs.Lattice.{Field}
use Rattle.pic_energy.specs.declared.amounts.Energies.{Energies}
use Rattle.pic_fields.specs.Parser.{Input, input, Fault}
use Rattle.pic_fields.specs.Reads.{Left, Moves, Fails, HasReadAll}
use Rattle.pic_fields.proofs.ReadLaws.{moves_none, none_size, moves_then, then_size}
use Rattle.pic_record.specs.Due.{due_after}
use Rattle.pic_record.specs.FrameFields.{FrameView, frame_of, frame_length}
use Rattle.pic_record.specs.Layout.{LayoutView}
use Rattle.pic_record.specs.Records.{AFrame, AnEnd, record_at}
use Rattle.pic_dump.specs.DumpRead.{RecordsRead, with_frame, of_parsed, read_on}
use Rattle.pic_dump.specs.InTurn.{due_step, step_before}
use Rattle.pic_dump.specs.NextReads.{HasFrame}
use Rattle.pic_dump.specs.Standing.{Standing, passed}
use Rattle.pic_dump.proofs.TurnLaws.{due_is_step}

-- a record of each kind
pub read_on_frame : (n : ℕ) (l : LayoutView) (last : Option ℕ) (i j : Input) (f : FrameView) → record_at l last i ≡ Ok (AFrame f, j)
    → read_on (suc n) l last i ≡ with_frame f (read_on n l (Some f.step) j)
unfolding read_on
read_on_frame n l last i j f is = ap (of_parsed (λ step rest. read_on n l (Some step) rest)) is

pub read_on_end : (n : ℕ) (l : LayoutView) (last : Option ℕ) (i j : Input) (mark : EndMark) → record_at l last i ≡ Ok (AnEnd mark, j)
    → read_on (suc n) l last i ≡ ([], Ok mark)
unfolding read_on
read_on_end n l last i j mark is = ap (of_parsed (λ step rest. read_on n l (Some step) rest)) is

pub read_on_fault : (n : ℕ) (l : LayoutView) (last : Option ℕ) (i : Input) (f : Fault) → record_at l last i ≡ Err f
    → read_on (suc n) l last i ≡ ([], Err f)
unfolding read_on
read_on_fault n l last i f is = ap (of_parsed (λ step rest. read_on n l (Some step) rest)) is

-- records behind frames
abbrev pub with_frames : List FrameView → RecordsRead → RecordsRead
with_frames frames rest = (frames ++ rest.0, rest.1)

-- all records where a reader stood before any frame
abbrev pub records_of : Standing → List ℕ → RecordsRead
records_of r held = read_on (r.layout.steps + 2) r.layout None (input r.place held)

-- these frames were read, after which a reader stands here, and n records may follow
pub record HasReadOn (r : Standing) (before : Told) (frames : List FrameView) (here : Standing) (now : Told) : Type 0 where
  pub calm : Calm before now
  pub layout : here.layout ≡ r.layout
  pub moves : Moves r.place here.place before now
  pub whole : r.place + length moves.front ≡ here.place
  pub place : here.place ≡ r.place + length frames * (1 + frame_length r.layout)
  pub last : here.last ≡ step_before r.layout (length frames)
  pub few : length frames ≤ passed here.last
  pub most : passed here.last ≤ r.layout.steps + 1
  pub n : ℕ
  pub left : length frames + n ≡ r.layout.steps + 1
  pub follows : (rest : List ℕ) → Left now rest → (held : List ℕ) × Left before held
      × (records_of r held ≡ with_frames frames (read_on (suc n) r.layout here.last (input here.place rest)))

-- where reading begins
pub on_none : (r : Standing) (before : Told) → r.last ≡ None → HasReadOn r before [] r before
on_none r before start =
    let steps = r.layout.steps in
    let two : steps + 2 ≡ suc (steps + 1) = omega arith in
    let none : passed r.last ≡ 0 = ap passed start in
    record {
      calm = refl;
      layout = refl;
      moves = moves_none r.place before;
      whole = omega (arith, none_size r.place before);
      place = omega arith;
      last = start;
      few = omega arith;
      most = omega (arith, none);
      n = steps + 1;
      left = omega arith;
      follows = λ rest left. (
        rest,
        left,
        ap (λ m. read_on m r.layout None (input r.place rest)) two ∙ ap (λ o. read_on (suc (steps + 1)) r.layout o (input r.place rest)) (sym start),
      );
    }

-- a frame more
pub more_frames : (frames : List FrameView) (f : FrameView) (rest : RecordsRead) → with_frames frames (with_frame f rest) ≡ with_frames (frames ++ f ∷ []) rest
more_frames frames f rest = λ i. (sym (append_assoc frames (f ∷ []) rest.0) i, rest.1)

pub on_frame : (r : Standing) (before y z : Told) (frames : List FrameView) (here behind : Standing) (e b : Field) (particles : List Particle) (step : ℕ)
    (energies : Energies)
    → HasReadOn r before frames here y → HasFrame here y z e b particles behind step energies
    → HasReadOn r before (frames ++ frame_of step e.values b.values particles energies ∷ []) behind z
on_frame r before y z frames here behind e b particles step energies so_far has =
    let l = r.layout in
    let f = frame_of step e.values b.values particles energies in
    let k = length frames in
    let size : length (frames ++ f ∷ []) ≡ k + 1 = length-append frames (f ∷ []) in
    let one_frame = 1 + frame_length l in
    let length_more : (k + 1) * one_frame ≡ k * one_frame + one_frame = omega arith in
    let text : length (frames ++ f ∷ []) * one_frame ≡ (k + 1) * one_frame = ap (λ n. n * one_frame) size in
    let steps = ap (λ (m : LayoutView). m.steps) so_far.layout in
    let passed_is : passed behind.last ≡ step + 1 = ap passed has.last in
    let few = so_far.few in
    let later = has.later in
    let most = has.most in
    let count = so_far.left in
    let n = so_far.n in
    let length_is : frame_length here.layout ≡ frame_length l = ap frame_length so_far.layout in
    let due = ap (λ (m : LayoutView). due_after m.steps m.every here.last) (sym so_far.layout) ∙ has.due in
    let step_is = due_is_step l k step (ap (due_after l.steps l.every) (sym so_far.last) ∙ due) in
    let next : step_before l (length (frames ++ f ∷ [])) ≡ Some (due_step l k) = ap (step_before l) (size ∙ add-one k) in
    let one_less : n ≡ suc (n - 1) = omega (arith, few, later, most, count, steps) in
    record {
      calm = has.read.calm ∙ so_far.calm;
      layout = has.layout ∙ so_far.layout;
      moves = moves_then so_far.moves has.read.moves;
      whole = omega (arith, so_far.whole, has.read.whole, then_size so_far.moves has.read.moves);
      place = omega (arith, so_far.place, has.place, length_is, length_more, text);
      last = has.last ∙ ap (λ s. Some s) step_is ∙ sym next;
      few = omega (arith, passed_is, few, later, size);
      most = omega (arith, passed_is, most, steps);
      n = n - 1;
      left = omega (arith, one_less, count, size);
      follows = λ rest left. (let (h2, left2, e2) = has.read.reads rest left in
          let i = input behind.place rest in
          let is = subst (λ m. record_at m here.last (input here.place h2) ≡ Ok (AFrame f, i)) so_far.layout e2 in
          let (h1, left1, e1) = so_far.follows h2 left2 in (
            h1,
            left1,
            e1
                ∙ ap (with_frames frames) (read_on_frame n l here.last (input here.place h2) i f is)
                ∙ more_frames frames f (read_on n l (Some step) i)
                ∙ ap (λ m. with_frames (frames ++ f ∷ []) (read_on m l (Some step) i)) one_less
                ∙ ap (λ o. with_frames (frames ++ f ∷ []) (read_on (suc (n - 1)) l o i)) (sym has.last),
          ));
    }

-- the end record, or the first fault
pub on_end : (r : Standing) (before y z : Told) (frames : List FrameView) (here : Standing) (most : ℕ) (mark : EndMark)
    → HasReadOn r before frames here y → HasReadAll (record_at here.layout here.last) here.place most y (AnEnd mark) z
    → (held : List ℕ) × Left before held × (records_of r held ≡ (frames, Ok mark))
on_end r before y z frames here most mark so_far has =
    let is = subst (λ l. record_at l here.last (input here.place has.held) ≡ Ok (AnEnd mark, input has.stop [])) so_far.layout has.reads in
    let (held, was, e1) = so_far.follows has.held has.was in (
      held,
      was,
      e1
          ∙ ap (with_frames frames) (read_on_end so_far.n r.layout here.last (input here.place has.held) (input has.stop []) mark is)
          ∙ (λ i. (append-nil frames i, Ok mark)),
    )

pub on_fault : (r : Standing) (before y z : Told) (frames : List FrameView) (here : Standing) (f : Fault)
    → HasReadOn r before frames here y → Fails (record_at here.layout here.last) here.place y f z
    → (held : List ℕ) × Left before held × (records_of r held ≡ (frames, Err f))
on_fault r before y z frames here f so_far fails =
    let is = subst (λ l. record_at l here.last (input here.place fails.held) ≡ Err f) so_far.layout fails.fails in
    let (held, was, e1) = so_far.follows fails.held fails.was in (
      held,
      was,
      e1
          ∙ ap (with_frames frames) (read_on_fault so_far.n r.layout here.last (input here.place fails.held) f is)
          ∙ (λ i. (append-nil frames i, Err f)),
    )
