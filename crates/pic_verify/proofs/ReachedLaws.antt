-- How far a dump was read.
use Rattle.std.proofs.Common.{◌≡◌, ℕ, suc, ◌+◌, ◌*◌, ◌<◌, ◌≤◌, ◌⊎◌, List, ◌++◌, length, drop, Option, Some, None, Ok, Err, inl, inr}
use Rattle.std.proofs.Common.{refl, sym, ap, subst, ◌∙◌, arith, length-append}
use Rattle.std.proofs.Math.Seq.{drop-append_seam}
use Rattle.std.proofs.lemmas.Bool.{cases_lt}
use Rattle.std.proofs.lemmas.List.{drop-drop}
use Rattle.pic_io.specs.Told.{Told}
use Rattle.pic_io.specs.Source.{with_front}
use Rattle.pic_num.specs.declared.motion.Particle.{Particle}
use Rattle.pic_grid.specs.Lattice.{Field}
use Rattle.pic_energy.specs.declared.amounts.Energies.{Energies}
use Rattle.pic_fields.specs.Parser.{Input, input, Parsed}
use Rattle.pic_fields.specs.Reads.{Left, Moves, HasRead}
use Rattle.pic_fields.proofs.ReadLaws.{moves_then, some_rest}
use Rattle.pic_record.specs.Due.{due_after}
use Rattle.pic_header.specs.Header.{HeaderView}
use Rattle.pic_record.specs.FrameFields.{FrameView, frame_of, frame_length}
use Rattle.pic_header.specs.HeaderFields.{header_at, header_most}
use Rattle.pic_header.specs.HeadReads.{HeadReads, reach_of, TakesWithin}
use Rattle.pic_header.specs.declared.head_stop.HeadStop.{HeadStop}
use Rattle.pic_record.specs.Layout.{LayoutView, layout_of}
use Rattle.pic_dump.specs.InTurn.{due_step, step_before}
use Rattle.pic_dump.proofs.TurnLaws.{due_is_step}
use Rattle.pic_dump.specs.NextReads.{HasFrame, most_of, record_most}
use Rattle.pic_record.specs.Records.{AFrame, record_at}
use Rattle.pic_dump.specs.Standing.{Standing}
use Rattle.pic_header.proofs.WithinLaws.{told_held, read_told}
use Rattle.pic_verify.specs.Verified.{break_of}
use Rattle.pic_dump.specs.Whole.{most_at, record_place}
use Rattle.pic_verify.specs.Meaning.{bytes_from, IsGood}
use Rattle.pic_dump.specs.Allowed.{IsInHeader}
use Rattle.pic_verify.specs.Reached.{ReachesRecord, TakesToRecord, IsGoodAt, Reaches}
use Rattle.pic_record.proofs.FormatLaws.{frame_read}
use Rattle.pic_verify.proofs.MeaningLaws.{header_end, is_gauss}
use Rattle.pic_dump.proofs.TakenLaws.{takes_head, taken_size}
use Rattle.pic_verify.proofs.VerdictLaws.{behind}
use Rattle.pic_verify.proofs.WalkLaws.{Follows, place_of, last_of}

-- so many good frames were read, and these bytes are left
pub record GoodSoFar (l : LayoutView) (place : ℕ) (bytes : List ℕ) (k : ℕ) (now : Told) : Type 0 where
  pub frames : (j : ℕ) → j < k → IsGoodAt l (place + j * (1 + frame_length l)) (drop (j * (1 + frame_length l)) bytes) j
  pub left : now.bytes ≡ Some (drop (k * (1 + frame_length l)) bytes)

pub record AreGood (r : Standing) (before : Told) (k : ℕ) (now : Told) : Type 0 where
  pub so_far : (bytes : List ℕ) → before.bytes ≡ Some bytes → GoodSoFar r.layout r.place bytes k now

pub good_none : (r : Standing) (before : Told) → AreGood r before 0 before
good_none r before = record {
  so_far = λ bytes told. (let none : 0 ≡ 0 * (1 + frame_length r.layout) = omega arith in
      record { frames = λ j less. absurd (omega (arith, less)); left = told ∙ ap (λ n. Some (drop n bytes)) none });
}

-- what is known of a front that was taken
front_taken : (front d : List ℕ) (known : Option (List ℕ)) → Some d ≡ with_front front known → (rest : List ℕ) × (known ≡ Some rest) × (d ≡ front ++ rest)
front_taken front d None is = absurd cc
front_taken front d (Some rest) is = (rest, refl, let same : d ≡ front ++ rest = cc in same)

one_more : (place k f : ℕ) → place + (k + 1) * f ≡ place + k * f + f
one_more place k f = let more : (k + 1) * f ≡ k * f + f = omega arith in omega (arith, more)

-- a frame that was read stands where the format says
record Stood (l : LayoutView) (place : ℕ) (d : List ℕ) (k : ℕ) (step : ℕ) (now : Told) : Type 0 where
  good : IsGoodAt l place d k
  left : now.bytes ≡ Some (drop (1 + frame_length l) d)
  due : step ≡ due_step l k

stood : (l : LayoutView) (place end : ℕ) (d rest front : List ℕ) (k : ℕ) (f : FrameView) (z : Told)
    → record_at l (step_before l k) (input place d) ≡ Ok (AFrame f, input end rest) → Some d ≡ with_front front z.bytes → Left z rest
    → end ≡ place + (1 + frame_length l) → break_of l f.e f.particles ≡ None → Stood l place d k f.step z
stood l place end d rest front k f z is moved left far none =
    let read = frame_read l (step_before l k) (input place d) (input end rest) f is in
    let size = read.size in
    let (back, known, parts) = front_taken front d z.bytes moved in
    let same : rest ≡ back = told_held z.bytes back rest known left in
    let both : length d ≡ length front + length back = ap (λ (b : List ℕ). length b) parts ∙ length-append front back in
    let so : length front ≡ 1 + frame_length l = omega (arith, both, size, ap (λ (b : List ℕ). length b) same) in
    let there : drop (1 + frame_length l) d ≡ back =
    ap (λ b. drop (1 + frame_length l) b) parts ∙ ap (λ n. drop n (front ++ back)) (sym so) ∙ drop-append_seam front back in
    let due = due_is_step l k f.step read.due in
    record {
      good = record {
        frame = f;
        reads = is ∙ ap (λ n. Ok (AFrame f, input n rest)) far ∙ ap (λ b. Ok (AFrame f, input (place + (1 + frame_length l)) b)) (same ∙ sym there);
        step = due;
        gauss = is_gauss l f none;
      };
      left = known ∙ ap (λ b. Some b) (sym there);
      due = due;
    }

more_good : (l : LayoutView) (place : ℕ) (bytes : List ℕ) (k step : ℕ) (y z : Told) → GoodSoFar l place bytes k y
    → Stood l (place + k * (1 + frame_length l)) (drop (k * (1 + frame_length l)) bytes) k step z → GoodSoFar l place bytes (k + 1) z
more_good l place bytes k step y z before here =
    let f = 1 + frame_length l in
    let more : (k + 1) * f ≡ k * f + f = omega arith in
    record {
      frames = λ j less. elim (cases_lt j k) [
        | inl under ↦ before.frames j under
        | inr over ↦ (let same : k ≡ j = omega (arith, less, over) in subst (λ i. IsGoodAt l (place + i * f) (drop (i * f) bytes) i) same here.good)
      ];
      left = here.left ∙ ap (λ b. Some b) (drop-drop f (k * f) bytes ∙ ap (λ n. drop n bytes) (sym more));
    }

pub good_frame : (r : Standing) (before y z : Told) (k : ℕ) (here back : Standing) (e b : Field) (particles : List Particle) (step : ℕ) (energies : Energies)
    → AreGood r before k y → Follows r before k here y → HasFrame here y z e b particles back step energies
    → break_of r.layout e.values particles ≡ None → AreGood r before (k + 1) z
good_frame r before y z k here back e b particles step energies good follows has none =
    let l = r.layout in
    let f = 1 + frame_length l in
    let frame = frame_of step e.values b.values particles energies in
    let length_is : frame_length here.layout ≡ frame_length l = ap frame_length follows.on.layout in
    let place = place_of r before k here y follows in
    let last = last_of r before k here y follows in
    let end : back.place ≡ r.place + k * f + f = omega (arith, place, has.place, length_is) in
    record {
      so_far = λ bytes told. (let so_far = good.so_far bytes told in
          let d = drop (k * f) bytes in
          let (rest, left) = some_rest z in
          let (h, was, reads) = has.read.reads rest left in
          let same : h ≡ d = told_held y.bytes d h so_far.left was in
          let is = subst (λ (i : List ℕ). record_at l (step_before l k) (input (r.place + k * f) i) ≡ Ok (AFrame frame, input back.place rest)) same
          (subst (λ (n : ℕ). record_at l (step_before l k) (input n h) ≡ Ok (AFrame frame, input back.place rest)) place
          (subst (λ (o : Option ℕ). record_at l o (input here.place h) ≡ Ok (AFrame frame, input back.place rest)) last
          (subst (λ (m : LayoutView). record_at m here.last (input here.place h) ≡ Ok (AFrame frame, input back.place rest)) follows.on.layout reads))) in
          more_good l r.place bytes k step y z so_far
          (stood l (r.place + k * f) back.place d rest has.read.moves.front k frame z is (sym so_far.left ∙ has.read.moves.moved) left end none));
    }

-- where reading ended: with the record where a reader stands, or behind a frame
pub reached_record : (r : Standing) (before y z : Told) (k : ℕ) (here : Standing) → AreGood r before k y → Follows r before k here y
    → Moves here.place (here.place + record_most here) y z → Reaches r before z
reached_record r before y z k here good follows moves =
    let l = r.layout in
    let most : record_most here ≡ most_at l k =
    ap (λ (m : LayoutView). most_of m (due_after m.steps m.every here.last)) follows.on.layout
    ∙ ap (λ (o : Option ℕ). most_of l (due_after l.steps l.every o)) (last_of r before k here y follows) in
    let place = place_of r before k here y follows in
    let end : here.place + record_most here ≡ r.place + k * (1 + frame_length l) + most_at l k = omega (arith, place, most) in
    record {
      number = k;
      frames = λ bytes told. (good.so_far bytes told).frames;
      moves = subst (λ n. Moves r.place n before z) end (moves_then follows.on.moves moves);
    }

pub reached_frame : (r : Standing) (before y z : Told) (k : ℕ) (here back : Standing) (e b : Field) (particles : List Particle) (step : ℕ) (energies : Energies)
    → AreGood r before k y → Follows r before k here y → HasFrame here y z e b particles back step energies → Reaches r before z
reached_frame r before y z k here back e b particles step energies good follows has =
    let most : record_most here ≡ 1 + frame_length here.layout = ap (λ (o : Option ℕ). most_of here.layout o) has.due in
    let end : back.place ≡ here.place + record_most here = omega (arith, has.place, most) in
    reached_record r before y z k here good follows (subst (λ n. Moves here.place n y z) end has.read.moves)

-- from the start of the input
good_in : (bytes : List ℕ) (h : HeaderView) (rest : List ℕ) (place k : ℕ) → place ≡ record_place h 0 → rest ≡ drop (record_place h 0) bytes
    → IsGoodAt (layout_of h) (place + k * (1 + frame_length (layout_of h))) (drop (k * (1 + frame_length (layout_of h))) rest) k → IsGood bytes h k
good_in bytes h rest place k place_is rest_is good =
    let f = 1 + frame_length (layout_of h) in
    let here : place + k * f ≡ record_place h k = omega (arith, place_is) in
    let sum : record_place h 0 + k * f ≡ record_place h k = omega arith in
    let left : drop (k * f) rest ≡ drop (record_place h k) bytes =
    ap (drop (k * f)) rest_is ∙ drop-drop (k * f) (record_place h 0) bytes ∙ ap (λ n. drop n bytes) sum in
    let at = subst (λ (b : List ℕ). IsGoodAt (layout_of h) (record_place h k) b k) left
    (subst (λ (n : ℕ). IsGoodAt (layout_of h) n (drop (k * f) rest) k) here good) in
    let more : suc k * f ≡ k * f + f = omega arith in
    let next : record_place h k + f ≡ record_place h (suc k) = omega (arith, more) in
    record {
      frame = at.frame;
      is = record {
        reads = at.reads
            ∙ ap (λ b. Ok (AFrame at.frame, input (record_place h k + f) b)) (drop-drop f (record_place h k) bytes)
            ∙ ap (λ n. Ok (AFrame at.frame, bytes_from bytes n)) next;
        step = at.step;
      };
      gauss = at.gauss;
    }

-- no byte behind a header
by_record : (bytes : List ℕ) (n : ℕ) (r : Parsed HeaderView) → header_at (input 0 bytes) ≡ r → n ≤ header_most → n ≤ reach_of r
    → IsInHeader bytes n ⊎ ReachesRecord bytes n
by_record bytes n (Ok x) is most near =
    let end = (header_end bytes x.0 x.1 is).end in
    let place_is : x.1.place ≡ record_place x.0 0 = ap (λ (i : Input). i.place) end in
    inr (record {
      header = x.0;
      number = 0;
      begins = record { header = is ∙ ap (λ i. Ok (x.0, i)) end; good = λ k less. absurd (omega (arith, less)) };
      most = omega (arith, near, place_is);
    })
by_record bytes n (Err f) is most near = inl (record { fault = f; fails = is; most = most; near = near })

pub stops_reached : {B : Type 0} (view : B → HeaderView) (end : HeaderView → ℕ) (x z : Told) (stop : HeadStop)
    → HeadReads view header_at 0 end header_most x z (Err stop) → TakesWithin header_at 0 x z → TakesToRecord x z
stops_reached view end x z stop first within =
    let moves = takes_head view end x z stop first in
    let most = moves.most in
    record {
      front = moves.front;
      taken = moves.moved;
      most = λ bytes told. by_record bytes (length moves.front) (header_at (input 0 bytes)) refl (omega (arith, most))
          (taken_size x z moves bytes within told);
    }

pub reached_head : (h : HeaderView) (place : ℕ) (x y : Told) → HasRead header_at 0 x h place y → TakesToRecord x y
reached_head h place x y first =
    let most = first.moves.most in
    record {
      front = first.moves.front;
      taken = first.moves.moved;
      most = λ bytes told. inr (let (rest, left, read) = read_told bytes first told in
          let end = (header_end bytes h (input place rest) read).end in
          let place_is : place ≡ record_place h 0 = ap (λ (i : Input). i.place) end in
          record {
            header = h;
            number = 0;
            begins = record { header = read ∙ ap (λ i. Ok (h, i)) end; good = λ k less. absurd (omega (arith, less)) };
            most = omega (arith, most, place_is);
          });
    }

-- behind a header
pub reached_behind : (h : HeaderView) (place : ℕ) (r : Standing) (x y z : Told) → HasRead header_at 0 x h place y → r ≡ behind h place → Reaches r y z
    → TakesToRecord x z
reached_behind h place r x y z first is reaches =
    let there = rw is at reaches in
    let moves = moves_then first.moves there.moves in
    let most = moves.most in
    record {
      front = moves.front;
      taken = moves.moved;
      most = λ bytes told. inr (let (rest, left, read) = read_told bytes first told in
          let end = (header_end bytes h (input place rest) read).end in
          let place_is : place ≡ record_place h 0 = ap (λ (i : Input). i.place) end in
          let rest_is : rest ≡ drop (record_place h 0) bytes = ap (λ (i : Input). i.bytes) end in
          let (back, known, parts) = front_taken first.moves.front bytes y.bytes (sym told ∙ first.moves.moved) in
          let here : y.bytes ≡ Some rest = known ∙ ap (λ b. Some b) (sym (told_held y.bytes back rest known left)) in
          let number = there.number in
          let base : record_place h number ≡ place + number * (1 + frame_length (layout_of h)) = omega (arith, place_is) in
          record {
            header = h;
            number = number;
            begins = record {
              header = read ∙ ap (λ i. Ok (h, i)) end;
              good = λ k less. good_in bytes h rest place k place_is rest_is (there.frames rest here k less);
            };
            most = omega (arith, most, base);
          });
    }
