-- How many parts of a dump are whole before a place is one number.
use Rattle.std.proofs.Common.{◌≡◌, ℕ, zero, suc, ◌+◌, ◌*◌, ◌<◌, ◌≤◌, length, Option, Some, None, Ok, Err, inl, inr, sym, ap, ◌∙◌, refl, arith}
use Rattle.std.proofs.Math.Nat.{mul-le-mul_right}
use Rattle.std.proofs.lemmas.Bool.{cases_lt}
use Rattle.pic_fields.specs.Parser.{Input, input, Parsed}
use Rattle.pic_header.specs.Header.{HeaderView}
use Rattle.pic_header.specs.HeaderFields.{header_at}
use Rattle.pic_record.specs.Due.{due_after}
use Rattle.pic_record.specs.FrameFields.{frame_length}
use Rattle.pic_record.specs.Layout.{LayoutView, layout_of}
use Rattle.pic_record.specs.Records.{RecordView, AFrame, AnEnd, record_at}
use Rattle.pic_record.proofs.FormatLaws.{frame_read}
use Rattle.pic_dump.specs.DumpRead.{of_parsed, read_on, of_header, read_dump}
use Rattle.pic_dump.specs.InTurn.{step_before}
use Rattle.pic_dump.specs.NextReads.{most_of}
use Rattle.pic_dump.specs.Whole.{most_at, parts_of, dump_parts, AreWhole, WholeIsExact}
use Rattle.pic_dump.proofs.TurnLaws.{due_is_step}

-- a record that was read as a frame has a frame's length at most
of_record : (l : LayoutView) (n k : ℕ) (last : Option ℕ) (i : Input) → last ≡ step_before l k
    → ((step : ℕ) (rest : Input) → Some step ≡ step_before l (suc k) → (j : ℕ) → j < length (read_on n l (Some step) rest).0
    → most_at l (suc k + j) ≡ 1 + frame_length l)
    → (r : Parsed RecordView) → record_at l last i ≡ r → (j : ℕ) → j < length (of_parsed (λ step rest. read_on n l (Some step) rest) r).0
    → most_at l (k + j) ≡ 1 + frame_length l
of_record l n k last i same behind (Err f) is j less = absurd (omega (arith, less))
of_record l n k last i same behind (Ok (AnEnd mark, rest)) is j less = absurd (omega (arith, less))
of_record l n k last i same behind (Ok (AFrame f, rest)) is zero less =
    let due = (frame_read l last i rest f is).due in
    let here : k + 0 ≡ k = omega arith in
    ap (most_at l) here ∙ ap (λ s. most_of l (due_after l.steps l.every s)) (sym same) ∙ ap (most_of l) due
of_record l n k last i same behind (Ok (AFrame f, rest)) is (suc j) less =
    let due = (frame_read l last i rest f is).due in
    let step = due_is_step l k f.step (ap (due_after l.steps l.every) (sym same) ∙ due) in
    let next : k + suc j ≡ suc k + j = omega arith in
    ap (most_at l) next ∙ behind f.step rest (ap Some step) j (omega (arith, less))

of_frames : (n : ℕ) (l : LayoutView) (k : ℕ) (last : Option ℕ) (i : Input) → last ≡ step_before l k → (j : ℕ) → j < length (read_on n l last i).0
    → most_at l (k + j) ≡ 1 + frame_length l
unfolding read_on
of_frames zero l k last i same j less = absurd (omega (arith, less))
of_frames (suc n) l k last i same j less =
    of_record l n k last i same (λ step rest next m under. of_frames n l (suc k) (Some step) rest next m under) (record_at l last i) refl j less

-- so a part that is whole ends where the next one begins
abbrev frames_in : HeaderView → Input → ℕ
frames_in h i = length (read_on (h.steps + 2) (layout_of h) None i).0

ends_there : (h : HeaderView) (i : Input) (k : ℕ) → k < suc (frames_in h i)
    → (parts_of h (frames_in h i)).end k ≡ (parts_of h (frames_in h i)).begin (suc k)
ends_there h i zero less = omega arith
ends_there h i (suc k) less =
    let l = layout_of h in
    let length_is = of_frames (h.steps + 2) l 0 None i refl k (omega (arith, less)) in
    let here : 0 + k ≡ k = omega arith in
    let most : most_at l k ≡ 1 + frame_length l = ap (most_at l) (sym here) ∙ length_is in
    let more : suc k * (1 + frame_length l) ≡ k * (1 + frame_length l) + (1 + frame_length l) = omega arith in
    omega (arith, most, more)

-- two numbers, of which one is less
apart : (h : HeaderView) (i : Input) (place m n : ℕ) → m < n
    → AreWhole (parts_of h (frames_in h i)) place m → AreWhole (parts_of h (frames_in h i)) place n → ⊥
apart h i place m zero less first second = omega (arith, less)
apart h i place m (suc n) less first second =
    let l = layout_of h in
    let end = ends_there h i m (omega (arith, less, second.few)) in
    let before : m * (1 + frame_length l) ≤ n * (1 + frame_length l) = mul-le-mul_right (1 + frame_length l) (omega (arith, less)) in
    omega (arith, first.next, second.ended, end, before)

pub whole_is_exact : WholeIsExact
unfolding read_dump
whole_is_exact bytes place m n first second = go (header_at (input 0 bytes)) first second
  where
    go : (r : Parsed HeaderView) → AreWhole (dump_parts (of_header r)) place m → AreWhole (dump_parts (of_header r)) place n → m ≡ n
    go (Err f) one two = omega (arith, one.few, two.few)
    go (Ok (h, i)) one two = elim (cases_lt m n) [
      | inl less ↦ absurd (apart h i place m n less one two)
      | inr over ↦ elim (cases_lt n m) [
        | inl more ↦ absurd (apart h i place n m more two one)
        | inr under ↦ omega (arith, over, under)
      ]
    ]
