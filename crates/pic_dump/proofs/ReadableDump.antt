-- A dump of a header, frames in turn and an end record is read from its text.
use Rattle.std.proofs.Common.{◌≡◌, ℕ, suc, ◌+◌, ◌-◌, ◌<◌, List, [], ◌∷◌, ◌++◌, length, get_or, Some, Ok, ap, subst, ◌∙◌, arith, append_assoc}
use Rattle.std.specs.List.{flat_map}
use Rattle.pic_grid.specs.declared.stop.EndMark.{EndMark}
use Rattle.pic_fields.specs.Parser.{input}
use Rattle.pic_header.specs.HeaderFields.{header_at}
use Rattle.pic_header.specs.HeaderText.{header_bytes}
use Rattle.pic_header.proofs.ReadableHeader.{headers_are_read}
use Rattle.pic_record.specs.FrameFields.{FrameView}
use Rattle.pic_record.specs.Layout.{LayoutView, IsLayout, layout_of}
use Rattle.pic_record.specs.Readable.{IsReadableEnd}
use Rattle.pic_record.specs.Records.{AFrame}
use Rattle.pic_record.specs.RecordText.{end_bytes}
use Rattle.pic_record.specs.Spelling.{record_bytes}
use Rattle.pic_record.proofs.LayoutLaws.{layout_fits}
use Rattle.pic_record.proofs.ReadableEnd.{ends_are_read}
use Rattle.pic_record.proofs.ReadableFrame.{frames_are_read}
use Rattle.pic_dump.specs.DumpRead.{with_frame, dump_with, read_on, of_header, read_dump}
use Rattle.pic_dump.specs.InTurn.{due_step, step_before}
use Rattle.pic_dump.specs.Readable.{IsDueFrame, DumpsAreRead}
use Rattle.pic_dump.proofs.ReadOnLaws.{read_on_frame, read_on_end}
use Rattle.pic_dump.proofs.TurnLaws.{due_is_step, few_due}

frames_text : LayoutView → List FrameView → List ℕ
frames_text l frames = flat_map (λ f. record_bytes l (AFrame f)) frames

-- the frames from record k on, and the end record behind record `last`
module _ (l : LayoutView) (layout : IsLayout l) (last m : ℕ) (mark : EndMark) (fits : IsReadableEnd l (due_step l last) mark)
  where
    reads_frames : (frames : List FrameView) (k place : ℕ) → k + length frames ≡ suc last
        → ((j : ℕ) (d : FrameView) → j < length frames → IsDueFrame l (k + j) (get_or frames j d))
        → read_on (length frames + suc m) l (step_before l k) (input place (frames_text l frames ++ end_bytes mark)) ≡ (frames, Ok mark)
    unfolding frames_text
    reads_frames [] k place count in_turn =
        let here : k ≡ suc last = omega (arith, count) in
        let left : 0 + suc m ≡ suc m = omega arith in
        ap (λ n. read_on n l (step_before l k) (input place (end_bytes mark))) left
        ∙ ap (λ n. read_on (suc m) l (step_before l n) (input place (end_bytes mark))) here
        ∙ read_on_end m l (Some (due_step l last)) _ _ mark (ends_are_read l (due_step l last) mark place layout fits)
    reads_frames (f ∷ frames) k place count in_turn =
        let first : IsDueFrame l k f = subst (λ n. IsDueFrame l n f) (let e : k + 0 ≡ k = omega arith in e) (in_turn 0 f (omega arith)) in
        let text = record_bytes l (AFrame f) in
        let rest = frames_text l frames ++ end_bytes mark in
        let n = length frames + suc m in
        let left : suc (length frames) + suc m ≡ suc n = omega arith in
        ap (λ c. read_on c l (step_before l k) (input place ((text ++ frames_text l frames) ++ end_bytes mark))) left
        ∙ ap (λ t. read_on (suc n) l (step_before l k) (input place t)) (append_assoc text (frames_text l frames) (end_bytes mark))
        ∙ read_on_frame n l (step_before l k) _ _ f (frames_are_read l (step_before l k) f layout first.due first.fits place rest)
        ∙ ap (λ s. with_frame f (read_on n l (Some s) (input (place + length text) rest))) (due_is_step l k f.step first.due)
        ∙ ap (with_frame f) (reads_frames frames (suc k) (place + length text) (omega (arith, count))
        (λ j d below. subst (λ i. IsDueFrame l i (get_or frames j d)) (let e : k + suc j ≡ suc k + j = omega arith in e)
        (in_turn (suc j) d (omega (arith, below)))))

no_frame : FrameView
no_frame = record { step = 0; e = []; b = []; particles = []; energies = record { kinetic = 0; electric = 0; magnetic = 0 } }

pub dumps_are_read : DumpsAreRead
unfolding read_dump frames_text
dumps_are_read h frames mark is =
    let l = layout_of h in
    let layout = layout_fits h is.header in
    let count = is.count in
    let final = is.in_turn is.last no_frame (omega (arith, count)) in
    let few = few_due l is.last _ layout.every_least final.due in
    let m = h.steps - is.last in
    let all : h.steps + 2 ≡ length frames + suc m = omega (arith, few, count) in
    let rest = frames_text l frames ++ end_bytes mark in
    let place = 0 + length (header_bytes h) in
    ap (λ t. of_header (header_at (input 0 t))) (append_assoc (header_bytes h) (frames_text l frames) (end_bytes mark))
    ∙ ap of_header (headers_are_read h is.header 0 rest)
    ∙ ap (λ n. Ok (dump_with h (read_on n l (step_before l 0) (input place rest)))) all
    ∙ ap (λ records. Ok (dump_with h records)) (reads_frames l layout is.last m mark is.end frames 0 place (omega (arith, count))
    (λ j d below. subst (λ i. IsDueFrame l i (get_or frames j d)) (let e : j ≡ 0 + j = omega arith in e) (is.in_turn j d below)))
