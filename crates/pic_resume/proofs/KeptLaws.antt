-- What is kept of frames, and what putting them writes.
use Rattle.std.proofs.Common.{◌≡◌, ℕ, suc, ◌+◌, ◌-◌, ◌<◌, ◌≤◌, List, [], ◌∷◌, ◌++◌, length, take, drop, Bool, true, Option, Some, None, Result, Ok, Err}
use Rattle.std.proofs.Common.{refl, sym, ap, subst, ◌∙◌, arith, length-append}
use Rattle.std.proofs.Math.Seq.{get_or-append_seam, take-add, take-append_seam, drop-append_seam}
use Rattle.std.proofs.lemmas.Grind.{flat_map-append}
use Rattle.std.proofs.lemmas.List.{map-append}
use Rattle.std.proofs.lemmas.List.Elements.{filter-append}
use Rattle.std.specs.Prelude.{map, slice_index_or}
use Rattle.std.specs.List.{filter}
use Rattle.pic_io.specs.Told.{Told, Rose, Calm}
use Rattle.pic_io.specs.Sink.{Appended, AppendedFront}
use Rattle.pic_io.specs.Sinks.{Sinks, sinks, Wrote, Piece, outs, lines, CutAt}
use Rattle.pic_io.specs.declared.side.Side.{Side}
use Rattle.pic_io.specs.declared.side.Side.TheVariants.{Out, Report}
use Rattle.pic_io.proofs.Puts.{wrote_twice, cut_out, line_after}
use Rattle.pic_num.specs.declared.motion.Particle.{Particle}
use Rattle.pic_grid.specs.declared.stop.EndMark.{EndMark}
use Rattle.pic_grid.specs.Lattice.{Field}
use Rattle.pic_charge.specs.declared.breaks.Break.{Break}
use Rattle.pic_energy.specs.declared.amounts.Energies.{Energies}
use Rattle.pic_energy.specs.Line.{frame_line}
use Rattle.pic_fields.specs.Parser.{Fault}
use Rattle.pic_record.specs.Due.{is_due}
use Rattle.pic_record.specs.FrameFields.{FrameView, frame_of}
use Rattle.pic_record.specs.Layout.{LayoutView}
use Rattle.pic_record.specs.RecordText.{frame_bytes}
use Rattle.pic_dump.proofs.TextLaws.{frame_some}
use Rattle.pic_dump.proofs.UpgradeLaws.{same_text}
use Rattle.pic_verify.specs.declared.verify_stop.VerifyStop.TheVariants.{ReadFault, BadDump, Broken, NoMemory}
use Rattle.pic_verify.specs.Verified.{Verdict, break_of, unless_broken, verdict_behind}
use Rattle.pic_resume.specs.Carry.{good_frames, kept_piece, kept_pieces, no_frame, last_frame}

-- the line of a frame has a byte
line_some : (step : ℕ) (energies : Energies) → 0 < length (frame_line step energies)
unfolding frame_line
line_some step energies = omega arith

-- the put of a frame failed
pub frame_cut : (l : LayoutView) (step : ℕ) (e b : Field) (particles : List Particle) (energies : Energies) (o p r : Told)
    → AppendedFront o p (frame_bytes step e b particles energies) → Rose o p
    → CutAt Out (sinks o r) (sinks p r) (kept_piece l (frame_of step e.values b.values particles energies) ∷ [])
frame_cut l step e b particles energies o p r front rose =
    let is = same_text l step e b particles energies in
    cut_out o p r (kept_piece l (frame_of step e.values b.values particles energies)) []
    (subst (λ t. 0 < length t) is (frame_some step e b particles energies)) (subst (AppendedFront o p) is front) rose

-- a frame was put, and then its line or a front of it
pub line_put : (l : LayoutView) (step : ℕ) (e b : Field) (particles : List Particle) (energies : Energies) (o p r s : Told) (text : List ℕ)
    → Appended o p (frame_bytes step e b particles energies) → Calm o p → text ≡ frame_line step energies → Appended r s text → Calm r s
    → Wrote (sinks o r) (sinks p s) (outs (kept_piece l (frame_of step e.values b.values particles energies) ∷ []))
    (lines (kept_piece l (frame_of step e.values b.values particles energies) ∷ []))
line_put l step e b particles energies o p r s text put calm is line calm_line =
    let here = subst (Appended o p) (same_text l step e b particles energies) put in
    let there = subst (Appended r s) is line in
    let result : Result (Unit {0}) Side = Ok tt in
    line_after o p r s (kept_piece l (frame_of step e.values b.values particles energies)) result here calm (there, calm_line)

pub line_cut : (l : LayoutView) (step : ℕ) (e b : Field) (particles : List Particle) (energies : Energies) (o p r s : Told) (text : List ℕ)
    → Appended o p (frame_bytes step e b particles energies) → Calm o p → text ≡ frame_line step energies → AppendedFront r s text → Rose r s
    → CutAt Report (sinks o r) (sinks p s) (kept_piece l (frame_of step e.values b.values particles energies) ∷ [])
line_cut l step e b particles energies o p r s text put calm is front rose =
    let here = subst (Appended o p) (same_text l step e b particles energies) put in
    let there = subst (AppendedFront r s) is front in
    let result : Result (Unit {0}) Side = Err Report in
    line_after o p r s (kept_piece l (frame_of step e.values b.values particles energies)) result here calm (line_some step energies, there, rose)

-- a frame is kept, or it isn't
pub is_kept : (steps : ℕ) (l : LayoutView) (f : FrameView) → is_due steps l.every f.step ≡ true → kept_pieces steps l (f ∷ []) ≡ kept_piece l f ∷ []
is_kept steps l f due = rw due refl

-- what is kept of frames in two parts
pub kept_split : (steps : ℕ) (l : LayoutView) (xs ys : List FrameView) → kept_pieces steps l (xs ++ ys) ≡ kept_pieces steps l xs ++ kept_pieces steps l ys
kept_split steps l xs ys =
    let due : FrameView → Bool = λ f. is_due steps l.every f.step in
    let piece : FrameView → Piece = λ f. kept_piece l f in
    ap (λ (fs : List FrameView). map piece fs) (filter-append due xs ys) ∙ map-append piece (filter due xs) (filter due ys)

outs_split : (ps qs : List Piece) → outs (ps ++ qs) ≡ outs ps ++ outs qs
outs_split ps qs = flat_map-append (λ (p : Piece). p.out) ps qs

lines_split : (ps qs : List Piece) → lines (ps ++ qs) ≡ lines ps ++ lines qs
lines_split ps qs = flat_map-append (λ (p : Piece). p.line) ps qs

-- pieces put behind pieces
pub wrote_more : (a b c : Sinks) (ps qs : List Piece) → Wrote a b (outs ps) (lines ps) → Wrote b c (outs qs) (lines qs)
    → Wrote a c (outs (ps ++ qs)) (lines (ps ++ qs))
wrote_more a b c ps qs first second =
    subst (λ t. Wrote a c t (lines (ps ++ qs))) (sym (outs_split ps qs)) (subst (λ t. Wrote a c (outs ps ++ outs qs) t) (sym (lines_split ps qs))
    (wrote_twice a b c (outs ps) (lines ps) (outs qs) (lines qs) first second))

-- the last frame
pub last_is : (frames : List FrameView) (f : FrameView) → last_frame (frames ++ f ∷ []) ≡ f
last_is frames f =
    let size : length (frames ++ f ∷ []) ≡ length frames + 1 = length-append frames (f ∷ []) in
    let at : length (frames ++ f ∷ []) - 1 ≡ length frames = omega (arith, size) in
    ap (λ n. slice_index_or (frames ++ f ∷ []) n no_frame) at ∙ get_or-append_seam frames f [] no_frame

-- a break that is found behind k good frames is one of a later frame
by_break : (k j : ℕ) (at : Break) (rest : Verdict) (o : Option Break) → (rest ≡ Err (Broken j at) → suc k ≤ j) → unless_broken k o rest ≡ Err (Broken j at)
    → k ≤ j
by_break k j at rest None later is = let more = later is in omega (arith, more)
by_break k j at rest (Some here) later is = let same : k ≡ j = cc in omega (arith, same)

pub broken_late : (l : LayoutView) (k j : ℕ) (frames : List FrameView) (end : Result EndMark Fault) (at : Break)
    → verdict_behind l k frames end ≡ Err (Broken j at) → k ≤ j
broken_late l k j [] (Ok mark) at is = absurd cc
broken_late l k j [] (Err f) at is = absurd cc
broken_late l k j (f ∷ frames) end at is =
    by_break k j at (verdict_behind l (suc k) frames end) (break_of l f.e f.particles) (broken_late l (suc k) j frames end at) is

-- a front that goes past the first frames
take_past : (xs ys : List FrameView) (k : ℕ) → take (length xs + k) (xs ++ ys) ≡ xs ++ take k ys
take_past xs ys k =
    take-add (length xs) k (xs ++ ys)
    ∙ ap (λ (l : List FrameView). l ++ take k (drop (length xs) (xs ++ ys))) (take-append_seam xs ys)
    ∙ ap (λ (l : List FrameView). xs ++ take k l) (drop-append_seam xs ys)

-- the good frames of a dump begin with those before which no break was found
pub good_split : (frames rest : List FrameView) (v : Verdict) → ((j : ℕ) (at : Break) → v ≡ Err (Broken j at) → length frames ≤ j)
    → (others : List FrameView) × (good_frames v (frames ++ rest) ≡ frames ++ others)
good_split frames rest (Ok n) late = (rest, refl)
good_split frames rest (Err ReadFault) late = (rest, refl)
good_split frames rest (Err (BadDump place cause)) late = (rest, refl)
good_split frames rest (Err NoMemory) late = (rest, refl)
good_split frames rest (Err (Broken j at)) late =
    let less = late j at refl in
    let is : j ≡ length frames + (j - length frames) = omega (arith, less) in
    (take (j - length frames) rest, ap (λ n. take n (frames ++ rest)) is ∙ take_past frames rest (j - length frames))
