-- Pieces that were put, or cut off, behind others.
use Rattle.std.proofs.Common.{ℕ, ◌<◌, List, [], ◌∷◌, ◌++◌, length, Result, Ok, Err, inr, subst, append-nil, arith}
use Rattle.pic_io.specs.declared.side.Side.{Side}
use Rattle.pic_io.specs.declared.side.Side.TheVariants.{Out}
use Rattle.pic_io.specs.Told.{Told, Rose}
use Rattle.pic_io.specs.Sink.{AppendedFront}
use Rattle.pic_io.specs.Sinks.{Sinks, sinks, Wrote, Piece, outs, lines, CutAt}
use Rattle.pic_io.proofs.Puts.{wrote_twice, cut_from, cut_later, cut_out}
use Rattle.pic_report.specs.declared.cut.Cut.{Cut}
use Rattle.pic_report.specs.declared.cut.Cut.TheVariants.{Write, NoMemory}
use Rattle.pic_report.specs.declared.ended.Ended.{Ended}
use Rattle.pic_report.specs.Outcome.{with_head, told_outcome}
use Rattle.pic_report.specs.Finishes.{Announces}

-- one piece
pub wrote_one : (a b : Sinks) (p : Piece) → Wrote a b (outs (p ∷ [])) (lines (p ∷ [])) → Wrote a b p.out p.line
wrote_one a b p wrote =
    subst (λ (x : List ℕ). Wrote a b x p.line) (append-nil p.out)
    (subst (λ (y : List ℕ). Wrote a b (outs (p ∷ [])) y) (append-nil p.line) wrote)

-- a head that was written, and pieces that are cut behind it
pub cut_headed : (side : Side) (a b c : Sinks) (head : List ℕ) (pieces : List Piece) → Wrote a b head [] → CutAt side b c pieces
    → CutAt side a c (with_head head pieces)
cut_headed side a b c [] pieces first cut = cut_from side a b c pieces first cut
cut_headed side a b c (byte ∷ head) pieces first cut = inr (b, first, cut)

-- a head and frames that were written, and pieces that are cut behind them
pub cut_behind : (side : Side) (a b c : Sinks) (head : List ℕ) (frames pieces : List Piece) → Wrote a b (head ++ outs frames) (lines frames)
    → CutAt side b c pieces → CutAt side a c (with_head head (frames ++ pieces))
cut_behind side a b c [] frames pieces first cut = cut_later side a b c frames pieces first cut
cut_behind side a b c (byte ∷ head) frames pieces first cut =
    cut_later side a b c (record { out = byte ∷ head; line = [] } ∷ frames) pieces first cut

-- and the line of an answer behind them
pub told_behind : (head : List ℕ) (frames : List Piece) (line : List ℕ) (answer : Ended) (a b c : Sinks) (finish : Result Ended Cut)
    → Wrote a b (head ++ outs frames) (lines frames) → Announces (told_outcome [] [] line answer) b c finish
    → Announces (told_outcome head frames line answer) a c finish
told_behind head frames line answer a b c (Ok _) first ends = record {
  answers = ends.answers;
  wrote = wrote_twice a b c (head ++ outs frames) (lines frames) [] line first ends.wrote;
}
told_behind head frames line answer a b c (Err (Write side)) first ends =
    cut_behind side a b c head frames (record { out = []; line = line } ∷ []) first ends
told_behind head frames line answer a b c (Err NoMemory) first ends = ends

-- a head that was cut
pub head_cut : (o p r : Told) (head : List ℕ) (frames : List Piece) (last : Piece) → 0 < length head → AppendedFront o p head → Rose o p
    → CutAt Out (sinks o r) (sinks p r) (with_head head (frames ++ last ∷ []))
head_cut o p r [] frames last some put rose = absurd (omega (arith, some))
head_cut o p r (byte ∷ head) frames last some put rose = cut_out o p r (record { out = byte ∷ head; line = [] }) (frames ++ last ∷ []) some put rose
