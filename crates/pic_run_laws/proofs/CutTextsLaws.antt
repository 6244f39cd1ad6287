-- Pieces that are cut: how many stand whole, and what front of both texts stands.
use Rattle.std.proofs.Common.{◌≡◌, ℕ, zero, suc, List, [], ◌∷◌, ◌++◌, length, take, drop, Some, inl, inr}
use Rattle.std.proofs.Common.{refl, sym, ap, ◌∙◌, subst, append_assoc, append-nil, take-append-drop}
use Rattle.std.proofs.Math.Seq.{take-append_seam}
use Rattle.std.specs.Prelude.{slice_get}
use Rattle.pic_io.specs.declared.side.Side.{Side}
use Rattle.pic_io.specs.declared.side.Side.TheVariants.{Out, Report}
use Rattle.pic_io.specs.Told.{Told}
use Rattle.pic_io.specs.Sink.{with_back, Appended, AppendedFront}
use Rattle.pic_io.specs.Sinks.{Sinks, Piece, outs, lines, IsCut, CutAt}
use Rattle.pic_io.proofs.Puts.{front_after, front_of_more, wrote_none, wrote_twice, cut_later}
use Rattle.pic_report.specs.Outcome.{out_text, report_text, with_head, pieces_of}
use Rattle.pic_run_laws.specs.CutTexts.{IsCutBehind, CutBehindWholePieces, CutsLeaveFronts}

-- how many stand whole
whole_pieces : (side : Side) (a c : Sinks) (ps : List Piece) → CutAt side a c ps → (n : ℕ) × IsCutBehind side a c ps n
whole_pieces side a c [] cut = absurd cut
whole_pieces side a c (p ∷ ps) (inl cut) = (0, record { piece = p; next = refl; mid = a; whole = wrote_none a; cut = cut })
whole_pieces side a c (p ∷ ps) (inr later) =
    let rest = whole_pieces side later.0 c ps later.2 in
    let is = rest.1 in (
      suc rest.0,
      record {
        piece = is.piece;
        next = is.next;
        mid = is.mid;
        whole = wrote_twice a later.0 is.mid p.out p.line (outs (take rest.0 ps)) (lines (take rest.0 ps)) later.1 is.whole;
        cut = is.cut;
      },
    )

-- the pieces from the next one on
from_next : (ps : List Piece) (n : ℕ) (p : Piece) → slice_get ps n ≡ Some p → drop n ps ≡ p ∷ drop (suc n) ps
from_next [] n p next = cc
from_next (q ∷ ps) zero p next = cc
from_next (q ∷ ps) (suc n) p next = from_next ps n p next

pieces_cut : (side : Side) (a c : Sinks) (ps : List Piece) (n : ℕ) → IsCutBehind side a c ps n → CutAt side a c ps
pieces_cut side a c ps n is =
    subst (CutAt side a c) (take-append-drop n ps)
    (cut_later side a is.mid c (take n ps) (drop n ps) is.whole
    (subst (CutAt side is.mid c) (sym (from_next ps n is.piece is.next)) (inl is.cut)))

pub cut_behind : CutBehindWholePieces
cut_behind side a c ps = (whole_pieces side a c ps, λ some. pieces_cut side a c ps some.0 some.1)

-- nothing, and a whole text, are fronts
front_none : (a b : Told) (x : List ℕ) → Appended a b [] → AppendedFront a b x
front_none a b x put = (0, put)

front_whole : (a b : Told) (x y : List ℕ) → Appended a b x → AppendedFront a b (x ++ y)
front_whole a b x y put = (length x, put ∙ ap (λ t. with_back a.bytes t) (sym (take-append_seam x y)))

-- both texts of pieces that are cut stand up to some place
abbrev Fronts : Sinks → Sinks → List ℕ → List ℕ → Type 0
Fronts a c x r = AppendedFront a.out c.out x × AppendedFront a.report c.report r

fronts_cut : (side : Side) (a c : Sinks) (p : Piece) (ps : List Piece) → IsCut side a c p → Fronts a c (outs (p ∷ ps)) (lines (p ∷ ps))
fronts_cut Out a c p ps cut = (
  front_of_more a.out c.out p.out (outs ps) cut.front.0,
  front_none a.report c.report (lines (p ∷ ps)) cut.front.1,
)
fronts_cut Report a c p ps cut = (
  front_whole a.out c.out p.out (outs ps) cut.front.0,
  front_of_more a.report c.report p.line (lines ps) cut.front.1,
)

fronts : (side : Side) (a c : Sinks) (ps : List Piece) → CutAt side a c ps → Fronts a c (outs ps) (lines ps)
fronts side a c [] cut = absurd cut
fronts side a c (p ∷ ps) (inl cut) = fronts_cut side a c p ps cut
fronts side a c (p ∷ ps) (inr later) =
    let rest = fronts side later.0 c ps later.2 in (
      front_after a.out later.0.out c.out p.out (outs ps) later.1.out rest.0,
      front_after a.report later.0.report c.report p.line (lines ps) later.1.report rest.1,
    )

-- the texts of an outcome are those of its pieces
outs_last : (ps : List Piece) (p : Piece) → outs (ps ++ p ∷ []) ≡ outs ps ++ p.out
outs_last [] p = append-nil p.out
outs_last (q ∷ ps) p = ap (λ x. q.out ++ x) (outs_last ps p) ∙ sym (append_assoc q.out (outs ps) p.out)

lines_last : (ps : List Piece) (p : Piece) → lines (ps ++ p ∷ []) ≡ lines ps ++ p.line
lines_last [] p = append-nil p.line
lines_last (q ∷ ps) p = ap (λ x. q.line ++ x) (lines_last ps p) ∙ sym (append_assoc q.line (lines ps) p.line)

outs_headed : (head : List ℕ) (ps : List Piece) → outs (with_head head ps) ≡ head ++ outs ps
outs_headed [] ps = refl
outs_headed (byte ∷ head) ps = refl

lines_headed : (head : List ℕ) (ps : List Piece) → lines (with_head head ps) ≡ lines ps
lines_headed [] ps = refl
lines_headed (byte ∷ head) ps = refl

pub cut_fronts : CutsLeaveFronts
cut_fronts side o a c cut =
    let both = fronts side a c (pieces_of o) cut in
    let ps = o.frames ++ o.last ∷ [] in
    let out : outs (pieces_of o) ≡ out_text o = outs_headed o.head ps ∙ ap (λ x. o.head ++ x) (outs_last o.frames o.last)
    ∙ sym (append_assoc o.head (outs o.frames) o.last.out) in
    let report : lines (pieces_of o) ≡ report_text o = lines_headed o.head ps ∙ lines_last o.frames o.last in
    record {
      out = subst (AppendedFront a.out c.out) out both.0;
      report = subst (AppendedFront a.report c.report) report both.1;
    }
