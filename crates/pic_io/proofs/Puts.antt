-- Puts, one after another, on one sink and on two.
use Rattle.std.proofs.Common.{◌≡◌, ℕ, ◌+◌, ◌<◌, ◌≤◌, arith, List, [], ◌∷◌, ◌++◌, length, take, drop, Option, Some, None}
use Rattle.std.proofs.Common.{Result, Ok, Err, inl, inr, refl, ap, sym, subst, ◌∙◌, append_assoc, append-nil, take-append-drop}
use Rattle.std.proofs.Math.Seq.{take-add, take-append_seam, drop-append_seam}
use Rattle.std.proofs.lemmas.List.{length-append}
use Rattle.pic_io.specs.Told.{Told, raised, Rose, Calm}
use Rattle.pic_io.specs.Sink.{with_back, Appended, AppendedFront, Puts}
use Rattle.pic_io.specs.Sinks.{Sinks, sinks, Wrote, FailedAt, Piece, outs, lines, Front, CutAt, Writes, LineCut, WritesLine}
use Rattle.pic_io.specs.declared.side.Side.{Side}
use Rattle.pic_io.specs.declared.side.Side.TheVariants.{Out, Report}

pub with_back_twice : (known : Option (List ℕ)) (xs ys : List ℕ) → with_back (with_back known xs) ys ≡ with_back known (xs ++ ys)
with_back_twice None xs ys = refl
with_back_twice (Some bytes) xs ys = ap (λ b. Some b) (append_assoc bytes xs ys)

pub with_back_nil : (known : Option (List ℕ)) → known ≡ with_back known []
with_back_nil None = refl
with_back_nil (Some bytes) = ap (λ b. Some b) (sym (append-nil bytes))

-- a sink that was left alone
pub appended_none : (a : Told) → Appended a a []
appended_none a = with_back_nil a.bytes

pub appended_twice : (a b c : Told) (x y : List ℕ) → Appended a b x → Appended b c y → Appended a c (x ++ y)
appended_twice a b c x y first second =
    second ∙ ap (λ k. with_back k y) first ∙ with_back_twice a.bytes x y

-- a front of `x ++ y` that goes past x
pub take-past : (x y : List ℕ) (k : ℕ) → take (length x + k) (x ++ y) ≡ x ++ take k y
take-past x y k =
    let whole = take-add (length x) k (x ++ y) in
    let front = take-append_seam x y in
    let rest = drop-append_seam x y in
    cc

-- a front of x is a front of `x ++ y`
take-within : (x y : List ℕ) (k : ℕ) → take (length (take k x)) (x ++ y) ≡ take k x
take-within x y k =
    let front = take k x in
    ap (λ l. take (length front) (l ++ y)) (sym (take-append-drop k x))
    ∙ ap (λ l. take (length front) l) (append_assoc front (drop k x) y)
    ∙ take-append_seam front (drop k x ++ y)

pub front_after : (a b c : Told) (x y : List ℕ) → Appended a b x → AppendedFront b c y → AppendedFront a c (x ++ y)
front_after a b c x y first second =
    (length x + second.0, appended_twice a b c x (take second.0 y) first second.1 ∙ ap (λ t. with_back a.bytes t) (sym (take-past x y second.0)))

pub front_of_more : (a b : Told) (x y : List ℕ) → AppendedFront a b x → AppendedFront a b (x ++ y)
front_of_more a b x y put =
    (length (take put.0 x), put.1 ∙ ap (λ t. with_back a.bytes t) (sym (take-within x y put.0)))

-- a put after a text that stands
pub puts_after : {T E : Type 0} (a b c : Told) (x y : List ℕ) (result : Result T E)
    → Appended a b x → Puts b c y result → Puts a c (x ++ y) result
puts_after a b c x y (Ok _) first second = appended_twice a b c x y first second
puts_after a b c x y (Err _) first second = front_after a b c x y first second

-- both sinks as they were
pub wrote_none : (a : Sinks) → Wrote a a [] []
wrote_none a = record { out = appended_none a.out; report = appended_none a.report; calm_out = refl; calm_report = refl }

pub wrote_twice : (a b c : Sinks) (x r y s : List ℕ) → Wrote a b x r → Wrote b c y s → Wrote a c (x ++ y) (r ++ s)
wrote_twice a b c x r y s first second = record {
  out = appended_twice a.out b.out c.out x y first.out second.out;
  report = appended_twice a.report b.report c.report r s first.report second.report;
  calm_out = second.calm_out ∙ first.calm_out;
  calm_report = second.calm_report ∙ first.calm_report;
}

-- a text put on out, whole
pub wrote_out : (o p r : Told) (x : List ℕ) → Appended o p x → Calm o p → Wrote (sinks o r) (sinks p r) x []
wrote_out o p r x put calm = record { out = put; report = appended_none r; calm_out = calm; calm_report = refl }

-- a put that failed after texts that stand failed since their start
failed_after : (side : Side) (a b c : Sinks) → Calm a.out b.out → Calm a.report b.report → FailedAt side b c → FailedAt side a c
failed_after Out a b c out report failed =
    (subst (λ n. raised n ≤ c.out.faults) out failed.0, failed.1 ∙ report)
failed_after Report a b c out report failed =
    (subst (λ n. raised n ≤ c.report.faults) report failed.0, failed.1 ∙ out)

-- where pieces are cut, a put failed
pub cut_failed : (side : Side) (a b : Sinks) (ps : List Piece) → CutAt side a b ps → FailedAt side a b
cut_failed side a b [] cut = absurd cut
cut_failed side a b (p ∷ ps) (inl cut) = cut.failed
cut_failed side a b (p ∷ ps) (inr later) =
    failed_after side a later.0 b later.1.calm_out later.1.calm_report (cut_failed side later.0 b ps later.2)

-- pieces that are cut, with others behind them
pub cut_more : (side : Side) (a b : Sinks) (ps qs : List Piece) → CutAt side a b ps → CutAt side a b (ps ++ qs)
cut_more side a b [] qs cut = absurd cut
cut_more side a b (p ∷ ps) qs (inl cut) = inl cut
cut_more side a b (p ∷ ps) qs (inr later) = inr (later.0, later.1, cut_more side later.0 b ps qs later.2)

-- a cut after nothing
front_from : (side : Side) (a b c : Sinks) (p : Piece) → Wrote a b [] [] → Front side b c p → Front side a c p
front_from Out a b c p none front =
    (front_after a.out b.out c.out [] p.out none.out front.0, appended_twice a.report b.report c.report [] [] none.report front.1)
front_from Report a b c p none front =
    (appended_twice a.out b.out c.out [] p.out none.out front.0, front_after a.report b.report c.report [] p.line none.report front.1)

pub cut_from : (side : Side) (a b c : Sinks) (ps : List Piece) → Wrote a b [] [] → CutAt side b c ps → CutAt side a c ps
cut_from side a b c [] none cut = absurd cut
cut_from side a b c (p ∷ ps) none (inl cut) = inl (record {
  some = cut.some;
  failed = failed_after side a b c none.calm_out none.calm_report cut.failed;
  front = front_from side a b c p none cut.front;
})
cut_from side a b c (p ∷ ps) none (inr later) =
    inr (later.0, wrote_twice a b later.0 [] [] p.out p.line none later.1, later.2)

-- what stands after a piece
abbrev after_piece : Sinks → Piece → Sinks
after_piece a p = record {
  out = record { bytes = with_back a.out.bytes p.out; faults = a.out.faults };
  report = record { bytes = with_back a.report.bytes p.line; faults = a.report.faults };
}

wrote_piece : (a : Sinks) (p : Piece) → Wrote a (after_piece a p) p.out p.line
wrote_piece a p = record { out = refl; report = refl; calm_out = refl; calm_report = refl }

wrote_rest : (a b : Sinks) (p : Piece) (x r : List ℕ) → Wrote a b (p.out ++ x) (p.line ++ r) → Wrote (after_piece a p) b x r
wrote_rest a b p x r both = record {
  out = both.out ∙ sym (with_back_twice a.out.bytes p.out x);
  report = both.report ∙ sym (with_back_twice a.report.bytes p.line r);
  calm_out = both.calm_out;
  calm_report = both.calm_report;
}

-- a cut after pieces that stand
pub cut_later : (side : Side) (a b c : Sinks) (ps qs : List Piece) → Wrote a b (outs ps) (lines ps) → CutAt side b c qs → CutAt side a c (ps ++ qs)
cut_later side a b c [] qs first second = cut_from side a b c qs first second
cut_later side a b c (p ∷ ps) qs first second =
    inr (after_piece a p, wrote_piece a p, cut_later side (after_piece a p) b c ps qs (wrote_rest a b p (outs ps) (lines ps) first) second)

-- the text of a piece was cut on out
pub cut_out : (o p r : Told) (piece : Piece) (others : List Piece) → 0 < length piece.out → AppendedFront o p piece.out → Rose o p
    → CutAt Out (sinks o r) (sinks p r) (piece ∷ others)
cut_out o p r piece others some put rose = inl (record { some = some; failed = (rose, refl); front = (put, appended_none r) })

-- the text of a piece stands on out, and its line on report, or a front of it
pub line_after : {T : Type 0} (o p r s : Told) (piece : Piece) (result : Result T Side) → Appended o p piece.out → Calm o p
    → WritesLine r s piece.line result → Writes (sinks o r) (sinks p s) (piece ∷ []) result
line_after o p r s piece (Ok _) put calm line = record {
  out = put ∙ ap (λ t. with_back o.bytes t) (sym (append-nil piece.out));
  report = line.0 ∙ ap (λ t. with_back r.bytes t) (sym (append-nil piece.line));
  calm_out = calm;
  calm_report = line.1;
}
line_after o p r s piece (Err Out) put calm line = absurd line
line_after o p r s piece (Err Report) put calm line = inl (record { some = line.0; failed = (line.2, calm); front = (put, line.1) })

-- a text with a byte in one of its two parts
some_behind : (x y : List ℕ) → 0 < length y → 0 < length (x ++ y)
some_behind x y some = let both = length-append x y in omega (arith, both, some)

some_before : (x y : List ℕ) → 0 < length x → 0 < length (x ++ y)
some_before x y some = let both = length-append x y in omega (arith, both, some)

-- a line put in two parts
pub line_cut_after : (side : Side) (a b c : Told) (x y : List ℕ) → Appended a b x × Calm a b → LineCut side b c y → LineCut side a c (x ++ y)
line_cut_after Out a b c x y first second = second
line_cut_after Report a b c x y first second =
    (some_behind x y second.0, front_after a b c x y first.0 second.1, subst (λ n. raised n ≤ c.faults) first.1 second.2)

pub line_cut_more : (side : Side) (a b : Told) (x y : List ℕ) → LineCut side a b x → LineCut side a b (x ++ y)
line_cut_more Out a b x y cut = cut
line_cut_more Report a b x y cut = (some_before x y cut.0, front_of_more a b x y cut.1, cut.2)

pub lines_after : {T : Type 0} (a b c : Told) (x y : List ℕ) (result : Result T Side)
    → Appended a b x × Calm a b → WritesLine b c y result → WritesLine a c (x ++ y) result
lines_after a b c x y (Ok _) first second = (appended_twice a b c x y first.0 second.0, second.1 ∙ first.1)
lines_after a b c x y (Err side) first second = line_cut_after side a b c x y first second
