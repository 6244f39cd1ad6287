use Rattle.std.proofs.Common.{◌≡◌, ◌≢◌, ℕ, ◌≤◌, true, Option, Some, None, refl, sym, subst, Result, arith}
use Rattle.std.proofs.lemmas.Bool.{eqb-true, ne_eqb}
use Rattle.pic_io.specs.Told.{Told}
use Rattle.pic_grid.specs.declared.stop.EndMark.{EndMark}
use Rattle.pic_fields.specs.declared.read_stop.ReadStop.{ReadStop}
use Rattle.pic_fields.specs.Parser.{Parser}
use Rattle.pic_fields.specs.Reads.{ReadsEnd}
use Rattle.pic_fields.proofs.ReadLaws.{goes_on_to_end, exits_to_end, ends_up}
use Rattle.pic_record.specs.Layout.{LayoutView}
use Rattle.pic_record.specs.EndFields.{is_kind, done_at, field_end_at, push_end_at, end_of_kind, end_at}
use Rattle.pic_record.specs.Limits.{done_end, longest_end, end_most}
use Rattle.pic_record.specs.Records.{RecordView}
use Rattle.pic_record.proofs.end_reader.read_end_record.Goals as goal

-- the record of each kind
of_done : (l : LayoutView) (low high : ℕ) (next : EndMark → Parser RecordView) (kind : ℕ) → kind ≡ 0
    → end_of_kind l low high next kind ≡ done_at l next
unfolding end_of_kind
of_done l low high next kind is = rw is refl

of_field : (l : LayoutView) (low high : ℕ) (next : EndMark → Parser RecordView) (kind : ℕ) → kind ≡ 1
    → end_of_kind l low high next kind ≡ field_end_at l low high next
unfolding end_of_kind
of_field l low high next kind is = rw is refl

of_push : (l : LayoutView) (low high : ℕ) (next : EndMark → Parser RecordView) (kind : ℕ) → kind ≢ 0 → kind ≢ 1
    → end_of_kind l low high next kind ≡ push_end_at l low high next
unfolding end_of_kind
of_push l low high next kind other not_one = rw (ne_eqb kind 0 other, ne_eqb kind 1 not_one) refl

-- a call that reads by one format reads by another that is the same
by_same : {A B : Type 0} {p q : Parser A} {view : B → A} {s e : ℕ} {x z : Told} {r : Result B ReadStop} → p ≡ q → ReadsEnd view q s e x z r
    → ReadsEnd view p s e x z r
by_same {p = p} {q = q} {view = view} {s = s} {e = e} {x = x} {z = z} {r = r} is h = subst (λ f. ReadsEnd view f s e x z r) (sym is) h

-- the end of a run that is done may stand anywhere, and that of one that stopped where a frame is due
end_least : (due : Option ℕ) → done_end ≤ end_most due
end_least None = omega arith
end_least (Some step) = omega arith

end_of_stop : (due : Option ℕ) (kind : ℕ) → is_kind due kind ≡ true → kind ≢ 0 → end_most due ≡ longest_end
end_of_stop None kind is other = absurd (other (eqb-true kind 0 is))
end_of_stop (Some step) kind is other = refl

pub returns-in_err-kind : goal.returns-in_err-kind
unfolding end_at
returns-in_err-kind g c =
    let least = end_least c.args.due in
    exits_to_end _ (omega (arith, least)) c.from_residual.ensures.1 c.in_err-kind.ensures.reads

pub returns-then-kind-eq0 : goal.returns-then-kind-eq0
unfolding end_at
returns-then-kind-eq0 g c =
    let least = end_least c.args.due in
    goes_on_to_end _ c.in_ok-kind.ensures.reads.answer
    (ends_up (omega (arith, least)) (by_same (of_done _ _ _ _ c.in_ok-kind.kind c.if-kind-eq0.true) c.read_done.ensures))

pub returns-then-kind-eq1 : goal.returns-then-kind-eq1
unfolding end_at
returns-then-kind-eq1 g c =
    let end = rw (c.first_after-low.ensures, c.unwrap_or-high.ensures) at c.read_field_end.ensures in
    let most = end_of_stop c.args.due c.in_ok-kind.kind c.in_ok-kind.ensures.is c.if-kind-eq0.false in
    goes_on_to_end _ c.in_ok-kind.ensures.reads.answer
    (ends_up (omega (arith, most)) (by_same (of_field _ _ _ _ c.in_ok-kind.kind c.if-kind-eq1.true) end))

pub returns : goal.returns
unfolding end_at
returns g c =
    let end = rw (c.first_after-low.ensures, c.unwrap_or-high.ensures) at c.read_push_end.ensures in
    let most = end_of_stop c.args.due c.in_ok-kind.kind c.in_ok-kind.ensures.is c.if-kind-eq0.false in
    goes_on_to_end _ c.in_ok-kind.ensures.reads.answer
    (ends_up (omega (arith, most)) (by_same (of_push _ _ _ _ c.in_ok-kind.kind c.if-kind-eq0.false c.if-kind-eq1.false) end))
