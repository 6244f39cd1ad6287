use Rattle.std.proofs.Common.{◌≡◌, Err, ◌+◌, ◌++◌, ◌∷◌, [], length, take, sym, ap, ◌∙◌, subst, arith, add-zero}
use Rattle.std.proofs.Math.Seq.{take-length}
use Rattle.std.proofs.lemmas.List.{take_more, length-take-le}
use Rattle.pic_fields.specs.Causes.{cause_number}
use Rattle.pic_fields.specs.Parser.{each}
use Rattle.pic_fields.specs.Number.{letter, exactly}
use Rattle.pic_fields.specs.Reads.{HasRead, Reads, as_it_is}
use Rattle.pic_fields.proofs.ReadLaws.{read_same, read_up_to}
use Rattle.pic_fields.proofs.EachLaws.{read_none, read_more, exits_among}
use Rattle.pic_fields.proofs.numbers.read_exactly.Goals as goal

pub returns-in_err-read_letter : goal.returns-in_err-read_letter
unfolding exactly letter
returns-in_err-read_letter g c =
    let text = c.args.text.now in
    let i = c.loop-index.index in
    let size = length-take-le i text (omega (arith, c.loop-index-test.true)) in
    let stopped : Reads as_it_is (letter (cause_number c.args.cause) text (take i text)) (c.args.place + i) (c.args.place + i + 1)
    (g.S.Source.told c.loop-index.source)
    (g.S.Source.told c.read_letter.new.source) (Err c.in_err-read_letter.field-0.0) = rw size c.in_err-read_letter.ensures.reads in
    exits_among (length text) i (letter (cause_number c.args.cause) text) c.from_residual.ensures.1 c.loop-index-test.true
    (omega (arith, c.loop-index-test.true)) c.loop-index.invariant stopped

pub loop-index-init : goal.loop-index-init
loop-index-init g c = read_up_to (sym (add-zero c.args.place)) (read_none (letter (cause_number c.args.cause) c.args.text.now) c.args.place _)

pub loop-index-preserved : goal.loop-index-preserved
unfolding letter
loop-index-preserved g c =
    let text = c.args.text.now in
    let i = c.loop-index.index in
    let size = length-take-le i text (omega (arith, c.loop-index-test.true)) in
    let next : HasRead (letter (cause_number c.args.cause) text (take i text)) (c.args.place + i) (g.S.Source.told c.loop-index.source)
    c.in_ok-read_letter.field-0
    (c.args.place + i + 1) (g.S.Source.told c.read_letter.new.source) = rw size c.in_ok-read_letter.ensures.reads.answer in
    let one = read_more i (letter (cause_number c.args.cause) text) c.loop-index.invariant next in
    read_up_to (omega arith) (read_same (ap (λ b. take i text ++ b ∷ []) c.in_ok-read_letter.ensures.same
    ∙ sym (take_more text i 0 c.loop-index-test.true)) one)

pub returns : goal.returns
unfolding exactly
returns g c =
    let text = c.args.text.now in
    let all : c.loop-index.index ≡ length text = omega (arith, c.loop-index-test.false, c.loop-index.auto.index-end) in
    let whole : take c.loop-index.index text ≡ text = ap (λ n. take n text) all ∙ take-length text in
    let before = g.S.Source.told c.args.source.now in
    let now = g.S.Source.told c.loop-index.source in
    let read = subst (λ n. HasRead (each n (letter (cause_number c.args.cause) text)) c.args.place before (take c.loop-index.index text)
    (c.args.place + n) now) all
    c.loop-index.invariant in
    record { answer = read_same whole read }
