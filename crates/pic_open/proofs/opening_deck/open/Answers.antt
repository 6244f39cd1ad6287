use Rattle.std.proofs.Common.{Err, sym, ap, subst, ◌∙◌}
use Rattle.std.proofs.lemmas.Result.{err_from_is_err_and}
use Rattle.pic_open.specs.DeckReading.{TookAll}
use Rattle.pic_open.proofs.OpenedLaws.{unread, refused, read_and_tested}
use Rattle.pic_open.proofs.opening_deck.open.Goals as goal

pub returns-in_err-bytes : goal.returns-in_err-bytes
returns-in_err-bytes g c =
    let exit = err_from_is_err_and c.from_residual.result c.from_residual.ensures.1 in
    let a = g.S.Source.told c.args.source.now in
    let b = g.S.Source.told c.read_all.new.source in
    rw (exit.1 ∙ ap Err exit.2)
    (unread c.in_err-bytes.field-0.0 a b c.greatest_deck.result c.greatest_deck.ensures c.in_err-bytes.ensures.taken c.in_err-bytes.ensures.reads)

pub returns-in_err-deck : goal.returns-in_err-deck
returns-in_err-deck g c =
    let exit = err_from_is_err_and c.from_residual-in_err-deck.result c.from_residual-in_err-deck.ensures.1 in
    let a = g.S.Source.told c.args.source.now in
    let b = g.S.Source.told c.read_all.new.source in
    let took = subst (TookAll a b c.greatest_deck.result) (sym c.deref-text.ensures.value) c.in_ok-bytes.ensures.reads in
    rw (exit.1 ∙ ap Err exit.2)
    (refused c.in_err-deck.field-0.0 a b c.greatest_deck.result c.deref-text.result.now c.greatest_deck.ensures c.in_ok-bytes.ensures.taken took
    c.in_err-deck.ensures.walks)

pub returns : goal.returns
returns g c =
    let a = g.S.Source.told c.args.source.now in
    let b = g.S.Source.told c.read_all.new.source in
    let took = subst (TookAll a b c.greatest_deck.result) (sym c.deref-text.ensures.value) c.in_ok-bytes.ensures.reads in
    read_and_tested a b c.greatest_deck.result c.deref-text.result.now c.in_ok-deck.deck c.load_and_test.result c.greatest_deck.ensures
    c.in_ok-bytes.ensures.taken took c.in_ok-deck.ensures.walks.answer c.load_and_test.ensures
