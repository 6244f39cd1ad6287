use Rattle.std.proofs.Common.{Err, ap, subst, ◌∙◌}
use Rattle.std.proofs.lemmas.Result.{err_from_is_err_and}
use Rattle.pic_deck.specs.Deck.{DeckView}
use Rattle.pic_open.specs.Opened.{Tests}
use Rattle.pic_run.proofs.showing.open_demo.Goals as goal

pub returns-in_err-deck : goal.returns-in_err-deck
returns-in_err-deck c =
    let exit = err_from_is_err_and c.from_residual.result c.from_residual.ensures.1 in
    rw (exit.1 ∙ ap Err exit.2) tt

pub returns : goal.returns
returns c = subst (λ (d : DeckView). Tests d c.load_and_test.result) c.in_ok-deck.ensures c.load_and_test.ensures
