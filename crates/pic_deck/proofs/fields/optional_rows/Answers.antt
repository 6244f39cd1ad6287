use Rattle.std.proofs.Common.{Ok, ap, sym, ◌∙◌}
use Rattle.pic_walk.specs.Walk.{optional}
use Rattle.pic_walk.proofs.WalkLaws.{given_some, given_none}
use Rattle.pic_deck.proofs.InitialLaws.{AreRows-none}
use Rattle.pic_deck.proofs.fields.optional_rows.Goals as goal

pub returns-in-Some-clause-walks : goal.returns-in-Some-clause-walks
unfolding optional
returns-in-Some-clause-walks c = given_some _ _ _ _ _ (sym c.in-Some.ensures) (rw c.new.ensures.path at c.read_rows.ensures.walks)

pub returns-in-None-clause-walks : goal.returns-in-None-clause-walks
unfolding optional
returns-in-None-clause-walks c = given_none _ _ _ _ (sym c.in-None.ensures) (record { answer = ap Ok (sym (c.from_vec.ensures ∙ c.new-in-None.ensures.items)) })

pub returns-in-None-clause-limits : goal.returns-in-None-clause-limits
returns-in-None-clause-limits c = rw (c.from_vec.ensures ∙ c.new-in-None.ensures.items) (AreRows-none c.args.cells.n)
