use Rattle.std.proofs.Common.{Ok, ap, sym, ◌∙◌}
use Rattle.pic_num.specs.Limits.{allowance_of}
use Rattle.pic_walk.specs.Walk.{optional}
use Rattle.pic_walk.proofs.TableLaws.{key_at-top}
use Rattle.pic_walk.proofs.WalkLaws.{given_some, given_none}
use Rattle.pic_deck.proofs.HeadLaws.{heads_none, filled_none}
use Rattle.pic_deck.proofs.species_reader.optional_species.Goals as goal

pub returns-in-Some-clause-walks : goal.returns-in-Some-clause-walks
unfolding optional
returns-in-Some-clause-walks c = given_some _ _ _ _ _ (sym c.in-Some.ensures) (rw key_at-top c.read_all_species.ensures.walks)

pub returns-in-None-clause-walks : goal.returns-in-None-clause-walks
unfolding optional
returns-in-None-clause-walks c = given_none _ _ _ _ (sym c.in-None.ensures) (record { answer = ap Ok (sym (c.from_vec.ensures ∙ c.new.ensures.items)) })

pub returns-in-None-clause-heads : goal.returns-in-None-clause-heads
returns-in-None-clause-heads c = rw (c.from_vec.ensures ∙ c.new.ensures.items) (heads_none (allowance_of c.args.terms.version).particles)

pub returns-in-None-clause-filled : goal.returns-in-None-clause-filled
returns-in-None-clause-filled c = rw (c.from_vec.ensures ∙ c.new.ensures.items) (filled_none c.args.terms)
