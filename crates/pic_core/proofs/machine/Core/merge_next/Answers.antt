use Rattle.std.proofs.Common.{sym, ◌∙◌}
use Rattle.pic_core.proofs.WorkerLaws.{merge_can, merge_did, merge_ran, passed_ran}
use Rattle.pic_core.proofs.machine.Core.merge_next.Goals as goal

pub returns-then-number-clause-ran : goal.returns-then-number-clause-ran
returns-then-number-clause-ran c = passed_ran c.args.self.now c.args.to c.args.number (c.if-number.true ∙ c.number.ensures.value)

pub merge-requires : goal.merge-requires
merge-requires c =
    merge_can c.args.self.now c.args.tile c.args.dir c.args.to c.requires.to c.requires.tile c.requires.dir c.args.number c.of.result c.of.ensures
    c.requires.number (λ is. c.if-number.false (is ∙ sym c.number.ensures.value)) c.requires.at

pub returns-clause-at : goal.returns-clause-at
returns-clause-at c =
    merge_did c.args.self.now c.args.tile c.args.dir c.args.to c.requires.to c.requires.tile c.requires.dir c.args.number c.of.result c.merge.new.self
    c.of.ensures c.requires.number c.requires.at c.stands.ensures.stands c.merge.ensures

pub returns-clause-ran : goal.returns-clause-ran
returns-clause-ran c =
    merge_ran c.args.self.now c.args.tile c.args.dir c.args.to c.requires.to c.requires.tile c.requires.dir c.args.number c.of.result c.merge.new.self
    c.of.ensures (λ is. c.if-number.false (is ∙ sym c.number.ensures.value))
    (merge_can c.args.self.now c.args.tile c.args.dir c.args.to c.requires.to c.requires.tile c.requires.dir c.args.number c.of.result c.of.ensures
    c.requires.number (λ is. c.if-number.false (is ∙ sym c.number.ensures.value)) c.requires.at)
    c.merge.ensures c.stands-2.ensures.stands
