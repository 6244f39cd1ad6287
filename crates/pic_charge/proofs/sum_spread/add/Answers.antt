use Rattle.pic_num.specs.Space.{triple}
use Rattle.pic_charge.proofs.SumLaws.{sum_added}
use Rattle.pic_charge.proofs.sum_spread.add.Goals as goal

pub returns-clause-sums : goal.returns-clause-sums
returns-clause-sums c =
    sum_added (triple c.args.n) c.args.sums.now (triple c.args.node) c.place_of-place.result c.args.amount c.requires.size c.requires.long c.requires.within
    c.requires.room c.place_of-place.ensures.value
