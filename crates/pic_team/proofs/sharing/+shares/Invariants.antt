use Rattle.std.proofs.Common.{◌+◌, ◌*◌}
use Rattle.pic_team.proofs.sharing.+shares.Given as goal

abbrev pub decreases-shares_from : goal.decreases-shares_from
decreases-shares_from g l = 3 * l.workers

abbrev pub decreases-two_shares : goal.decreases-two_shares
decreases-two_shares g l = 3 * l.cut.others + 2

abbrev pub decreases-two_shares-right : goal.decreases-two_shares-right
decreases-two_shares-right g l = 3 * l.others + 1
