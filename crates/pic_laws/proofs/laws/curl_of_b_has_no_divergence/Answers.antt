use Rattle.pic_grid.proofs.DifferenceLaws.{div_e-curl_b}
use Rattle.pic_laws.proofs.laws.curl_of_b_has_no_divergence.Goals as goal

pub returns : goal.returns
returns c = div_e-curl_b
