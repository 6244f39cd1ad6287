use Rattle.pic_grid.proofs.DifferenceLaws.{div_b-curl_e}
use Rattle.pic_laws.proofs.laws.curl_of_e_has_no_divergence.Goals as goal

pub returns : goal.returns
returns c = div_b-curl_e
