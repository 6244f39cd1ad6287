use Rattle.pic_charge.proofs.BreakLaws.{meets_gauss, gauss_none}
use Rattle.pic_charge.proofs.laws.no_break_is_gauss.Goals as goal

pub returns : goal.returns
returns c = λ side filter n kinds particles e rho charges. (
  meets_gauss side filter n kinds particles e rho charges,
  gauss_none side filter n kinds
      particles e rho charges,
)
