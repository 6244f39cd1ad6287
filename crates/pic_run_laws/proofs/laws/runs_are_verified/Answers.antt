use Rattle.pic_run_laws.proofs.RunsAreVerified.{runs_are_verified, runs_are_found_good}
use Rattle.pic_run_laws.proofs.laws.runs_are_verified.Goals as goal

pub returns-clause-verified : goal.returns-clause-verified
returns-clause-verified c = runs_are_verified

pub returns-clause-found : goal.returns-clause-found
returns-clause-found c = runs_are_found_good
