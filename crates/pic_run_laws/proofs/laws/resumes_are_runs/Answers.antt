use Rattle.pic_run_laws.proofs.ResumesAreRuns.{resumes_are_runs, resumes_join, resumes_are_found_runs}
use Rattle.pic_run_laws.proofs.laws.resumes_are_runs.Goals as goal

pub returns-clause-run : goal.returns-clause-run
returns-clause-run c = resumes_are_runs

pub returns-clause-twice : goal.returns-clause-twice
returns-clause-twice c = resumes_join

pub returns-clause-found : goal.returns-clause-found
returns-clause-found c = resumes_are_found_runs
