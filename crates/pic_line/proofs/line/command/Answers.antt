use Rattle.std.proofs.Common.{◌≡◌, ◌∷◌, codes, map, string_bytes, sym, ap, ◌∙◌}
use Rattle.clap.specs.Words.{app_of}
use Rattle.pic_line.proofs.LineLaws.{usage_of, matched}
use Rattle.pic_line.proofs.WorkerLaws.{has_workers}
use Rattle.pic_line.proofs.line.command.Goals as goal

pub returns-in-Some-clause-ok : goal.returns-in-Some-clause-ok
returns-in-Some-clause-ok c =
    let line : map (λ word. word.now) c.as_slice.result.now ≡ codes "pic" ∷ map string_bytes c.args.words.now =
    ap (map (λ word. word.now)) c.as_slice.ensures.value ∙ c.in_ok-line.ensures in
    matched (app_of c.in_ok-app.app) (map (λ word. word.now) c.as_slice.result.now) (map string_bytes c.args.words.now) c.in-Ok.matches c.in_ok-app.ensures line
    c.in-Ok.ensures.kinds c.in-Ok.ensures.matches
    ∙ sym c.command_from.ensures ∙ c.in-Some.is

pub returns-in-Some-clause-workers : goal.returns-in-Some-clause-workers
returns-in-Some-clause-workers c = has_workers (map string_bytes c.args.words.now) c.in-Some.found (returns-in-Some-clause-ok c)

pub returns-in-Ok-clause-usage : goal.returns-in-Ok-clause-usage
returns-in-Ok-clause-usage c =
    let line : map (λ word. word.now) c.as_slice.result.now ≡ codes "pic" ∷ map string_bytes c.args.words.now =
    ap (map (λ word. word.now)) c.as_slice.ensures.value ∙ c.in_ok-line.ensures in
    λ _. matched (app_of c.in_ok-app.app) (map (λ word. word.now) c.as_slice.result.now)
    (map string_bytes c.args.words.now) c.in-Ok.matches c.in_ok-app.ensures line
    c.in-Ok.ensures.kinds c.in-Ok.ensures.matches
    ∙ sym c.command_from.ensures ∙ c.in-None.is

pub returns : goal.returns
returns c =
    let line : map (λ word. word.now) c.as_slice.result.now ≡ codes "pic" ∷ map string_bytes c.args.words.now =
    ap (map (λ word. word.now)) c.as_slice.ensures.value ∙ c.in_ok-line.ensures in
    record {
      ok = tt;
      workers = tt;
      usage = λ _. usage_of (app_of c.in_ok-app.app) (map (λ word. word.now) c.as_slice.result.now) (map string_bytes c.args.words.now) c.in-Err.error
          c.in_ok-app.ensures line c.in-Err.ensures.kinds (λ memory. c.in_default.not-OutOfMemory (c.kind.ensures ∙ memory));
    }
