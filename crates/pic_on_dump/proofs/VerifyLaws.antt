-- The command `verify`: how it ends, and what its answers mean.
use Rattle.std.proofs.Common.{◌≡◌, ℕ, List, [], Option, Some, None, Result, Ok, Err, inr, refl, sym, ap, ◌∙◌, subst}
use Rattle.std.specs.Prelude.{unwrap_or, option_map, IfSome}
use Rattle.pic_io.specs.Told.{Told}
use Rattle.pic_io.specs.Sinks.{Sinks}
use Rattle.pic_io.proofs.Puts.{wrote_none}
use Rattle.pic_dump.proofs.UntakenLaws.{none_allowed, none_header}
use Rattle.pic_verify.proofs.UntakenLaws.{none_reached}
use Rattle.pic_verify.specs.declared.verify_stop.VerifyStop.{VerifyStop}
use Rattle.pic_verify.specs.declared.verify_stop.VerifyStop.TheVariants as verify_stop
use Rattle.pic_dump.specs.Allowed.{TakesAllowed, TakesHeader}
use Rattle.pic_verify.specs.Reached.{TakesToRecord}
use Rattle.pic_verify.specs.Verified.{Verdict, verified}
use Rattle.pic_verify.specs.Verifies.{Finds, Verifies}
use Rattle.pic_report.specs.declared.cut.Cut.{Cut}
use Rattle.pic_report.specs.declared.ended.Ended.{Ended}
use Rattle.pic_report.specs.declared.ended.Ended.TheVariants.{Verified, ReadFault, NoMemory}
use Rattle.pic_on_dump.specs.Stops.{stop_of_verify}
use Rattle.pic_report.specs.Ended.{ended_of}
use Rattle.pic_report.specs.Reading.{Given, Held, Failed, FailedBehind, Gave, Reading}
use Rattle.pic_on_dump.specs.Verdict.{verdict_on, verdict_outcome}
use Rattle.pic_report.specs.Leaves.{ComesTo, Fulfils, LeavesNothing}
use Rattle.pic_report.specs.Finishes.{Announces}
use Rattle.pic_open.specs.Stops.{EndsStopped}
use Rattle.pic_report.specs.Manner.{Call, Performs}
use Rattle.pic_on_dump.specs.Verify.{TakesOfTested, ReadsDump, verifying}
use Rattle.pic_report.specs.Meaning.{MeansIn}
use Rattle.pic_report.proofs.EndLaws.{announced, starved, fed, unlike, told_held, gave_known}

-- what was left in a source is what it held, where it tells its bytes
pub left_held : (known : Option (List ℕ)) (held : List ℕ) → known ≡ option_map (λ _. held) known → IfSome known (λ bytes. bytes ≡ held)
left_held None held is = tt
left_held (Some bytes) held is = let same : bytes ≡ held = cc in same

-- a dump that gave this, of which no more was taken than is allowed
abbrev pub read : (source source' : Told) (allowed : TakesAllowed source source') → TakesToRecord source source' → (given : Given)
    → Gave source source' allowed.front given → Reading (TakesOfTested source source') source source'
read source source' allowed reached given gave = record {
  front = allowed.front;
  most = record { dump = record { allowed = allowed; same = refl }; reached = reached };
  taken = allowed.taken;
  given = given;
  gave = gave;
}

-- a call that verified a dump, of which no more was taken than is allowed, and that finished so
module _ (source source' : Told) (allowed : TakesAllowed source source') (reached : TakesToRecord source source') (before now : Sinks)
    (finish : Result Ended Cut) where
  -- the verdict on what the source held
  found : (answer : Verdict) → Finds verified source source' answer → ReadsDump source source' (ended_of finish)
      → Announces (verdict_outcome answer) before now finish → Performs verifying source source' before now (ended_of finish)
  found answer finds reads ends = record {
    read = read source source' allowed reached (Held finds.held) (finds.calm, left_held source.bytes finds.held finds.was);
    calm = λ _. finds.calm;
    reads = reads;
    comes = subst (λ (v : Verdict). ComesTo LeavesNothing (verdict_outcome v) before now (ended_of finish)) (sym finds.verdict)
        (announced LeavesNothing (verdict_outcome answer) before now finish ends);
  }

  -- a fault or a break, which came without want of memory
  faulty : (answer : Verdict) → ((verdict_outcome answer).answer ≡ NoMemory → ⊥)
      → ((frames : ℕ) → (verdict_outcome answer).answer ≡ Verified frames → ⊥) → (ReadFault ≡ (verdict_outcome answer).answer → ⊥)
      → Announces (verdict_outcome answer) before now finish → ReadsDump source source' (ended_of finish)
  faulty answer fed' good read' ends =
      let o = verdict_outcome answer in
      record {
        memory = λ wanted. absurd (fed o before now finish fed' ends wanted);
        end = λ frames is. absurd (unlike o before now finish (Verified frames) (good frames) (λ side same. cc) ends is);
        fault = λ is. absurd (unlike o before now finish ReadFault (λ same. read' (sym same)) (λ side same. cc) ends is);
      }

  -- it was verified to its end
  pub good_dump : (frames : ℕ) → Verifies source source' (Ok frames) → Announces (verdict_outcome (Ok frames)) before now finish
      → Performs verifying source source' before now (ended_of finish)
  good_dump frames is ends =
      let o = verdict_outcome (Ok frames) in
      found (Ok frames) is.answer.0 (record {
        memory = λ wanted. absurd (fed o before now finish (λ same. cc) ends wanted);
        end = λ _ _. is.answer.1;
        fault = λ same. absurd (unlike o before now finish ReadFault (λ same'. cc) (λ side same'. cc) ends same);
      }) ends

  -- it wasn't
  pub dump_stopped : (stop : VerifyStop) → Verifies source source' (Err stop)
      → (◌≡◌ {A = Verdict} (Err stop) (Err verify_stop.NoMemory) → TakesHeader source source')
      → EndsStopped (stop_of_verify stop) before now finish → Performs verifying source source' before now (ended_of finish)
  dump_stopped verify_stop.ReadFault is moved ends =
      let o = verdict_outcome (Err verify_stop.ReadFault) in
      record {
        read = read source source' allowed reached (Failed allowed.front) (is.answer, refl);
        calm = λ wanted. absurd (fed o before now finish (λ same. cc) ends wanted);
        reads = record {
          memory = λ wanted. absurd (fed o before now finish (λ same. cc) ends wanted);
          end = λ frames same. absurd (unlike o before now finish (Verified frames) (λ same'. cc) (λ side same'. cc) ends same);
          fault = λ _. is.answer;
        };
        comes = announced LeavesNothing o before now finish ends;
      }
  dump_stopped (verify_stop.BadDump place cause) is moved ends =
      let answer : Verdict = Err (verify_stop.BadDump place cause) in
      found answer is.answer (faulty answer (λ same. cc) (λ frames same. cc) (λ same. cc) ends) ends
  dump_stopped (verify_stop.Broken frame b) is moved ends =
      let answer : Verdict = Err (verify_stop.Broken frame b) in
      found answer is.answer (faulty answer (λ same. cc) (λ frames same. cc) (λ same. cc) ends) ends
  dump_stopped verify_stop.NoMemory is moved (none, wrote) = record {
    read = read source source' allowed reached (Held (unwrap_or source.bytes [])) (gave_known source source' allowed.front is.answer);
    calm = λ _. is.answer;
    reads = record {
      memory = λ _. moved refl;
      end = λ frames same. let other : NoMemory ≡ Verified frames = sym (ap ended_of none) ∙ same in cc;
      fault = λ same. let other : NoMemory ≡ ReadFault = sym (ap ended_of none) ∙ same in cc;
    };
    comes = starved LeavesNothing (verdict_outcome (verified (unwrap_or source.bytes []))) before now finish none wrote;
  }

-- memory was wanting before anything was taken
pub verify_starved : (source : Told) (before : Sinks) → Performs verifying source source before before NoMemory
verify_starved source before =
    let allowed = none_allowed source in
    record {
      read = read source source allowed (none_reached source) (Held (unwrap_or source.bytes [])) (gave_known source source allowed.front refl);
      calm = λ _. refl;
      reads = record { memory = λ _. none_header source; end = λ frames same. cc; fault = λ same. cc };
      comes = inr (inr (record { wanted = refl; left = wrote_none before }));
    }

-- what its answers mean
module _ (c : Call) (ended : Ended) (p : Performs verifying c.source c.source_now c.sinks c.sinks_now ended) where
  on_given : (given : Given) → Gave c.source c.source_now p.read.front given → Fulfils (verdict_outcome (verdict_on given)) c.sinks c.sinks_now ended
      → MeansIn verifying c (verdict_outcome (verdict_on given)).answer
  on_given (Failed taken) gave ends = record { rose = gave.0; calm_out = ends.wrote.calm_out; calm_report = ends.wrote.calm_report }
  on_given (FailedBehind held whole) gave ends = record {
    rose = gave.0;
    calm_out = ends.wrote.calm_out;
    calm_report = ends.wrote.calm_report;
  }
  on_given (Held held) gave ends = go (verified held) refl ends
    where
      on_held : (v : Verdict) → verified held ≡ v → IfSome c.source.bytes (λ bytes. verified bytes ≡ v)
      on_held v is = told_held (λ bytes. verified bytes ≡ v) c.source.bytes held gave.1 is

      go : (v : Verdict) → verified held ≡ v → Fulfils (verdict_outcome v) c.sinks c.sinks_now ended → MeansIn verifying c (verdict_outcome v).answer
      go (Ok frames) is whole = record { good = on_held (Ok frames) is; end = p.reads.end frames (sym whole.answers) }
      go (Err verify_stop.ReadFault) is whole = record {
        rose = p.reads.fault (sym whole.answers);
        calm_out = whole.wrote.calm_out;
        calm_report = whole.wrote.calm_report;
      }
      go (Err (verify_stop.BadDump place cause)) is whole = on_held (Err (verify_stop.BadDump place cause)) is
      go (Err (verify_stop.Broken frame b)) is whole = on_held (Err (verify_stop.Broken frame b)) is
      go (Err verify_stop.NoMemory) is whole = record { calm = gave.0; read = p.read; left = whole.wrote }

  pub verify_means : Fulfils (verdict_outcome (verdict_on p.read.given)) c.sinks c.sinks_now ended
      → MeansIn verifying c (verdict_outcome (verdict_on p.read.given)).answer
  verify_means ends = on_given p.read.given p.read.gave ends
