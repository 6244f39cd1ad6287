-- The workers of a command are 1 to 64.
use Rattle.std.proofs.Common.{◌≡◌, ℕ, List, [], ◌∷◌, Bool, true, false, cond, Option, Some, None, refl, subst, arith}
use Rattle.std.specs.Prelude.{◌&&◌, nat_le, option_map, option_and_then, codes}
use Rattle.std.proofs.lemmas.Bool.Decides.{nat_tests}
use Rattle.clap.specs.Words.{fault_of, subcommand_of}
use Rattle.pic_line.specs.declared.asked.Command.{Command}
use Rattle.pic_line.specs.declared.asked.Command.TheVariants.{Check, Run, Verify, Demo, Upgrade, Resume, Probe}
use Rattle.pic_line.specs.CommandLine.{AreWorkers, HasWorkers, pic_app, number_in, workers_in, seed_in, steps_in, tiles_in}
use Rattle.pic_line.specs.CommandLine.{demo_of, resume_of, command_from, unless_fault, command_of}

both_ends : (a b : Bool) (n : ℕ) → (a && (b && (nat_le 1 n && nat_le n 64))) ≡ true → AreWorkers n
both_ends true true n h = record { some = grind (arith, nat_tests); most = grind (arith, nat_tests) }
both_ends true false n h = absurd (cc)
both_ends false b n h = absurd (cc)

if_some : (b : Bool) (v n : ℕ) → cond b (Some v) None ≡ Some n → (b ≡ true) × (v ≡ n)
if_some true v n h = (refl, cc)
if_some false v n h = absurd (cc)

numbered : (text : List ℕ) (n : ℕ) → number_in 1 64 text ≡ Some n → AreWorkers n
unfolding number_in
numbered text n h = let both = if_some _ _ n h in subst AreWorkers both.1 (both_ends _ _ _ both.0)

found : (o : Option (List ℕ)) (n : ℕ) → option_and_then (number_in 1 64) o ≡ Some n → AreWorkers n
found (Some text) n h = numbered text n h
found None n h = absurd (cc)

plain : (d c : Command) → HasWorkers d → ◌≡◌ {A = Option Command} (Some d) (Some c) → HasWorkers c
plain d c has h = let same : d ≡ c = cc in subst HasWorkers same has

run_has : (o : Option ℕ) (c : Command) → ((n : ℕ) → o ≡ Some n → AreWorkers n) → option_map Run o ≡ Some c → HasWorkers c
run_has (Some n) c all h = plain (Run n) c (all n refl) h
run_has None c all h = absurd (cc)

demo_has : (s o : Option ℕ) (c : Command) → ((n : ℕ) → o ≡ Some n → AreWorkers n) → demo_of s o ≡ Some c → HasWorkers c
demo_has (Some seed) (Some n) c all h = plain (Demo seed n) c (all n refl) h
demo_has (Some seed) None c all h = absurd (cc)
demo_has None o c all h = absurd (cc)

resume_has : (m o : Option ℕ) (ts : Option (List ℕ)) (c : Command) → ((n : ℕ) → o ≡ Some n → AreWorkers n) → resume_of m o ts ≡ Some c → HasWorkers c
resume_has (Some m) (Some n) (Some ts) c all h = plain (Resume m n ts) c (all n refl) h
resume_has (Some m) (Some n) None c all h = absurd (cc)
resume_has (Some m) None ts c all h = absurd (cc)
resume_has None o ts c all h = absurd (cc)

probe_has : (o : Option ℕ) (c : Command) → ((n : ℕ) → o ≡ Some n → AreWorkers n) → option_map Probe o ≡ Some c → HasWorkers c
probe_has (Some n) c all h = plain (Probe n) c (all n refl) h
probe_has None c all h = absurd (cc)

named : (a b d e u f v : Bool) (s o m : Option ℕ) (ts : Option (List ℕ)) (c : Command) → ((n : ℕ) → o ≡ Some n → AreWorkers n)
    → cond a (Some Check) (cond b (option_map Run o) (cond d (Some Verify) (cond e (demo_of s o) (cond u (Some Upgrade)
    (cond f (resume_of m o ts) (cond v (option_map Probe o) None)))))) ≡ Some c → HasWorkers c
named true b d e u f v s o m ts c all h = plain Check c tt h
named false true d e u f v s o m ts c all h = run_has o c all h
named false false true e u f v s o m ts c all h = plain Verify c tt h
named false false false true u f v s o m ts c all h = demo_has s o c all h
named false false false false true f v s o m ts c all h = plain Upgrade c tt h
named false false false false false true v s o m ts c all h = resume_has m o ts c all h
named false false false false false false true s o m ts c all h = probe_has o c all h
named false false false false false false false s o m ts c all h = absurd (cc)

from : (o : _) (c : Command) → command_from o ≡ Some c → HasWorkers c
from None c h = plain Check c tt h
from (Some (name, rows)) c h = named _ _ _ _ _ _ _ (seed_in rows) (workers_in rows) (steps_in rows) (tiles_in rows) c (λ n. found _ n) h

without_fault : (kinds : _) (o : _) (c : Command) → unless_fault kinds (command_from o) ≡ Some c → HasWorkers c
without_fault [] o c h = from o c h
without_fault (kind ∷ kinds) o c h = absurd (cc)

-- a command of words has 1 to 64 workers, where it has any
pub has_workers : (words : List (List ℕ)) (c : Command) → command_of words ≡ Some c → HasWorkers c
unfolding command_of
has_workers words c h = without_fault (fault_of pic_app (codes "pic" ∷ words)) (subcommand_of pic_app (codes "pic" ∷ words)) c h
