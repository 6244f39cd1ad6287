-- The command line, as `clap` takes it: what it doesn't take is no command.
use Rattle.std.specs.Prelude.{⊤, ℕ, ◌<◌, ◌≤◌, pos, true, List, [], ◌∷◌, codes, ◌&&◌, nat_le, bytes_eq}
use Rattle.std.specs.Prelude.{Option, Some, None, option_map, option_and_then, if◌then◌else◌}
use Rattle.std.specs.Str.Parse.{digits_value, without_leading_plus}
use Rattle.clap.specs.declared.builder.value_parser.ValueParser.TheVariants.{Signed}
use Rattle.clap.specs.ValueTests.{is_unsigned_in}
use Rattle.clap.specs.Kinds.{Kinds}
use Rattle.clap.specs.Words.{App, Row, Rule, Text, fault_of, new_app, new_rule, one_of, subcommand_of, with_rule, with_subcommand}
use Rattle.pic_line.specs.declared.asked.Command.{Command}
use Rattle.pic_line.specs.declared.asked.Command.TheVariants.{Check, Run, Verify, Demo, Upgrade, Resume, Probe}

-- `--workers N` and the like, a whole number of 1 to 64, and 1 where it is absent
abbrev pub few_rule : Text → Rule
few_rule name = record (new_rule name) {
  long = Some name;
  parser = Some (Signed (pos 1) (pos 64));
  defaults = codes "1" ∷ [];
}

-- `SEED`, a word that has to stand there, a whole number of 32 bits
abbrev pub seed_rule : Rule
seed_rule = record (new_rule (codes "SEED")) {
  parser = Some (Signed (pos 0) (pos 4294967295));
  required = true;
}

-- `--steps M`, which has to stand there, a whole number of 0 to 1000000
abbrev pub steps_rule : Rule
steps_rule = record (new_rule (codes "steps")) {
  long = Some (codes "steps");
  parser = Some (Signed (pos 0) (pos 1000000));
  required = true;
}

-- a subcommand that takes a number of workers alone
abbrev pub working_app : Text → App
working_app name = with_rule (new_app name) (few_rule (codes "workers"))

abbrev pub run_app : App
run_app = working_app (codes "run")

abbrev pub probe_app : App
probe_app = working_app (codes "probe")

abbrev pub demo_app : App
demo_app = with_rule (with_rule (new_app (codes "demo")) seed_rule) (few_rule (codes "workers"))

abbrev pub resume_app : App
resume_app =
    with_rule
    (with_rule
    (with_rule
    (with_rule (with_rule (new_app (codes "resume")) steps_rule) (few_rule (codes "workers")))
    (few_rule (codes "tiles-x")))
    (few_rule (codes "tiles-y")))
    (few_rule (codes "tiles-z"))

-- the command, with the subcommands `check`, `run` and `verify`
abbrev pub first_three_app : App
first_three_app =
    with_subcommand
    (with_subcommand
    (with_subcommand (new_app (codes "pic")) (new_app (codes "check")).top) run_app.top)
    (new_app (codes "verify")).top

-- and with `demo` and `upgrade`
abbrev pub first_five_app : App
first_five_app =
    with_subcommand (with_subcommand first_three_app demo_app.top) (new_app (codes "upgrade")).top

-- and with `resume` and `probe`
unfoldable pub pic_app : App
pic_app = with_subcommand (with_subcommand first_five_app resume_app.top) probe_app.top

-- the number from low to high that a text names
unfoldable pub number_in : ℕ → ℕ → Text → Option ℕ
number_in low high text =
    if is_unsigned_in low high text then Some (digits_value 10 (without_leading_plus text)) else None

-- a number, where it is one from low to high
abbrev pub kept : ℕ → ℕ → Option ℕ → Option ℕ
kept low high None = None
kept low high (Some n) = if nat_le low n && nat_le n high then Some n else None

-- a number of 1 to 64
abbrev pub few_in : Text → List Row → Option ℕ
few_in name rows = option_and_then (number_in 1 64) (one_of name rows)

abbrev pub workers_in : List Row → Option ℕ
workers_in rows = few_in (codes "workers") rows

abbrev pub seed_in : List Row → Option ℕ
seed_in rows = option_and_then (number_in 0 4294967295) (one_of (codes "SEED") rows)

abbrev pub steps_in : List Row → Option ℕ
steps_in rows = option_and_then (number_in 0 1000000) (one_of (codes "steps") rows)

-- three numbers, where they are all there
abbrev pub all_three : Option ℕ → Option ℕ → Option ℕ → Option (List ℕ)
all_three (Some x) (Some y) (Some z) = Some (x ∷ y ∷ z ∷ [])
all_three x y z = None

abbrev pub tiles_in : List Row → Option (List ℕ)
tiles_in rows =
    all_three (few_in (codes "tiles-x") rows) (few_in (codes "tiles-y") rows)
    (few_in (codes "tiles-z") rows)

-- a demonstration, where both its numbers are there
abbrev pub demo_of : Option ℕ → Option ℕ → Option Command
demo_of (Some seed) (Some workers) = Some (Demo seed workers)
demo_of seed workers = None

-- a run that goes on, where all its numbers are there
abbrev pub resume_of : Option ℕ → Option ℕ → Option (List ℕ) → Option Command
resume_of (Some steps) (Some workers) (Some tiles) = Some (Resume steps workers tiles)
resume_of steps workers tiles = None

-- the command of a subcommand's name and its values
abbrev pub command_named : Text → List Row → Option Command
command_named name rows =
    if bytes_eq name (codes "check") then Some Check
    else if bytes_eq name (codes "run") then option_map Run (workers_in rows)
    else if bytes_eq name (codes "verify") then Some Verify
    else if bytes_eq name (codes "demo") then demo_of (seed_in rows) (workers_in rows)
    else if bytes_eq name (codes "upgrade") then Some Upgrade
    else if bytes_eq name (codes "resume") then resume_of (steps_in rows) (workers_in rows) (tiles_in rows)
    else if bytes_eq name (codes "probe") then option_map Probe (workers_in rows)
    else None

-- no subcommand is `check`
abbrev pub command_from : Option (Text × List Row) → Option Command
command_from None = Some Check
command_from (Some (name, rows)) = command_named name rows

abbrev pub unless_fault : Kinds → Option Command → Option Command
unless_fault [] found = found
unless_fault (kind ∷ kinds) found = None

abbrev pub command_at : App → List Text → Option Command
command_at app words = unless_fault (fault_of app words) (command_from (subcommand_of app words))

-- the command of the words after the program's name
unfoldable pub command_of : List Text → Option Command
command_of words = command_at pic_app (codes "pic" ∷ words)

-- so many workers, 1 to 64
pub record AreWorkers (n : ℕ) : Type 0 where
  pub some : 0 < n
  pub most : n ≤ 64

-- a command has so many workers, where it has any
abbrev pub HasWorkers : Command → Type 0
HasWorkers (Run workers) = AreWorkers workers
HasWorkers (Demo seed workers) = AreWorkers workers
HasWorkers (Resume steps workers tiles) = AreWorkers workers
HasWorkers (Probe workers) = AreWorkers workers
HasWorkers command = ⊤
