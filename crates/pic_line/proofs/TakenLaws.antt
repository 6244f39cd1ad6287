-- Words are a command exactly where `clap`'s definition has no fault at them.
use Rattle.std.proofs.Common.{◌≡◌, ◌∙◌, ℕ, Bool, true, false, not, cond, List, [], ◌∷◌, Option, Some, None, refl, sym, ap, ap₂, subst, true≢false}
use Rattle.std.specs.Prelude.{⊤, ◌&&◌, ◌||◌, find, fold, is_some, bytes_eq, codes, option_map}
use Rattle.std.specs.Option.{option_map_or}
use Rattle.std.proofs.lemmas.Slice.Eq.{bytes_eq-Decides}
use Rattle.clap.specs.declared.error.kind.ErrorKind.TheVariants as kind
use Rattle.clap.specs.Faults.{built_fault, entered_fault, fault_of, level_fault, other_fault, step_fault, turn_fault, walk_fault, word_fault}
use Rattle.clap.specs.Kinds.{Kinds, or_else}
use Rattle.clap.specs.Lexer.{long_of, short_of}
use Rattle.clap.specs.Simple.{App, Shape, argument_words, built, built_leaf, entered, help_shape, inherited, label_of, names_of, new_shape}
use Rattle.clap.specs.Simple.{rows_at, subcommand_of}
use Rattle.clap.specs.Walk.{Held, Names, Outcome, Rule, Step, Text, Waiting, Walk, after_flag, after_step, answers_to, arg_by_index}
use Rattle.clap.specs.Walk.{arg_by_long, bundle}
use Rattle.clap.specs.Walk.{long_met, long_or_other, nothing_held, plain_word, rows_after, short_or_plain, stop_after, subcommand_met, subcommand_or_other}
use Rattle.clap.specs.Walk.{to_positional, walk_from, walked, walked_from, word_met}
use Rattle.clap.specs.Walk.{done, waits, plain, refused, idle, option, positional, next, trailing, subcommand, value}
use Rattle.pic_line.specs.declared.asked.Command.{Command}
use Rattle.pic_line.specs.declared.asked.Command.TheVariants.{Check, Run, Verify, Demo, Upgrade, Resume, Probe}
use Rattle.pic_line.specs.CommandLine.{all_three, command_from, command_named, command_of, demo_app, demo_of, pic_app, probe_app, resume_app}
use Rattle.pic_line.specs.CommandLine.{resume_of, run_app, unless_fault}
use Rattle.pic_line.specs.Taken.{CommandsAreTaken}
use Rattle.pic_line.proofs.RowLaws.{or_none}
use Rattle.pic_line.proofs.StandLaws.{by_default, by_need}

-- ---- the word at which a walk stops

-- the subcommand that was met is not `help`
abbrev IsNoHelp : Option (Text × List Text) → Type 0
IsNoHelp None = ⊤
IsNoHelp (Some p) = bytes_eq p.0 (codes "help") ≡ false

abbrev StepsNoHelp : Step → Type 0
StepsNoHelp (subcommand name) = bytes_eq name (codes "help") ≡ false
StepsNoHelp x = ⊤

plain_no_help : (c : List Rule) (waiting : Waiting) (word : Text) (h : Held) → StepsNoHelp (plain_word c waiting word h).1
plain_no_help c (option i) word h = tt
plain_no_help c idle word h = tt
plain_no_help c positional word h = tt

flagged_no_help : (c : List Rule) (waiting : Waiting) (word : Text) (h : Held) (o : Outcome) → StepsNoHelp (after_flag c waiting word h o).1
flagged_no_help c waiting word h done = tt
flagged_no_help c waiting word h (waits i) = tt
flagged_no_help c waiting word h plain = plain_no_help c waiting word h
flagged_no_help c waiting word h refused = plain_no_help c waiting word h

other_no_help : (c : List Rule) (waiting : Waiting) (word : Text) (l : Option (Text × Option Text)) (h : Held)
    → StepsNoHelp (long_or_other c waiting word l h).1
other_no_help c waiting word (Some p) h = let met = long_met c (arg_by_long c p.0) p.1 h in flagged_no_help c waiting word met.0 met.1
other_no_help c waiting word None h = go (short_of word)
  where
    go : (o : Option Text) → StepsNoHelp (short_or_plain c waiting word o h).1
    go None = plain_no_help c waiting word h
    go (Some flags) = let met = bundle c flags h in flagged_no_help c waiting word met.0 met.1

module _ (s : Shape) (names : Names) (helps : s.disable_help_subcommand ≡ false) where
  met_no_help : (o : Option Text) (waiting : Waiting) (position : ℕ) (word : Text) (h : Held) → other_fault s o word h ≡ []
      → StepsNoHelp (subcommand_or_other s.rules o waiting position word h).1
  met_no_help (Some name) waiting position word h none = go (bytes_eq name (codes "help")) s.disable_help_subcommand helps none
    where
      go : (b d : Bool) → d ≡ false → ◌≡◌ {A = Kinds} (cond (b && not d) (kind.DisplayHelp ∷ kind.InvalidSubcommand ∷ []) []) [] → b ≡ false
      go true true off e = absurd (true≢false off)
      go true false off e = absurd (cc)
      go false d off e = refl
  met_no_help None waiting position word h none = go (bytes_eq word (45 ∷ 45 ∷ []))
    where
      go : (b : Bool) → StepsNoHelp (cond b (h, trailing position) (long_or_other s.rules waiting word (long_of word) h)).1
      go true = tt
      go false = other_no_help s.rules waiting word (long_of word) h

  word_no_help : (trails : Bool) (waiting : Waiting) (position : ℕ) (word : Text) (h : Held) → word_fault s names trails waiting word h ≡ []
      → StepsNoHelp (word_met s.rules names trails waiting position word h).1
  word_no_help true waiting position word h none = tt
  word_no_help false waiting position word h none = met_no_help (subcommand_met names waiting word) waiting position word h none

  step_no_help : (word : Text) (w : Walk) (h : Held) (x : Step) → StepsNoHelp x → IsNoHelp w.stopped → IsNoHelp (after_step s.rules word w h x).stopped
  step_no_help word w h (next waiting) step stop = stop
  step_no_help word w h (trailing position) step stop = stop
  step_no_help word w h (subcommand name) step stop = step
  step_no_help word w h value step stop = go (arg_by_index s.rules w.position)
    where
      go : (o : Option Rule) → IsNoHelp (to_positional s.rules o word w h).stopped
      go None = stop
      go (Some a) = tt

  turn_no_help : (w : Walk) (word : Text) (stop : Option (Text × List Text))
      → ◌≡◌ {A = Kinds} (cond (is_some stop) [] (or_else (word_fault s names w.is_trailing w.waiting word w.held)
      (step_fault s w.position (word_met s.rules names w.is_trailing w.waiting w.position word w.held).0
      (word_met s.rules names w.is_trailing w.waiting w.position word w.held).1))) []
      → IsNoHelp stop → IsNoHelp w.stopped → IsNoHelp (walked_from s.rules names stop w word).stopped
  turn_no_help w word (Some p) none here stop = here
  turn_no_help w word None none here stop =
      let met = word_met s.rules names w.is_trailing w.waiting w.position word w.held in
      let parts = or_none (word_fault s names w.is_trailing w.waiting word w.held) (step_fault s w.position met.0 met.1) none in
      step_no_help word w met.0 met.1 (word_no_help w.is_trailing w.waiting w.position word w.held parts.0) stop

  walked_no_help : (w : Walk) (word : Text) → turn_fault s names w word ≡ [] → IsNoHelp w.stopped → IsNoHelp (walked s.rules names w word).stopped
  unfolding walked
  walked_no_help w word none stop = turn_no_help w word w.stopped none stop stop

  walk_no_help : (w : Walk) (words : List Text) → walk_fault s names w words ≡ [] → IsNoHelp w.stopped
      → IsNoHelp (fold (walked s.rules names) w words).stopped
  unfolding walk_fault
  walk_no_help w [] none stop = stop
  walk_no_help w (word ∷ rest) none stop =
      let parts = or_none (turn_fault s names w word) (walk_fault s names (walked s.rules names w word) rest) none in
      walk_no_help (walked s.rules names w word) rest parts.1 (walked_no_help w word parts.0 stop)

-- ---- what stands behind a subcommand

-- words that a subcommand takes are a command, but behind `help`
abbrev IsCommand : Shape → Type 0
IsCommand s = (name : Text) → answers_to name (label_of s) ≡ true → bytes_eq name (codes "help") ≡ false
    → (words : List Text) → level_fault s [] nothing_held words false [] ≡ []
    → (c : Command) × (command_named s.name (rows_after s.rules [] words) ≡ Some c)

abbrev Each : List Shape → Type 0
Each [] = ⊤
Each (s ∷ rest) = IsCommand s × Each rest

each_found : (t : Shape → Bool) (xs : List Shape) (s : Shape) → Each xs → find t xs ≡ Some s → (t s ≡ true) × IsCommand s
each_found t [] s each h = absurd (cc)
each_found t (x ∷ xs) s each h = go (t x) refl h (λ e. each_found t xs s each.1 e)
  where
    go : (b : Bool) → t x ≡ b → cond b (Some x) (find t xs) ≡ Some s → (find t xs ≡ Some s → (t s ≡ true) × IsCommand s)
        → (t s ≡ true) × IsCommand s
    go true is e later = let same : x ≡ s = cc in subst (λ (y : Shape). (t y ≡ true) × IsCommand y) same (is, each.0)
    go false is e later = later e

-- a built command whose subcommands are commands
taken_by : (a : App) → a.top.disable_help_subcommand ≡ false → Each a.subs → (words : List Text) → built_fault a nothing_held words ≡ []
    → (c : Command) × (command_from (entered a (stop_after a.top.rules (names_of a) words)) ≡ Some c)
taken_by a helps each words none =
    let stop = stop_after a.top.rules (names_of a) words in
    let first = or_none (walk_fault a.top (names_of a) (walk_from nothing_held) words) _ none in
    let second = or_none (entered_fault a stop) _ first.1 in
    go stop (walk_no_help a.top (names_of a) helps (walk_from nothing_held) words first.0 tt) second.0
  where
    met : (p : Text × List Text) → bytes_eq p.0 (codes "help") ≡ false
        → (o : Option Shape) → ((s : Shape) → o ≡ Some s → (answers_to p.0 (label_of s) ≡ true) × IsCommand s)
        → option_map_or (λ (s : Shape). level_fault s [] nothing_held p.1 false []) o [] ≡ []
        → (c : Command) × (command_from (option_map (λ (s : Shape). rows_at s p.1) o) ≡ Some c)
    met p named None found e = (Check, refl)
    met p named (Some s) found e = let is = found s refl in is.1 p.0 is.0 named p.1 e

    go : (stop : Option (Text × List Text)) → IsNoHelp stop → entered_fault a stop ≡ [] → (c : Command) × (command_from (entered a stop) ≡ Some c)
    go None named e = (Check, refl)
    go (Some p) named e =
        met p named (find (λ (s : Shape). answers_to p.0 (label_of s)) a.subs)
        (λ s h. each_found (λ (x : Shape). answers_to p.0 (label_of x)) a.subs s each h) e

-- ---- the subcommands of `pic`

-- a subcommand of `pic`, built
abbrev sub : Shape → Shape
sub s = built_leaf (inherited (record (new_shape (codes "pic")) { is_leaf = false; is_built = true }) s)

alone : (b : Bool) → (b || false) ≡ true → b ≡ true
alone true h = refl
alone false h = h

check_taken : IsCommand (sub (new_shape (codes "check")))
check_taken name answers named words none = (Check, refl)

verify_taken : IsCommand (sub (new_shape (codes "verify")))
verify_taken name answers named words none = (Verify, refl)

upgrade_taken : IsCommand (sub (new_shape (codes "upgrade")))
upgrade_taken name answers named words none = (Upgrade, refl)

run_taken : IsCommand (sub run_app.top)
run_taken name answers named words none =
    let workers = by_default (codes "workers") 1 64 (sub run_app.top) words refl refl none in
    (Run workers.0, ap (option_map Run) workers.1)

demo_taken : IsCommand (sub demo_app.top)
demo_taken name answers named words none =
    let seed = by_need (codes "SEED") 0 4294967295 (sub demo_app.top) words refl refl none in
    let workers = by_default (codes "workers") 1 64 (sub demo_app.top) words refl refl none in
    (Demo seed.0 workers.0, ap₂ demo_of seed.1 workers.1)

resume_taken : IsCommand (sub resume_app.top)
resume_taken name answers named words none =
    let steps = by_need (codes "steps") 0 1000000 (sub resume_app.top) words refl refl none in
    let workers = by_default (codes "workers") 1 64 (sub resume_app.top) words refl refl none in
    let x = by_default (codes "tiles-x") 1 64 (sub resume_app.top) words refl refl none in
    let y = by_default (codes "tiles-y") 1 64 (sub resume_app.top) words refl refl none in
    let z = by_default (codes "tiles-z") 1 64 (sub resume_app.top) words refl refl none in (
      Resume steps.0 workers.0 (x.0 ∷ y.0 ∷ z.0 ∷ []),
      λ i. resume_of (steps.1 i) (workers.1 i) (all_three (x.1 i) (y.1 i) (z.1 i)),
    )

probe_taken : IsCommand (sub probe_app.top)
probe_taken name answers named words none =
    let workers = by_default (codes "workers") 1 64 (sub probe_app.top) words refl refl none in
    (Probe workers.0, ap (option_map Probe) workers.1)

help_taken : IsCommand (built_leaf help_shape)
help_taken name answers named words none =
    let same : codes "help" ≡ name = (bytes_eq-Decides (codes "help") name).0 (alone (bytes_eq (codes "help") name) answers) in
    absurd (true≢false (sym ((bytes_eq-Decides name (codes "help")).1 (sym same)) ∙ named))

each_taken : Each (built pic_app).subs
unfolding pic_app
each_taken = (
  check_taken,
  (run_taken, (verify_taken, (demo_taken, (upgrade_taken, (resume_taken, (probe_taken, (help_taken, tt))))))),
)

pic_helps : (built pic_app).top.disable_help_subcommand ≡ false
unfolding pic_app
pic_helps = refl

taken : (words : List Text) → fault_of pic_app (codes "pic" ∷ words) ≡ [] → (c : Command) × (command_of words ≡ Some c)
unfolding command_of
taken words none =
    let found = taken_by (built pic_app) pic_helps each_taken (argument_words pic_app (codes "pic" ∷ words)) none in
    (found.0, ap₂ unless_fault none found.1)

faultless : (kinds : Kinds) (found : Option Command) (c : Command) → unless_fault kinds found ≡ Some c → kinds ≡ []
faultless [] found c h = refl
faultless (k ∷ ks) found c h = absurd (cc)

-- words are a command exactly where there is no fault
pub commands_taken : CommandsAreTaken
unfolding command_of
commands_taken words =
    let line = codes "pic" ∷ words in
    (taken words, λ h. faultless (fault_of pic_app line) (command_from (subcommand_of pic_app line)) h.0 h.1)
