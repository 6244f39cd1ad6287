-- The rows of a level of the words that has no fault: the row of an argument in a range reads as a number in it.
use Rattle.std.proofs.Common.{◌≡◌, ◌∙◌, ℕ, Bool, true, false, not, cond, zero, suc, List, [], ◌∷◌, ◌++◌, length, drop, Option, Some, None, refl, sym}
use Rattle.std.proofs.Common.{ap, true≢false, arith}
use Rattle.std.specs.Prelude.{◌&&◌, ◌||◌, nat_lt, find, fold, is_some, encode_utf8, slice_get, bytes_eq, option_map}
use Rattle.std.specs.List.{list_all}
use Rattle.std.specs.Option.{option_map_or}
use Rattle.std.specs.Str.{chars}
use Rattle.std.proofs.lemmas.Bool.{and_from, and_parts, cond-false, cond_both, ne_eqb}
use Rattle.std.proofs.lemmas.List.Folds.{list_all-append}
use Rattle.clap.specs.declared.builder.action.ArgAction.{ArgAction}
use Rattle.clap.specs.declared.builder.action.ArgAction.TheVariants as action
use Rattle.clap.specs.declared.builder.value_parser.ValueParser.{ValueParser}
use Rattle.clap.specs.declared.builder.value_parser.Reading.{Reading}
use Rattle.clap.specs.declared.error.kind.ErrorKind.TheVariants as kind
use Rattle.clap.specs.declared.parser.matches.ValueSource.{ValueSource}
use Rattle.clap.specs.declared.parser.matches.ValueSource.TheVariants.{DefaultValue, CommandLine}
use Rattle.clap.specs.Facts.{parser_of_value, unwrap_or_range}
use Rattle.clap.specs.Kinds.{Kinds, or_else, range_kinds, request_kinds, value_kinds}
use Rattle.clap.specs.Lexer.{long_of, short_of}
use Rattle.clap.specs.Simple.{Shape}
use Rattle.clap.specs.Values.{is_request, read_as, refused_kind}
use Rattle.clap.specs.ValueTests.{accepts, is_unsigned_in}
use Rattle.clap.specs.Faults.{action_fault, bundle_step_fault, default_fault, defaults_fault, flag_word_fault, flags_fault, given_default_fault}
use Rattle.clap.specs.Faults.{level_fault, long_fault, option_fault, other_fault, react_fault, settle_fault, short_fault, step_fault, stray_fault}
use Rattle.clap.specs.Faults.{turn_fault, use_fault, values_fault, walk_fault, word_fault, repeat_fault, positional_fault, bundle_fault}
use Rattle.clap.specs.Walk.{Held, Names, Outcome, Row, Rule, Step, Text, Waiting, Walk, action_of, after_flag, after_step, arg_by_id, arg_by_index}
use Rattle.clap.specs.Walk.{arg_by_long, arg_by_short, at_row, attached_value, bundle, bundle_met, bundle_step, default_rows, flag_met}
use Rattle.clap.specs.Walk.{has_long, has_row, has_short}
use Rattle.clap.specs.Walk.{is_empty, is_pending, long_met, long_or_other, more_values, most_values, nothing_held, option_met, option_word}
use Rattle.clap.specs.Walk.{plain_word, positional_held, pushed, reacted, reading_by, row_text, rows_after, settled, settled_rows, short_met}
use Rattle.clap.specs.Walk.{short_or_plain, subcommand_met, subcommand_or_other, takes_several, takes_values, to_positional, used, used_as}
use Rattle.clap.specs.Walk.{used_by_id, values_or_missing, walk, walk_from, walked, walked_from, with_default, with_values, without, word_met}
use Rattle.clap.specs.Walk.{done, waits, plain, refused, idle, option, positional, next, trailing, subcommand, value}
use Rattle.pic_line.proofs.NumberLaws.{is_range, range_reads}

-- ---- tests

-- a use of the argument has a value, or is answered by a text
abbrev one_or_more : ArgAction → ℕ → Bool
one_or_more action.Set least = nat_lt 0 least
one_or_more other least = is_request other

abbrev pub reads_in : ℕ → ℕ → Option Text → Bool
reads_in low high o = option_map_or (is_unsigned_in low high) o false

-- the argument has this id only where its values are the numbers from low to high
abbrev pub rule_fits : Text → ℕ → ℕ → Rule → Bool
rule_fits id low high a = one_or_more (action_of a) (unwrap_or_range a.range).start_inclusive && (not (bytes_eq a.id id) || is_range low high a.parser)

-- the row has this id only where it reads as a number from low to high
abbrev pub row_fits : Text → ℕ → ℕ → Row → Bool
row_fits id low high r = not (bytes_eq r.id id) || reads_in low high (row_text r)

-- ---- kinds, searches and changes of rows

pub or_none : (a b : Kinds) → or_else a b ≡ [] → (a ≡ []) × (b ≡ [])
or_none [] b h = (refl, h)
or_none (k ∷ ks) b h = absurd (cc)

value_passes : (i : Bool) (p : ValueParser) (v : Text) → value_kinds i p v ≡ [] → accepts i p v ≡ true
value_passes i p v h = go (accepts i p v) h
  where
    go : (b : Bool) → ◌≡◌ {A = Kinds} (cond b [] (refused_kind p ∷ [])) [] → b ≡ true
    go true e = refl
    go false e = absurd (cc)

pub found_passes : {X : Type 0} (t q : X → Bool) (xs : List X) (x : X) → list_all q xs ≡ true → find t xs ≡ Some x → (t x ≡ true) × (q x ≡ true)
found_passes t q [] x all h = absurd (cc)
found_passes t q (y ∷ ys) x all h =
    let parts = and_parts (q y) (list_all q ys) all in
    go (t y) refl h parts.0 (λ e. found_passes t q ys x parts.1 e)
  where
    go : (b : Bool) → t y ≡ b → cond b (Some y) (find t ys) ≡ Some x → q y ≡ true → (find t ys ≡ Some x → (t x ≡ true) × (q x ≡ true))
        → (t x ≡ true) × (q x ≡ true)
    go true is e here later = let same : x ≡ y = cc in (ap t same ∙ is, ap q same ∙ here)
    go false is e here later = later e

changed_all : (p : Row → Bool) (i : Text) (change : Row → List Row) (missing rows : List Row) → ((r : Row) → p r ≡ true → list_all p (change r) ≡ true)
    → list_all p missing ≡ true → list_all p rows ≡ true → list_all p (at_row i change missing rows) ≡ true
changed_all p i change missing [] each none h = none
changed_all p i change missing (r ∷ rs) each none h =
    let parts = and_parts (p r) (list_all p rs) h in
    cond_both (bytes_eq r.id i) (change r ++ rs) (r ∷ at_row i change missing rs) (λ (x : List Row). list_all p x ≡ true)
    (λ _. list_all-append p (change r) rs ∙ and_from _ _ (each r parts.0) parts.1)
    (λ _. and_from (p r) _ parts.0 (changed_all p i change missing rs each none parts.1))

implied : (b x : Bool) → (b ≡ true → x ≡ true) → (not b || x) ≡ true
implied true x h = h refl
implied false x h = refl

pub since : (b x : Bool) → (not b || x) ≡ true → b ≡ true → x ≡ true
since true x h is = h
since false x h is = absurd (true≢false (sym is))

-- ---- one use of an argument

module _ (id : Text) (low high : ℕ) where
  abbrev fit : List Row → Bool
  fit rows = list_all (row_fits id low high) rows

  text_kept : (b : Bool) (how : Reading) (xs vs : List Text) → (b || reads_in low high (option_map (read_as how) (slice_get xs 0))) ≡ true
      → (b || reads_in low high (option_map (read_as how) (slice_get (xs ++ vs) 0))) ≡ true
  text_kept true how xs vs h = refl
  text_kept false how [] vs h = absurd (true≢false (sym h))
  text_kept false how (x ∷ xs) vs h = h

  -- where a value that passes is put into the rows, they fit
  put_fits : (i : Text) (how : Reading) (s : ValueSource) (v : Text) (vs : List Text) (rows : List Row)
      → (bytes_eq i id ≡ true → is_unsigned_in low high (read_as how v) ≡ true) → fit rows ≡ true → fit (with_values i how s (v ∷ vs) rows) ≡ true
  put_fits i how s v vs rows reads h =
      changed_all (row_fits id low high) i (more_values s (v ∷ vs)) _ rows
      (λ r e. and_from _ _ (text_kept (not (bytes_eq r.id id)) r.reading r.values (v ∷ vs) e) refl)
      (and_from _ _ (implied (bytes_eq i id) (is_unsigned_in low high (read_as how v)) reads) refl) h

  without_fits : (i : Text) (rows : List Row) → fit rows ≡ true → fit (without i rows) ≡ true
  without_fits i rows h = changed_all (row_fits id low high) i (λ _. []) [] rows (λ r e. refl) refl h

  value_reads : (a : Rule) (v : Text) (rest : List Text) → (not (bytes_eq a.id id) || is_range low high a.parser) ≡ true → values_fault a (v ∷ rest) ≡ []
      → bytes_eq a.id id ≡ true → is_unsigned_in low high (read_as (reading_by a) v) ≡ true
  value_reads a v rest range none is =
      range_reads low high a.ignore_case a.parser v (since (bytes_eq a.id id) (is_range low high a.parser) range is)
      (value_passes a.ignore_case (parser_of_value a.parser) v (or_none (value_kinds a.ignore_case (parser_of_value a.parser) v) _ none).0)

  no_values : (b : Bool) (rest : Kinds) → b ≡ true → ◌≡◌ {A = Kinds} (cond (b && true) (kind.InvalidValue ∷ []) rest) [] → ⊥
  no_values true rest is h = cc
  no_values false rest is h = true≢false (sym is)

  used_as_fits : (x : ArgAction) (again : Bool) (a : Rule) (vs : List Text) (rows : List Row) → one_or_more x (unwrap_or_range a.range).start_inclusive ≡ true
      → (not (bytes_eq a.id id) || is_range low high a.parser) ≡ true
      → range_kinds (unwrap_or_range a.range).start_inclusive (most_values a) (length vs) ≡ []
      → action_fault x again a (values_or_missing a vs) rows ≡ [] → fit rows ≡ true
      → fit (used_as x a.id (reading_by a) (values_or_missing a vs) rows) ≡ true
  used_as_fits action.Set again a [] rows some range count none h =
      absurd (no_values (nat_lt 0 (unwrap_or_range a.range).start_inclusive) _ some count)
  used_as_fits action.Set again a (v ∷ rest) rows some range count none h =
      put_fits a.id (reading_by a) CommandLine v rest (without a.id rows)
      (value_reads a v rest range (or_none (repeat_fault again a.id rows) (values_fault a (v ∷ rest)) none).1) (without_fits a.id rows h)
  used_as_fits action.Append again a vs rows some range count none h = absurd (true≢false (sym some))
  used_as_fits action.SetTrue again a vs rows some range count none h = absurd (true≢false (sym some))
  used_as_fits action.SetFalse again a vs rows some range count none h = absurd (true≢false (sym some))
  used_as_fits action.Count again a vs rows some range count none h = absurd (true≢false (sym some))
  used_as_fits other again a vs rows some range count none h = h

  used_fits : (again : Bool) (a : Rule) (vs : List Text) (rows : List Row) → rule_fits id low high a ≡ true → use_fault again a vs rows ≡ []
      → fit rows ≡ true → fit (used a vs rows) ≡ true
  used_fits again a vs rows rule none h =
      let rules = and_parts (one_or_more (action_of a) (unwrap_or_range a.range).start_inclusive) _ rule in
      let parts = or_none (range_kinds (unwrap_or_range a.range).start_inclusive (most_values a) (length vs)) _ none in
      used_as_fits (action_of a) again a vs rows rules.0 rules.1 parts.0 parts.1 h

-- ---- the walk over the words

module _ (id : Text) (low high : ℕ) (s : Shape) (each : list_all (rule_fits id low high) s.rules ≡ true) where
  abbrev fits : Held → Type 0
  fits h = fit id low high h.rows ≡ true

  abbrev again : Bool
  again = s.args_override_self

  -- a rule that was found, or none
  abbrev IsOurs : Option Rule → Type 0
  IsOurs o = (a : Rule) → o ≡ Some a → rule_fits id low high a ≡ true

  ours : (t : Rule → Bool) → IsOurs (find t s.rules)
  ours t a h = (found_passes t (rule_fits id low high) s.rules a each h).1

  id_fits : (o : Option Rule) (vs : List Text) (rows : List Row) → IsOurs o → option_map_or (λ (a : Rule). use_fault again a vs rows) o [] ≡ []
      → fit id low high rows ≡ true → fit id low high (used_by_id o vs rows) ≡ true
  id_fits None vs rows rule none h = h
  id_fits (Some a) vs rows rule none h = used_fits id low high again a vs rows (rule a refl) none h

  settled_fits : (h : Held) → settle_fault s.rules again h ≡ [] → fits h → fits (settled s.rules h)
  settled_fits h none f = go h.pending none
    where
      go : (p : Option (Text × List Text))
          → option_map_or (λ (q : Text × List Text). option_map_or (λ (a : Rule). use_fault again a q.1 h.rows) (arg_by_id s.rules q.0) []) p [] ≡ []
          → fit id low high (settled_rows s.rules p h.rows) ≡ true
      go None e = f
      go (Some p) e = id_fits (arg_by_id s.rules p.0) p.1 h.rows (ours (λ (a : Rule). bytes_eq a.id p.0)) e f

  reacted_fits : (a : Rule) (vs : List Text) (h : Held) → rule_fits id low high a ≡ true → react_fault s.rules again a vs h ≡ [] → fits h
      → fits (reacted s.rules a vs h)
  reacted_fits a vs h rule none f =
      let parts = or_none (settle_fault s.rules again h) (use_fault again a vs (settled s.rules h).rows) none in
      used_fits id low high again a vs (settled s.rules h).rows rule parts.1 (settled_fits h parts.0 f)

  option_fits : (a : Rule) (v : Option Text) (h : Held) → rule_fits id low high a ≡ true → option_fault s.rules again a v h ≡ [] → fits h
      → fits (option_met s.rules a v h).0
  option_fits a (Some v) h rule none f = reacted_fits a (v ∷ []) h rule none f
  option_fits a None h rule none f = settled_fits h none f

  flag_fits : (a : Rule) (v : Option Text) (h : Held) → rule_fits id low high a ≡ true
      → ◌≡◌ {A = Kinds} (cond (is_some v) (kind.TooManyValues ∷ []) (react_fault s.rules again a [] h)) [] → fits h → fits (flag_met s.rules a v h).0
  flag_fits a (Some v) h rule none f = f
  flag_fits a None h rule none f = reacted_fits a [] h rule none f

  long_fits : (o : Option Rule) (v : Option Text) (h : Held) → IsOurs o → long_fault s.rules again o v h ≡ [] → fits h → fits (long_met s.rules o v h).0
  long_fits None v h rule none f = f
  long_fits (Some a) v h rule none f = go (takes_values a) none
    where
      go : (b : Bool)
          → ◌≡◌ {A = Kinds} (cond b (option_fault s.rules again a v h) (cond (is_some v) (kind.TooManyValues ∷ []) (react_fault s.rules again a [] h))) []
          → fits (cond b (option_met s.rules a v h) (flag_met s.rules a v h)).0
      go true e = option_fits a v h (rule a refl) e f
      go false e = flag_fits a v h (rule a refl) e f

  short_fits : (o : Option Rule) (rest : Text) (h : Held) (fault : Held → Kinds) (met : Held → Held × Outcome) → IsOurs o
      → ((g : Held) → fault g ≡ [] → fits g → fits (met g).0) → short_fault s.rules again o rest h fault ≡ [] → fits h
      → fits (short_met s.rules o rest h met).0
  short_fits None rest h fault met rule later none f = f
  short_fits (Some a) rest h fault met rule later none f = go (takes_values a) none
    where
      go : (b : Bool)
          → ◌≡◌ {A = Kinds} (cond b (option_fault s.rules again a (attached_value rest) h)
          (or_else (react_fault s.rules again a [] h) (fault (reacted s.rules a [] h)))) []
          → fits (cond b (option_met s.rules a (attached_value rest) h) (met (reacted s.rules a [] h))).0
      go true e = option_fits a (attached_value rest) h (rule a refl) e f
      go false e =
          let parts = or_none (react_fault s.rules again a [] h) (fault (reacted s.rules a [] h)) e in
          later (reacted s.rules a [] h) parts.1 (reacted_fits a [] h (rule a refl) parts.0 f)

  flag_step_fits : (o : Option ℕ) (flags : Text) (skip : ℕ) (so_far : Outcome) (h : Held) (fault : Text → ℕ → Held → Kinds)
      (met : Text → ℕ → Outcome → Held → Held × Outcome)
      → ((t : Text) (n : ℕ) (x : Outcome) (g : Held) → fault t n g ≡ [] → fits g → fits (met t n x g).0)
      → bundle_step_fault s.rules again o flags skip h fault ≡ [] → fits h → fits (bundle_step s.rules o flags skip so_far h met).0
  flag_step_fits None flags skip so_far h fault met later none f = f
  flag_step_fits (Some x) flags zero so_far h fault met later none f =
      let rest = drop (length (encode_utf8 x)) flags in
      short_fits (arg_by_short s.rules x) rest h (fault rest 0) (met rest 0 done)
      (ours (λ (a : Rule). not (is_some a.index) && has_short a x)) (λ g e k. later rest 0 done g e k) none f
  flag_step_fits (Some x) flags (suc skip) so_far h fault met later none f = later (drop (length (encode_utf8 x)) flags) skip so_far h none f

  flags_fit : (k : ℕ) (flags : Text) (skip : ℕ) (so_far : Outcome) (h : Held) → flags_fault s.rules again k flags skip h ≡ [] → fits h
      → fits (bundle_met s.rules k flags skip so_far h).0
  unfolding flags_fault bundle_met
  flags_fit zero flags skip so_far h none f = f
  flags_fit (suc k) flags skip so_far h none f =
      flag_step_fits (slice_get (chars flags) 0) flags skip so_far h (flags_fault s.rules again k) (bundle_met s.rules k)
      (λ t n x g e r. flags_fit k t n x g e r) none f

  plain_fits : (waiting : Waiting) (word : Text) (h : Held) → fits h → fits (plain_word s.rules waiting word h).0
  plain_fits (option i) word h f = go (arg_by_id s.rules i)
    where
      go : (o : Option Rule) → fits (option_word o i word h).0
      go None = f
      go (Some a) = f
  plain_fits idle word h f = f
  plain_fits positional word h f = f

  flagged_fits : (waiting : Waiting) (word : Text) (h : Held) (o : Outcome) → fits h → fits (after_flag s.rules waiting word h o).0
  flagged_fits waiting word h done f = f
  flagged_fits waiting word h (waits i) f = f
  flagged_fits waiting word h plain f = plain_fits waiting word h f
  flagged_fits waiting word h refused f = plain_fits waiting word h f

  flag_word_fits : (waiting : Waiting) (word : Text) (l : Option (Text × Option Text)) (h : Held) → flag_word_fault s.rules again l word h ≡ [] → fits h
      → fits (long_or_other s.rules waiting word l h).0
  flag_word_fits waiting word (Some p) h none f =
      let met = long_met s.rules (arg_by_long s.rules p.0) p.1 h in
      flagged_fits waiting word met.0 met.1 (long_fits (arg_by_long s.rules p.0) p.1 h (ours (λ (a : Rule). not (is_some a.index) && has_long a p.0)) none f)
  flag_word_fits waiting word None h none f = go (short_of word) none
    where
      go : (o : Option Text) → option_map_or (λ (flags : Text). bundle_fault s.rules again flags h) o [] ≡ [] → fits (short_or_plain s.rules waiting word o h).0
      go None e = plain_fits waiting word h f
      go (Some flags) e =
          let met = bundle s.rules flags h in
          flagged_fits waiting word met.0 met.1 (flags_fit (length flags) flags h.skip plain (record h { skip = 0 }) e f)

  other_fits : (o : Option Text) (waiting : Waiting) (position : ℕ) (word : Text) (h : Held) → other_fault s o word h ≡ [] → fits h
      → fits (subcommand_or_other s.rules o waiting position word h).0
  other_fits (Some name) waiting position word h none f = f
  other_fits None waiting position word h none f = go (bytes_eq word (45 ∷ 45 ∷ [])) none
    where
      go : (b : Bool) → ◌≡◌ {A = Kinds} (cond b [] (flag_word_fault s.rules again (long_of word) word h)) []
          → fits (cond b (h, trailing position) (long_or_other s.rules waiting word (long_of word) h)).0
      go true e = f
      go false e = flag_word_fits waiting word (long_of word) h e f

  word_fits : (names : Names) (trails : Bool) (waiting : Waiting) (position : ℕ) (word : Text) (h : Held) → word_fault s names trails waiting word h ≡ []
      → fits h → fits (word_met s.rules names trails waiting position word h).0
  word_fits names true waiting position word h none f = f
  word_fits names false waiting position word h none f = other_fits (subcommand_met names waiting word) waiting position word h none f

  pushed_fits : (a : Rule) (word : Text) (h : Held) → positional_fault s.rules again a h ≡ [] → fits h → fits (positional_held s.rules a word h)
  pushed_fits a word h none f = go (is_pending a h.pending && takes_several a) none
    where
      go : (b : Bool) → ◌≡◌ {A = Kinds} (cond b [] (settle_fault s.rules again h)) [] → fits (pushed a.id word (cond b h (settled s.rules h)))
      go true e = f
      go false e = settled_fits h e f

  step_fits : (word : Text) (w : Walk) (h : Held) (x : Step) → step_fault s w.position h x ≡ [] → fits h → fits (after_step s.rules word w h x).held
  step_fits word w h (next waiting) none f = f
  step_fits word w h (trailing position) none f = f
  step_fits word w h (subcommand name) none f = f
  step_fits word w h value none f = go (arg_by_index s.rules w.position) none
    where
      go : (o : Option Rule) → option_map_or (λ (a : Rule). positional_fault s.rules again a h) o (stray_fault s) ≡ []
          → fits (to_positional s.rules o word w h).held
      go None e = f
      go (Some a) e = pushed_fits a word h e f

  turn_fits : (names : Names) (w : Walk) (word : Text) (stop : Option (Text × List Text))
      → ◌≡◌ {A = Kinds} (cond (is_some stop) [] (or_else (word_fault s names w.is_trailing w.waiting word w.held)
      (step_fault s w.position (word_met s.rules names w.is_trailing w.waiting w.position word w.held).0
      (word_met s.rules names w.is_trailing w.waiting w.position word w.held).1))) []
      → fits w.held → fits (walked_from s.rules names stop w word).held
  turn_fits names w word (Some p) none f = f
  turn_fits names w word None none f =
      let met = word_met s.rules names w.is_trailing w.waiting w.position word w.held in
      let parts = or_none (word_fault s names w.is_trailing w.waiting word w.held) (step_fault s w.position met.0 met.1) none in
      step_fits word w met.0 met.1 parts.1 (word_fits names w.is_trailing w.waiting w.position word w.held parts.0 f)

  walked_fits : (names : Names) (w : Walk) (word : Text) → turn_fault s names w word ≡ [] → fits w.held → fits (walked s.rules names w word).held
  unfolding walked
  walked_fits names w word none f = turn_fits names w word w.stopped none f

  walk_fits : (names : Names) (w : Walk) (words : List Text) → walk_fault s names w words ≡ [] → fits w.held
      → fits (fold (walked s.rules names) w words).held
  unfolding walk_fault
  walk_fits names w [] none f = f
  walk_fits names w (word ∷ rest) none f =
      let parts = or_none (turn_fault s names w word) (walk_fault s names (walked s.rules names w word) rest) none in
      walk_fits names (walked s.rules names w word) rest parts.1 (walked_fits names w word parts.0 f)

-- ---- after the walk

module _ (id : Text) (low high : ℕ) where
  default_fits : (a : Rule) (rows : List Row) → rule_fits id low high a ≡ true → default_fault rows a ≡ [] → fit id low high rows ≡ true
      → fit id low high (with_default rows a) ≡ true
  default_fits a rows rule none f = go (has_row a.id rows) a.defaults none
    where
      go : (b : Bool) (vs : List Text) → ◌≡◌ {A = Kinds} (cond (b || is_empty vs) [] (given_default_fault a vs)) []
          → fit id low high (cond b rows (default_rows a.id (reading_by a) vs rows)) ≡ true
      go true vs e = f
      go false [] e = f
      go false (v ∷ vs) e =
          let some : is_empty (v ∷ vs) ≡ false = ne_eqb _ _ (λ x. omega arith) in
          let given = sym (cond-false (is_empty (v ∷ vs)) [] (given_default_fault a (v ∷ vs)) some) ∙ e in
          put_fits id low high a.id (reading_by a) DefaultValue v vs rows
          (value_reads id low high a v vs (and_parts (one_or_more (action_of a) (unwrap_or_range a.range).start_inclusive) _ rule).1
          (or_none (request_kinds (action_of a)) (values_fault a (v ∷ vs)) given).1) f

  defaults_fit : (rows : List Row) (c : List Rule) → list_all (rule_fits id low high) c ≡ true → defaults_fault rows c ≡ [] → fit id low high rows ≡ true
      → fit id low high (fold with_default rows c) ≡ true
  unfolding defaults_fault
  defaults_fit rows [] each none f = f
  defaults_fit rows (a ∷ rest) each none f =
      let rules = and_parts (rule_fits id low high a) (list_all (rule_fits id low high) rest) each in
      let parts = or_none (default_fault rows a) (defaults_fault (with_default rows a) rest) none in
      defaults_fit (with_default rows a) rest rules.1 parts.1 (default_fits a rows rules.0 parts.0 f)

  -- the rows of a level with no fault
  pub level_fits : (s : Shape) (words : List Text) → list_all (rule_fits id low high) s.rules ≡ true → level_fault s [] nothing_held words false [] ≡ []
      → list_all (row_fits id low high) (rows_after s.rules [] words) ≡ true
  level_fits s words each none =
      let end = (walk s.rules [] nothing_held words).held in
      let first = or_none (walk_fault s [] (walk_from nothing_held) words) _ none in
      let second = or_none (settle_fault s.rules s.args_override_self end) _ first.1 in
      let third = or_none (defaults_fault (settled s.rules end).rows s.rules) _ second.1 in
      defaults_fit (settled s.rules end).rows s.rules each third.0
      (settled_fits id low high s each end second.0 (walk_fits id low high s each [] (walk_from nothing_held) words first.0 refl))
