-- An argument with a default value, or one that is required, has a row where a level of the words has no fault, and reads as a number.
use Rattle.std.proofs.Common.{◌≡◌, ◌∙◌, ℕ, Bool, true, false, not, cond, List, [], ◌∷◌, ◌++◌, Option, Some, None, refl, sym, ap, subst, inl, inr, true≢false}
use Rattle.std.specs.Prelude.{◌&&◌, ◌||◌, find, fold, bytes_eq, option_and_then}
use Rattle.std.specs.List.{list_all, list_any}
use Rattle.std.specs.Option.{option_map_or}
use Rattle.std.specs.Str.Parse.{digits_value, without_leading_plus}
use Rattle.std.proofs.lemmas.Bool.{and_parts, cond-true, cond_both, or_cases, or_left, or_parts, or_right}
use Rattle.std.proofs.lemmas.Slice.Eq.{bytes_eq-Decides}
use Rattle.clap.specs.declared.builder.value_parser.Reading.{Reading}
use Rattle.clap.specs.declared.parser.matches.ValueSource.{ValueSource}
use Rattle.clap.specs.declared.parser.matches.ValueSource.TheVariants.{DefaultValue}
use Rattle.clap.specs.Facts.{explicit_source}
use Rattle.clap.specs.Faults.{check_fault, defaults_fault, level_fault, settle_fault, walk_fault}
use Rattle.clap.specs.Kinds.{check_kinds}
use Rattle.clap.specs.Simple.{Shape}
use Rattle.clap.specs.Takes.{is_given}
use Rattle.clap.specs.ValueTests.{is_unsigned_in}
use Rattle.clap.specs.Walk.{Row, Rule, Text, default_rows, finished, has_row, is_empty, more_values, nothing_held, one_of, reading_by, row_text, rows_after}
use Rattle.clap.specs.Walk.{settled, walk, walk_from, with_default, with_values}
use Rattle.pic_line.specs.CommandLine.{number_in}
use Rattle.pic_line.proofs.RowLaws.{found_passes, level_fits, or_none, reads_in, row_fits, rule_fits, since}

-- the number that the row of an argument reads as
abbrev pub Reads : Text → ℕ → ℕ → List Row → Type 0
Reads id low high rows = (n : ℕ) × (option_and_then (number_in low high) (one_of id rows) ≡ Some n)

any_found : {X : Type 0} (p : X → Bool) (xs : List X) → list_any p xs ≡ true → (x : X) × (find p xs ≡ Some x)
any_found {X} p [] h = absurd (true≢false (sym h))
any_found {X} p (x ∷ xs) h = go (p x) h (any_found p xs)
  where
    go : (b : Bool) → (b || list_any p xs) ≡ true → (list_any p xs ≡ true → (y : X) × (find p xs ≡ Some y)) → (y : X) × (cond b (Some x) (find p xs) ≡ Some y)
    go true e later = (x, refl)
    go false e later = later e

numbered : (low high : ℕ) (o : Option Text) → reads_in low high o ≡ true → (n : ℕ) × (option_and_then (number_in low high) o ≡ Some n)
unfolding number_in
numbered low high None h = absurd (true≢false (sym h))
numbered low high (Some text) h =
    (digits_value 10 (without_leading_plus text), cond-true (is_unsigned_in low high text) (Some (digits_value 10 (without_leading_plus text))) None h)

-- rows that fit, and have the argument, have its number
row_reads : (id : Text) (low high : ℕ) (rows : List Row) → has_row id rows ≡ true → list_all (row_fits id low high) rows ≡ true → Reads id low high rows
row_reads id low high rows has fits =
    let found = any_found (λ (r : Row). bytes_eq r.id id) rows has in
    let passes = found_passes (λ (r : Row). bytes_eq r.id id) (row_fits id low high) rows found.0 fits found.1 in
    let number = numbered low high (row_text found.0) (since (bytes_eq found.0.id id) _ passes.1 passes.0) in
    (number.0, ap (λ (o : Option Row). option_and_then (number_in low high) (option_and_then row_text o)) found.1 ∙ number.1)

-- ---- which arguments have rows

module _ (id : Text) where
  put_keeps : (i : Text) (how : Reading) (s : ValueSource) (vs : List Text) (rows : List Row) → has_row id rows ≡ true
      → has_row id (with_values i how s vs rows) ≡ true
  put_keeps i how s vs [] h = absurd (true≢false (sym h))
  put_keeps i how s vs (r ∷ rs) h =
      cond_both (bytes_eq r.id i) (more_values s vs r ++ rs) (r ∷ with_values i how s vs rs) (λ (x : List Row). has_row id x ≡ true)
      (λ _. h)
      (λ _. elim (or_cases (bytes_eq r.id id) (has_row id rs) h) [
        | inl e ↦ or_left (bytes_eq r.id id) _ e
        | inr e ↦ or_right (bytes_eq r.id id) _ (put_keeps i how s vs rs e)
      ])

  put_has : (how : Reading) (s : ValueSource) (vs : List Text) (rows : List Row) → has_row id (with_values id how s vs rows) ≡ true
  put_has how s vs [] = or_left (bytes_eq id id) _ ((bytes_eq-Decides id id).1 refl)
  put_has how s vs (r ∷ rs) =
      cond_both (bytes_eq r.id id) (more_values s vs r ++ rs) (r ∷ with_values id how s vs rs) (λ (x : List Row). has_row id x ≡ true)
      (λ e. or_left (bytes_eq r.id id) _ e) (λ _. or_right (bytes_eq r.id id) _ (put_has how s vs rs))

  default_keeps : (rows : List Row) (a : Rule) → has_row id rows ≡ true → has_row id (with_default rows a) ≡ true
  default_keeps rows a h = go (has_row a.id rows) a.defaults
    where
      go : (b : Bool) (vs : List Text) → has_row id (cond b rows (default_rows a.id (reading_by a) vs rows)) ≡ true
      go true vs = h
      go false [] = h
      go false (v ∷ vs) = put_keeps a.id (reading_by a) DefaultValue (v ∷ vs) rows h

  default_has : (rows : List Row) (a : Rule) → (bytes_eq a.id id && not (is_empty a.defaults)) ≡ true → has_row id (with_default rows a) ≡ true
  default_has rows a h =
      let parts = and_parts (bytes_eq a.id id) (not (is_empty a.defaults)) h in
      let same : a.id ≡ id = (bytes_eq-Decides a.id id).0 parts.0 in
      cond_both (has_row a.id rows) rows (default_rows a.id (reading_by a) a.defaults rows) (λ (x : List Row). has_row id x ≡ true)
      (λ e. ap (λ (i : Text). has_row i rows) (sym same) ∙ e)
      (λ _. subst (λ (i : Text). has_row id (default_rows i (reading_by a) a.defaults rows) ≡ true) (sym same) (go a.defaults parts.1))
    where
      go : (vs : List Text) → not (is_empty vs) ≡ true → has_row id (default_rows id (reading_by a) vs rows) ≡ true
      go [] e = absurd (true≢false (sym e))
      go (v ∷ vs) e = put_has (reading_by a) DefaultValue (v ∷ vs) rows

  defaults_keep : (c : List Rule) (rows : List Row) → has_row id rows ≡ true → has_row id (fold with_default rows c) ≡ true
  defaults_keep [] rows h = h
  defaults_keep (a ∷ rest) rows h = defaults_keep rest (with_default rows a) (default_keeps rows a h)

  defaults_have : (c : List Rule) (rows : List Row) → list_any (λ (a : Rule). bytes_eq a.id id && not (is_empty a.defaults)) c ≡ true
      → has_row id (fold with_default rows c) ≡ true
  defaults_have [] rows h = absurd (true≢false (sym h))
  defaults_have (a ∷ rest) rows h = elim (or_cases (bytes_eq a.id id && not (is_empty a.defaults)) _ h) [
    | inl e ↦ defaults_keep rest (with_default rows a) (default_has rows a e)
    | inr e ↦ defaults_have rest (with_default rows a) e
  ]

  given_has : (rows : List Row) → is_given id rows ≡ true → has_row id rows ≡ true
  given_has [] h = absurd (true≢false (sym h))
  given_has (r ∷ rs) h = go (bytes_eq r.id id) h (given_has rs)
    where
      go : (b : Bool) → option_map_or (λ (x : Row). explicit_source x.source) (cond b (Some r) (find (λ (x : Row). bytes_eq x.id id) rs)) false ≡ true
          → (is_given id rs ≡ true → has_row id rs ≡ true) → (b || has_row id rs) ≡ true
      go true e later = refl
      go false e later = later e

  asked : (wanted given : Bool) → wanted ≡ true → (wanted && not given) ≡ false → given ≡ true
  asked true true w h = refl
  asked true false w h = absurd (true≢false h)
  asked false given w h = absurd (true≢false (sym w))

  required_has : (c : List Rule) (rows : List Row) → list_any (λ (a : Rule). bytes_eq a.id id && a.required) c ≡ true
      → list_any (λ (a : Rule). a.required && not (is_given a.id rows)) c ≡ false → has_row id rows ≡ true
  required_has [] rows h none = absurd (true≢false (sym h))
  required_has (a ∷ rest) rows h none =
      let misses = or_parts (a.required && not (is_given a.id rows)) (list_any (λ (b : Rule). b.required && not (is_given b.id rows)) rest) none in
      elim (or_cases (bytes_eq a.id id && a.required) _ h) [
        | inl e ↦
            (let parts = and_parts (bytes_eq a.id id) a.required e in
            let same : a.id ≡ id = (bytes_eq-Decides a.id id).0 parts.0 in
            given_has rows (ap (λ (i : Text). is_given i rows) (sym same) ∙ asked a.required (is_given a.id rows) parts.1 misses.0))
        | inr e ↦ required_has rest rows e misses.1
      ]

no_argument : (help sub negates wants : Bool) → check_kinds help sub (not (negates && false) && wants) ≡ [] → wants ≡ false
no_argument true sub negates wants h = absurd (cc)
no_argument false true negates wants h = absurd (cc)
no_argument false false true true h = absurd (cc)
no_argument false false true false h = refl
no_argument false false false true h = absurd (cc)
no_argument false false false false h = refl

-- ---- the number of an argument at a level with no fault

module _ (id : Text) (low high : ℕ) (s : Shape) (words : List Text) (each : list_all (rule_fits id low high) s.rules ≡ true) where
  pub by_default : list_any (λ (a : Rule). bytes_eq a.id id && not (is_empty a.defaults)) s.rules ≡ true → level_fault s [] nothing_held words false [] ≡ []
      → Reads id low high (rows_after s.rules [] words)
  by_default has none =
      row_reads id low high (rows_after s.rules [] words) (defaults_have id s.rules (settled s.rules (walk s.rules [] nothing_held words).held).rows has)
      (level_fits id low high s words each none)

  pub by_need : list_any (λ (a : Rule). bytes_eq a.id id && a.required) s.rules ≡ true → level_fault s [] nothing_held words false [] ≡ []
      → Reads id low high (rows_after s.rules [] words)
  by_need has none =
      let end = (walk s.rules [] nothing_held words).held in
      let first = or_none (walk_fault s [] (walk_from nothing_held) words) _ none in
      let second = or_none (settle_fault s.rules s.args_override_self end) _ first.1 in
      let third = or_none (defaults_fault (settled s.rules end).rows s.rules) (check_fault s (finished s.rules end) false) second.1 in
      row_reads id low high (rows_after s.rules [] words)
      (required_has id s.rules (rows_after s.rules [] words) has (no_argument _ _ s.subcommand_negates_reqs _ third.1))
      (level_fits id low high s words each none)
