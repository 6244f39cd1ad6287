-- Numbers of workers, and the command line as a command of `clap`.
use Rattle.std.proofs.Common.{◌≡◌, ℕ, ◌<◌, ◌^◌, ◌⊎◌, inl, inr, Bool, true, false, ◌&&◌, List, [], ◌∷◌, Option, Some, None}
use Rattle.std.proofs.Common.{Result, Ok, Err, if◌then◌else◌, codes, option_and_then, refl, sym, ap, ap₂, ◌∙◌, subst, arith}
use Rattle.std.proofs.Math.Dec.{leb}
use Rattle.std.proofs.lemmas.Bool.Decides.{leb_tells}
use Rattle.std.specs.Str.Parse.{ParsesUnsigned, IsNumeral, digits_value, without_leading_plus}
use Rattle.clap.specs.declared.builder.value_parser.ValueParser.TheVariants as vp
use Rattle.clap.specs.declared.error.kind.ErrorKind.{ErrorKind}
use Rattle.clap.specs.declared.error.kind.ErrorKind.TheVariants.{OutOfMemory}
use Rattle.clap.specs.declared.error.Error.{Error}
use Rattle.clap.specs.declared.parser.matches.ArgMatches.{ArgMatches}
use Rattle.clap.specs.Kinds.{Kinds, IsAmong, HasKind}
use Rattle.clap.specs.Matches.{ReadsOne}
use Rattle.clap.specs.ValueTests.{is_unsigned_in}
use Rattle.clap.specs.Values.{IsUnsignedIn}
use Rattle.clap.specs.Words.{App, Text, HasMatchesOf, fault_of, kind_of, is_simple, is_simple_and_free, subcommand_of, subcommand_rows_of}
use Rattle.clap.proofs.OnLiterals.{clap_on_literals}
use Rattle.clap.proofs.ValueTestLemmas.{accepts-Accepts, Accepts-accepts}
use Rattle.pic_line.specs.declared.asked.Command.{Command}
use Rattle.pic_line.specs.CommandLine.{pic_app, number_in, kept, unless_fault, command_from, command_of}

-- `clap` takes the command as one that its words say whole
pub pic_is_free : is_simple_and_free pic_app ≡ true
unfolding clap_on_literals pic_app
pic_is_free = refl

pub pic_is_simple : is_simple pic_app ≡ true
unfolding clap_on_literals pic_app
pic_is_simple = refl

-- a text that names no number from low to high
not_in : (low high : ℕ) (text : List ℕ) → (IsUnsignedIn low high text → ⊥) → number_in low high text ≡ None
unfolding number_in
not_in low high text other = go (is_unsigned_in low high text) refl
  where
    go : (b : Bool) → is_unsigned_in low high text ≡ b
        → ◌≡◌ {A = Option ℕ} (if is_unsigned_in low high text then Some (digits_value 10 (without_leading_plus text)) else None) None
    go true is = absurd (other (accepts-Accepts false (vp.Unsigned low high) text is))
    go false is = λ i. if is i then Some (digits_value 10 (without_leading_plus text)) else None

is_in : (low high : ℕ) (text : List ℕ) → IsUnsignedIn low high text → number_in low high text ≡ Some (digits_value 10 (without_leading_plus text))
unfolding number_in
is_in low high text holds =
    let is = Accepts-accepts false (vp.Unsigned low high) text holds in
    λ i. if is i then Some (digits_value 10 (without_leading_plus text)) else None

-- the number that a text's digits write
kept_number : (low high : ℕ) (text : List ℕ) (v : ℕ) → high < 2 ^ 32 → IsNumeral 10 (without_leading_plus text)
    → v ≡ digits_value 10 (without_leading_plus text) → kept low high (Some v) ≡ number_in low high text
kept_number low high text v small numeral is = elim (leb_tells low v) [
  | inl above ↦ elim (leb_tells v high) [
    | inl below ↦
        (let here : ◌≡◌ {A = Option ℕ} (kept low high (Some v)) (Some v) = λ i. if above.0 i && below.0 i then Some v else None in
        let least = above.1 in
        let most = below.1 in
        here ∙ ap (λ n. Some n) is
        ∙ sym (is_in low high text (numeral, omega (arith, is, most, small), omega (arith, is, least), omega (arith, is, most))))
    | inr below ↦
        (let here : ◌≡◌ {A = Option ℕ} (kept low high (Some v)) None = λ i. if above.0 i && below.0 i then Some v else None in
        let over = below.1 in
        here ∙ sym (not_in low high text (λ within. let most = within.3 in absurd (omega (arith, is, over, most)))))
  ]
  | inr above ↦
      (let here : ◌≡◌ {A = Option ℕ} (kept low high (Some v)) None = λ i. if above.0 i && leb v high then Some v else None in
      let under = above.1 in
      here ∙ sym (not_in low high text (λ within. let least = within.2 in absurd (omega (arith, is, under, least)))))
]

-- a number that `clap` read of a text, or that it couldn't read
number_read : {E : Type 0} (reads : List ℕ → Result ℕ E → Type 0) → ((t : List ℕ) (x : Result ℕ E) → reads t x → ParsesUnsigned 32 10 t x)
    → (low high : ℕ) → high < 2 ^ 32 → (text : List ℕ) (r : Option ℕ) → ReadsOne reads text r → kept low high r ≡ number_in low high text
number_read reads weaker low high small text (Some v) read =
    let parsed = weaker text (Ok v) read in
    kept_number low high text v small parsed.0.0 parsed.1
number_read reads weaker low high small text None (e, read) =
    let other = weaker text (Err e) read in
    sym (not_in low high text (λ within. let most = within.3 in other (within.0, omega (arith, most, small))))

-- the number of an argument, kept
pub number_named : {E : Type 0} (reads : List ℕ → Result ℕ E → Type 0) → ((t : List ℕ) (x : Result ℕ E) → reads t x → ParsesUnsigned 32 10 t x)
    → (low high : ℕ) → high < 2 ^ 32 → (o : Option (List ℕ)) (r : Option ℕ) → (o ≡ None → r ≡ None)
    → ((text : List ℕ) → o ≡ Some text → ReadsOne reads text r) → kept low high r ≡ option_and_then (number_in low high) o
number_named reads weaker low high small None r none value = ap (kept low high) (none refl)
number_named reads weaker low high small (Some text) r none value =
    number_read reads weaker low high small text r (value text refl)

-- a kind of error, but for want of memory, is that of a faulty line
pub faulty : (kinds : Kinds) (k : ErrorKind) (found : Option Command) → (k ≡ OutOfMemory → ⊥) → (k ≡ OutOfMemory) ⊎ IsAmong k kinds
    → unless_fault kinds found ≡ None
faulty [] k found whole (inl memory) = absurd (whole memory)
faulty [] k found whole (inr among) = absurd among
faulty (x ∷ xs) k found whole among = refl

-- a line that `clap` doesn't take
pub usage_of : (app : App) (line words : List Text) (e : Error) → app ≡ pic_app → line ≡ codes "pic" ∷ words
    → (is_simple_and_free app ≡ true → HasKind (fault_of app line) e) → (kind_of e ≡ OutOfMemory → ⊥) → command_of words ≡ None
unfolding command_of
usage_of app line words e app_is line_is fails whole =
    let has = subst (λ (a : App). is_simple_and_free a ≡ true → HasKind (fault_of a line) e) app_is fails pic_is_free in
    let has' : HasKind (fault_of pic_app (codes "pic" ∷ words)) e = subst (λ (l : List Text). HasKind (fault_of pic_app l) e) line_is has in
    faulty (fault_of pic_app (codes "pic" ∷ words)) (kind_of e) (command_from (subcommand_of pic_app (codes "pic" ∷ words))) whole has'

-- a line that it takes
pub matched : (app : App) (line words : List Text) (m : ArgMatches) → app ≡ pic_app → line ≡ codes "pic" ∷ words
    → (is_simple_and_free app ≡ true → fault_of app line ≡ []) → HasMatchesOf app line m → command_of words ≡ command_from (subcommand_rows_of m)
unfolding command_of
matched app line words m app_is line_is faultless matches =
    let none = subst (λ (a : App). is_simple_and_free a ≡ true → fault_of a line ≡ []) app_is faultless pic_is_free in
    let none' : fault_of pic_app (codes "pic" ∷ words) ≡ [] = subst (λ (l : List Text). fault_of pic_app l ≡ []) line_is none in
    let has = subst (λ (a : App). HasMatchesOf a line m) app_is matches pic_is_simple in
    let rows : subcommand_rows_of m ≡ subcommand_of pic_app (codes "pic" ∷ words) = has.1 ∙ ap (subcommand_of pic_app) line_is in
    ap₂ unless_fault none' (ap command_from (sym rows))

-- a word that stands for one that isn't text is no command
pub no_text : command_of ((239 ∷ 191 ∷ 189 ∷ []) ∷ []) ≡ None
unfolding clap_on_literals pic_app command_of
no_text = refl
