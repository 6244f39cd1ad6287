-- A dump carried on, from its header and what its records come to.
use Rattle.std.proofs.Common.{◌≡◌, ℕ, suc, List, ◌∷◌, ◌++◌, take, Result, Ok, Err, IsErrAnd}
use Rattle.std.proofs.Common.{refl, sym, ap, subst, ◌∙◌}
use Rattle.std.proofs.lemmas.Result.{err_from_is_err_and}
use Rattle.pic_io.specs.Told.{Told, Rose}
use Rattle.pic_io.specs.Sink.{AppendedFront}
use Rattle.pic_io.specs.Sinks.{Sinks, sinks, Wrote, outs, lines, CutAt}
use Rattle.pic_io.specs.declared.side.Side.TheVariants.{Out}
use Rattle.pic_io.proofs.Puts.{wrote_none, cut_out}
use Rattle.pic_walk.specs.Walk.{Walked, ◌>>=◌}
use Rattle.pic_deck.specs.declared.refusal.Refusal.{Refusal}
use Rattle.pic_deck.specs.declared.refusal.DeckFault.{DeckFault}
use Rattle.pic_deck.specs.declared.refusal.DeckFault.TheVariants as deck
use Rattle.pic_deck.specs.Keys.{steps_fit}
use Rattle.pic_deck.specs.Reading.{as_read}
use Rattle.pic_deck.specs.Refusal.{ReadsAs}
use Rattle.pic_deck.specs.Tiles.{tiles_fit}
use Rattle.pic_fields.specs.Parser.{input}
use Rattle.pic_fields.specs.Reads.{HasRead}
use Rattle.pic_fields.specs.declared.read_stop.ReadStop.TheVariants as read
use Rattle.pic_fields.proofs.ReadLaws.{some_rest}
use Rattle.pic_header.specs.Header.{HeaderView, with_steps}
use Rattle.pic_header.specs.HeaderFields.{header_length, header_at, header_most}
use Rattle.pic_header.specs.HeaderText.{header_bytes}
use Rattle.pic_header.specs.HeadReads.{HeadReads, TakesLess}
use Rattle.pic_header.specs.declared.head_stop.HeadStop.{HeadStop}
use Rattle.pic_header.specs.declared.head_stop.HeadStop.TheVariants as head
use Rattle.pic_record.specs.Layout.{layout_of}
use Rattle.pic_dump.specs.DumpRead.{dump_with, of_header, read_dump}
use Rattle.pic_dump.specs.Upgrade.{piece_of}
use Rattle.pic_dump.proofs.TakenLaws.{stands}
use Rattle.pic_dump.proofs.TextLaws.{header_some}
use Rattle.pic_dump.proofs.WholeLaws.{whole_none}
use Rattle.pic_resume.specs.declared.carried.Carried.{Carried}
use Rattle.pic_resume.specs.declared.carry_stop.CarryStop.{CarryStop}
use Rattle.pic_resume.specs.declared.carry_stop.CarryStop.TheVariants.{BadDump, Refused, WriteFault}
use Rattle.pic_resume.specs.Carry.{Kept, Carry, asked, kept_before, under_header, nothing_but, unless_refused}
use Rattle.pic_resume.specs.Carry.{carry_kept, carry_dump, carry_of, carry_part, carry_front, failed}
use Rattle.pic_resume.specs.Carries.{Answered, Carries}
use Rattle.pic_resume.specs.CarryStops.{stop_of_head, stop_of_deck}
use Rattle.pic_resume.specs.Behind.{records_behind, kept_behind}

-- what is asked, from its two parts
-- where the steps are allowed, the tiles decide
pub asked_is : (steps : ℕ) (tiles : List ℕ) (h : HeaderView) → as_read (steps_fit h.steps steps) ≡ Ok tt
    → asked steps tiles h ≡ as_read (tiles_fit h.cells tiles)
unfolding asked as_read ◌>>=◌
asked_is steps tiles h first = go (steps_fit h.steps steps) first
  where
    go : (w : Walked (Unit {0})) → as_read w ≡ Ok tt → as_read (w >>= (λ _. tiles_fit h.cells tiles)) ≡ as_read (tiles_fit h.cells tiles)
    go (Ok x) is = refl
    go (Err f) is = absurd cc

pub asked_steps : (steps : ℕ) (tiles : List ℕ) (h : HeaderView) (r : Refusal) → as_read (steps_fit h.steps steps) ≡ Err r → asked steps tiles h ≡ Err r
unfolding asked as_read ◌>>=◌
asked_steps steps tiles h r first = go (steps_fit h.steps steps) first
  where
    go : (w : Walked (Unit {0})) → as_read w ≡ Err r → as_read (w >>= (λ _. tiles_fit h.cells tiles)) ≡ Err r
    go (Ok x) is = absurd cc
    go (Err f) is = is

-- and where they are refused, so is what is asked
pub steps_refused : (steps : ℕ) (tiles : List ℕ) (h : HeaderView) (f : DeckFault) (result : Result (Unit {0}) DeckFault)
    → IsErrAnd result (λ u. u ≡ f) → ReadsAs (as_read (steps_fit h.steps steps)) (Err f) → ReadsAs (asked steps tiles h) result
steps_refused steps tiles h f result is reads =
    let q = err_from_is_err_and result is in
    rw (q.1, q.2) (refused f reads)
  where
    refused : (f : DeckFault) → ReadsAs (as_read (steps_fit h.steps steps)) (Err f) → ReadsAs (asked steps tiles h) (Err f)
    refused (deck.Refused r) first = record { answer = asked_steps steps tiles h r first.answer }
    refused deck.NoMemory first = record { answer = tt }

-- a dump is its header and the records behind it
pub dump_is : (h : HeaderView) (bytes rest : List ℕ) → header_at (input 0 bytes) ≡ Ok (h, input (header_length h) rest)
    → read_dump bytes ≡ Ok (dump_with h (records_behind (stands h) rest))
unfolding read_dump records_behind
dump_is h bytes rest is = ap of_header is

carry_is : (steps : ℕ) (tiles : List ℕ) (h : HeaderView) (bytes rest : List ℕ) → header_at (input 0 bytes) ≡ Ok (h, input (header_length h) rest)
    → carry_of steps tiles bytes ≡ carry_kept steps tiles h (kept_behind steps (stands h) rest)
unfolding carry_of
carry_is steps tiles h bytes rest is = ap (carry_dump steps tiles) (dump_is h bytes rest is)

-- where the steps and the tiles are allowed
allowed_is : (steps : ℕ) (tiles : List ℕ) (h : HeaderView) (k : Kept) → asked steps tiles h ≡ Ok tt
    → carry_kept steps tiles h k ≡ under_header (with_steps steps h) k
allowed_is steps tiles h k allowed = ap (λ a. unless_refused a (under_header (with_steps steps h) k)) allowed

pub whole_is : (steps : ℕ) (tiles : List ℕ) (h : HeaderView) (bytes rest : List ℕ) → header_at (input 0 bytes) ≡ Ok (h, input (header_length h) rest)
    → asked steps tiles h ≡ Ok tt → carry_of steps tiles bytes ≡ under_header (with_steps steps h) (kept_behind steps (stands h) rest)
whole_is steps tiles h bytes rest is allowed = carry_is steps tiles h bytes rest is ∙ allowed_is steps tiles h (kept_behind steps (stands h) rest) allowed

pub front_is : (steps : ℕ) (tiles : List ℕ) (h : HeaderView) (bytes rest : List ℕ) (count : ℕ)
    → header_at (input 0 bytes) ≡ Ok (h, input (header_length h) rest) → asked steps tiles h ≡ Ok tt
    → carry_front steps tiles bytes (suc count)
    ≡ failed (under_header (with_steps steps h) (kept_before steps (layout_of h) (take count (records_behind (stands h) rest).0)))
unfolding carry_front
front_is steps tiles h bytes rest count is allowed =
    ap (λ r. failed (carry_part steps tiles count r)) (dump_is h bytes rest is)
    ∙ ap failed (allowed_is steps tiles h (kept_before steps (layout_of h) (take count (records_behind (stands h) rest).0)) allowed)

-- an answer that a call handed on
pub carries_err : (steps : ℕ) (tiles : List ℕ) (x z : Told) (a b : Sinks) (stop : CarryStop) (result : Result Carried CarryStop)
    → IsErrAnd result (λ u. u ≡ stop) → Answered steps tiles x z a b (Err stop) → Carries steps tiles x z a b result
carries_err steps tiles x z a b stop result is has =
    let q = err_from_is_err_and result is in
    rw (q.1, q.2) (record { answer = has })

-- nothing was put
nothing_put : (a : Sinks) (c : Carry) (stop : CarryStop) → c ≡ nothing_but stop → Wrote a a (c.head ++ outs c.kept) (lines c.kept)
nothing_put a c stop is = subst (λ (d : Carry). Wrote a a (d.head ++ outs d.kept) (lines d.kept)) (sym is) (wrote_none a)

-- a header that isn't there
pub head_answer : {B : Type 0} (view : B → HeaderView) (steps : ℕ) (tiles : List ℕ) (x z : Told) (a : Sinks) (stop : HeadStop)
    → HeadReads view header_at 0 header_length header_most x z (Err stop) → (stop ≡ head.Read read.ReadFault → TakesLess header_at 0 x z)
    → Answered steps tiles x z a a (Err (stop_of_head stop))
unfolding carry_of carry_front read_dump
head_answer view steps tiles x z a (head.Read read.ReadFault) first less =
    let (held, was, takes) = whole_none x z first.answer (less refl) in
    record { rose = first.answer.why; held = held; was = was; whole = 0; takes = takes; put = wrote_none a }
head_answer view steps tiles x z a (head.Read (read.BadDump place cause)) first less =
    let fails = first.answer.why in
    let same : carry_of steps tiles fails.held ≡ nothing_but (BadDump place cause) = ap (λ r. carry_dump steps tiles (of_header r)) fails.fails in
    record {
      calm = fails.calm;
      held = fails.held;
      was = fails.was;
      put = nothing_put a (carry_of steps tiles fails.held) (BadDump place cause) same;
      answered = ap (λ (c : Carry). c.answer) same;
    }
head_answer view steps tiles x z a head.NoMemory first less = record { calm = first.answer.calm; put = wrote_none a }

-- steps or tiles that are refused
refused_answer : (steps : ℕ) (tiles : List ℕ) (h : HeaderView) (x y : Told) (a : Sinks) (r : Refusal) → HasRead header_at 0 x h (header_length h) y
    → asked steps tiles h ≡ Err r → Answered steps tiles x y a a (Err (Refused r))
refused_answer steps tiles h x y a r first refused =
    let (rest, left) = some_rest y in
    let (held, was, reads) = first.reads rest left in
    let same : carry_of steps tiles held ≡ nothing_but (Refused r) = carry_is steps tiles h held rest reads
    ∙ ap (λ q. unless_refused q (under_header (with_steps steps h) (kept_behind steps (stands h) rest))) refused in
    record {
      calm = first.calm;
      held = held;
      was = was;
      put = nothing_put a (carry_of steps tiles held) (Refused r) same;
      answered = ap (λ (c : Carry). c.answer) same;
    }

pub asked_answer : (steps : ℕ) (tiles : List ℕ) (h : HeaderView) (x y : Told) (a : Sinks) (f : DeckFault) → HasRead header_at 0 x h (header_length h) y
    → ReadsAs (asked steps tiles h) (Err f) → Answered steps tiles x y a a (Err (stop_of_deck f))
asked_answer steps tiles h x y a (deck.Refused r) first reads = refused_answer steps tiles h x y a r first reads.answer
asked_answer steps tiles h x y a deck.NoMemory first reads = record { calm = first.calm; put = wrote_none a }

-- the put of the header failed
pub header_cut : (steps : ℕ) (tiles : List ℕ) (h new : HeaderView) (x y o p report : Told) → HasRead header_at 0 x h (header_length h) y
    → asked steps tiles h ≡ Ok tt → new ≡ with_steps steps h → AppendedFront o p (header_bytes new) → Rose o p
    → Answered steps tiles x y (sinks o report) (sinks p report) (Err (WriteFault Out))
header_cut steps tiles h new x y o p report first allowed is front rose =
    let (rest, left) = some_rest y in
    let (held, was, reads) = first.reads rest left in
    let same = whole_is steps tiles h held rest reads allowed in
    let there = subst (λ (n : HeaderView). AppendedFront o p (header_bytes n)) is front in
    record {
      calm = first.calm;
      held = held;
      was = was;
      cut = subst (λ (c : Carry). CutAt Out (sinks o report) (sinks p report) (piece_of c.head ∷ c.kept)) (sym same)
          (cut_out o p report (piece_of (header_bytes (with_steps steps h))) (kept_behind steps (stands h) rest).pieces
          (header_some (with_steps steps h)) there rose);
    }
