-- What opening a deck does, from what its stages do.
use Rattle.std.proofs.Common.{◌≡◌, ℕ, ◌<◌, ◌≤◌, min, List, [], length, take, Some, None, Result, Ok, Err, refl, sym, ◌∙◌, ap, subst, arith}
use Rattle.std.specs.Prelude.{unwrap_or}
use Rattle.std.proofs.lemmas.List.{length-take}
use Rattle.pic_io.specs.Source.{IsAtEnd}
use Rattle.pic_io.specs.Told.{Told}
use Rattle.pic_charge.specs.declared.breaks.Break.{Break}
use Rattle.pic_num.specs.declared.motion.Particle.{Particle}
use Rattle.pic_grid.specs.Lattice.{Field}
use Rattle.pic_deck.specs.Deck.{DeckView, IsWithinLimits}
use Rattle.pic_deck.specs.declared.refusal.Refusal.{Refusal}
use Rattle.pic_devices.specs.Probes.{AreProbes}
use Rattle.pic_load.specs.Loading.{loaded, AreLoaded}
use Rattle.pic_displace.specs.declared.fault.DisplaceFault.{DisplaceFault}
use Rattle.pic_displace.specs.declared.fault.DisplaceFault.TheVariants as displace_fault
use Rattle.pic_displace.specs.Displace.{displaced_allowed, Displaces}
use Rattle.pic_deck.specs.declared.refusal.DeckFault.{DeckFault}
use Rattle.pic_deck.specs.declared.refusal.DeckFault.TheVariants as deck_fault
use Rattle.pic_deck.specs.Refusal.{ReadDeck, ReadsAs}
use Rattle.pic_deck.specs.Reading.{walk}
use Rattle.pic_deck.proofs.ReadingLaws.{deck_size}
use Rattle.pic_step.specs.SerialStep.{World}
use Rattle.pic_step.specs.Kept.{AreCut}
use Rattle.pic_step.specs.Sound.{IsSound}
use Rattle.pic_step.specs.Start.{begun}
use Rattle.pic_report.specs.declared.early.Early.TheVariants.{Refused, Gauss}
use Rattle.pic_open.specs.declared.stage_stop.StageStop.{StageStop}
use Rattle.pic_open.specs.declared.stage_stop.StageStop.TheVariants.{Answer, NoMemory}
use Rattle.pic_open.specs.declared.opening_deck.Opened.{Opened}
use Rattle.pic_open.specs.declared.source_reader.SourceStop.{SourceStop}
use Rattle.pic_open.specs.declared.source_reader.SourceStop.TheVariants as source_stop
use Rattle.pic_open.specs.DeckEnd.{Unread, Unfit, Unmet, Staged, ◌>>=◌}
use Rattle.pic_open.specs.Stops.{stop_of_reading, stop_of_deck, stop_of_displace}
use Rattle.pic_open.specs.Opened.{IsTested, IsEndOf, Loads, Tests, Opens}
use Rattle.pic_open.specs.Stages.{accepted, gauss_tested, tested, opened, unless_refused, unless_gauss_fails, unless_too_strong}
use Rattle.pic_open.specs.DeckReading.{deck_limit, TakesOfDeck, TakesAtMost, ReadsAll, TookAll}
use Rattle.pic_report.specs.Reading.{Given, Held, Failed, Gave, Reading}
use Rattle.pic_open.specs.Starting.{first_state, state_break}
use Rattle.pic_report.proofs.EndLaws.{gave_known}

-- a reading of a deck that took so much
abbrev pub reading : (a b : Told) (limit : ℕ) → limit ≡ deck_limit → (t : TakesAtMost limit a b) (given : Given)
    → Gave a b t.front given → Reading TakesOfDeck a b
reading a b limit is t given gave = record {
  front = t.front;
  most = subst (λ (n : ℕ). length t.front ≤ n) is t.most;
  taken = t.taken;
  given = given;
  gave = gave;
}

-- an accepted deck is no longer than a deck may be
short_deck : (bytes : List ℕ) (d : DeckView) (limit : ℕ) → limit ≡ deck_limit → walk bytes ≡ Ok d → length bytes < limit
unfolding deck_limit
short_deck bytes d limit is e = let size = deck_size bytes d e in omega (arith, size, is)

-- a source that held less than a deck may have is at its end
all_taken : (a b : Told) (limit : ℕ) (bytes held : List ℕ) → limit ≡ deck_limit → (took : TookAll a b limit bytes)
    → Held took.held ≡ Held held → length held < deck_limit → IsAtEnd b
all_taken a b limit bytes held is took same short =
    let here : took.held ≡ held = cc in
    let size : length bytes ≡ min limit (length held) =
    sym (ap length took.front) ∙ length-take limit took.held ∙ ap (λ (xs : List ℕ). min limit (length xs)) here in
    took.end (omega (arith, size, short, is))

-- a read that failed, or memory that was wanting while the source was read
pub unread : (stop : SourceStop) (a b : Told) (limit : ℕ) → limit ≡ deck_limit → TakesAtMost limit a b → ReadsAll a b limit (Err stop)
    → Opens a b (Err (stop_of_reading stop))
unread source_stop.Fault a b limit is t rose = record {
  read = reading a b limit is t (Failed t.front) (rose, refl);
  opens = record { early = record { end = Unread; is = refl; answer = refl }; end = λ d e. cc; short = λ held same. cc };
}
unread source_stop.NoMemory a b limit is t calm = record {
  read = reading a b limit is t (Held (unwrap_or a.bytes [])) (gave_known a b t.front calm);
  opens = calm;
}

-- what a source that was read gave
abbrev pub whole : (a b : Told) (limit : ℕ) (bytes : List ℕ) → limit ≡ deck_limit → TakesAtMost limit a b → TookAll a b limit bytes → Reading TakesOfDeck a b
whole a b limit bytes is t took = reading a b limit is t (Held took.held) took.gave

-- memory that was wanting later
pub starved : (a b : Told) (limit : ℕ) (bytes : List ℕ) → limit ≡ deck_limit → TakesAtMost limit a b → TookAll a b limit bytes → Opens a b (Err NoMemory)
starved a b limit bytes is t took = record { read = whole a b limit bytes is t took; opens = took.gave.0 }

-- the walk of what the source held is that of the bytes that were taken
walked : (a b : Told) (limit : ℕ) (bytes : List ℕ) → limit ≡ deck_limit → (took : TookAll a b limit bytes) (w : ReadDeck) → walk bytes ≡ w
    → walk (take deck_limit took.held) ≡ w
walked a b limit bytes is took w e =
    subst (λ (text : List ℕ). walk text ≡ w) (sym took.front ∙ ap (λ n. take n took.held) is) e

accepted_as : (held : List ℕ) (w : ReadDeck) → walk (take deck_limit held) ≡ w → accepted (Held held) ≡ unless_refused w
accepted_as held w e = ap unless_refused e

opened_as : (held : List ℕ) (w : ReadDeck) → walk (take deck_limit held) ≡ w → opened (Held held) ≡ unless_refused w >>= tested
opened_as held w e = ap (λ (s : Staged DeckView). s >>= tested) (accepted_as held w e)

-- a text that is no accepted deck
pub refused : (fault : DeckFault) (a b : Told) (limit : ℕ) (bytes : List ℕ) → limit ≡ deck_limit → TakesAtMost limit a b → TookAll a b limit bytes
    → ReadsAs (walk bytes) (Err fault) → Opens a b (Err (stop_of_deck fault))
refused (deck_fault.Refused refusal) a b limit bytes is t took walks =
    let w = walked a b limit bytes is took (Err refusal) walks.answer in
    record {
      read = whole a b limit bytes is t took;
      opens = record {
        early = record { end = Unfit refusal; is = opened_as took.held (Err refusal) w; answer = refl };
        end = λ d e. let other : ◌≡◌ {A = Staged DeckView} (Err (Unfit refusal)) (Ok d) = sym (accepted_as took.held (Err refusal) w) ∙ e in cc;
        short = λ held. all_taken a b limit bytes held is took;
      };
    }
refused deck_fault.NoMemory a b limit bytes is t took walks = starved a b limit bytes is t took

-- a deck that was read, and then tested
pub read_and_tested : (a b : Told) (limit : ℕ) (bytes : List ℕ) (d : DeckView) (result : Result Opened StageStop) → limit ≡ deck_limit
    → TakesAtMost limit a b → TookAll a b limit bytes → walk bytes ≡ Ok d → Tests d result → Opens a b result
read_and_tested a b limit bytes d (Ok o) is t took walks tests = record {
  read = whole a b limit bytes is t took;
  opens = record {
    deck = opened_as took.held (Ok d) (walked a b limit bytes is took (Ok d) walks) ∙ tests.deck;
    begins = tests.begins;
    end = took.end (short_deck bytes d limit is walks);
  };
}
read_and_tested a b limit bytes d (Err (Answer why)) is t took walks tests = record {
  read = whole a b limit bytes is t took;
  opens = record {
    early = record {
      end = tests.end;
      is = opened_as took.held (Ok d) (walked a b limit bytes is took (Ok d) walks) ∙ tests.is;
      answer = tests.answer;
    };
    end = λ _ _. took.end (short_deck bytes d limit is walks);
    short = λ held. all_taken a b limit bytes held is took;
  };
}
read_and_tested a b limit bytes d (Err NoMemory) is t took walks tests = starved a b limit bytes is t took

-- a deck whose displaced start is too strong
pub too_strong : (d : DeckView) (refusal : Refusal) → displaced_allowed d (loaded d) ≡ Err refusal → IsEndOf (tested d) (Refused refusal)
too_strong d refusal strong = record {
  end = Unfit refusal;
  is = ap (λ (r : Result (Unit {0}) Refusal). unless_too_strong d r >>= gauss_tested) strong;
  answer = refl;
}

-- so a displaced start stops the stages of a deck
pub not_displaced : (fault : DisplaceFault) (d : DeckView) (particles : List Particle) (old new : Field) → particles ≡ loaded d
    → Displaces d particles old new (Err fault) → Loads d (Err (stop_of_displace fault))
not_displaced (displace_fault.Refused refusal) d particles old new same displaces =
    too_strong d refusal (subst (λ (ps : List Particle). displaced_allowed d ps ≡ Err refusal) same displaces.1)
not_displaced displace_fault.NoMemory d particles old new same displaces = tt

-- what ends the loading of a deck ends its test
pub not_loaded : (d : DeckView) (stop : StageStop) → Loads d (Err stop) → Tests d (Err stop)
not_loaded d (Answer why) ends = ends
not_loaded d NoMemory ends = tt

-- a deck that can be run, and one that doesn't meet Gauss's law
after_displaced : (d : DeckView) (s : Staged DeckView) → displaced_allowed d (loaded d) ≡ Ok tt → gauss_tested d ≡ s → tested d ≡ s
after_displaced d s fit is = ap (λ (r : Result (Unit {0}) Refusal). unless_too_strong d r >>= gauss_tested) fit ∙ is

pub ready : (o : Opened) → displaced_allowed o.deck (loaded o.deck) ≡ Ok tt → begun o.start ≡ first_state o.deck
    → o.start.setup.map.tiles ≡ o.deck.tiles → IsSound (begun o.start)
    → AreCut o.start.setup.map o.start.e o.start.b → AreProbes (begun o.start).cells (length (begun o.start).particles) o.deck.probes
    → state_break (begun o.start) ≡ None → IsTested o.deck o
ready o fit start tiles sound cut probes none = record {
  deck = after_displaced o.deck (Ok o.deck) fit (ap (unless_gauss_fails o.deck) (ap state_break (sym start) ∙ none));
  begins = record { start = start; tiles = tiles; sound = sound; cut = cut; probes = probes };
}

pub broken : (d : DeckView) (w : World) (at : Break) → displaced_allowed d (loaded d) ≡ Ok tt → w ≡ first_state d → state_break w ≡ Some at
    → IsEndOf (tested d) (Gauss at)
broken d w at fit start found = record {
  end = Unmet at;
  is = after_displaced d (Err (Unmet at)) fit (ap (unless_gauss_fails d) (ap state_break (sym start) ∙ found));
  answer = refl;
}

-- the probes of a deck are those of its first state
pub probes_fit : (d : DeckView) (particles : List Particle) → IsWithinLimits d → AreLoaded d particles
    → AreProbes d.cells (length particles) d.probes
probes_fit d particles limits loaded = subst (λ (count : ℕ). AreProbes d.cells count d.probes) (sym loaded.count) limits.probes
