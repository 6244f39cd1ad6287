-- The command `demo`: how it ends, and what its answers mean.
use Rattle.std.proofs.Math.IntN.{ℤ, pos}
use Rattle.std.proofs.Common.{◌≡◌, ℕ, List, Option, Some, None, Result, Ok, Err, inl, refl, sym, ap, ◌∙◌, subst}
use Rattle.std.specs.Prelude.{codes}
use Rattle.pic_io.specs.Told.{Told}
use Rattle.pic_io.specs.Sinks.{Sinks}
use Rattle.pic_charge.specs.declared.breaks.Break.{Break}
use Rattle.pic_demo.specs.Demo.{demo_deck}
use Rattle.pic_num.specs.declared.axis.Axis.{Axis}
use Rattle.pic_num.specs.declared.motion.Particle.{Particle}
use Rattle.pic_num.specs.Space.{Triple}
use Rattle.pic_walk.specs.Path.{key_at}
use Rattle.pic_deck.specs.Deck.{DeckView}
use Rattle.pic_deck.specs.Keys.{force_allowed}
use Rattle.pic_deck.specs.Reading.{as_read}
use Rattle.pic_deck.proofs.ForceLaws.{no_forces, zero_set_up}
use Rattle.pic_deck.specs.declared.refusal.Refusal.{Refusal}
use Rattle.pic_load.specs.Loading.{loaded}
use Rattle.pic_displace.specs.Displace.{displaced_e, displaced_allowed}
use Rattle.pic_displace.proofs.NoneLaws.{stays}
use Rattle.pic_step.specs.Sound.{IsSound}
use Rattle.pic_report.specs.declared.cut.Cut.{Cut}
use Rattle.pic_open.specs.declared.stage_stop.StageStop.{StageStop}
use Rattle.pic_open.specs.declared.stage_stop.StageStop.TheVariants.{Answer, NoMemory as StageNoMemory}
use Rattle.pic_report.specs.declared.ended.Ended.{Ended}
use Rattle.pic_open.specs.declared.opening_deck.Opened.{Opened}
use Rattle.pic_open.specs.DeckEnd.{DeckEnd, Unmet, Staged, ◌>>=◌, ended_at}
use Rattle.pic_report.specs.Ended.{ended_of}
use Rattle.pic_states.specs.Frames.{end_of_run}
use Rattle.pic_open.specs.Starting.{first_state, state_break}
use Rattle.pic_report.specs.Outcome.{early_outcome}
use Rattle.pic_open.specs.Stages.{unless_gauss_fails, unless_too_strong, gauss_tested, tested}
use Rattle.pic_run.specs.DeckOutcome.{demonstrated, on_deck, demo_outcome}
use Rattle.pic_report.specs.Leaves.{ComesTo, Fulfils, LeavesWhole}
use Rattle.pic_report.specs.Finishes.{Finishes, Announces}
use Rattle.pic_open.specs.Stops.{EndsStopped}
use Rattle.pic_open.specs.Opened.{Tests}
use Rattle.pic_report.specs.Manner.{Call, Performs}
use Rattle.pic_run.specs.Demo.{IsDeckOf, demonstrating}
use Rattle.pic_report.specs.Meaning.{MeansIn}
use Rattle.pic_report.proofs.EndLaws.{finished, announced, starved}
use Rattle.pic_run.proofs.UntakenLaws.{untouched}
use Rattle.pic_run.proofs.DeckLaws.{ok_is, least_of, deck_ends, not_of_run}

-- a demonstration was stopped, or it was tested and went on
pub shown_stopped : (seed workers : ℕ) (stop : StageStop) (source : Told) (before now : Sinks) (finish : Result Ended Cut) → Tests (demo_deck seed) (Err stop)
    → EndsStopped stop before now finish → Performs (demonstrating seed workers) source source before now (ended_of finish)
unfolding demonstrated
shown_stopped seed workers (Answer why) source before now finish is ends =
    let o = early_outcome (ended_at is.end) in
    record {
      read = untouched source refl;
      calm = λ _. refl;
      reads = λ _ d e. let other : ◌≡◌ {A = Staged DeckView} (Err is.end) (Ok d) = sym is.is ∙ e in cc;
      comes = subst (λ (s : Staged DeckView). ComesTo (LeavesWhole workers) (on_deck demo_outcome s) before now (ended_of finish)) (sym is.is)
          (announced (LeavesWhole workers) o before now finish (subst (λ (a : Ended). Announces (early_outcome a) before now finish) is.answer ends));
    }
shown_stopped seed workers StageNoMemory source before now finish tests (is, wrote) = record {
  read = untouched source refl;
  calm = λ _. refl;
  reads = λ whole. absurd (whole (ap ended_of is));
  comes = starved (LeavesWhole workers) (on_deck demo_outcome (tested (demo_deck seed))) before now finish is (inl wrote);
}

pub shown : (seed workers : ℕ) (o : Opened) (source : Told) (before now : Sinks) (finish : Result Ended Cut) → Tests (demo_deck seed) (Ok o)
    → Finishes (LeavesWhole workers) (demo_outcome o.deck) before now finish → Performs (demonstrating seed workers) source source before now (ended_of finish)
unfolding demonstrated
shown seed workers o source before now finish is ends = record {
  read = untouched source refl;
  calm = λ _. refl;
  reads = λ _ d e. subst (λ (k : DeckView). IsSound (first_state k)) (ok_is o.deck d (sym is.deck ∙ e))
      (subst IsSound is.begins.start is.begins.sound);
  comes = subst (λ (s : Staged DeckView). ComesTo (LeavesWhole workers) (on_deck demo_outcome s) before now (ended_of finish)) (sym is.deck)
      (finished (LeavesWhole workers) (demo_outcome o.deck) before now finish ends);
}

-- a demonstration displaces no species, and begins with no field: so none is too strong
no_e : (seed : ℕ) (particles : List Particle) (a : Axis) (p : Triple) → displaced_e (demo_deck seed) particles a p ≡ pos 0
no_e seed particles a p = let d = demo_deck seed in stays d particles refl a p ∙ zero_set_up d.e d.edges refl refl a p

demo_fits : (seed : ℕ) → displaced_allowed (demo_deck seed) (loaded (demo_deck seed)) ≡ Ok tt
unfolding as_read force_allowed
demo_fits seed =
    let d = demo_deck seed in
    ap (λ (o : Option ℤ). as_read (force_allowed (key_at (codes "scale") (codes "e_force")) o))
    (no_forces d.cells d.scales.e_force (displaced_e d (loaded d)) (no_e seed (loaded d)))

-- where the value of a deck's test comes from
abbrev IsTestOf : DeckView → Staged DeckView → Type 0
IsTestOf d (Ok other) = other ≡ d
IsTestOf d (Err end) = (b : Break) × (Unmet b ≡ end) × (state_break (first_state d) ≡ Some b)

test_of : (d : DeckView) → displaced_allowed d (loaded d) ≡ Ok tt → IsTestOf d (tested d)
test_of d fit =
    subst (λ (r : Result (Unit {0}) Refusal). IsTestOf d (unless_too_strong d r >>= gauss_tested)) (sym fit) (go (state_break (first_state d)) refl)
  where
    go : (found : Option Break) → state_break (first_state d) ≡ found → IsTestOf d (unless_gauss_fails d found)
    go None is = refl
    go (Some b) is = (b, refl, is)

demo_of : (seed : ℕ) → IsTestOf (demo_deck seed) (demonstrated seed)
unfolding demonstrated
demo_of seed = test_of (demo_deck seed) (demo_fits seed)

pub demo_means : (seed workers : ℕ) (c : Call) (ended : Ended) (p : Performs (demonstrating seed workers) c.source c.source_now c.sinks c.sinks_now ended)
    → Fulfils (on_deck demo_outcome (demonstrated seed)) c.sinks c.sinks_now ended
    → MeansIn (demonstrating seed workers) c (on_deck demo_outcome (demonstrated seed)).answer
demo_means seed workers c ended p ends = go (demonstrated seed) refl (demo_of seed) ends
  where
    go : (s : Staged DeckView) → demonstrated seed ≡ s → IsTestOf (demo_deck seed) s → Fulfils (on_deck demo_outcome s) c.sinks c.sinks_now ended
        → MeansIn (demonstrating seed workers) c (on_deck demo_outcome s).answer
    go (Err end) is (b, same, found) ends' =
        subst (λ (e : DeckEnd). MeansIn (demonstrating seed workers) c (ended_at e)) same (record {
          deck = demo_deck seed;
          held = record { deck = refl; same = p.read.most };
          least = least_of (first_state (demo_deck seed)) b found;
        })
    go (Ok d) is same ends' =
        deck_ends (IsDeckOf seed c) (MeansIn (demonstrating seed workers) c) (λ steps is. is) (λ step stop is. is) d
        (record { deck = same; same = p.read.most })
        (p.reads (λ wanted. not_of_run (end_of_run d.steps (first_state d)) (ends'.answers ∙ wanted)) d is)
