-- What the type of a state keeps, from its parts.
use Rattle.std.proofs.Common.{◌≡◌, ℕ, suc, ◌<◌, List, length, All, refl, sym, ◌∙◌, subst, arith}
use Rattle.std.proofs.lemmas.List.Elements.{All-weaker}
use Rattle.pic_num.specs.declared.motion.Kind.{Kind}
use Rattle.pic_num.specs.declared.motion.Particle.{Particle}
use Rattle.pic_num.specs.declared.mult.Scales.{Scales}
use Rattle.pic_num.specs.Space.{triple}
use Rattle.pic_grid.specs.declared.loops.Loop.{Loop}
use Rattle.pic_grid.specs.Hat.{IsInBox}
use Rattle.pic_grid.specs.Lattice.{Field}
use Rattle.pic_grid.specs.PushPhase.{CanShare}
use Rattle.pic_filter.specs.Smoothing.{filter_in}
use Rattle.pic_tile.specs.InOrder.{IsCensus, written}
use Rattle.pic_tile.specs.Same.{Same}
use Rattle.pic_tile.specs.Totals.{together}
use Rattle.pic_tile.proofs.DiscreteLaws.{particle_discrete, permutes}
use Rattle.pic_tile.proofs.InOrderLaws.{ordered_census, same_census, ids_below, written_all}
use Rattle.pic_tile.proofs.SameLaws.{same_sym, same_length}
use Rattle.pic_tile.specs.CoreState.{all_particles}
use Rattle.pic_tile.specs.Held.{chains_of}
use Rattle.pic_tile.specs.Parcels.{AreFreshTiles}
use Rattle.pic_tile.specs.Tiling.{Tiling, IsMap, grid_of_tiling}
use Rattle.pic_tile.proofs.HeldLaws.{fresh_hold}
use Rattle.pic_step.specs.declared.plasma.Plasma.{Plasma}
use Rattle.pic_step.specs.Halved.{forced_by}
use Rattle.pic_step.specs.Kept.{AreCut, IsKept, seen}
use Rattle.pic_step.specs.Plasma.{IsPlasma}
use Rattle.pic_step.specs.PushOn.{CanPush}
use Rattle.pic_step.specs.SerialStep.{World, world_of}
use Rattle.pic_step.specs.Sound.{IsSound}
use Rattle.pic_step.specs.Tiled.{AreTilesOf}
use Rattle.pic_step.specs.Tracers.{IsOf}
use Rattle.pic_step.proofs.OnePartLaws.{safe_parts}
use Rattle.pic_step.proofs.PlasmaLaws.{particles_are}

-- the particles of a sound state lie in the box
pub inside : (w : World) → IsSound w → All (λ x. IsInBox w.side w.cells (triple x.x)) w.particles
inside w sound = All-weaker (CanShare w.side w.cells w.kinds) (λ x. IsInBox w.side w.cells (triple x.x)) (λ x can. can.place) w.particles sound.places

pub above_zero : (w : World) → IsSound w → 0 < w.side
above_zero w sound = let least = sound.side_least in omega (arith, least)

-- where its particles are cut into tiles, the state is that of its parts
module _ (step filter : ℕ) (loops : List Loop) (m : Tiling) (scales : Scales) (kinds : List Kind) (e b : Field) (xs : List Particle) (p : Plasma)
    (map : IsMap m)
    (sound : IsSound (world_of step (grid_of_tiling m) filter loops scales kinds e.values b.values xs)) (cut : AreCut m e b) (of_map : p.frame.map ≡ m)
    (of_filter : filter_in p.smooth ≡ filter) (of_kinds : p.frame.kinds ≡ kinds) (ready : IsPlasma xs p) (of : All (IsOf xs) p.tracers.items) where
  list_is : all_particles p.tiles.items ≡ xs
  list_is =
      let w = world_of step (grid_of_tiling m) filter loops scales kinds e.values b.values xs in
      particles_are m xs p.tiles.items (above_zero w sound) map.thick (inside w sound) sound.ordered
      (subst (λ (n : Tiling). AreFreshTiles n xs p.tiles.items) of_map ready.tiles)

  pub begun_is : seen step loops scales e b p ≡ world_of step (grid_of_tiling m) filter loops scales kinds e.values b.values xs
  begun_is = λ i. world_of step (grid_of_tiling (of_map i)) (of_filter i) loops scales (of_kinds i) e.values b.values (list_is i)

  pub kept : IsKept step loops scales e b p
  kept = record {
    sound = subst IsSound (sym begun_is) sound;
    cut = subst (λ (n : Tiling). AreCut n e b) (sym of_map) cut;
    plasma = subst (λ (ys : List Particle). IsPlasma ys p) (sym list_is) ready;
    tracers = subst (λ (ys : List Particle). All (IsOf ys) p.tracers.items) (sym list_is) of;
  }

-- the census of the tiles of a state
module _ (step : ℕ) (loops : List Loop) (scales : Scales) (e b : Field) (p : Plasma) (map : IsMap p.frame.map) (keeps : IsKept step loops scales e b p) where
  same : Same (together (chains_of p.tiles.items)) (all_particles p.tiles.items)
  same =
      let w = seen step loops scales e b p in
      let held = fresh_hold p.frame.map w.particles p.tiles.items (above_zero w keeps.sound) map.thick (inside w keeps.sound) keeps.plasma.tiles in
      held.same

  census : IsCensus (together (chains_of p.tiles.items))
  census =
      let xs = all_particles p.tiles.items in
      let all = together (chains_of p.tiles.items) in
      same_census xs all (same_sym all xs same) (ordered_census xs keeps.sound.ordered)

  -- so they can be written into a list of as many, and make the list of the state
  pub can_write : (n : ℕ) → n ≡ length (all_particles p.tiles.items) → All (λ x. x.id < n) (together (chains_of p.tiles.items))
  can_write n is =
      let all = together (chains_of p.tiles.items) in
      subst (λ (k : ℕ). All (λ x. x.id < k) all) (same_length all (all_particles p.tiles.items) same ∙ sym is) (ids_below all census)

  pub written_is : (to : List Particle) → length to ≡ length (all_particles p.tiles.items) → written (together (chains_of p.tiles.items)) to
      ≡ all_particles p.tiles.items
  written_is to long =
      let all = together (chains_of p.tiles.items) in
      written_all all to census (long ∙ sym (same_length all (all_particles p.tiles.items) same))

  -- and each particle is in one of them
  pub tiled : AreTilesOf (seen step loops scales e b p) p.frame.map p.tiles.items
  tiled =
      let xs = all_particles p.tiles.items in
      let all = together (chains_of p.tiles.items) in
      record { side = refl; cells = refl; own = keeps.plasma.tiles; once = permutes particle_discrete xs all (same_sym all xs same) }

-- a state's particles can be pushed, by the force values of any B
pub can_push : (step : ℕ) (loops : List Loop) (scales : Scales) (e b c : Field) (p : Plasma) → IsKept step loops scales e b p
    → CanPush scales e (record p { frame = forced_by scales c p.frame })
can_push step loops scales e b c p keeps = record {
  side = above_zero (seen step loops scales e b p) keeps.sound;
  cut = keeps.cut.of_e;
  safe = safe_parts p.frame.map scales.e_force e keeps.cut.of_e keeps.sound.e;
  plasma = record {
    tiles = keeps.plasma.tiles;
    room = keeps.plasma.room;
    parts = keeps.plasma.parts;
    spare = keeps.plasma.spare;
    smooth = keeps.plasma.smooth;
    count = keeps.plasma.count;
  };
  opening = record {
    fresh = keeps.plasma.tiles;
    ordered = keeps.sound.ordered;
    can = keeps.sound.places;
    few = keeps.sound.few;
  };
  tracers = keeps.tracers;
}

-- the state of the parts that a step leaves
pub next_is : (step next : ℕ) (loops : List Loop) (scales : Scales) (e b e' b' : Field) (p q : Plasma) → next ≡ suc step → q.frame.map ≡ p.frame.map
    → filter_in q.smooth ≡ filter_in p.smooth → q.frame.kinds ≡ p.frame.kinds
    → record (seen step loops scales e b p) { step = suc step; e = e'.values; b = b'.values; particles = all_particles q.tiles.items }
    ≡ seen next loops scales e' b' q
next_is step next loops scales e b e' b' p q more map filter kinds =
    λ i. world_of (sym more i) (grid_of_tiling (sym map i)) (sym filter i) loops scales (sym kinds i) e'.values b'.values (all_particles q.tiles.items)
