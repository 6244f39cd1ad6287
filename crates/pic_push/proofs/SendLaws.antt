-- What the push of one particle does to a parcel of its tile, from what the code does.
use Rattle.std.proofs.Common.{◌≡◌, ℕ, ◌<◌, Bool, true, false, cond, ◌∷◌, Option, Some, None, Result, Ok, Err, refl, sym, ap, ◌∙◌, subst, arith}
use Rattle.std.proofs.Math.IntN.{ℤ, pos, ◌+ℤ◌}
use Rattle.std.specs.Prelude.{◌==◌, IsSome}
use Rattle.std.proofs.lemmas.Bool.Decides.{nat_tests}
use Rattle.pic_num.specs.declared.axis.Axis.{Axis}
use Rattle.pic_num.specs.declared.motion.Particle.{Particle}
use Rattle.pic_num.specs.Limits.{most_charge, most_cells_of_axis}
use Rattle.pic_num.specs.Push.{Shift, Halting, plus}
use Rattle.pic_num.specs.Sizes.{IsAtMost}
use Rattle.pic_num.specs.Space.{Triple, Spot, triple, spot, unwrapped, AreAtMost}
use Rattle.pic_num.proofs.ProductLaws.{plus_zero}
use Rattle.pic_num.proofs.SizeLaws.{times_at_most}
use Rattle.pic_block.specs.Block.{edge_at}
use Rattle.pic_block.specs.Cells.{IsCells}
use Rattle.pic_grid.specs.declared.stop.Stop.{Stop}
use Rattle.pic_grid.specs.declared.stop.Stop.TheVariants.{Push}
use Rattle.pic_grid.specs.Flux.{path_flux}
use Rattle.pic_grid.specs.Hat.{IsInBox}
use Rattle.pic_grid.specs.Path.{floor_cell, path}
use Rattle.pic_grid.specs.PushPhase.{Surroundings, push_of, after_push, moved, halt_of}
use Rattle.pic_grid.specs.Traces.{trace_of}
use Rattle.pic_tile.specs.StopOf.{lesser}
use Rattle.pic_tile.specs.declared.parcel.Parcel.{Parcel}
use Rattle.pic_tile.specs.Directions.{directions, here}
use Rattle.pic_tile.specs.Layers.{lowest_cell}
use Rattle.pic_tile.specs.Leaving.{way_after, way, after_its_push, direction_to}
use Rattle.pic_tile.specs.Owners.{tile_of}
use Rattle.pic_tile.specs.Tile.{TileValue, parcel_at}
use Rattle.pic_tile.specs.Tiling.{Tiling}
use Rattle.pic_push.specs.declared.charged_path.Path.{Path}
use Rattle.pic_push.specs.Gains.{Gained, Gains}
use Rattle.pic_push.specs.Paths.{IsPath, IsPathOf, flux_along, largest_grid, path_end}
use Rattle.pic_push.specs.Reach.{direction_from}
use Rattle.pic_push.proofs.ReachLaws.{direction_is}
use Rattle.pic_push.specs.Sends.{received, Receives, trace, Sends, SendsOut}

-- the path of a particle in a grid within the limits
pub path_fits : (p : Path) (side : ℕ) (n : Triple) → p.sub ≡ side → IsCells n → IsInBox side n (triple p.from) → AreAtMost (spot p.by) side
    → IsAtMost p.charge most_charge → IsPath p
path_fits p side n same cells place limits charge = record {
  from = subst (λ (s : ℕ). IsInBox s largest_grid (triple p.from)) (sym same) (record {
    x = omega (arith, place.x, times_at_most n.x side most_cells_of_axis side cells.x_most (omega arith));
    y = omega (arith, place.y, times_at_most n.y side most_cells_of_axis side cells.y_most (omega arith));
    z = omega (arith, place.z, times_at_most n.z side most_cells_of_axis side cells.z_most (omega arith));
  });
  by = record {
    x = subst (IsAtMost (spot p.by).x) (sym same) limits.x;
    y = subst (IsAtMost (spot p.by).y) (sym same) limits.y;
    z = subst (IsAtMost (spot p.by).z) (sym same) limits.z;
  };
  charge = charge;
}

-- the flux of a particle that doesn't halt is that of its path
trace_is : (w : Surroundings) (x : Particle) (s : Shift) (p : Path) → push_of w x ≡ Ok s → IsPathOf w x s p → (a : Axis) (c : Spot)
    → flux_along p a c ≡ trace w x a c
unfolding trace_of
trace_is w x s p is of a c =
    (λ i. path_flux (of.sub_is i) (of.charge_is i) (path (of.sub_is i) (unwrapped (of.from_is i)) (of.by_is i)) a c)
    ∙ ap (λ (r : Result Shift Halting). trace_of w.side w.kinds x r a c) (sym is)

-- after its push it is moved
pub after_is : (w : Surroundings) (x : Particle) (s : Shift) → push_of w x ≡ Ok s → after_its_push w x ≡ moved w.side w.cells x s
unfolding after_its_push after_push
after_is w x s is = ap (λ (r : Result Shift Halting). after_push w.side w.cells x r) is

-- and goes where its path ends
pub way_is : (w : Surroundings) (m : Tiling) (x : Particle) (s : Shift) → push_of w x ≡ Ok s
    → way w m x ≡ direction_to m (tile_of m x) (floor_cell m.side (plus (unwrapped (triple x.x)) s.d))
unfolding way
way_is w m x s is = ap (λ (r : Result Shift Halting). way_after m x r) is

pub leads_by : (w : Surroundings) (m : Tiling) (x : Particle) (s : Shift) (p : Path) (tile : ℕ) (low : Spot) (size : Triple) (cell : Spot) (dir : ℕ)
    → push_of w x ≡ Ok s → IsPathOf w x s p → w.side ≡ m.side → tile_of m x ≡ tile → low ≡ lowest_cell m tile → size ≡ m.size → cell ≡ path_end p
    → dir ≡ direction_from low size cell → dir ≡ way w m x
leads_by w m x s p tile low size cell dir is of same own at thick end leads =
    let side : p.sub ≡ m.side = of.sub_is ∙ same in
    leads ∙ direction_is m tile low size cell at thick ∙ ap (direction_to m tile) end
    ∙ (λ i. direction_to m (sym own i) (floor_cell (side i) (plus (unwrapped (of.from_is i)) (of.by_is i))))
    ∙ sym (way_is w m x s is)

-- a parcel that was there is there after it gained
pub some_gained : (f : Axis → Spot → ℤ) (t t' : TileValue) (d : ℕ) → Gains f t t' → d < directions → IsSome (parcel_at t d) → IsSome (parcel_at t' d)
some_gained f t t' d gains below some = by (parcel_at t d) refl some
  where
    by : (o : Option Parcel) → parcel_at t d ≡ o → IsSome o → IsSome (parcel_at t' d)
    by None at h = cc
    by (Some p) at h = subst (λ (o : Option Parcel). IsSome o) (sym (gains.gained d p below at).there) refl

lesser_none : (a : Option Stop) → lesser a None ≡ a
unfolding lesser
lesser_none None = refl
lesser_none (Some s) = refl

no_halt : (w : Surroundings) (x : Particle) (s : Shift) (b : Bool) (stop : Option Stop) → push_of w x ≡ Ok s
    → stop ≡ cond b (lesser stop (halt_of x (push_of w x))) stop
unfolding halt_of
no_halt w x s false stop is = refl
no_halt w x s true stop is = sym (ap (λ (r : Result Shift Halting). lesser stop (halt_of x r)) is ∙ lesser_none stop)

kept : {A : Type 0} (g : Parcel → A) (b : Bool) (r p : Parcel) → g r ≡ g p → g (cond b r p) ≡ g p
kept g true r p h = h
kept g false r p h = refl

chain_grows : (b : Bool) (y : Particle) (p : Parcel) → (cond b (record p { chain = y ∷ p.chain }) p).chain ≡ cond b (y ∷ p.chain) p.chain
chain_grows true y p = refl
chain_grows false y p = refl

-- a parcel gains the flux of a path, and the particle where it leads that way
pub sends_on : (w : Surroundings) (m : Tiling) (x y : Particle) (s : Shift) (path : Path) (d dir : ℕ) (p p' : Parcel) → push_of w x ≡ Ok s
    → IsPathOf w x s path → dir ≡ way w m x → y ≡ after_its_push w x → Gained (flux_along path) p p' → Sends w m x d p (received y dir d p')
sends_on w m x y s path d dir p p' is of leads moves gained = record {
  dir_is = kept (λ (r : Parcel). r.dir) (dir == d) into p' refl ∙ gained.dir_is;
  chain_is = chain_grows (dir == d) y p' ∙ (λ i. cond (leads i == d) (moves i ∷ gained.chain_is i) (gained.chain_is i));
  shape = record {
    low = gained.shape.low ∙ sym (kept (λ (r : Parcel). r.flux.low) (dir == d) into p' refl);
    size = gained.shape.size ∙ sym (kept (λ (r : Parcel). r.flux.size) (dir == d) into p' refl);
  };
  adds = record {
    at = λ a c inside. ap (λ b. edge_at b a c) (kept (λ (r : Parcel). r.flux) (dir == d) into p' refl) ∙ gained.adds.at a c inside
        ∙ ap (λ (v : ℤ). edge_at p.flux a c +ℤ v) (trace_is w x s path is of a c);
  };
  stop_is = kept (λ (r : Parcel). r.stop) (dir == d) into p' refl ∙ gained.stop_is ∙ no_halt w x s (d == here) p.stop is;
}
  where
    into : Parcel
    into = record p' { chain = y ∷ p'.chain }

-- one that stays in its tile goes into none of the other parcels
pub receives_none : (y : Particle) (t : TileValue) → Receives y here t t
receives_none y t = record {
  others = λ d p other at. let apart : here == d ≡ false = grind (arith, nat_tests) in
      at ∙ (λ i. Some (cond (sym apart i) (record p { chain = y ∷ p.chain }) p));
  none = λ at. at;
  number_is = refl;
}

-- all parcels of a tile do
pub sends_out : (w : Surroundings) (m : Tiling) (x y : Particle) (s : Shift) (path : Path) (dir : ℕ) (t t' t'' : TileValue) → push_of w x ≡ Ok s
    → IsPathOf w x s path → dir ≡ way w m x → y ≡ after_its_push w x → Gains (flux_along path) t t' → Receives y dir t' t'' → SendsOut w m x t t''
sends_out w m x y s path dir t t' t'' is of leads moves gains receives = record {
  others = λ d p below other at.
      let now = gains.gained d p below at in record {
        parcel = received y dir d now.parcel;
        there = receives.others d now.parcel other now.there;
        sent = sends_on w m x y s path d dir p now.parcel is of leads moves now.gained;
      };
  none = λ at. receives.none (gains.none here (omega arith) at);
  number_is = receives.number_is ∙ gains.number_is;
}

-- one that halts has no flux
no_trace : (w : Surroundings) (x : Particle) (h : Halting) (a : Axis) (c : Spot) → push_of w x ≡ Err h → pos 0 ≡ trace w x a c
unfolding trace_of
no_trace w x h a c is = ap (λ (r : Result Shift Halting). trace_of w.side w.kinds x r a c) (sym is)

-- stays as it was
pub stays : (w : Surroundings) (x : Particle) (h : Halting) → push_of w x ≡ Err h → x ≡ after_its_push w x
unfolding after_its_push after_push
stays w x h is = ap (λ (r : Result Shift Halting). after_push w.side w.cells x r) (sym is)

-- and where it was
stays_here : (w : Surroundings) (m : Tiling) (x : Particle) (h : Halting) → push_of w x ≡ Err h → here ≡ way w m x
unfolding way
stays_here w m x h is = ap (λ (r : Result Shift Halting). way_after m x r) (sym is)

its_halt : (w : Surroundings) (x : Particle) (h : Halting) → push_of w x ≡ Err h → Some (Push x.id h.what h.axis h.value) ≡ halt_of x (push_of w x)
unfolding halt_of
its_halt w x h is = ap (λ (r : Result Shift Halting). halt_of x r) (sym is)

-- so the parcel of no step has it, and its stop
pub sends_halted : (w : Surroundings) (m : Tiling) (x : Particle) (h : Halting) (p : Parcel) → push_of w x ≡ Err h
    → Sends w m x here p (record p { chain = x ∷ p.chain; stop = lesser p.stop (Some (Push x.id h.what h.axis h.value)) })
sends_halted w m x h p is = record {
  dir_is = refl;
  chain_is = λ i. cond (stays_here w m x h is i == here) (stays w x h is i ∷ p.chain) p.chain;
  shape = record { low = refl; size = refl };
  adds = record { at = λ a c inside. plus_zero (edge_at p.flux a c) ∙ ap (λ (v : ℤ). edge_at p.flux a c +ℤ v) (no_trace w x h a c is) };
  stop_is = ap (lesser p.stop) (its_halt w x h is);
}

-- and the others nothing
none_halted : (w : Surroundings) (m : Tiling) (x : Particle) (h : Halting) (d : ℕ) (p : Parcel) → push_of w x ≡ Err h → (d ≡ here → ⊥) → Sends w m x d p p
none_halted w m x h d p is other =
    let apart : here == d ≡ false = grind (arith, nat_tests) in
    let back : d == here ≡ false = grind (arith, nat_tests) in
    record {
      dir_is = refl;
      chain_is = (λ i. cond (sym apart i) (after_its_push w x ∷ p.chain) p.chain) ∙ (λ i. cond (stays_here w m x h is i == d)
          (after_its_push w x ∷ p.chain) p.chain);
      shape = record { low = refl; size = refl };
      adds = record { at = λ a c inside. plus_zero (edge_at p.flux a c) ∙ ap (λ (v : ℤ). edge_at p.flux a c +ℤ v) (no_trace w x h a c is) };
      stop_is = λ i. cond (sym back i) (lesser p.stop (halt_of x (push_of w x))) p.stop;
    }

pub out_halted : (w : Surroundings) (m : Tiling) (x : Particle) (h : Halting) (t : TileValue) → push_of w x ≡ Err h → SendsOut w m x t t
out_halted w m x h t is = record {
  others = λ d p below other at. record { parcel = p; there = at; sent = none_halted w m x h d p is other };
  none = λ at. at;
  number_is = refl;
}
