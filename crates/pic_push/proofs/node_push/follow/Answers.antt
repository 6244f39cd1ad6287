use Rattle.std.proofs.Common.{◌≡◌, ℕ, ◌<◌, List, ap, ◌∙◌, subst, sym, arith}
use Rattle.pic_num.specs.declared.motion.Particle.{Particle}
use Rattle.pic_num.specs.Push.{plus}
use Rattle.pic_num.specs.Space.{Triple, spot, triple, unwrapped}
use Rattle.pic_chain.specs.Links.{particle_of}
use Rattle.pic_boris.specs.Pushes.{shift_of}
use Rattle.pic_block.specs.Cells.{Grid}
use Rattle.pic_block.specs.Block.{InZone}
use Rattle.pic_grid.specs.Path.{floor_cell}
use Rattle.pic_grid.specs.PushPhase.{moved}
use Rattle.pic_tile.specs.declared.parcel.Parcel.{Parcel}
use Rattle.pic_tile.specs.Directions.{here}
use Rattle.pic_tile.specs.Frame.{felt_in}
use Rattle.pic_tile.specs.Leaving.{way, after_its_push}
use Rattle.pic_tile.specs.Tiling.{cells_of}
use Rattle.pic_push.specs.Paths.{IsPathOf, StaysInBox, flux_along}
use Rattle.pic_push.specs.Reach.{direction_from}
use Rattle.pic_push.specs.Sends.{Sends}
use Rattle.pic_push.proofs.ReachLaws.{here_is}
use Rattle.pic_push.proofs.SendLaws.{after_is, leads_by, receives_none, some_gained, sends_on, sends_out}
use Rattle.pic_push.proofs.StayLaws.{begins, end_stays}
use Rattle.pic_push.proofs.node_push.follow.Goals as goal
use Rattle.pic_push.proofs.node_push.follow.Goals.{After-cells-cells}
use Rattle.pic_push.proofs.node_push.follow.Given.{Over}

-- what is known where the flux has been sent
record Known (g : Over) (c : After-cells-cells g) : Type 0 where
  path : IsPathOf (felt_in c.args.frame.now) (particle_of c.args.node.value) (shift_of c.args.by.now) c.path_of-path.result
  own : (felt_in c.args.frame.now).side ≡ c.args.frame.now.map.side
  side : c.sub-sub.result ≡ c.args.frame.now.map.side
  cells : c.cells-cells.result.n ≡ cells_of c.args.frame.now.map
  leads : (dir : ℕ) → dir ≡ direction_from (spot c.args.zone.low) (triple c.args.zone.size) (spot c.end-end.result)
      → dir ≡ way (felt_in c.args.frame.now) c.args.frame.now.map (particle_of c.args.node.value)
  moves : (p q : Particle) → q ≡ particle_of c.args.node.value → p ≡ moved c.sub-sub.result c.cells-cells.result.n q (shift_of c.args.by.now)
      → p ≡ after_its_push (felt_in c.args.frame.now) (particle_of c.args.node.value)

known : (g : Over) → (c : After-cells-cells g) → Known g c
known g c =
    let f = c.args.frame.now in
    let w = felt_in f in
    let s = shift_of c.args.by.now in
    let x = particle_of c.args.node.value in
    let is = c.cells-cells.ensures.frame in
    let same : c.particle.result ≡ x = c.particle.ensures ∙ ap particle_of c.deref.ensures in
    let path : IsPathOf w x s c.path_of-path.result =
    subst (λ (y : Particle). IsPathOf w y s c.path_of-path.result) same c.path_of-path.ensures.of in
    let own : w.side ≡ f.map.side = is.e.side ∙ ap (λ (g : Grid). g.side) (sym is.map_is) in
    let side = c.sub-sub.ensures ∙ ap (λ (g : Grid). g.side) c.cells.ensures.value in
    let cells = ap (λ (g : Grid). g.n) c.cells-cells.ensures.value in
    record {
      path = path;
      own = own;
      side = side ∙ ap (λ (g : Grid). g.side) (sym is.map_is);
      cells = cells ∙ ap (λ (g : Grid). g.n) (sym is.map_is);
      leads = λ dir. leads_by w f.map x s c.path_of-path.result c.args.tile.now.number (spot c.args.zone.low) (triple c.args.zone.size) (spot c.end-end.result)
          dir c.requires.push path own c.requires.of.tile_is c.requires.low c.requires.size c.end-end.ensures;
      moves = λ p q from led. led ∙ (λ i. moved ((side ∙ sym is.e.side) i) ((cells ∙ sym is.e.cells_are) i) (from i) s) ∙ sym (after_is w x s c.requires.push);
    }

-- One whose path stays in a cell is in a cell of its tile.

pub is_here-requires : goal.is_here-requires
is_here-requires g c = λ stays.
    let f = c.args.frame.now in
    let x = particle_of c.args.node.value in
    let k = known g (goal.at.is_here-requires g c).After-cells-cells in
    let least : 0 < f.map.side = let some = c.sound.ensures.least in omega (arith, some) in
    let start = begins f.map x c.args.tile.now.number (spot c.args.zone.low) (triple c.args.zone.size) least c.sound.ensures.map.thick
    c.requires.of.can.place c.requires.of.tile_is c.requires.low c.requires.size
    in
    let p = c.path_of-path.result in
    let same : floor_cell p.sub (unwrapped (triple p.from)) ≡ floor_cell f.map.side (unwrapped (triple x.x)) =
    (λ i. floor_cell ((k.path.sub_is ∙ k.own) i) (unwrapped (k.path.from_is i)))
    in
    subst (InZone (spot c.args.zone.low) (triple c.args.zone.size)) (sym (c.end-end.ensures ∙ c.send_flux-stays.ensures.stays stays ∙ same)) start

-- One that stays in its tile.

pub advance_within-requires-clause-to : goal.advance_within-requires-clause-to
advance_within-requires-clause-to g c =
    let f = c.args.frame.now in
    let s = shift_of c.args.by.now in
    let x = particle_of c.args.node.value in
    let sub = c.sub-sub.result in
    let n = c.cells-cells.result.n in
    let k = known g (goal.at.advance_within-requires-clause-to g c).After-cells-cells in
    let end = end_stays (felt_in f) f.map x s c.path_of-path.result c.args.tile.now.number (spot c.args.zone.low) (triple c.args.zone.size)
    (spot c.end-end.result) (let least = c.sound.ensures.least in omega (arith, least)) c.sound.ensures.map.thick c.requires.of.can.place k.path k.own
    c.requires.of.tile_is c.requires.low c.requires.size c.end-end.ensures (c.is_here.ensures c.if-is_here.true) in
    subst (λ (p : Particle). StaysInBox sub n (plus (unwrapped (triple p.x)) s.d)) (sym (ap particle_of c.deref_mut.ensures.value))
    (subst (λ (m : Triple). StaysInBox sub m (plus (unwrapped (triple x.x)) s.d)) (sym k.cells)
    (subst (λ (r : ℕ). StaysInBox r (cells_of f.map) (plus (unwrapped (triple x.x)) s.d)) (sym k.side) end))

pub returns-then-is_here-clause-own : goal.returns-then-is_here-clause-own
returns-then-is_here-clause-own g c =
    let f = c.args.frame.now in
    let w = felt_in f in
    let x = particle_of c.args.node.value in
    let k = known g (goal.at.returns-then-is_here-clause-own g c).After-cells-cells in
    let leads = k.leads here (here_is f.map c.args.tile.now.number (spot c.args.zone.low) (triple c.args.zone.size) (spot c.end-end.result) c.requires.low
    (c.is_here.ensures c.if-is_here.true)) in
    let y = particle_of c.advance_within.new.node in
    let moves = k.moves y (particle_of c.deref_mut.result.now) (ap particle_of c.deref_mut.ensures.value) c.advance_within.ensures in
    subst (λ (chain : List Particle). Sends w f.map x here c.args.own.now (record c.send_flux-stays.new.own { chain = chain })) (sym c.push.ensures)
    (sends_on w f.map x y (shift_of c.args.by.now) c.path_of-path.result here here c.args.own.now c.send_flux-stays.new.own c.requires.push k.path leads moves
    c.send_flux-stays.ensures.own)

pub returns-then-is_here-clause-others : goal.returns-then-is_here-clause-others
returns-then-is_here-clause-others g c =
    let f = c.args.frame.now in
    let x = particle_of c.args.node.value in
    let k = known g (goal.at.returns-then-is_here-clause-others g c).After-cells-cells in
    let leads = k.leads here (here_is f.map c.args.tile.now.number (spot c.args.zone.low) (triple c.args.zone.size) (spot c.end-end.result) c.requires.low
    (c.is_here.ensures c.if-is_here.true)) in
    let y = particle_of c.advance_within.new.node in
    let moves = k.moves y (particle_of c.deref_mut.result.now) (ap particle_of c.deref_mut.ensures.value) c.advance_within.ensures in
    let t = c.send_flux-stays.new.tile in
    sends_out (felt_in f) f.map x y (shift_of c.args.by.now) c.path_of-path.result here c.args.tile.now t t c.requires.push k.path leads moves
    c.send_flux-stays.ensures.others (receives_none y t)

-- One that may leave it.

pub lead-requires-clause-apart : goal.lead-requires-clause-apart
lead-requires-clause-apart g c = c.send_flux-stays.ensures.others.none here (omega arith) c.requires.open.apart

pub lead-requires-clause-whole : goal.lead-requires-clause-whole
lead-requires-clause-whole g c = λ other.
    some_gained (flux_along c.path_of-path.result) c.args.tile.now c.send_flux-stays.new.tile c.way_to.result c.send_flux-stays.ensures.others
    c.way_to.ensures.below
    (c.requires.open.whole c.way_to.result c.way_to.ensures.below other)

pub returns-clause-own : goal.returns-clause-own
returns-clause-own g c =
    let f = c.args.frame.now in
    let w = felt_in f in
    let x = particle_of c.args.node.value in
    let k = known g (goal.at.returns-clause-own g c).After-cells-cells in
    let y = particle_of c.advance.new.node in
    let moves = k.moves y (particle_of c.deref_mut-2.result.now) (ap particle_of c.deref_mut-2.ensures.value) c.advance.ensures in
    subst (λ (q : Parcel). Sends w f.map x here c.args.own.now q) (sym c.lead.ensures.own)
    (sends_on w f.map x y (shift_of c.args.by.now) c.path_of-path.result here c.way_to.result c.args.own.now c.send_flux-stays.new.own c.requires.push k.path
    (k.leads c.way_to.result c.way_to.ensures.value) moves c.send_flux-stays.ensures.own)

pub returns-clause-others : goal.returns-clause-others
returns-clause-others g c =
    let f = c.args.frame.now in
    let x = particle_of c.args.node.value in
    let k = known g (goal.at.returns-clause-others g c).After-cells-cells in
    let y = particle_of c.advance.new.node in
    let moves = k.moves y (particle_of c.deref_mut-2.result.now) (ap particle_of c.deref_mut-2.ensures.value) c.advance.ensures in
    sends_out (felt_in f) f.map x y (shift_of c.args.by.now) c.path_of-path.result c.way_to.result c.args.tile.now c.send_flux-stays.new.tile c.lead.new.tile
    c.requires.push k.path (k.leads c.way_to.result c.way_to.ensures.value) moves c.send_flux-stays.ensures.others c.lead.ensures.others
