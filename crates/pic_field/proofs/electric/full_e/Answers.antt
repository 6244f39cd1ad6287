use Rattle.std.proofs.Common.{◌≡◌, ◌+ℤ◌, ◌-ℤ◌, ℤ, pos, Option, sym, ◌∙◌, ap}
use Rattle.pic_num.specs.declared.axis.Axis.{Axis}
use Rattle.pic_num.specs.Push.{unless}
use Rattle.pic_num.specs.Space.{Triple}
use Rattle.pic_block.specs.Block.{inner_at, outer_of}
use Rattle.pic_block.specs.Cells.{IsWithin}
use Rattle.pic_grid.specs.declared.stop.Stop.{Stop}
use Rattle.pic_grid.specs.Differences.{curl_b}
use Rattle.pic_grid.specs.Lattice.{value_at}
use Rattle.pic_field.specs.FieldPhases.{full_of, no_drive, values_in}
use Rattle.pic_field.proofs.CurlLaws.{full_of-raised}
use Rattle.pic_field.proofs.RaisedLaws.{step_changed, stop_changed}
use Rattle.pic_field.proofs.ZoneLaws.{edge_at-shaped}
use Rattle.pic_field.proofs.electric.full_e.Goals as goal
use Rattle.pic_field.proofs.electric.full_e.Goals.{After-raise}

-- what the curl was added to and the current taken off
abbrev made : After-raise → Axis → Triple → ℤ → ℤ
made c a q v = v +ℤ (curl_b c.args.b.now.cells (value_at c.args.m.now) a q -ℤ values_in c.args.j.now a q)

raised : (c : After-raise) → (a : Axis) (p : Triple) → IsWithin p c.args.e.now.size
    → inner_at c.raise.new.e a p ≡ made c a (outer_of c.args.e.now.low p) (inner_at c.args.e.now a p)
raised c a p w =
    let q = outer_of c.args.e.now.low p in
    let of_j = edge_at-shaped c.args.j.now c.args.e.now c.args.b.now.cells a p c.requires.j_shape c.requires.among in
    c.raise.ensures.values a p w
    ∙ (λ i. inner_at c.args.e.now a p +ℤ (curl_b (c.requires.m_cells i) (value_at c.args.m.now) a q -ℤ sym of_j i))

same : (c : After-raise) → (a : Axis) (q : Triple) (v : ℤ)
    → full_of c.args.scales.now c.args.b.now no_drive a q (made c a q v) (pos 0)
    ≡ full_of c.args.scales.now c.args.b.now (value_at c.args.m.now) a q v (values_in c.args.j.now a q)
same c a q v = full_of-raised c.args.scales.now c.args.b.now (value_at c.args.m.now) a q v (values_in c.args.j.now a q)

pub returns-clause-values : goal.returns-clause-values
returns-clause-values c =
    let at = (goal.at.returns-clause-values c).After-raise in
    step_changed c.args.scales.now c.args.b.now (value_at c.args.m.now) (values_in c.args.j.now) (made at) c.args.e.now c.raise.new.e c.requires.among
    c.raise.ensures.shape (raised at) (same at) c.free_e_in.new.e c.free_e_in.ensures.values

pub returns-clause-stop : goal.returns-clause-stop
returns-clause-stop c =
    let at = (goal.at.returns-clause-stop c).After-raise in
    c.free_e_in.ensures.stop
    ∙ ap (λ (o : Option Stop). unless o tt)
    (stop_changed c.args.scales.now c.args.b.now (value_at c.args.m.now) (values_in c.args.j.now) (made at) c.args.e.now c.raise.new.e c.requires.among
    c.raise.ensures.shape (raised at) (same at))
