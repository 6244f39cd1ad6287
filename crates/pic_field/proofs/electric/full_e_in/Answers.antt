use Rattle.std.proofs.Common.{◌-ℤ◌, ℤ, Option, sym, ◌∙◌, ap, subst, arith}
use Rattle.pic_num.specs.Push.{unless}
use Rattle.pic_num.specs.Sizes.{IsAtMost}
use Rattle.pic_num.specs.Space.{Triple}
use Rattle.pic_block.specs.Block.{inner_at, outer_of}
use Rattle.pic_block.specs.Cells.{IsWithin}
use Rattle.pic_grid.specs.declared.stop.Stop.{Stop}
use Rattle.pic_grid.specs.Lattice.{value_at}
use Rattle.pic_field.specs.FieldPhases.{no_drive, most_lessened, most_raised}
use Rattle.pic_field.specs.Lines.{OnStrip}
use Rattle.pic_field.proofs.CalmLaws.{all_small}
use Rattle.pic_field.proofs.CurlLaws.{full_of-lessened}
use Rattle.pic_field.proofs.RaisedLaws.{all_small_in, lessened_small, outer_within, step_changed, stop_changed}
use Rattle.pic_field.proofs.electric.full_e_in.Goals as goal

pub make-requires-clause-can : goal.make-requires-clause-can
make-requires-clause-can c = all_small most_raised (OnStrip 0 c.args.e.now.size.y) c.args.e.now c.args.b.now.cells c.requires.among c.requires.e_small

pub free_e_in-requires-clause-e_small : goal.free_e_in-requires-clause-e_small
free_e_in-requires-clause-e_small c =
    let e = c.args.e.now in
    let j = c.args.j.now in
    let n = c.args.b.now.cells in
    let shaped = c.make.ensures.shape in
    let small = all_small most_raised (OnStrip 0 e.size.y) e n c.requires.among c.requires.e_small in
    all_small_in most_lessened c.make.new.to (λ a p v.
    let w : IsWithin p e.size = subst (λ (m : Triple). IsWithin p m) shaped.size v in
    let within = subst (λ (m : Triple). IsWithin (outer_of e.low p) m) (sym c.requires.j_cells) (outer_within e.low e.size n p c.requires.among w) in
    subst (λ (x : ℤ). IsAtMost x most_lessened) (sym (c.make.ensures.values a p w))
    (lessened_small (inner_at e a p) (value_at j a (outer_of e.low p)) (small.at_most a p w (record { y_from = omega arith; y_below = w.y })) (c.requires.j_small.at_most a (outer_of e.low p) within)))

pub returns-clause-values : goal.returns-clause-values
returns-clause-values c =
    let j = c.args.j.now in
    step_changed c.args.scales.now c.args.b.now no_drive (value_at j) (λ a q v. v -ℤ value_at j a q) c.args.e.now c.make.new.to c.requires.among
    c.make.ensures.shape c.make.ensures.values (λ a q v. full_of-lessened c.args.scales.now c.args.b.now a q v (value_at j a q)) c.free_e_in.new.e
    c.free_e_in.ensures.values

pub returns-clause-stop : goal.returns-clause-stop
returns-clause-stop c =
    let j = c.args.j.now in
    c.free_e_in.ensures.stop
    ∙ ap (λ (o : Option Stop). unless o tt)
    (stop_changed c.args.scales.now c.args.b.now no_drive (value_at j) (λ a q v. v -ℤ value_at j a q) c.args.e.now c.make.new.to c.requires.among
    c.make.ensures.shape c.make.ensures.values (λ a q v. full_of-lessened c.args.scales.now c.args.b.now a q v (value_at j a q)))
