use Rattle.std.proofs.Common.{◌≡◌, get_or, refl, sym, ap, ◌∙◌, subst, rules}
use Rattle.std.proofs.lemmas.Int.{to_z-of_z}
use mir.Syntax.{w128}
use Rattle.std.proofs.lemmas.List.Elements.{All-nil}
use Rattle.pic_num.specs.Space.{Triple, triple}
use Rattle.pic_block.specs.Cells.{IsWithin}
use Rattle.pic_grid.specs.Lattice.{Field}
use Rattle.pic_step.specs.Shown.{HaveSameAt}
use Rattle.pic_step.proofs.LookLaws.{no_place, place_more, shape_kept}
use Rattle.pic_step.proofs.looking.copy_places.Goals as goal

pub loop-place-init : goal.loop-place-init
loop-place-init c = record { same = All-nil (HaveSameAt c.args.to.now c.args.from.now); shape = refl }

pub set-requires : goal.set-requires
set-requires c =
    let cells : c.loop-place.to.cells ≡ c.args.from.now.cells = ap (λ (f : Field). f.cells) c.loop-place.invariant.shape ∙ c.requires.cells in
    let place = get_or c.args.places.now c.loop-place.place-index no_place in
    subst (λ (n : Triple). IsWithin (triple place.cell) n) (sym cells) (c.requires.places c.loop-place.place-index no_place c.loop-place-test.true).within

pub loop-place-preserved : goal.loop-place-preserved
loop-place-preserved c =
    let inv = c.loop-place.invariant in
    let place = get_or c.args.places.now c.loop-place.place-index no_place in
    let cells : c.loop-place.to.cells ≡ c.args.from.now.cells = ap (λ (f : Field). f.cells) inv.shape ∙ c.requires.cells in
    let fits = to_z-of_z w128 c.at-value.result (search rules) in
    record {
      same = place_more c.loop-place.to c.args.from.now c.set.new.self c.args.places.now c.loop-place.place-index no_place _ c.loop-place-test.true cells
          (fits ∙ c.at-value.ensures) c.set.ensures.after c.set.ensures.stored inv.same;
      shape = shape_kept c.args.to.now c.loop-place.to c.set.new.self place.axis (triple place.cell) _ c.set.ensures.after inv.shape;
    }
