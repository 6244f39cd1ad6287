use Rattle.std.proofs.Common.{◌≡◌, None, ◌++◌, List, length, take, drop, refl, sym, ◌∙◌, ap, subst}
use Rattle.pic_num.specs.Space.{Triple, triple}
use Rattle.pic_block.specs.Block.{BlockValues}
use Rattle.pic_block.specs.Cells.{IsCells}
use Rattle.pic_grid.specs.declared.stop.Phase.TheVariants.{Half1}
use Rattle.pic_grid.specs.Gather.{force_of}
use Rattle.pic_grid.specs.Lattice.{IsParts}
use Rattle.pic_grid.specs.Parts.{ArePartsOf, joined, origin}
use Rattle.pic_field.specs.FieldPhases.{least_fault}
use Rattle.pic_advance.specs.Blocks.{EachBlock, IsMade}
use Rattle.pic_advance.specs.Halves.{CanHalve, AreHalved}
use Rattle.pic_advance.specs.Pairs.{AllPairs}
use Rattle.pic_advance.proofs.HalvesLaws.{halves_share, half_all, twice_all, all_can_halve, first_is, second_is, twice_made, forces_made}
use Rattle.pic_advance.proofs.HalvesLaws.{between_forced, second_answer}
use Rattle.pic_advance.proofs.TakenLaws.{HasBlocks, IsGrid, has_blocks, given_back, made_zones, made_is}
use Rattle.pic_advance.proofs.half_steps.advance_b.Given.{Over}
use Rattle.pic_advance.proofs.half_steps.advance_b.Goals as goal
use Rattle.pic_advance.proofs.half_steps.advance_b.Goals.{After-deref_mut-2, After-each_share-first}

-- the blocks of B, and those beside them
have : (g : Over) (c : After-deref_mut-2 g) → HasBlocks c.args.e.now.cells c.args.b c.into_blocks-blocks.result.items
have g c =
    let taken = c.into_blocks-blocks in
    has_blocks c.args.e.now.cells c.args.b taken.result.items c.requires.cells (subst IsCells c.cells-cells.ensures.value c.useful-workers.ensures.cells)
    c.parts-parts.ensures.limits taken.ensures.zones taken.ensures.values

have_beside : (g : Over) (c : After-deref_mut-2 g) → HasBlocks c.args.e.now.cells c.args.force c.into_blocks-beside.result.items
have_beside g c =
    let taken = c.into_blocks-beside in
    let cells = c.requires.cells ∙ sym c.requires.force_cells in
    let parts : IsParts c.args.force.cells c.args.force.parts =
    subst (λ (n : Triple). IsParts n c.args.force.parts) cells
    (subst (λ (p : Triple). IsParts c.args.b.cells p) (sym c.requires.parts) c.parts-parts.ensures.limits) in
    has_blocks c.args.e.now.cells c.args.force taken.result.items c.requires.force_cells
    (subst IsCells c.cells-cells.ensures.value c.useful-workers.ensures.cells) parts taken.ensures.zones taken.ensures.values

-- what has become of them
halved : (g : Over) (c : After-each_share-first g)
    → AreHalved c.args.scales.now c.args.e.now c.into_blocks-blocks.result.items c.into_blocks-beside.result.items
    c.each_share-first.new.items c.each_share-first.new.beside c.each_share-first.result
halved g c =
    let scales = c.args.scales.now in
    let e = c.args.e.now in
    let new = c.each_share-first.new in
    subst (λ (fs : List BlockValues). AreHalved scales e c.into_blocks-blocks.result.items fs new.items new.beside c.each_share-first.result)
    c.deref_mut-2.ensures.value
    (subst (λ (bs : List BlockValues). AreHalved scales e bs c.deref_mut-2.result.now new.items new.beside c.each_share-first.result) c.deref_mut.ensures.value
    c.each_share-first.ensures)

pub each_share-first-requires-clause-shared : goal.each_share-first-requires-clause-shared
each_share-first-requires-clause-shared g c κs within = halves_share c.args.scales.now c.args.e.now

pub each_share-first-requires-clause-can : goal.each_share-first-requires-clause-can
each_share-first-requires-clause-can g c κs within =
    let n = c.args.e.now.cells in
    let at = (goal.at.each_share-first-requires-clause-can g c).After-deref_mut-2 in
    let bs = c.into_blocks-blocks.result.items in
    let fs = c.into_blocks-beside.result.items in (
      c.requires.e_small,
      subst (λ (xs : List BlockValues). AllPairs (CanHalve n) c.deref_mut.result.now xs) (sym c.deref_mut-2.ensures.value)
          (subst (λ (xs : List BlockValues). AllPairs (CanHalve n) xs fs) (sym c.deref_mut.ensures.value)
          (all_can_halve c.args.scales.now c.args.e.now n c.args.b c.args.force bs fs (have g at) (have_beside g at) c.requires.parts
          c.requires.b_small c.requires.cells)),
    )

-- B after both, and the force values between them, in blocks
made : (g : Over) (c : After-each_share-first g) → c.each_share-first.result.0 ≡ None
    → EachBlock (IsMade (twice_all c.args.scales.now c.args.e.now c.args.b)) c.into_blocks-blocks.result.items c.each_share-first.new.items
made g c none =
    let at = c.before in
    twice_made c.args.scales.now c.args.e.now c.args.e.now.cells c.args.b c.args.force c.into_blocks-blocks.result.items c.into_blocks-beside.result.items
    (have g at) (have_beside g at) c.requires.parts c.each_share-first.new.items c.each_share-first.new.beside c.each_share-first.result
    (halved g c) none

forces : (g : Over) (c : After-each_share-first g) → c.each_share-first.result.0 ≡ None
    → EachBlock (IsMade (force_of c.args.scales.now.b_force (half_all c.args.scales.now c.args.e.now c.args.b))) c.into_blocks-blocks.result.items
    c.each_share-first.new.beside
forces g c none =
    let at = c.before in
    forces_made c.args.scales.now c.args.e.now c.args.e.now.cells c.args.b c.args.force c.into_blocks-blocks.result.items c.into_blocks-beside.result.items
    (have g at) (have_beside g at) c.requires.parts c.each_share-first.new.items c.each_share-first.new.beside c.each_share-first.result
    (halved g c) none

made_items : (g : Over) (c : After-each_share-first g) → take c.into_blocks-blocks.result.len (c.each_share-first.new.items
    ++ drop (length c.each_share-first.new.items) c.into_blocks-blocks.result.items)
    ≡ c.each_share-first.new.items
made_items g c =
    let taken = c.into_blocks-blocks in
    given_back taken.result.len c.each_share-first.new.items taken.result.items taken.result.ok.0 (halved g c).pairs.long

beside_items : (g : Over) (c : After-each_share-first g) → take c.into_blocks-beside.result.len (c.each_share-first.new.beside
    ++ drop (length c.each_share-first.new.beside) c.into_blocks-beside.result.items)
    ≡ c.each_share-first.new.beside
beside_items g c =
    let taken = c.into_blocks-beside in
    given_back taken.result.len c.each_share-first.new.beside taken.result.items taken.result.ok.0 (halved g c).pairs.beside

pub of_blocks-requires-clause-zones : goal.of_blocks-requires-clause-zones
of_blocks-requires-clause-zones g c =
    let at = goal.at.of_blocks-requires-clause-zones g c in
    subst (λ bs. ArePartsOf c.cells-cells.result.n (triple c.parts-parts.result) bs) (sym (made_items g at.After-each_share-first))
    (made_zones c.args.e.now.cells c.args.b c.into_blocks-blocks.result.items (have g at.After-deref_mut-2) c.each_share-first.new.items
    (twice_all c.args.scales.now c.args.e.now c.args.b) (made g at.After-each_share-first c.in-None.is) c.cells-cells.result (triple c.parts-parts.result)
    c.cells-cells.ensures.value c.parts-parts.ensures.value)

pub of_blocks-requires-in-None-clause-zones : goal.of_blocks-requires-in-None-clause-zones
of_blocks-requires-in-None-clause-zones g c =
    let at = goal.at.of_blocks-requires-in-None-clause-zones g c in
    subst (λ bs. ArePartsOf c.cells-cells.result.n (triple c.parts-parts.result) bs) (sym (beside_items g at.After-each_share-first))
    (made_zones c.args.e.now.cells c.args.b c.into_blocks-blocks.result.items (have g at.After-deref_mut-2) c.each_share-first.new.beside
    (force_of c.args.scales.now.b_force (half_all c.args.scales.now c.args.e.now c.args.b)) (forces g at.After-each_share-first c.in-None.is)
    c.cells-cells.result
    (triple c.parts-parts.result) c.cells-cells.ensures.value c.parts-parts.ensures.value)

-- the first stop of the blocks is that of all cells
first_stop_is : (g : Over) (c : After-each_share-first g)
    → c.each_share-first.result.0
    ≡ least_fault Half1 c.args.scales.now.b_force origin c.args.e.now.cells (half_all c.args.scales.now c.args.e.now c.args.b)
first_stop_is g c =
    let at = c.before in
    first_is c.args.scales.now c.args.e.now c.args.e.now.cells c.args.b c.args.force c.into_blocks-blocks.result.items
    c.into_blocks-beside.result.items (have g at) (have_beside g at) c.requires.parts c.each_share-first.new.items c.each_share-first.new.beside
    c.each_share-first.result (halved g c)

pub returns-in-None : goal.returns-in-None
returns-in-None g c =
    let scales = c.args.scales.now in
    let e = c.args.e.now in
    let b = c.args.b in
    let at = goal.at.returns-in-None g c in
    let bs = c.into_blocks-blocks.result.items in
    let h = have g at.After-deref_mut-2 in
    let new = c.each_share-first.new in
    let grid : IsGrid e.cells e.side c.cells-cells.result = record { cells = c.cells-cells.ensures.value; side_is = c.cells-cells.ensures.side } in
    let after = made_is e.cells b bs h new.items (twice_all scales e b) (made g at.After-each_share-first c.in-None.is)
    c.cells-cells.result e.side (triple c.parts-parts.result) c.of_blocks.result grid c.parts-parts.ensures.value
    (c.of_blocks.ensures ∙ ap (λ (xs : List BlockValues). joined c.cells-cells.result (triple c.parts-parts.result) xs)
    (made_items g at.After-each_share-first)) in
    let force = made_is e.cells b bs h new.beside (force_of scales.b_force (half_all scales e b)) (forces g at.After-each_share-first c.in-None.is)
    c.cells-cells.result e.side (triple c.parts-parts.result) c.of_blocks-in-None.result grid c.parts-parts.ensures.value
    (c.of_blocks-in-None.ensures ∙ ap (λ (xs : List BlockValues). joined c.cells-cells.result (triple c.parts-parts.result) xs)
    (beside_items g at.After-each_share-first)) in
    let second = second_is scales e e.cells b c.args.force bs c.into_blocks-beside.result.items h (have_beside g at.After-deref_mut-2) c.requires.parts
    new.items new.beside c.each_share-first.result (halved g at.After-each_share-first) c.in-None.is in (
      (refl, sym (first_stop_is g at.After-each_share-first) ∙ c.in-None.is),
      between_forced scales e b c.of_blocks-in-None.result force,
      second_answer scales e b c.of_blocks.result c.each_share-first.result.1 after second,
    )

pub returns-in-Some : goal.returns-in-Some
returns-in-Some g c = sym (first_stop_is g (goal.at.returns-in-Some g c).After-each_share-first) ∙ c.in-Some.is
