use Rattle.std.proofs.Common.{◌≡◌, ◌+◌, ◌-◌, ◌<◌, ◌≤◌, Bool, ℕ, ℤ, List, length, unsigned_abs, sym, ◌∙◌, ap, subst, arith}
use Rattle.pic_num.specs.declared.axis.Axis.{Axis}
use Rattle.pic_num.specs.declared.axis.Axis.TheVariants.{X, Y, Z}
use Rattle.pic_num.specs.Space.{Triple}
use Rattle.pic_block.specs.Cells.{IsWithin}
use Rattle.pic_block.specs.Block.{inner_at}
use Rattle.pic_field.specs.declared.row.CurlRows.{CurlRows}
use Rattle.pic_field.specs.Beside.{first_index, layer_beside, row_room}
use Rattle.pic_field.specs.Lines.{OnRow}
use Rattle.pic_field.specs.Rows.{most_row, row_at, read_by, IsScaledRow, IsValueRow}
use Rattle.pic_field.specs.Sweeps.{sweep_cells, made, AreRowsOf}
use Rattle.pic_field.proofs.BesideLaws.{first_most}
use Rattle.pic_field.proofs.CurlLaws.{AreRead, own_part, side_part, row_swept}
use Rattle.pic_field.proofs.LineLaws.{changed_as, line_changed, line_calm, row_of_line, row_kept}
use Rattle.pic_field.proofs.RowLaws.{value_row}
use Rattle.pic_field.proofs.sweep.sweep_line.Goals as goal
use Rattle.pic_field.proofs.sweep.sweep_line.Goals.{After-first_of-near}

-- the first cell of the line on the grid
abbrev at_x : After-first_of-near → ℕ
at_x c = unsigned_abs c.args.b.now.low.x

abbrev at_y : After-first_of-near → ℕ
at_y c = unsigned_abs c.args.b.now.low.y + c.args.y

abbrev at_z : After-first_of-near → ℕ
at_z c = unsigned_abs c.args.b.now.low.z + c.args.z

abbrev up : After-first_of-near → Bool
up c = c.args.step.now.up

abbrev grid : After-first_of-near → Triple
grid c = sweep_cells c.args.step.now

-- and those beside it
abbrev beside_y : After-first_of-near → ℕ
beside_y c = layer_beside (up c) (grid c).y (at_y c)

abbrev beside_z : After-first_of-near → ℕ
beside_z c = layer_beside (up c) (grid c).z (at_z c)

-- how many cells the line has
same : (c : After-first_of-near) → c.line_length-count.result ≡ c.args.b.now.size.x
same c = c.line_length-count.ensures.value ∙ ap (λ (n : Triple). n.x) c.zone.ensures.size

-- so many values of its rows
known : (c : After-first_of-near) → AreRowsOf c.args.step.now c.args.b.now.low c.args.y c.args.z c.line_length-count.result
    c.args.lines.now.own.now c.args.lines.now.by_y.now c.args.lines.now.by_z.now
known c =
    subst (λ (m : ℕ). AreRowsOf c.args.step.now c.args.b.now.low c.args.y c.args.z m
    c.args.lines.now.own.now c.args.lines.now.by_y.now c.args.lines.now.by_z.now) (sym (same c)) c.requires.rows

-- a part of a row has the values at the cells of its line,
own : (c : After-first_of-near) (a : Axis) (y z first past : ℕ) (row part : List ℤ)
    → IsScaledRow (grid c) (read_by c.args.step.now.from) a (row_room (up c) (grid c) (record { x = at_x c + 0; y = y; z = z })) first past row
    → first ≤ first_index (up c) → first_index (up c) + c.line_length-count.result ≤ past
    → ((i : ℕ) → i < c.line_length-count.result → row_at part i ≡ row_at row (c.first_of-near.result + i))
    → (i : ℕ) → i < c.args.b.now.size.x → row_at part i ≡ read_by c.args.step.now.from a (record { x = at_x c + i; y = y; z = z })
own c a y z first past row part is from to values i below =
    own_part (up c) (grid c) (read_by c.args.step.now.from) (at_x c) c.line_length-count.result y z (omega (arith, c.requires.among.x_high, same c))
    a first past row is part c.first_of-near.result c.first_of-near.ensures.value from to values i (omega (arith, below, same c))

-- or beside them
side : (c : After-first_of-near) (a : Axis) (y z : ℕ) (row part : List ℤ)
    → IsScaledRow (grid c) (read_by c.args.step.now.from) a (row_room (up c) (grid c) (record { x = at_x c + 0; y = y; z = z })) 0
    (c.line_length-count.result + 1) row
    → ((i : ℕ) → i < c.line_length-count.result → row_at part i ≡ row_at row (1 - c.first_of-near.result + i))
    → (i : ℕ) → i < c.args.b.now.size.x
    → row_at part i ≡ read_by c.args.step.now.from a (record { x = layer_beside (up c) (grid c).x (at_x c + i); y = y; z = z })
side c a y z row part is values i below =
    side_part (up c) (grid c) (read_by c.args.step.now.from) (at_x c) c.line_length-count.result y z (omega (arith, c.requires.among.x_high, same c))
    a 0 (c.line_length-count.result + 1) row is part c.first_of-near.result c.first_of-near.ensures.value (omega arith) (omega arith) values i
    (omega (arith, below, same c))

-- so many of its values are a row of a curl
first_row : (c : After-first_of-near) (a : Axis) (p : Triple) (size : ℕ) (row part : List ℤ)
    → IsScaledRow (grid c) (read_by c.args.step.now.from) a p (first_index (up c)) (first_index (up c) + c.line_length-count.result) row
    → c.line_length-count.result ≡ size → length part ≡ c.line_length-count.result
    → ((i : ℕ) → i < c.line_length-count.result → row_at part i ≡ row_at row (c.first_of-near.result + i)) → IsValueRow most_row size part
first_row c a p size row part is same long values =
    let near = c.first_of-near.ensures.value in
    value_row (grid c) (read_by c.args.step.now.from) a p (first_index (up c)) (first_index (up c) + c.line_length-count.result)
    c.first_of-near.result c.line_length-count.result size row part is (omega (arith, near)) (omega (arith, near)) same long values

edge_row : (c : After-first_of-near) (a : Axis) (p : Triple) (at size : ℕ) (row part : List ℤ) → at ≤ 1
    → IsScaledRow (grid c) (read_by c.args.step.now.from) a p 0 (c.line_length-count.result + 1) row
    → c.line_length-count.result ≡ size → length part ≡ c.line_length-count.result
    → ((i : ℕ) → i < c.line_length-count.result → row_at part i ≡ row_at row (at + i)) → IsValueRow most_row size part
edge_row c a p at size row part most is same long values =
    value_row (grid c) (read_by c.args.step.now.from) a p 0 (c.line_length-count.result + 1) at c.line_length-count.result size row part is (omega arith)
    (omega (arith, most)) same long values

pub sweep_row-calm_x-requires-clause-four : goal.sweep_row-calm_x-requires-clause-four
sweep_row-calm_x-requires-clause-four c =
    let at = (goal.at.sweep_row-calm_x-requires-clause-four c).After-first_of-near in
    let k = known at in
    let size = same at in
    let near = c.first_of-near.result in
    let own_line = c.args.lines.now.own.now in
    let most : near ≤ 1 = c.first_of-near.ensures.most in
    record {
      far_third = first_row at Z _ _ c.args.lines.now.by_y.now.z c.part.result.now k.in_y.z size c.part.ensures.length c.part.ensures.values;
      near_third = edge_row at Z _ near _ own_line.z c.part-2.result.now most k.here.z size c.part-2.ensures.length c.part-2.ensures.values;
      far_second = first_row at Y _ _ c.args.lines.now.by_z.now.y c.part-3.result.now k.in_z.y size c.part-3.ensures.length c.part-3.ensures.values;
      near_second = edge_row at Y _ near _ own_line.y c.part-4.result.now most k.here.y size c.part-4.ensures.length c.part-4.ensures.values;
    }

pub sweep_row-calm_y-requires-clause-four : goal.sweep_row-calm_y-requires-clause-four
sweep_row-calm_y-requires-clause-four c =
    let at = (goal.at.sweep_row-calm_y-requires-clause-four c).After-first_of-near in
    let k = known at in
    let size = same at ∙ ap (λ (n : Triple). n.x) (sym c.sweep_row-calm_x.ensures.changed.shaped.size) in
    let near = c.first_of-near.result in
    let own_line = c.args.lines.now.own.now in
    let most : near ≤ 1 = c.first_of-near.ensures.most in
    let far : 1 - near ≤ 1 = omega arith in
    record {
      far_third = first_row at X _ _ c.args.lines.now.by_z.now.x c.part-5.result.now k.in_z.x size c.part-5.ensures.length c.part-5.ensures.values;
      near_third = first_row at X _ _ own_line.x c.part-6.result.now k.here.x size c.part-6.ensures.length c.part-6.ensures.values;
      far_second = edge_row at Z _ (1 - near) _ own_line.z c.part-7.result.now far k.here.z size c.part-7.ensures.length c.part-7.ensures.values;
      near_second = edge_row at Z _ near _ own_line.z c.part-8.result.now most k.here.z size c.part-8.ensures.length c.part-8.ensures.values;
    }

pub sweep_row-calm_z-requires-clause-four : goal.sweep_row-calm_z-requires-clause-four
sweep_row-calm_z-requires-clause-four c =
    let at = (goal.at.sweep_row-calm_z-requires-clause-four c).After-first_of-near in
    let k = known at in
    let size = same at ∙ ap (λ (n : Triple). n.x) (sym (c.sweep_row-calm_y.ensures.changed.shaped.size ∙ c.sweep_row-calm_x.ensures.changed.shaped.size)) in
    let near = c.first_of-near.result in
    let own_line = c.args.lines.now.own.now in
    let most : near ≤ 1 = c.first_of-near.ensures.most in
    let far : 1 - near ≤ 1 = omega arith in
    record {
      far_third = edge_row at Y _ (1 - near) _ own_line.y c.part-9.result.now far k.here.y size c.part-9.ensures.length c.part-9.ensures.values;
      near_third = edge_row at Y _ near _ own_line.y c.part-10.result.now most k.here.y size c.part-10.ensures.length c.part-10.ensures.values;
      far_second = first_row at X _ _ c.args.lines.now.by_y.now.x c.part-11.result.now k.in_y.x size c.part-11.ensures.length c.part-11.ensures.values;
      near_second = first_row at X _ _ own_line.x c.part-12.result.now k.here.x size c.part-12.ensures.length c.part-12.ensures.values;
    }

pub sweep_row-calm_x-requires-clause-small : goal.sweep_row-calm_x-requires-clause-small
sweep_row-calm_x-requires-clause-small c = row_of_line _ X c.args.y c.args.z c.args.b.now c.requires.small

pub sweep_row-calm_y-requires-clause-small : goal.sweep_row-calm_y-requires-clause-small
sweep_row-calm_y-requires-clause-small c =
    row_kept _ _ X Y c.args.y c.args.z c.args.b.now c.sweep_row-calm_x.new.b (λ e. cc) c.sweep_row-calm_x.ensures.changed
    (row_of_line _ Y c.args.y c.args.z c.args.b.now c.requires.small)

pub sweep_row-calm_z-requires-clause-small : goal.sweep_row-calm_z-requires-clause-small
sweep_row-calm_z-requires-clause-small c =
    let first = row_kept _ _ X Z c.args.y c.args.z c.args.b.now c.sweep_row-calm_x.new.b (λ e. cc) c.sweep_row-calm_x.ensures.changed
    (row_of_line _ Z c.args.y c.args.z c.args.b.now c.requires.small) in
    row_kept _ _ Y Z c.args.y c.args.z c.sweep_row-calm_x.new.b c.sweep_row-calm_y.new.b (λ e. cc) c.sweep_row-calm_y.ensures.changed first

pub returns-clause-calm : goal.returns-clause-calm
returns-clause-calm c =
    line_calm c.args.step.now.most _ _ c.args.y c.args.z c.sweep_row-calm_x.new.b c.sweep_row-calm_y.new.b c.sweep_row-calm_z.new.b
    c.sweep_row-calm_x.result c.sweep_row-calm_y.result c.sweep_row-calm_z.result c.sweep_row-calm_y.ensures.changed c.sweep_row-calm_z.ensures.changed
    c.sweep_row-calm_x.ensures.calm c.sweep_row-calm_y.ensures.calm c.sweep_row-calm_z.ensures.calm

pub returns-clause-changed : goal.returns-clause-changed
returns-clause-changed c =
    let at = (goal.at.returns-clause-changed c).After-first_of-near in
    let k = known at in
    let step = c.args.step.now in
    let b = c.args.b.now in
    let y = c.args.y in
    let z = c.args.z in
    let n = sweep_cells step in
    let g = read_by step.from in
    let first = first_index step.up in
    let count = c.line_length-count.result in
    let own_line = c.args.lines.now.own.now in
    let by_y = c.args.lines.now.by_y.now in
    let by_z = c.args.lines.now.by_z.now in
    let least : 0 ≤ first = omega arith in
    let self : first ≤ first = omega arith in
    let whole : first + count ≤ first + count = omega arith in
    let most : first + count ≤ count + 1 = omega (arith, first_most step.up) in
    let one = c.sweep_row-calm_x.new.b in
    let two = c.sweep_row-calm_y.new.b in
    let three = c.sweep_row-calm_z.new.b in
    let on_x : CurlRows =
    record { far_third = c.part.result; near_third = c.part-2.result; far_second = c.part-3.result; near_second = c.part-4.result } in
    let on_y : CurlRows =
    record { far_third = c.part-5.result; near_third = c.part-6.result; far_second = c.part-7.result; near_second = c.part-8.result } in
    let on_z : CurlRows =
    record { far_third = c.part-9.result; near_third = c.part-10.result; far_second = c.part-11.result; near_second = c.part-12.result } in
    let read_x : AreRead step.up n g b.low y z b.size.x X on_x = record {
      far_third = own at Z (beside_y at) (at_z at) first (first + count) by_y.z c.part.result.now k.in_y.z self whole c.part.ensures.values;
      near_third = own at Z (at_y at) (at_z at) 0 (count + 1) own_line.z c.part-2.result.now k.here.z least most c.part-2.ensures.values;
      far_second = own at Y (at_y at) (beside_z at) first (first + count) by_z.y c.part-3.result.now k.in_z.y self whole c.part-3.ensures.values;
      near_second = own at Y (at_y at) (at_z at) 0 (count + 1) own_line.y c.part-4.result.now k.here.y least most c.part-4.ensures.values;
    } in
    let read_y : AreRead step.up n g b.low y z b.size.x Y on_y = record {
      far_third = own at X (at_y at) (beside_z at) first (first + count) by_z.x c.part-5.result.now k.in_z.x self whole c.part-5.ensures.values;
      near_third = own at X (at_y at) (at_z at) first (first + count) own_line.x c.part-6.result.now k.here.x self whole c.part-6.ensures.values;
      far_second = side at Z (at_y at) (at_z at) own_line.z c.part-7.result.now k.here.z c.part-7.ensures.values;
      near_second = own at Z (at_y at) (at_z at) 0 (count + 1) own_line.z c.part-8.result.now k.here.z least most c.part-8.ensures.values;
    } in
    let read_z : AreRead step.up n g b.low y z b.size.x Z on_z = record {
      far_third = side at Y (at_y at) (at_z at) own_line.y c.part-9.result.now k.here.y c.part-9.ensures.values;
      near_third = own at Y (at_y at) (at_z at) 0 (count + 1) own_line.y c.part-10.result.now k.here.y least most c.part-10.ensures.values;
      far_second = own at X (beside_y at) (at_z at) first (first + count) by_y.x c.part-11.result.now k.in_y.x self whole c.part-11.ensures.values;
      near_second = own at X (at_y at) (at_z at) first (first + count) own_line.x c.part-12.result.now k.here.x self whole c.part-12.ensures.values;
    } in
    let first = changed_as _ (made step b.low) (OnRow X y z) b one c.sweep_row-calm_x.ensures.changed (λ a p w on.
    row_swept step.up n g b.low b.size y z X on_x read_x a p w on (inner_at b a p)) in
    let second = changed_as _ (made step b.low) (OnRow Y y z) one two c.sweep_row-calm_y.ensures.changed (λ a p w on.
    row_swept step.up n g b.low b.size y z Y on_y read_y a p (subst (λ (m : Triple). IsWithin p m) first.shaped.size w) on (inner_at one a p)) in
    let third = changed_as _ (made step b.low) (OnRow Z y z) two three c.sweep_row-calm_z.ensures.changed (λ a p w on.
    row_swept step.up n g b.low b.size y z Z on_z read_z a p (subst (λ (m : Triple). IsWithin p m) (second.shaped.size ∙ first.shaped.size) w) on
    (inner_at two a p)) in
    line_changed (made step b.low) y z b one two three first second third
