use Rattle.std.proofs.Common.{◌≡◌, Result, IsErrAnd, OkIff, refl, ◌∙◌}
use Rattle.std.proofs.lemmas.Int.{to_z-of_z}
use Rattle.std.proofs.lemmas.Result.{err_from_is_err_and}
use mir.Syntax.{w64}
use Rattle.pic_walk.specs.declared.fault.WalkStop.{WalkStop}
use Rattle.pic_walk.proofs.WalkLaws.{goes_on, exits}
use Rattle.pic_settings.specs.Tiles.{tiles_fit, axis_fits}
use Rattle.pic_settings.proofs.TileLaws.{axis_tiled, tiled_size}
use Rattle.pic_settings.proofs.tiles.check_tiles.Goals as goal

-- a fault comes only where P doesn't hold
refused : (P : Type 0) (e : WalkStop) (r : Result (Unit {0}) WalkStop) → IsErrAnd r (λ y. y ≡ e) → (P → ⊥) → OkIff r P tt
refused P e r h not = let p = err_from_is_err_and r h in rw p.1 not

pub returns-in_err-check_axis_tiles-clause-walks : goal.returns-in_err-check_axis_tiles-clause-walks
unfolding tiles_fit axis_fits
returns-in_err-check_axis_tiles-clause-walks c =
    let x = to_z-of_z w64 c.from.result (record { sfits = c.from.type_inv }) ∙ c.from.ensures in
    exits _ _ c.from_residual.ensures.1 (rw (c.element.ensures.path, c.new-address.ensures.path, x) at c.in_err-check_axis_tiles.ensures.walks)

pub returns-in_err-check_axis_tiles-2-clause-walks : goal.returns-in_err-check_axis_tiles-2-clause-walks
unfolding tiles_fit axis_fits
returns-in_err-check_axis_tiles-2-clause-walks c =
    let x = to_z-of_z w64 c.from.result (record { sfits = c.from.type_inv }) ∙ c.from.ensures in
    let y = to_z-of_z w64 c.from-2.result (record { sfits = c.from-2.type_inv }) ∙ c.from-2.ensures in
    goes_on _ _ _ (rw (c.element.ensures.path, c.new-address.ensures.path, x) at c.in_ok-check_axis_tiles.ensures.walks.answer)
    (exits _ _ c.from_residual-in_err-check_axis_tiles-2.ensures.1
    (rw (c.element-2.ensures.path, c.new-address.ensures.path, y) at c.in_err-check_axis_tiles-2.ensures.walks))

pub returns-in_err-check_axis_tiles-3-clause-walks : goal.returns-in_err-check_axis_tiles-3-clause-walks
unfolding tiles_fit axis_fits
returns-in_err-check_axis_tiles-3-clause-walks c =
    let x = to_z-of_z w64 c.from.result (record { sfits = c.from.type_inv }) ∙ c.from.ensures in
    let y = to_z-of_z w64 c.from-2.result (record { sfits = c.from-2.type_inv }) ∙ c.from-2.ensures in
    let z = to_z-of_z w64 c.from-3.result (record { sfits = c.from-3.type_inv }) ∙ c.from-3.ensures in
    goes_on _ _ _ (rw (c.element.ensures.path, c.new-address.ensures.path, x) at c.in_ok-check_axis_tiles.ensures.walks.answer)
    (goes_on _ _ _ (rw (c.element-2.ensures.path, c.new-address.ensures.path, y) at c.in_ok-check_axis_tiles-2.ensures.walks.answer)
    (exits _ _ c.from_residual-in_err-check_axis_tiles-3.ensures.1
    (rw (c.element-3.ensures.path, c.new-address.ensures.path, z) at c.in_err-check_axis_tiles-3.ensures.walks)))

pub returns-in_err-check_axis_tiles-3-clause-exactly : goal.returns-in_err-check_axis_tiles-3-clause-exactly
returns-in_err-check_axis_tiles-3-clause-exactly c =
    let z = to_z-of_z w64 c.from-3.result (record { sfits = c.from-3.type_inv }) ∙ c.from-3.ensures in
    refused _ _ _ c.from_residual-in_err-check_axis_tiles-3.ensures.1 (λ are. c.in_err-check_axis_tiles-3.ensures.beyond _ z are.z)

pub check_few_tiles-requires : goal.check_few_tiles-requires
check_few_tiles-requires c =
    let x = to_z-of_z w64 c.from.result (record { sfits = c.from.type_inv }) ∙ c.from.ensures in
    let y = to_z-of_z w64 c.from-2.result (record { sfits = c.from-2.type_inv }) ∙ c.from-2.ensures in
    let z = to_z-of_z w64 c.from-3.result (record { sfits = c.from-3.type_inv }) ∙ c.from-3.ensures in
    let of_x = axis_tiled _ _ _ _ (rw (c.element.ensures.path, c.new-address.ensures.path, x) at c.in_ok-check_axis_tiles.ensures.walks.answer) in
    let of_y = axis_tiled _ _ _ _ (rw (c.element-2.ensures.path, c.new-address.ensures.path, y) at c.in_ok-check_axis_tiles-2.ensures.walks.answer) in
    let of_z = axis_tiled _ _ _ _ (rw (c.element-3.ensures.path, c.new-address.ensures.path, z) at c.in_ok-check_axis_tiles-3.ensures.walks.answer) in
    tiled_size _ _ c.requires of_x of_y of_z

pub returns-in_err-check_few_tiles-clause-walks : goal.returns-in_err-check_few_tiles-clause-walks
unfolding tiles_fit axis_fits
returns-in_err-check_few_tiles-clause-walks c =
    let x = to_z-of_z w64 c.from.result (record { sfits = c.from.type_inv }) ∙ c.from.ensures in
    let y = to_z-of_z w64 c.from-2.result (record { sfits = c.from-2.type_inv }) ∙ c.from-2.ensures in
    let z = to_z-of_z w64 c.from-3.result (record { sfits = c.from-3.type_inv }) ∙ c.from-3.ensures in
    goes_on _ _ _ (rw (c.element.ensures.path, c.new-address.ensures.path, x) at c.in_ok-check_axis_tiles.ensures.walks.answer)
    (goes_on _ _ _ (rw (c.element-2.ensures.path, c.new-address.ensures.path, y) at c.in_ok-check_axis_tiles-2.ensures.walks.answer)
    (goes_on _ _ _ (rw (c.element-3.ensures.path, c.new-address.ensures.path, z) at c.in_ok-check_axis_tiles-3.ensures.walks.answer)
    (exits _ _ c.from_residual-in_err-check_few_tiles.ensures.1 (rw c.new-address.ensures.path at c.in_err-check_few_tiles.ensures.walks))))

pub returns-clause-walks : goal.returns-clause-walks
unfolding tiles_fit axis_fits
returns-clause-walks c =
    let x = to_z-of_z w64 c.from.result (record { sfits = c.from.type_inv }) ∙ c.from.ensures in
    let y = to_z-of_z w64 c.from-2.result (record { sfits = c.from-2.type_inv }) ∙ c.from-2.ensures in
    let z = to_z-of_z w64 c.from-3.result (record { sfits = c.from-3.type_inv }) ∙ c.from-3.ensures in
    goes_on _ _ _ (rw (c.element.ensures.path, c.new-address.ensures.path, x) at c.in_ok-check_axis_tiles.ensures.walks.answer)
    (goes_on _ _ _ (rw (c.element-2.ensures.path, c.new-address.ensures.path, y) at c.in_ok-check_axis_tiles-2.ensures.walks.answer)
    (goes_on _ _ _ (rw (c.element-3.ensures.path, c.new-address.ensures.path, z) at c.in_ok-check_axis_tiles-3.ensures.walks.answer)
    (goes_on _ _ _ (rw c.new-address.ensures.path at c.in_ok-check_few_tiles.ensures.walks.answer) (record { answer = refl }))))

pub returns-clause-exactly : goal.returns-clause-exactly
returns-clause-exactly c =
    let x = to_z-of_z w64 c.from.result (record { sfits = c.from.type_inv }) ∙ c.from.ensures in
    let y = to_z-of_z w64 c.from-2.result (record { sfits = c.from-2.type_inv }) ∙ c.from-2.ensures in
    let z = to_z-of_z w64 c.from-3.result (record { sfits = c.from-3.type_inv }) ∙ c.from-3.ensures in
    let of_x = axis_tiled _ _ _ _ (rw (c.element.ensures.path, c.new-address.ensures.path, x) at c.in_ok-check_axis_tiles.ensures.walks.answer) in
    let of_y = axis_tiled _ _ _ _ (rw (c.element-2.ensures.path, c.new-address.ensures.path, y) at c.in_ok-check_axis_tiles-2.ensures.walks.answer) in
    let of_z = axis_tiled _ _ _ _ (rw (c.element-3.ensures.path, c.new-address.ensures.path, z) at c.in_ok-check_axis_tiles-3.ensures.walks.answer) in
    (record { x = of_x; y = of_y; z = of_z; most = c.in_ok-check_few_tiles.ensures.few }, refl)
