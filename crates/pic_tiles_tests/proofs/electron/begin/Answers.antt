use Rattle.std.proofs.Common.{ℕ, [], ◌∷◌, refl, sym, subst, arith}
use Rattle.pic_num.specs.Space.{Triple, triple}
use Rattle.pic_grid.specs.Hat.{IsInBox}
use Rattle.pic_core.proofs.StartLaws.{opening_one}
use Rattle.pic_tiles_tests.proofs.electron.begin.Goals as goal

pub new-requires : goal.new-requires
new-requires c =
    let m = c.eight_tiles-map.result in
    let inside : IsInBox 4096 (record { x = 4; y = 4; z = 4 }) (triple (100 ∷ 0 ∷ 0 ∷ [])) =
    record { x = omega arith; y = omega arith; z = omega arith } in
    opening_one c.in_ok-frame.frame m _ c.in_ok-tiles.tiles.items c.sound.ensures c.in_ok-frame.ensures.map c.in_ok-tiles.ensures refl
    (omega (arith, c.in_ok-frame.ensures.kinds))
    (subst (λ (n : Triple). IsInBox m.side n (triple (100 ∷ 0 ∷ 0 ∷ []))) (sym c.eight_tiles-map.ensures.cells)
    (subst (λ (side : ℕ). IsInBox side (record { x = 4; y = 4; z = 4 }) (triple (100 ∷ 0 ∷ 0 ∷ []))) (sym c.eight_tiles-map.ensures.side) inside))
