-- The differences of the staggered grid, written out on each axis and computed on worked rows.
use Rattle.std.specs.Prelude.{◌≡◌, ℤ, pos, negsuc, ℕ, ◌+◌, ◌-◌, ◌%◌, ◌+ℤ◌, ◌-ℤ◌, [], ◌∷◌, map, refl, if◌then◌else◌, ◌==◌, ◌&&◌}
use Rattle.pic_num.specs.declared.axis.Axis.{Axis}
use Rattle.pic_num.specs.declared.axis.Axis.TheVariants.{X, Y, Z}
use Rattle.pic_num.specs.Rounding.{rounded, scaled}
use Rattle.pic_num.specs.Space.{Triple, axis_number}
use Rattle.pic_grid.specs.Differences.{curl_b, curl_e, div_b, div_e}
use Rattle.pic_grid.specs.Gather.{force_of}

abbrev cell : ℕ → ℕ → ℕ → Triple
cell x y z = record { x = x; y = y; z = z }

-- a field by its three components
abbrev field : (Triple → ℤ) → (Triple → ℤ) → (Triple → ℤ) → Axis → Triple → ℤ
field x y z X p = x p
field x y z Y p = y p
field x y z Z p = z p

module _ (n : Triple) (fx fy fz : Triple → ℤ) (i j k : ℕ) where
  curl_b_along_x : curl_b n (field fx fy fz) X (cell i j k)
      ≡ fz (cell i j k) -ℤ fz (cell i ((j + (n.y - 1)) % n.y) k) -ℤ fy (cell i j k) +ℤ fy (cell i j ((k + (n.z - 1)) % n.z))
  curl_b_along_x = refl

  curl_b_along_y : curl_b n (field fx fy fz) Y (cell i j k)
      ≡ fx (cell i j k) -ℤ fx (cell i j ((k + (n.z - 1)) % n.z)) -ℤ fz (cell i j k) +ℤ fz (cell ((i + (n.x - 1)) % n.x) j k)
  curl_b_along_y = refl

  curl_b_along_z : curl_b n (field fx fy fz) Z (cell i j k)
      ≡ fy (cell i j k) -ℤ fy (cell ((i + (n.x - 1)) % n.x) j k) -ℤ fx (cell i j k) +ℤ fx (cell i ((j + (n.y - 1)) % n.y) k)
  curl_b_along_z = refl

  curl_e_along_x : curl_e n (field fx fy fz) X (cell i j k)
      ≡ fz (cell i ((j + 1) % n.y) k) -ℤ fz (cell i j k) -ℤ fy (cell i j ((k + 1) % n.z)) +ℤ fy (cell i j k)
  curl_e_along_x = refl

  curl_e_along_y : curl_e n (field fx fy fz) Y (cell i j k)
      ≡ fx (cell i j ((k + 1) % n.z)) -ℤ fx (cell i j k) -ℤ fz (cell ((i + 1) % n.x) j k) +ℤ fz (cell i j k)
  curl_e_along_y = refl

  curl_e_along_z : curl_e n (field fx fy fz) Z (cell i j k)
      ≡ fy (cell ((i + 1) % n.x) j k) -ℤ fy (cell i j k) -ℤ fx (cell i ((j + 1) % n.y) k) +ℤ fx (cell i j k)
  curl_e_along_z = refl

  div_e_is : div_e n (field fx fy fz) (cell i j k)
      ≡ fx (cell i j k) -ℤ fx (cell ((i + (n.x - 1)) % n.x) j k) +ℤ fy (cell i j k) -ℤ fy (cell i ((j + (n.y - 1)) % n.y) k)
      +ℤ fz (cell i j k) -ℤ fz (cell i j ((k + (n.z - 1)) % n.z))
  div_e_is = refl

  div_b_is : div_b n (field fx fy fz) (cell i j k)
      ≡ fx (cell ((i + 1) % n.x) j k) -ℤ fx (cell i j k) +ℤ fy (cell i ((j + 1) % n.y) k) -ℤ fy (cell i j k)
      +ℤ fz (cell i j ((k + 1) % n.z)) -ℤ fz (cell i j k)
  div_b_is = refl

-- a field with one value, 8, at the component `axis` of the cell (0, 0, 0)
abbrev lone : Axis → Axis → Triple → ℤ
lone axis a p = if axis_number a == axis_number axis && (p.x == 0 && (p.y == 0 && p.z == 0)) then pos 8 else pos 0

-- a lone value of B, halved, turns E round its place
lone_bz_turns_e : map (curl_b (cell 4 4 4) (force_of (record { n = pos 1; k = 1 }) (lone Z)) X) (cell 0 0 0 ∷ cell 0 1 0 ∷ cell 0 2 0 ∷ cell 0 3 0 ∷ [])
    ≡ pos 4 ∷ negsuc 3 ∷ pos 0 ∷ pos 0 ∷ []
unfolding scaled rounded
lone_bz_turns_e = refl

lone_bz_turns_ey : map (curl_b (cell 4 4 4) (force_of (record { n = pos 1; k = 1 }) (lone Z)) Y) (cell 0 0 0 ∷ cell 1 0 0 ∷ cell 2 0 0 ∷ cell 3 0 0 ∷ [])
    ≡ negsuc 3 ∷ pos 4 ∷ pos 0 ∷ pos 0 ∷ []
unfolding scaled rounded
lone_bz_turns_ey = refl

lone_ez_turns_bx : map (curl_e (cell 4 4 4) (lone Z) X) (cell 0 0 0 ∷ cell 0 1 0 ∷ cell 0 2 0 ∷ cell 0 3 0 ∷ [])
    ≡ negsuc 7 ∷ pos 0 ∷ pos 0 ∷ pos 8 ∷ []
lone_ez_turns_bx = refl

lone_ex_leaves_its_node : map (div_e (cell 4 4 4) (lone X)) (cell 0 0 0 ∷ cell 1 0 0 ∷ cell 2 0 0 ∷ cell 3 0 0 ∷ [])
    ≡ pos 8 ∷ negsuc 7 ∷ pos 0 ∷ pos 0 ∷ []
lone_ex_leaves_its_node = refl

lone_bx_enters_its_cell : map (div_b (cell 4 4 4) (lone X)) (cell 0 0 0 ∷ cell 1 0 0 ∷ cell 2 0 0 ∷ cell 3 0 0 ∷ [])
    ≡ negsuc 7 ∷ pos 0 ∷ pos 0 ∷ pos 8 ∷ []
lone_bx_enters_its_cell = refl
