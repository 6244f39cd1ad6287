-- The differences of Yee's staggered grid (K. S. Yee, IEEE Trans. Antennas Propag. 14, 1966, 302),
-- over fields given as functions of axis and cell, on a periodic grid of n cells.
use Rattle.std.specs.Prelude.{◌≡◌, ℤ, pos, ◌+◌, ◌-◌, ◌%◌, ◌+ℤ◌, ◌-ℤ◌}
use Rattle.pic_num.specs.declared.axis.Axis.{Axis}
use Rattle.pic_num.specs.declared.axis.Axis.TheVariants.{X, Y, Z}
use Rattle.pic_num.specs.Space.{Triple, next_axis}

-- the next cell up an axis, modulo the cells
abbrev pub up : Triple → Axis → Triple → Triple
up n X p = record p { x = (p.x + 1) % n.x }
up n Y p = record p { y = (p.y + 1) % n.y }
up n Z p = record p { z = (p.z + 1) % n.z }

-- the next cell down an axis, modulo the cells
abbrev pub down : Triple → Axis → Triple → Triple
down n X p = record p { x = (p.x + (n.x - 1)) % n.x }
down n Y p = record p { y = (p.y + (n.y - 1)) % n.y }
down n Z p = record p { z = (p.z + (n.z - 1)) % n.z }

-- the curl of B, at the places of E: along x it is
-- Bz(i,j,k) - Bz(i,j-1,k) - By(i,j,k) + By(i,j,k-1), and cyclically
abbrev pub curl_b : Triple → (Axis → Triple → ℤ) → Axis → Triple → ℤ
curl_b n b a p =
    let second = next_axis a in
    let third = next_axis second in
    b third p -ℤ b third (down n second p) -ℤ b second p +ℤ b second (down n third p)

-- the curl of E, at the places of B: along x it is
-- Ez(i,j+1,k) - Ez(i,j,k) - Ey(i,j,k+1) + Ey(i,j,k), and cyclically
abbrev pub curl_e : Triple → (Axis → Triple → ℤ) → Axis → Triple → ℤ
curl_e n e a p =
    let second = next_axis a in
    let third = next_axis second in
    e third (up n second p) -ℤ e third p -ℤ e second (up n third p) +ℤ e second p

-- the divergence of E at a node: what leaves it less what comes in, over the three axes
abbrev pub div_e : Triple → (Axis → Triple → ℤ) → Triple → ℤ
div_e n e p = e X p -ℤ e X (down n X p) +ℤ e Y p -ℤ e Y (down n Y p) +ℤ e Z p -ℤ e Z (down n Z p)

-- the divergence of B in a cell, over the three axes
abbrev pub div_b : Triple → (Axis → Triple → ℤ) → Triple → ℤ
div_b n b p = b X (up n X p) -ℤ b X p +ℤ b Y (up n Y p) -ℤ b Y p +ℤ b Z (up n Z p) -ℤ b Z p

-- the divergence of a curl of E is 0 in every cell
abbrev pub CurlOfEHasNoDivergence : Type 0
CurlOfEHasNoDivergence = (n : Triple) (e : Axis → Triple → ℤ) (p : Triple) → div_b n (curl_e n e) p ≡ pos 0

-- the divergence of a curl of B is 0 at every node
abbrev pub CurlOfBHasNoDivergence : Type 0
CurlOfBHasNoDivergence = (n : Triple) (b : Axis → Triple → ℤ) (p : Triple) → div_e n (curl_b n b) p ≡ pos 0
