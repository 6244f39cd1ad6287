-- A curl reads beside each cell the next one up an axis, where `up` is true, or else the last one.
use Rattle.std.specs.Prelude.{ℕ, ℤ, ◌+◌, ◌-◌, ◌%◌, Bool, true, false}
use Rattle.pic_num.specs.declared.axis.Axis.{Axis}
use Rattle.pic_num.specs.declared.axis.Axis.TheVariants.{X, Y, Z}
use Rattle.pic_num.specs.Space.{Triple, next_axis}
use Rattle.pic_field.specs.Rows.{curl_of}

-- the layer beside x, of m periodic ones
abbrev pub layer_beside : Bool → ℕ → ℕ → ℕ
layer_beside true m x = (x + 1) % m
layer_beside false m x = (x + (m - 1)) % m

-- the cell beside p on an axis of a periodic grid
abbrev pub next_to : Bool → Triple → Axis → Triple → Triple
next_to up n X p = record p { x = layer_beside up n.x p.x }
next_to up n Y p = record p { y = layer_beside up n.y p.y }
next_to up n Z p = record p { z = layer_beside up n.z p.z }

-- the curl of g from the cells beside p and p itself: with the next cells that of E at the places
-- of B, and with the last ones that of B at the places of E, turned round
abbrev pub curl_beside : Bool → Triple → (Axis → Triple → ℤ) → Axis → Triple → ℤ
curl_beside up n g a p =
    let second = next_axis a in
    let third = next_axis second in
    curl_of (g third (next_to up n second p)) (g third p)
    (g second (next_to up n third p)) (g second p)

-- a room has what is read beside a row, or beside the lines of a strip, behind it or else before
-- it: the index of the first one of its own,
abbrev pub first_index : Bool → ℕ
first_index true = 0
first_index false = 1

-- and the layer at the index 0, where the first one is x
abbrev pub room_layer : Bool → ℕ → ℕ → ℕ
room_layer true m x = x
room_layer false m x = (x + (m - 1)) % m

-- the cell at the index 0 of a row from p on,
abbrev pub row_room : Bool → Triple → Triple → Triple
row_room up n p = record p { x = room_layer up n.x p.x }

-- and of the first line of a plane
abbrev pub plane_room : Bool → Triple → Triple → Triple
plane_room up n p = record p { x = room_layer up n.x p.x; y = room_layer up n.y p.y }

-- the layer that comes after k others, of m: what is read beside it is one of those, but for the
-- first
abbrev pub swept_layer : Bool → ℕ → ℕ → ℕ
swept_layer true m k = m - 1 - k
swept_layer false m k = k
