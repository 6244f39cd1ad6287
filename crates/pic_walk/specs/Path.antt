-- Key paths, as lists of bytes.
use Rattle.std.specs.Prelude.{ℕ, List, ◌++◌, ◌==◌, length, codes, decimal, if◌then◌else◌, Option, Some, None}
use Rattle.pic_walk.specs.declared.address.Address.{Address}

-- the path of a key in the table at a path; the document's own table has the empty path
unfoldable pub key_at : List ℕ → List ℕ → List ℕ
key_at path key = if length path == 0 then key else path ++ codes "." ++ key

-- the path of the element i of the array at a path
unfoldable pub element_at : List ℕ → ℕ → List ℕ
element_at path i = path ++ (codes "[" ++ (decimal i ++ codes "]"))

-- the path, or that of its element where there is an index
abbrev pub with_index : Option ℕ → List ℕ → List ℕ
with_index None path = path
with_index (Some i) path = element_at path i

-- the path of an address
unfoldable pub path_of : Address → List ℕ
path_of address = with_index address.column (with_index address.row (key_at address.table.now address.key.now))
