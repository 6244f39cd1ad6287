-- The name in a field of bytes.
use Rattle.std.proofs.Common.{◌≡◌, ℕ, suc, ◌<◌, ◌≤◌, Bool, true, false, not, ◌&&◌, leb, eqb, List, [], ◌∷◌, length, get_or, drop, arith, if◌then◌else◌}
use Rattle.std.specs.Str.{bytes_eq}
use Rattle.std.specs.List.{list_all, list_any}
use Rattle.std.proofs.lemmas.Bool.{and_parts, false≢true, leb-true}
use Rattle.std.proofs.lemmas.List.Folds.{list_any_at}
use Rattle.std.proofs.lemmas.Slice.Eq.{bytes_eq-Decides}
use Rattle.pic_grid.specs.Species.{IsName, HeadView, no_head, is_name_byte}
use Rattle.pic_header.specs.HeaderFields.{name_of, is_name_field, is_new_name_field}

-- a name has not more bytes than its field
pub name_length : (bytes : List ℕ) → length (name_of bytes) ≤ length bytes
name_length [] = omega arith
name_length (b ∷ bytes) = elim (eqb b 0) as (λ v. length (if v then [] else b ∷ name_of bytes) ≤ suc (length bytes)) [
  | true ↦ omega arith
  | false ↦ (let h = name_length bytes in omega (arith, h))
]

not_true : (b : Bool) → not b ≡ true → b ≡ true → ⊥
not_true true h e = false≢true h
not_true false h e = false≢true e

-- a field with a name
pub name_from : (bytes : List ℕ) → length bytes ≡ 32 → is_name_field bytes ≡ true → IsName (name_of bytes)
name_from bytes size h =
    let name = name_of bytes in
    let (front, zeros) = and_parts (leb 1 (length name) && list_all is_name_byte name) (list_all (eqb 0) (drop (length name) bytes)) h in
    let (low, letters) = and_parts (leb 1 (length name)) (list_all is_name_byte name) front in
    let most = name_length bytes in
    record { least = leb-true 1 (length name) low; most = omega (arith, most, size); bytes = letters }

pub new_from : (hs : List HeadView) (bytes : List ℕ) → is_new_name_field hs bytes ≡ true
    → (is_name_field bytes ≡ true) × ((i : ℕ) → i < length hs → (get_or hs i no_head).name ≡ name_of bytes → ⊥)
new_from hs bytes h =
    let name = name_of bytes in
    let (good, free) = and_parts (is_name_field bytes) (not (list_any (λ (k : HeadView). bytes_eq k.name name) hs)) h in (
      good,
      λ i below same. not_true (list_any (λ (k : HeadView). bytes_eq k.name name) hs) free
          (list_any_at (λ (k : HeadView). bytes_eq k.name name) hs i no_head below ((bytes_eq-Decides (get_or hs i no_head).name name).1 same)),
    )
