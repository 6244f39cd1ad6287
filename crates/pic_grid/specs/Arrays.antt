-- Arrays of three numbers, and the triples and spots that they stand for.
use Rattle.std.specs.Prelude.{◌≡◌, ℕ, ℤ, List, [], ◌∷◌, length, refl}
use Rattle.std.proofs.Common.{arith}
use Rattle.pic_num.specs.Space.{Triple, triple, Spot, spot}

-- the array [u32; 3] of a triple
abbrev pub array_of_triple : Triple → List ℕ
array_of_triple t = t.x ∷ t.y ∷ t.z ∷ []

-- the array [i32; 3] of a spot
abbrev pub array_of_spot : Spot → List ℤ
array_of_spot p = p.x ∷ p.y ∷ p.z ∷ []

-- an array of three numbers is that of its triple
pub array_of_triple-triple : (a : List ℕ) → length a ≡ 3 → array_of_triple (triple a) ≡ a
array_of_triple-triple [] h = absurd (omega arith)
array_of_triple-triple (x ∷ []) h = absurd (omega arith)
array_of_triple-triple (x ∷ y ∷ []) h = absurd (omega arith)
array_of_triple-triple (x ∷ y ∷ z ∷ []) h = refl
array_of_triple-triple (x ∷ y ∷ z ∷ w ∷ ws) h = absurd (omega arith)

-- an array of three signed numbers is that of its spot
pub array_of_spot-spot : (a : List ℤ) → length a ≡ 3 → array_of_spot (spot a) ≡ a
array_of_spot-spot [] h = absurd (omega arith)
array_of_spot-spot (x ∷ []) h = absurd (omega arith)
array_of_spot-spot (x ∷ y ∷ []) h = absurd (omega arith)
array_of_spot-spot (x ∷ y ∷ z ∷ []) h = refl
array_of_spot-spot (x ∷ y ∷ z ∷ w ∷ ws) h = absurd (omega arith)
