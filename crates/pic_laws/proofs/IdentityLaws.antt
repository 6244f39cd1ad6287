-- The species that is found along the numbers of particles has the identity, and no other one has it.
use Rattle.std.proofs.Common.{◌≡◌, ℕ, zero, suc, ◌+◌, ◌-◌, ◌<◌, ◌≤◌, Bool, cond, List, [], ◌∷◌, take, ap, subst, sym, ◌∙◌, inl, inr, arith}
use Rattle.std.specs.Prelude.{sum}
use Rattle.std.proofs.lemmas.Bool.{cases_lt, lt-ltb, le-ltb}
use Rattle.std.proofs.lemmas.List.Sums.{sum_by-cons}
use Rattle.pic_record.specs.Layout.{species_of}
use Rattle.pic_laws.specs.SpeciesOfIdentity.{IsIdentityOf, EachIdentityHasOneSpecies}

sum-cons : (count : ℕ) (counts : List ℕ) → sum (count ∷ counts) ≡ count + sum counts
sum-cons count counts = sum_by-cons (λ n. n) count counts

-- behind one species more the others' identities are further on by its particles
one_earlier : (count : ℕ) (counts : List ℕ) (species id : ℕ) → count ≤ id → IsIdentityOf counts species (id - count)
    → IsIdentityOf (count ∷ counts) (suc species) id
one_earlier count counts species id behind is = record {
  number = omega (arith, is.number);
  first = omega (arith, is.first, sum-cons count (take species counts));
  last = omega (arith, is.last, sum-cons count (take (suc species) counts));
}

one_less : (count : ℕ) (counts : List ℕ) (species id : ℕ) → IsIdentityOf (count ∷ counts) (suc species) id
    → (count ≤ id) × IsIdentityOf counts species (id - count)
one_less count counts species id is =
    let low = sum-cons count (take species counts) in
    let high = sum-cons count (take (suc species) counts) in
    let behind : count ≤ id = omega (arith, is.first, low) in
    (behind, record { number = omega (arith, is.number); first = omega (arith, is.first, low); last = omega (arith, is.last, high, behind) })

-- the species that is found, by the test whether it is the first
abbrev chosen : ℕ → List ℕ → ℕ → Bool → ℕ
chosen count counts id is_first = cond is_first 0 (suc (species_of counts (id - count)))

-- the species that is found has the identity
found : (counts : List ℕ) (id : ℕ) → id < sum counts → IsIdentityOf counts (species_of counts id) id
found [] id below = absurd (omega (arith, below))
found (count ∷ counts) id below = elim (cases_lt id count) [
  | inl first ↦ subst (λ (b : Bool). IsIdentityOf (count ∷ counts) (chosen count counts id b) id) (sym (lt-ltb id count first))
      (record { number = omega arith; first = omega arith; last = omega (arith, first) })
  | inr behind ↦ subst (λ (b : Bool). IsIdentityOf (count ∷ counts) (chosen count counts id b) id) (sym (le-ltb id count behind))
      (one_earlier count counts (species_of counts (id - count)) id behind
      (found counts (id - count) (omega (arith, below, behind, sum-cons count counts))))
]

-- and no other one has it
only : (counts : List ℕ) (id species : ℕ) → IsIdentityOf counts species id → species_of counts id ≡ species
only [] id species is = absurd (omega (arith, is.number))
only (count ∷ counts) id zero is = ap (chosen count counts id) (lt-ltb id count (omega (arith, is.last)))
only (count ∷ counts) id (suc species) is =
    let rest = one_less count counts species id is in
    ap (chosen count counts id) (le-ltb id count rest.0) ∙ ap suc (only counts (id - count) species rest.1)

-- the law
pub each_identity_has_one_species : EachIdentityHasOneSpecies
each_identity_has_one_species counts id below species =
    (λ is. subst (λ (s : ℕ). IsIdentityOf counts s id) is (found counts id below), only counts id species)
