-- The fields and particles of a frame.
use Rattle.std.proofs.Common.{◌≡◌, ℕ, ℤ, ◌+◌, ◌*◌, ◌<◌, List, ◌++◌, length, get_or, set, take, inl, inr, refl, subst, arith}
use Rattle.std.proofs.Math.Seq.{take-append_seam}
use Rattle.std.proofs.lemmas.Bool.{cases_eq}
use Rattle.std.proofs.lemmas.Grind.{get_or-set_at}
use Rattle.std.proofs.lemmas.List.{get_or-set_other}
use Rattle.pic_num.specs.declared.motion.Kind.{Kind}
use Rattle.pic_num.specs.declared.motion.Particle.{Particle}
use Rattle.pic_num.specs.declared.mult.Scales.{Scales}
use Rattle.pic_num.specs.Multiplier.{Multiplier}
use Rattle.pic_block.specs.Cells.{count_of}
use Rattle.pic_grid.specs.Lattice.{Field}
use Rattle.pic_energy.specs.Energies.{IsBounded, energies_of}
use Rattle.pic_energy.proofs.Bounds.{bounded_of_values}
use Rattle.pic_record.specs.FrameFields.{IsModerate, field_with}
use Rattle.pic_record.specs.Layout.{LayoutView}

-- what holds of the items so far and of one more
pub each_set : {A : Type 0} (P : A → Type 0) (xs : List A) (i : ℕ) (x : A) → i < length xs → ((k : ℕ) (d : A) → k < i → P (get_or xs k d)) → P x
    → (k : ℕ) (d : A) → k < i + 1 → P (get_or (set xs i x) k d)
each_set P xs i x inside before here k d below = elim (cases_eq k i) [
  | inl same ↦ rw (get_or-set_at xs i k x d same inside) here
  | inr other ↦ rw (get_or-set_other xs i k x d other) (before k d (omega (arith, below, other)))
]

-- a field of moderate values is bounded
pub bounded_from : (by : Multiplier) (f : Field) → length f.values ≡ 3 * count_of f.cells
    → ((k : ℕ) (d : ℤ) → k < length f.values → IsModerate by (get_or f.values k d)) → IsBounded by f
bounded_from by f shape all = bounded_of_values by f shape (λ k d below. (all k d below).value) (λ k d below. (all k d below).force)

-- the energies depend on the values of the fields alone
pub same_energies : (scales : Scales) (kinds : List Kind) (e b : Field) (l : LayoutView) (particles : List Particle)
    → energies_of scales kinds e b particles ≡ energies_of scales kinds (field_with l e.values) (field_with l b.values) particles
unfolding energies_of
same_energies scales kinds e b l particles = refl

-- what a slice that has taken a list's place is
pub written_over : {A : Type 0} (n : ℕ) (new rest : List A) → length new ≡ n → take n (new ++ rest) ≡ new
written_over n new rest is = subst (λ m. take m (new ++ rest) ≡ new) is (take-append_seam new rest)
