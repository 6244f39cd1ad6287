use Rattle.std.proofs.Common.{◌≡◌, refl, sym, arith}
use Rattle.std.proofs.Math.IntN.{ℤ, pos, negsuc}
use Rattle.std.specs.Prelude.{◌≤ℤ◌}
use Rattle.std.proofs.lemmas.Int.{ints, to_z-of_z}
use mir.Syntax.{w32}
use mir.Val.{SFits, to_z, of_z}
use Rattle.pic_num.specs.declared.motion.Kind.{Kind}
use Rattle.pic_num.specs.Limits.{least_charge, greatest_charge}
use Rattle.pic_grid.specs.Species.{IsKind}
use Rattle.pic_deck.specs.Keys.{species_in}
use Rattle.pic_walk.proofs.WalkLaws.{goes_on, exits}
use Rattle.pic_deck.proofs.HeadLaws.{particles_of-heads}
use Rattle.pic_deck.proofs.species_reader.species_in.Goals as goal

charge_fits : (z : ℤ) → least_charge ≤ℤ z → z ≤ℤ greatest_charge → SFits w32 z
charge_fits (pos n) low high = record { sfits = omega (arith, ints, high) }
charge_fits (negsuc n) low high = record { sfits = omega (arith, ints, low) }

-- a charge within its limits is kept in 32 bits
same_charge : (k : Kind) → IsKind k → to_z w32 (of_z w32 k.charge) ≡ k.charge
same_charge k is = to_z-of_z w32 k.charge (charge_fits k.charge is.charge_low is.charge_high)

pub returns-in_err-name-clause-walks : goal.returns-in_err-name-clause-walks
unfolding species_in
returns-in_err-name-clause-walks c = exits _ _ c.from_residual.ensures.1 c.in_err-name.ensures.walks

pub returns-in_err-kind-clause-walks : goal.returns-in_err-kind-clause-walks
unfolding species_in
returns-in_err-kind-clause-walks c =
    goes_on _ _ _ c.in_ok-name.ensures.walks.answer (exits _ _ c.from_residual-in_err-kind.ensures.1 c.in_err-kind.ensures.walks)

pub returns-in_err-fill-clause-walks : goal.returns-in_err-fill-clause-walks
unfolding species_in
returns-in_err-fill-clause-walks c =
    goes_on _ _ _ c.in_ok-name.ensures.walks.answer (goes_on _ _ _ c.in_ok-kind.ensures.walks.answer
    (exits _ _ c.from_residual-in_err-fill.ensures.1 (rw (same_charge _ c.in_ok-kind.ensures.limits) at c.in_err-fill.ensures.walks)))

pub returns-in_err-count-clause-walks : goal.returns-in_err-count-clause-walks
unfolding species_in
returns-in_err-count-clause-walks c =
    goes_on _ _ _ c.in_ok-name.ensures.walks.answer (goes_on _ _ _ c.in_ok-kind.ensures.walks.answer
    (goes_on _ _ _ (rw (same_charge _ c.in_ok-kind.ensures.limits) at c.in_ok-fill.ensures.walks.answer)
    (exits _ _ c.from_residual-in_err-count.ensures.1 (rw c.requires.path at c.in_err-count.ensures.walks))))

pub returns-clause-walks : goal.returns-clause-walks
unfolding species_in
returns-clause-walks c =
    goes_on _ _ _ c.in_ok-name.ensures.walks.answer (goes_on _ _ _ c.in_ok-kind.ensures.walks.answer
    (goes_on _ _ _ (rw (same_charge _ c.in_ok-kind.ensures.limits) at c.in_ok-fill.ensures.walks.answer)
    (goes_on _ _ _ (rw c.requires.path at c.in_ok-count.ensures.walks.answer) (record { answer = refl }))))

pub returns-clause-limits : goal.returns-clause-limits
returns-clause-limits c = record {
  name = c.in_ok-name.ensures.limits;
  kind = c.in_ok-kind.ensures.limits;
  filled = record {
    fill = c.in_ok-fill.ensures.limits;
    count = c.in_ok-count.ensures.count;
    opposite = rw (same_charge _ c.in_ok-kind.ensures.limits) at c.in_ok-fill.ensures.opposite;
  };
  few = c.in_ok-count.ensures.few;
}

pub read_count-requires : goal.read_count-requires
read_count-requires c = rw (sym (particles_of-heads c.args.earlier.now)) c.requires.heads.total
