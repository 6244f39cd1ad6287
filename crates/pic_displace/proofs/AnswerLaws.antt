-- What a call answers for the E of a displaced start.
use Rattle.std.proofs.Common.{◌≡◌, List, Result, Ok, Err, Option, ap, sym, refl, subst, ◌∙◌}
use Rattle.std.proofs.Math.IntN.{ℤ}
use Rattle.std.specs.Prelude.{codes}
use Rattle.pic_num.specs.declared.axis.Axis.{Axis}
use Rattle.pic_num.specs.declared.motion.Particle.{Particle}
use Rattle.pic_num.specs.Limits.{most_value}
use Rattle.pic_num.specs.Sizes.{IsAtMost}
use Rattle.pic_num.specs.Space.{Triple}
use Rattle.pic_block.specs.Cells.{IsWithin}
use Rattle.pic_grid.specs.Lattice.{Field, value_at}
use Rattle.pic_grid.proofs.LatticeLaws.{value_at-field_of}
use Rattle.pic_walk.specs.Path.{key_at}
use Rattle.pic_deck.specs.Deck.{DeckView}
use Rattle.pic_deck.specs.Keys.{force_allowed}
use Rattle.pic_deck.specs.Reading.{as_read}
use Rattle.pic_deck.proofs.ForceLaws.{first_of_field}
use Rattle.pic_displace.specs.declared.fault.DisplaceFault.{DisplaceFault}
use Rattle.pic_displace.specs.declared.fault.DisplaceFault.TheVariants.{Refused, NoMemory}
use Rattle.pic_displace.specs.Displace.{displaced_e, e_allowed, displaced_allowed, BecomesDisplaced, Refuses, Displaces}

-- the test of the lattice is that of the displaced start's E
tests_it : (d : DeckView) (ps : List Particle) (old new : Field) → BecomesDisplaced d ps old new
    → displaced_allowed d ps ≡ e_allowed new.cells d.scales.e_force (value_at new)
tests_it d ps old new becomes =
    ap (λ (o : Option ℤ). as_read (force_allowed (key_at (codes "scale") (codes "e_force")) o))
    (sym (first_of_field new old.side d.cells old.parts d.cells d.scales.e_force (displaced_e d ps) becomes.is refl))

pub answers : (d : DeckView) (ps : List Particle) (old new : Field) (r : Result (Unit {0}) DisplaceFault) → BecomesDisplaced d ps old new
    → Refuses (e_allowed new.cells d.scales.e_force (value_at new)) r → Displaces d ps old new r
answers d ps old new (Ok done) becomes told = (becomes, tests_it d ps old new becomes ∙ told)
answers d ps old new (Err (Refused r)) becomes told = (becomes, tests_it d ps old new becomes ∙ told)
answers d ps old new (Err NoMemory) becomes told = absurd told

-- no value of the lattice is too large for the test
pub values_small : (d : DeckView) (ps : List Particle) (old new : Field) → BecomesDisplaced d ps old new
    → ((a : Axis) (p : Triple) → IsWithin p d.cells → IsAtMost (displaced_e d ps a p) most_value)
    → (a : Axis) (p : Triple) → IsWithin p new.cells → IsAtMost (value_at new a p) most_value
values_small d ps old new becomes small a p within =
    let inside : IsWithin p d.cells = subst (λ (f : Field). IsWithin p f.cells) becomes.is within in
    subst (λ (v : ℤ). IsAtMost v most_value)
    (sym (ap (λ (f : Field). value_at f a p) becomes.is ∙ value_at-field_of old.side d.cells old.parts (displaced_e d ps) a p inside)) (small a p inside)
