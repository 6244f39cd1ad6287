use Rattle.std.proofs.Common.{ap, subst, arith}
use Rattle.std.proofs.Math.Nat.{le_trans}
use Rattle.pic_header.specs.Header.{HeaderView, IsHeader}
use Rattle.pic_header.specs.HeaderFields.{header_length}
use Rattle.pic_header.proofs.ReadableHeader.{text_length}
use Rattle.pic_header.proofs.LoopLaws.{loops_of_version, waves_few, loops_most}
use Rattle.pic_header.proofs.RunLaws.{form_few}
use Rattle.pic_header.proofs.header.Header.length.Goals as goal

pub returns-clause-value : goal.returns-clause-value
returns-clause-value c =
    rw (c.form_length.ensures, c.as_slice.ensures, c.loops_length-loops.ensures.value, c.as_slice-2.ensures)
    (ap (λ (h : HeaderView). header_length h) c.self.view_is)

pub returns-clause-text : goal.returns-clause-text
returns-clause-text c = text_length c.args.self.now (subst IsHeader c.self.view_is c.self.invariant)

pub returns-clause-most : goal.returns-clause-most
returns-clause-most c =
    let limits = (subst IsHeader c.self.view_is c.self.invariant).limits in
    let few = limits.heads.few in
    let h = c.args.self.now in
    let waves = waves_few h.cells _ h.loops limits.loops in
    let some = limits.loops.few in
    omega (arith, few, form_few h.version, loops_most h.loops waves, some, loops_of_version h.version)

pub loops_length-loops-requires-clause-few : goal.loops_length-loops-requires-clause-few
loops_length-loops-requires-clause-few c = rw c.as_slice-2.ensures (le_trans c.self.invariant.limits.loops.few (loops_of_version _))

pub loops_length-loops-requires-clause-waves : goal.loops_length-loops-requires-clause-waves
loops_length-loops-requires-clause-waves c = rw c.as_slice-2.ensures (waves_few _ _ _ c.self.invariant.limits.loops)
