use Rattle.std.proofs.Common.{◌≡◌, subst}
use Rattle.pic_io.specs.Sink.{Puts}
use Rattle.pic_grid.specs.Lattice.{value_at}
use Rattle.pic_probe.specs.ProbeLine.{probe_line}
use Rattle.pic_probe.proofs.LineLaws.{line_parts}
use Rattle.pic_probe.proofs.line.put_line.Goals as goal

pub returns-clause-bytes : goal.returns-clause-bytes
returns-clause-bytes g c =
    let s = c.args.state.now in
    let line : c.bytes.result.now ≡ probe_line c.args.probes.now c.args.step (value_at s.e) (value_at s.b) s.particles.items =
    rw (
      c.bytes.ensures,
      c.push.ensures.bytes,
      c.push_tracks.ensures.bytes,
      c.push_places.ensures.bytes,
      c.push_decimal.ensures.bytes,
      c.new-text.ensures,
      c.from.ensures,
      c.as_slice.ensures,
      c.as_slice-2.ensures,
      c.deref.ensures.value,
    ) (line_parts c.args.probes.now c.args.step (value_at s.e) (value_at s.b) s.particles.items) in
    subst (λ l. Puts (g.O.Sink.told c.args.out.now) (g.O.Sink.told c.put.new.self) l c.put.result) line c.put.ensures.bytes
