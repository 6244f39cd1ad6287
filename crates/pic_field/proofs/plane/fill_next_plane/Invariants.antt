use Rattle.std.proofs.Common.{◌≡◌, ◌+◌, ◌%◌, ◌<◌, ◌≤◌, ℕ, length}
use Rattle.pic_num.specs.Space.{triple}
use Rattle.pic_field.specs.Rows.{read_by}
use Rattle.pic_field.specs.Planes.{line_at, along_y, IsNextLine}
use Rattle.pic_field.proofs.plane.fill_next_plane.Given as goal

-- the strip's lines below j are scaled, and the next one has the layer y
abbrev pub invariant-loop-j : goal.invariant-loop-j
invariant-loop-j l = record {
  at : l.y ≡ ((triple l.fn.at).y + l.j) % l.from.field.now.cells.y;
  room : length l.to ≡ length l.initial.to;
  below : l.y < l.from.field.now.cells.y;
  next : (k : ℕ) → k < l.j → l.span.first ≤ k
      → IsNextLine l.from.field.now.cells (read_by l.from) (along_y l.from.field.now.cells (triple l.fn.at) k) l.span (line_at l.to k);
}
