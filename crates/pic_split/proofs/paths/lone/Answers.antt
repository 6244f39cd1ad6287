use Rattle.std.proofs.Common.{◌≡◌, ◌<◌, [], ◌∷◌, refl, sym, ap, ◌∙◌, subst, arith}
use Rattle.std.proofs.lemmas.Bool.{false≢true}
use Rattle.pic_num.specs.Push.{plus}
use Rattle.pic_num.specs.Space.{Spot, triple, spot, unwrapped}
use Rattle.pic_grid.specs.Path.{floor_cell, path}
use Rattle.pic_grid.specs.Segment.{Piece}
use Rattle.pic_split.specs.Move.{lone_piece, LeadBy}
use Rattle.pic_split.proofs.LeadLaws.{path_leads}
use Rattle.pic_split.proofs.LoneLaws.{none_lone, path_is_lone, lead_inside}
use Rattle.pic_split.proofs.paths.lone.Goals as goal
use Rattle.pic_split.proofs.paths.lone.Goals.{After-cell, After-segment}

-- the start, and the two cells, as the definition has them
record Cells (c : After-cell) : Type 0 where
  start : spot c.unwrapped-p.result ≡ unwrapped (triple c.args.p0)
  end : spot c.end_of-end.result ≡ plus (unwrapped (triple c.args.p0)) (spot c.args.d)
  first : spot c.cell-start_cell.result ≡ floor_cell c.args.sub (unwrapped (triple c.args.p0))
  last : spot c.cell.result ≡ floor_cell c.args.sub (plus (unwrapped (triple c.args.p0)) (spot c.args.d))

cells : (c : After-cell) → Cells c
cells c =
    let start = c.unwrapped-p.ensures in
    let end = c.end_of-end.ensures.value ∙ ap (λ (q : Spot). plus q (spot c.args.d)) start in
    record {
      start = start;
      end = end;
      first = c.cell-start_cell.ensures.value ∙ ap (floor_cell c.args.sub) start;
      last = c.cell.ensures.value ∙ ap (floor_cell c.args.sub) end;
    }

pub returns-then-not-is_same-clause-piece : goal.returns-then-not-is_same-clause-piece
returns-then-not-is_same-clause-piece c =
    let at = cells (goal.at.returns-then-not-is_same-clause-piece c).After-cell in
    let some : 0 < c.args.sub = omega (arith, c.side-side.ensures.least) in
    sym (none_lone c.args.sub (unwrapped (triple c.args.p0)) (spot c.args.d) some c.requires.small
    (λ e. false≢true (c.if-not-is_same.ensures.1 (at.first ∙ e ∙ sym at.last))))

-- the segment is the path
is_path : (c : After-segment) → path c.args.sub (unwrapped (triple c.args.p0)) (spot c.args.d) ≡ c.segment.result ∷ []
is_path c =
    let at = cells (goal.at.After-segment c).After-cell in
    let p = unwrapped (triple c.args.p0) in
    let same = sym at.first ∙ c.if-not-is_same.ensures.0 refl ∙ at.last in
    let made : c.segment.result ≡ record { from = p; to = plus p (spot c.args.d); cell = floor_cell c.args.sub p } =
    c.segment.ensures ∙ (λ i. record { from = at.start i; to = at.end i; cell = at.first i }) in
    path_is_lone c.args.sub p (spot c.args.d) same ∙ ap (λ (s : Piece). s ∷ []) (sym made)

pub returns-clause-piece : goal.returns-clause-piece
returns-clause-piece c = sym (ap lone_piece (is_path (goal.at.returns-clause-piece c).After-segment))

pub returns-clause-inside : goal.returns-clause-inside
returns-clause-inside c =
    let p = unwrapped (triple c.args.p0) in
    let d = spot c.args.d in
    let some : 0 < c.args.sub = omega (arith, c.side-side.ensures.least) in
    lead_inside c.args.sub (floor_cell c.args.sub p) (floor_cell c.args.sub (plus p d)) p (plus p d) c.segment.result
    (subst (LeadBy c.args.sub p d) (is_path (goal.at.returns-clause-inside c).After-segment) (path_leads c.args.sub p d some c.requires.small))

pub returns-clause-stays : goal.returns-clause-stays
returns-clause-stays c =
    let at = cells (goal.at.returns-clause-stays c).After-cell in
    λ some. sym at.last ∙ sym (c.if-not-is_same.ensures.0 refl) ∙ at.first
