use Rattle.std.proofs.Common.{◌≡◌, ◌^◌, ◌∙◌, subst, sym, arith, List}
use Rattle.std.specs.List.{All}
use Rattle.pic_num.specs.Space.{triple, spot, unwrapped}
use Rattle.pic_grid.specs.Path.{Crossing, floor_cell, crossings, walk, path}
use Rattle.pic_split.specs.Face.{IsSmall}
use Rattle.pic_split.specs.Move.{LeadBy}
use Rattle.pic_split.proofs.CrossingLaws.{crossings_small, all_small_more, move_more}
use Rattle.pic_split.proofs.LeadLaws.{path_leads}
use Rattle.pic_split.proofs.paths.split.Goals as goal

pub cut-requires-clause-faces : goal.cut-requires-clause-faces
cut-requires-clause-faces c =
    subst (λ (ks : List Crossing). All (IsSmall (2 ^ 14)) ks) (sym c.crossings.ensures)
    (all_small_more c.args.sub (2 ^ 14) (crossings c.args.sub (spot c.unwrapped-p.result) (spot c.args.d)) c.side-side.ensures.most
    (crossings_small c.args.sub (spot c.unwrapped-p.result) (spot c.args.d) (omega (arith, c.side-side.ensures.least)) c.requires.small))

pub returns-clause-value : goal.returns-clause-value
unfolding path
returns-clause-value c =
    let d = spot c.args.d in
    c.cut.ensures
    ∙ (λ i. walk (spot c.unwrapped-p.result) d (spot c.unwrapped-p.result) (c.cell.ensures.value i) (c.crossings.ensures i))
    ∙ (λ i. walk (c.unwrapped-p.ensures i) d (c.unwrapped-p.ensures i) (floor_cell c.args.sub (c.unwrapped-p.ensures i))
    (crossings c.args.sub (c.unwrapped-p.ensures i) d))

pub returns-clause-leads : goal.returns-clause-leads
unfolding path
returns-clause-leads c =
    let p = unwrapped (triple c.args.p0) in
    let d = spot c.args.d in
    let is : c.cut.result ≡ path c.args.sub p d = c.cut.ensures
    ∙ (λ i. walk (spot c.unwrapped-p.result) d (spot c.unwrapped-p.result) (c.cell.ensures.value i) (c.crossings.ensures i))
    ∙ (λ i. walk (c.unwrapped-p.ensures i) d (c.unwrapped-p.ensures i) (floor_cell c.args.sub (c.unwrapped-p.ensures i))
    (crossings c.args.sub (c.unwrapped-p.ensures i) d)) in
    subst (LeadBy c.args.sub p d) (sym is)
    (path_leads c.args.sub p d (omega (arith, c.side-side.ensures.least)) c.requires.small)

pub end_of-requires-clause-small : goal.end_of-requires-clause-small
end_of-requires-clause-small c = move_more c.args.sub (2 ^ 14) (spot c.args.d) c.side-side.ensures.most c.requires.small

pub cut-requires-clause-small : goal.cut-requires-clause-small
cut-requires-clause-small c = move_more c.args.sub (2 ^ 14) (spot c.args.d) c.side-side.ensures.most c.requires.small
