use Rattle.std.proofs.Common.{◌∙◌, ◌+◌, ◌<◌, ◌≤◌, length, ap, refl, arith, rules}
use Rattle.std.proofs.lemmas.List.{length-append}
use Rattle.pic_num.specs.Limits.{allowance_of}
use Rattle.pic_walk.specs.Path.{path_of}
use Rattle.pic_walk.proofs.ArrayLaws.{each_at, each_out}
use Rattle.pic_walk.proofs.WalkLaws.{exits, then_ok}
use Rattle.pic_deck.specs.Keys.{one_species}
use Rattle.pic_deck.proofs.HeadLaws.{heads_none, filled_none, species_more, filled_more}
use Rattle.pic_deck.proofs.species_reader.read_each_species.Goals as goal

pub loop-i-init : goal.loop-i-init
loop-i-init c =
    rw c.new-all.ensures.items (record {
      count = search rules;
      size = refl;
      walked = refl;
      heads = heads_none (allowance_of c.args.terms.version).particles;
      filled = filled_none c.args.terms;
    })

pub read_species-requires : goal.read_species-requires
read_species-requires c = rw c.as_slice.ensures.value c.loop-i.invariant.heads

pub returns-in_err-species-clause-walks : goal.returns-in_err-species-clause-walks
returns-in_err-species-clause-walks c =
    let room : c.loop-i.i < length c.args.items.now.items = omega (arith, c.loop-i.invariant.count) in
    let step = each_at (one_species c.args.terms) (path_of c.args.address) c.loop-i.all.items c.args.items.now.items c.loop-i.i c.index.result.now room in
    rw (c.loop-i.invariant.walked ∙ rw c.loop-i.invariant.size at step)
    (exits _ _ c.from_residual.ensures.1 (rw (c.element.ensures.path, c.index.ensures, c.as_slice.ensures.value) at c.in_err-species.ensures.walks))

pub loop-i-preserved : goal.loop-i-preserved
loop-i-preserved c =
    let room : c.loop-i.i < length c.args.items.now.items = omega (arith, c.loop-i.invariant.count) in
    let few : length c.loop-i.all.items < 16 = omega (arith, c.loop-i.invariant.size, c.requires.few, room) in
    let step = each_at (one_species c.args.terms) (path_of c.args.address) c.loop-i.all.items c.args.items.now.items c.loop-i.i c.index.result.now room in
    let at_i = rw c.loop-i.invariant.size at step in
    let read = rw (c.element.ensures.path, c.index.ensures, c.as_slice.ensures.value) at c.in_ok-species.ensures.walks.answer in
    let next = rw c.as_slice.ensures.value at c.in_ok-species.ensures.limits in
    rw c.in_ok-push.ensures.items (record {
      count = c.loop-i.invariant.count;
      size = length-append _ _ ∙ ap (λ n. n + 1) c.loop-i.invariant.size;
      walked = c.loop-i.invariant.walked ∙ at_i ∙ then_ok _ _ _ read;
      heads = species_more c.args.terms _ _ c.loop-i.invariant.heads few next;
      filled = filled_more c.args.terms _ _ c.loop-i.invariant.filled next.filled;
    })

pub returns-clause-walks : goal.returns-clause-walks
returns-clause-walks c =
    let out : length c.args.items.now.items ≤ c.loop-i.i = omega (arith, c.loop-i.invariant.count) in
    record { answer = c.loop-i.invariant.walked ∙ each_out _ _ _ _ _ out }

pub returns-clause-heads : goal.returns-clause-heads
returns-clause-heads c = c.loop-i.invariant.heads

pub returns-clause-filled : goal.returns-clause-filled
returns-clause-filled c = c.loop-i.invariant.filled
