-- What fills a species: a walk accepts a source's value exactly where it spells it, within its limits.
use Rattle.std.proofs.Common.{◌≡◌, ℕ, ℤ, pos, ◌≤ℤ◌, List}
use Rattle.std.proofs.Common.{Ok, refl, ap, ◌∙◌, subst, arith}
use Rattle.std.proofs.lemmas.Int.{ints}
use Rattle.toml.specs.Data.{Data}
use Rattle.pic_walk.specs.declared.displacement.Displacement.{Displacement}
use Rattle.pic_walk.specs.declared.draw.Draw.{Draw}
use Rattle.pic_walk.specs.declared.fill_kind.FillKind.{FillKind}
use Rattle.pic_walk.specs.declared.fill_kind.FillKind.TheVariants as source
use Rattle.pic_walk.specs.declared.sites.Sites.{Sites}
use Rattle.pic_walk.specs.Extent.{extent_of, IsExtent}
use Rattle.pic_walk.specs.Points.{no_point, point_list}
use Rattle.pic_walk.specs.Sites.{sites}
use Rattle.pic_walk.specs.Terms.{TermsView}
use Rattle.pic_walk.specs.Walk.{Walked, ◌>>=◌, table_of}
use Rattle.pic_walk.proofs.LimitLaws.{met, meets}
use Rattle.pic_walk.proofs.WalkLaws.{then_ok, went}
use Rattle.pic_deck.specs.declared.species.Fill.{Fill}
use Rattle.pic_deck.specs.declared.species.Fill.TheVariants.{Points, Lattice, Random, Pair, Displace}
use Rattle.pic_deck.specs.declared.species.Species.{Species}
use Rattle.pic_deck.specs.Fill.{lattice_keys, lattice, random_keys, random, pair_keys, pair, displace_keys, opposite, displaced, fill_by}
use Rattle.pic_deck.specs.Species.{IsFill, IsOpposite}
use Rattle.pic_deck_laws.specs.FillTables.{source_of, SpellsFill}
use Rattle.pic_deck_laws.proofs.ValueLaws.{need_whole_ok, need_whole_from, table_ok, table_from}
use Rattle.pic_deck_laws.proofs.ThreeLaws.{up_to}
use Rattle.pic_deck_laws.proofs.SourceLaws.{sites_ok, sites_from, draw_ok, draw_from, displacement_ok, displacement_from}
use Rattle.pic_deck_laws.proofs.SourceLaws.{position_below, need_named_ok, need_named_from, points_ok, points_from, particles_of_points}

-- What a source fills with: what its value spells, and its limits
pub record Filled (t : TermsView) (done : List Species) (charge : ℤ) (d : Data) (f : Fill) : Type 0 where
  pub spells : SpellsFill done d f
  pub is : IsFill t done f
  pub opposite : IsOpposite done charge f

pub record FilledBy (k : FillKind) (t : TermsView) (done : List Species) (charge : ℤ) (d : Data) (f : Fill) : Type 0 where
  pub source : source_of f ≡ k
  pub filled : Filled t done charge d f

pub same_ok : {A : Type 0} (a b : A) → ◌≡◌ {A = Walked A} (Ok a) (Ok b) → a ≡ b
same_ok a b e = cc e

pub fill_ok : (k : FillKind) (t : TermsView) → IsExtent (extent_of t.grid)
    → (done : List Species) (species : List ℕ) (charge : ℤ) (path : List ℕ) (d : Data) (f : Fill)
    → fill_by k t done species charge path d ≡ Ok f → FilledBy k t done charge d f
unfolding lattice random pair displaced opposite
fill_ok source.Points t extent done species charge path d f e =
    let w = went _ _ _ e in
    let is = points_ok t.grid extent path d w.value w.first in
    subst (FilledBy source.Points t done charge d) (same_ok _ f w.then) (record {
      source = refl;
      filled = record {
        spells = (is.0, λ k p h. let one = is.1 k p h in record { places = one.places; speeds = one.speeds });
        is = record { each = λ k h. (is.1 k no_point h).allowed };
        opposite = tt;
      };
    })
fill_ok source.Lattice t extent done species charge path d f e =
    let w = went _ _ _ e in
    let a = went _ _ _ w.first in
    let keys = table_ok lattice_keys path d a.value a.first in
    let is = sites_ok t extent path a.value w.value a.then in
    subst (FilledBy source.Lattice t done charge d) (same_ok _ f w.then) (record {
      source = refl;
      filled = record {
        spells = record {
          members = a.value;
          there = keys.0;
          holds = record { keys = keys.1; first = is.first; gap = is.gap; count = is.count; v = is.v };
        };
        is = is.are;
        opposite = tt;
      };
    })
fill_ok source.Random t extent done species charge path d f e =
    let w = went _ _ _ e in
    let a = went _ _ _ w.first in
    let b = went _ _ _ a.then in
    let c = went _ _ _ b.then in
    let low : pos 0 ≤ℤ pos 0 = omega (arith, ints) in
    let keys = table_ok random_keys path d a.value a.first in
    let count = need_whole_ok _ _ path a.value b.value low b.first in
    let is = draw_ok t.grid.side path a.value c.value c.first in
    let both : (b.value, c.value) ≡ w.value = cc c.then in
    subst (FilledBy source.Random t done charge d)
    (ap (λ (r : ℕ × Draw). Random r.0 r.1.seed r.1.stream r.1.drift r.1.spread) both ∙ same_ok _ f w.then) (record {
      source = refl;
      filled = record {
        spells = record { members = a.value; there = keys.0; holds = record { keys = keys.1; count = count.0; drawn = is.spells } };
        is = (omega (arith, ints, count.1.high), is.is);
        opposite = tt;
      };
    })
fill_ok source.Pair t extent done species charge path d f e =
    let w = went _ _ _ e in
    let a = went _ _ _ w.first in
    let b = went _ _ _ a.then in
    let c = went _ _ _ b.then in
    let keys = table_ok pair_keys path d a.value a.first in
    let named = need_named_ok done path a.value b.value b.first in
    let is = draw_ok t.grid.side path a.value c.value c.first in
    let both : (b.value, c.value) ≡ w.value = cc c.then in
    subst (FilledBy source.Pair t done charge d) (ap (λ (r : ℕ × Draw). Pair r.0 r.1.seed r.1.stream r.1.drift r.1.spread) both ∙ same_ok _ f w.then) (record {
      source = refl;
      filled = record {
        spells = record { members = a.value; there = keys.0; holds = record { keys = keys.1; named = named; drawn = is.spells } };
        is = (position_below _ done b.value named.found, is.is);
        opposite = tt;
      };
    })
fill_ok source.Displace t extent done species charge path d f e =
    let w = went _ _ _ e in
    let a = went _ _ _ w.first in
    let b = went _ _ _ a.then in
    let c = went _ _ _ b.then in
    let g = went _ _ _ c.then in
    let keys = table_ok displace_keys path d a.value a.first in
    let named = need_named_ok done path a.value b.value b.first in
    let minus = meets _ _ _ _ c.first in
    let is = displacement_ok t.grid.side path a.value g.value g.first in
    let both : (b.value, g.value) ≡ w.value = cc g.then in
    subst (FilledBy source.Displace t done charge d) (ap (λ (r : ℕ × Displacement). Displace r.0 r.1.by r.1.v) both ∙ same_ok _ f w.then) (record {
      source = refl;
      filled = record {
        spells = record { members = a.value; there = keys.0; holds = record { keys = keys.1; named = named; by = is.by; v = is.v } };
        is = (position_below _ done b.value named.found, is.is);
        opposite = omega (arith, ints, minus.low, minus.high);
      };
    })

pub fill_from : (t : TermsView) → IsExtent (extent_of t.grid) → (done : List Species) (species : List ℕ) (charge : ℤ) (path : List ℕ) (d : Data) (f : Fill)
    → Filled t done charge d f → fill_by (source_of f) t done species charge path d ≡ Ok f
unfolding lattice random pair displaced opposite
fill_from t extent done species charge path d (Points ps) is =
    then_ok _ ps _ (ap (point_list t.grid path) is.spells.0 ∙ points_from t.grid extent path ps (particles_of_points t.grid ps is.is is.spells.1))
fill_from t extent done species charge path d (Lattice first gap count v) is =
    let s : Sites = record { first = first; gap = gap; count = count; v = v } in
    let ms = is.spells.members in
    let has = is.spells.holds in
    then_ok _ s _ (ap (λ (x : Data). table_of lattice_keys path x >>= sites t path) is.spells.there
    ∙ then_ok _ ms _ (table_from lattice_keys path ms has.keys)
    ∙ sites_from t path ms s (record { first = has.first; gap = has.gap; count = has.count; v = has.v; are = is.is }))
fill_from t extent done species charge path d (Random count seed stream drift spread) is =
    let r : Draw = record { seed = seed; stream = stream; drift = drift; spread = spread } in
    let ms = is.spells.members in
    let has = is.spells.holds in
    then_ok _ (count, r) _ (ap (λ (x : Data). random t path x) is.spells.there
    ∙ then_ok _ ms _ (table_from random_keys path ms has.keys)
    ∙ then_ok _ count _ (need_whole_from _ _ path ms count has.count (up_to 0 _ count (omega arith) is.is.0))
    ∙ then_ok _ r _ (draw_from t.grid.side path ms r (record { spells = has.drawn; is = is.is.1 })))
fill_from t extent done species charge path d (Pair named seed stream drift spread) is =
    let r : Draw = record { seed = seed; stream = stream; drift = drift; spread = spread } in
    let ms = is.spells.members in
    let has = is.spells.holds in
    then_ok _ (named, r) _ (ap (λ (x : Data). pair t done path x) is.spells.there
    ∙ then_ok _ ms _ (table_from pair_keys path ms has.keys)
    ∙ then_ok _ named _ (need_named_from done path ms named has.named)
    ∙ then_ok _ r _ (draw_from t.grid.side path ms r (record { spells = has.drawn; is = is.is.1 })))
fill_from t extent done species charge path d (Displace named by v) is =
    let r : Displacement = record { by = by; v = v } in
    let ms = is.spells.members in
    let has = is.spells.holds in
    then_ok _ (named, r) _ (ap (λ (x : Data). displaced t done species charge path x) is.spells.there
    ∙ then_ok _ ms _ (table_from displace_keys path ms has.keys)
    ∙ then_ok _ named _ (need_named_from done path ms named has.named)
    ∙ then_ok _ charge _ (met _ _ charge (record { low = omega (arith, ints, is.opposite); high = omega (arith, ints, is.opposite) }))
    ∙ then_ok _ r _ (displacement_from t.grid.side path ms r (record { by = has.by; v = has.v; is = is.is.1 })))
