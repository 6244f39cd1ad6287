-- The parts of what fills a species: a walk accepts them exactly where they are spelled, within their limits.
use Rattle.std.proofs.Common.{◌≡◌, ℕ, pos, ◌<◌, ◌≤◌, ◌≤ℤ◌, Bool, List, length, slice_index}
use Rattle.std.proofs.Common.{Some, Ok, refl, ap, ◌∙◌, subst, lit<, arith}
use Rattle.std.specs.Prelude.{codes, position, nat_lt}
use Rattle.std.specs.List.{All, position_or_len}
use Rattle.std.proofs.lemmas.Bool.{ltb-true}
use Rattle.std.proofs.lemmas.Int.{ints}
use Rattle.std.proofs.lemmas.List.{get_or_default}
use Rattle.std.proofs.lemmas.Option.{cond_some}
use Rattle.toml.specs.Data.{Data, string, Members}
use Rattle.pic_num.specs.Limits.{allowance_of}
use Rattle.pic_block.specs.Cells.{Grid}
use Rattle.pic_walk.specs.declared.displacement.Displacement.{Displacement}
use Rattle.pic_walk.specs.declared.draw.Draw.{Draw}
use Rattle.pic_walk.specs.declared.point6.Point6.{Point6}
use Rattle.pic_walk.specs.declared.sites.Sites.{Sites}
use Rattle.pic_walk.specs.Bounds.{most_seed, fastest, widest_gap, fastest_drift, widest_spread}
use Rattle.pic_walk.specs.Displacement.{IsDisplacement, displacement}
use Rattle.pic_walk.specs.Draw.{IsDraw, seed_limits, draw}
use Rattle.pic_walk.specs.Extent.{extent_of, IsExtent}
use Rattle.pic_walk.specs.FillKind.{has}
use Rattle.pic_walk.specs.Points.{no_point, IsPoint, ArePoints, point_limits, point_of, point, point_list}
use Rattle.pic_walk.specs.Sites.{AreSites, sites}
use Rattle.pic_walk.specs.Terms.{TermsView}
use Rattle.pic_walk.specs.Walk.{some_or, text, need}
use Rattle.pic_walk.proofs.WalkLaws.{then_ok, went, there}
use Rattle.pic_deck.specs.declared.species.Species.{Species}
use Rattle.pic_deck.specs.Fill.{species_number}
use Rattle.pic_deck_laws.specs.FillTables.{HasThree, HasSigned, HasNameOf, IsSix, SpellsDraw}
use Rattle.pic_deck_laws.specs.NumberRows.{point_numbers, rows, IsParticle}
use Rattle.pic_deck_laws.specs.Spelling.{integers}
use Rattle.pic_deck_laws.proofs.ValueLaws.{need_ok, need_from, need_whole_ok, need_whole_from, is_there}
use Rattle.pic_deck_laws.proofs.ListLaws.{list_ok, list_from, all_fit, fit_all}
use Rattle.pic_deck_laws.proofs.NumberRowLaws.{row_ok, row_of, point_stands}
use Rattle.pic_deck_laws.proofs.ThreeLaws.{need_three_ok, need_three_from, need_signed_ok, need_signed_from, by_three, up_to, in_below}

-- Sites
pub record SitesIn (t : TermsView) (ms : Members) (s : Sites) : Type 0 where
  pub first : HasThree ms (codes "first") s.first
  pub gap : HasThree ms (codes "gap") s.gap
  pub count : HasThree ms (codes "count") s.count
  pub v : HasSigned ms (codes "v") s.v
  pub are : AreSites t s

pub sites_ok : (t : TermsView) → IsExtent (extent_of t.grid) → (path : List ℕ) (ms : Members) (s : Sites) → sites t path ms ≡ Ok s → SitesIn t ms s
unfolding sites
sites_ok t extent path ms s e =
    let a = went _ _ _ e in
    let b = went _ _ _ a.then in
    let c = went _ _ _ b.then in
    let d = went _ _ _ c.then in
    let low : pos 0 ≤ℤ pos 0 = omega (arith, ints) in
    let one : pos 0 ≤ℤ pos 1 = omega (arith, ints) in
    let first = need_three_ok _ _ _ low low low _ path ms a.value a.first in
    let gap = need_three_ok _ _ _ low low low _ path ms b.value b.first in
    let count = need_three_ok _ _ _ one one one _ path ms c.value c.first in
    let v = need_signed_ok (fastest t.grid.side) _ path ms d.value d.first in
    let made : Sites = record { first = a.value; gap = b.value; count = c.value; v = d.value } in
    let same : made ≡ s = cc d.then in
    let most = (allowance_of t.version).particles in
    subst (SitesIn t ms) same (record {
      first = first.has;
      gap = gap.has;
      count = count.has;
      v = v.has;
      are = record {
        first = record {
          x = omega (arith, ints, first.x.high, extent.x_some);
          y = omega (arith, ints, first.y.high, extent.y_some);
          z = omega (arith, ints, first.z.high, extent.z_some);
        };
        gap = by_three (λ k. slice_index b.value k ≤ widest_gap t.version t.grid.side)
            (omega (arith, ints, gap.x.high)) (omega (arith, ints, gap.y.high)) (omega (arith, ints, gap.z.high));
        some = by_three (λ k. 1 ≤ slice_index c.value k)
            (omega (arith, ints, count.x.low)) (omega (arith, ints, count.y.low)) (omega (arith, ints, count.z.low));
        few = by_three (λ k. slice_index c.value k ≤ most)
            (omega (arith, ints, count.x.high)) (omega (arith, ints, count.y.high)) (omega (arith, ints, count.z.high));
        speed = v.most;
      };
    })

pub sites_from : (t : TermsView) (path : List ℕ) (ms : Members) (s : Sites) → SitesIn t ms s → sites t path ms ≡ Ok s
unfolding sites
sites_from t path ms s is =
    let are = is.are in
    then_ok _ s.first _ (need_three_from _ _ _ _ path ms s.first (record {
      has = is.first;
      x = in_below _ _ are.first.x;
      y = in_below _ _ are.first.y;
      z = in_below _ _ are.first.z;
    }))
    ∙ then_ok _ s.gap _ (need_three_from _ _ _ _ path ms s.gap (record {
      has = is.gap;
      x = up_to 0 _ _ (omega arith) (are.gap 0 (lit< tt));
      y = up_to 0 _ _ (omega arith) (are.gap 1 (lit< tt));
      z = up_to 0 _ _ (omega arith) (are.gap 2 (lit< tt));
    }))
    ∙ then_ok _ s.count _ (need_three_from _ _ _ _ path ms s.count (record {
      has = is.count;
      x = up_to 1 _ _ (are.some 0 (lit< tt)) (are.few 0 (lit< tt));
      y = up_to 1 _ _ (are.some 1 (lit< tt)) (are.few 1 (lit< tt));
      z = up_to 1 _ _ (are.some 2 (lit< tt)) (are.few 2 (lit< tt));
    }))
    ∙ then_ok _ s.v _ (need_signed_from (fastest t.grid.side) _ path ms s.v (record { has = is.v; most = are.speed }))

-- Draws
pub record DrawIn (side : ℕ) (ms : Members) (d : Draw) : Type 0 where
  pub spells : SpellsDraw ms d
  pub is : IsDraw side d

pub draw_ok : (side : ℕ) (path : List ℕ) (ms : Members) (r : Draw) → draw side path ms ≡ Ok r → DrawIn side ms r
unfolding draw
draw_ok side path ms r e =
    let a = went _ _ _ e in
    let b = went _ _ _ a.then in
    let c = went _ _ _ b.then in
    let d = went _ _ _ c.then in
    let low : pos 0 ≤ℤ pos 0 = omega (arith, ints) in
    let seed = need_whole_ok seed_limits _ path ms a.value low a.first in
    let stream = need_whole_ok seed_limits _ path ms b.value low b.first in
    let drift = need_signed_ok (fastest_drift side) _ path ms c.value c.first in
    let spread = need_three_ok _ _ _ low low low _ path ms d.value d.first in
    let made : Draw = record { seed = a.value; stream = b.value; drift = c.value; spread = d.value } in
    let same : made ≡ r = cc d.then in
    subst (DrawIn side ms) same (record {
      spells = record { seed = seed.0; stream = stream.0; drift = drift.has; spread = spread.has };
      is = record {
        seed = omega (arith, ints, seed.1.high);
        stream = omega (arith, ints, stream.1.high);
        drift = drift.most;
        spread = by_three (λ k. slice_index d.value k ≤ widest_spread side)
            (omega (arith, ints, spread.x.high)) (omega (arith, ints, spread.y.high)) (omega (arith, ints, spread.z.high));
      };
    })

pub draw_from : (side : ℕ) (path : List ℕ) (ms : Members) (r : Draw) → DrawIn side ms r → draw side path ms ≡ Ok r
unfolding draw
draw_from side path ms r has =
    let spells = has.spells in
    let is = has.is in
    then_ok _ r.seed _ (need_whole_from seed_limits _ path ms r.seed spells.seed (up_to 0 most_seed r.seed (omega arith) is.seed))
    ∙ then_ok _ r.stream _ (need_whole_from seed_limits _ path ms r.stream spells.stream (up_to 0 most_seed r.stream (omega arith) is.stream))
    ∙ then_ok _ r.drift _ (need_signed_from (fastest_drift side) _ path ms r.drift (record { has = spells.drift; most = is.drift }))
    ∙ then_ok _ r.spread _ (need_three_from _ _ _ _ path ms r.spread (record {
      has = spells.spread;
      x = up_to 0 _ _ (omega arith) (is.spread 0 (lit< tt));
      y = up_to 0 _ _ (omega arith) (is.spread 1 (lit< tt));
      z = up_to 0 _ _ (omega arith) (is.spread 2 (lit< tt));
    }))

-- Displacements
pub record DisplacementIn (side : ℕ) (ms : Members) (d : Displacement) : Type 0 where
  pub by : HasSigned ms (codes "by") d.by
  pub v : HasSigned ms (codes "v") d.v
  pub is : IsDisplacement side d

pub displacement_ok : (side : ℕ) (path : List ℕ) (ms : Members) (r : Displacement) → displacement side path ms ≡ Ok r → DisplacementIn side ms r
unfolding displacement
displacement_ok side path ms r e =
    let a = went _ _ _ e in
    let b = went _ _ _ a.then in
    let by = need_signed_ok side _ path ms a.value a.first in
    let v = need_signed_ok (fastest side) _ path ms b.value b.first in
    let made : Displacement = record { by = a.value; v = b.value } in
    let same : made ≡ r = cc b.then in
    subst (DisplacementIn side ms) same (record { by = by.has; v = v.has; is = record { way = by.most; speed = v.most } })

pub displacement_from : (side : ℕ) (path : List ℕ) (ms : Members) (r : Displacement) → DisplacementIn side ms r → displacement side path ms ≡ Ok r
unfolding displacement
displacement_from side path ms r has =
    then_ok _ r.by _ (need_signed_from side _ path ms r.by (record { has = has.by; most = has.is.way }))
    ∙ then_ok _ r.v _ (need_signed_from (fastest side) _ path ms r.v (record { has = has.v; most = has.is.speed }))

-- The name of an earlier species
pub text_is : (path : List ℕ) (d : Data) (s : List ℕ) → text path d ≡ Ok s → d ≡ string s
unfolding text some_or
text_is path (string r) s e = ap string cc
text_is path _ s e = absurd (cc e)

pub text_from : (path s : List ℕ) → text path (string s) ≡ Ok s
unfolding text some_or
text_from path s = refl

pub position_below : {A : Type 0} (p : A → Bool) (xs : List A) (i : ℕ) → position p xs ≡ Some i → i < length xs
position_below p xs i e =
    let is = cond_some (nat_lt (position_or_len p xs) (length xs)) (position_or_len p xs) i e in
    subst (λ (k : ℕ). k < length xs) is.1 (ltb-true (position_or_len p xs) (length xs) is.0)

pub need_named_ok : (done : List Species) (path : List ℕ) (ms : Members) (i : ℕ) → need (species_number done) (codes "of") path ms ≡ Ok i → HasNameOf ms done i
unfolding species_number
need_named_ok done path ms i e =
    let found = need_ok _ _ path ms i e in
    let w = went _ _ _ found.reads in
    record {
      name = w.value;
      there = found.has ∙ ap (λ x. Some x) (text_is _ found.value w.value w.first);
      found = is_there _ _ i w.then;
    }

pub need_named_from : (done : List Species) (path : List ℕ) (ms : Members) (i : ℕ) → HasNameOf ms done i
    → need (species_number done) (codes "of") path ms ≡ Ok i
unfolding species_number
need_named_from done path ms i has =
    need_from _ _ path ms (string has.name) i has.there
    (then_ok _ has.name _ (text_from _ has.name) ∙ there _ _ i has.found)

-- Points
pub points_ok : (g : Grid) → IsExtent (extent_of g) → (path : List ℕ) (d : Data) (ps : List Point6) → point_list g path d ≡ Ok ps
    → (d ≡ rows point_numbers ps) × All (IsParticle g) ps
unfolding point_list point
points_ok g extent path d ps e =
    let is =
    list_ok (point g) (λ p. integers (point_numbers p)) (λ _. IsParticle g)
    (λ done p v a h. row_ok (point_limits g) point_of point_numbers (IsParticle g) (point_stands g extent) p v a h) path d ps e
    in
    (is.is, all_fit (IsParticle g) 0 ps is.fit)

pub points_from : (g : Grid) → IsExtent (extent_of g) → (path : List ℕ) (ps : List Point6) → All (IsParticle g) ps
    → point_list g path (rows point_numbers ps) ≡ Ok ps
unfolding point_list point
points_from g extent path ps all =
    list_from (point g) (λ p. integers (point_numbers p)) (λ _. IsParticle g)
    (λ done p a fits. row_of (point_limits g) point_of point_numbers (IsParticle g) (point_stands g extent) p a fits) path ps
    (fit_all (IsParticle g) 0 ps all)

pub particles_of_points : (g : Grid) (ps : List Point6) → ArePoints g ps → All IsSix ps → All (IsParticle g) ps
particles_of_points g ps are six k d h =
    let one = six k d h in
    record { allowed = subst (IsPoint g) (get_or_default ps k no_point d h) (are.each k h); places = one.places; speeds = one.speeds }
