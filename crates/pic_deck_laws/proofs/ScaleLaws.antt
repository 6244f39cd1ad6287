-- The table `scale`: a walk accepts it exactly where it spells four multipliers, and makes its tests.
use Rattle.std.proofs.Common.{◌≡◌, ℕ, ℤ, pos, List, [], ◌∷◌, length, slice_index_or, Some, Ok, unsigned_abs, refl, ap, ◌∙◌, subst, arith}
use Rattle.std.specs.Prelude.{codes}
use Rattle.std.proofs.lemmas.Int.{ints}
use Rattle.toml.specs.Data.{Data, integer, array, no_items, item, Members}
use Rattle.pic_num.specs.declared.mult.Scales.{Scales}
use Rattle.pic_num.specs.Multiplier.{Multiplier, IsMultiplier}
use Rattle.pic_walk.specs.Limits.{limits_at}
use Rattle.pic_walk.specs.Walk.{multiplier_limits, multiplier, need}
use Rattle.pic_walk.proofs.WalkLaws.{then_ok, went}
use Rattle.pic_settings.specs.Keys.{scale_keys, scale}
use Rattle.pic_deck_laws.specs.Spelling.{spelled, fraction, HasTable}
use Rattle.pic_deck_laws.specs.ScaleTable.{HasMultiplier, IsScaleTable, ScalesAreSpelled, multiplier_tests, scale_key_tests, scale_tests, ScalesAreTested}
use Rattle.pic_deck_laws.proofs.TestLaws.{Along, makes_tests, then_along, last_along}
use Rattle.pic_deck_laws.proofs.WalkTests.{multiplier_along, table_along, need_along}
use Rattle.pic_deck_laws.proofs.ValueLaws.{natural_is, FitFrom, Within, numbers_ok, numbers_from}
use Rattle.pic_deck_laws.proofs.ValueLaws.{need_ok, need_from, need_table_ok, need_table_from, table_found}

-- A multiplier
abbrev made_of : List ℤ → Multiplier
made_of zs = record { n = slice_index_or zs 0 (pos 0); k = unsigned_abs (slice_index_or zs 1 (pos 0)) }

record IsFraction (d : Data) (m : Multiplier) : Type 0 where
  is : d ≡ fraction m
  within : IsMultiplier m

two_numbers : (zs : List ℤ) → length zs ≡ 2 → FitFrom (Within multiplier_limits) 0 zs → IsFraction (array (spelled integer zs)) (made_of zs)
unfolding limits_at
two_numbers [] size fit = absurd (omega (arith, size))
two_numbers (a ∷ []) size fit = absurd (omega (arith, size))
two_numbers (a ∷ b ∷ []) size fit =
    let same : b ≡ pos (unsigned_abs b) = natural_is b (unsigned_abs b) (omega (arith, ints, fit.1.0.low)) refl in
    record {
      is = ap (λ (z : ℤ). array (item (integer a) (item (integer z) no_items))) same;
      within = record {
        n_in_range = record { size = omega (arith, ints, fit.0.low, fit.0.high) };
        k_in_range = omega (arith, ints, fit.1.0.low, fit.1.0.high);
      };
    }
two_numbers (a ∷ b ∷ c ∷ zs) size fit = absurd (omega (arith, size))

multiplier_ok : (path : List ℕ) (d : Data) (m : Multiplier) → multiplier path d ≡ Ok m → IsFraction d m
unfolding multiplier
multiplier_ok path d m e =
    let w = went _ _ _ e in
    let found = numbers_ok multiplier_limits path d w.value w.first in
    let made : Multiplier = made_of w.value in
    let same : made ≡ m = cc w.then in
    let is = two_numbers w.value found.size found.fit in
    subst (IsFraction d) same (record { is = found.is ∙ is.is; within = is.within })

multiplier_fits : (m : Multiplier) → IsMultiplier m → FitFrom (Within multiplier_limits) 0 (m.n ∷ pos m.k ∷ [])
unfolding limits_at
multiplier_fits m is = (
  record { low = omega (arith, ints, is.n_in_range.size); high = omega (arith, ints, is.n_in_range.size) },
  (record { low = omega (arith, ints); high = omega (arith, ints, is.k_in_range) }, tt),
)

multiplier_from : (path : List ℕ) (m : Multiplier) → IsMultiplier m → multiplier path (fraction m) ≡ Ok m
unfolding multiplier
multiplier_from path m is = then_ok _ (m.n ∷ pos m.k ∷ []) _ (numbers_from multiplier_limits path (m.n ∷ pos m.k ∷ []) refl (multiplier_fits m is))

pub need_multiplier_ok : (key path : List ℕ) (t : Members) (m : Multiplier) → need multiplier key path t ≡ Ok m → HasMultiplier t key m
need_multiplier_ok key path t m e =
    let found = need_ok _ key path t m e in
    let is = multiplier_ok _ found.value m found.reads in
    record { there = found.has ∙ ap (λ x. Some x) is.is; within = is.within }

pub need_multiplier_from : (key path : List ℕ) (t : Members) (m : Multiplier) → HasMultiplier t key m → need multiplier key path t ≡ Ok m
need_multiplier_from key path t m has = need_from _ key path t (fraction m) m has.there (multiplier_from _ m has.within)

-- The table
scale_ok : (ms : Members) (s : Scales) → scale ms ≡ Ok s → HasTable ms (codes "scale") (λ t. IsScaleTable t s)
unfolding scale
scale_ok ms s e =
    let a = went _ _ _ e in
    let b = went _ _ _ a.then in
    let c = went _ _ _ b.then in
    let d = went _ _ _ c.then in
    let f = went _ _ _ d.then in
    let table = need_table_ok scale_keys (codes "scale") [] ms a.value a.first in
    let made : Scales = record { e_to_b = b.value; b_to_e = c.value; e_force = d.value; b_force = f.value } in
    let same : made ≡ s = cc f.then in
    subst (λ (x : Scales). HasTable ms (codes "scale") (λ t. IsScaleTable t x)) same (record {
      members = a.value;
      there = table.0;
      holds = record {
        keys = table.1;
        e_to_b = need_multiplier_ok _ _ a.value b.value b.first;
        b_to_e = need_multiplier_ok _ _ a.value c.value c.first;
        e_force = need_multiplier_ok _ _ a.value d.value d.first;
        b_force = need_multiplier_ok _ _ a.value f.value f.first;
      };
    })

scale_from : (ms : Members) (s : Scales) → HasTable ms (codes "scale") (λ t. IsScaleTable t s) → scale ms ≡ Ok s
unfolding scale
scale_from ms s has =
    let t = has.members in
    let is = has.holds in
    then_ok _ t _ (need_table_from scale_keys (codes "scale") [] ms t has.there is.keys)
    ∙ then_ok _ s.e_to_b _ (need_multiplier_from _ _ t s.e_to_b is.e_to_b)
    ∙ then_ok _ s.b_to_e _ (need_multiplier_from _ _ t s.b_to_e is.b_to_e)
    ∙ then_ok _ s.e_force _ (need_multiplier_from _ _ t s.e_force is.e_force)
    ∙ then_ok _ s.b_force _ (need_multiplier_from _ _ t s.b_force is.b_force)

pub scales_are_spelled : ScalesAreSpelled
scales_are_spelled ms s = (scale_ok ms s, scale_from ms s)

-- The tests
key_along : (key : List ℕ) (t : Members) → Along (multiplier_tests key t) (need multiplier key (codes "scale") t)
unfolding multiplier_tests
key_along key t = need_along _ _ multiplier_along key (codes "scale") t

pub scale_along : (ms : Members) → Along (scale_tests ms) (scale ms)
unfolding scale scale_tests scale_key_tests
scale_along ms =
    then_along _ _ (need_along _ _ (table_along scale_keys) (codes "scale") [] ms)
    (λ t is. rw (table_found scale_keys (codes "scale") [] ms t is)
    (then_along _ _ (key_along (codes "e_to_b") t)
    (λ e_to_b _. then_along _ _ (key_along (codes "b_to_e") t)
    (λ b_to_e _. then_along _ _ (key_along (codes "e_force") t)
    (λ e_force _. last_along _ _ (key_along (codes "b_force") t))))))

pub scales_are_tested : ScalesAreTested
scales_are_tested ms = makes_tests _ _ (scale_along ms)
