-- The parcels of a tile while its particles are pushed one after another.
use Rattle.std.proofs.Common.{◌≡◌, ℕ, ◌<◌, ◌≤◌, Bool, true, false, cond, List, [], ◌∷◌, ◌++◌, length, map, Option, refl, sym, ap, ◌∙◌, subst, arith}
use Rattle.std.proofs.Common.{append-nil}
use Rattle.std.proofs.Math.IntN.{ℤ, ◌+ℤ◌}
use Rattle.std.specs.Prelude.{All, ◌==◌}
use Rattle.std.specs.List.{filter}
use Rattle.std.proofs.lemmas.Bool.Decides.{nat_tests}
use Rattle.std.proofs.lemmas.List.{map-append}
use Rattle.std.proofs.lemmas.List.Elements.{filter-append}
use Rattle.pic_num.specs.declared.axis.Axis.{Axis}
use Rattle.pic_num.specs.declared.motion.Particle.{Particle}
use Rattle.pic_num.specs.Limits.{most_side, most_particles}
use Rattle.pic_num.specs.Sizes.{IsAtMost}
use Rattle.pic_num.specs.Space.{Triple, Spot}
use Rattle.pic_block.proofs.BlockLaws.{in_zone_shaped}
use Rattle.pic_block.proofs.ShapeLaws.{shaped_back}
use Rattle.pic_grid.specs.declared.stop.Stop.{Stop}
use Rattle.pic_grid.specs.PushPhase.{Surroundings, push_of, halt_of}
use Rattle.pic_grid.specs.Species.{IsKind}
use Rattle.pic_grid.specs.Sums.{sum_over}
use Rattle.pic_grid.specs.Traces.{trace_of, traces, most_flux}
use Rattle.pic_grid.proofs.OverLaws.{sum_over-append, sum_over-one}
use Rattle.pic_tile.specs.Same.{Same}
use Rattle.pic_tile.specs.StopOf.{IsStopOf, lesser}
use Rattle.pic_tile.proofs.SameLaws.{same_refl, same_is, same_trans, same_swap, same_cons}
use Rattle.pic_tile.proofs.StopLaws.{stop_none, stop_append, stop_one}
use Rattle.pic_tile.specs.declared.parcel.Parcel.{Parcel}
use Rattle.pic_tile.specs.Directions.{here}
use Rattle.pic_tile.specs.Layers.{layers_from, layers_size, lowest_cell}
use Rattle.pic_tile.specs.Leaving.{way, after_its_push, going}
use Rattle.pic_tile.specs.Parcels.{IsParcel}
use Rattle.pic_tile.specs.Tiling.{Tiling}
use Rattle.pic_push.specs.HeldApart.{IsFreshParcel}
use Rattle.pic_push.specs.Sends.{trace, Sends, HasHeadroom}
use Rattle.pic_push.proofs.TraceSizeLaws.{flux_size}

-- those that leave that way, with one particle more
going_more : (w : Surroundings) (m : Tiling) (d : ℕ) (done : List Particle) (x : Particle)
    → going w m d (done ++ x ∷ []) ≡ going w m d done ++ cond (way w m x == d) (after_its_push w x ∷ []) []
unfolding going
going_more w m d done x =
    ap (λ (ys : List Particle). map (after_its_push w) ys) (filter-append (λ y. way w m y == d) done (x ∷ []))
    ∙ map-append (after_its_push w) (filter (λ y. way w m y == d) done) (filter (λ y. way w m y == d) (x ∷ []))
    ∙ ap (λ (ys : List Particle). map (after_its_push w) (filter (λ y. way w m y == d) done) ++ ys) (one (way w m x == d))
  where
    one : (b : Bool) → map (after_its_push w) (cond b (x ∷ []) []) ≡ cond b (after_its_push w x ∷ []) []
    one true = refl
    one false = refl

chain_more : (b : Bool) (y : Particle) (chain goes : List Particle) → Same chain goes → Same (cond b (y ∷ chain) chain) (goes ++ cond b (y ∷ []) [])
chain_more true y chain goes h = same_trans (y ∷ chain) (y ∷ goes) (goes ++ y ∷ []) (same_cons y chain goes h) (same_swap (y ∷ []) goes)
chain_more false y chain goes h = same_trans chain goes (goes ++ []) h (same_is goes (goes ++ []) (sym (append-nil goes)))

traces_more : (w : Surroundings) (done : List Particle) (x : Particle) (a : Axis) (c : Spot)
    → traces w (done ++ x ∷ []) a c ≡ traces w done a c +ℤ trace w x a c
unfolding traces
traces_more w done x a c =
    let f = λ (y : Particle). trace_of w.side w.kinds y (push_of w y) a c in
    sum_over-append f done (x ∷ []) ∙ ap (λ (v : ℤ). sum_over f done +ℤ v) (sum_over-one f x)

-- a parcel after one push more
pub parcel_more : (w : Surroundings) (m : Tiling) (done : List Particle) (tile d : ℕ) (x : Particle) (p q : Parcel) → IsParcel w m done tile d p
    → Sends w m x d p q → IsParcel w m (done ++ x ∷ []) tile d q
parcel_more w m done tile d x p q h s = record {
  dir_is = s.dir_is ∙ h.dir_is;
  chain = subst (λ (goes : List Particle). Same q.chain goes) (sym (going_more w m d done x))
      (subst (λ (chain : List Particle). Same chain (going w m d done ++ cond (way w m x == d) (after_its_push w x ∷ []) [])) (sym s.chain_is)
      (chain_more (way w m x == d) (after_its_push w x) p.chain (going w m d done) h.chain));
  flux = record {
    low = sym s.shape.low ∙ h.flux.low;
    size = sym s.shape.size ∙ h.flux.size;
    values = λ a c inside.
        let before = in_zone_shaped q.flux p.flux c (shaped_back p.flux q.flux s.shape) inside in
        s.adds.at a c before ∙ ap (λ (v : ℤ). v +ℤ trace w x a c) (h.flux.values a c before) ∙ sym (traces_more w done x a c);
  };
  halt = λ same. subst (IsStopOf w (done ++ x ∷ [])) (sym (s.stop_is ∙ ap (λ (e : ℕ). cond (e == here) both p.stop) same))
      (stop_append w done (x ∷ []) p.stop (halt_of x (push_of w x)) (h.halt same) (stop_one w x));
  none = λ other. s.stop_is ∙ if_same (d == here) (apart other) ∙ h.none other;
}
  where
    both : Option Stop
    both = lesser p.stop (halt_of x (push_of w x))

    apart : (d ≡ here → ⊥) → d == here ≡ false
    apart other = grind (arith, nat_tests)

    if_same : (b : Bool) → b ≡ false → cond b both p.stop ≡ p.stop
    if_same true e = cc
    if_same false e = refl

-- a parcel before the push, those that are to be pushed taken out
pub parcel_none : (w : Surroundings) (m : Tiling) (tile d : ℕ) (p q : Parcel) → IsFreshParcel m tile d p → q ≡ record p { chain = [] }
    → IsParcel w m [] tile d q
unfolding going traces sum_over
parcel_none w m tile d p q fresh is = subst (λ (r : Parcel). IsParcel w m [] tile d r) (sym is) (record {
  dir_is = fresh.dir_is;
  chain = same_refl [];
  flux = record { low = fresh.flux.low; size = fresh.flux.size; values = fresh.flux.values };
  halt = λ same. subst (IsStopOf w []) (sym fresh.quiet) (stop_none w [] (λ i d below. absurd (omega (arith, below))));
  none = λ other. fresh.quiet;
})

-- it has room for a path more
pub parcel_room : (w : Surroundings) (m : Tiling) (done : List Particle) (tile d : ℕ) (low : Spot) (size : Triple) (p : Parcel) → 0 < w.side
    → w.side ≤ most_side → All IsKind w.kinds → length done ≤ most_particles → low ≡ lowest_cell m tile → size ≡ m.size → IsParcel w m done tile d p
    → HasHeadroom low size d p
parcel_room w m done tile d low size p some side kinds few at thick h = record {
  low_is = h.flux.low ∙ (λ i. layers_from (sym thick i) (sym at i) d);
  size_is = h.flux.size ∙ (λ i. layers_size (sym thick i) d);
  most = record {
    at_most = λ a c inside. subst (λ (v : ℤ). IsAtMost v most_flux) (sym (h.flux.values a c inside))
        ((flux_size w done most_particles some side kinds few).at_most a c);
  };
}
