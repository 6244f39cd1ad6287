-- The walk of what fills a species makes its tests.
use Rattle.std.proofs.Common.{◌≡◌, ℕ, ℤ, ◌+◌, Bool, true, false, cond, not, map, List, [], ◌∷◌, ◌++◌, Option, Some, None}
use Rattle.std.proofs.Common.{refl, sym, ap, ◌∙◌, subst}
use Rattle.std.specs.Prelude.{codes, position, bytes_eq, filter, find, is_some, slice_get, slice_index_or, if◌then◌else◌}
use Rattle.std.specs.List.{prefix_len}
use Rattle.std.proofs.Math.ListN.{get_or-map}
use Rattle.std.proofs.lemmas.List.{length-map}
use Rattle.toml.specs.Data.{Data, string, Members}
use Rattle.pic_walk.specs.declared.fault.Fault.{Fault}
use Rattle.pic_walk.specs.declared.fault.Fault.TheVariants.{Unknown, Name}
use Rattle.pic_walk.specs.declared.fill_kind.FillKind.{FillKind}
use Rattle.pic_walk.specs.declared.fill_kind.FillKind.TheVariants as source
use Rattle.pic_walk.specs.declared.point6.Point6.{Point6}
use Rattle.pic_walk.specs.Displacement.{way_limits, displacement}
use Rattle.pic_walk.specs.Draw.{seed_limits, drift_limits, spread_limits, draw}
use Rattle.pic_walk.specs.FillKind.{sources, source_key, has, alone, only}
use Rattle.pic_walk.specs.Limits.{thrice}
use Rattle.pic_walk.specs.Path.{key_at}
use Rattle.pic_walk.specs.Points.{speed_limits, point_limits, point, point_list}
use Rattle.pic_walk.specs.Sites.{place_limits, gap_limits, count_limits, sites}
use Rattle.pic_walk.specs.Terms.{TermsView}
use Rattle.pic_walk.specs.Walk.{Walked, ◌>>=◌, some_or, text, need}
use Rattle.pic_deck.specs.declared.species.Species.{Species}
use Rattle.pic_deck.specs.Fill.{lattice_keys, lattice, random_keys, random, pair_keys, species_number}
use Rattle.pic_deck.specs.Fill.{pair, displace_keys, opposite, displaced, fill_by, species_fill}
use Rattle.pic_deck.specs.Species.{species_at, no_species}
use Rattle.pic_deck_laws.specs.FillTables.{HasNameOf}
use Rattle.pic_deck_laws.specs.FillTests.{Known, no_known, text_of, number_named, or_zero, named_in, or_points, source_in, tests_of_sources}
use Rattle.pic_deck_laws.specs.FillTests.{of_tests, sites_tests, draw_tests, displacement_tests, particle_limits, source_tests, fill_tests}
use Rattle.pic_deck_laws.specs.Tests.{test}
use Rattle.pic_deck_laws.specs.ValueTests.{members_of, value_at, or_empty, numbers_tests, list_tests, table_tests, needed_tests}
use Rattle.pic_deck_laws.proofs.TestLaws.{Along, then_along, last_along}
use Rattle.pic_deck_laws.proofs.WalkTests.{within_then, whole_along, numbers_along, three_along, table_along, need_along}
use Rattle.pic_deck_laws.proofs.ValueLaws.{table_ok}
use Rattle.pic_deck_laws.proofs.ListLaws.{list_along}
use Rattle.pic_deck_laws.proofs.SourceLaws.{need_named_ok}
use Rattle.pic_deck_laws.proofs.AloneLaws.{only_ok}

-- What is known of species
abbrev pub known_by : Species → Known
known_by s = record { name = s.name; charge = s.kind.charge; count = s.count }

prefix_map : {A B : Type 0} (p : B → Bool) (f : A → B) (xs : List A) → prefix_len p (map f xs) ≡ prefix_len (λ x. p (f x)) xs
prefix_map p f [] = refl
prefix_map p f (x ∷ xs) = ap (λ (n : ℕ). cond (p (f x)) (1 + n) 0) (prefix_map p f xs)

position_map : {A B : Type 0} (p : B → Bool) (f : A → B) (xs : List A) → position p (map f xs) ≡ position (λ x. p (f x)) xs
position_map p f xs = rw (prefix_map (λ y. not (p y)) f xs, length-map xs f)

pub named_is : (done : List Species) (ms : Members) (i : ℕ) → HasNameOf ms done i → named_in (map known_by done) ms ≡ known_by (species_at done i)
named_is done ms i has =
    let text : text_of (value_at (codes "of") ms) ≡ has.name = ap (λ (o : Option Data). text_of (or_empty o)) has.there in
    let number : number_named (map known_by done) has.name ≡ Some i =
    position_map (λ (o : Known). bytes_eq o.name has.name) known_by done ∙ has.found
    in
    ap (λ (s : List ℕ). slice_index_or (map known_by done) (or_zero (number_named (map known_by done) s)) no_known) text
    ∙ ap (λ (o : Option ℕ). slice_index_or (map known_by done) (or_zero o) no_known) number
    ∙ get_or-map known_by done i no_species

-- The name of an earlier species
there_along : {A : Type 0} (q : Fault) (o : Option A) → Along (test (is_some o) q ∷ []) (some_or q o)
unfolding some_or
there_along q (Some a) = record { is = refl }
there_along q None = record { is = refl }

of_along : (done : List Species) (path : List ℕ) (d : Data) → Along (of_tests (map known_by done) path d) (species_number done path d)
unfolding species_number text some_or ◌>>=◌ of_tests
of_along done path (string s) =
    let same = position_map (λ (o : Known). bytes_eq o.name s) known_by done in
    record {
      is = (there_along (Name path) (position (λ (o : Species). bytes_eq o.name s) done)).is
          ∙ ap (λ (o : Option ℕ). cond (is_some o) None (Some (Name path))) (sym same);
    }
of_along done path _ = record { is = refl }

-- The keys of the sources
sites_along : (t : TermsView) (path : List ℕ) (ms : Members) → Along (sites_tests t path ms) (sites t path ms)
unfolding sites sites_tests
sites_along t path ms =
    then_along _ _ (need_along _ _ (three_along (place_limits t.grid)) (codes "first") path ms)
    (λ first _. then_along _ _ (need_along _ _ (three_along (gap_limits t)) (codes "gap") path ms)
    (λ gap _. then_along _ _ (need_along _ _ (three_along (count_limits t.version)) (codes "count") path ms)
    (λ count _. last_along _ _ (need_along _ _ (numbers_along (thrice (speed_limits t.grid.side))) (codes "v") path ms))))

draw_along : (side : ℕ) (path : List ℕ) (ms : Members) → Along (draw_tests side path ms) (draw side path ms)
unfolding draw draw_tests
draw_along side path ms =
    then_along _ _ (need_along _ _ (whole_along seed_limits) (codes "seed") path ms)
    (λ seed _. then_along _ _ (need_along _ _ (whole_along seed_limits) (codes "stream") path ms)
    (λ stream _. then_along _ _ (need_along _ _ (numbers_along (drift_limits side)) (codes "drift") path ms)
    (λ drift _. last_along _ _ (need_along _ _ (three_along (spread_limits side)) (codes "spread") path ms))))

displacement_along : (side : ℕ) (path : List ℕ) (ms : Members) → Along (displacement_tests side path ms) (displacement side path ms)
unfolding displacement displacement_tests
displacement_along side path ms =
    then_along _ _ (need_along _ _ (numbers_along (way_limits side)) (codes "by") path ms)
    (λ by _. last_along _ _ (need_along _ _ (numbers_along (thrice (speed_limits side))) (codes "v") path ms))

-- The value of a source
point_along : (t : TermsView) (done : List Point6) (path : List ℕ) (d : Data) → Along (numbers_tests (point_limits t.grid) path d) (point t.grid done path d)
unfolding point
point_along t done path d = last_along _ _ (numbers_along (point_limits t.grid) path d)

points_along : (t : TermsView) (path : List ℕ) (d : Data) → Along (list_tests (λ _. numbers_tests (point_limits t.grid)) path d) (point_list t.grid path d)
unfolding point_list
points_along t path d = list_along (point t.grid) (λ _. numbers_tests (point_limits t.grid)) (point_along t) path d

lattice_along : (t : TermsView) (path : List ℕ) (d : Data) → Along (table_tests lattice_keys path d ++ sites_tests t path (members_of d)) (lattice t path d)
unfolding lattice
lattice_along t path d =
    then_along _ _ (table_along lattice_keys path d) (λ ms is. rw (ap members_of (table_ok lattice_keys path d ms is).0) (sites_along t path ms))

random_along : (t : TermsView) (path : List ℕ) (d : Data) → Along (table_tests random_keys path d
    ++ (needed_tests (particle_limits t.version) (codes "count") path (members_of d) ++ draw_tests t.grid.side path (members_of d))) (random t path d)
unfolding random
random_along t path d =
    then_along _ _ (table_along random_keys path d)
    (λ ms is. rw (ap members_of (table_ok random_keys path d ms is).0)
    (then_along _ _ (need_along _ _ (whole_along _) (codes "count") path ms)
    (λ count _. last_along _ _ (draw_along t.grid.side path ms))))

pair_along : (t : TermsView) (done : List Species) (path : List ℕ) (d : Data) → Along (table_tests pair_keys path d
    ++ (needed_tests (of_tests (map known_by done)) (codes "of") path (members_of d) ++ draw_tests t.grid.side path (members_of d))) (pair t done path d)
unfolding pair
pair_along t done path d =
    then_along _ _ (table_along pair_keys path d)
    (λ ms is. rw (ap members_of (table_ok pair_keys path d ms is).0)
    (then_along _ _ (need_along _ _ (of_along done) (codes "of") path ms)
    (λ named _. last_along _ _ (draw_along t.grid.side path ms))))

displaced_along : (t : TermsView) (done : List Species) (species : List ℕ) (charge : ℤ) (path : List ℕ) (d : Data)
    → Along (source_tests source.Displace t (map known_by done) species charge path d) (displaced t done species charge path d)
unfolding displaced opposite source_tests
displaced_along t done species charge path d =
    then_along _ _ (table_along displace_keys path d)
    (λ ms is. rw (ap members_of (table_ok displace_keys path d ms is).0)
    (then_along _ _ (need_along _ _ (of_along done) (codes "of") path ms)
    (λ named has. rw (named_is done ms named (need_named_ok done path ms named has))
    (within_then _ (key_at species (codes "charge")) charge _ (last_along _ _ (displacement_along t.grid.side path ms))))))

source_along : (k : FillKind) (t : TermsView) (done : List Species) (species : List ℕ) (charge : ℤ) (path : List ℕ) (d : Data)
    → Along (source_tests k t (map known_by done) species charge path d) (fill_by k t done species charge path d)
unfolding source_tests
source_along source.Points t done species charge path d = last_along _ _ (points_along t path d)
source_along source.Lattice t done species charge path d = last_along _ _ (lattice_along t path d)
source_along source.Random t done species charge path d = last_along _ _ (random_along t path d)
source_along source.Pair t done species charge path d = last_along _ _ (pair_along t done path d)
source_along source.Displace t done species charge path d = last_along _ _ (displaced_along t done species charge path d)

-- One source alone
alone_more : (path : List ℕ) (s k : FillKind) (b : Bool) (ks : List FillKind) (o : Option FillKind)
    → Along (map (λ j. test false (Unknown (key_at path (source_key j)))) ks) (alone path s o)
    → Along (map (λ j. test false (Unknown (key_at path (source_key j)))) (cond b (k ∷ ks) ks)) (alone path s (cond b (Some k) o))
unfolding alone
alone_more path s k true ks o later = record { is = refl }
alone_more path s k false ks o later = later

alone_along : (path : List ℕ) (t : Members) (s : FillKind) (ss : List FillKind)
    → Along (map (λ j. test false (Unknown (key_at path (source_key j)))) (filter (has t) ss)) (alone path s (find (has t) ss))
unfolding alone
alone_along path t s [] = record { is = refl }
alone_along path t s (k ∷ ks) = alone_more path s k (has t k) _ _ (alone_along path t s ks)

only_more : (path : List ℕ) (s : FillKind) (b : Bool) (ks : List FillKind) (first rest : Walked FillKind)
    → Along (map (λ j. test false (Unknown (key_at path (source_key j)))) ks) first → Along (tests_of_sources path ks) rest
    → Along (tests_of_sources path (cond b (s ∷ ks) ks)) (if b then first else rest)
only_more path s true ks first rest here later = record { is = here.is }
only_more path s false ks first rest here later = later

only_along : (path : List ℕ) (t : Members) (ss : List FillKind) → Along (tests_of_sources path (filter (has t) ss)) (only path t ss)
unfolding only
only_along path t [] = record { is = refl }
only_along path t (s ∷ ss) = only_more path s (has t s) _ _ _ (alone_along path t s ss) (only_along path t ss)

pub source_is : (version : ℕ) (ms : Members) (k : FillKind) → filter (has ms) (sources version) ≡ k ∷ [] → source_in version ms ≡ k
source_is version ms k alone = ap (λ (ks : List FillKind). or_points (slice_get ks 0)) alone

pub fill_along : (t : TermsView) (done : List Species) (path : List ℕ) (charge : ℤ) (ms : Members)
    → Along (fill_tests t (map known_by done) path charge ms) (species_fill t done path charge ms)
unfolding species_fill fill_tests
fill_along t done path charge ms =
    then_along _ _ (only_along path ms (sources t.version))
    (λ k is. subst (λ (j : FillKind). Along (needed_tests (source_tests j t (map known_by done) path charge) (source_key j) path ms)
    (need (fill_by k t done path charge) (source_key k) path ms))
    (sym (source_is t.version ms k (only_ok path ms (sources t.version) k is)))
    (need_along _ _ (source_along k t done path charge) (source_key k) path ms))
