-- The walk of the species makes their tests.
use Rattle.std.proofs.Common.{◌≡◌, ℕ, pos, ◌+◌, Bool, not, ◌&&◌, cond, map, List, [], ◌∷◌, ◌++◌, length, Option, Some, None, Ok}
use Rattle.std.proofs.Common.{unsigned_abs, refl, sym, ap, ◌∙◌, subst}
use Rattle.std.specs.Prelude.{codes, bytes_eq}
use Rattle.std.specs.List.{list_any}
use Rattle.std.proofs.lemmas.List.{map-append}
use Rattle.std.proofs.lemmas.List.Sums.{sum_by-cons}
use Rattle.toml.specs.Data.{Data, string, array, Items, no_items, item, Members}
use Rattle.pic_num.specs.declared.motion.Kind.{Kind}
use Rattle.pic_num.specs.Limits.{most_species, most_mass, least_charge, greatest_charge, allowance_of}
use Rattle.pic_num.specs.Space.{triple}
use Rattle.pic_block.specs.Cells.{count_of}
use Rattle.pic_walk.specs.declared.fault.Fault.TheVariants.{Name}
use Rattle.pic_walk.specs.Extent.{extent_of, IsExtent}
use Rattle.pic_walk.specs.FillKind.{source_key}
use Rattle.pic_walk.specs.Limits.{from_to}
use Rattle.pic_walk.specs.Path.{element_at}
use Rattle.pic_walk.specs.Terms.{TermsView}
use Rattle.pic_walk.specs.Walk.{◌>>=◌, some_or, text, elements, each, count_of_items}
use Rattle.pic_walk.proofs.TableLaws.{list_any-map}
use Rattle.pic_deck.specs.declared.species.Fill.{Fill}
use Rattle.pic_deck.specs.declared.species.Fill.TheVariants.{Points, Lattice, Random, Pair, Displace}
use Rattle.pic_deck.specs.declared.species.Species.{Species}
use Rattle.pic_deck.specs.Keys.{species_keys, species_name, species_kind, counted, species_in, one_species, species_list}
use Rattle.pic_deck.specs.Species.{is_name, is_new_name, filled_count, particles_of}
use Rattle.pic_deck_laws.specs.FillTables.{source_of, SpellsFill}
use Rattle.pic_deck_laws.specs.FillTests.{Known, text_of, named_in, said_count}
use Rattle.pic_deck_laws.specs.NumberRows.{point_numbers}
use Rattle.pic_deck_laws.specs.SpeciesTable.{HasFill, IsSpeciesTable}
use Rattle.pic_deck_laws.specs.SpeciesTests.{name_tests, kind_tests, count_in, particles_in, particles_test, species_key_tests, one_species_tests}
use Rattle.pic_deck_laws.specs.SpeciesTests.{known_of, each_species_tests, species_tests, SpeciesAreTested}
use Rattle.pic_deck_laws.specs.Spelling.{integers}
use Rattle.pic_deck_laws.specs.ValueTests.{number_of, items_of, members_of, sizes_of, value_at, or_empty, limit_test, count_test}
use Rattle.pic_deck_laws.proofs.TestLaws.{Along, makes_tests, then_along, last_along, test_along}
use Rattle.pic_deck_laws.proofs.WalkTests.{within_along, within_then, number_along, whole_along, multiplier_along, table_along, need_along, last_length}
use Rattle.pic_deck_laws.proofs.ValueLaws.{table_ok, spelled_count, sizes_spelled}
use Rattle.pic_deck_laws.proofs.FillTestLaws.{known_by, named_is, source_is, fill_along}
use Rattle.pic_deck_laws.proofs.SpeciesLaws.{kind_ok, fill_in_ok, one_ok}

-- The name
name_along : (done : List Species) (path : List ℕ) (d : Data) → Along (name_tests (map known_by done) path d) (species_name done path d)
unfolding species_name is_new_name text some_or ◌>>=◌ name_tests
name_along done path (string s) =
    let same : list_any (λ (o : Species). bytes_eq o.name s) done ≡ list_any (λ (o : Known). bytes_eq o.name s) (map known_by done) =
    list_any-map known_by (λ (o : Known). bytes_eq o.name s) done
    in
    record {
      is = (test_along (is_name s && not (list_any (λ (o : Species). bytes_eq o.name s) done)) s (Name path)).is
          ∙ ap (λ (b : Bool). cond (is_name s && not b) None (Some (Name path))) same;
    }
name_along done path _ = record { is = refl }

-- The kind
kind_along : (path : List ℕ) (t : Members) → Along (kind_tests path t) (species_kind path t)
unfolding species_kind kind_tests
kind_along path t =
    then_along _ _ (need_along _ _ (number_along (from_to least_charge greatest_charge)) (codes "charge") path t)
    (λ charge _. then_along _ _ (need_along _ _ (whole_along (from_to (pos 1) (pos most_mass))) (codes "mass") path t)
    (λ mass _. then_along _ _ (need_along _ _ multiplier_along (codes "kick") path t)
    (λ kick _. last_along _ _ (need_along _ _ multiplier_along (codes "turn") path t))))

-- The particles
pub particles_known : (done : List Species) → particles_in (map known_by done) ≡ particles_of done
particles_known [] = refl
particles_known (s ∷ ss) =
    sum_by-cons (λ (k : Known). k.count) (known_by s) (map known_by ss)
    ∙ ap (λ (n : ℕ). s.count + n) (particles_known ss)
    ∙ sym (sum_by-cons (λ (o : Species). o.count) s ss)

said_is : (done : List Species) (d : Data) (f : Fill) → SpellsFill done d f → said_count (source_of f) (map known_by done) d ≡ filled_count done f
said_is done d (Points points) is =
    ap (λ (v : Data). count_of_items (items_of v)) is.0 ∙ spelled_count (λ p. integers (point_numbers p)) points
said_is done d (Lattice first gap count v) is =
    ap (λ (x : Data). count_of (triple (sizes_of (items_of (value_at (codes "count") (members_of x)))))) is.there
    ∙ ap (λ (o : Option Data). count_of (triple (sizes_of (items_of (or_empty o))))) is.holds.count.there
    ∙ ap (λ (ns : List ℕ). count_of (triple ns)) (sizes_spelled count)
said_is done d (Random count seed stream drift spread) is =
    ap (λ (x : Data). unsigned_abs (number_of (value_at (codes "count") (members_of x)))) is.there
    ∙ ap (λ (o : Option Data). unsigned_abs (number_of (or_empty o))) is.holds.count
said_is done d (Pair named seed stream drift spread) is =
    ap (λ (x : Data). (named_in (map known_by done) (members_of x)).count) is.there
    ∙ ap (λ (k : Known). k.count) (named_is done is.members named is.holds.named)
said_is done d (Displace named by v) is =
    ap (λ (x : Data). (named_in (map known_by done) (members_of x)).count) is.there
    ∙ ap (λ (k : Known). k.count) (named_is done is.members named is.holds.named)

count_is : (version : ℕ) (done : List Species) (ms : Members) (f : Fill) → HasFill version ms done f
    → count_in version (map known_by done) ms ≡ filled_count done f
count_is version done ms f has =
    let same = source_is version ms (source_of f) has.alone in
    ap (λ k. said_count k (map known_by done) (value_at (source_key k) ms)) same
    ∙ ap (λ (o : Option Data). said_count (source_of f) (map known_by done) (or_empty o)) has.there
    ∙ said_is done has.value f has.spells

counted_along : (version : ℕ) (done : List Species) (path : List ℕ) (ms : Members) (f : Fill) → HasFill version ms done f
    → Along (particles_test version (map known_by done) path ms ∷ []) (counted version done path f)
unfolding counted particles_test
counted_along version done path ms f has =
    subst (λ (n : ℕ). Along (limit_test (from_to (pos 0) (pos (allowance_of version).particles)) path (pos n) ∷ []) (counted version done path f))
    (sym (ap (λ (m : ℕ). m + count_in version (map known_by done) ms) (particles_known done)
    ∙ ap (λ (m : ℕ). particles_of done + m) (count_is version done ms f has)))
    (last_along _ _ (within_along _ path (pos (particles_of done + filled_count done f))))

-- A species
charge_is : (path : List ℕ) (ms : Members) (k : Kind) → species_kind path ms ≡ Ok k → number_of (value_at (codes "charge") ms) ≡ k.charge
charge_is path ms k e = ap (λ (o : Option Data). number_of (or_empty o)) (kind_ok path ms k e).charge

key_along : (t : TermsView) → IsExtent (extent_of t.grid) → (done : List Species) (path : List ℕ) (ms : Members)
    → Along (species_key_tests t (map known_by done) path ms) (species_in t done path ms)
unfolding species_in species_key_tests
key_along t extent done path ms =
    then_along _ _ (need_along _ _ (name_along done) (codes "name") path ms)
    (λ named _. then_along _ _ (kind_along path ms)
    (λ k is. rw (charge_is path ms k is)
    (then_along _ _ (fill_along t done path k.charge ms)
    (λ f has. last_along _ _ (counted_along t.version done path ms f (fill_in_ok t extent done path k.charge ms f has).has)))))

one_along : (t : TermsView) → IsExtent (extent_of t.grid) → (done : List Species) (path : List ℕ) (d : Data)
    → Along (one_species_tests t (map known_by done) path d) (one_species t done path d)
unfolding one_species one_species_tests
one_along t extent done path d =
    then_along _ _ (table_along (species_keys t.version) path d)
    (λ ms is. rw (ap members_of (table_ok (species_keys t.version) path d ms is).0) (key_along t extent done path ms))

known_is : (t : TermsView) (done : List Species) (ms : Members) (s : Species) → IsSpeciesTable t done ms s
    → known_of t.version (map known_by done) ms ≡ known_by s
known_is t done ms s is =
    let name : text_of (value_at (codes "name") ms) ≡ s.name = ap (λ (o : Option Data). text_of (or_empty o)) is.name in
    let charge : number_of (value_at (codes "charge") ms) ≡ s.kind.charge = ap (λ (o : Option Data). number_of (or_empty o)) is.charge in
    let count : count_in t.version (map known_by done) ms ≡ s.count = count_is t.version done ms s.fill is.fill ∙ sym is.next.filled.count in
    λ i. record { name = name i; charge = charge i; count = count i }

pub known_more : (t : TermsView) → IsExtent (extent_of t.grid) → (done : List Species) (path : List ℕ) (d : Data) (s : Species)
    → one_species t done path d ≡ Ok s
    → map known_by (done ++ s ∷ []) ≡ map known_by done ++ known_of t.version (map known_by done) (members_of d) ∷ []
known_more t extent done path d s e =
    let is = one_ok t extent done path d s e in
    map-append known_by done (s ∷ [])
    ∙ ap (λ (k : Known). map known_by done ++ k ∷ []) (sym (known_is t done is.members s is.holds))
    ∙ ap (λ (ms : Members). map known_by done ++ known_of t.version (map known_by done) ms ∷ []) (sym (ap members_of is.there))

-- All species
each_along : (t : TermsView) → IsExtent (extent_of t.grid) → (path : List ℕ) (done : List Species) (ds : Items)
    → Along (each_species_tests t (map known_by done) path (length done) ds) (each (one_species t) path done ds)
unfolding each each_species_tests
each_along t extent path done no_items = record { is = refl }
each_along t extent path done (item d ds) =
    then_along _ _ (one_along t extent done (element_at path (length done)) d)
    (λ s is. subst (λ (n : ℕ). Along (each_species_tests t (map known_by done ++ known_of t.version (map known_by done) (members_of d) ∷ []) path n ds)
    (each (one_species t) path (done ++ s ∷ []) ds))
    (last_length done s)
    (subst (λ (ks : List Known). Along (each_species_tests t ks path (length (done ++ s ∷ [])) ds) (each (one_species t) path (done ++ s ∷ []) ds))
    (known_more t extent done _ d s is)
    (each_along t extent path (done ++ s ∷ []) ds)))

pub species_along : (t : TermsView) → IsExtent (extent_of t.grid) → (path : List ℕ) (d : Data) → Along (species_tests t path d) (species_list t path d)
unfolding species_list elements some_or ◌>>=◌ species_tests count_test
species_along t extent path (array ds) =
    record {
      is = (within_then (from_to (pos 0) (pos most_species)) path (pos (count_of_items ds)) (λ _. each (one_species t) path [] ds)
          (each_along t extent path [] ds)).is;
    }
species_along t extent path _ = record { is = refl }

pub species_are_tested : SpeciesAreTested
species_are_tested t extent path d = makes_tests _ _ (species_along t extent path d)
