-- The species of a deck: a walk accepts them exactly where a value spells them, each one that may come next.
use Rattle.std.proofs.Common.{◌≡◌, ℕ, ℤ, pos, ◌+◌, ◌≤◌, true, false, not, ◌&&◌, List, [], ◌∷◌, length, Some, Ok}
use Rattle.std.proofs.Common.{inl, inr, sym, ap, ◌∙◌, subst, arith}
use Rattle.std.specs.Prelude.{codes, nat_le, bytes_eq, slice_index_or}
use Rattle.std.specs.List.{list_all}
use Rattle.std.proofs.lemmas.Bool.{and_from, cases_Bool}
use Rattle.std.proofs.lemmas.Bool.Decides.{nat_tests}
use Rattle.std.proofs.lemmas.Int.{ints}
use Rattle.std.proofs.lemmas.List.{get_or_default}
use Rattle.std.proofs.lemmas.List.Folds.{list_any_none}
use Rattle.std.proofs.lemmas.Slice.Eq.{bytes_eq-Decides}
use Rattle.toml.specs.Data.{Data, string, integer, Members}
use Rattle.pic_num.specs.declared.motion.Kind.{Kind}
use Rattle.pic_num.specs.Limits.{most_species, most_mass, most_letters, least_charge, greatest_charge, allowance_of}
use Rattle.pic_grid.specs.Species.{IsName, IsKind, is_name_byte}
use Rattle.pic_walk.specs.declared.fault.Fault.TheVariants.{Name}
use Rattle.pic_walk.specs.declared.limits.Limits.{Limits}
use Rattle.pic_walk.specs.Extent.{extent_of, IsExtent}
use Rattle.pic_walk.specs.FillKind.{sources, source_key}
use Rattle.pic_walk.specs.Limits.{from_to}
use Rattle.pic_walk.specs.Terms.{TermsView}
use Rattle.pic_walk.specs.Walk.{◌>>=◌, elements, count_of_items, table_of}
use Rattle.pic_walk.proofs.LimitLaws.{met, meets}
use Rattle.pic_walk.proofs.WalkLaws.{then_ok, went}
use Rattle.pic_deck.specs.declared.species.Fill.{Fill}
use Rattle.pic_deck.specs.declared.species.Species.{Species}
use Rattle.pic_deck.specs.Fill.{species_fill}
use Rattle.pic_deck.specs.Keys.{species_keys, species_name, species_kind, counted, species_in, one_species, species_list}
use Rattle.pic_deck.specs.Species.{is_name, is_taken, is_new_name, no_species, filled_count, particles_of, IsNewName, IsFill, IsOpposite}
use Rattle.pic_deck.proofs.HeadLaws.{IsNewName-from, named}
use Rattle.pic_deck_laws.specs.FillTables.{source_of}
use Rattle.pic_deck_laws.specs.ScaleTable.{HasMultiplier}
use Rattle.pic_deck_laws.specs.SpeciesTable.{HasFill, IsSpeciesTable, AreSpeciesTables, SpeciesAreSpelled}
use Rattle.pic_deck_laws.specs.Spelling.{natural, Has, HasOnly, IsTable}
use Rattle.pic_deck_laws.proofs.ValueLaws.{passed, limited_ok, limited_from, need_ok, need_from, need_whole_ok, need_whole_from, table_ok, table_from}
use Rattle.pic_deck_laws.proofs.ListLaws.{elements_is, elements_from, each_read, read_each, elements_ok, ok_elements}
use Rattle.pic_deck_laws.proofs.ScaleLaws.{need_multiplier_ok, need_multiplier_from}
use Rattle.pic_deck_laws.proofs.ThreeLaws.{up_to}
use Rattle.pic_deck_laws.proofs.SourceLaws.{text_is, text_from}
use Rattle.pic_deck_laws.proofs.FillLaws.{fill_ok, fill_from}
use Rattle.pic_deck_laws.proofs.AloneLaws.{only_ok, only_from}

-- The name
name_is : (s : List ℕ) → IsName s → is_name s ≡ true
unfolding is_name
name_is s is =
    let least : nat_le 1 (length s) ≡ true = grind (arith, nat_tests, is.least) in
    let most : nat_le (length s) most_letters ≡ true = grind (arith, nat_tests, is.most) in
    and_from (nat_le 1 (length s) && nat_le (length s) most_letters) (list_all is_name_byte s)
    (and_from (nat_le 1 (length s)) (nat_le (length s) most_letters) least most) is.bytes

not_taken : (ss : List Species) (s : List ℕ) → IsNewName ss s → is_taken ss s ≡ false
not_taken ss s is = list_any_none (λ (o : Species). bytes_eq o.name s) ss (λ k d h.
    elim (cases_Bool (bytes_eq (slice_index_or ss k d).name s)) [
      | inl same ↦
          absurd (is.differs k h (ap (λ (o : Species). o.name) (get_or_default ss k no_species d h)
          ∙ (bytes_eq-Decides (slice_index_or ss k d).name s).0 same))
      | inr other ↦ other
    ])

new_name_is : (ss : List Species) (s : List ℕ) → IsNewName ss s → is_new_name ss s ≡ true
unfolding is_new_name
new_name_is ss s is = and_from (is_name s) (not (is_taken ss s)) (name_is s is.name) (ap not (not_taken ss s is))

record IsNamed (done : List Species) (d : Data) (s : List ℕ) : Type 0 where
  is : d ≡ string s
  new : IsNewName done s

name_ok : (done : List Species) (path : List ℕ) (d : Data) (s : List ℕ) → species_name done path d ≡ Ok s → IsNamed done d s
unfolding species_name
name_ok done path d s e =
    let w = went _ _ _ e in
    let is = passed (is_new_name done w.value) w.value s (Name path) w.then in
    record { is = text_is path d w.value w.first ∙ ap string is.1; new = subst (IsNewName done) is.1 (IsNewName-from done w.value is.0) }

name_from : (done : List Species) (path s : List ℕ) → IsNewName done s → species_name done path (string s) ≡ Ok s
unfolding species_name
name_from done path s new = then_ok _ s _ (text_from path s) ∙ named done path s (new_name_is done s new)

-- The kind
pub record KindIn (t : Members) (k : Kind) : Type 0 where
  pub charge : Has t (codes "charge") (integer k.charge)
  pub mass : Has t (codes "mass") (natural k.mass)
  pub kick : HasMultiplier t (codes "kick") k.kick
  pub turn : HasMultiplier t (codes "turn") k.turn
  pub is : IsKind k

abbrev charges : Limits
charges = from_to least_charge greatest_charge

abbrev masses : Limits
masses = from_to (pos 1) (pos most_mass)

pub kind_ok : (path : List ℕ) (t : Members) (k : Kind) → species_kind path t ≡ Ok k → KindIn t k
unfolding species_kind
kind_ok path t k e =
    let a = went _ _ _ e in
    let b = went _ _ _ a.then in
    let c = went _ _ _ b.then in
    let d = went _ _ _ c.then in
    let found = need_ok _ _ path t a.value a.first in
    let charge = limited_ok charges _ found.value a.value found.reads in
    let mass = need_whole_ok masses _ path t b.value (omega (arith, ints)) b.first in
    let made : Kind = record { charge = a.value; mass = b.value; kick = c.value; turn = d.value } in
    let same : made ≡ k = cc d.then in
    subst (KindIn t) same (record {
      charge = found.has ∙ ap (λ x. Some x) charge.is;
      mass = mass.0;
      kick = need_multiplier_ok _ path t c.value c.first;
      turn = need_multiplier_ok _ path t d.value d.first;
      is = record {
        charge_low = charge.within.low;
        charge_high = charge.within.high;
        mass_low = omega (arith, ints, mass.1.low);
        mass_high = omega (arith, ints, mass.1.high);
      };
    })

kind_from : (path : List ℕ) (t : Members) (k : Kind) → KindIn t k → species_kind path t ≡ Ok k
unfolding species_kind
kind_from path t k has =
    then_ok _ k.charge _ (need_from _ _ path t (integer k.charge) k.charge has.charge
    (limited_from charges _ k.charge (record { low = has.is.charge_low; high = has.is.charge_high })))
    ∙ then_ok _ k.mass _ (need_whole_from masses _ path t k.mass has.mass (up_to 1 most_mass k.mass has.is.mass_low has.is.mass_high))
    ∙ then_ok _ k.kick _ (need_multiplier_from _ path t k.kick has.kick)
    ∙ then_ok _ k.turn _ (need_multiplier_from _ path t k.turn has.turn)

-- What fills it
pub record FillIn (t : TermsView) (ms : Members) (done : List Species) (charge : ℤ) (f : Fill) : Type 0 where
  pub has : HasFill t.version ms done f
  pub is : IsFill t done f
  pub opposite : IsOpposite done charge f

pub fill_in_ok : (t : TermsView) → IsExtent (extent_of t.grid) → (done : List Species) (path : List ℕ) (charge : ℤ) (ms : Members) (f : Fill)
    → species_fill t done path charge ms ≡ Ok f → FillIn t ms done charge f
unfolding species_fill
fill_in_ok t extent done path charge ms f e =
    let w = went _ _ _ e in
    let k = w.value in
    let found = need_ok _ (source_key k) path ms f w.then in
    let by = fill_ok k t extent done path charge _ found.value f found.reads in
    record {
      has = record {
        alone = only_ok path ms (sources t.version) k w.first ∙ ap (λ x. x ∷ []) (sym by.source);
        value = found.value;
        there = subst (λ x. Has ms (source_key x) found.value) (sym by.source) found.has;
        spells = by.filled.spells;
      };
      is = by.filled.is;
      opposite = by.filled.opposite;
    }

fill_in_from : (t : TermsView) → IsExtent (extent_of t.grid) → (done : List Species) (path : List ℕ) (charge : ℤ) (ms : Members) (f : Fill)
    → FillIn t ms done charge f → species_fill t done path charge ms ≡ Ok f
unfolding species_fill
fill_in_from t extent done path charge ms f is =
    then_ok _ (source_of f) _ (only_from path ms (sources t.version) (source_of f) is.has.alone)
    ∙ need_from _ (source_key (source_of f)) path ms is.has.value f is.has.there
    (fill_from t extent done path charge _ is.has.value f (record { spells = is.has.spells; is = is.is; opposite = is.opposite }))

-- The count
counted_is : (version : ℕ) (done : List Species) (path : List ℕ) (f : Fill) (n : ℕ) → counted version done path f ≡ Ok n
    → (n ≡ filled_count done f) × (particles_of done + n ≤ (allowance_of version).particles)
unfolding counted
counted_is version done path f n e =
    let w = went _ _ _ e in
    let few = meets _ _ _ _ w.first in
    let same : filled_count done f ≡ n = cc w.then in
    (sym same, omega (arith, ints, few.high, same))

is_counted : (version : ℕ) (done : List Species) (path : List ℕ) (f : Fill) (n : ℕ) → n ≡ filled_count done f
    → particles_of done + n ≤ (allowance_of version).particles → counted version done path f ≡ Ok n
unfolding counted
is_counted version done path f n is few =
    then_ok _ (pos (particles_of done + filled_count done f)) _ (met _ path _ (record { low = omega (arith, ints); high = omega (arith, ints, few, is) }))
    ∙ ap Ok (sym is)

-- A species
species_in_ok : (t : TermsView) → IsExtent (extent_of t.grid) → (done : List Species) (path : List ℕ) (ms : Members) (s : Species)
    → HasOnly (species_keys t.version) ms → species_in t done path ms ≡ Ok s → IsSpeciesTable t done ms s
unfolding species_in
species_in_ok t extent done path ms s keys e =
    let a = went _ _ _ e in
    let b = went _ _ _ a.then in
    let c = went _ _ _ b.then in
    let d = went _ _ _ c.then in
    let found = need_ok _ _ path ms a.value a.first in
    let name = name_ok done _ found.value a.value found.reads in
    let kind = kind_ok path ms b.value b.first in
    let fill = fill_in_ok t extent done path b.value.charge ms c.value c.first in
    let count = counted_is t.version done path c.value d.value d.first in
    let made : Species = record { name = a.value; kind = b.value; count = d.value; fill = c.value } in
    let same : made ≡ s = cc d.then in
    subst (IsSpeciesTable t done ms) same (record {
      keys = keys;
      name = found.has ∙ ap (λ x. Some x) name.is;
      charge = kind.charge;
      mass = kind.mass;
      kick = kind.kick;
      turn = kind.turn;
      fill = fill.has;
      next = record {
        name = name.new;
        kind = kind.is;
        filled = record { fill = fill.is; count = count.0; opposite = fill.opposite };
        few = count.1;
      };
    })

species_in_from : (t : TermsView) → IsExtent (extent_of t.grid) → (done : List Species) (path : List ℕ) (ms : Members) (s : Species)
    → IsSpeciesTable t done ms s → species_in t done path ms ≡ Ok s
unfolding species_in
species_in_from t extent done path ms s is =
    let next = is.next in
    then_ok _ s.name _ (need_from _ _ path ms (string s.name) s.name is.name (name_from done _ s.name next.name))
    ∙ then_ok _ s.kind _ (kind_from path ms s.kind (record {
      charge = is.charge;
      mass = is.mass;
      kick = is.kick;
      turn = is.turn;
      is = next.kind;
    }))
    ∙ then_ok _ s.fill _ (fill_in_from t extent done path s.kind.charge ms s.fill (record {
      has = is.fill;
      is = next.filled.fill;
      opposite = next.filled.opposite;
    }))
    ∙ then_ok _ s.count _ (is_counted t.version done path s.fill s.count next.filled.count next.few)

abbrev pub Spells : TermsView → List Species → Data → Species → Type 0
Spells t done d s = IsTable d (λ ms. IsSpeciesTable t done ms s)

pub one_ok : (t : TermsView) → IsExtent (extent_of t.grid) → (done : List Species) (path : List ℕ) (d : Data) (s : Species)
    → one_species t done path d ≡ Ok s → Spells t done d s
unfolding one_species
one_ok t extent done path d s e =
    let w = went _ _ _ e in
    let is = table_ok (species_keys t.version) path d w.value w.first in
    record { members = w.value; there = is.0; holds = species_in_ok t extent done path w.value s is.1 w.then }

one_from : (t : TermsView) → IsExtent (extent_of t.grid) → (done : List Species) (path : List ℕ) (d : Data) (s : Species) → Spells t done d s
    → one_species t done path d ≡ Ok s
unfolding one_species
one_from t extent done path d s is =
    ap (λ (v : Data). table_of (species_keys t.version) path v >>= species_in t done path) is.there
    ∙ then_ok _ is.members _ (table_from (species_keys t.version) path is.members is.holds.keys)
    ∙ species_in_from t extent done path is.members s is.holds

-- All species
species_ok : (t : TermsView) → IsExtent (extent_of t.grid) → (path : List ℕ) (d : Data) (ss : List Species) → species_list t path d ≡ Ok ss
    → AreSpeciesTables t d ss
unfolding species_list
species_ok t extent path d ss e =
    let w = went _ _ _ e in
    let v = went _ _ _ w.then in
    let few = meets _ _ _ _ v.first in
    let read = each_read (one_species t) (Spells t) (one_ok t extent) path [] w.value ss v.then in
    let are = elements_ok (Spells t) w.value ss read in
    record {
      tables = record { items = w.value; there = elements_is path d w.value w.first; elements = are };
      few = omega (arith, ints, few.high, are.count);
    }

species_from : (t : TermsView) → IsExtent (extent_of t.grid) → (path : List ℕ) (d : Data) (ss : List Species) → AreSpeciesTables t d ss
    → species_list t path d ≡ Ok ss
unfolding species_list
species_from t extent path d ss is =
    let ds = is.tables.items in
    then_ok _ ds _ (ap (elements path) is.tables.there ∙ elements_from path ds)
    ∙ then_ok _ (pos (count_of_items ds)) _ (met (from_to (pos 0) (pos most_species)) path (pos (count_of_items ds))
    (record { low = omega (arith, ints); high = omega (arith, ints, is.few, is.tables.elements.count) }))
    ∙ read_each (one_species t) (Spells t) (one_from t extent) path [] ds ss (ok_elements (Spells t) ds ss is.tables.elements)

pub species_are_spelled : SpeciesAreSpelled
species_are_spelled t extent path d ss = (species_ok t extent path d ss, species_from t extent path d ss)
