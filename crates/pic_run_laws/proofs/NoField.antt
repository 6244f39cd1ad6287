-- The walk of a table without the key `field`: the deck's E is that of no field, which is 0 everywhere.
use Rattle.std.proofs.Common.{◌≡◌, ℕ, Bool, true, false, leb, if◌then◌else◌, List, [], length, codes, Option, Some, None, Ok, Err}
use Rattle.std.proofs.Common.{refl, ap, sym, subst, ◌∙◌}
use Rattle.std.proofs.Math.IntN.{pos, ◌+ℤ◌}
use Rattle.toml.specs.Data.{Members, Data, get_member}
use Rattle.pic_num.specs.declared.axis.Axis.{Axis}
use Rattle.pic_num.specs.declared.axis.Axis.TheVariants.{X, Y, Z}
use Rattle.pic_num.specs.Space.{spot, along}
use Rattle.pic_grid.specs.Sums.{sum_over}
use Rattle.pic_walk.specs.Bounds.{most_bytes}
use Rattle.pic_walk.specs.Path.{key_at}
use Rattle.pic_walk.specs.Walk.{Walked, known, listed, first_unlisted, given, optional}
use Rattle.pic_walk.proofs.WalkLaws.{went}
use Rattle.pic_deck.specs.declared.fields.InitialFields.{InitialFields}
use Rattle.pic_deck.specs.Deck.{DeckView, deck_view}
use Rattle.pic_deck.specs.Initial.{set_up}
use Rattle.pic_deck.specs.Keys.{deck, deck_keys, zeros, no_field}
use Rattle.pic_deck.specs.Reading.{as_read, deck_in, document, walk, too_long}
use Rattle.pic_deck.specs.Refusal.{ReadDeck}
use Rattle.pic_displace.specs.Couples.{HasNoE}
use Rattle.pic_run_laws.specs.NoField.{NoFieldIsNoE}

-- the members of a table that has only listed keys
same_members : (keys : List (List ℕ)) (ms t : Members) → listed keys [] ms ≡ Ok t → ms ≡ t
unfolding listed known
same_members keys ms t is = go (first_unlisted keys ms) is
  where
    go : (o : Option (List ℕ)) → known [] o ms ≡ Ok t → ms ≡ t
    go None e = cc
    go (Some k) e = absurd cc

-- what a walk has of a key that isn't there
absent : {A : Type 0} (a b : A) (f : List ℕ → Data → Walked A) (key path : List ℕ) (ms : Members) → get_member key ms ≡ None
    → optional a f key path ms ≡ Ok b → a ≡ b
unfolding optional given
absent a b f key path ms none is =
    let first : given a f (key_at path key) None ≡ Ok b = ap (λ (o : Option Data). given a f (key_at path key) o) (sym none) ∙ is in
    cc first

-- no field is 0 everywhere
nothing : (a : Axis) → along a (spot zeros) +ℤ pos 0 ≡ pos 0
nothing X = refl
nothing Y = refl
nothing Z = refl

-- the deck of a table
of_table : (ms : Members) (d : DeckView) → get_member (codes "field") ms ≡ None → deck ms ≡ Ok d → HasNoE d
unfolding deck set_up sum_over
of_table ms d none is =
    let all = went _ _ d is in
    let same : ms ≡ all.value = same_members (deck_keys ms) ms all.value all.first in
    let settings = went _ _ d all.then in
    let field = went _ _ d settings.then in
    let e = absent no_field field.value _ (codes "field") [] all.value (subst (λ (t : Members). get_member (codes "field") t ≡ None) same none) field.first in
    let species = went _ _ d field.then in
    let devices = went _ _ d species.then in
    let forces = went _ _ d devices.then in
    let is_deck : deck_view settings.value field.value species.value devices.value ≡ d = cc forces.then in
    subst HasNoE is_deck
    (subst (λ (f : InitialFields). HasNoE (deck_view settings.value f species.value devices.value)) e (record { none = λ a p within. nothing a }))

pub no_field_is_no_e : NoFieldIsNoE
unfolding walk deck_in as_read
no_field_is_no_e bytes ms d table none is = go (leb (length bytes) most_bytes) is
  where
    read : (w : Walked DeckView) → as_read w ≡ Ok d → w ≡ Ok d
    read (Ok a) e = let same : a ≡ d = cc e in ap (λ (x : DeckView). Ok x) same
    read (Err fault) e = absurd cc

    go : (b : Bool) → (let r : ReadDeck = if b then deck_in (document bytes) else Err (too_long (length bytes)) in r ≡ Ok d) → HasNoE d
    go true e = of_table ms d none (read (deck ms) (ap deck_in (sym table) ∙ e))
    go false e = absurd cc
