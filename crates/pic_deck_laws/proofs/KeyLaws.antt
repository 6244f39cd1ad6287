-- A table has no other keys than the listed ones exactly where each of its keys is listed.
use Rattle.std.proofs.Common.{Ordering, Less, Equal, Greater, ◌≡◌, ℕ, zero, suc, ◌<◌, true, false, List}
use Rattle.std.proofs.Common.{[], length, get_or, Option, Some, None, inl, inr, refl, sym, ap, ◌∙◌, arith}
use Rattle.std.specs.Prelude.{is_some, bytes_eq}
use Rattle.std.specs.Cmp.Lexicographic.{slice_cmp}
use Rattle.std.specs.List.{AllPass}
use Rattle.std.specs.Ordering.{nat_cmp, is_eq, match_ordering}
use Rattle.std.proofs.lemmas.Bool.{cases_Bool, false≢true}
use Rattle.std.proofs.lemmas.Map.Text.{is_eq-slice_cmp}
use Rattle.std.proofs.lemmas.Slice.Eq.{bytes_eq-Decides}
use Rattle.toml.specs.Data.{Data, Members, no_members, member, get_member}
use Rattle.pic_walk.specs.Walk.{is_listed, member_keys}
use Rattle.pic_deck_laws.specs.Spelling.{HasOnly}

-- one key of a look-up
not_here : (o : Ordering) (rest : Option Data) (d : Data) → is_eq o ≡ false → rest ≡ None → match_ordering o rest (Some d) rest ≡ None
not_here Less rest d other none = none
not_here Equal rest d other none = absurd (cc other)
not_here Greater rest d other none = none

here : (o : Ordering) (rest : Option Data) (d : Data) → is_eq o ≡ true → is_some (match_ordering o rest (Some d) rest) ≡ true
here Less rest d same = absurd (cc same)
here Equal rest d same = refl
here Greater rest d same = absurd (cc same)

behind : (o : Ordering) (rest : Option Data) (d : Data) → is_some rest ≡ true → is_some (match_ordering o rest (Some d) rest) ≡ true
behind Less rest d there = there
behind Equal rest d there = refl
behind Greater rest d there = there

-- a key that isn't listed is none of a table's, all of whose keys are
other_key : (keys : List (List ℕ)) (key l : List ℕ) → is_listed keys key ≡ false → is_listed keys l ≡ true → bytes_eq key l ≡ false
other_key keys key l unlisted listed = elim (cases_Bool (bytes_eq key l)) [
  | inl same ↦ absurd (false≢true (sym unlisted ∙ ap (is_listed keys) ((bytes_eq-Decides key l).0 same) ∙ listed))
  | inr other ↦ other
]

pub only_from_all : (keys : List (List ℕ)) (t : Members) → AllPass (is_listed keys) (member_keys t) → HasOnly keys t
only_from_all keys no_members all key unlisted = refl
only_from_all keys (member l d ms) all key unlisted =
    not_here (slice_cmp nat_cmp key l) (get_member key ms) d
    (is_eq-slice_cmp key l ∙ other_key keys key l unlisted (all 0 [] (omega arith)))
    (only_from_all keys ms (λ k e h. all (suc k) e (omega (arith, h))) key unlisted)

-- a key of a table is found in it
found : (t : Members) (k : ℕ) (e : List ℕ) → k < length (member_keys t) → is_some (get_member (get_or (member_keys t) k e) t) ≡ true
found no_members k e h = absurd (omega (arith, h))
found (member l d ms) zero e h = here (slice_cmp nat_cmp l l) (get_member l ms) d (is_eq-slice_cmp l l ∙ (bytes_eq-Decides l l).1 refl)
found (member l d ms) (suc k) e h =
    behind (slice_cmp nat_cmp (get_or (member_keys ms) k e) l) (get_member (get_or (member_keys ms) k e) ms) d (found ms k e (omega (arith, h)))

pub all_from_only : (keys : List (List ℕ)) (t : Members) → HasOnly keys t → AllPass (is_listed keys) (member_keys t)
all_from_only keys t only k e h = elim (cases_Bool (is_listed keys (get_or (member_keys t) k e))) [
  | inl listed ↦ listed
  | inr unlisted ↦
      absurd (false≢true (sym (ap is_some (only (get_or (member_keys t) k e) unlisted)) ∙ found t k e h))
]
