-- The keys of a table beside the members that it stands for.
use Rattle.std.proofs.Common.{◌≡◌, ◌∙◌, refl, ap, cond, not, ◌||◌, map, List, [], ◌∷◌, ℕ, Bool, true, false}
use Rattle.std.proofs.Common.{Option, Some, None, Ok, Err, option_map, find, String, Global, Bor, string_bytes}
use Rattle.std.specs.List.{list_any}
use Rattle.std.specs.Map.{keys_of}
use Rattle.toml.specs.View.{members_view}
use Rattle.toml.specs.declared.value.Value.{Value}
use Rattle.std.specs.List.Sorted.{IsStrictlySortedBy}
use Rattle.std.specs.String.{string_cmp}
use Rattle.toml.proofs.Views.{is_before-sorted}
use Rattle.toml.specs.Data.{Members}
use Rattle.pic_walk.specs.declared.fault.Fault.TheVariants.{Unknown}
use Rattle.pic_walk.specs.Path.{key_at}
use Rattle.pic_walk.specs.Walk.{member_keys, is_listed, first_unlisted, keys_ascend, known, listed}

-- a test along a mapped list
pub list_any-map : {X Y : Type 0} (f : X → Y) (p : Y → Bool) (xs : List X) → list_any (λ x. p (f x)) xs ≡ list_any p (map f xs)
list_any-map f p [] = refl
list_any-map f p (x ∷ xs) = ap (λ b. p (f x) || b) (list_any-map f p xs)

abbrev Entry : Type 0
Entry = String Global × Value

found_or : (b : Bool) (k : String Global) (rest : Option (String Global)) (found : Option (List ℕ)) → option_map string_bytes rest ≡ found
    → option_map string_bytes (cond b (Some k) rest) ≡ cond b (Some (string_bytes k)) found
found_or true k rest found e = refl
found_or false k rest found e = e

-- a search among the keys is one among the members' keys
find-member_keys : (p : List ℕ → Bool) (es : List Entry) → option_map string_bytes (find (λ k. p (string_bytes k)) (keys_of es))
    ≡ find p (member_keys (members_view es))
find-member_keys p [] = refl
find-member_keys p (e ∷ es) = found_or (p (string_bytes e.0)) e.0 _ _ (find-member_keys p es)

seen_twice : (r : Option (Bor (String Global))) → option_map (λ k. string_bytes k.now) r ≡ option_map string_bytes (option_map (λ k. k.now) r)
seen_twice None = refl
seen_twice (Some k) = refl

pub first_unlisted-keys : (keys : List (List ℕ)) (r : Option (Bor (String Global))) (es : List Entry) → option_map (λ k. k.now) r
    ≡ find (λ k. not (is_listed keys (string_bytes k))) (keys_of es)
    → option_map (λ k. string_bytes k.now) r ≡ first_unlisted keys (members_view es)
unfolding first_unlisted
first_unlisted-keys keys r es found =
    seen_twice r ∙ ap (option_map string_bytes) found ∙ find-member_keys (λ k. not (is_listed keys k)) es

pub unknown_is : (keys : List (List ℕ)) (path k : List ℕ) (ms : Members) → first_unlisted keys ms ≡ Some k → listed keys path ms ≡ Err (Unknown (key_at path k))
unfolding listed known
unknown_is keys path k ms e = rw e

pub known_is : (keys : List (List ℕ)) (path : List ℕ) (ms : Members) → first_unlisted keys ms ≡ None → listed keys path ms ≡ Ok ms
unfolding listed known
known_is keys path ms e = rw e

-- a key of the document's own table is its path
pub key_at-top : (key : List ℕ) → key_at [] key ≡ key
unfolding key_at
key_at-top key = refl

-- the keys of a map ascend
pub keys_ascend-view : (es : List Entry) → IsStrictlySortedBy string_cmp (keys_of es) → keys_ascend (members_view es) ≡ true
unfolding IsStrictlySortedBy
keys_ascend-view [] h = refl
keys_ascend-view (e ∷ es) h = rw (is_before-sorted e.0 es h.0, keys_ascend-view es h.1)
