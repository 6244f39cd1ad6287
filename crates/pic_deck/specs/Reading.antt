-- The deck that some bytes are, and the bytes that are refused as no text.
use Rattle.std.specs.Prelude.{◌≡◌, ◌≤◌, ℕ, pos, List, length, codes, nat_le, if◌then◌else◌, Option, Some, None, Result, Ok, Err}
use Rattle.std.specs.Str.{is_utf8}
use Rattle.toml.specs.Data.{Members}
use Rattle.toml.specs.Parse.{parse_document}
use Rattle.pic_walk.specs.Bounds.{most_bytes}
use Rattle.pic_walk.specs.Walk.{Walked}
use Rattle.pic_deck.specs.declared.refusal.Refusal.{Refusal}
use Rattle.pic_deck.specs.declared.refusal.Refusal.TheVariants.{Text, Limit}
use Rattle.pic_deck.specs.Keys.{deck}
use Rattle.pic_deck.specs.Refusal.{ReadDeck, refusal_of}

-- the table that some bytes are: TOML, in UTF-8
unfoldable pub document : List ℕ → Option Members
document bytes = if is_utf8 bytes then parse_document bytes else None

-- what a walk gives, its fault as a refusal
unfoldable pub as_read : {A : Type 0} → Walked A → Result A Refusal
as_read (Ok a) = Ok a
as_read (Err fault) = Err (refusal_of fault)

-- the deck that a document is
unfoldable pub deck_in : Option Members → ReadDeck
deck_in None = Err Text
deck_in (Some ms) = as_read (deck ms)

-- the refusal of too many bytes
abbrev pub too_long : ℕ → Refusal
too_long size = Limit (codes "deck") (pos size) (pos 0) (pos most_bytes)

-- the deck that some bytes are, not too many
unfoldable pub walk : List ℕ → ReadDeck
walk bytes =
    if nat_le (length bytes) most_bytes then deck_in (document bytes) else Err (too_long (length bytes))

-- the bytes are few enough, and no TOML document
pub record IsNoText (bytes : List ℕ) : Type 0 where
  pub size : length bytes ≤ most_bytes
  pub none : document bytes ≡ None
