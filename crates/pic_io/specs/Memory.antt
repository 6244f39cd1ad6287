use Rattle.std.specs.Prelude.{◌<◌, ◌⊎◌, IsSome, ℕ, ◌+◌, ◌-◌, ◌≤◌, ◌==◌, min, List, ◌++◌, length, take}
use Rattle.std.specs.Prelude.{drop, find, Option, Some, IsNone, option_map, unwrap_or, Result, Ok, Err}
use Rattle.pic_io.specs.Told.{Told, raised}

-- a source in memory that fails at listed calls: the bytes left, its greatest piece, the numbers of
-- the calls that fail, the number of the next call, and its faults so far
pub record Supply : Type 0 where
  pub left : List ℕ
  pub piece : ℕ
  pub fails : List ℕ
  pub calls : ℕ
  pub faults : ℕ

-- it tells its bytes
abbrev pub supply_told : Supply → Told
supply_told s = record { bytes = Some s.left; faults = s.faults }

-- how many bytes a take moves into a room of this length
abbrev pub moved_count : List ℕ → ℕ → ℕ → ℕ
moved_count left piece room = min room (min piece (length left))

-- the source after a take: one call more, and the bytes given are gone, or one fault more
abbrev pub after_take : {E : Type 0} → Supply → Result ℕ E → Supply
after_take s (Ok n) = record s { left = drop n s.left; calls = raised s.calls }
after_take s (Err _) = record s { calls = raised s.calls; faults = raised s.faults }

-- a source in memory that never fails: the bytes left, and its greatest piece
pub record Flow : Type 0 where
  pub left : List ℕ
  pub piece : ℕ

-- it tells its bytes, and has no faults
abbrev pub flow_told : Flow → Told
flow_told f = record { bytes = Some f.left; faults = 0 }

-- a sink in memory: the bytes held, how many it has room for, the puts that fail, each with the
-- number of bytes that it still takes, the number of the next put, and its faults so far
pub record Stock : Type 0 where
  pub held : List ℕ
  pub room : ℕ
  pub fails : List (ℕ × ℕ)
  pub calls : ℕ
  pub faults : ℕ

-- it tells its bytes
abbrev pub stock_told : Stock → Told
stock_told s = record { bytes = Some s.held; faults = s.faults }

-- how many bytes this put still takes, where it is listed; of two entries for it the first counts
abbrev pub listed_count : List (ℕ × ℕ) → ℕ → Option ℕ
listed_count fails call = option_map (λ f. f.1) (find (λ f. f.0 == call) fails)

-- the next put of the piece succeeds: it isn't listed, and there is room for the whole piece
pub record Accepts (s : Stock) (piece : List ℕ) : Type 0 where
  pub unlisted : IsNone (listed_count s.fails s.calls)
  pub fits : length s.held + length piece ≤ s.room

-- the next put of the piece fails: it is listed, or there is no room for the whole piece
abbrev pub Refuses : Stock → List ℕ → Type 0
Refuses s piece = IsSome (listed_count s.fails s.calls) ⊎ (s.room < length s.held + length piece)

-- how many bytes a put that fails still takes: the listed number, as far as piece and room go
abbrev pub cut_count : Stock → ℕ → ℕ
cut_count s len =
    let most = min len (s.room - length s.held) in
    min (unwrap_or (listed_count s.fails s.calls) most) most

-- the sink after a put: one put more, and the whole piece is held, or a front of it and one fault more
abbrev pub after_put : {T E : Type 0} → Stock → List ℕ → Result T E → Stock
after_put s piece (Ok _) = record s { held = s.held ++ piece; calls = raised s.calls }
after_put s piece (Err _) = record s {
  held = s.held ++ take (cut_count s (length piece)) piece;
  calls = raised s.calls;
  faults = raised s.faults;
}
