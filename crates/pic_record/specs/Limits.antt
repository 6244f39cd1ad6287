-- The lengths of records that the format says: this project's profile.
use Rattle.std.specs.Prelude.{ℕ, Option, Some, None}

-- the bytes of the longest end record, that of a stop at a field value
abbrev pub longest_end : ℕ
longest_end = 37

-- the bytes of the end record of a run that is done, the only one behind the frame of the last step
abbrev pub done_end : ℕ
done_end = 6

-- the bytes of the longest end record that may stand where a frame is due, and where none is
abbrev pub end_most : Option ℕ → ℕ
end_most None = done_end
end_most (Some step) = longest_end
