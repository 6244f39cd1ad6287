-- Where a reader of a dump stands between two records.
use Rattle.std.specs.Prelude.{ℕ, ◌+◌, ◌*◌, ◌^◌, ◌≤◌, Option, Some, None, IfSome}
use Rattle.pic_header.specs.HeaderFields.{header_most}
use Rattle.pic_record.specs.Layout.{LayoutView, IsLayout}

-- what the records depend on, the place, and the step of the last frame
pub record Standing : Type 0 where
  pub layout : LayoutView
  pub place : ℕ
  pub last : Option ℕ

-- how many steps went by with the last frame
abbrev pub passed : Option ℕ → ℕ
passed None = 0
passed (Some step) = step + 1

-- a reader is never so far that its place can't be counted
pub record IsStanding (r : Standing) : Type 0 where
  pub layout : IsLayout r.layout
  pub place : r.place ≤ header_most + passed r.last * 2 ^ 29
  pub last : IfSome r.last (λ step. step ≤ r.layout.steps)
