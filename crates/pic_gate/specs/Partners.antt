-- Who waits for whom at a gate that holds two workers.
use Rattle.std.specs.Prelude.{ℕ, eqb, if◌then◌else◌, Option, Some, None}
use Rattle.pic_gate.specs.declared.gate.Point.{Point}
use Rattle.pic_gate.specs.declared.gate.Point.TheVariants.{Claimed, Posted}
use Rattle.pic_gate.specs.declared.hold.Partner.{Partner}
use Rattle.pic_gate.specs.declared.hold.Partner.TheVariants.{First, Second}

-- at a claim the first worker waits for the second, and the second for the first; no other waits,
-- and none at a post
abbrev pub partner_at : ℕ → Point → Option Partner
partner_at worker Posted = None
partner_at worker Claimed =
    if eqb worker 0 then Some Second else if eqb worker 1 then Some First else None
