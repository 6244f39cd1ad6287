-- The end record of a dump, field by field: this project's profile.
use Rattle.std.specs.Prelude.{ℤ, ℕ, suc, ◌||◌, Bool, nat_lt, nat_eq, unsigned_abs, if◌then◌else◌, List, [], ◌∷◌, sum, Option, Some, None, unwrap_or}
use Rattle.pic_num.specs.declared.motion.What.{What}
use Rattle.pic_num.specs.declared.motion.What.TheVariants.{Speed, Turn, Far}
use Rattle.pic_num.specs.declared.axis.Axis.{Axis}
use Rattle.pic_num.specs.Limits.{most_value, most_force, most_speed, most_turn}
use Rattle.pic_num.specs.Space.{Triple}
use Rattle.pic_block.specs.Cells.{axis_of}
use Rattle.pic_grid.specs.declared.stop.Phase.{Phase}
use Rattle.pic_grid.specs.declared.stop.Phase.TheVariants.{Half1, Half2, Electric}
use Rattle.pic_grid.specs.declared.stop.Bound.{Bound}
use Rattle.pic_grid.specs.declared.stop.Bound.TheVariants.{Value, Force}
use Rattle.pic_grid.specs.declared.stop.Stop.{Stop}
use Rattle.pic_grid.specs.declared.stop.Stop.TheVariants.{Field, Push}
use Rattle.pic_grid.specs.declared.stop.EndMark.{EndMark}
use Rattle.pic_grid.specs.declared.stop.EndMark.TheVariants.{Done, Stopped}
use Rattle.pic_fields.specs.Parser.{Parser, done, ◌>>=◌, checked, mapped}
use Rattle.pic_fields.specs.Number.{byte_at, i128_at, is_from_to, within}
use Rattle.pic_record.specs.Fields.{wrong_step, wrong_end, below, the_step}
use Rattle.pic_record.specs.Layout.{LayoutView}

-- a byte that passes a test of the end record
unfoldable pub code_at : (ℕ → Bool) → Parser ℕ
code_at test = checked wrong_end test byte_at

-- a number below another
unfoldable pub below_at : ℕ → Parser ℕ
below_at n = below wrong_end n

abbrev pub is_phase : ℕ → Bool
is_phase n = nat_eq n 1 || nat_eq n 3 || nat_eq n 4

abbrev pub phase_of : ℕ → Phase
phase_of n = if nat_eq n 1 then Half1 else (if nat_eq n 3 then Half2 else Electric)

abbrev pub bound_of : ℕ → Bound
bound_of n = if nat_eq n 1 then Value else Force

abbrev pub what_of : ℕ → What
what_of n = if nat_eq n 1 then Speed else (if nat_eq n 2 then Turn else Far)

unfoldable pub phase_at : Parser Phase
phase_at = mapped phase_of (code_at is_phase)

unfoldable pub bound_at : Parser Bound
bound_at = mapped bound_of (code_at (is_from_to 1 2))

unfoldable pub what_at : Parser What
what_at = mapped what_of (code_at (is_from_to 1 3))

unfoldable pub axis_at : Parser Axis
axis_at = mapped axis_of (code_at (is_from_to 0 2))

-- the cell of a stop
unfoldable pub stop_cell_at : Triple → Parser (List ℕ)
stop_cell_at n = below_at n.x >>= (λ x. below_at n.y >>= (λ y. below_at n.z >>= (λ z. done (x ∷ y ∷ z ∷ []))))

-- the bounds that a stop's number passes, with cells of this side
abbrev pub bound_limit : Bound → ℕ
bound_limit Value = most_value
bound_limit Force = most_force

abbrev pub what_limit : ℕ → What → ℕ
what_limit side Speed = most_speed
what_limit side Turn = most_turn
what_limit side Far = side

abbrev pub is_past : ℕ → ℤ → Bool
is_past limit v = nat_lt limit (unsigned_abs v)

unfoldable pub past_at : ℕ → Parser ℤ
past_at limit = checked wrong_end (is_past limit) i128_at

-- what stopped a field phase
unfoldable pub field_stop_at : LayoutView → Parser Stop
field_stop_at l =
    phase_at
    >>= (λ phase. bound_at
    >>= (λ bound. axis_at
    >>= (λ axis. stop_cell_at l.cells >>= (λ cell. past_at (bound_limit bound) >>= (λ value. done (Field phase bound axis cell value))))))

-- what stopped a push
unfoldable pub push_stop_at : LayoutView → Parser Stop
push_stop_at l =
    below_at (sum l.counts)
    >>= (λ id. what_at >>= (λ what. axis_at >>= (λ axis. past_at (what_limit l.side what) >>= (λ value. done (Push id what axis value)))))

-- where no frame is due any more the run is done, and else it was stopped
abbrev pub is_kind : Option ℕ → ℕ → Bool
is_kind None kind = nat_eq kind 0
is_kind (Some due) kind = nat_eq kind 1 || nat_eq kind 2

-- the steps that a stop may stand in: after the last frame, and up to the one that is due
abbrev pub first_after : Option ℕ → ℕ
first_after None = 1
first_after (Some last) = suc last

-- a run that is done; `next` is what follows the record
unfoldable pub done_at : {A : Type 0} → LayoutView → (EndMark → Parser A) → Parser A
done_at l next = the_step l.steps >>= (λ steps. next (Done steps))

-- a run that a field value stopped, or the push of a particle, in a step from low to high
unfoldable pub field_end_at : {A : Type 0} → LayoutView → ℕ → ℕ → (EndMark → Parser A) → Parser A
field_end_at l low high next = within wrong_step low high >>= (λ step. field_stop_at l >>= (λ stop. next (Stopped step stop)))

unfoldable pub push_end_at : {A : Type 0} → LayoutView → ℕ → ℕ → (EndMark → Parser A) → Parser A
push_end_at l low high next = within wrong_step low high >>= (λ step. push_stop_at l >>= (λ stop. next (Stopped step stop)))

-- the end record of a kind
unfoldable pub end_of_kind : {A : Type 0} → LayoutView → ℕ → ℕ → (EndMark → Parser A) → ℕ → Parser A
end_of_kind l low high next kind =
    if nat_eq kind 0 then done_at l next else (if nat_eq kind 1 then field_end_at l low high next else push_end_at l low high next)

-- the end record, behind its mark
unfoldable pub end_at : {A : Type 0} → LayoutView → Option ℕ → Option ℕ → (EndMark → Parser A) → Parser A
end_at l last due next = code_at (is_kind due) >>= end_of_kind l (first_after last) (unwrap_or due 0) next
