-- Every end record that fits where it stands is read from its text.
use Rattle.std.proofs.Common.{◌≡◌, ℕ, ℤ, suc, ◌+◌, ◌^◌, ◌<◌, ◌≤◌, true, List, [], ◌∷◌, ◌++◌, length, unsigned_abs, sum}
use Rattle.std.proofs.Common.{Option, Some, None, IsSomeAnd, Ok, refl, sym, ap, subst, ◌∙◌, arith, append_assoc, append-nil}
use Rattle.std.specs.Prelude.{nat_eq, unwrap_or}
use Rattle.std.proofs.lemmas.Bool.{lt-ltb, eq-eqb}
use Rattle.std.proofs.lemmas.List.{length-append}
use mir.Syntax.{w128}
use mir.Val.{SFits}
use Rattle.pic_num.specs.declared.axis.Axis.{Axis}
use Rattle.pic_num.specs.declared.motion.What.{What}
use Rattle.pic_num.specs.Bytes.{u32_bytes, i128_bytes}
use Rattle.pic_num.specs.Space.{triple, axis_number}
use Rattle.pic_block.specs.Cells.{IsCells}
use Rattle.pic_grid.specs.declared.stop.Phase.{Phase}
use Rattle.pic_grid.specs.declared.stop.Bound.{Bound}
use Rattle.pic_grid.specs.declared.stop.Stop.{Stop}
use Rattle.pic_grid.specs.declared.stop.Stop.TheVariants.{Field, Push}
use Rattle.pic_grid.specs.declared.stop.EndMark.{EndMark}
use Rattle.pic_grid.specs.declared.stop.EndMark.TheVariants.{Done, Stopped}
use Rattle.pic_fields.specs.Parser.{Parser, Input, input, ◌>>=◌, checked, finished}
use Rattle.pic_fields.specs.Number.{u32_at, is_from_to, within}
use Rattle.pic_fields.proofs.NumberLaws.{FitsU32, one_byte, spells_u32, spells_within}
use Rattle.pic_fields.proofs.ReadLaws.{then_ok}
use Rattle.pic_fields.proofs.SpellLaws.{spells_checked, right_5}
use Rattle.pic_record.specs.Due.{due_after}
use Rattle.pic_record.specs.RecordText.{end_tag, phase_code, bound_code, what_code, done_bytes, field_stop_bytes, push_stop_bytes, end_bytes}
use Rattle.pic_record.specs.Fields.{the_step, wrong_step}
use Rattle.pic_record.specs.EndFields.{is_kind, is_past, bound_limit, what_limit, field_stop_at, push_stop_at, done_at, field_end_at, push_end_at}
use Rattle.pic_record.specs.EndFields.{code_at, end_of_kind, end_at}
use Rattle.pic_record.specs.Layout.{LayoutView, IsLayout}
use Rattle.pic_record.specs.Records.{AnEnd, is_tag, last_record, behind_tag, record_at}
use Rattle.pic_record.proofs.EndSpells.{FitsFieldStop, FitsPushStop, field_stop_text, push_stop_text, spells_code, spells_field_stop, spells_push_stop}
use Rattle.pic_header.specs.Readable.{IsReadFrom}
use Rattle.pic_record.specs.Readable.{IsPast, IsFieldStop, IsPushStop, EndsAreRead}
use Rattle.pic_record.proofs.FitLaws.{fits_below}
use Rattle.pic_fields.proofs.FitLaws.{fits_from_to, three_are}
use Rattle.pic_record.proofs.ReadableFrame.{marked, due_most}

-- the parts of a stop
past_fits : (limit : ℕ) (v : ℤ) → IsPast limit v → SFits w128 v × (is_past limit v ≡ true)
past_fits limit v is = (is.fits, lt-ltb limit (unsigned_abs v) is.past)

field_stop_fits : (l : LayoutView) (phase : Phase) (bound : Bound) (axis : Axis) (cell : List ℕ) (v : ℤ) → IsCells l.cells → IsFieldStop l bound cell v
    → FitsFieldStop l (Field phase bound axis cell v)
field_stop_fits l phase bound axis cell v c is =
    let n = l.cells in
    let at = triple cell in
    let x = c.x_most in
    let y = c.y_most in
    let z = c.z_most in (
      tt,
      (
        tt,
        (
          tt,
          (
            (
              fits_below n.x at.x (omega (arith, x)) is.place.x,
              (fits_below n.y at.y (omega (arith, y)) is.place.y, (fits_below n.z at.z (omega (arith, z)) is.place.z, three_are 0 cell is.axes)),
            ),
            (past_fits (bound_limit bound) v is.number, refl),
          ),
        ),
      ),
    )

push_stop_fits : (l : LayoutView) (id : ℕ) (what : What) (axis : Axis) (v : ℤ) → IsLayout l → IsPushStop l id what v
    → FitsPushStop l (Push id what axis v)
push_stop_fits l id what axis v layout is =
    let few = layout.total in
    (fits_below (sum l.counts) id (omega (arith, few)) is.identity, (tt, (tt, (past_fits (what_limit l.side what) v is.number, refl))))

-- the texts
grouped : (s p b a x y z v : List ℕ) → s ++ p ++ b ++ a ++ x ++ y ++ z ++ v ≡ s ++ (p ++ (b ++ (a ++ ((x ++ (y ++ z)) ++ v))))
grouped s p b a x y z v = simp append_assoc refl

field_text : (step : ℕ) (phase : Phase) (bound : Bound) (axis : Axis) (cell : List ℕ) (v : ℤ)
    → end_bytes (Stopped step (Field phase bound axis cell v)) ≡ end_tag ∷ 1 ∷ (u32_bytes step ++ field_stop_text (Field phase bound axis cell v))
unfolding end_bytes field_stop_bytes field_stop_text
field_text step phase bound axis cell v =
    let at = triple cell in
    ap (λ t. end_tag ∷ 1 ∷ t)
    (grouped (u32_bytes step) (one_byte (phase_code phase)) (one_byte (bound_code bound)) (one_byte (axis_number axis)) (u32_bytes at.x) (u32_bytes at.y)
    (u32_bytes at.z) (i128_bytes v))

push_text : (step id : ℕ) (what : What) (axis : Axis) (v : ℤ)
    → end_bytes (Stopped step (Push id what axis v)) ≡ end_tag ∷ 2 ∷ (u32_bytes step ++ push_stop_text (Push id what axis v))
unfolding end_bytes push_stop_bytes push_stop_text
push_text step id what axis v =
    ap (λ t. end_tag ∷ 2 ∷ t) (right_5 (u32_bytes step) (u32_bytes id) (one_byte (what_code what)) (one_byte (axis_number axis)) (i128_bytes v))

done_text : (steps : ℕ) → end_bytes (Done steps) ≡ end_tag ∷ 0 ∷ u32_bytes steps
unfolding end_bytes done_bytes
done_text steps = refl

-- the end of the bytes
last_read : (m : EndMark) (place : ℕ) → last_record m (input place []) ≡ Ok (AnEnd m, input place [])
unfolding last_record finished
last_read m place = refl

-- the mark and the kind of an end record
may_end : (due : Option ℕ) (last : ℕ) → is_tag due (Some last) end_tag ≡ true
may_end None last = refl
may_end (Some step) last = refl

kind_read : (l : LayoutView) (last : ℕ) (due : Option ℕ) (kind place : ℕ) (rest : List ℕ) → due_after l.steps l.every (Some last) ≡ due → kind < 256
    → is_kind due kind ≡ true
    → record_at l (Some last) (input place (end_tag ∷ kind ∷ rest)) ≡ end_of_kind l (suc last) (unwrap_or due 0) last_record kind (input (place + 1 + 1) rest)
unfolding behind_tag end_at
kind_read l last due kind place rest is small passes =
    marked l (Some last) due end_tag place (kind ∷ rest) is (omega arith) (may_end due last)
    ∙ then_ok (code_at (is_kind due)) (end_of_kind l (suc last) (unwrap_or due 0) last_record) _ _ kind
    ((spells_code (is_kind due)).again (place + 1) rest kind (small, passes))

-- a run that is done
done_read : (l : LayoutView) (place : ℕ) → l.steps < 2 ^ 32
    → done_at l last_record (input place (u32_bytes l.steps)) ≡ Ok (AnEnd (Done l.steps), input (place + length (u32_bytes l.steps)) [])
unfolding done_at the_step
done_read l place small =
    ap (λ t. (checked wrong_step (nat_eq l.steps) u32_at >>= (λ n. last_record (Done n))) (input place t)) (sym (append-nil (u32_bytes l.steps)))
    ∙ then_ok (checked wrong_step (nat_eq l.steps) u32_at) (λ n. last_record (Done n)) _ _ l.steps
    ((spells_checked wrong_step (nat_eq l.steps) spells_u32).again place [] l.steps (small, eq-eqb l.steps l.steps refl))
    ∙ last_read (Done l.steps) (place + length (u32_bytes l.steps))

-- a step from low to high, and what stopped the run in it
stop_read : (q : Parser Stop) (text : List ℕ) (stop : Stop) (low high step place : ℕ) → FitsU32 (is_from_to low high) step → IsReadFrom q text stop
    → (within wrong_step low high >>= (λ n. q >>= (λ s. last_record (Stopped n s)))) (input place (u32_bytes step ++ text))
    ≡ Ok (AnEnd (Stopped step stop), input (place + length (u32_bytes step ++ text)) [])
stop_read q text stop low high step place fits read =
    let behind = place + length (u32_bytes step) in
    let size = length-append (u32_bytes step) text in
    let end : behind + length text ≡ place + length (u32_bytes step ++ text) = omega (arith, size) in
    then_ok (within wrong_step low high) (λ n. q >>= (λ s. last_record (Stopped n s))) _ _ step ((spells_within wrong_step low high).again place text step fits)
    ∙ ap (λ t. (q >>= (λ s. last_record (Stopped step s))) (input behind t)) (sym (append-nil text))
    ∙ then_ok q (λ s. last_record (Stopped step s)) _ _ stop (read behind [])
    ∙ last_read (Stopped step stop) (behind + length text)
    ∙ ap (λ n. Ok (AnEnd (Stopped step stop), input n [])) end

-- a whole end record is read where it stands
abbrev IsEndRead : LayoutView → ℕ → EndMark → Type 0
IsEndRead l last mark =
    (place : ℕ) → record_at l (Some last) (input place (end_bytes mark)) ≡ Ok (AnEnd mark, input (place + length (end_bytes mark)) [])

done_end : (l : LayoutView) (last : ℕ) → IsLayout l → due_after l.steps l.every (Some last) ≡ None → IsEndRead l last (Done l.steps)
unfolding end_of_kind
done_end l last layout none place =
    let steps = layout.steps in
    let same = done_text l.steps in
    let size = ap (λ (t : List ℕ). length t) same in
    let end : place + 1 + 1 + length (u32_bytes l.steps) ≡ place + length (end_bytes (Done l.steps)) = omega (arith, size) in
    ap (λ t. record_at l (Some last) (input place t)) same
    ∙ kind_read l last None 0 place (u32_bytes l.steps) none (omega arith) refl
    ∙ done_read l (place + 1 + 1) (omega (arith, steps))
    ∙ ap (λ n. Ok (AnEnd (Done l.steps), input n [])) end

-- the end record of a stop, of which this kind has such a text
stop_end : (l : LayoutView) (q : Parser Stop) (text : List ℕ) (stop : Stop) (last step kind : ℕ) (next : Option ℕ) → IsLayout l
    → due_after l.steps l.every (Some last) ≡ next → last < step → IsSomeAnd next (λ due. step ≤ due)
    → ((due : ℕ) (i : Input) → end_of_kind l (suc last) due last_record kind i
    ≡ (within wrong_step (suc last) due >>= (λ n. q >>= (λ s. last_record (Stopped n s)))) i)
    → kind < 256 → ((due : ℕ) → is_kind (Some due) kind ≡ true) → end_bytes (Stopped step stop) ≡ end_tag ∷ kind ∷ (u32_bytes step ++ text)
    → IsReadFrom q text stop → IsEndRead l last (Stopped step stop)
stop_end l q text stop last step kind None layout is behind before of_kind small passes same read place = absurd before
stop_end l q text stop last step kind (Some due) layout is behind before of_kind small passes same read place =
    let body = u32_bytes step ++ text in
    let steps = layout.steps in
    let most = due_most l (Some last) due is in
    let fits = fits_from_to (suc last) due step (omega (arith, steps, most)) (omega (arith, behind)) before in
    let size = ap (λ (t : List ℕ). length t) same in
    let end : place + 1 + 1 + length body ≡ place + length (end_bytes (Stopped step stop)) = omega (arith, size) in
    ap (λ t. record_at l (Some last) (input place t)) same
    ∙ kind_read l last (Some due) kind place body is small (passes due)
    ∙ of_kind due (input (place + 1 + 1) body)
    ∙ stop_read q text stop (suc last) due step (place + 1 + 1) fits read
    ∙ ap (λ n. Ok (AnEnd (Stopped step stop), input n [])) end

pub ends_are_read : EndsAreRead
unfolding end_of_kind field_end_at push_end_at
ends_are_read l last (Done steps) place layout is =
    subst (λ n. record_at l (Some last) (input place (end_bytes (Done n))) ≡ Ok (AnEnd (Done n), input (place + length (end_bytes (Done n))) [])) (sym is.all)
    (done_end l last layout is.none place)
ends_are_read l last (Stopped step (Field phase bound axis cell v)) place layout is =
    let stop = Field phase bound axis cell v in
    stop_end l (field_stop_at l) (field_stop_text stop) stop last step 1 _ layout refl is.behind is.before (λ due i. refl) (omega arith) (λ due. refl)
    (field_text step phase bound axis cell v)
    (λ at rest. (spells_field_stop l).again at rest stop (field_stop_fits l phase bound axis cell v layout.cells is.fits)) place
ends_are_read l last (Stopped step (Push id what axis v)) place layout is =
    let stop = Push id what axis v in
    stop_end l (push_stop_at l) (push_stop_text stop) stop last step 2 _ layout refl is.behind is.before (λ due i. refl) (omega arith) (λ due. refl)
    (push_text step id what axis v)
    (λ at rest. (spells_push_stop l).again at rest stop (push_stop_fits l id what axis v layout is.fits)) place
