-- The spelling of a record: of every frame and every end record that a header allows, whatever its step.
use Rattle.std.proofs.Common.{◌≡◌, ℕ, zero, suc, ◌<◌, ◌^◌, Bool, true, false, ◌||◌, ◌&&◌, eqb, pos, List, [], ◌∷◌, ◌++◌, Option, Some}
use Rattle.std.proofs.Common.{None, Ok, refl, sym, ap, subst, ◌∙◌, arith, append_assoc, inl, inr, if◌then◌else◌}
use Rattle.std.specs.Prelude.{nat_eq, is_some, unwrap_or}
use Rattle.std.proofs.lemmas.Bool.{eqb-true, and_parts}
use Rattle.pic_num.specs.declared.motion.What.TheVariants.{Speed}
use Rattle.pic_num.specs.declared.axis.Axis.TheVariants.{X}
use Rattle.pic_num.specs.Bytes.{u32_bytes, i128_bytes}
use Rattle.pic_num.specs.Space.{triple, axis_number}
use Rattle.pic_grid.specs.declared.stop.Stop.{Stop}
use Rattle.pic_grid.specs.declared.stop.Stop.TheVariants.{Field, Push}
use Rattle.pic_grid.specs.declared.stop.EndMark.{EndMark}
use Rattle.pic_grid.specs.declared.stop.EndMark.TheVariants.{Done, Stopped}
use Rattle.pic_fields.specs.Parser.{Parser, Input, input, done, ◌>>=◌, mapped, tested_by, checked, ended, finished}
use Rattle.pic_fields.specs.Number.{byte_at, u32_at, is_from_to, within}
use Rattle.pic_fields.proofs.Spells.{Spells}
use Rattle.pic_fields.proofs.ReadLaws.{then_ok, tested_true}
use Rattle.pic_fields.proofs.SpellLaws.{spells_bind, spells_last, spells_checked, spells_so, bind_parts, passed_test, same_read, right_5}
use Rattle.pic_fields.proofs.NumberLaws.{one_byte, spells_byte, spells_u32}
use Rattle.pic_record.specs.Due.{due_after}
use Rattle.pic_record.specs.RecordText.{phase_code, bound_code, what_code, frame_tag, end_tag, start_bytes, state_bytes, frame_bytes, values_bytes}
use Rattle.pic_record.specs.RecordText.{particles_bytes, energies_bytes, done_bytes, field_stop_bytes, push_stop_bytes, end_bytes}
use Rattle.pic_record.specs.Fields.{wrong_end, wrong_tag, wrong_step, the_step}
use Rattle.pic_record.specs.FrameFields.{FrameView, state_at, frame_at}
use Rattle.pic_record.specs.EndFields.{code_at, is_kind, first_after, field_stop_at, push_stop_at, done_at, field_end_at, push_end_at, end_of_kind, end_at}
use Rattle.pic_record.specs.Records.{RecordView, AFrame, AnEnd, is_tag, last_record, behind_tag, record_at}
use Rattle.pic_record.specs.Layout.{LayoutView}
use Rattle.pic_record.specs.Spelling.{record_bytes}
use Rattle.pic_record.proofs.FrameSpells.{FitsState, state_text, spells_state}
use Rattle.pic_record.proofs.EndSpells.{FitsByte, FitsFieldStop, FitsPushStop, field_stop_text, push_stop_text}
use Rattle.pic_record.proofs.EndSpells.{spells_code, spells_field_stop, spells_push_stop, from_to, or_true}

-- the parts of an end mark; a run that is done has no stop
abbrev steps_in : EndMark → ℕ
steps_in (Done steps) = steps
steps_in (Stopped step stop) = step

abbrev stop_in : EndMark → Stop
stop_in (Done steps) = Push 0 Speed X (pos 0)
stop_in (Stopped step stop) = stop

abbrev kind_in : EndMark → ℕ
kind_in (Done steps) = 0
kind_in (Stopped step (Field phase bound axis cell value)) = 1
kind_in (Stopped step (Push id what axis value)) = 2

-- what stands behind the kind
unfoldable pub rest_text : EndMark → List ℕ
rest_text (Done steps) = u32_bytes steps
rest_text (Stopped step (Field phase bound axis cell value)) = u32_bytes step ++ field_stop_text (Field phase bound axis cell value)
rest_text (Stopped step (Push id what axis value)) = u32_bytes step ++ push_stop_text (Push id what axis value)

-- an end record behind its kind, in any step
field_rest_at : LayoutView → Parser EndMark
field_rest_at l = u32_at >>= (λ step. field_stop_at l >>= (λ stop. done (Stopped step stop)))

push_rest_at : LayoutView → Parser EndMark
push_rest_at l = u32_at >>= (λ step. push_stop_at l >>= (λ stop. done (Stopped step stop)))

done_rest_at : Parser EndMark
done_rest_at = u32_at >>= (λ steps. done (Done steps))

abbrev rest_at : LayoutView → Bool → Bool → Parser EndMark
rest_at l true w = done_rest_at
rest_at l false true = field_rest_at l
rest_at l false false = push_rest_at l

abbrev FitsDone : EndMark → Type 0
FitsDone m = (steps_in m < 2 ^ 32) × (m ≡ Done (steps_in m))

abbrev FitsFieldEnd : LayoutView → EndMark → Type 0
FitsFieldEnd l m = (steps_in m < 2 ^ 32) × (FitsFieldStop l (stop_in m) × (m ≡ Stopped (steps_in m) (stop_in m)))

abbrev FitsPushEnd : LayoutView → EndMark → Type 0
FitsPushEnd l m = (steps_in m < 2 ^ 32) × (FitsPushStop l (stop_in m) × (m ≡ Stopped (steps_in m) (stop_in m)))

abbrev FitsRest : LayoutView → Bool → Bool → EndMark → Type 0
FitsRest l true w m = FitsDone m
FitsRest l false true m = FitsFieldEnd l m
FitsRest l false false m = FitsPushEnd l m

field_kind : (l : LayoutView) (m : EndMark) → FitsFieldEnd l m → kind_in m ≡ 1
field_kind l m f =
    let s = stop_in m in
    let whole = f.1.1 ∙ ap (Stopped (steps_in m)) f.1.0.1.1.1.1.1 in
    ap kind_in whole

push_kind : (l : LayoutView) (m : EndMark) → FitsPushEnd l m → kind_in m ≡ 2
push_kind l m f =
    let whole = f.1.1 ∙ ap (Stopped (steps_in m)) f.1.0.1.1.1.1 in
    ap kind_in whole

field_text : (l : LayoutView) (m : EndMark) → FitsFieldEnd l m → rest_text m ≡ u32_bytes (steps_in m) ++ field_stop_text (stop_in m)
unfolding rest_text
field_text l m f =
    let stop = f.1.0.1.1.1.1.1 in
    ap rest_text (f.1.1 ∙ ap (Stopped (steps_in m)) stop) ∙ ap (λ s. u32_bytes (steps_in m) ++ field_stop_text s) (sym stop)

push_text : (l : LayoutView) (m : EndMark) → FitsPushEnd l m → rest_text m ≡ u32_bytes (steps_in m) ++ push_stop_text (stop_in m)
unfolding rest_text
push_text l m f =
    let stop = f.1.0.1.1.1.1 in
    ap rest_text (f.1.1 ∙ ap (Stopped (steps_in m)) stop) ∙ ap (λ s. u32_bytes (steps_in m) ++ push_stop_text s) (sym stop)

done_text : (m : EndMark) → FitsDone m → rest_text m ≡ u32_bytes (steps_in m)
unfolding rest_text
done_text m f = ap rest_text f.1

spells_done_rest : Spells done_rest_at rest_text FitsDone
unfolding done_rest_at
spells_done_rest = spells_so (λ m f. f) (λ m f. f) done_text (spells_last Done steps_in (λ s. refl) spells_u32)

spells_field_rest : (l : LayoutView) → Spells (field_rest_at l) rest_text (FitsFieldEnd l)
unfolding field_rest_at
spells_field_rest l =
    spells_so (λ m f. f) (λ m f. f) (field_text l)
    (spells_bind steps_in (λ a m f g. ap steps_in g.1) spells_u32 (λ a. spells_last (Stopped a) stop_in (λ s. refl) (spells_field_stop l)))

spells_push_rest : (l : LayoutView) → Spells (push_rest_at l) rest_text (FitsPushEnd l)
unfolding push_rest_at
spells_push_rest l =
    spells_so (λ m f. f) (λ m f. f) (push_text l)
    (spells_bind steps_in (λ a m f g. ap steps_in g.1) spells_u32 (λ a. spells_last (Stopped a) stop_in (λ s. refl) (spells_push_stop l)))

spells_rest : (l : LayoutView) (v w : Bool) → Spells (rest_at l v w) rest_text (FitsRest l v w)
spells_rest l true w = spells_done_rest
spells_rest l false true = spells_field_rest l
spells_rest l false false = spells_push_rest l

-- an end record behind its mark
end_kind_at : LayoutView → Parser EndMark
end_kind_at l = code_at (is_from_to 0 2) >>= (λ kind. rest_at l (eqb kind 0) (eqb kind 1))

abbrev FitsEnd : LayoutView → EndMark → Type 0
FitsEnd l m = FitsByte (is_from_to 0 2) (kind_in m) × FitsRest l (eqb (kind_in m) 0) (eqb (kind_in m) 1) m

kind_is : (l : LayoutView) (kind : ℕ) (m : EndMark) → FitsByte (is_from_to 0 2) kind → FitsRest l (eqb kind 0) (eqb kind 1) m → kind_in m ≡ kind
kind_is l zero m f g = ap kind_in g.1
kind_is l (suc zero) m f g = field_kind l m g
kind_is l (suc (suc zero)) m f g = push_kind l m g
kind_is l (suc (suc (suc n))) m f g = (let h = from_to 0 2 (suc (suc (suc n))) f.1 in absurd (omega (arith, h.1)))

pub end_text : EndMark → List ℕ
end_text m = one_byte (kind_in m) ++ rest_text m

spells_end : (l : LayoutView) → Spells (end_kind_at l) end_text (FitsEnd l)
unfolding end_kind_at end_text
spells_end l = spells_bind kind_in (λ kind m f g. kind_is l kind m f g) (spells_code (is_from_to 0 2)) (λ kind. spells_rest l (eqb kind 0) (eqb kind 1))

-- a frame behind its mark, in any step
frame_step_at : LayoutView → Parser FrameView
frame_step_at l = u32_at >>= (λ step. state_at l step)

abbrev FitsFrame : LayoutView → FrameView → Type 0
FitsFrame l f = (f.step < 2 ^ 32) × FitsState l f.step f

pub frame_text : FrameView → List ℕ
frame_text f = u32_bytes f.step ++ state_text f

spells_frame : (l : LayoutView) → Spells (frame_step_at l) frame_text (FitsFrame l)
unfolding frame_step_at frame_text
spells_frame l = spells_bind (λ (f : FrameView). f.step) (λ s f h g. ap (λ (o : FrameView). o.step) g.1.1.1.1) spells_u32 (λ s. spells_state l s)

-- the parts of a record; that of the other kind is of no use
abbrev no_frame : FrameView
no_frame = record { step = 0; e = []; b = []; particles = []; energies = record { kinetic = 0; electric = 0; magnetic = 0 } }

abbrev frame_in : RecordView → FrameView
frame_in (AFrame f) = f
frame_in (AnEnd m) = no_frame

abbrev end_in : RecordView → EndMark
end_in (AFrame f) = Done 0
end_in (AnEnd m) = m

abbrev tag_in : RecordView → ℕ
tag_in (AFrame f) = frame_tag
tag_in (AnEnd m) = end_tag

unfoldable pub behind_text : RecordView → List ℕ
behind_text (AFrame f) = frame_text f
behind_text (AnEnd m) = end_text m

abbrev is_mark : ℕ → Bool
is_mark tag = eqb tag frame_tag || eqb tag end_tag

abbrev behind_at : LayoutView → Bool → Parser RecordView
behind_at l true = mapped AFrame (frame_step_at l)
behind_at l false = mapped AnEnd (end_kind_at l)

abbrev FitsBehind : LayoutView → Bool → RecordView → Type 0
FitsBehind l true r = FitsFrame l (frame_in r) × (r ≡ AFrame (frame_in r))
FitsBehind l false r = FitsEnd l (end_in r) × (r ≡ AnEnd (end_in r))

spells_behind : (l : LayoutView) (v : Bool) → Spells (behind_at l v) behind_text (FitsBehind l v)
unfolding mapped behind_text
spells_behind l true = spells_so (λ r f. f) (λ r f. f) (λ r f. ap behind_text f.1) (spells_last AFrame frame_in (λ f. refl) (spells_frame l))
spells_behind l false = spells_so (λ r f. f) (λ r f. f) (λ r f. ap behind_text f.1) (spells_last AnEnd end_in (λ m. refl) (spells_end l))

pub any_record_at : LayoutView → Parser RecordView
any_record_at l = checked wrong_tag is_mark byte_at >>= (λ tag. behind_at l (eqb tag frame_tag))

tag_is : (l : LayoutView) (tag : ℕ) (v : Bool) (r : RecordView) → eqb tag frame_tag ≡ v → is_mark tag ≡ true → FitsBehind l v r → tag_in r ≡ tag
tag_is l tag true r e mark g = ap tag_in g.1 ∙ sym (eqb-true tag frame_tag e)
tag_is l tag false r e mark g = ap tag_in g.1 ∙ sym (eqb-true tag end_tag (rw e at mark))

abbrev pub FitsRecord : LayoutView → RecordView → Type 0
FitsRecord l r = FitsByte is_mark (tag_in r) × FitsBehind l (eqb (tag_in r) frame_tag) r

-- the text of a record is its mark and what stands behind it
right_8 : (a b c d e f g h : List ℕ) → a ++ b ++ c ++ d ++ e ++ f ++ g ++ h ≡ a ++ (b ++ (c ++ (d ++ (e ++ (f ++ (g ++ h))))))
right_8 a b c d e f g h =
    append_assoc (a ++ b ++ c ++ d ++ e ++ f) g h
    ∙ append_assoc (a ++ b ++ c ++ d ++ e) f (g ++ h)
    ∙ append_assoc (a ++ b ++ c ++ d) e (f ++ (g ++ h))
    ∙ right_5 a b c d (e ++ (f ++ (g ++ h)))

-- a cell's numbers as one part
grouped : (u p b a x y z v : List ℕ) → u ++ (p ++ (b ++ (a ++ (x ++ (y ++ (z ++ v)))))) ≡ u ++ (p ++ (b ++ (a ++ ((x ++ (y ++ z)) ++ v))))
grouped u p b a x y z v = ap (λ l. u ++ (p ++ (b ++ (a ++ l)))) (sym (append_assoc x (y ++ z) v ∙ ap (λ l. x ++ l) (append_assoc y z v)))

record_text : (l : LayoutView) (r : RecordView) → record_bytes l r ≡ one_byte (tag_in r) ++ behind_text r
unfolding behind_text frame_text end_text state_text rest_text frame_bytes start_bytes state_bytes end_bytes done_bytes field_stop_bytes push_stop_bytes
    field_stop_text push_stop_text
record_text l (AFrame f) =
    ap (λ t. frame_tag ∷ t) (append_assoc (u32_bytes f.step) (values_bytes f.e ++ values_bytes f.b ++ particles_bytes f.particles) (energies_bytes f.energies))
record_text l (AnEnd (Done steps)) = refl
record_text l (AnEnd (Stopped step (Field phase bound axis cell value))) =
    let u = u32_bytes step in
    let x = u32_bytes (triple cell).x in
    let y = u32_bytes (triple cell).y in
    let z = u32_bytes (triple cell).z in
    let v = i128_bytes value in
    let p = one_byte (phase_code phase) in
    let b = one_byte (bound_code bound) in
    let a = one_byte (axis_number axis) in
    ap (λ t. end_tag ∷ 1 ∷ t) (right_8 u p b a x y z v ∙ grouped u p b a x y z v)
record_text l (AnEnd (Stopped step (Push id what axis value))) =
    ap (λ t. end_tag ∷ 2 ∷ t) (right_5 (u32_bytes step) (u32_bytes id) (one_byte (what_code what)) (one_byte (axis_number axis)) (i128_bytes value))

pub spells_record : (l : LayoutView) → Spells (any_record_at l) (record_bytes l) (FitsRecord l)
unfolding any_record_at
spells_record l =
    spells_so (λ r f. f) (λ r f. f) (λ r f. record_text l r)
    (spells_bind tag_in (λ tag r f g. tag_is l tag (eqb tag frame_tag) r refl f.1 g) (spells_checked wrong_tag is_mark spells_byte) (λ tag. spells_behind l
    (eqb tag frame_tag)))

-- What a dump's reader takes for a record is one of these.
both_ok : {A B : Type 0} (p : Parser A) (f : A → Parser B) (i j k : Input) (a : A) (b : B) → p i ≡ Ok (a, j) → f a j ≡ Ok (b, k) → (p >>= f) i ≡ Ok (b, k)
both_ok p f i j k a b first second = then_ok p f i j a first ∙ second

tested_so : {A : Type 0} (cause : ℕ) (test other : A → Bool) (p : Parser A) (i j : Input) (a : A) → checked cause test p i ≡ Ok (a, j)
    → (p i ≡ Ok (a, j)) × (test a ≡ true) × (other a ≡ true → checked cause other p i ≡ Ok (a, j))
unfolding checked
tested_so cause test other p i j a is =
    let (read, good) = passed_test i.place cause test (p i) a j is in
    (read, good, λ passes. ap (tested_by i.place cause other) read ∙ tested_true i.place cause other (a, j) passes)

-- the end of the bytes
ended_is : {A : Type 0} (a r : A) (place : ℕ) (bytes : List ℕ) (j : Input) → ended a place bytes ≡ Ok (r, j) → (a ≡ r) × (input place bytes ≡ j)
ended_is a r place [] j is = same_read a r (input place []) j is
ended_is a r place (b ∷ bytes) j is = absurd cc

last_is : (m : EndMark) (r : RecordView) (i j : Input) → last_record m i ≡ Ok (r, j) → (AnEnd m ≡ r) × (i ≡ j)
unfolding last_record finished
last_is m r i j is = ended_is (AnEnd m) r i.place i.bytes j is

frame_any : (l : LayoutView) (d : ℕ) (i j : Input) (f : FrameView) → frame_at l d i ≡ Ok (f, j) → frame_step_at l i ≡ Ok (f, j)
unfolding frame_at the_step frame_step_at
frame_any l d i j f is =
    let (s, k, e1, e2) = bind_parts (checked wrong_step (nat_eq d) u32_at) (λ step. state_at l d) i j f is in
    let (read, good, other) = tested_so wrong_step (nat_eq d) (λ n. true) u32_at i k s e1 in
    let same = eqb-true d s good in
    both_ok u32_at (λ step. state_at l step) i k j s f read (subst (λ n. state_at l n k ≡ Ok (f, j)) same e2)

-- an end record that was read
abbrev EndRead : LayoutView → Bool → Bool → Input → RecordView → Input → Type 0
EndRead l v w i r j = (m : EndMark) × (AnEnd m ≡ r) × (rest_at l v w i ≡ Ok (m, j))

done_any : (l : LayoutView) (i j : Input) (r : RecordView) → done_at l last_record i ≡ Ok (r, j) → (m : EndMark) × (AnEnd m ≡ r) × (done_rest_at i ≡ Ok (m, j))
unfolding done_at the_step done_rest_at done
done_any l i j r is =
    let (s, k, e1, e2) = bind_parts (checked wrong_step (nat_eq l.steps) u32_at) (λ steps. last_record (Done steps)) i j r is in
    let (read, good, other) = tested_so wrong_step (nat_eq l.steps) (λ n. true) u32_at i k s e1 in
    let (value, here) = last_is (Done s) r k j e2 in
    (Done s, value, both_ok u32_at (λ steps. done (Done steps)) i k j s (Done s) read (ap (λ n. Ok (Done s, n)) here))

field_any : (l : LayoutView) (low high : ℕ) (i j : Input) (r : RecordView) → field_end_at l low high last_record i ≡ Ok (r, j) → (m : EndMark) × (AnEnd m ≡ r)
    × (field_rest_at l i ≡ Ok (m, j))
unfolding field_end_at within field_rest_at done
field_any l low high i j r is =
    let (s, k, e1, e2) = bind_parts (checked wrong_step (is_from_to low high) u32_at) (λ step. field_stop_at l >>= (λ stop. last_record (Stopped step stop))) i
    j r is in
    let (read, good, other) = tested_so wrong_step (is_from_to low high) (λ n. true) u32_at i k s e1 in
    let (stop, n, e3, e4) = bind_parts (field_stop_at l) (λ stop. last_record (Stopped s stop)) k j r e2 in
    let (value, here) = last_is (Stopped s stop) r n j e4 in (
      Stopped s stop,
      value,
      both_ok u32_at (λ step. field_stop_at l >>= (λ stop. done (Stopped step stop))) i k j s (Stopped s stop) read
          (both_ok (field_stop_at l) (λ stop. done (Stopped s stop)) k n j stop (Stopped s stop) e3 (ap (λ m. Ok (Stopped s stop, m)) here)),
    )

push_any : (l : LayoutView) (low high : ℕ) (i j : Input) (r : RecordView) → push_end_at l low high last_record i ≡ Ok (r, j) → (m : EndMark) × (AnEnd m ≡ r)
    × (push_rest_at l i ≡ Ok (m, j))
unfolding push_end_at within push_rest_at done
push_any l low high i j r is =
    let (s, k, e1, e2) = bind_parts (checked wrong_step (is_from_to low high) u32_at) (λ step. push_stop_at l >>= (λ stop. last_record (Stopped step stop))) i
    j r is in
    let (read, good, other) = tested_so wrong_step (is_from_to low high) (λ n. true) u32_at i k s e1 in
    let (stop, n, e3, e4) = bind_parts (push_stop_at l) (λ stop. last_record (Stopped s stop)) k j r e2 in
    let (value, here) = last_is (Stopped s stop) r n j e4 in (
      Stopped s stop,
      value,
      both_ok u32_at (λ step. push_stop_at l >>= (λ stop. done (Stopped step stop))) i k j s (Stopped s stop) read
          (both_ok (push_stop_at l) (λ stop. done (Stopped s stop)) k n j stop (Stopped s stop) e3 (ap (λ m. Ok (Stopped s stop, m)) here)),
    )

of_kind_any : (l : LayoutView) (low high : ℕ) (v w : Bool) (i j : Input) (r : RecordView)
    → (if v then done_at l last_record else (if w then field_end_at l low high last_record else push_end_at l low high last_record)) i ≡ Ok (r, j)
    → EndRead l v w i r j
of_kind_any l low high true w i j r is = done_any l i j r is
of_kind_any l low high false true i j r is = field_any l low high i j r is
of_kind_any l low high false false i j r is = push_any l low high i j r is

kind_small : (due : Option ℕ) (kind : ℕ) → is_kind due kind ≡ true → is_from_to 0 2 kind ≡ true
kind_small None kind is = let e = eqb-true kind 0 is in rw e refl
kind_small (Some due) kind is = elim (or_true (eqb kind 1) (eqb kind 2) is) [
  | inl one ↦ (let e = eqb-true kind 1 one in rw e refl)
  | inr two ↦ (let e = eqb-true kind 2 two in rw e refl)
]

end_any : (l : LayoutView) (last due : Option ℕ) (i j : Input) (r : RecordView) → end_at l last due last_record i ≡ Ok (r, j) → (m : EndMark) × (AnEnd m ≡ r)
    × (end_kind_at l i ≡ Ok (m, j))
unfolding end_at end_of_kind end_kind_at code_at
end_any l last due i j r is =
    let (kind, k, e1, e2) = bind_parts (checked wrong_end (is_kind due) byte_at) (end_of_kind l (first_after last) (unwrap_or due 0) last_record) i j r is in
    let (read, good, other) = tested_so wrong_end (is_kind due) (is_from_to 0 2) byte_at i k kind e1 in
    let (m, value, rest) = of_kind_any l (first_after last) (unwrap_or due 0) (eqb kind 0) (eqb kind 1) k j r e2 in
    (m, value, both_ok (checked wrong_end (is_from_to 0 2) byte_at) (λ n. rest_at l (eqb n 0) (eqb n 1)) i k j kind m (other (kind_small due kind good)) rest)

behind_any : (l : LayoutView) (last due : Option ℕ) (v : Bool) (i j : Input) (r : RecordView)
    → (if v then mapped AFrame (frame_at l (unwrap_or due 0)) else end_at l last due last_record) i ≡ Ok (r, j) → behind_at l v i ≡ Ok (r, j)
unfolding mapped done
behind_any l last due true i j r is =
    let (f, k, e1, e2) = bind_parts (frame_at l (unwrap_or due 0)) (λ f. done (AFrame f)) i j r is in
    both_ok (frame_step_at l) (λ f. done (AFrame f)) i k j f r (frame_any l (unwrap_or due 0) i k f e1) e2
behind_any l last due false i j r is =
    let (m, value, read) = end_any l last due i j r is in
    both_ok (end_kind_at l) (λ m. done (AnEnd m)) i j j m r read (ap (λ s. Ok (s, j)) value)

mark_any : (due last : Option ℕ) (tag : ℕ) → is_tag due last tag ≡ true → is_mark tag ≡ true
mark_any due last tag is = elim (or_true (is_some due && eqb tag frame_tag) (is_some last && eqb tag end_tag) is) [
  | inl frame ↦ (let e = eqb-true tag frame_tag (and_parts (is_some due) (eqb tag frame_tag) frame).1 in rw e refl)
  | inr end ↦ (let e = eqb-true tag end_tag (and_parts (is_some last) (eqb tag end_tag) end).1 in rw e refl)
]

pub record_any : (l : LayoutView) (last : Option ℕ) (i j : Input) (r : RecordView) → record_at l last i ≡ Ok (r, j) → any_record_at l i ≡ Ok (r, j)
unfolding record_at behind_tag any_record_at
record_any l last i j r is =
    let due = due_after l.steps l.every last in
    let (tag, k, e1, e2) = bind_parts (checked wrong_tag (is_tag due last) byte_at) (behind_tag l last due) i j r is in
    let (read, good, other) = tested_so wrong_tag (is_tag due last) is_mark byte_at i k tag e1 in
    both_ok (checked wrong_tag is_mark byte_at) (λ n. behind_at l (eqb n frame_tag)) i k j tag r (other (mark_any due last tag good)) (behind_any l last due
    (eqb tag frame_tag) k j r e2)
