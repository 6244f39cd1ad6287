-- What the format alone says of a record that was read: of a frame, its step, its length, and that it can
-- be put, and of an end record, that nothing is behind it.
use Rattle.std.proofs.Common.{◌≡◌, ℕ, ◌+◌, ◌*◌, Bool, true, false, List, [], ◌∷◌, length, drop}
use Rattle.std.proofs.Common.{Option, Some, Ok, refl, sym, ap, subst, ◌∙◌, arith, eqb, if◌then◌else◌}
use Rattle.std.specs.Prelude.{⊤, nat_eq, sum, unwrap_or}
use Rattle.pic_block.specs.Cells.{count_of}
use Rattle.pic_grid.specs.declared.stop.EndMark.{EndMark}
use Rattle.pic_grid.specs.declared.stop.EndMark.TheVariants.{Done, Stopped}
use Rattle.pic_fields.specs.Parser.{Input, input, Parser, done, ◌>>=◌, mapped, checked, ended, finished}
use Rattle.pic_fields.specs.Number.{byte_of, byte_at, u32_of, u32_at}
use Rattle.pic_fields.proofs.GiveLaws.{IsFurther, further_then, further_left, Gives, gives_any, gives_mapped, gives_checked, gives_field}
use Rattle.pic_fields.proofs.LengthLaws.{IsOfLength, of_length, of_then, of_mapped, of_field, of_checked, Leaves}
use Rattle.pic_fields.proofs.SpellLaws.{same_read, bind_parts, passed_test}
use Rattle.pic_record.specs.RecordText.{frame_tag}
use Rattle.pic_record.specs.Due.{due_after}
use Rattle.pic_record.specs.Fields.{wrong_tag, wrong_step, the_step}
use Rattle.pic_record.specs.Layout.{LayoutView}
use Rattle.pic_record.specs.FrameFields.{FrameView, frame_of, field_at, particles_at, energies_at, state_at, frame_at, frame_length}
use Rattle.pic_record.specs.EndFields.{first_after, done_at, field_end_at, push_end_at, end_of_kind, end_at}
use Rattle.pic_record.specs.Records.{RecordView, AFrame, AnEnd, is_tag, last_record, behind_tag, record_at}
use Rattle.pic_record.specs.Readable.{IsReadableFrame, FramesReadAreReadable}
use Rattle.pic_record.proofs.FrameGives.{gives_frame}
use Rattle.pic_record.proofs.PartLaws.{of_values, of_particles, of_energies}
use Rattle.pic_record.proofs.MarkLaws.{of_frame, of_end, due_is}

-- a record that is read is an end record, and nothing is behind it
abbrev IsEnd : RecordView → Input → Type 0
IsEnd r j = (m : EndMark) × (AnEnd m ≡ r) × (j.bytes ≡ [])

record IsLast (p : Parser RecordView) : Type 0 where
  ends : (i j : Input) (r : RecordView) → p i ≡ Ok (r, j) → IsEnd r j

ended_last : (m : EndMark) (r : RecordView) (place : ℕ) (bytes : List ℕ) (j : Input) → ended (AnEnd m) place bytes ≡ Ok (r, j) → IsEnd r j
ended_last m r place [] j is =
    let (value, here) = same_read (AnEnd m) r (input place []) j is in
    (m, value, ap (λ (k : Input). k.bytes) (sym here))
ended_last m r place (b ∷ bytes) j is = absurd cc

last_one : (m : EndMark) → IsLast (last_record m)
unfolding last_record finished
last_one m = record { ends = λ i j r is. ended_last m r i.place i.bytes j is }

last_then : {A : Type 0} (p : Parser A) (f : A → Parser RecordView) → ((a : A) → IsLast (f a)) → IsLast (p >>= f)
last_then p f second = record {
  ends = λ i j r is. (let (a, k, e1, e2) = bind_parts p f i j r is in (second a).ends k j r e2);
}

last_done : (l : LayoutView) → IsLast (done_at l last_record)
unfolding done_at
last_done l = last_then _ _ (λ steps. last_one (Done steps))

last_field : (l : LayoutView) (low high : ℕ) → IsLast (field_end_at l low high last_record)
unfolding field_end_at
last_field l low high = last_then _ _ (λ step. last_then _ _ (λ stop. last_one (Stopped step stop)))

last_push : (l : LayoutView) (low high : ℕ) → IsLast (push_end_at l low high last_record)
unfolding push_end_at
last_push l low high = last_then _ _ (λ step. last_then _ _ (λ stop. last_one (Stopped step stop)))

last_kind : (l : LayoutView) (low high : ℕ) (v w : Bool)
    → IsLast (if v then done_at l last_record else (if w then field_end_at l low high last_record else push_end_at l low high last_record))
last_kind l low high true w = last_done l
last_kind l low high false true = last_field l low high
last_kind l low high false false = last_push l low high

last_end : (l : LayoutView) (last due : Option ℕ) → IsLast (end_at l last due last_record)
unfolding end_at end_of_kind
last_end l last due = last_then _ _ (λ kind. last_kind l (first_after last) (unwrap_or due 0) (eqb kind 0) (eqb kind 1))

-- a frame has so many bytes behind its mark
frame_size : (l : LayoutView) (d : ℕ) → IsOfLength (frame_at l d) (frame_length l)
unfolding frame_at the_step state_at field_at particles_at u32_at
frame_size l d =
    let c = count_of l.cells in
    let s = sum l.counts in
    of_length (omega arith) (of_then _ 4 (3 * c * 16 + (3 * c * 16 + (s * 24 + 48))) (of_checked wrong_step (nat_eq d) 4 (of_mapped u32_of 4 (of_field 4)))
    (λ step. of_then _ (3 * c * 16) (3 * c * 16 + (s * 24 + 48)) (of_values l.scales.e_force (3 * c))
    (λ e. of_then _ (3 * c * 16) (s * 24 + 48) (of_values l.scales.b_force (3 * c))
    (λ b. of_then _ (s * 24) 48 (of_particles l [] s) (λ particles. of_mapped _ 48 (of_energies _))))))

-- and the step that it was to have
state_step : (l : LayoutView) (step : ℕ) (i j : Input) (f : FrameView) → state_at l step i ≡ Ok (f, j) → f.step ≡ step
unfolding state_at mapped done
state_step l step i j f is =
    let (e, i1, e1, r1) = bind_parts (field_at l.cells l.scales.e_force) _ i j f is in
    let (b, i2, e2, r2) = bind_parts (field_at l.cells l.scales.b_force) _ i1 j f r1 in
    let (particles, i3, e3, r3) = bind_parts (particles_at l) _ i2 j f r2 in
    let (energies, i4, e4, r4) = bind_parts (energies_at _) (λ a. done (frame_of step e b particles a)) i3 j f r3 in
    let (value, here) = same_read (frame_of step e b particles energies) f i4 j r4 in
    ap (λ (g : FrameView). g.step) (sym value)

frame_step : (l : LayoutView) (d : ℕ) (i j : Input) (f : FrameView) → frame_at l d i ≡ Ok (f, j) → f.step ≡ d
unfolding frame_at
frame_step l d i j f is =
    let (s, k, e1, e2) = bind_parts (the_step d) (λ step. state_at l d) i j f is in
    state_step l d k j f e2

-- what is known of a frame that was read
pub record FrameRead (l : LayoutView) (last : Option ℕ) (i j : Input) (f : FrameView) : Type 0 where
  pub due : due_after l.steps l.every last ≡ Some f.step
  pub end : j ≡ input (i.place + (1 + frame_length l)) (drop (1 + frame_length l) i.bytes)
  pub size : length j.bytes + (1 + frame_length l) ≡ length i.bytes
  pub fits : IsReadableFrame l f

tag_size : (last due : Option ℕ) → IsOfLength (checked wrong_tag (is_tag due last) byte_at) 1
unfolding byte_at
tag_size last due = of_checked wrong_tag (is_tag due last) 1 (of_mapped byte_of 1 (of_field 1))

gives_mark : (last due : Option ℕ) → Gives (checked wrong_tag (is_tag due last) byte_at) (λ tag. ⊤)
unfolding byte_at
gives_mark last due = gives_any (gives_checked wrong_tag (is_tag due last) (gives_mapped {G = λ b. ⊤} byte_of (λ b is. tt) (gives_field 1)))

left_of : {A : Type 0} (p : Parser A) (n : ℕ) (i j : Input) (a : A) → IsOfLength p n → p i ≡ Ok (a, j) → length j.bytes + n ≡ length i.bytes
left_of p n i j a size is = subst (Leaves n (length i.bytes)) is (size.leaves i)

-- a record by its mark
behind_frame : (l : LayoutView) (last : Option ℕ) (i k j : Input) (f : FrameView) (tag : ℕ) (v : Bool) → eqb tag frame_tag ≡ v
    → is_tag (due_after l.steps l.every last) last tag ≡ true → IsFurther i k → length k.bytes + 1 ≡ length i.bytes
    → behind_tag l last (due_after l.steps l.every last) tag k ≡ Ok (AFrame f, j) → FrameRead l last i j f
unfolding mapped done
behind_frame l last i k j f tag true e passes behind one is =
    let due = due_after l.steps l.every last in
    let read : mapped AFrame (frame_at l (unwrap_or due 0)) k ≡ Ok (AFrame f, j) = ap (λ p. p k) (sym (of_frame l last due tag e)) ∙ is in
    let (g, n, e1, e2) = bind_parts (frame_at l (unwrap_or due 0)) (λ a. done (AFrame a)) k j (AFrame f) read in
    let (value, here) = same_read (AFrame g) (AFrame f) n j e2 in
    let same : g ≡ f = cc in
    let step : g.step ≡ unwrap_or due 0 = frame_step l (unwrap_or due 0) k n g e1 in
    let size = left_of (frame_at l (unwrap_or due 0)) (frame_length l) k n g (frame_size l (unwrap_or due 0)) e1 in
    let end : length n.bytes ≡ length j.bytes = ap (λ (m : Input). length m.bytes) here in
    let gives = gives_frame l (unwrap_or due 0) in
    let whole : length j.bytes + (1 + frame_length l) ≡ length i.bytes = omega (arith, one, size, end) in
    let further = subst (IsFurther i) here (further_then i k n behind (gives.further k n g e1)) in
    record {
      due = due_is due last tag passes e ∙ ap (λ s. Some s) (sym step ∙ ap (λ (h : FrameView). h.step) same);
      end = further_left i j (1 + frame_length l) further whole;
      size = whole;
      fits = subst (IsReadableFrame l) same (gives.is k n g e1);
    }
behind_frame l last i k j f tag false e passes behind one is =
    let due = due_after l.steps l.every last in
    let (m, other, end) = (last_end l last due).ends k j (AFrame f) (ap (λ p. p k) (sym (of_end l last due tag e)) ∙ is) in
    absurd cc

pub frame_read : (l : LayoutView) (last : Option ℕ) (i j : Input) (f : FrameView) → record_at l last i ≡ Ok (AFrame f, j) → FrameRead l last i j f
unfolding record_at checked
frame_read l last i j f is =
    let due = due_after l.steps l.every last in
    let (tag, k, e1, e2) = bind_parts (checked wrong_tag (is_tag due last) byte_at) (behind_tag l last due) i j (AFrame f) is in
    let (read, good) = passed_test i.place wrong_tag (is_tag due last) (byte_at i) tag k e1 in
    let mark = (gives_mark last due).further i k tag e1 in
    behind_frame l last i k j f tag (eqb tag frame_tag) refl good mark (left_of _ 1 i k tag (tag_size last due) e1) e2

pub frames_read_are_readable : FramesReadAreReadable
frames_read_are_readable l last f i j is = (frame_read l last i j f is).fits

behind_end : (l : LayoutView) (last due : Option ℕ) (k j : Input) (m : EndMark) (tag : ℕ) (v : Bool) → eqb tag frame_tag ≡ v
    → behind_tag l last due tag k ≡ Ok (AnEnd m, j) → j.bytes ≡ []
unfolding mapped done
behind_end l last due k j m tag true e is =
    let read : mapped AFrame (frame_at l (unwrap_or due 0)) k ≡ Ok (AnEnd m, j) = ap (λ p. p k) (sym (of_frame l last due tag e)) ∙ is in
    let (g, n, e1, e2) = bind_parts (frame_at l (unwrap_or due 0)) (λ a. done (AFrame a)) k j (AnEnd m) read in
    let (value, here) = same_read (AFrame g) (AnEnd m) n j e2 in
    absurd cc
behind_end l last due k j m tag false e is =
    ((last_end l last due).ends k j (AnEnd m) (ap (λ p. p k) (sym (of_end l last due tag e)) ∙ is)).2

pub end_read : (l : LayoutView) (last : Option ℕ) (i j : Input) (m : EndMark) → record_at l last i ≡ Ok (AnEnd m, j) → j.bytes ≡ []
unfolding record_at
end_read l last i j m is =
    let due = due_after l.steps l.every last in
    let (tag, k, e1, e2) = bind_parts (checked wrong_tag (is_tag due last) byte_at) (behind_tag l last due) i j (AnEnd m) is in
    behind_end l last due k j m tag (eqb tag frame_tag) refl e2
