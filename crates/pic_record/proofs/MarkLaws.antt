-- What stands behind a record's mark.
use Rattle.std.proofs.Common.{◌≡◌, ℕ, true, false, eqb, Option, Some, None, refl, arith}
use Rattle.std.specs.Prelude.{unwrap_or}
use Rattle.std.proofs.lemmas.Bool.{eqb-true, false≢true}
use Rattle.pic_fields.specs.Parser.{mapped}
use Rattle.pic_record.specs.RecordText.{frame_tag, end_tag}
use Rattle.pic_record.specs.Layout.{LayoutView}
use Rattle.pic_record.specs.FrameFields.{frame_at}
use Rattle.pic_record.specs.EndFields.{end_at}
use Rattle.pic_record.specs.Records.{AFrame, is_tag, last_record, behind_tag}

-- what stands behind each mark
pub of_frame : (l : LayoutView) (last due : Option ℕ) (tag : ℕ) → eqb tag frame_tag ≡ true
    → behind_tag l last due tag ≡ mapped AFrame (frame_at l (unwrap_or due 0))
unfolding behind_tag
of_frame l last due tag is = rw is refl

pub of_end : (l : LayoutView) (last due : Option ℕ) (tag : ℕ) → eqb tag frame_tag ≡ false → behind_tag l last due tag ≡ end_at l last due last_record
unfolding behind_tag
of_end l last due tag is = rw is refl

-- an end record's mark is no frame's
pub two_marks : (tag : ℕ) → eqb tag end_tag ≡ true → eqb tag frame_tag ≡ true → ⊥
two_marks tag end frame =
    let e = eqb-true tag end_tag end in
    let f = eqb-true tag frame_tag frame in
    omega (arith, e, f)

-- a frame's mark stands only where a frame is due
pub due_is : (due last : Option ℕ) (tag : ℕ) → is_tag due last tag ≡ true → eqb tag frame_tag ≡ true → due ≡ Some (unwrap_or due 0)
due_is None None tag passes frame = absurd (false≢true passes)
due_is None (Some s) tag passes frame = absurd (two_marks tag passes frame)
due_is (Some step) last tag passes frame = refl
