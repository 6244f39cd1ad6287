-- No more records may stand in a dump than are read: with more of them allowed the same is read.
use Rattle.std.proofs.Common.{◌≡◌, ℕ, zero, suc, ◌+◌, ◌≤◌, Option, Some, None, Ok, Err, inl, inr, refl, ap, ◌∙◌, arith}
use Rattle.std.specs.Prelude.{min}
use Rattle.std.proofs.lemmas.Bool.{cases_lt, lt-ltb, le-ltb}
use Rattle.pic_fields.specs.Parser.{Input, Parsed}
use Rattle.pic_record.specs.Due.{due_after}
use Rattle.pic_record.specs.Layout.{LayoutView}
use Rattle.pic_record.specs.Records.{RecordView, AFrame, AnEnd, record_at}
use Rattle.pic_record.proofs.FormatLaws.{frame_read}
use Rattle.pic_dump.specs.DumpRead.{with_frame, of_parsed, read_on}
use Rattle.pic_dump.specs.Standing.{passed}

-- the step that is due lies behind the last one, and is one of the run's
record LiesBehind (l : LayoutView) (last : Option ℕ) (step : ℕ) : Type 0 where
  later : passed last ≤ step
  most : step ≤ l.steps

lies_behind : (l : LayoutView) (last : Option ℕ) (step : ℕ) → 1 ≤ l.every → due_after l.steps l.every last ≡ Some step → LiesBehind l last step
lies_behind l None step least due = let same : 0 ≡ step = cc in record { later = omega arith; most = omega (arith, same) }
lies_behind l (Some s) step least due = elim (cases_lt s l.steps) [
  | inl less ↦ (let next = rw (lt-ltb s l.steps less) at due in
      let is : min (s + l.every) l.steps ≡ step = cc in
      record { later = omega (arith, is, less, least); most = omega (arith, is) })
  | inr over ↦ (let none = rw (le-ltb s l.steps over) at due in absurd cc)
]

-- a record is read alike, where what follows a frame is
alike : (l : LayoutView) (last : Option ℕ) (n k : ℕ) (i : Input)
    → ((step : ℕ) (j : Input) → due_after l.steps l.every last ≡ Some step → read_on (n + k) l (Some step) j ≡ read_on n l (Some step) j)
    → (r : Parsed RecordView) → record_at l last i ≡ r
    → of_parsed (λ step rest. read_on (n + k) l (Some step) rest) r ≡ of_parsed (λ step rest. read_on n l (Some step) rest) r
alike l last n k i behind (Err f) is = refl
alike l last n k i behind (Ok (AnEnd mark, j)) is = refl
alike l last n k i behind (Ok (AFrame f, j)) is = ap (with_frame f) (behind f.step j (frame_read l last i j f is).due)

-- with k more allowed
pub fuel_lasts : (l : LayoutView) (last : Option ℕ) (n k : ℕ) (i : Input) → 1 ≤ l.every → l.steps + 1 ≤ passed last + n
    → read_on (suc (n + k)) l last i ≡ read_on (suc n) l last i
unfolding read_on
fuel_lasts l last zero k i least enough =
    alike l last zero k i (λ step j due. (let lies = lies_behind l last step least due in
    let later = lies.later in
    let most = lies.most in
    absurd (omega (arith, enough, later, most)))) (record_at l last i) refl
fuel_lasts l last (suc n) k i least enough =
    alike l last (suc n) k i (λ step j due. (let lies = lies_behind l last step least due in
    let later = lies.later in
    let one : suc n + k ≡ suc (n + k) = omega arith in
    ap (λ m. read_on m l (Some step) j) one ∙ fuel_lasts l (Some step) n k j least (omega (arith, enough, later)))) (record_at l last i) refl
