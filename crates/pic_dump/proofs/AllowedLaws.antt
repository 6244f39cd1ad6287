-- How far the records lead.
use Rattle.std.proofs.Common.{◌≡◌, ℕ, suc, ◌+◌, ◌-◌, ◌*◌, ◌<◌, ◌≤◌, Option, Some, None, inl, inr, ap, arith}
use Rattle.std.specs.Prelude.{min}
use Rattle.std.proofs.Math.Nat.{mul-le-mul_right}
use Rattle.std.proofs.lemmas.Bool.{cases_lt, lt-ltb, le-ltb}
use Rattle.std.proofs.lemmas.Nat.{le-div}
use Rattle.pic_record.specs.Due.{due_after}
use Rattle.pic_record.specs.Limits.{done_end}
use Rattle.pic_record.specs.Layout.{LayoutView}
use Rattle.pic_record.specs.FrameFields.{frame_length}
use Rattle.pic_dump.specs.NextReads.{most_of, record_most}
use Rattle.pic_dump.specs.Allowed.{frames_due, records_length}
use Rattle.pic_dump.specs.Standing.{Standing}
use Rattle.pic_dump.specs.Whole.{place_behind}

-- k frames went by, the last of them in this step
pub record WentBy (l : LayoutView) (k s : ℕ) : Type 0 where
  pub j : ℕ
  pub count : k ≡ suc j
  pub below : j * l.every < l.steps + l.every
  pub exact : s < l.steps → s ≡ j * l.every

abbrev pub Went : LayoutView → ℕ → Option ℕ → Type 0
Went l k None = k ≡ 0
Went l k (Some s) = WentBy l k s

-- one frame more
pub went_more : (l : LayoutView) (k : ℕ) (last : Option ℕ) (step : ℕ) → 1 ≤ l.every → Went l k last → due_after l.steps l.every last ≡ Some step
    → WentBy l (k + 1) step
went_more l k None step least went due =
    let zero_is : 0 ≡ step = cc in
    record { j = 0; count = omega (arith, went); below = omega (arith, least); exact = λ less. omega (arith, zero_is) }
went_more l k (Some s) step least went due = elim (cases_lt s l.steps) [
  | inl less ↦ (let next = rw (lt-ltb s l.steps less) at due in
      let is : min (s + l.every) l.steps ≡ step = cc in
      let exact = went.exact less in
      let more : suc went.j * l.every ≡ went.j * l.every + l.every = omega arith in
      let count = went.count in
      record { j = suc went.j; count = omega (arith, count); below = omega (arith, more, exact, less); exact = λ under. omega (arith, more, exact, is, under) })
  | inr over ↦ (let none = rw (le-ltb s l.steps over) at due in absurd cc)
]

-- there are no more frames than are due
frames_left : (l : LayoutView) (j : ℕ) → 1 ≤ l.every → j * l.every < l.steps + l.every → suc j ≤ frames_due l
frames_left l j least below = let most = le-div j (l.steps + (l.every - 1)) l.every least (omega (arith, below, least)) in omega (arith, most)

pub went_most : (l : LayoutView) (k : ℕ) (last : Option ℕ) → 1 ≤ l.every → Went l k last → k ≤ frames_due l
went_most l k None least went = omega (arith, went)
went_most l k (Some s) least went = let most = frames_left l went.j least went.below in let count = went.count in omega (arith, most, count)

-- the next record ends within what the header allows, and a byte
next_fits : (l : LayoutView) (k f d : ℕ) → suc k ≤ d → k * f + f ≤ d * f
next_fits l k f d less = let h = mul-le-mul_right f less in omega (arith, h)

end_fits : (k f d : ℕ) → k ≤ d → k * f + (done_end + 1) ≤ d * f + (done_end + 1)
end_fits k f d less = let h = mul-le-mul_right f less in omega (arith, h)

pub record_fits : (l : LayoutView) (k : ℕ) (last : Option ℕ) → 1 ≤ l.every → Went l k last
    → k * (1 + frame_length l) + most_of l (due_after l.steps l.every last) ≤ records_length l + 1
record_fits l k None least went =
    let h = next_fits l 0 (1 + frame_length l) (frames_due l) (omega arith) in
    rw went (omega (arith, h))
record_fits l k (Some s) least went = elim (cases_lt s l.steps) [
  | inl less ↦ (let exact = went.exact less in
      let more : suc went.j * l.every ≡ went.j * l.every + l.every = omega arith in
      let most = frames_left l (suc went.j) least (omega (arith, more, exact, less)) in
      let count = went.count in
      let h = next_fits l k (1 + frame_length l) (frames_due l) (omega (arith, most, count)) in
      rw (lt-ltb s l.steps less) (omega (arith, h)))
  | inr over ↦ (let most = went_most l k (Some s) least went in
      let h = end_fits k (1 + frame_length l) (frames_due l) most in
      rw (le-ltb s l.steps over) (omega (arith, h)))
]

pub frames_fit : (l : LayoutView) (k : ℕ) (last : Option ℕ) → 1 ≤ l.every → Went l k last → k * (1 + frame_length l) ≤ records_length l + 1
frames_fit l k last least went =
    let h = end_fits k (1 + frame_length l) (frames_due l) (went_most l k last least went) in
    omega (arith, h)

-- the record where a reader stands ends within what the header allows, and a byte
pub last_fits : (r here : Standing) (k : ℕ) → here.layout ≡ r.layout → here.place ≡ place_behind r.layout r.place k → 1 ≤ r.layout.every
    → Went r.layout k here.last → here.place + record_most here ≤ r.place + (records_length r.layout + 1)
last_fits r here k layout place least went =
    let l = r.layout in
    let fits = record_fits l k here.last least went in
    let most : record_most here ≡ most_of l (due_after l.steps l.every here.last) =
    ap (λ (m : LayoutView). most_of m (due_after m.steps m.every here.last)) layout in
    omega (arith, fits, most, place)
