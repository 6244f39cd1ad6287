-- What a verdict means, record by record.
use Rattle.std.proofs.Common.{◌≡◌, ℕ, zero, suc, ◌+◌, ◌-◌, ◌*◌, ◌≤◌, List, [], drop, Option, Some, None, Ok, Err, inl, inr, refl, sym, ap, subst, ◌∙◌, arith}
use Rattle.std.proofs.lemmas.Bool.{cases_lt}
use Rattle.std.proofs.lemmas.List.{drop-drop}
use Rattle.pic_grid.specs.Differences.{div_e}
use Rattle.pic_grid.specs.Lattice.{value_at}
use Rattle.pic_charge.specs.declared.breaks.Break.{Break}
use Rattle.pic_charge.specs.Charge.{rho_of}
use Rattle.pic_charge.specs.Gauss.{IsLeastBreak}
use Rattle.pic_charge.proofs.BreakLaws.{meets_gauss, gauss_none, first_break_some}
use Rattle.pic_fields.specs.Parser.{Input, input, Fault, fault, Parsed}
use Rattle.pic_header.specs.Header.{HeaderView}
use Rattle.pic_record.specs.Layout.{LayoutView, layout_of}
use Rattle.pic_record.specs.FrameFields.{FrameView, frame_length, field_with}
use Rattle.pic_header.specs.HeaderFields.{header_at, header_length}
use Rattle.pic_record.specs.Records.{RecordView, AFrame, AnEnd}
use Rattle.pic_header.proofs.HeaderGives.{header_left, every_least}
use Rattle.pic_verify.specs.declared.verify_stop.VerifyStop.TheVariants.{ReadFault, BadDump, Broken, NoMemory}
use Rattle.pic_dump.specs.DumpRead.{read_dump}
use Rattle.pic_dump.specs.InTurn.{step_before}
use Rattle.pic_dump.proofs.TurnLaws.{due_is_step, few_due}
use Rattle.pic_verify.specs.Verified.{Verdict, ObeysGauss, break_of, unless_broken, walked, verified}
use Rattle.pic_dump.specs.Whole.{record_place}
use Rattle.pic_verify.specs.Meaning.{bytes_from, record_of, IsFrameAt, IsGood, Begins, Means, VerdictLaw}
use Rattle.pic_record.proofs.FormatLaws.{frame_read, end_read}
use Rattle.pic_verify.proofs.WalkLaws.{verdict_by, walked_frame, walked_end, walked_fault}

-- Gauss's law at every node is that no break is found
pub no_break : (l : LayoutView) (f : FrameView) → ObeysGauss l f → break_of l f.e f.particles ≡ None
unfolding break_of
no_break l f law = gauss_none l.side l.filter l.cells l.kinds f.particles (field_with l f.e) (rho_of l.side l.filter l.cells l.kinds f.particles)
    (λ p within. refl) law

pub is_gauss : (l : LayoutView) (f : FrameView) → break_of l f.e f.particles ≡ None → ObeysGauss l f
unfolding break_of
is_gauss l f none = meets_gauss l.side l.filter l.cells l.kinds f.particles (field_with l f.e) (rho_of l.side l.filter l.cells l.kinds f.particles)
    (λ p within. refl) none

is_least : (l : LayoutView) (f : FrameView) (b : Break) → break_of l f.e f.particles ≡ Some b
    → IsLeastBreak l.cells (div_e l.cells (value_at (field_with l f.e))) (rho_of l.side l.filter l.cells l.kinds f.particles) b
unfolding break_of
is_least l f b some = first_break_some l.cells (div_e l.cells (value_at (field_with l f.e))) (rho_of l.side l.filter l.cells l.kinds f.particles) b some

-- where a part that was read ends
frame_end : (bytes : List ℕ) (h : HeaderView) (k : ℕ) (f : FrameView) (j : Input) → record_of bytes h k ≡ Ok (AFrame f, j)
    → j ≡ bytes_from bytes (record_place h (suc k))
frame_end bytes h k f j is =
    let l = layout_of h in
    let place = record_place h k in
    let more : suc k * (1 + frame_length l) ≡ k * (1 + frame_length l) + (1 + frame_length l) = omega arith in
    let far : place + (1 + frame_length l) ≡ record_place h (suc k) = omega (arith, more) in
    (frame_read l (step_before l k) (bytes_from bytes place) j f is).end
    ∙ ap (λ b. input (place + (1 + frame_length l)) b) (drop-drop (1 + frame_length l) place bytes)
    ∙ ap (bytes_from bytes) far

pub record HeaderRead (bytes : List ℕ) (h : HeaderView) (j : Input) : Type 0 where
  pub end : j ≡ bytes_from bytes (record_place h 0)
  pub least : 1 ≤ h.every

pub header_end : (bytes : List ℕ) (h : HeaderView) (j : Input) → header_at (input 0 bytes) ≡ Ok (h, j) → HeaderRead bytes h j
header_end bytes h j is =
    let none : 0 + header_length h ≡ record_place h 0 = omega arith in
    let same : header_length h ≡ record_place h 0 = omega arith in
    record {
      end = header_left (input 0 bytes) j h is
          ∙ ap (λ n. input n (drop (header_length h) bytes)) none
          ∙ ap (λ n. input (record_place h 0) (drop n bytes)) same;
      least = every_least (input 0 bytes) j h is;
    }

-- a good frame more
good_more : (bytes : List ℕ) (h : HeaderView) (n : ℕ) → Begins bytes h n → IsGood bytes h n → Begins bytes h (suc n)
good_more bytes h n begins good = record {
  header = begins.header;
  good = λ k less. elim (cases_lt k n) [
    | inl before ↦ begins.good k before
    | inr over ↦ (let same : n ≡ k = omega (arith, less, over) in subst (λ m. IsGood bytes h m) same good)
  ];
}

frame_is : (bytes : List ℕ) (h : HeaderView) (n : ℕ) (f : FrameView) (j : Input) → record_of bytes h n ≡ Ok (AFrame f, j) → IsFrameAt bytes h n f
frame_is bytes h n f j is = record {
  reads = is ∙ ap (λ i. Ok (AFrame f, i)) (frame_end bytes h n f j is);
  step = due_is_step (layout_of h) n f.step (frame_read (layout_of h) (step_before (layout_of h) n) _ j f is).due;
}

-- what the walk finds behind n good frames
after_break : (bytes : List ℕ) (h : HeaderView) (n : ℕ) (f : FrameView) (j : Input) (rest : Verdict) (o : Option Break)
    → break_of (layout_of h) f.e f.particles ≡ o → IsFrameAt bytes h n f → Begins bytes h n → (IsGood bytes h n → Means bytes rest)
    → Means bytes (unless_broken n o rest)
after_break bytes h n f j rest None is frame begins go = go (record { frame = f; is = frame; gauss = is_gauss (layout_of h) f is })
after_break bytes h n f j rest (Some b) is frame begins go =
    record { header = h; begins = begins; frame = f; is = frame; breaks = is; least = is_least (layout_of h) f b is }

after_record : (bytes : List ℕ) (h : HeaderView) (m n : ℕ) (r : Parsed RecordView) → record_of bytes h n ≡ r → Begins bytes h n
    → (Begins bytes h (suc n) → Means bytes (walked m (layout_of h) (suc n) (step_before (layout_of h) (suc n)) (bytes_from bytes (record_place h (suc n)))))
    → Means bytes (walked (suc m) (layout_of h) n (step_before (layout_of h) n) (bytes_from bytes (record_place h n)))
after_record bytes h m n (Err f) is begins go =
    subst (λ (v : Verdict). Means bytes v) (sym (walked_fault m (layout_of h) n (step_before (layout_of h) n) (bytes_from bytes (record_place h n)) f is))
    (inr (record { header = h; number = n; begins = begins; fails = is }))
after_record bytes h m n (Ok (AnEnd mark, j)) is begins go =
    let none = end_read (layout_of h) (step_before (layout_of h) n) _ j mark is in
    subst (λ (v : Verdict). Means bytes v) (sym (walked_end m (layout_of h) n (step_before (layout_of h) n) (bytes_from bytes (record_place h n)) j mark is))
    (record { header = h; begins = begins; mark = mark; end = j.place; ends = is ∙ ap (λ t. Ok (AnEnd mark, input j.place t)) none })
after_record bytes h m n (Ok (AFrame f, j)) is begins go =
    let frame = frame_is bytes h n f j is in
    let end = frame_end bytes h n f j is in
    let l = layout_of h in
    subst (λ (v : Verdict). Means bytes v) (sym (walked_frame m l n (step_before l n) (bytes_from bytes (record_place h n)) j f is))
    (after_break bytes h n f j (walked m l (suc n) (Some f.step) j) (break_of l f.e f.particles) refl frame begins
    (λ good. subst (λ (i : Input). Means bytes (walked m l (suc n) (Some f.step) i)) (sym end)
    (subst (λ (s : ℕ). Means bytes (walked m l (suc n) (Some s) (bytes_from bytes (record_place h (suc n))))) (sym frame.step)
    (go (good_more bytes h n begins good)))))

means_from : (bytes : List ℕ) (h : HeaderView) (m n : ℕ) → 1 ≤ h.every → n + m ≡ h.steps + 2 → Begins bytes h n
    → Means bytes (walked m (layout_of h) n (step_before (layout_of h) n) (bytes_from bytes (record_place h n)))
means_from bytes h zero n least all begins =
    let last = begins.good (h.steps + 1) (omega (arith, all)) in
    let due = (frame_read (layout_of h) (step_before (layout_of h) (h.steps + 1)) _ _ last.frame last.is.reads).due in
    let few = few_due (layout_of h) (h.steps + 1) last.frame.step least due in
    absurd (omega (arith, few))
means_from bytes h (suc m) n least all begins =
    after_record bytes h m n (record_of bytes h n) refl begins
    (λ more. means_from bytes h m (suc n) least (omega (arith, all)) more)

-- the verdict says what the bytes are
pub means : (bytes : List ℕ) → Means bytes (verified bytes)
unfolding verified read_dump walked
means bytes = go (header_at (input 0 bytes)) refl
  where
    go : (r : Parsed HeaderView) → header_at (input 0 bytes) ≡ r → Means bytes (verdict_by r)
    go (Err f) is = inl is
    go (Ok (h, j)) is =
        let read = header_end bytes h j is in
        let end = read.end in
        let begins : Begins bytes h 0 = record { header = is ∙ ap (λ i. Ok (h, i)) end; good = λ k less. absurd (omega (arith, less)) } in
        subst (λ (i : Input). Means bytes (walked (h.steps + 2) (layout_of h) 0 None i)) (sym end)
        (means_from bytes h (h.steps + 2) 0 read.least (omega arith) begins)

-- n good frames are walked through
walks_good : (bytes : List ℕ) (h : HeaderView) (n m : ℕ) → Begins bytes h n
    → walked (n + m) (layout_of h) 0 None (bytes_from bytes (record_place h 0))
    ≡ walked m (layout_of h) n (step_before (layout_of h) n) (bytes_from bytes (record_place h n))
walks_good bytes h zero m begins = let same : 0 + m ≡ m = omega arith in ap (λ k. walked k (layout_of h) 0 None (bytes_from bytes (record_place h 0))) same
walks_good bytes h (suc n) m begins =
    let l = layout_of h in
    let same : suc n + m ≡ n + suc m = omega arith in
    let good = begins.good n (omega arith) in
    let f = good.frame in
    let rest = bytes_from bytes (record_place h (suc n)) in
    ap (λ k. walked k l 0 None (bytes_from bytes (record_place h 0))) same
    ∙ walks_good bytes h n (suc m) (record { header = begins.header; good = λ k less. begins.good k (omega (arith, less)) })
    ∙ walked_frame m l n (step_before l n) (bytes_from bytes (record_place h n)) rest f good.is.reads
    ∙ ap (λ o. unless_broken n o (walked m l (suc n) (Some f.step) rest)) (no_break l f good.gauss)
    ∙ ap (λ s. walked m l (suc n) (Some s) rest) good.is.step

-- so many frames are no more than the walk goes through
few_good : (bytes : List ℕ) (h : HeaderView) (n : ℕ) → 1 ≤ h.every → Begins bytes h n → n ≤ h.steps + 1
few_good bytes h zero least begins = omega arith
few_good bytes h (suc n) least begins =
    let good = begins.good n (omega arith) in
    let due = (frame_read (layout_of h) (step_before (layout_of h) n) _ _ good.frame good.is.reads).due in
    let few = few_due (layout_of h) n good.frame.step least due in
    omega (arith, few)

-- the verdict is that on the record behind them
verified_behind : (bytes : List ℕ) (h : HeaderView) (n : ℕ) → Begins bytes h n
    → verified bytes ≡ walked (suc (h.steps + 1 - n)) (layout_of h) n (step_before (layout_of h) n) (bytes_from bytes (record_place h n))
unfolding verified read_dump walked
verified_behind bytes h n begins =
    let least = (header_end bytes h _ begins.header).least in
    let few = few_good bytes h n least begins in
    let all : h.steps + 2 ≡ n + suc (h.steps + 1 - n) = omega (arith, few) in
    ap verdict_by begins.header
    ∙ ap (λ k. walked k (layout_of h) 0 None (bytes_from bytes (record_place h 0))) all
    ∙ walks_good bytes h n (suc (h.steps + 1 - n)) begins

-- what the bytes are says the verdict
header_fault : (bytes : List ℕ) (f : Fault) → header_at (input 0 bytes) ≡ Err f → verified bytes ≡ Err (BadDump f.place f.cause)
unfolding verified read_dump
header_fault bytes f is = ap verdict_by is

pub meant : (bytes : List ℕ) (verdict : Verdict) → Means bytes verdict → verified bytes ≡ verdict
meant bytes (Ok n) is =
    let h = is.header in
    verified_behind bytes h n is.begins
    ∙ walked_end (h.steps + 1 - n) (layout_of h) n (step_before (layout_of h) n) (bytes_from bytes (record_place h n)) (input is.end []) is.mark is.ends
meant bytes (Err (BadDump place cause)) (inl is) = header_fault bytes (fault place cause) is
meant bytes (Err (BadDump place cause)) (inr is) =
    let h = is.header in
    let n = is.number in
    verified_behind bytes h n is.begins
    ∙ walked_fault (h.steps + 1 - n) (layout_of h) n (step_before (layout_of h) n) (bytes_from bytes (record_place h n)) (fault place cause) is.fails
meant bytes (Err (Broken n b)) is =
    let h = is.header in
    let l = layout_of h in
    let f = is.frame in
    let rest = bytes_from bytes (record_place h (suc n)) in
    verified_behind bytes h n is.begins
    ∙ walked_frame (h.steps + 1 - n) l n (step_before l n) (bytes_from bytes (record_place h n)) rest f is.is.reads
    ∙ ap (λ o. unless_broken n o (walked (h.steps + 1 - n) l (suc n) (Some f.step) rest)) is.breaks
meant bytes (Err ReadFault) is = absurd is
meant bytes (Err NoMemory) is = absurd is

pub verdict_law : VerdictLaw
verdict_law bytes verdict =
    (λ is. subst (λ (v : Verdict). Means bytes v) is (means bytes), λ is. meant bytes verdict is)
