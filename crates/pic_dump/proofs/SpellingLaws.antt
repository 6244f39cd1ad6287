-- A dump has one spelling.
use Rattle.std.proofs.Common.{◌≡◌, ℕ, zero, suc, ◌+◌, List, ◌++◌, Option, Some, None, Ok, Err, refl, sym, ap, ◌∙◌, append_assoc, append-nil}
use Rattle.std.specs.List.{flat_map}
use Rattle.pic_grid.specs.declared.stop.EndMark.{EndMark}
use Rattle.pic_fields.specs.Bytes.{IsBytes}
use Rattle.pic_fields.specs.Parser.{Input, input, Parsed}
use Rattle.pic_header.specs.Header.{HeaderView}
use Rattle.pic_header.specs.HeaderFields.{header_at}
use Rattle.pic_header.specs.HeaderText.{header_bytes}
use Rattle.pic_header.proofs.HeaderSpells.{spells_header}
use Rattle.pic_record.specs.FrameFields.{FrameView}
use Rattle.pic_record.specs.Layout.{LayoutView, layout_of}
use Rattle.pic_record.specs.Records.{RecordView, AFrame, AnEnd, record_at}
use Rattle.pic_record.specs.RecordText.{end_bytes}
use Rattle.pic_record.specs.Spelling.{record_bytes}
use Rattle.pic_record.proofs.FormatLaws.{end_read}
use Rattle.pic_record.proofs.RecordSpells.{spells_record, record_any}
use Rattle.pic_dump.specs.DumpRead.{DumpRead, RecordsRead, of_parsed, read_on, of_header, read_dump}
use Rattle.pic_dump.specs.Readable.{dump_bytes}
use Rattle.pic_dump.specs.Spelling.{DumpsAreSpelled}

-- the text of frames and an end record
abbrev text_of : LayoutView → List FrameView → EndMark → List ℕ
text_of l frames mark = flat_map (λ f. record_bytes l (AFrame f)) frames ++ end_bytes mark

-- the bytes are the text of what was read, where that ends with an end record
abbrev IsText : LayoutView → List ℕ → RecordsRead → Type 0
IsText l bytes r = (mark : EndMark) → r.1 ≡ Ok mark → bytes ≡ text_of l r.0 mark

record_text : (l : LayoutView) (last : Option ℕ) (i : Input) (n : ℕ)
    → ((step : ℕ) (j : Input) → IsBytes j.bytes → IsText l j.bytes (read_on n l (Some step) j))
    → (r : Parsed RecordView) → record_at l last i ≡ r → IsBytes i.bytes
    → IsText l i.bytes (of_parsed (λ step rest. read_on n l (Some step) rest) r)
record_text l last i n behind (Err f) is small mark end = absurd cc
record_text l last i n behind (Ok (AnEnd m, j)) is small mark end =
    let took = (spells_record l).takes i.place i.bytes (AnEnd m) j small (record_any l last i j (AnEnd m) is) in
    let none = end_read l last i j m is in
    let same : m ≡ mark = cc in
    took.parts ∙ ap (λ b. end_bytes m ++ b) none ∙ append-nil (end_bytes m) ∙ ap end_bytes same
record_text l last i n behind (Ok (AFrame f, j)) is small mark end =
    let took = (spells_record l).takes i.place i.bytes (AFrame f) j small (record_any l last i j (AFrame f) is) in
    let rest = read_on n l (Some f.step) j in
    let text = record_bytes l (AFrame f) in
    took.parts
    ∙ ap (λ b. text ++ b) (behind f.step j took.small mark end)
    ∙ sym (append_assoc text (flat_map (λ g. record_bytes l (AFrame g)) rest.0) (end_bytes mark))

records_text : (n : ℕ) (l : LayoutView) (last : Option ℕ) (i : Input) → IsBytes i.bytes → IsText l i.bytes (read_on n l last i)
unfolding read_on
records_text zero l last i small = λ mark end. absurd cc
records_text (suc n) l last i small =
    record_text l last i n (λ step j small_j. records_text n l (Some step) j small_j) (record_at l last i) refl small

pub dumps_are_spelled : DumpsAreSpelled
unfolding read_dump
dumps_are_spelled bytes d mark small read end = go (header_at (input 0 bytes)) refl read
  where
    go : (r : Parsed HeaderView) → header_at (input 0 bytes) ≡ r → of_header r ≡ Ok d → bytes ≡ dump_bytes d.header d.frames mark
    go (Err f) is there = absurd cc
    go (Ok (h, j)) is there =
        let took = spells_header.takes 0 bytes h j small is in
        let records = read_on (h.steps + 2) (layout_of h) None j in
        let whole : record { header = h; frames = records.0; end = records.1 } ≡ d = cc in
        let ends : records.1 ≡ Ok mark = ap (λ (x : DumpRead). x.end) whole ∙ end in
        let l = layout_of h in
        took.parts
        ∙ ap (λ b. header_bytes h ++ b) (records_text (h.steps + 2) l None j took.small mark ends)
        ∙ sym (append_assoc (header_bytes h) (flat_map (λ f. record_bytes l (AFrame f)) records.0) (end_bytes mark))
        ∙ ap (λ (x : DumpRead). dump_bytes x.header x.frames mark) whole
