-- What is put of a whole dump is the text of its version 2 spelling.
use Rattle.std.proofs.Common.{◌≡◌, List, [], ◌∷◌, ◌++◌, refl, sym, ap, ◌∙◌, append_assoc}
use Rattle.std.specs.List.{flat_map}
use Rattle.pic_io.specs.Sinks.{outs}
use Rattle.pic_header.specs.Header.{HeaderView, upgraded}
use Rattle.pic_header.specs.HeaderText.{header_bytes}
use Rattle.pic_record.specs.FrameFields.{FrameView}
use Rattle.pic_record.specs.Layout.{LayoutView, layout_of}
use Rattle.pic_record.specs.Records.{AFrame}
use Rattle.pic_record.specs.RecordText.{end_bytes}
use Rattle.pic_record.specs.Spelling.{record_bytes}
use Rattle.pic_dump.specs.Readable.{dump_bytes}
use Rattle.pic_dump.specs.Upgrade.{frame_pieces, end_pieces, upgrade_dump, upgrade_of}
use Rattle.pic_dump.specs.UpgradeSpelling.{UpgradesAreSpelled, VersionTwoStays}
use Rattle.pic_dump.proofs.SpellingLaws.{dumps_are_spelled}
use Rattle.pic_dump.proofs.UpgradeLaws.{outs_more}

frames_text : (l : LayoutView) (frames : List FrameView) → outs (frame_pieces l frames) ≡ flat_map (λ f. record_bytes l (AFrame f)) frames
frames_text l [] = refl
frames_text l (f ∷ frames) = ap (λ t. record_bytes l (AFrame f) ++ t) (frames_text l frames)

pub upgrades_are_spelled : UpgradesAreSpelled
unfolding upgrade_of
upgrades_are_spelled bytes d mark read end =
    let h = d.header in
    let l = layout_of h in
    let first = header_bytes (upgraded h) in
    ap (λ r. outs (upgrade_dump r).pieces) read
    ∙ ap (λ e. first ++ outs (frame_pieces l d.frames ++ end_pieces e)) end
    ∙ ap (λ t. first ++ t) (outs_more (frame_pieces l d.frames) (end_bytes mark) ∙ ap (λ t. t ++ end_bytes mark) (frames_text l d.frames))
    ∙ sym (append_assoc first (flat_map (λ f. record_bytes l (AFrame f)) d.frames) (end_bytes mark))

same_header : (h : HeaderView) → h.version ≡ 2 → upgraded h ≡ h
same_header h two = λ i. record h { version = sym two i }

pub version_two_stays : VersionTwoStays
version_two_stays bytes d mark small read end two =
    upgrades_are_spelled bytes d mark read end
    ∙ ap (λ h. dump_bytes h d.frames mark) (same_header d.header two)
    ∙ sym (dumps_are_spelled bytes d mark small read end)
