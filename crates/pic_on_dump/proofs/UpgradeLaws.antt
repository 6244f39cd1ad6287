-- The command `upgrade`: how it ends, and what its answers mean.
use Rattle.std.proofs.Common.{◌≡◌, ◌⊎◌, ℕ, zero, suc, List, [], ◌∷◌, ◌++◌, take, Result, Ok, Err, inl, inr, refl, sym, ap, ◌∙◌, subst}
use Rattle.std.specs.Prelude.{⊤, unwrap_or, IfSome}
use Rattle.pic_io.specs.Told.{Told}
use Rattle.pic_io.specs.Sinks.{Sinks, sinks, Piece, outs, lines, Wrote}
use Rattle.pic_io.specs.declared.side.Side.TheVariants.{Out}
use Rattle.pic_io.proofs.Puts.{wrote_none, wrote_out, cut_more}
use Rattle.pic_grid.specs.declared.stop.EndMark.{EndMark}
use Rattle.pic_fields.specs.Parser.{Fault}
use Rattle.pic_record.specs.FrameFields.{FrameView}
use Rattle.pic_record.specs.Layout.{LayoutView, layout_of}
use Rattle.pic_dump.specs.declared.upgrade_stop.UpgradeStop.TheVariants as stop
use Rattle.pic_dump.specs.DumpRead.{DumpRead, read_dump}
use Rattle.pic_dump.specs.Upgrade.{Answer, Puts, FailsToRead, FailsToPut, PutsNothing, Upgrades, frame_pieces, end_pieces, answer_behind, upgrade_dump}
use Rattle.pic_dump.specs.Upgrade.{upgrade_of}
use Rattle.pic_dump.specs.Allowed.{TakesAllowed, TakesHeader}
use Rattle.pic_dump.specs.Whole.{Parts, dump_parts, parts_in, TakesWhole}
use Rattle.pic_dump.proofs.UntakenLaws.{none_allowed, none_header}
use Rattle.pic_report.specs.declared.cut.Cut.{Cut}
use Rattle.pic_report.specs.declared.cut.Cut.TheVariants as cut
use Rattle.pic_report.specs.declared.ended.Ended.{Ended}
use Rattle.pic_report.specs.declared.ended.Ended.TheVariants.{Upgraded, BadDump, ReadFault, NoMemory}
use Rattle.pic_report.specs.Ended.{ended_of}
use Rattle.pic_report.specs.Reading.{Given, Held, Failed, FailedBehind, Gave, Reading}
use Rattle.pic_on_dump.specs.DumpReading.{TakesOfDump}
use Rattle.pic_report.specs.Leaves.{ComesTo, Fulfils, LeavesNothing}
use Rattle.pic_report.specs.Finishes.{Announces}
use Rattle.pic_report.specs.Manner.{Call, Performs}
use Rattle.pic_on_dump.specs.Upgrade.{upgrade_line, upgrade_outcome, ended_upgrade, upgrade_on, ReadsUpgraded, upgrading}
use Rattle.pic_report.specs.Meaning.{MeansIn}
use Rattle.pic_report.proofs.EndLaws.{announced, fed, unlike, told_held, gave_known}
use Rattle.pic_report.proofs.PieceLaws.{told_behind}
use Rattle.pic_on_dump.proofs.VerifyLaws.{left_held}

-- pieces with no line
abbrev AreSilent : List Piece → Type 0
AreSilent [] = ⊤
AreSilent (p ∷ ps) = (p.line ≡ []) × AreSilent ps

no_lines : (ps : List Piece) → AreSilent ps → lines ps ≡ []
no_lines [] silent = refl
no_lines (p ∷ ps) (none, silent) = ap (λ line. line ++ lines ps) none ∙ no_lines ps silent

silent_front : (n : ℕ) (ps : List Piece) → AreSilent ps → AreSilent (take n ps)
silent_front zero ps silent = tt
silent_front (suc n) [] silent = tt
silent_front (suc n) (p ∷ ps) (none, silent) = (none, silent_front n ps silent)

silent_end : (end : Result EndMark Fault) → AreSilent (end_pieces end)
silent_end (Ok mark) = (refl, tt)
silent_end (Err f) = tt

silent_frames : (l : LayoutView) (frames : List FrameView) (end : Result EndMark Fault) → AreSilent (frame_pieces l frames ++ end_pieces end)
silent_frames l [] end = silent_end end
silent_frames l (f ∷ frames) end = (refl, silent_frames l frames end)

silent_dump : (r : Result DumpRead Fault) → AreSilent (upgrade_dump r).pieces
silent_dump (Ok d) = (refl, silent_frames (layout_of d.header) d.frames d.end)
silent_dump (Err f) = tt

silent : (held : List ℕ) → AreSilent (upgrade_of held).pieces
unfolding upgrade_of
silent held = silent_dump (read_dump held)

-- some bytes have a number of frames, or a first fault
abbrev IsFound : Answer → Type 0
IsFound answer = ((frames : ℕ) × (answer ≡ Ok frames)) ⊎ ((f : Fault) × (answer ≡ Err (stop.BadDump f.place f.cause)))

found_behind : (n : ℕ) (end : Result EndMark Fault) → IsFound (answer_behind n end)
found_behind n (Ok mark) = inl (n, refl)
found_behind n (Err f) = inr (f, refl)

found_dump : (r : Result DumpRead Fault) → IsFound (upgrade_dump r).answer
found_dump (Ok d) = found_behind _ d.end
found_dump (Err f) = inr (f, refl)

found : (held : List ℕ) → IsFound (upgrade_of held).answer
unfolding upgrade_of
found held = found_dump (read_dump held)

-- the parts that an upgrade puts are those of the dump
parts_of : (r : Result DumpRead Fault) → (upgrade_dump r).parts ≡ dump_parts r
parts_of (Ok d) = refl
parts_of (Err f) = refl

parts_are : (held : List ℕ) → (upgrade_of held).parts ≡ parts_in held
unfolding upgrade_of
parts_are held = parts_of (read_dump held)

-- a dump that gave this, of which no more was taken than is allowed
abbrev read : (source source' : Told) (allowed : TakesAllowed source source') (given : Given) → Gave source source' allowed.front given
    → Reading (TakesOfDump source source') source source'
read source source' allowed given gave = record {
  front = allowed.front;
  most = record { allowed = allowed; same = refl };
  taken = allowed.taken;
  given = given;
  gave = gave;
}

-- a call that put a dump again, of which no more was taken than is allowed
module _ (source source' out out' r r' : Told) (allowed : TakesAllowed source source') (finish : Result Ended Cut) where
  -- all that was whole of what the source held
  put : (answer : Answer) (puts : Puts upgrade_of 0 source source' out out' answer)
      → ReadsUpgraded source source' (Held puts.held) (ended_of finish)
      → Announces (upgrade_outcome [] (ended_upgrade answer)) (sinks out' r) (sinks out' r') finish
      → Performs upgrading source source' (sinks out r) (sinks out' r') (ended_of finish)
  put answer puts reads ends =
      let parts = (upgrade_of puts.held).pieces in
      let first : Wrote (sinks out r) (sinks out' r) (outs parts) (lines parts) =
      subst (λ (t : List ℕ). Wrote (sinks out r) (sinks out' r) (outs parts) t) (sym (no_lines parts (silent puts.held)))
      (wrote_out out out' r (outs parts) puts.put puts.calm_out) in
      let end = ended_upgrade answer in
      let whole = told_behind [] parts (upgrade_line end) end (sinks out r) (sinks out' r) (sinks out' r') finish first ends in
      record {
        read = read source source' allowed (Held puts.held) (puts.calm, left_held source.bytes puts.held puts.was);
        calm = λ _. puts.calm;
        reads = reads;
        comes = subst (λ (a : Answer). ComesTo LeavesNothing (upgrade_outcome parts (ended_upgrade a)) (sinks out r) (sinks out' r') (ended_of finish))
            (sym puts.answered) (announced LeavesNothing (upgrade_outcome parts end) (sinks out r) (sinks out' r') finish whole);
      }

  pub put_whole : (frames : ℕ) → Upgrades source source' out out' (Ok frames)
      → Announces (upgrade_outcome [] (Upgraded frames)) (sinks out' r) (sinks out' r') finish
      → Performs upgrading source source' (sinks out r) (sinks out' r') (ended_of finish)
  put_whole frames is ends =
      put (Ok frames) is.answer.0 (record {
        memory = λ wanted. absurd (fed (upgrade_outcome [] (Upgraded frames)) (sinks out' r) (sinks out' r') finish (λ same. cc) ends wanted);
        end = λ _ _. is.answer.1;
        part = tt;
      }) ends

  pub put_up_to : (place cause : ℕ) → Upgrades source source' out out' (Err (stop.BadDump place cause))
      → Announces (upgrade_outcome [] (BadDump place cause)) (sinks out' r) (sinks out' r') finish
      → Performs upgrading source source' (sinks out r) (sinks out' r') (ended_of finish)
  put_up_to place cause is ends =
      let o = upgrade_outcome [] (BadDump place cause) in
      put (Err (stop.BadDump place cause)) is.answer (record {
        memory = λ wanted. absurd (fed o (sinks out' r) (sinks out' r') finish (λ same. cc) ends wanted);
        end = λ frames same. absurd (unlike o (sinks out' r) (sinks out' r') finish (Upgraded frames) (λ same'. cc) (λ side same'. cc) ends same);
        part = tt;
      }) ends

  -- a read failed
  pub unread : Upgrades source source' out out' (Err stop.ReadFault) → Announces (upgrade_outcome [] ReadFault) (sinks out' r) (sinks out' r') finish
      → Performs upgrading source source' (sinks out r) (sinks out' r') (ended_of finish)
  unread is ends =
      let fails : FailsToRead upgrade_of 0 source source' out out' = is.answer in
      let parts = take fails.whole (upgrade_of fails.held).pieces in
      let first : Wrote (sinks out r) (sinks out' r) (outs parts) (lines parts) =
      subst (λ (t : List ℕ). Wrote (sinks out r) (sinks out' r) (outs parts) t)
      (sym (no_lines parts (silent_front fails.whole (upgrade_of fails.held).pieces (silent fails.held))))
      (wrote_out out out' r (outs parts) fails.put fails.calm_out) in
      let o = upgrade_outcome [] ReadFault in
      record {
        read = read source source' allowed (FailedBehind fails.held fails.whole) (fails.rose, left_held source.bytes fails.held fails.was);
        calm = λ wanted. absurd (fed o (sinks out' r) (sinks out' r') finish (λ same. cc) ends wanted);
        reads = record {
          memory = λ wanted. absurd (fed o (sinks out' r) (sinks out' r') finish (λ same. cc) ends wanted);
          end = λ frames same. absurd (unlike o (sinks out' r) (sinks out' r') finish (Upgraded frames) (λ same'. cc) (λ side same'. cc) ends same);
          part = subst (λ (parts : Parts). TakesWhole parts 0 fails.whole source source') (parts_are fails.held) fails.takes;
        };
        comes = announced LeavesNothing (upgrade_outcome parts ReadFault) (sinks out r) (sinks out' r') finish
            (told_behind [] parts (upgrade_line ReadFault) ReadFault (sinks out r) (sinks out' r) (sinks out' r') finish first ends);
      }

-- a put failed
pub put_failed : (source source' out out' r : Told) → TakesAllowed source source' → Upgrades source source' out out' (Err stop.WriteFault)
    → Performs upgrading source source' (sinks out r) (sinks out' r) (ended_of (Err (cut.Write Out)))
put_failed source source' out out' r allowed is =
    let fails : FailsToPut upgrade_of 0 source source' out out' = is.answer in
    record {
      read = read source source' allowed (Held fails.held) (fails.calm, left_held source.bytes fails.held fails.was);
      calm = λ _. fails.calm;
      reads = record { memory = λ same. cc; end = λ frames same. cc; part = tt };
      comes = inr (inl (record {
        side = Out;
        failed = refl;
        cut = cut_more Out (sinks out r) (sinks out' r) (upgrade_of fails.held).pieces ((upgrade_on (Held fails.held)).last ∷ []) (fails.cut r);
      }));
    }

-- memory was wanting
pub put_none : (source source' out out' r : Told) → TakesAllowed source source' → Upgrades source source' out out' (Err stop.NoMemory)
    → TakesHeader source source' → Performs upgrading source source' (sinks out r) (sinks out' r) NoMemory
put_none source source' out out' r allowed is header =
    let none : PutsNothing source source' out out' = is.answer in
    record {
      read = read source source' allowed (Held (unwrap_or source.bytes [])) (gave_known source source' allowed.front none.calm);
      calm = λ _. none.calm;
      reads = record { memory = λ _. header; end = λ frames same. cc; part = tt };
      comes = inr (inr (record { wanted = refl; left = wrote_out out out' r [] none.put none.calm_out }));
    }

-- it was wanting before anything was taken
pub upgrade_starved : (source : Told) (before : Sinks) → Performs upgrading source source before before NoMemory
upgrade_starved source before =
    let allowed = none_allowed source in
    record {
      read = read source source allowed (Held (unwrap_or source.bytes [])) (gave_known source source allowed.front refl);
      calm = λ _. refl;
      reads = record { memory = λ _. none_header source; end = λ frames same. cc; part = tt };
      comes = inr (inr (record { wanted = refl; left = wrote_none before }));
    }

-- what its answers mean
module _ (c : Call) (ended : Ended) (p : Performs upgrading c.source c.source_now c.sinks c.sinks_now ended) where
  on_given : (given : Given) → Gave c.source c.source_now p.read.front given → Fulfils (upgrade_on given) c.sinks c.sinks_now ended
      → MeansIn upgrading c (upgrade_on given).answer
  on_given (Failed taken) gave ends = record { rose = gave.0; calm_out = ends.wrote.calm_out; calm_report = ends.wrote.calm_report }
  on_given (FailedBehind held whole) gave ends = record { rose = gave.0; calm_out = ends.wrote.calm_out; calm_report = ends.wrote.calm_report }
  on_given (Held held) gave ends = go (found held)
    where
      on_held : (a : Answer) → (upgrade_of held).answer ≡ a → IfSome c.source.bytes (λ bytes. (upgrade_of bytes).answer ≡ a)
      on_held a is = told_held (λ bytes. (upgrade_of bytes).answer ≡ a) c.source.bytes held gave.1 is

      means : (a : Answer) → (upgrade_of held).answer ≡ a → MeansIn upgrading c (ended_upgrade a)
          → MeansIn upgrading c (ended_upgrade (upgrade_of held).answer)
      means a is so = subst (λ (x : Answer). MeansIn upgrading c (ended_upgrade x)) (sym is) so

      go : IsFound (upgrade_of held).answer → MeansIn upgrading c (ended_upgrade (upgrade_of held).answer)
      go (inl (frames, is)) = means (Ok frames) is (record {
        good = on_held (Ok frames) is;
        end = p.reads.end frames (sym ends.answers ∙ ap ended_upgrade is);
      })
      go (inr (f, is)) = means (Err (stop.BadDump f.place f.cause)) is (on_held (Err (stop.BadDump f.place f.cause)) is)

  pub upgrade_means : Fulfils (upgrade_on p.read.given) c.sinks c.sinks_now ended → MeansIn upgrading c (upgrade_on p.read.given).answer
  upgrade_means ends = on_given p.read.given p.read.gave ends
