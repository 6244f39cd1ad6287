use Rattle.std.proofs.Common.{refl}
use Rattle.pic_on_dump.proofs.UpgradeLaws.{put_whole, put_up_to, unread, put_failed, put_none}
use Rattle.pic_on_dump.proofs.upgrading.upgrade.Goals as goal

pub returns-in-Ok : goal.returns-in-Ok
returns-in-Ok g c =
    let o = g.O.Sink.told c.upgrade.new.out in
    put_whole (g.S.Source.told c.args.source.now) (g.S.Source.told c.upgrade.new.source) (g.O.Sink.told c.args.out.now) o
    (g.R.Sink.told c.args.report.now) (g.R.Sink.told c.end_whole.new.report) c.upgrade.ensures.taken c.end_whole.result c.in-Ok.frames
    c.in-Ok.ensures.upgrades (c.end_whole.ensures o)

pub returns-in-Err-ReadFault : goal.returns-in-Err-ReadFault
returns-in-Err-ReadFault g c =
    let o = g.O.Sink.told c.upgrade.new.out in
    unread (g.S.Source.told c.args.source.now) (g.S.Source.told c.upgrade.new.source) (g.O.Sink.told c.args.out.now) o
    (g.R.Sink.told c.args.report.now) (g.R.Sink.told c.end_early.new.report) c.upgrade.ensures.taken c.end_early.result
    (rw c.in-Err-ReadFault.field-0-is at c.in-Err-ReadFault.ensures.upgrades) (c.end_early.ensures o)

pub returns-in-Err-BadDump : goal.returns-in-Err-BadDump
returns-in-Err-BadDump g c =
    let o = g.O.Sink.told c.upgrade.new.out in
    put_up_to (g.S.Source.told c.args.source.now) (g.S.Source.told c.upgrade.new.source) (g.O.Sink.told c.args.out.now) o
    (g.R.Sink.told c.args.report.now) (g.R.Sink.told c.end_early-in-Err-BadDump.new.report) c.upgrade.ensures.taken c.end_early-in-Err-BadDump.result
    c.in-Err-BadDump.place c.in-Err-BadDump.cause
    (rw c.in-Err-BadDump.field-0-is at c.in-Err-BadDump.ensures.upgrades) (c.end_early-in-Err-BadDump.ensures o)

pub returns-in-Err-WriteFault : goal.returns-in-Err-WriteFault
returns-in-Err-WriteFault g c =
    put_failed (g.S.Source.told c.args.source.now) (g.S.Source.told c.upgrade.new.source) (g.O.Sink.told c.args.out.now)
    (g.O.Sink.told c.upgrade.new.out) (g.R.Sink.told c.args.report.now) c.upgrade.ensures.taken
    (rw c.in-Err-WriteFault.field-0-is at c.in-Err-WriteFault.ensures.upgrades)

pub returns-in-Err-NoMemory : goal.returns-in-Err-NoMemory
returns-in-Err-NoMemory g c =
    put_none (g.S.Source.told c.args.source.now) (g.S.Source.told c.upgrade.new.source) (g.O.Sink.told c.args.out.now)
    (g.O.Sink.told c.upgrade.new.out) (g.R.Sink.told c.args.report.now) c.upgrade.ensures.taken
    (rw c.in-Err-NoMemory.field-0-is at c.in-Err-NoMemory.ensures.upgrades)
    ((rw c.in-Err-NoMemory.field-0-is at c.in-Err-NoMemory.ensures.no_memory) refl)
