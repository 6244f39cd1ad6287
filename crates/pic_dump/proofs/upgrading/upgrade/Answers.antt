use Rattle.std.proofs.Common.{Err, ap}
use Rattle.pic_dump.proofs.DumpUpgradeLaws.{stops_head, starves, cuts_header, upgrades_behind, exact}
use Rattle.pic_dump.proofs.TakenLaws.{stops_taken, head_taken, records_taken}
use Rattle.pic_dump.proofs.upgrading.upgrade.Goals as goal

pub returns-in_err-reader-clause-upgrades : goal.returns-in_err-reader-clause-upgrades
returns-in_err-reader-clause-upgrades g c =
    stops_head _ _ _ _ _ _ c.from_residual.ensures.1 c.in_err-reader.ensures.reads (λ same. c.in_err-reader.ensures.less (ap Err same))

pub returns-in_err-reader-clause-exactly : goal.returns-in_err-reader-clause-exactly
returns-in_err-reader-clause-exactly g c =
    let out = g.O.Sink.told c.args.out.now in
    exact _ _ out out _ (stops_head _ _ _ out _ _ c.from_residual.ensures.1 c.in_err-reader.ensures.reads (λ same. c.in_err-reader.ensures.less (ap Err same)))

pub returns-in_err-state-clause-upgrades : goal.returns-in_err-state-clause-upgrades
returns-in_err-state-clause-upgrades g c = starves _ _ _ _ _ c.from_residual-in_err-state.ensures.1 c.in_ok-reader.ensures.reads.answer

pub returns-in_err-put_header-clause-upgrades : goal.returns-in_err-put_header-clause-upgrades
returns-in_err-put_header-clause-upgrades g c =
    cuts_header _ _ _ _ _ _ _ c.from_residual-in_err-put_header.ensures.1 c.in_ok-reader.ensures.reads.answer c.upgraded.ensures
    c.in_err-put_header.ensures.bytes c.in_err-put_header.ensures.cause.err

pub returns-in_err-put_header-clause-exactly : goal.returns-in_err-put_header-clause-exactly
returns-in_err-put_header-clause-exactly g c =
    exact _ _ _ _ _ (cuts_header _ _ _ _ _ _ _ c.from_residual-in_err-put_header.ensures.1 c.in_ok-reader.ensures.reads.answer c.upgraded.ensures
    c.in_err-put_header.ensures.bytes c.in_err-put_header.ensures.cause.err)

pub returns-clause-upgrades : goal.returns-clause-upgrades
returns-clause-upgrades g c =
    upgrades_behind _ _ _ _ _ _ _ _ _ _ c.in_ok-reader.ensures.reads.answer c.in_ok-reader.ensures.stands c.upgraded.ensures
    c.in_ok-put_header.ensures.bytes c.in_ok-put_header.ensures.cause.ok c.put_records.ensures

pub returns-clause-exactly : goal.returns-clause-exactly
returns-clause-exactly g c =
    exact _ _ _ _ _ (upgrades_behind _ _ _ _ _ _ _ _ _ _ c.in_ok-reader.ensures.reads.answer c.in_ok-reader.ensures.stands c.upgraded.ensures
    c.in_ok-put_header.ensures.bytes c.in_ok-put_header.ensures.cause.ok c.put_records.ensures)

pub returns-in_err-reader-clause-taken : goal.returns-in_err-reader-clause-taken
returns-in_err-reader-clause-taken g c = stops_taken _ _ _ _ _ c.in_err-reader.ensures.reads c.in_err-reader.ensures.within

pub returns-in_err-state-clause-taken : goal.returns-in_err-state-clause-taken
returns-in_err-state-clause-taken g c = head_taken _ _ _ c.in_ok-reader.ensures.reads.answer

pub returns-in_err-put_header-clause-taken : goal.returns-in_err-put_header-clause-taken
returns-in_err-put_header-clause-taken g c = head_taken _ _ _ c.in_ok-reader.ensures.reads.answer

pub returns-clause-taken : goal.returns-clause-taken
returns-clause-taken g c = records_taken _ _ _ _ _ c.in_ok-reader.ensures.reads.answer c.in_ok-reader.ensures.stands c.put_records.ensures.moves

pub returns-clause-no_memory : goal.returns-clause-no_memory
returns-clause-no_memory g c = λ wanted. absurd (c.put_records.ensures.no_memory wanted)
