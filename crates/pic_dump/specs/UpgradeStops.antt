-- Why a dump isn't upgraded, where reading it stopped.
use Rattle.pic_fields.specs.declared.read_stop.ReadStop.{ReadStop}
use Rattle.pic_fields.specs.declared.read_stop.ReadStop.TheVariants as read
use Rattle.pic_header.specs.declared.head_stop.HeadStop.{HeadStop}
use Rattle.pic_header.specs.declared.head_stop.HeadStop.TheVariants as head
use Rattle.pic_dump.specs.declared.upgrade_stop.UpgradeStop.{UpgradeStop}
use Rattle.pic_dump.specs.declared.upgrade_stop.UpgradeStop.TheVariants.{ReadFault, BadDump, NoMemory}

-- behind the header
abbrev pub stop_of_read : ReadStop → UpgradeStop
stop_of_read read.ReadFault = ReadFault
stop_of_read (read.BadDump place cause) = BadDump place cause

-- in the header
abbrev pub stop_of_head : HeadStop → UpgradeStop
stop_of_head (head.Read stop) = stop_of_read stop
stop_of_head head.NoMemory = NoMemory
