-- Why a dump isn't verified, where reading it stopped.
use Rattle.pic_fields.specs.declared.read_stop.ReadStop.{ReadStop}
use Rattle.pic_fields.specs.declared.read_stop.ReadStop.TheVariants as read
use Rattle.pic_header.specs.declared.head_stop.HeadStop.{HeadStop}
use Rattle.pic_header.specs.declared.head_stop.HeadStop.TheVariants as head
use Rattle.pic_verify.specs.declared.verify_stop.VerifyStop.{VerifyStop}
use Rattle.pic_verify.specs.declared.verify_stop.VerifyStop.TheVariants.{ReadFault, BadDump, NoMemory}

-- behind the header
abbrev pub stop_of_read : ReadStop → VerifyStop
stop_of_read read.ReadFault = ReadFault
stop_of_read (read.BadDump place cause) = BadDump place cause

-- in the header
abbrev pub stop_of_head : HeadStop → VerifyStop
stop_of_head (head.Read stop) = stop_of_read stop
stop_of_head head.NoMemory = NoMemory
