-- Why a dump isn't carried on, where a call stopped.
use Rattle.pic_deck.specs.declared.refusal.DeckFault.{DeckFault}
use Rattle.pic_deck.specs.declared.refusal.DeckFault.TheVariants as deck
use Rattle.pic_fields.specs.declared.read_stop.ReadStop.{ReadStop}
use Rattle.pic_fields.specs.declared.read_stop.ReadStop.TheVariants as read
use Rattle.pic_header.specs.declared.head_stop.HeadStop.{HeadStop}
use Rattle.pic_header.specs.declared.head_stop.HeadStop.TheVariants as head
use Rattle.pic_verify.specs.declared.verify_stop.VerifyStop.{VerifyStop}
use Rattle.pic_verify.specs.declared.verify_stop.VerifyStop.TheVariants as verify
use Rattle.pic_resume.specs.declared.carry_stop.CarryStop.{CarryStop}
use Rattle.pic_resume.specs.declared.carry_stop.CarryStop.TheVariants.{ReadFault, BadDump, Refused, Broken, NoMemory}

-- behind the header
abbrev pub stop_of_read : ReadStop → CarryStop
stop_of_read read.ReadFault = ReadFault
stop_of_read (read.BadDump place cause) = BadDump place cause

-- in the header
abbrev pub stop_of_head : HeadStop → CarryStop
stop_of_head (head.Read stop) = stop_of_read stop
stop_of_head head.NoMemory = NoMemory

-- at the steps or the tiles that were asked for
abbrev pub stop_of_deck : DeckFault → CarryStop
stop_of_deck (deck.Refused refusal) = Refused refusal
stop_of_deck deck.NoMemory = NoMemory

-- of a dump that isn't verified
abbrev pub stop_of_verdict : VerifyStop → CarryStop
stop_of_verdict verify.ReadFault = ReadFault
stop_of_verdict (verify.BadDump place cause) = BadDump place cause
stop_of_verdict (verify.Broken frame at) = Broken frame at
stop_of_verdict verify.NoMemory = NoMemory
