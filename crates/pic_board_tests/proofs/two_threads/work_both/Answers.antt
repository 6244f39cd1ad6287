use denote.Exit.{no}
use denote.Param.Send.{param_send, arg_send, shr_send}
use Rattle.pic_yard.proofs.CrossLaws.{pair_send, seat_send, yard_sync}
use Rattle.pic_board_tests.proofs.two_threads.work_both.Goals as goal

pub join-requires-send-F : goal.join-requires-send-F
join-requires-send-F g c κs within = param_send _ _ (arg_send _ no _ (pair_send _ _ _ (shr_send _ _ _ yard_sync) seat_send))
