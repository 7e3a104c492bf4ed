-- A journal owns nothing, so it may go to another thread.
use denote.Param.Send.{IsSend}
use Rattle.enet_wire.specs.contracts.journal.Journal.{the_row}

pub send : IsSend the_row
send = record { owned = λ d vs. ((λ vss. (tt, tt)), tt); leaving = λ k x w. tt }
