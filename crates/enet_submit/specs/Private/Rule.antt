-- The seats that a token knows to be finished.
use Rattle.std.specs.Prelude.{List, []}
use Rattle.enet_submit.specs.declared.rule.SeatLog.{SeatLog}
use Rattle.enet_submit.specs.declared.rule.View.{View}
use Rattle.enet_submit.specs.declared.rule.View.TheVariants.{Draining, Sending, Spent}

abbrev pub finished_in : View → List SeatLog
finished_in (Draining seats made taken finished) = finished
finished_in (Sending seat seats sent) = []
finished_in Spent = []
