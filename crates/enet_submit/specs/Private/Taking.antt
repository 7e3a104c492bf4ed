-- What a drain has left of packets for several peers.
use Rattle.std.specs.Prelude.{List}
use Rattle.enet_submit.specs.declared.order.Submission.{Submission}
use Rattle.enet_submit.specs.declared.token.Drain.{Drain}
use Rattle.enet_submit.specs.Parcels.{left_of}

abbrev pub left_in : Drain → List Submission
left_in d = left_of d.seat d.number d.rest
