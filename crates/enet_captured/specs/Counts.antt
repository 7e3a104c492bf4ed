-- What is counted of a connection.
use Rattle.std.specs.Prelude.{◌==◌, Bool, true, false, Option, Some, None}
use Rattle.enet_codec.specs.declared.stop.Stop.{Stop}
use Rattle.enet_codec.specs.Stop.{stop_number}
use Rattle.enet_captured.specs.declared.timeline.Way.{Way}
use Rattle.enet_captured.specs.declared.timeline.Way.TheVariants.{Right, Left}

abbrev pub same_way : Way → Way → Bool
same_way Right Right = true
same_way Right Left = false
same_way Left Right = false
same_way Left Left = true

abbrev pub is_stopped_by : Option Stop → Stop → Bool
is_stopped_by None stop = false
is_stopped_by (Some found) stop = stop_number found == stop_number stop
