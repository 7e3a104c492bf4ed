-- The number and the name of each stop.
use Rattle.std.specs.Prelude.{ℕ, List, codes}
use Rattle.enet_codec.specs.declared.stop.Stop.{Stop}
use Rattle.enet_codec.specs.declared.stop.Stop.TheVariants.{Short, Compressed, UnknownPeer, WrongAddress, WrongSession, BadCommand, NotConnected, BadChannel, BadFragment, Waiting, Memory, NoSentTime, NoSlot}

abbrev pub stop_number : Stop → ℕ
stop_number Short = 1
stop_number Compressed = 2
stop_number UnknownPeer = 3
stop_number WrongAddress = 4
stop_number WrongSession = 5
stop_number BadCommand = 6
stop_number NotConnected = 7
stop_number BadChannel = 8
stop_number BadFragment = 9
stop_number Waiting = 10
stop_number Memory = 11
stop_number NoSentTime = 12
stop_number NoSlot = 13

abbrev pub stop_label : Stop → List ℕ
stop_label Short = codes "S1 Short"
stop_label Compressed = codes "S2 Compressed"
stop_label UnknownPeer = codes "S3 UnknownPeer"
stop_label WrongAddress = codes "S4 WrongAddress"
stop_label WrongSession = codes "S5 WrongSession"
stop_label BadCommand = codes "S6 BadCommand"
stop_label NotConnected = codes "S7 NotConnected"
stop_label BadChannel = codes "S8 BadChannel"
stop_label BadFragment = codes "S9 BadFragment"
stop_label Waiting = codes "S10 Waiting"
stop_label Memory = codes "S11 Memory"
stop_label NoSentTime = codes "S12 NoSentTime"
stop_label NoSlot = codes "S13 NoSlot"
