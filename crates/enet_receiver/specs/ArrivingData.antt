-- The command that an `ArrivingData` is.
use Rattle.enet_fragment.specs.declared.data.DataCommand.{DataCommand}
use Rattle.enet_receiver.specs.declared.arriving_data.ArrivingData.{ArrivingData}

abbrev pub data_command : ArrivingData → DataCommand
data_command a = record { reliable = a.reliable; number = a.head.number; unreliable = a.unreliable; fragment = a.fragment; body = a.payload.now }
