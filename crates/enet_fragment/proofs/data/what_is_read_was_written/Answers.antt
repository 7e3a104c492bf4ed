use Rattle.enet_fragment.proofs.Commands.{data_of-message_of}
use Rattle.enet_fragment.proofs.data.what_is_read_was_written.Goals as goal

pub returns : goal.returns
returns c = data_of-message_of
