use Rattle.std.proofs.Common.{◌≡◌, Some}
use Rattle.std.specs.List.{slice_get}
use Rattle.enet_sender.specs.Due.{SendingEnd}
use Rattle.enet_outbox.proofs.ChannelTurns.{TurnAt, left_at, settled}
use Rattle.enet_outbox.proofs.packing.pack_channel.Given as goal

abbrev pub invariant-commands : goal.invariant-commands
invariant-commands l =
    (s : SendingEnd) → slice_get l.initial.senders l.channel ≡ Some s → TurnAt l.pace l.channel l.initial.senders s l.initial.flow l.initial.progress l.initial.buf l.senders (settled l.flow l.went l.channel) l.went l.progress l.buf

abbrev pub decreases-commands : goal.decreases-commands
decreases-commands l = left_at (slice_get l.senders l.channel)
