use Rattle.std.proofs.Common.{rules}
use Rattle.enet_peer.proofs.peer.Peer.submission_refusal.Goals as goal

pub returns : goal.returns
returns c = search rules

pub returns-then-channel-channels : goal.returns-then-channel-channels
returns-then-channel-channels c = search rules

pub returns-then-len-self : goal.returns-then-len-self
returns-then-len-self c = search rules
