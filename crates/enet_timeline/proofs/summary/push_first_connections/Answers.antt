use Rattle.std.proofs.Common.{sym, append_assoc, append-nil}
use Rattle.std.proofs.lemmas.Bool.{lt-ltb}
use Rattle.enet_timeline.specs.Summaries.{first_connections_text}
use Rattle.enet_timeline.proofs.Telling.{not_above}
use Rattle.enet_timeline.proofs.summary.push_first_connections.Goals as goal

pub returns-in_ok-write : goal.returns-in_ok-write
unfolding first_connections_text
returns-in_ok-write c = rw (lt-ltb 24 c.args.connections c.if-connections-gt-CONNECTIONS.true) (simp append_assoc c.in_ok-write.ensures.bytes)

pub returns-else-connections-gt-CONNECTIONS : goal.returns-else-connections-gt-CONNECTIONS
unfolding first_connections_text
returns-else-connections-gt-CONNECTIONS c = rw (not_above 24 c.args.connections c.if-connections-gt-CONNECTIONS.false) (sym (append-nil _))
