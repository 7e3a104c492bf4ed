use Rattle.std.proofs.Common.{sym, append_assoc, append-nil}
use Rattle.std.proofs.lemmas.Bool.{lt-ltb}
use Rattle.enet_timeline.specs.Summaries.{first_datagrams_text}
use Rattle.enet_timeline.proofs.Telling.{not_above}
use Rattle.enet_timeline.proofs.summary.push_first_datagrams.Goals as goal

pub returns-in_ok-write : goal.returns-in_ok-write
unfolding first_datagrams_text
returns-in_ok-write c = rw (lt-ltb 500 c.args.datagrams c.if-datagrams-gt-DATAGRAMS.true) (simp append_assoc c.in_ok-write.ensures.bytes)

pub returns-else-datagrams-gt-DATAGRAMS : goal.returns-else-datagrams-gt-DATAGRAMS
unfolding first_datagrams_text
returns-else-datagrams-gt-DATAGRAMS c = rw (not_above 500 c.args.datagrams c.if-datagrams-gt-DATAGRAMS.false) (sym (append-nil _))
