use Rattle.law_connection.proofs.WireSender.{Shows-nothing, Shows-submitted, Shows-next, Shows-skipped, Shows-acknowledged, Shows-told, Shows-in_transit, Shows-prices, Shows-marked, Shows-lateness, Shows-after_lateness, Shows-cleared, Shows-left, reads-queued, reads-next}
use Rattle.law_connection.proofs.link.wire_sender.Goals as goal

pub returns-clause-nothing : goal.returns-clause-nothing
returns-clause-nothing k = Shows-nothing

pub returns-clause-submitted : goal.returns-clause-submitted
returns-clause-submitted k = Shows-submitted

pub returns-clause-next : goal.returns-clause-next
returns-clause-next k = Shows-next

pub returns-clause-skipped : goal.returns-clause-skipped
returns-clause-skipped k = Shows-skipped

pub returns-clause-acknowledged : goal.returns-clause-acknowledged
returns-clause-acknowledged k = Shows-acknowledged

pub returns-clause-told : goal.returns-clause-told
returns-clause-told k = Shows-told

pub returns-clause-in_transit : goal.returns-clause-in_transit
returns-clause-in_transit k = Shows-in_transit

pub returns-clause-prices : goal.returns-clause-prices
returns-clause-prices k = Shows-prices

pub returns-clause-marked : goal.returns-clause-marked
returns-clause-marked k = Shows-marked

pub returns-clause-lateness : goal.returns-clause-lateness
returns-clause-lateness k = Shows-lateness

pub returns-clause-after_lateness : goal.returns-clause-after_lateness
returns-clause-after_lateness k = Shows-after_lateness

pub returns-clause-cleared : goal.returns-clause-cleared
returns-clause-cleared k = Shows-cleared

pub returns-clause-left : goal.returns-clause-left
returns-clause-left k = Shows-left

pub returns-clause-reads_queued : goal.returns-clause-reads_queued
returns-clause-reads_queued k = reads-queued

pub returns-clause-reads_next : goal.returns-clause-reads_next
returns-clause-reads_next k = reads-next
