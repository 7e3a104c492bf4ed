use Rattle.enet_peer.proofs.Reaching.{answering-reached, bandwidth-keeps, connecting-reached, joined-reached, left-keeps, put-out-keeps, submitted-keeps, taken-keeps, throttle-keeps, moved-keeps}
use Rattle.enet_peer.proofs.Refusals.{again-keeps, heeds-keeps}
use Rattle.enet_peer.proofs.laws.reachable_stays.Goals as goal

pub returns-clause-joined : goal.returns-clause-joined
returns-clause-joined c = joined-reached

pub returns-clause-connecting : goal.returns-clause-connecting
returns-clause-connecting c = connecting-reached

pub returns-clause-answering : goal.returns-clause-answering
returns-clause-answering c = answering-reached

pub returns-clause-submitted : goal.returns-clause-submitted
returns-clause-submitted c = submitted-keeps

pub returns-clause-put_out : goal.returns-clause-put_out
returns-clause-put_out c = put-out-keeps

pub returns-clause-heeded : goal.returns-clause-heeded
returns-clause-heeded c = heeds-keeps

pub returns-clause-told_again : goal.returns-clause-told_again
returns-clause-told_again c = again-keeps

pub returns-clause-moved : goal.returns-clause-moved
returns-clause-moved c = moved-keeps

pub returns-clause-left : goal.returns-clause-left
returns-clause-left c = left-keeps

pub returns-clause-taken : goal.returns-clause-taken
returns-clause-taken c = taken-keeps

pub returns-clause-bandwidth : goal.returns-clause-bandwidth
returns-clause-bandwidth c = bandwidth-keeps

pub returns-clause-throttle : goal.returns-clause-throttle
returns-clause-throttle c = throttle-keeps

pub returns-clause-throttle_limit : goal.returns-clause-throttle_limit
returns-clause-throttle_limit c = λ p limit h. h

pub returns-clause-ping_interval : goal.returns-clause-ping_interval
returns-clause-ping_interval c = λ p ms h. h

pub returns-clause-timeout : goal.returns-clause-timeout
returns-clause-timeout c = λ p limit minimum maximum h. h
