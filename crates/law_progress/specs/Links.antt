-- How one channel gets on where nothing more is lost.
use Rattle.std.specs.Prelude.{◌≡◌, ℕ, true, false, ◌+◌, ◌<◌, ◌≤◌, ◌^◌, List, [], ◌∷◌, length, map, ◌⊎◌}
use Rattle.enet_sender.specs.CommandChoice.{Packet, ChosenPacket, carried}
use Rattle.enet_sender.specs.Sender.{Sender}
use Rattle.enet_sender.specs.declared.sent.Sent.{Sent}
use Rattle.law_connection.specs.Link.{PutOut, is_late}
use Rattle.law_connection.specs.WireLink.{WireLink}
use Rattle.law_connection.specs.LinkSteps.{Has, Event, Submit, Send, Drop, Mark, PutsOut, Arrive, ArriveAnswered, PutsAnswer, Acknowledge, GivesUp, StopSending, StopReceiving, DropAnswers, Runs, bodies_of}

-- a command that was put out waits at its sender for its acknowledgement, and isn't late
pub record Waits (v : WireLink) (e : PutOut) : Type 0 where
  pub logged : Has v.commands e
  pub reliable : e.command.reliable ≡ true
  pub waits : Has (map (λ (p : Sent). p.command.number) v.outgoing.sent) e.command.number
  pub in_time : is_late v.greatest e.sent_then e.command.number ≡ false

-- no packet is longer
abbrev pub AreShort : ℕ → List Packet → Type 0
AreShort most qs = (q : Packet) → Has qs q → length q.body ≤ most

-- all packets were gone through: each reliable one was dispatched, in order, and of the others some
abbrev pub AllDispatched : List ChosenPacket → List (List ℕ) → Type 0
AllDispatched [] rs = rs ≡ []
AllDispatched (c ∷ cs) rs = ((rest : List (List ℕ)) × (rs ≡ c.packet.body ∷ rest) × AllDispatched cs rest) ⊎ ((c.reliable ≡ false) × AllDispatched cs rs)

-- both ends go on, and no datagram is in the making
pub record IsUp (v : WireLink) : Type 0 where
  pub sending : v.is_sending ≡ true
  pub open' : v.is_open ≡ true
  pub between : v.making ≡ []

-- what is queued, and what waits for its acknowledgement
abbrev pub outstanding_at : Sender → ℕ
outstanding_at s = length s.queued + length s.sent

abbrev pub outstanding : WireLink → ℕ
outstanding v = outstanding_at v.outgoing

-- all timeouts are within the clock's 32 bits
abbrev pub AreTimed : List Sent → Type 0
AreTimed sent = (p : Sent) → Has sent p → p.transmission.timeout < 2 ^ 32

-- what happens where nothing is submitted, dropped, given up or stopped: commands go and come, to a receiving end that has room and takes
-- in packets of at most `most` bytes, and acknowledgements go and come
abbrev pub IsCalm : ℕ → Event → Type 0
IsCalm most (Submit packet) = ⊥
IsCalm most (Send occasion) = Unit {0}
IsCalm most (Drop occasion) = ⊥
IsCalm most (Mark tick) = Unit {0}
IsCalm most PutsOut = Unit {0}
IsCalm most (Arrive command max_packet full) = (max_packet ≡ most) × (full ≡ false)
IsCalm most (ArriveAnswered command max_packet full) = (max_packet ≡ most) × (full ≡ false)
IsCalm most (PutsAnswer number rest) = Unit {0}
IsCalm most (Acknowledge answer) = Unit {0}
IsCalm most GivesUp = ⊥
IsCalm most (StopSending left) = ⊥
IsCalm most (StopReceiving left kept gone) = ⊥
IsCalm most DropAnswers = ⊥

abbrev pub AreCalm : ℕ → List Event → Type 0
AreCalm most es = (e : Event) → Has es e → IsCalm most e

-- a calm run leads to where nothing is outstanding, and each reliable packet that was submitted was dispatched
pub record GetsThrough (mtu most : ℕ) (v : WireLink) : Type 0 where
  pub events : List Event
  pub after : WireLink
  pub runs : Runs mtu events v after
  pub calm : AreCalm most events
  pub none : outstanding after ≡ 0
  pub submitted : after.submitted ≡ v.submitted
  pub dispatched : AllDispatched (carried mtu v.submitted) (bodies_of after.incoming.dispatched)
