-- Rounds of one channel in which nothing is lost.
use Rattle.std.specs.Prelude.{◌≡◌, ℕ, zero, suc, true, false, ◌+◌, ◌<◌, ◌≤◌, ◌&&◌, if◌then◌else◌, List, [], ◌∷◌, ◌++◌, length, map, None, ◌⊎◌}
use Rattle.enet_seq.specs.Numbering.{wire}
use Rattle.enet_rtt.specs.declared.transmission.Tick.{Tick}
use Rattle.enet_fragment.specs.declared.data.DataCommand.{DataCommand}
use Rattle.enet_receiver.specs.DataOutcome.{acknowledged}
use Rattle.enet_sender.specs.CommandChoice.{carried}
use Rattle.enet_sender.specs.declared.outgoing.Occasion.{Occasion}
use Rattle.enet_sender.specs.Sender.{cover, next, bytes_in_transit, prices_in_transit, marked, is_late as has_waited_out}
use Rattle.enet_sender.specs.declared.sent.Sent.{Sent}
use Rattle.law_connection.specs.Link.{Answer, is_late}
use Rattle.law_connection.specs.WireLink.{WireLink, marks, puts_out, arrives, answered}
use Rattle.law_connection.specs.LinkSteps.{Has, Event, Send, Drop, Runs, bodies_of}
use Rattle.law_progress.specs.Links.{AllDispatched, IsUp, outstanding}
use Rattle.law_progress.specs.Outboxes.{ready_at}

-- what fills a datagram: a command goes into it, or the throttle drops an unreliable packet
abbrev pub Fills : Event → Type 0
Fills (Send occasion) = Unit {0}
Fills (Drop occasion) = Unit {0}
Fills _ = ⊥

-- a command comes to the receiving end, which has room and takes in packets of at most `most` bytes, and is acknowledged where it asks for
-- it and the rule says so
abbrev pub comes : ℕ → WireLink → DataCommand → WireLink
comes most v c = arrives v most c false (c.reliable && acknowledged wire most v.incoming c false)

abbrev pub all_come : ℕ → WireLink → List DataCommand → WireLink
all_come most v [] = v
all_come most v (c ∷ cs) = all_come most (comes most v c) cs

-- a datagram is filled and put out, and comes at once
pub record Carries (mtu most : ℕ) (v w : WireLink) : Type 0 where
  pub filling : List Event
  pub fills : (e : Event) → Has filling e → Fills e
  pub made : WireLink
  pub runs : Runs mtu filling v made
  pub after : w ≡ all_come most (puts_out made) made.making

abbrev pub CarriesMany : ℕ → ℕ → ℕ → WireLink → WireLink → Type 0
CarriesMany mtu most zero v w = w ≡ v
CarriesMany mtu most (suc n) v w = (u : WireLink) × CarriesMany mtu most n v u × Carries mtu most u w

-- what may be in transit is enough for a command, and for its price
pub record IsEnoughFor (o : Occasion) (c : DataCommand) : Type 0 where
  pub most : length c.body ≤ o.most
  pub dearest : length c.body + cover ≤ o.dearest

-- nothing may go any more, though nothing but what is in transit stands in the way of what is queued, and of what is due to go again
pub record IsSpent (v : WireLink) : Type 0 where
  pub occasion : Occasion
  pub transit : occasion.transit ≡ bytes_in_transit v.outgoing
  pub prices : occasion.prices ≡ prices_in_transit v.outgoing
  pub free : occasion.barred ≡ false
  pub queued : (c : DataCommand) → Has v.outgoing.queued c → IsEnoughFor occasion c
  pub sent : (p : Sent) → Has v.outgoing.sent p → IsEnoughFor occasion p.command
  pub spent : next wire occasion v.outgoing ≡ None

-- the receiving end puts out all acknowledgements that wait
abbrev pub answer_of : ℕ → ℕ → Answer
answer_of greatest number = record { number = number; sent_then = greatest }

abbrev pub answers_out : WireLink → List Answer
answers_out v = map (answer_of v.greatest) v.answers

abbrev pub answers_go : WireLink → WireLink
answers_go v = record v { answers = []; acks = v.acks ++ answers_out v }

-- and they come; one that waited until it is over 32,768 numbers late is passed over
abbrev pub hears : WireLink → Answer → WireLink
hears v a = if is_late v.greatest a.sent_then a.number then v else answered v a

abbrev pub all_heard : WireLink → List Answer → WireLink
all_heard v [] = v
all_heard v (a ∷ as') = all_heard (hears v a) as'

-- a round: a moment comes at the sending end, and what waited out its timeout is due to go again; it puts out all that it may, and each
-- datagram comes at once; and then the receiving end puts out its acknowledgements, and they come
pub record Round (mtu most : ℕ) (tick : Tick) (v w : WireLink) : Type 0 where
  pub datagrams : ℕ
  pub out : WireLink
  pub goes : CarriesMany mtu most datagrams (marks v tick) out
  pub spent : IsSpent out
  pub after : w ≡ all_heard (answers_go out) (answers_out out)

-- by this moment all that was sent is due to go again, or has waited out its timeout
abbrev pub AreOver : ℕ → List Sent → Type 0
AreOver now sent = (p : Sent) → Has sent p → (p.transmission.due ≡ true) ⊎ (has_waited_out now p ≡ true)

-- what still waits is as it was, and neither due to go again nor late by this moment; or it is due, since there was no room for it
abbrev pub WaitsOn : Tick → List Sent → Sent → Type 0
WaitsOn tick sent p = (Has sent p × (p.transmission.due ≡ false) × (has_waited_out tick.now p ≡ false)) ⊎ ((p.transmission.due ≡ true) × (q : Sent) × Has sent q × (marked tick q ≡ p))

-- what a round brings
pub record Progresses (mtu : ℕ) (tick : Tick) (v w : WireLink) : Type 0 where
  -- it is some of what can happen to a link, and both ends go on
  pub events : List Event
  pub runs : Runs mtu events v w
  pub up : IsUp w
  pub submitted : w.submitted ≡ v.submitted
  -- what waits for its acknowledgement has waited before: all that went in the round is acknowledged
  pub old : (p : Sent) → Has w.outgoing.sent p → WaitsOn tick v.outgoing.sent p
  -- no more is outstanding; less, where all that waited is due to go again or has waited out its timeout
  pub least : outstanding w ≤ outstanding v
  pub fewer : AreOver tick.now v.outgoing.sent → 0 < outstanding v → outstanding w < outstanding v
  -- no more is queued; less, where nothing waited
  pub queued : length w.outgoing.queued ≤ length v.outgoing.queued
  pub less : v.outgoing.sent ≡ [] → 0 < length v.outgoing.queued → length w.outgoing.queued < length v.outgoing.queued

-- there is a round, of no more datagrams than commands are queued or due to go again
pub record HasARound (mtu most : ℕ) (tick : Tick) (v : WireLink) : Type 0 where
  pub after : WireLink
  pub round : Round mtu most tick v after
  pub few : round.datagrams ≤ ready_at (marks v tick).outgoing

-- rounds, one after another, at these moments
abbrev pub Rounds : ℕ → ℕ → List Tick → WireLink → WireLink → Type 0
Rounds mtu most [] v w = w ≡ v
Rounds mtu most (tick ∷ moments) v w = (u : WireLink) × Round mtu most tick v u × Rounds mtu most moments u w

-- nothing is outstanding, and each reliable packet that was submitted was dispatched
pub record HasAllThrough (mtu : ℕ) (v w : WireLink) : Type 0 where
  pub none : outstanding w ≡ 0
  pub submitted : w.submitted ≡ v.submitted
  pub dispatched : AllDispatched (carried mtu v.submitted) (bodies_of w.incoming.dispatched)
