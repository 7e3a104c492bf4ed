-- How many reliable commands of a link go for the first time.
use Rattle.std.specs.Prelude.{ℕ, ◌+◌, ◌-◌, List, [], ◌∷◌, ◌++◌, map}
use Rattle.enet_fragment.specs.declared.data.DataCommand.{DataCommand}
use Rattle.law_connection.specs.Link.{PutOut}
use Rattle.law_connection.specs.Image.{reliable_count}
use Rattle.law_connection.specs.WireLink.{WireLink}
use Rattle.law_connection.specs.LinkSteps.{Event, Send, Runs}

-- by an event that takes a link from v to w: the reliable commands that leave the queue to go into the datagram
abbrev pub first_sends : Event → WireLink → WireLink → ℕ
first_sends (Send occasion) v w = reliable_count v.outgoing.queued - reliable_count w.outgoing.queued
first_sends _ v w = 0

-- by all events of a run
abbrev pub first_sends_of : (mtu : ℕ) (es : List Event) (v w : WireLink) → Runs mtu es v w → ℕ
first_sends_of mtu [] v w r = 0
first_sends_of mtu (e ∷ es) v w r = first_sends e v r.0 + first_sends_of mtu es r.0 w r.2

-- the wire numbers of all commands that went, in order: those put out, and those of the datagram in the making
abbrev pub numbers_sent : WireLink → List ℕ
numbers_sent v = map (λ (p : PutOut). p.command.number) v.commands ++ map (λ (c : DataCommand). c.number) v.making
