-- A deed of a peer as an event of one end of a connection.
use Rattle.std.specs.Prelude.{◌≡◌, [], ◌∷◌, ◌++◌, Bool, true, false, Option, Some, None, Result, Ok, Err, is_ok, is_some}
use Rattle.enet_codec.specs.declared.stop.Stop.{Stop}
use Rattle.enet_codec.specs.declared.stop.Stop.TheVariants as stop
use Rattle.enet_peer.specs.declared.parts.PeerEvent.{PeerEvent}
use Rattle.enet_peer.specs.Peering.{Peering}
use Rattle.law_connection.specs.Connection.{Put, End}
use Rattle.law_connection.specs.Steps.{Event, Happens, InTime, with_peer, with_submission, with_emission}
use Rattle.law_connection.specs.Steps as event
use Rattle.law_network.specs.Deeds as deed
use Rattle.law_network.specs.Deeds.{Deed, Alone}

-- whether a deed takes effect: it isn't refused, and a command doesn't stop its datagram, save for want of a sent time
abbrev pub is_heeded : Result (Unit {0}) Stop → Bool
is_heeded (Ok done) = true
is_heeded (Err stop.NoSentTime) = true
is_heeded (Err why) = false

abbrev pub takes_effect : Deed → Bool
takes_effect (deed.Submit q limit answer) = is_ok answer
takes_effect (deed.Emit now given) = true
takes_effect (deed.Come a m answer) = is_heeded answer
takes_effect (deed.Tick now short) = true
takes_effect (deed.Take given) = is_some given
takes_effect (deed.Disconnect way info answer) = is_ok answer
takes_effect (deed.Set setting answer) = is_ok answer
takes_effect deed.GiveWay = true
takes_effect deed.TellAgain = true

-- the event; a command that comes is one of the other end's log
abbrev pub event_of : Deed → Put → Event
event_of (deed.Submit q limit answer) put = event.Submit q
event_of (deed.Emit now given) put = event.Emit now
event_of (deed.Come a m answer) put = event.Come put a.now a.sent
event_of (deed.Tick now short) put = event.Tick now
event_of (deed.Take given) put = event.Take
event_of (deed.Disconnect way info answer) put = event.Disconnect way info
event_of (deed.Set setting answer) put = event.Set setting
event_of deed.GiveWay put = event.GiveWay
event_of deed.TellAgain put = event.TellAgain

-- what is demanded of a command that comes
abbrev pub Brings : End → End → Deed → Put → Type 0
Brings own other (deed.Come a m answer) put = (put.message ≡ m) × InTime own other put
Brings own other d put = Unit {0}

-- the end with a peer that gave this event, or none
abbrev pub with_taken : End → Option PeerEvent → Peering → End
with_taken own None p = with_peer own p
with_taken own (Some e) p = record own { peer = Some p; events = own.events ++ e ∷ [] }

-- the end whose peer was `old`, after a deed that took effect and left the peer `new`
abbrev pub end_after : End → End → Deed → Peering → Peering → End
end_after own other (deed.Submit q limit answer) old new = with_submission own old q
end_after own other (deed.Emit now given) old new = with_emission own other old now
end_after own other (deed.Take given) old new = with_taken own given new
end_after own other d old new = with_peer own new

-- what a peer alone does is what happens at its end of a connection, and leaves there just its peer; what it refuses changes nothing
pub record Matches : Type 0 where
  pub done : (own other : End) (d : Deed) (old new : Peering) (put : Put) → own.peer ≡ Some old → Alone d old new → takes_effect d ≡ true → Brings own other d put
      → Happens own other (event_of d put) (end_after own other d old new) × ((end_after own other d old new).peer ≡ Some new)
  pub refused : (d : Deed) (old new : Peering) → Alone d old new → takes_effect d ≡ false → new ≡ old
