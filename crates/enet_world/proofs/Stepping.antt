-- What a call of a side's host does is a step of the world.
use Rattle.std.proofs.Common.{◌≡◌, ℕ, true, List, Option, Some, None, Ok, refl, sym, subst}
use Rattle.enet_codec.specs.declared.event.DisconnectMode.{DisconnectMode}
use Rattle.enet_codec.specs.declared.event.Event.{Event}
use Rattle.enet_codec.specs.declared.event.PeerRef.{PeerRef}
use Rattle.enet_codec.specs.declared.event.Received.{Received}
use Rattle.enet_codec.specs.declared.config.Admission.{Admission}
use Rattle.law_network.specs.Calls as call
use Rattle.law_network.specs.declared.event.Answer.{Answer}
use Rattle.law_network.specs.declared.event.Answer.TheVariants as answers
use Rattle.law_network.specs.declared.event.Side.{Side}
use Rattle.law_network.specs.declared.event.Side.TheVariants.{A, B}
use Rattle.law_network.specs.declared.event.WorldEvent.{WorldEvent}
use Rattle.law_network.specs.declared.event.WorldEvent.TheVariants as happen
use Rattle.law_network.specs.Network.{Site, numbers_of}
use Rattle.law_network.specs.Steps.{Happening, Calls, Delivers, Happens, count_after}
use Rattle.law_network.specs.World.{Steps, Makes, side_of}
use Rattle.enet_site.specs.Sites.{CallsAt}
use Rattle.enet_site.specs.declared.put_out.Turned.TheVariants as turn
use Rattle.enet_site.specs.Turning.{TurnsAmong}
use Rattle.enet_world.specs.Private.Worlds.{world_of}

-- one thing happens at a side
done : (side : Side) (here new far : Site) (n m : ℕ) (event : WorldEvent) (answer : Answer) (e : Happening) → side_of event ≡ side → Makes (world_of side here far n) event answer e
    → Happens n far e here new → m ≡ count_after n e → Steps (world_of side here far n) event (Ok answer) (world_of side new far m)
done A here new far n m event answer e is makes h count = (e, makes, subst (λ (side : Side). Rattle.law_network.specs.World.HappensAt side e (world_of A here far n) (world_of A new far m)) (sym is) (record { here = h; there = refl; count = count }))
done B here new far n m event answer e is makes h count = (e, makes, subst (λ (side : Side). Rattle.law_network.specs.World.HappensAt side e (world_of B here far n) (world_of B new far m)) (sym is) (record { here = h; there = refl; count = count }))

pub submitted : (side : Side) (peer : PeerRef) (channel flags : ℕ) (body : List ℕ) (here new far : Site) (n : ℕ)
    → CallsAt (call.Submit peer channel (record { flags = flags; body = body }) (Ok tt)) here new
    → Steps (world_of side here far n) (happen.Submit side peer channel flags body) (Ok answers.Done) (world_of side new far n)
submitted side peer channel flags body here new far n h =
    done side here new far n n (happen.Submit side peer channel flags body) answers.Done (Calls (call.Submit peer channel (record { flags = flags; body = body }) (Ok tt))) refl refl (h n far) refl

pub delivered : (side : Side) (k : ℕ) (here new far : Site) (n : ℕ) (answer : Received) → ((next : ℕ) → Happens next far (Delivers k answer) here new)
    → Steps (world_of side here far n) (happen.Deliver side k) (Ok (answers.Received answer)) (world_of side new far n)
delivered side k here new far n answer h = done side here new far n n (happen.Deliver side k) (answers.Received answer) (Delivers k answer) refl refl (h n) refl

-- a turn: both addresses are hosts'

pub rested : (side : Side) (here new far : Site) (n : ℕ) → TurnsAmong (λ a. true) (numbers_of far) None here new
    → Steps (world_of side here far n) (happen.Turn side) (Ok (answers.Sent None)) (world_of side new far n)
rested side here new far n h = done side here new far n n (happen.Turn side) (answers.Sent None) (Calls (call.Service None h.0)) refl (h.0, refl) (h.1 n far) refl

pub turned : (side : Side) (here new far : Site) (n k : ℕ) → TurnsAmong (λ a. true) (numbers_of far) (Some (turn.Sent k)) here new
    → Steps (world_of side here far n) (happen.Turn side) (Ok (answers.Sent (Some k))) (world_of side new far n)
turned A here new far n k h = done A here new far n n (happen.Turn A) (answers.Sent (Some k)) (Calls (call.Service (Some h.1) h.2)) refl (h.1, h.2, refl, h.0) (h.4 n far) refl
turned B here new far n k h = done B here new far n n (happen.Turn B) (answers.Sent (Some k)) (Calls (call.Service (Some h.1) h.2)) refl (h.1, h.2, refl, h.0) (h.4 n far) refl

pub ticked : (side : Side) (ms : ℕ) (here new far : Site) (n : ℕ) → CallsAt (call.Tick ms) here new
    → Steps (world_of side here far n) (happen.Tick side ms) (Ok answers.Done) (world_of side new far n)
ticked side ms here new far n h = done side here new far n n (happen.Tick side ms) answers.Done (Calls (call.Tick ms)) refl refl (h n far) refl

pub taken : (side : Side) (here new far : Site) (n : ℕ) (event : Option Event) → CallsAt (call.NextEvent event) here new
    → Steps (world_of side here far n) (happen.Take side) (Ok (answers.Taken event)) (world_of side new far n)
taken side here new far n event h = done side here new far n n (happen.Take side) (answers.Taken event) (Calls (call.NextEvent event)) refl refl (h n far) refl

pub left : (side : Side) (peer : PeerRef) (how : DisconnectMode) (info : ℕ) (here new far : Site) (n : ℕ) → CallsAt (call.Disconnect how peer info (Ok tt)) here new
    → Steps (world_of side here far n) (happen.Disconnect side peer how info) (Ok answers.Done) (world_of side new far n)
left side peer how info here new far n h =
    done side here new far n n (happen.Disconnect side peer how info) answers.Done (Calls (call.Disconnect how peer info (Ok tt))) refl refl (h n far) refl

pub admitted : (side : Side) (what : Admission) (here new far : Site) (n : ℕ) → CallsAt (call.Admit what (Ok tt)) here new
    → Steps (world_of side here far n) (happen.Admit side what) (Ok answers.Done) (world_of side new far n)
admitted side what here new far n h =
    done side here new far n n (happen.Admit side what) answers.Done (Calls (call.Admit what (Ok tt))) refl refl (h n far) refl

pub limited : (side : Side) (bytes commands : ℕ) (here new far : Site) (n : ℕ) → CallsAt (call.SetSendLimit bytes commands) here new
    → Steps (world_of side here far n) (happen.SetSendLimit side bytes commands) (Ok answers.Done) (world_of side new far n)
limited side bytes commands here new far n h =
    done side here new far n n (happen.SetSendLimit side bytes commands) answers.Done (Calls (call.SetSendLimit bytes commands)) refl refl (h n far) refl
