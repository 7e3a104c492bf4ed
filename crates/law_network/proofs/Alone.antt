-- The calls of each host of a run.
use Rattle.std.proofs.Common.{◌≡◌, List, [], ◌∷◌, ◌++◌, refl, sym, ap, subst, Option, Some, None, Result, Ok, Err, slice_get}
use Rattle.enet_codec.specs.declared.refusal.Refusal.{Refusal}
use Rattle.enet_host.specs.Host.{Host}
use Rattle.law_network.specs.Calls.{Call, Steps}
use Rattle.law_network.proofs.Beginning.{lived-all}
use Rattle.law_network.specs.declared.event.Answer.{Answer}
use Rattle.law_network.specs.declared.event.Side.{Side}
use Rattle.law_network.specs.declared.event.Side.TheVariants.{A, B}
use Rattle.law_network.specs.declared.event.WorldEvent.{WorldEvent}
use Rattle.law_network.specs.declared.event.WorldEvent.TheVariants as happen
use Rattle.law_network.specs.Alone.{LiveAlone, received_from, call_by, refused_call, call_of, at_side, calls_at, EachAlone, calls_among, EachAloneAmong}
use Rattle.law_network.specs.Log.{Logged}
use Rattle.law_network.specs.Network.{Site}
use Rattle.law_network.specs.Steps.{Around, Happening, Calls, Delivers, HappensAmong, BringsOne, beside}
use Rattle.law_network.specs.World.{World, site_of, other, HappensAt, AllHappen, side_of, Runs, Refuses}
use Rattle.law_network.specs.World as world
use Rattle.law_network.proofs.Worlds.{acts-of}

-- one thing leads its host by its call
pub by-call : (w : Around) (from old new : Site) (what : Happening) → HappensAmong w from what old new → Steps (call_by from what) old.host new.host
by-call w from old new (Calls c) h = (new.host, acts-of w from old new c h, refl)
by-call w from old new (Delivers k answer) h = brought (slice_get from.log k) h
  where
    brought : (found : Option Logged) → BringsOne from found answer old new → Steps (received_from from.address answer found) old.host new.host
    brought None x = absurd x
    brought (Some d) x = (new.host, x.1.0, refl)

pub steps-append : (cs ds : List Call) (old between new : Host) → Steps cs old between → Steps ds between new → Steps (cs ++ ds) old new
steps-append [] ds old between new a b = subst (λ (h : Host). Steps ds h new) (sym a) b
steps-append (c ∷ cs) ds old between new a b = (a.0, a.1, steps-append cs ds a.0 between new a.2 b)

-- and so do refused calls, which leave it as it was
pub steps-same : (cs : List Call) (old new : Host) → new ≡ old → Steps cs old old → Steps cs old new
steps-same cs old new same h = subst (λ (g : Host). Steps cs old g) (sym same) h

pub alone : (calls : List Call) (old new : Host) → Steps calls old new → LiveAlone calls old new
alone calls old new steps = record { steps = steps; lived = λ name p there. lived-all calls old new steps name p there }

-- one event of a world, and all of a list

led-at : (side at : Side) (what : Happening) (old new : World) → HappensAt at what old new → Steps (at_side side at (call_by (site_of old (other at)) what)) (site_of old side).host (site_of new side).host
led-at A A what old new h = by-call (beside old.count old.b) old.b old.a new.a what h.here
led-at B B what old new h = by-call (beside old.count old.a) old.a old.b new.b what h.here
led-at B A what old new h = ap (λ (s : Site). s.host) (sym h.there)
led-at A B what old new h = ap (λ (s : Site). s.host) (sym h.there)

-- a host refuses what its call refuses
refuses : (w : World) (event : WorldEvent) (why : Refusal) → Refuses w event why → Steps (refused_call event why) (site_of w (side_of event)).host (site_of w (side_of event)).host
refuses w (happen.Connect side channels info word) why r = ((site_of w side).host, r, refl)
refuses w (happen.Submit side peer channel flags body) why r = ((site_of w side).host, r, refl)
refuses w (happen.Disconnect side peer how info) why r = ((site_of w side).host, r, refl)
refuses w (happen.Admit side what') why r = ((site_of w side).host, r, refl)
refuses w (happen.Deliver side k) why r = refl
refuses w (happen.Turn side) why r = refl
refuses w (happen.Tick side ms) why r = refl
refuses w (happen.Take side) why r = refl
refuses w (happen.SetSendLimit side bytes commands) why r = refl

refused-at : (side at : Side) (calls : List Call) (old new : World) → Steps calls (site_of old at).host (site_of old at).host → new ≡ old → Steps (at_side side at calls) (site_of old side).host (site_of new side).host
refused-at A A calls old new h same = steps-same calls old.a.host new.a.host (ap (λ (w : World). w.a.host) same) h
refused-at B B calls old new h same = steps-same calls old.b.host new.b.host (ap (λ (w : World). w.b.host) same) h
refused-at A B calls old new h same = ap (λ (w : World). w.a.host) (sym same)
refused-at B A calls old new h same = ap (λ (w : World). w.b.host) (sym same)

led : (side : Side) (old new : World) (event : WorldEvent) (answer : Result Answer Refusal) (step : world.Steps old event answer new) → Steps (at_side side (side_of event) (call_of old event answer new step)) (site_of old side).host (site_of new side).host
led side old new event (Ok answer) step = led-at side (side_of event) step.0 old new step.2
led side old new event (Err why) step = refused-at side (side_of event) (refused_call event why) old new (refuses old event why step.0) step.1

led-all : (side : Side) (events : List WorldEvent) (answers : List (Result Answer Refusal)) (old new : World) (run : Runs old events answers new) → Steps (calls_at side events answers old new run) (site_of old side).host (site_of new side).host
led-all side [] [] old new run = ap (λ (w : World). (site_of w side).host) (sym run)
led-all side [] (a ∷ more) old new run = absurd run
led-all side (e ∷ es) [] old new run = absurd run
led-all side (e ∷ es) (a ∷ more) old new run =
    steps-append (at_side side (side_of e) (call_of old e a run.0 run.1)) (calls_at side es more run.0 new run.2) (site_of old side).host (site_of run.0 side).host (site_of new side).host
    (led side old run.0 e a run.1) (led-all side es more run.0 new run.2)

pub each-alone : EachAlone
each-alone old events answers new run side = alone (calls_at side events answers old new run) (site_of old side).host (site_of new side).host (led-all side events answers old new run)

-- all things that happen

led-among : (side : Side) (es : List (Side × Happening)) (old new : World) (h : AllHappen es old new) → Steps (calls_among side es old new h) (site_of old side).host (site_of new side).host
led-among side [] old new h = ap (λ (w : World). (site_of w side).host) h
led-among side (e ∷ es) old new h =
    steps-append (at_side side e.0 (call_by (site_of old (other e.0)) e.1)) (calls_among side es h.0 new h.2) (site_of old side).host (site_of h.0 side).host (site_of new side).host
    (led-at side e.0 e.1 old h.0 h.1) (led-among side es h.0 new h.2)

pub alone-among : EachAloneAmong
alone-among old es new h side = alone (calls_among side es old new h) (site_of old side).host (site_of new side).host (led-among side es old new h)
