-- Whatever happens at the hosts of a fleet.
use Rattle.std.proofs.Common.{◌≡◌, true, false, List, [], ◌∷◌, refl, ap, ◌∙◌, Some}
use Rattle.enet_host.specs.Host.{Host}
use Rattle.law_network.specs.Alone.{call_by}
use Rattle.law_network.specs.Calls.{Call, Acts}
use Rattle.law_network.specs.Calls as call
use Rattle.law_network.specs.Steps.{Calls}
use Rattle.law_network.specs.Places.{Place}
use Rattle.law_headline.specs.declared.node.Node.{Node}
use Rattle.law_headline.specs.declared.node.Node.TheVariants.{Server}
use Rattle.enet_fleet.specs.Alone.{at_node}
use Rattle.enet_fleet.specs.Fleets.{Fleet, place_of, with_place, address_of, HappensAt, open_fleet}
use Rattle.enet_fleet.specs.Headline.{HasHeadline}
use Rattle.enet_fleet.specs.Law.{AreLawful, AreAcross}
use Rattle.enet_fleet.specs.Series.{AllHappen, OfEachSeries, calls_among, EachAloneAmong, is_setting, with_host, SettingsHappen}
use Rattle.enet_fleet.proofs.Alone.{Leads, stays-there, led-at, leads-on, live-alone}
use Rattle.enet_fleet.proofs.Headlines.{has-headline}
use Rattle.law_headline.specs.Delivered.{HasDelivered}
use Rattle.law_headline.specs.Nets.{Thing, AllowsCall}
use Rattle.law_headline.proofs.Net as net
use Rattle.enet_fleet.proofs.Places.{apart, Sound}
use Rattle.enet_fleet.proofs.Runs.{plain, are-lawful, are-across}
use Rattle.enet_fleet.proofs.Stepping.{called}

sound-series : OfEachSeries Sound
sound-series server clients one all ts f h = net.all-sound address_of apart ts (open_fleet server clients) f h (net.open-sound address_of apart server clients one all)

pub lawful-series : OfEachSeries AreLawful
lawful-series server clients one all ts f h = are-lawful f (sound-series server clients one all ts f h)

pub headline-series : OfEachSeries HasHeadline
headline-series server clients one all ts f h = has-headline f (sound-series server clients one all ts f h)

pub delivered-series : OfEachSeries HasDelivered
delivered-series server clients one all ts f h = net.has-delivered address_of apart f (sound-series server clients one all ts f h)

pub across-series : OfEachSeries AreAcross
across-series server clients one all ts f h = are-across f (sound-series server clients one all ts f h)

led-among : (n : Node) (ts : List Thing) (old new : Fleet) (h : AllHappen ts old new) (was : Place) → place_of old n ≡ Some was → Leads (calls_among n ts old new h) was new n
led-among n [] old new h was there = stays-there was new n (ap (λ (f : Fleet). place_of f n) h ∙ there)
led-among n (t ∷ ts) old new h was there =
    leads-on (at_node n t.node (call_by h.1.sender.site t.what)) (calls_among n ts h.0 new h.3) was h.0 new n (led-at n t.node t.from t.what old h.0 h.1 was there)
    (λ at here. led-among n ts h.0 new h.3 at here)

pub alone-among : EachAloneAmong
alone-among old ts new h n was there = live-alone (calls_among n ts old new h) was new n (led-among n ts old new h was there)

-- what is set happens

set-at : (f : Fleet) (n : Node) (was : Place) → place_of f n ≡ Some was → (c : Call) → is_setting c ≡ true → (h : Host) → Acts c was.site.host h → HappensAt n Server (Calls c) f (with_place f n (with_host was h))
set-at f n was there (call.SetBandwidth incoming outgoing answer) is h acts = called n (call.SetBandwidth incoming outgoing answer) f was (record was.site { host = h }) refl there (acts, refl) refl
set-at f n was there (call.ConfigureThrottle name interval acceleration deceleration answer) is h acts =
    called n (call.ConfigureThrottle name interval acceleration deceleration answer) f was (record was.site { host = h }) refl there (acts, refl) refl
set-at f n was there (call.SetPingInterval name ms answer) is h acts = called n (call.SetPingInterval name ms answer) f was (record was.site { host = h }) refl there (acts, refl) refl
set-at f n was there (call.SetTimeout name limit minimum maximum answer) is h acts =
    called n (call.SetTimeout name limit minimum maximum answer) f was (record was.site { host = h }) refl there (acts, refl) refl
set-at f n was there (call.Admit what answer) is h acts = called n (call.Admit what answer) f was (record was.site { host = h }) refl there (acts, refl) refl
set-at f n was there (call.SetSendLimit bytes commands) is h acts = called n (call.SetSendLimit bytes commands) f was (record was.site { host = h }) refl there (acts, refl) refl
set-at f n was there c is h acts = absurd (let e : false ≡ true = is in cc)

allowed-at : (n : Node) (c : Call) → is_setting c ≡ true → AllowsCall n Server c
allowed-at n (call.SetBandwidth incoming outgoing answer) is = plain n (call.SetBandwidth incoming outgoing answer) refl
allowed-at n (call.ConfigureThrottle name interval acceleration deceleration answer) is = plain n (call.ConfigureThrottle name interval acceleration deceleration answer) refl
allowed-at n (call.SetPingInterval name ms answer) is = plain n (call.SetPingInterval name ms answer) refl
allowed-at n (call.SetTimeout name limit minimum maximum answer) is = plain n (call.SetTimeout name limit minimum maximum answer) refl
allowed-at n (call.Admit what answer) is = plain n (call.Admit what answer) refl
allowed-at n (call.SetSendLimit bytes commands) is = plain n (call.SetSendLimit bytes commands) refl
allowed-at n c is = absurd (let e : false ≡ true = is in cc)

pub settings-happen : SettingsHappen
settings-happen f n was there c is h acts = (with_place f n (with_host was h), (set-at f n was there c is h acts).happens, allowed-at n c is, refl)
