-- What every host keeps, from its opening on.
use Rattle.std.proofs.Common.{◌≡◌, ◌≤◌, true, subst, sym, arith, Some, None, Ok, Err}
use Rattle.std.proofs.lemmas.Bool.Decides.{nat_tests}
use Rattle.enet_codec.specs.declared.config.Config.{Config}
use Rattle.enet_codec.specs.Config.{is_in_range}
use Rattle.enet_peer.specs.Peering.{Peering}
use Rattle.enet_peer.specs.Calls as peers
use Rattle.enet_slot.specs.Slot.{greatest}
use Rattle.enet_host.specs.Host.{Host, HoldsNoFree}
use Rattle.enet_host.specs.Opening.{host_basis}
use Rattle.enet_host.specs.Serving.{served_of}
use Rattle.enet_slot.specs.Calls.{submission, unless_full, leaving, throttling, pinging, waiting}
use Rattle.enet_host.proofs.Holding.{unused-held, joined-held, connects-held, submits-held, arrives-held, served-held, passed-held, ticked-held, does-held, does-with-memory-held, changed-held, event-held}
use Rattle.law_network.specs.Calls.{Call, Acts}
use Rattle.law_network.specs.Calls as call
use Rattle.law_network.specs.IsolationLaw.{EachKeeps}
use Rattle.law_network.proofs.Names.{same-generations}

held-call : (c : Call) (old new : Host) → Acts c old new → HoldsNoFree old.slots → HoldsNoFree new.slots
held-call (call.Connect address channels info word answer) old new acts h = connects-held (host_basis old) old.slots new.slots (record { address = address; channels = channels; info = info; word = word }) answer h acts.0
held-call (call.Submit name channel q answer) old new acts h = submits-held old.slots new.slots name q (unless_full old.send_limit (submission channel q)) answer h acts.0
held-call (call.Receive from bytes answer) old new acts h = arrives-held (host_basis old) old.slots new.slots from bytes answer h acts.arrives
held-call (call.Service None buf) old new acts h = passed-held old.clock old.slots new.slots h acts.0
held-call (call.Service (Some gave) buf) old new acts h = served-held old.clock old.service_from old.slots new.slots (served_of gave buf) h acts.0
held-call (call.Tick ms) old new acts h = subst (λ (x : Host). HoldsNoFree x.slots) (sym acts) (ticked-held old ms h)
held-call (call.Disconnect m name info answer) old new acts h = does-held old.slots new.slots name (leaving m info) answer h acts.0
held-call (call.SetBandwidth incoming outgoing (Ok done)) old new acts h = subst (λ (x : Host). HoldsNoFree x.slots) (sym acts) (changed-held (λ (p : Peering). peers.with_bandwidth p incoming outgoing) old.slots h)
held-call (call.SetBandwidth incoming outgoing (Err why)) old new acts h = subst (λ (x : Host). HoldsNoFree x.slots) (sym acts.1) h
held-call (call.ConfigureThrottle name interval acceleration deceleration answer) old new acts h = does-with-memory-held old.slots new.slots name (throttling interval acceleration deceleration) answer h acts.0
held-call (call.SetPingInterval name ms answer) old new acts h = does-held old.slots new.slots name (pinging ms) answer h acts.0
held-call (call.SetTimeout name limit minimum maximum answer) old new acts h = does-held old.slots new.slots name (waiting limit minimum maximum) answer h acts.0
held-call (call.NextEvent None) old new acts h = subst (λ (x : Host). HoldsNoFree x.slots) (sym acts.1) h
held-call (call.NextEvent (Some event)) old new acts h = subst (λ (x : Host). HoldsNoFree x.slots) (sym acts.rest) (event-held old.slots acts.from event acts.first.slot acts.after h acts.gives)
held-call (call.Admit what (Ok done)) old new acts h = subst (λ (x : Host). HoldsNoFree x.slots) (sym acts.1) h
held-call (call.Admit what (Err why)) old new acts h = subst (λ (x : Host). HoldsNoFree x.slots) (sym acts.2) h
held-call (call.SetSendLimit bytes commands) old new acts h = subst (λ (x : Host). HoldsNoFree x.slots) (sym acts) h

-- the number of generations is in its range
few-generations : (c : Config) → is_in_range c ≡ true → c.generations ≤ greatest
few-generations c h = grind (arith, nat_tests)

pub each-keeps : EachKeeps
each-keeps = record {
  opened = λ c h. record { generations = few-generations c h; held = unused-held c.peers };
  joined = λ c address h. record { generations = few-generations c h; held = joined-held c address };
  call = λ c old new acts keeps.
      record {
        generations = let e : new.config.generations ≡ old.config.generations = same-generations c old new acts in let l : old.config.generations ≤ greatest = keeps.generations in omega arith;
        held = held-call c old new acts keeps.held;
      };
}
