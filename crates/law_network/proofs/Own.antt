-- No connection changes what a host has of its own.
use Rattle.std.proofs.Common.{◌≡◌, ap, Some, None, Ok, Err}
use Rattle.enet_host.specs.Host.{Host, KeepsRest}
use Rattle.law_network.specs.Calls.{Call}
use Rattle.law_network.specs.Calls as call
use Rattle.law_network.specs.Own.{OfTheHost}

-- a call that changed slots alone
kept : (old new : Host) → KeepsRest old new → (new.config ≡ old.config) × (new.clock ≡ old.clock) × (new.shared_at ≡ old.shared_at) × (new.send_limit ≡ old.send_limit)
kept old new e = (ap (λ (h : Host). h.config) e, ap (λ (h : Host). h.clock) e, ap (λ (h : Host). h.shared_at) e, ap (λ (h : Host). h.send_limit) e)

pub of-the-host : OfTheHost
of-the-host (call.Connect address channels info word answer) old new acts = kept old new acts.1
of-the-host (call.Submit name channel q answer) old new acts = kept old new acts.1
of-the-host (call.Receive from bytes answer) old new acts = (ap (λ (h : Host). h.config) acts.rest, ap (λ (h : Host). h.clock) acts.rest, ap (λ (h : Host). h.shared_at) acts.rest, ap (λ (h : Host). h.send_limit) acts.rest)
of-the-host (call.Service None buf) old new acts = kept old new acts.1
of-the-host (call.Service (Some gave) buf) old new acts = (ap (λ (h : Host). h.config) acts.1, ap (λ (h : Host). h.clock) acts.1, ap (λ (h : Host). h.shared_at) acts.1, ap (λ (h : Host). h.send_limit) acts.1)
of-the-host (call.Tick ms) old new acts = (ap (λ (h : Host). h.config) acts, ap (λ (h : Host). h.clock) acts, ap (λ (h : Host). h.shared_at) acts, ap (λ (h : Host). h.send_limit) acts)
of-the-host (call.Disconnect m name info answer) old new acts = kept old new acts.1
of-the-host (call.SetBandwidth incoming outgoing (Ok done)) old new acts = (ap (λ (h : Host). h.config) acts, ap (λ (h : Host). h.clock) acts, ap (λ (h : Host). h.shared_at) acts, ap (λ (h : Host). h.send_limit) acts)
of-the-host (call.SetBandwidth incoming outgoing (Err why)) old new acts = (ap (λ (h : Host). h.config) acts.1, ap (λ (h : Host). h.clock) acts.1, ap (λ (h : Host). h.shared_at) acts.1, ap (λ (h : Host). h.send_limit) acts.1)
of-the-host (call.ConfigureThrottle name interval acceleration deceleration answer) old new acts = kept old new acts.1
of-the-host (call.SetPingInterval name ms answer) old new acts = kept old new acts.1
of-the-host (call.SetTimeout name limit minimum maximum answer) old new acts = kept old new acts.1
of-the-host (call.NextEvent None) old new acts = (ap (λ (h : Host). h.config) acts.1, ap (λ (h : Host). h.clock) acts.1, ap (λ (h : Host). h.shared_at) acts.1, ap (λ (h : Host). h.send_limit) acts.1)
of-the-host (call.NextEvent (Some event)) old new acts = (ap (λ (h : Host). h.config) acts.rest, ap (λ (h : Host). h.clock) acts.rest, ap (λ (h : Host). h.shared_at) acts.rest, ap (λ (h : Host). h.send_limit) acts.rest)
of-the-host (call.Admit what (Ok done)) old new acts = (ap (λ (h : Host). h.config) acts.1, ap (λ (h : Host). h.clock) acts.1, ap (λ (h : Host). h.shared_at) acts.1, ap (λ (h : Host). h.send_limit) acts.1)
of-the-host (call.Admit what (Err why)) old new acts = (ap (λ (h : Host). h.config) acts.2, ap (λ (h : Host). h.clock) acts.2, ap (λ (h : Host). h.shared_at) acts.2, ap (λ (h : Host). h.send_limit) acts.2)
of-the-host (call.SetSendLimit bytes commands) old new acts = (ap (λ (h : Host). h.config) acts, ap (λ (h : Host). h.clock) acts, ap (λ (h : Host). h.shared_at) acts, ap (λ (h : Host). h.send_limit) acts)
