-- Each datagram of a host goes where the other host of its connection is.
use Rattle.std.proofs.Common.{◌≡◌, ℕ, Bool, true, false, List, take, inl, inr, refl, sym, ap, subst, ◌∙◌, Option, Some, None, slice_get}
use Rattle.enet_codec.specs.declared.address.Addr.{Addr}
use Rattle.enet_codec.specs.declared.event.PeerRef.{PeerRef}
use Rattle.enet_codec.specs.declared.event.Received.{Received}
use Rattle.law_connection.specs.LinkSteps.{Has}
use Rattle.law_connection.proofs.Lists.{Has-push_cases}
use Rattle.enet_slot.specs.Emitting.{PeerEmits}
use Rattle.enet_slot.specs.Slot.{SlotState}
use Rattle.enet_host.specs.Serving.{served_of, EmitsInTurn}
use Rattle.law_network.specs.Calls.{Acts}
use Rattle.law_network.specs.Calls as call
use Rattle.law_network.proofs.Names.{IsThere}
use Rattle.law_network.specs.Log.{Logged}
use Rattle.law_network.specs.Network.{HostEnd, Site}
use Rattle.law_network.specs.Steps.{Around, Happening, Calls, Delivers, HappensAmong, Logs, LogsIf, BringsOne}
use Rattle.law_network.proofs.Growing.{more_of, more_in, begun-is}
use Rattle.law_network.proofs.Once.{AreAt}
use Rattle.law_network.proofs.Serving.{there-now}

abbrev pub AreSent : (ℕ → Addr) → Site → Type 0
AreSent place s = (d : Logged) → Has s.log d → d.to ≡ place d.connection

same-log : (place : ℕ → Addr) (old new : Site) → new.log ≡ old.log → AreSent place old → AreSent place new
same-log place old new same k d h = k d (subst (λ (l : List Logged). Has l d) same h)

-- the slot that gave a datagram is that of the end of which it is logged
served : (place : ℕ → Addr) (far : ℕ → List ℕ) (gave : PeerRef × Addr × ℕ) (buf : List ℕ) (old new : Site) → (logs : Logs far (served_of gave buf) old new) → Acts (call.Service (Some gave) buf) old.host new.host → AreAt place old → AreSent place old
    → AreSent place new
served place far gave buf old new logs acts at k d h = elim (Has-push_cases old.log one d (subst (λ (xs : List Logged). Has xs d) (ap (λ (s : Site). s.log) logs.rest) h)) [
  | inl before ↦ k d before
  | inr is ↦ subst (λ (z : Logged). z.to ≡ place z.connection) is (given.addressed ∙ at logs.own logs.there g.peer there)
]
  where
    one : Logged
    one = record { connection = logs.own.connection; to = gave.1; peer = logs.header.peer; text = take gave.2 buf; marks = logs.marks }

    given : EmitsInTurn old.host.clock old.host.service_from old.host.slots (served_of gave buf) new.host.slots
    given = acts.0

    t : (t : SlotState) × (slice_get new.host.slots gave.0.slot ≡ Some t)
    t = there-now gave buf old new given gave.0.slot given.slot given.there

    g : PeerEmits old.host.clock gave.2 buf given.slot t.0
    g = (given.slots gave.0.slot given.slot t.0 given.there t.1).here refl

    there : IsThere old.host.slots logs.own.name g.peer
    there = record {
      slot = given.slot;
      there = ap (λ (z : PeerRef). slice_get old.host.slots z.slot) logs.name ∙ given.there;
      same = ap (λ (z : PeerRef). z.generation) (sym given.named) ∙ ap (λ (z : PeerRef). z.generation) (sym logs.name);
      peer = g.held;
    }

served-if : (place : ℕ → Addr) (b : Bool) (far : ℕ → List ℕ) (gave : PeerRef × Addr × ℕ) (buf : List ℕ) (old new : Site) → LogsIf b far (served_of gave buf) old new → Acts (call.Service (Some gave) buf) old.host new.host → AreAt place old → AreSent place old
    → AreSent place new
served-if place true far gave buf old new l acts at k = served place far gave buf old new l acts at k
served-if place false far gave buf old new l acts at k = same-log place old new (let rest : new ≡ record old { host = new.host } = l in ap (λ (s : Site). s.log) rest) k

brought : (place : ℕ → Addr) (from old new : Site) (answer : Received) (found : Option Logged) → BringsOne from found answer old new → AreSent place old → AreSent place new
brought place from old new answer None x k = absurd x
brought place from old new answer (Some d) x k = same-log place old new (ap (λ (s : Site). s.log) x.1.1) k

pub sent-goes : (place : ℕ → Addr) (w : Around) (from old new : Site) (what : Happening) → HappensAmong w from what old new → AreAt place old → AreSent place old → AreSent place new
sent-goes place w from old new (Calls (call.Connect address channels info word answer)) x at k = same-log place old new (ap (λ (s : Site). s.log) x.1.1) k
sent-goes place w from old new (Calls (call.Receive address bytes answer)) x at k = same-log place old new (ap (λ (s : Site). s.log) x.1.1) k
sent-goes place w from old new (Calls (call.Service (Some gave) buf)) x at k = served-if place (w.is_host gave.1) w.numbers gave buf old new x.1 x.0 at k
sent-goes place w from old new (Calls (call.Service None buf)) x at k = same-log place old new (ap (λ (s : Site). s.log) x.1) k
sent-goes place w from old new (Calls c) x at k = same-log place old new (ap (λ (s : Site). s.log) x.1) k
sent-goes place w from old new (Delivers n answer) x at k = brought place from old new answer (slice_get from.log n) x k

-- an end that begins where a datagram is brought is of the datagram's connection
pub more-brought : (count : ℕ) (from old new : Site) (k : ℕ) (answer : Received) (f : HostEnd) → Has (more_of count from old new (Delivers k answer)) f → (d : Logged) × (slice_get from.log k ≡ Some d) × (f.connection ≡ d.connection)
more-brought count from old new k answer f h = by (slice_get from.log k) refl h
  where
    by : (found : Option Logged) → slice_get from.log k ≡ found → Has (more_in from.address old new found) f → (d : Logged) × (slice_get from.log k ≡ Some d) × (f.connection ≡ d.connection)
    by None is m = absurd m
    by (Some d) is m = (let b = begun-is d.connection from.address old.host new.host f m in (d, is, ap (λ (z : HostEnd). z.connection) b.4))
