-- The law of what an end puts out, by induction over what happens there.
use Rattle.std.proofs.Common.{◌≡◌, ℕ, ◌+◌, true, false, List, [], ◌∷◌, map, refl, sym, ap, subst, ◌∙◌, Some, zero, suc, arith}
use Rattle.std.specs.List.{slice_get, range_with_len}
use Rattle.enet_connect.specs.Terms.{granted}
use Rattle.enet_connect.specs.Verification.{asked, verification_of}
use Rattle.enet_senders.specs.declared.control.Control.TheVariants as control
use Rattle.enet_senders.specs.Controlling.{nothing_controlled}
use Rattle.enet_sender.specs.Sender.{nothing_sent}
use Rattle.enet_sender.specs.Due.{SendingEnd, new_end}
use Rattle.enet_peer.specs.Peering.{Peering, joined, connecting, answering}
use Rattle.law_connection.proofs.Events.{took}
use Rattle.law_connection.proofs.PeerChanges.{kept-moved, kept-left, kept-set, kept-given_way, kept-heeded, kept-told_again}
use Rattle.law_one_end.specs.OneEnd.{OneEnd, Event, Submit, Emit, Come, Tick, Take, Disconnect, Set, GiveWay, TellAgain, Happens, Runs, beginning}
use Rattle.law_one_end.specs.Law.{OfEachRun, OfEachAnswering, OfEachAsking, OfEachJoined}
use Rattle.law_one_end.specs.Sent.{IsSent}
use Rattle.law_one_end.proofs.Queues.{QueuesAt, goes-loose, none-queued, one-queued}
use Rattle.law_one_end.proofs.PuttingOut.{Sends, changes, sends-emitted, sends-submitted, sends-nothing}

abbrev Kept : OneEnd → Type 0
Kept e = Sends e.submitted e.put e.peer

kept-happens : (e new : OneEnd) (event : Event) → Happens e event new → Kept e → Kept new
kept-happens e new (Submit q) h k = subst Kept (sym h.1) (sends-submitted e.submitted e.put e.peer q h.0 k)
kept-happens e new (Emit now) h k = subst Kept (sym h) (sends-emitted e.submitted e.put e.peer now k)
kept-happens e new (Come m now sent) h k = subst Kept (sym h.2) (kept-heeded (Sends e.submitted e.put) (changes e.submitted e.put) h.1 e.peer m.head now sent m.body k)
kept-happens e new GiveWay h k = subst Kept (sym h.1) (kept-given_way (Sends e.submitted e.put) (changes e.submitted e.put) e.peer k)
kept-happens e new TellAgain h k = subst Kept (sym h.1) (kept-told_again (Sends e.submitted e.put) (changes e.submitted e.put) e.peer h.0 k)
kept-happens e new (Tick now) h k = subst Kept (sym h.1) (kept-moved (Sends e.submitted e.put) (changes e.submitted e.put) h.0 e.peer now k)
kept-happens e new Take h k = subst Kept (sym h.3) (took (λ q event. Sends e.submitted e.put q) e.peer h.1 h.0 h.2
    (λ info g. record { senders = k.senders; logged = k.logged; young = k.young })
    (λ x rest g u. record { senders = k.senders; logged = k.logged; young = k.young })
    (λ g u at. record { senders = k.senders; logged = k.logged; young = λ t. absurd (let x : false ≡ true = t in cc) }))
kept-happens e new (Disconnect way info) h k = subst Kept (sym h.2) (kept-left (Sends e.submitted e.put) (changes e.submitted e.put) e.peer h.0 way info h.1 k)
kept-happens e new (Set setting) h k = subst Kept (sym h.1) (kept-set (Sends e.submitted e.put) (changes e.submitted e.put) e.peer setting h.0 k)

kept-runs : (events : List Event) (e new : OneEnd) → Runs events e new → Kept e → Kept new
kept-runs [] e new r k = subst Kept r k
kept-runs (event ∷ events) e new r k = kept-runs events r.0 new r.2 (kept-happens e r.0 event r.1 k)

-- the senders of a new peer
new-senders : (a n i : ℕ) (s : SendingEnd) → slice_get (map new_end (range_with_len a n)) i ≡ Some s → (s.channel ≡ a + i) × (s.sender ≡ nothing_sent)
new-senders a zero i s e = cc
new-senders a (suc n) zero s e = (let is : new_end a ≡ s = (let f : Some (new_end a) ≡ Some s = e in cc) in (ap (λ (x : SendingEnd). x.channel) (sym is) ∙ (let z : a ≡ a + 0 = omega arith in z), ap (λ (x : SendingEnd). x.sender) (sym is)))
new-senders a (suc n) (suc i) s e = (let r = new-senders (a + 1) n i s e in (r.0 ∙ (let z : a + 1 + i ≡ a + suc i = omega arith in z), r.1))

sent-runs : (p : Peering) (channels slot : ℕ) → p.outbox.senders ≡ map new_end (range_with_len 0 channels) → QueuesAt [] slot p → OfEachRun p IsSent
sent-runs p channels slot is queues events e r =
    let k : Kept e = kept-runs events (beginning p) e r (sends-nothing p (λ i s there. (let x = new-senders 0 channels i s (ap (λ l. slice_get l i) (sym is) ∙ there) in (x.0 ∙ (let z : 0 + i ≡ i = omega arith in z), x.1)))) in
    record { meant = k.logged; loose = goes-loose slot p events e queues r }

pub answering-sent : OfEachAnswering IsSent
answering-sent now offsets offer server limits = sent-runs (answering now offsets offer server limits) (granted offer server).channels server.slot refl
    (one-queued server.slot offsets.number (control.VerifyConnect (verification_of offer server)) refl)

pub asking-sent : OfEachAsking IsSent
asking-sent now offset offer limits = sent-runs (connecting now offset offer limits) (asked offer).channels 0 refl (one-queued 0 0 (control.Connect offer) tt)

pub joined-sent : OfEachJoined IsSent
joined-sent now terms limits = sent-runs (joined now terms limits) terms.channels 0 refl (none-queued 0 [] (nothing_controlled 1) refl refl refl)
