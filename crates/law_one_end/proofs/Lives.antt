-- The events of an end are one life, whoever stands at the other.
use Rattle.std.proofs.Common.{◌≡◌, Bool, true, false, ltb, leb, ◌||◌, List, [], ◌∷◌, refl, sym, subst, ◌∙◌, inl, length}
use Rattle.enet_fragment.specs.Cutting.{piece_count}
use Rattle.enet_sender.specs.CommandChoice.{fragment_limit}
use Rattle.enet_outbox.specs.Outbox as outbox
use Rattle.enet_peer.specs.Peering.{Peering, joined, connecting, answering}
use Rattle.enet_peer.specs.Calls.{is_connected}
use Rattle.law_connection.specs.Life.{Lives}
use Rattle.law_connection.proofs.Events.{accepted}
use Rattle.law_connection.proofs.LifeChanges.{connected-here, lives, lives-outbox, lives-took}
use Rattle.law_connection.proofs.OneLife.{lives-one}
use Rattle.law_connection.proofs.PeerChanges.{kept-moved, kept-left, kept-set, kept-emitted, kept-given_way, kept-heeded, kept-told_again}
use Rattle.law_one_end.specs.OneEnd.{OneEnd, Event, Submit, Emit, Come, Tick, Take, Disconnect, Set, GiveWay, TellAgain, Happens, Runs, beginning}
use Rattle.law_one_end.specs.Law.{HasOneLife, OfEachRun, OfEachAnswering, OfEachAsking, OfEachJoined}

abbrev IsAlive : Bool → OneEnd → Type 0
IsAlive joined e = Lives joined e.taken e.peer

life-happens : (joined : Bool) (e new : OneEnd) (event : Event) → Happens e event new → IsAlive joined e → IsAlive joined new
life-happens joined e new (Submit q) h k =
    let p : Peering = e.peer in
    let a = accepted (is_connected p.state) (leb (length p.outbox.senders) q.channel) (ltb p.limits.max_packet (length q.body) || ltb fragment_limit (piece_count (length q.body) p.terms.mtu)) h.0 in
    subst (IsAlive joined) (sym h.1)
    (lives-outbox joined e.taken p (outbox.submitted p.outbox p.terms.mtu q.channel (record { flags = q.flags; body = q.body }))
    (λ gone. absurd (let x : true ≡ false = sym gone ∙ connected-here p.state a.0 in cc)) k)
life-happens joined e new (Emit now) h k = subst (IsAlive joined) (sym h) (kept-emitted (Lives joined e.taken) (lives joined e.taken) e.peer now k)
life-happens joined e new (Come m now sent) h k = subst (IsAlive joined) (sym h.2) (kept-heeded (Lives joined e.taken) (lives joined e.taken) h.1 e.peer m.head now sent m.body k)
life-happens joined e new (Tick now) h k = subst (IsAlive joined) (sym h.1) (kept-moved (Lives joined e.taken) (lives joined e.taken) h.0 e.peer now k)
life-happens joined e new Take h k = subst (IsAlive joined) (sym h.3) (lives-took joined e.taken e.peer h.1 h.0 h.2 k)
life-happens joined e new (Disconnect way info) h k = subst (IsAlive joined) (sym h.2) (kept-left (Lives joined e.taken) (lives joined e.taken) e.peer h.0 way info h.1 k)
life-happens joined e new (Set setting) h k = subst (IsAlive joined) (sym h.1) (kept-set (Lives joined e.taken) (lives joined e.taken) e.peer setting h.0 k)
life-happens joined e new GiveWay h k = subst (IsAlive joined) (sym h.1) (kept-given_way (Lives joined e.taken) (lives joined e.taken) e.peer k)
life-happens joined e new TellAgain h k = subst (IsAlive joined) (sym h.1) (kept-told_again (Lives joined e.taken) (lives joined e.taken) e.peer h.0 k)

life-runs : (joined : Bool) (events : List Event) (e new : OneEnd) → Runs events e new → IsAlive joined e → IsAlive joined new
life-runs joined [] e new r k = subst (IsAlive joined) r k
life-runs joined (event ∷ events) e new r k = life-runs joined events r.0 new r.2 (life-happens joined e r.0 event r.1 k)

life : (joined : Bool) (p : Peering) → IsAlive joined (beginning p) → OfEachRun p (HasOneLife joined)
life joined p k events e r = lives-one joined e.taken e.peer (life-runs joined events (beginning p) e r k)

pub answering-life : OfEachAnswering (HasOneLife false)
answering-life now offsets offer server limits = life false (answering now offsets offer server limits) (refl, record { none = refl; greeting = refl; untaken = refl })

pub asking-life : OfEachAsking (HasOneLife false)
asking-life now offset offer limits = life false (connecting now offset offer limits) (refl, record { none = refl; greeting = refl; untaken = refl })

pub joined-life : OfEachJoined (HasOneLife true)
joined-life now terms limits = life true (joined now terms limits) (inl (refl, tt))
