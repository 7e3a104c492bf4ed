-- Commands that come to a host which may be full: only a peer that waits for its client is refused.
use Rattle.std.proofs.Common.{◌≡◌, ℕ, ◌%◌, ◌^◌, ◌&&◌, Bool, true, false, if◌then◌else◌, Option, None, length, refl, sym, ap, subst, ◌∙◌, Result}
use Rattle.std.specs.Prelude.{nat_lt}
use Rattle.enet_codec.specs.declared.command.Head.{Head}
use Rattle.enet_codec.specs.declared.stop.Stop.{Stop}
use Rattle.enet_codec.specs.Message.{Message, Body, acknowledge}
use Rattle.enet_rtt.specs.Clock.{meant_time}
use Rattle.enet_outbox.specs.Outbox.{is_answer, matched_by}
use Rattle.enet_peer.specs.declared.parts.PeerState.{PeerState}
use Rattle.enet_peer.specs.declared.parts.PeerState.TheVariants as state
use Rattle.enet_peer.specs.Peering.{Peering}
use Rattle.enet_peer.specs.Calls.{is_answering}
use Rattle.enet_peer.specs.CommandEffect.{Outcome, Obeys, obeyed, wants_memory}
use Rattle.enet_peer.specs.Reachable.{IsReachable, IsStillIn, WaitsIn, holdings_of}
use Rattle.enet_peer.specs.Refusing.{confirms, confirms_by, heeded, is_turned_away, told_again, told_full, turned_away}
use Rattle.enet_peer.proofs.Obeying.{obeys-holds}
use Rattle.enet_peer.proofs.Reaching.{obeyed-keeps}

left-true : (a b : Bool) → (a && b) ≡ true → a ≡ true
left-true true b e = refl
left-true false b e = e

by-body : (p : Peering) (h : Head) (body : Body) → confirms_by p h body ≡ true → is_answering p.state ≡ true
by-body p h (acknowledge number told) e = left-true (is_answering p.state) (is_answer (matched_by p.outbox h.channel number (meant_time told (p.offset % 2 ^ 16)))) e
by-body p h body e = absurd (let y : false ≡ true = e in cc)

pub confirms-answers : (p : Peering) (m : Message) → confirms p m ≡ true → is_answering p.state ≡ true
confirms-answers p m e = by-body p m.head m.body e

pub is-answering : (s : PeerState) → is_answering s ≡ true → s ≡ state.Answering
is-answering state.Answering e = refl
is-answering s e = absurd (let y : false ≡ true = e in cc)

-- what holds of what a command does where the host isn't full, and where a peer that waits for its client is refused, holds of what it does
pub heeded-holds : (P : Outcome → Type 0) (full : Bool) (p : Peering) (now : ℕ) (sent : Option ℕ) (m : Message) → P (obeyed p now sent m)
    → (is_answering p.state ≡ true → P (record { stop = None; after = turned_away p })) → P (heeded full p now sent m)
heeded-holds P full p now sent m obeys refuses = by full (confirms p m) refl
  where
    by : (f c : Bool) → confirms p m ≡ c → P (if f && c then record { stop = None; after = turned_away p } else obeyed p now sent m)
    by true true e = refuses (confirms-answers p m e)
    by true false e = obeys
    by false c e = obeys

-- any other peer obeys
pub heeded-obeyed : (full : Bool) (p : Peering) (now : ℕ) (sent : Option ℕ) (m : Message) → is_answering p.state ≡ false → heeded full p now sent m ≡ obeyed p now sent m
heeded-obeyed full p now sent m none =
    heeded-holds (λ (o : Outcome). o ≡ obeyed p now sent m) full p now sent m refl (λ answers. absurd (let y : true ≡ false = sym answers ∙ none in cc))

-- ---- what every peer keeps

told-keeps : (p : Peering) → p.state ≡ state.Answering → IsReachable p → IsReachable (told_full p)
told-keeps p at h = record {
  still = subst (λ (s : PeerState). IsStillIn s p.outbox.unsequenced (told_full p).outbox.control p.outbox.senders) (sym at) tt;
  waits = subst (λ (s : PeerState). WaitsIn s p.outbox.acknowledgements (told_full p).outbox.control.queued) (sym at) tt;
  places = h.places;
  handed_over = h.handed_over;
}

pub heeds-keeps : (r : Result (Unit {0}) Stop) (full : Bool) (p q : Peering) (now : ℕ) (sent : Option ℕ) (m : Message) → IsReachable p → Obeys r (wants_memory p now sent m) (heeded full p now sent m) p q → IsReachable q
heeds-keeps r full p q now sent m h o =
    obeys-holds IsReachable r (wants_memory p now sent m) (heeded full p now sent m) p q h
    (heeded-holds (λ (x : Outcome). IsReachable x.after) full p now sent m (obeyed-keeps p now sent m h) (λ answers. told-keeps p (is-answering p.state answers) h)) o

again-if : (b : Bool) (p : Peering) → IsReachable p → IsReachable (told_full p) → IsReachable (if b then p else told_full p)
again-if true p h k = h
again-if false p h k = k

pub again-keeps : (p : Peering) → IsReachable p → is_turned_away p ≡ true → IsReachable (told_again p)
again-keeps p h e = again-if (nat_lt 0 (length p.outbox.control.queued)) p h (told-keeps p (is-answering p.state (left-true (is_answering p.state) p.refused e)) h)
