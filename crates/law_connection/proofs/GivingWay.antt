-- An inbox gives way before a command that comes: on each channel the receiving end gives up what waits. Nothing else of the peer changes.
use Rattle.std.proofs.Common.{◌≡◌, ℕ, zero, suc, Bool, true, false, cond, List, [], ◌∷◌, map, refl, sym, ap, subst, ◌∙◌, Some}
use Rattle.std.specs.List.{slice_get}
use Rattle.enet_codec.specs.Message.{Message}
use Rattle.enet_receiver.specs.Receiver.{Receiver, without_waiting}
use Rattle.enet_receiver.specs.Foresight.{ReceivingEnd}
use Rattle.enet_receiver.specs.Sequenced.{HasSequenced}
use Rattle.enet_receiver.proofs.Sequenced.{sequenced-cleared}
use Rattle.enet_inbox.specs.Inbox.{Inbox, given_way_receiver, given_way}
use Rattle.enet_inbox.specs.DataEffect.{makes_room, met}
use Rattle.enet_peer.specs.Peering.{Peering}
use Rattle.law_connection.specs.WireLink.{WireLink, gives_up}
use Rattle.law_connection.specs.LinkSteps.{GivesUp}
use Rattle.law_connection.specs.Connection.{End}
use Rattle.law_connection.specs.Steps.{with_peer}
use Rattle.law_connection.specs.Linked.{receiver_in, dispatched_on}
use Rattle.law_connection.specs.Invariant.{AreLinked}
use Rattle.law_connection.proofs.Runs.{get-map}
use Rattle.law_connection.proofs.Relinking.{relinks, receiving-of, sending-by, out-quiet}

-- the receivers of a peer between two commands
abbrev pub AreFlat : List ReceivingEnd → Type 0
AreFlat rs = (i : ℕ) (r : ReceivingEnd) → slice_get rs i ≡ Some r → (r.receiver.dispatched ≡ []) × HasSequenced r.receiver

given_way-at : (rs : List ReceivingEnd) (i : ℕ) → receiver_in (slice_get (map given_way_receiver rs) i) ≡ without_waiting (receiver_in (slice_get rs i))
given_way-at [] i = refl
given_way-at (r ∷ rs) zero = refl
given_way-at (r ∷ rs) (suc i) = given_way-at rs i

pub sequenced-given_up : (r : Receiver) → HasSequenced r → HasSequenced (without_waiting r)
sequenced-given_up r k = let none = sequenced-cleared r k.dispatched in record { held = k.held; waiting = none.waiting; dispatched = k.dispatched }

pub given_way-flat : (rs : List ReceivingEnd) → AreFlat rs → AreFlat (map given_way_receiver rs)
given_way-flat rs flat i r e = (let c = get-map given_way_receiver rs i r e in let was = flat i c.0 c.1 in
    subst (λ (x : ReceivingEnd). (x.receiver.dispatched ≡ []) × HasSequenced x.receiver) c.2 (was.0, sequenced-given_up c.0.receiver was.1))

pub both-given_way : (own other : End) (p : Peering) → own.peer ≡ Some p → AreLinked own other → AreLinked (with_peer own (record p { inbox = given_way p.inbox })) other
both-given_way own other p is b = record {
  out = λ channel few. out-quiet own other p q channel is (record { sends = refl; mtu = refl; senders = refl }) (b.out channel few);
  back = λ channel few. (let k = b.back channel few in let h = receiving-of own p channel k.link is k.receiving in
      let w : WireLink = gives_up k.link in
      relinks other own other (with_peer own q) channel k w (record { events = GivesUp ∷ []; runs = (w, refl, refl); same = refl }) refl refl refl k.agreed
      (sending-by other.peer channel k.link w refl refl k.sending) (
        h.0,
        (λ t. ap without_waiting (h.1 t) ∙ ap (λ (r : Receiver). record r { dispatched = dispatched_on channel own p }) (sym (given_way-at p.inbox.receivers channel))),
        h.2,
        h.3,
      ));
}
  where
    q : Peering
    q = record p { inbox = given_way p.inbox }

-- what a command meets: an inbox that gave way, or the one that was there

pub met-flat : (b : Inbox) (m : Message) → AreFlat b.receivers → AreFlat (met b m).receivers
met-flat b m flat = by (makes_room b m)
  where
    by : (way : Bool) → AreFlat (cond way (given_way b) b).receivers
    by true = given_way-flat b.receivers flat
    by false = flat

pub both-met : (own other : End) (p : Peering) (m : Message) → AreLinked (with_peer own p) other → AreLinked (with_peer own (record p { inbox = met p.inbox m })) other
both-met own other p m h = by (makes_room p.inbox m)
  where
    by : (way : Bool) → AreLinked (with_peer own (record p { inbox = cond way (given_way p.inbox) p.inbox })) other
    by true = both-given_way (with_peer own p) other p refl h
    by false = h
