-- What one link keeps is what its two ends agree on.
use Rattle.std.proofs.Common.{◌≡◌, ℕ, ◌+◌, ◌-◌, ◌<◌, ◌≤◌, true, false, List, [], ◌∷◌, ◌++◌, length, map, sym, ap, subst, ◌∙◌, inl, inr, arith, Option, Some, None}
use Rattle.std.proofs.lemmas.Bool.Decides.{nat_tests}
use Rattle.std.specs.Prelude.{nat_lt}
use Rattle.enet_sender.specs.CommandChoice.{ChosenPacket, carried}
use Rattle.enet_sender.specs.Sender.{Sender}
use Rattle.enet_sender.specs.declared.sent.Sent.{Sent}
use Rattle.enet_peer.specs.Peering.{Peering}
use Rattle.law_connection.specs.Image.{ShowsReceiver}
use Rattle.law_connection.specs.Keeps.{Keeps}
use Rattle.law_connection.specs.Link.{PutOut, is_late, number_below}
use Rattle.law_connection.specs.Meant.{Stands, OfReliable, OfUnreliable, IsReadAsMeant}
use Rattle.law_connection.specs.LinkSteps.{Has}
use Rattle.law_connection.specs.WireLink.{WireLink}
use Rattle.law_connection.proofs.Greatest.{bounded}
use Rattle.law_connection.proofs.LinkRuns.{keeps}
use Rattle.law_connection.specs.Connection.{End, sent_on, of_channel}
use Rattle.law_connection.specs.Law.{mtu_of}
use Rattle.law_connection.specs.Linked.{IsLinked, ShowsSending, ShowsReceiving}
use Rattle.law_connection.specs.Numbers.{is_sending, is_dispatching, sender_on, receiver_on, sending_on, receiving_on, carried_by, IsPutOn, AreAgreed, AgreeOn}

-- nothing stands in an empty list
nothing-stands : (number count : ℕ) (c : ChosenPacket) → Stands [] number count c → ⊥
nothing-stands number count c s = by s.before s.behind s.whole
  where
    by : (before behind : List ChosenPacket) → [] ≡ before ++ c ∷ behind → ⊥
    by [] behind e = cc
    by (x ∷ before) behind e = cc

-- the link's mtu is the sending end's where something was submitted
by-mtu : (from to : End) (channel : ℕ) (k : IsLinked from to channel) (P : ℕ → List ChosenPacket → Type 0) → ((mtu : ℕ) → P mtu [] → ⊥) → P k.mtu (carried k.mtu k.link.submitted) → P (mtu_of from) (carried_by (sending_on channel from))
by-mtu from to channel k P none h =
    let here : P k.mtu (carried k.mtu (of_channel k.mtu channel from.submitted)) = subst (λ qs. P k.mtu (carried k.mtu qs)) k.submitted h in
    elim k.agreed [
      | inl empty ↦ absurd (none k.mtu (subst (λ qs. P k.mtu (carried k.mtu (of_channel k.mtu channel qs))) empty here))
      | inr same ↦ subst (λ mtu. P mtu (carried mtu (of_channel mtu channel from.submitted))) (sym same) here
    ]

-- the two ends' parts

open-of : (e : End) (o : Option Peering) (channel : ℕ) (v : WireLink) → ShowsReceiving e o channel v → is_dispatching o ≡ v.is_open
open-of e None channel v h = sym h.0
open-of e (Some p) channel v h = h.0

incoming-of : (e : End) (o : Option Peering) (channel : ℕ) (v : WireLink) → ShowsReceiving e o channel v → v.is_open ≡ true → v.incoming ≡ receiver_on channel e o
incoming-of e None channel v h t = h.1
incoming-of e (Some p) channel v h t = h.1 t

sending-of : (o : Option Peering) (channel : ℕ) (v : WireLink) → ShowsSending o channel v → is_sending o ≡ true → (v.is_sending ≡ true) × (v.outgoing ≡ sender_on channel o)
sending-of None channel v h t = h
sending-of (Some p) channel v h t = h.0 t

not-late : (sent number : ℕ) → nat_lt 32768 (sent - number) ≡ false → sent ≤ number + 32768
not-late sent number e = grind (arith, nat_tests)

-- what a link keeps, its two ends agree on
agreed : (from to : End) (channel : ℕ) → IsLinked from to channel → AreAgreed (sending_on channel from) (IsPutOn channel from) (receiving_on channel to)
agreed from to channel k = record {
  receiver = f.receiver;
  waiting = f.waiting;
  shows = λ t. subst (λ r. ShowsReceiver r f.receiver) (incoming-of to to.peer channel k.link k.receiving (open' t)) (f.shows (open' t));
  sent = λ t. (let s = sending-of from.peer channel k.link k.sending t in ap (λ (o : Sender). map (λ (p : Sent). p.command.number) o.sent) (sym s.1) ∙ f.sent s.0);
  span = λ m h. subst (λ g. (0 < m) × (m ≤ g) × (g < m + 8192)) k.greatest (f.span m h);
  removed = λ m low high. elim (f.removed m low (subst (λ g. m ≤ g) (sym k.greatest) high)) [ inl w ↦ inl w | inr r ↦ inr (λ t. r (open' t)) ];
  behind = λ t. subst (λ g. f.receiver.front ≤ g) k.greatest (f.behind (open' t));
  oldest = λ t u high low. f.oldest (open' t) u (subst (λ g. u ≤ g + 1) (sym k.greatest) high) low;
  near = λ t. subst (λ g. g ≤ f.receiver.front + 24575) k.greatest (f.near (open' t));
  distance = λ t c h late. distance t c h late;
  read = λ t c h late. by-mtu from to channel k (λ mtu cs. (m : IsReadAsMeant mtu cs f.receiver c.command) × (m.meant.number ≡ number_below c.sent_then c.command.number))
      (λ mtu x. let p = x.0.piece in nothing-stands p.number p.count p.packet p.stands)
      (f.read (open' t) c (there c h) (in-time c late));
  held = λ t n e is. by-mtu from to channel k (λ mtu cs. OfReliable mtu cs n e.making) (λ mtu x. nothing-stands x.number x.count x.packet x.stands) (f.held (open' t) n e is);
  lines = λ t n j e is. by-mtu from to channel k (λ mtu cs. OfUnreliable mtu cs n j e.making) (λ mtu x. nothing-stands n x.count x.packet x.stands) (f.lines (open' t) n j e is);
}
  where
    f : Keeps k.mtu k.link
    f = keeps k.mtu k.events k.link k.big k.runs

    open' : is_dispatching to.peer ≡ true → k.link.is_open ≡ true
    open' t = sym (open-of to to.peer channel k.link k.receiving) ∙ t

    there : (c : PutOut) → IsPutOn channel from c → Has k.link.commands c
    there c h = subst (λ n. Has k.link.commands (record { command = c.command; sent_then = n })) h.marked (k.commands h.put c.command h.logged h.on h.is)

    in-time : (c : PutOut) → is_late (sent_on channel from) c.sent_then c.command.number ≡ false → is_late k.link.greatest c.sent_then c.command.number ≡ false
    in-time c late = ap (λ g. is_late g c.sent_then c.command.number) k.greatest ∙ late

    distance : is_dispatching to.peer ≡ true → (c : PutOut) → IsPutOn channel from c → is_late (sent_on channel from) c.sent_then c.command.number ≡ false
        → (number_below c.sent_then c.command.number ≤ f.receiver.front + 24575) × (f.receiver.front ≤ number_below c.sent_then c.command.number + 32768)
    distance t c h late =
        let n : ℕ = number_below c.sent_then c.command.number in
        let mark = f.marks c (there c h) in
        let low = not-late k.link.greatest n (in-time c late) in
        let near = f.near (open' t) in
        let behind = f.behind (open' t) in
        let below : n ≤ c.sent_then = omega arith in
        (omega arith, omega arith)

pub agree-on : (from to : End) (channel : ℕ) → IsLinked from to channel → AgreeOn channel from to
agree-on from to channel k = record {
  agreed = agreed from to channel k;
  few = (let g = k.greatest in let b = bounded k.mtu k.events k.link k.big k.runs in let made : length k.link.making ≡ 0 = ap length k.between in let l = k.few in omega arith);
}
