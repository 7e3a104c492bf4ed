-- One end puts out all that it may, and then the other: what becomes of the PING that waits at either.
use Rattle.std.proofs.Common.{◌≡◌, ℕ, zero, suc, ◌%◌, ◌^◌, Bool, true, false, cond, List, [], ◌∷◌, ◌++◌, refl, sym, ap, subst, ◌∙◌, inl, inr, ◌⊎◌, Option, Some}
use Rattle.enet_codec.specs.Message.{Message}
use Rattle.enet_rtt.specs.Clock.{told_time, meant_time}
use Rattle.enet_rtt.specs.Transmission.{went_at}
use Rattle.enet_rtt.specs.declared.transmission.Transmission.{Transmission}
use Rattle.enet_senders.specs.Controlling as controlling
use Rattle.enet_senders.specs.declared.control.Control.{Control}
use Rattle.enet_senders.specs.declared.control.SentControl.{SentControl}
use Rattle.law_connection.specs.LinkSteps.{Has}
use Rattle.enet_sender.specs.declared.sent.Sent.{Sent}
use Rattle.enet_sender.specs.Sender.{with_skipped}
use Rattle.enet_sender.specs.Due.{SendingEnd}
use Rattle.enet_outbox.specs.declared.parts.Acknowledgement.{Acknowledgement}
use Rattle.enet_outbox.specs.declared.parts.Pace.{Pace}
use Rattle.enet_outbox.specs.Outbox.{Outbox}
use Rattle.enet_outbox.specs.Emission.{Filling, filled, occasion, acknowledgement_of}
use Rattle.enet_outbox.proofs.Filled.{by-filling}
use Rattle.enet_peer.specs.declared.parts.PeerState.TheVariants as state
use Rattle.enet_peer.specs.Peering.{Peering}
use Rattle.enet_peer.specs.Calls.{pace_of}
use Rattle.enet_rtt.specs.Timing.{timeout}
use Rattle.law_connection.specs.Connection.{End}
use Rattle.law_connection.specs.Law.{offset_in, offset_of}
use Rattle.law_connection.proofs.Lists.{Has-push, Has-push_left}
use Rattle.law_progress.specs.Exchanges.{PutsOne, PutsMany}
use Rattle.law_progress.proofs.BothRounds.{AnswersAt, told-last}
use Rattle.law_progress.proofs.Controls.{GoesControl, Heads, Repeats, goes-control}
use Rattle.law_progress.proofs.Exchanges.{same-peer, put_out, Gone, gone, Came, all-came, took-all}
use Rattle.law_progress.proofs.Kept.{go-or-stay}
use Rattle.law_progress.proofs.Waiting.{Each, Sends, each-due, each-filled, each-next, each-set, Has-at, Has-set, Has-pushed}
use Rattle.enet_world.proofs.Pinged.{leaves-then, Stood, stood-all, stood-takes, came-pinged, came-away}
use Rattle.enet_world.proofs.Pings.{IsLone, Idle, Queued, Sent as SentOne, is_ping, filled-lone}

-- ---- a datagram is filled
record From (now : ℕ) (o : Outbox) (f : Filling) : Type 0 where
  from : (t : SentControl) → Has f.outbox.control.sent t → Has o.control.sent t ⊎ (Has f.messages (controlling.message_of t.command) × (t.transmission.last ≡ now))

-- what waits then waited, or was put in at this moment
pinged-from : (pace : Pace) (o : Outbox) (t : SentControl) → Has (filled pace o).outbox.control.sent t → Has o.control.sent t ⊎ (Has (filled pace o).messages (controlling.message_of t.command) × (t.transmission.last ≡ pace.now))
pinged-from pace o t h = (let all = made in all.from t h)
  where
    later : (f : Filling) (m : Message) (x : SentControl) → Has o.control.sent x ⊎ (Has f.messages (controlling.message_of x.command) × (x.transmission.last ≡ pace.now)) → Has o.control.sent x ⊎ (Has (f.messages ++ m ∷ []) (controlling.message_of x.command) × (x.transmission.last ≡ pace.now))
    later f m x (inl k) = inl k
    later f m x (inr k) = inr (Has-push_left f.messages m (controlling.message_of x.command) k.0, k.1)

    -- it is the one that was put in
    now : (f : Filling) (n : controlling.Next) (x : SentControl) → n.command ≡ x.command → x.transmission.last ≡ pace.now
        → Has o.control.sent x ⊎ (Has (f.messages ++ controlling.message_of n.command ∷ []) (controlling.message_of x.command) × (x.transmission.last ≡ pace.now))
    now f n x e last = inr (subst (λ m. Has (f.messages ++ controlling.message_of n.command ∷ []) m) (ap controlling.message_of e) (Has-push f.messages (controlling.message_of n.command)), last)

    goes : (f : Filling) (n : controlling.Next) → From pace.now o f → GoesControl pace.now pace.timeout f.outbox.control n → (x : SentControl) → Has n.commands.sent x
        → Has o.control.sent x ⊎ (Has (f.messages ++ controlling.message_of n.command ∷ []) (controlling.message_of x.command) × (x.transmission.last ≡ pace.now))
    goes f n k (Heads y rest q is) x j = by (controlling.is_reliable y.control) (subst (λ (z : controlling.Next). Has z.commands.sent x) (sym is) j)
      where
        by : (b : Bool) → Has (cond b (f.outbox.control.sent ++ controlling.begun pace.now pace.timeout y ∷ []) f.outbox.control.sent) x → Has o.control.sent x ⊎ (Has (f.messages ++ controlling.message_of n.command ∷ []) (controlling.message_of x.command) × (x.transmission.last ≡ pace.now))
        by false i = later f (controlling.message_of n.command) x (k.from x i)
        by true i = elim (Has-pushed f.outbox.control.sent (controlling.begun pace.now pace.timeout y) x i) [
          | inl same ↦ now f n x (sym (ap (λ (z : controlling.Next). z.command) is) ∙ ap (λ (z : SentControl). z.command) same) (ap (λ (z : SentControl). z.transmission.last) (sym same))
          | inr old ↦ later f (controlling.message_of n.command) x (k.from x old)
        ]
    goes f n k (Repeats i p there due is) x j = elim (Has-set f.outbox.control.sent i (controlling.again pace.now p) x (subst (λ (z : controlling.Next). Has z.commands.sent x) (sym is) j)) [
      | inl same ↦ now f n x (sym (ap (λ (z : controlling.Next). z.command) is) ∙ ap (λ (z : SentControl). z.command) same) (ap (λ (z : SentControl). z.transmission.last) (sym same))
      | inr old ↦ later f (controlling.message_of n.command) x (k.from x old)
    ]

    made : From pace.now o (filled pace o)
    made = by-filling pace o (From pace.now o) (record {
      closes = λ f k. record { from = k.from };
      acknowledges = λ f a rest e k. record { from = λ x j. later f _ x (k.from x j) };
      controls = λ f n e k. record { from = goes f n k (goes-control pace.now pace.timeout f.outbox.control n e) };
      puts_unsequenced = λ f u rest t' e k. record { from = λ x j. later f _ x (k.from x j) };
      drops_unsequenced = λ f u rest t' e k. record { from = k.from };
      puts_data = λ f i s n t' there due k. record { from = λ x j. later f _ x (k.from x j) };
      drops_data = λ f i s n t' there due kind k. record { from = k.from };
      keeps_room = λ f i x there wants k. record { from = k.from };
      gives_room = λ f i x n there due k. record { from = k.from };
    }) (record { from = λ x j. inl j })

sent-lone : (f : Control → Bool) (c : controlling.Commands) → IsLone f c → (t : SentControl) → Has c.sent t → f t.command.control ≡ true
sent-lone f c (Idle a b) t h = absurd (subst (λ (l : List SentControl). Has l t) b h)
sent-lone f c (Queued n ok a b) t h = absurd (subst (λ (l : List SentControl). Has l t) b h)
sent-lone f c (SentOne x ok a b) t h = elim (subst (λ (l : List SentControl). Has l t) b h) [
  | inl same ↦ subst (λ (y : SentControl). f y.command.control ≡ true) same ok
  | inr none ↦ absurd none
]

-- ---- an end puts out all that it may: the other's peer
pub puts-stood : (now there n : ℕ) (from to from' to' : End) (p : Peering) → PutsMany now there n from to from' to' → to.peer ≡ Some p → p.state ≡ state.Connected → IsLone is_ping p.outbox.control → Stood there to' p
puts-stood now there zero from to from' to' p m is on lone = record { peer = p; is = ap (λ (x : End). x.peer) m.1 ∙ is; on = on; leaves = record { controls = λ t h. h; heard = inl refl; offset = refl }; lone = lone }
puts-stood now there (suc n) from to from' to' p m is on lone =
    let o : PutsOne now there from to m.0 m.1 = m.2 in
    let arrives = stood-all there (told_time now (offset_of from)) m.0 o.new to o.arrived p o.come is on lone in
    let takes = stood-takes there o.events o.arrived m.0 m.1 arrives.peer o.takes arrives.is arrives.on arrives.lone in
    let rest = puts-stood now there n m.0 m.1 from' to' takes.peer m.3 takes.is takes.on takes.lone in
    record { peer = rest.peer; is = rest.is; on = rest.on; leaves = leaves-then there p takes.peer rest.peer (leaves-then there p arrives.peer takes.peer arrives.leaves takes.leaves) rest.leaves; lone = rest.lone }

-- and its own, of all of whose transmissions something holds
pub puts-each : (R : Transmission → Type 0) (now there n : ℕ) (from to from' to' : End) (p : Peering) → PutsMany now there n from to from' to' → from.peer ≡ Some p → p.state ≡ state.Connected → ((wait : ℕ) → Sends R now wait)
    → Each R p.outbox.control.sent p.outbox.senders → (q : Peering) × (from'.peer ≡ Some q) × (q.heard ≡ p.heard) × Each R q.outbox.control.sent q.outbox.senders
puts-each R now there zero from to from' to' p m is on sends all = (p, ap (λ (x : End). x.peer) m.0 ∙ is, refl, all)
puts-each R now there (suc n) from to from' to' p m is on sends all =
    let o : PutsOne now there from to m.0 m.1 = m.2 in
    let g : Gone now from to m.0 p o.new = gone now from to m.0 p o.new o.goes is on o.logged in
    puts-each R now there n m.0 m.1 from' to' (put_out p now) m.3 g.peer on sends (each-filled R (pace_of p now) p.outbox (sends (timeout p.estimate)) all)

-- of all of whose transmissions on channel 0xFF something holds
controls-filled : (R : Transmission → Type 0) (pace : Pace) (o : Outbox) → Sends R pace.now pace.timeout → ((t : SentControl) → Has o.control.sent t → R t.transmission) → (t : SentControl) → Has (filled pace o).outbox.control.sent t → R t.transmission
controls-filled R pace o sends all = by-filling pace o (λ (f : Filling). (t : SentControl) → Has f.outbox.control.sent t → R t.transmission) (record {
  closes = λ f k. k;
  acknowledges = λ f a rest e k. k;
  controls = λ f n e k. each-next R pace.now pace.timeout f.outbox.control n sends e k;
  puts_unsequenced = λ f u rest t' e k. k;
  drops_unsequenced = λ f u rest t' e k. k;
  puts_data = λ f i s n t' there due k. k;
  drops_data = λ f i s n t' there due kind k. k;
  keeps_room = λ f i x there wants k. k;
  gives_room = λ f i x n there due k. k;
}) all

pub puts-controls : (R : Transmission → Type 0) (now there n : ℕ) (from to from' to' : End) (p : Peering) → PutsMany now there n from to from' to' → from.peer ≡ Some p → p.state ≡ state.Connected → ((wait : ℕ) → Sends R now wait)
    → ((t : SentControl) → Has p.outbox.control.sent t → R t.transmission) → (q : Peering) × (from'.peer ≡ Some q) × (q.heard ≡ p.heard) × ((t : SentControl) → Has q.outbox.control.sent t → R t.transmission)
puts-controls R now there zero from to from' to' p m is on sends all = (p, ap (λ (x : End). x.peer) m.0 ∙ is, refl, all)
puts-controls R now there (suc n) from to from' to' p m is on sends all =
    let o : PutsOne now there from to m.0 m.1 = m.2 in
    let g : Gone now from to m.0 p o.new = gone now from to m.0 p o.new o.goes is on o.logged in
    puts-controls R now there n m.0 m.1 from' to' (put_out p now) m.3 g.peer on sends (controls-filled R (pace_of p now) p.outbox (sends (timeout p.estimate)) all)

-- of all of whose transmissions on the channels something holds
abbrev pub OnChannels : (Transmission → Type 0) → List SendingEnd → Type 0
OnChannels R senders = (s : SendingEnd) → Has senders s → (t : Sent) → Has s.sender.sent t → R t.transmission

channels-filled : (R : Transmission → Type 0) (pace : Pace) (o : Outbox) → Sends R pace.now pace.timeout → OnChannels R o.senders → OnChannels R (filled pace o).outbox.senders
channels-filled R pace o sends all = by-filling pace o (λ (f : Filling). OnChannels R f.outbox.senders) (record {
  closes = λ f k. k;
  acknowledges = λ f a rest e k. k;
  controls = λ f n e k. k;
  puts_unsequenced = λ f u rest t' e k. k;
  drops_unsequenced = λ f u rest t' e k. k;
  puts_data = λ f i s n t' there due k. each-set R f.outbox.senders i s n.sender there (each-due R (occasion pace i f.outbox) s.sender n sends due (k s (Has-at f.outbox.senders i s there))) k;
  drops_data = λ f i s n t' there due kind k. each-set R f.outbox.senders i s (with_skipped n.sender) there (each-due R (occasion pace i f.outbox) s.sender n sends due (k s (Has-at f.outbox.senders i s there))) k;
  keeps_room = λ f i x there wants k. k;
  gives_room = λ f i x n there due k. k;
}) all

pub puts-channels : (R : Transmission → Type 0) (now there n : ℕ) (from to from' to' : End) (p : Peering) → PutsMany now there n from to from' to' → from.peer ≡ Some p → p.state ≡ state.Connected → ((wait : ℕ) → Sends R now wait)
    → OnChannels R p.outbox.senders → (q : Peering) × (from'.peer ≡ Some q) × OnChannels R q.outbox.senders
puts-channels R now there zero from to from' to' p m is on sends all = (p, ap (λ (x : End). x.peer) m.0 ∙ is, all)
puts-channels R now there (suc n) from to from' to' p m is on sends all =
    let o : PutsOne now there from to m.0 m.1 = m.2 in
    let g : Gone now from to m.0 p o.new = gone now from to m.0 p o.new o.goes is on o.logged in
    puts-channels R now there n m.0 m.1 from' to' (put_out p now) m.3 g.peer on sends (channels-filled R (pace_of p now) p.outbox (sends (timeout p.estimate)) all)

-- ---- a PING that waits has a property, or its acknowledgement waits to go at the other
pub record Pinging (D : SentControl → Type 0) (from to : End) : Type 0 where
  pub peer : Peering
  pub is : from.peer ≡ Some peer
  pub on : peer.state ≡ state.Connected
  pub lone : IsLone is_ping peer.outbox.control
  pub other : Peering
  pub other_is : to.peer ≡ Some other
  pub other_on : other.state ≡ state.Connected
  pub other_lone : IsLone is_ping other.outbox.control
  pub all : (t : SentControl) → Has peer.outbox.control.sent t → D t ⊎ AnswersAt peer.offset other 0xFF t.command.number t.transmission

pinging-one : (D : SentControl → Type 0) (now there : ℕ) (from to from' to' : End) → PutsOne now there from to from' to' → Pinging D from to → Pinging D from' to'
pinging-one D now there from to from' to' o k = record {
  peer = p;
  is = g.peer;
  on = k.on;
  lone = lone;
  other = takes.peer;
  other_is = takes.is;
  other_on = takes.on;
  other_lone = takes.lone;
  all = all;
}
  where
    p : Peering
    p = put_out k.peer now

    g : Gone now from to from' k.peer o.new
    g = gone now from to from' k.peer o.new o.goes k.is k.on o.logged

    lone : IsLone is_ping p.outbox.control
    lone = filled-lone is_ping (pace_of k.peer now) k.peer.outbox k.lone

    told : ℕ
    told = told_time now (offset_of from)

    -- that is by the peer's own times
    told-is : told ≡ told_time now k.peer.offset
    told-is = ap (λ (o : Option Peering). told_time now (offset_in o)) k.is

    arrives : Stood there o.arrived k.other
    arrives = stood-all there told from' o.new to o.arrived k.other o.come k.other_is k.other_on k.other_lone

    takes : Stood there to' arrives.peer
    takes = stood-takes there o.events o.arrived from' to' arrives.peer o.takes arrives.is arrives.on arrives.lone

    came : Came to o.arrived k.other
    came = all-came there told from' o.new to o.arrived k.other o.come k.other_is k.other_on

    taken : Came o.arrived to' arrives.peer
    taken = took-all o.events o.arrived from' to' arrives.peer o.takes arrives.is arrives.on

    -- an acknowledgement that waits at the other then waits still
    still : (a : Acknowledgement) → Has arrives.peer.outbox.acknowledgements a → Has takes.peer.outbox.acknowledgements a
    still a h = subst (λ (x : Peering). Has x.outbox.acknowledgements a) (same-peer to' taken.peer takes.peer taken.is takes.is) (taken.kept.acknowledgements a h)

    all : (t : SentControl) → Has p.outbox.control.sent t → D t ⊎ AnswersAt k.peer.offset takes.peer 0xFF t.command.number t.transmission
    all t h = by (pinged-from (pace_of k.peer now) k.peer.outbox t h)
      where
        by : Has k.peer.outbox.control.sent t ⊎ (Has (filled (pace_of k.peer now) k.peer.outbox).messages (controlling.message_of t.command) × (t.transmission.last ≡ now)) → D t ⊎ AnswersAt k.peer.offset takes.peer 0xFF t.command.number t.transmission
        by (inl old) = elim (k.all t old) [
          | inl d ↦ inl d
          | inr w ↦
              let a : Acknowledgement = record { channel = 0xFF; number = t.command.number; time = w.0 } in
              inr (w.0, still a (subst (λ (x : Peering). Has x.outbox.acknowledgements a) (same-peer o.arrived came.peer arrives.peer came.is arrives.is) (came.kept.acknowledgements a w.1)), w.2)
        ]
        by (inr goes) =
            let put = g.put (controlling.message_of t.command) goes.0 in
            let a : Acknowledgement = record { channel = 0xFF; number = t.command.number; time = told } in
            let r = came-pinged there told from' o.new to o.arrived put.0 t.command o.come put.1 (sent-lone is_ping p.outbox.control lone t h) put.3 put.2 in
            inr (told, still a (subst (λ (x : Peering). Has x.outbox.acknowledgements a) (same-peer o.arrived r.0 arrives.peer r.1 arrives.is) r.2), ap (λ n. went_at (meant_time n (k.peer.offset % 2 ^ 16)) t.transmission) told-is ∙ told-last k.peer.offset t.transmission now goes.1)

pub pinging-many : (D : SentControl → Type 0) (now there n : ℕ) (from to from' to' : End) → PutsMany now there n from to from' to' → Pinging D from to → Pinging D from' to'
pinging-many D now there zero from to from' to' m k = subst (λ (x : End). Pinging D x to') (sym m.0) (subst (λ (x : End). Pinging D from x) (sym m.1) k)
pinging-many D now there (suc n) from to from' to' m k = pinging-many D now there n m.0 m.1 from' to' m.3 (pinging-one D now there from to m.0 m.1 m.2 k)

-- its acknowledgement goes and takes it away, or waits still
pub answers-pinged : (D : SentControl → Type 0) (now there n : ℕ) (from to from' to' : End) (q p : Peering) → PutsMany now there n from to from' to' → from.peer ≡ Some q → q.state ≡ state.Connected
    → to.peer ≡ Some p → p.state ≡ state.Connected → IsLone is_ping p.outbox.control → ((t : SentControl) → Has p.outbox.control.sent t → D t ⊎ AnswersAt p.offset q 0xFF t.command.number t.transmission)
    → (r : Peering) × (to'.peer ≡ Some r) × (s : Peering) × (from'.peer ≡ Some s) × ((t : SentControl) → Has r.outbox.control.sent t → D t ⊎ AnswersAt p.offset s 0xFF t.command.number t.transmission)
answers-pinged D now there zero from to from' to' q p m is on other_is other_on lone all = (p, ap (λ (x : End). x.peer) m.1 ∙ other_is, q, ap (λ (x : End). x.peer) m.0 ∙ is, all)
answers-pinged D now there (suc n) from to from' to' q p m is on other_is other_on lone all =
    let rest = answers-pinged D now there n m.0 m.1 from' to' (put_out q now) takes.peer m.3 g.peer on takes.is takes.on takes.lone
    (λ t h. subst (λ k. D t ⊎ AnswersAt k (put_out q now) 0xFF t.command.number t.transmission) (sym same) (left t h)) in
    (rest.0, rest.1, rest.2, rest.3, λ t h. subst (λ k. D t ⊎ AnswersAt k rest.2 0xFF t.command.number t.transmission) same (rest.4 t h))
  where
    o : PutsOne now there from to m.0 m.1
    o = m.2

    g : Gone now from to m.0 q o.new
    g = gone now from to m.0 q o.new o.goes is on o.logged

    arrives : Stood there o.arrived p
    arrives = stood-all there (told_time now (offset_of from)) m.0 o.new to o.arrived p o.come other_is other_on lone

    takes : Stood there m.1 arrives.peer
    takes = stood-takes there o.events o.arrived m.0 m.1 arrives.peer o.takes arrives.is arrives.on arrives.lone

    same : takes.peer.offset ≡ p.offset
    same = takes.leaves.offset ∙ arrives.leaves.offset

    left : (t : SentControl) → Has takes.peer.outbox.control.sent t → D t ⊎ AnswersAt p.offset (put_out q now) 0xFF t.command.number t.transmission
    left t h = by (all t (arrives.leaves.controls t then'))
      where
        then' : Has arrives.peer.outbox.control.sent t
        then' = takes.leaves.controls t h

        by : D t ⊎ AnswersAt p.offset q 0xFF t.command.number t.transmission → D t ⊎ AnswersAt p.offset (put_out q now) 0xFF t.command.number t.transmission
        by (inl d) = inl d
        by (inr w) = elim ((go-or-stay (pace_of q now) q.outbox).acknowledgements a w.1) [
          | inl stays ↦ inr (w.0, stays, w.2)
          | inr went ↦
              let put = g.put (acknowledgement_of a) went in
              let none = came-away there (told_time now (offset_of from)) m.0 o.new to o.arrived p put.0 t.command.number w.0 o.come put.1 other_is other_on lone put.3 put.2 in
              absurd (none.2 t (subst (λ (y : Peering). Has y.outbox.control.sent t) (same-peer o.arrived arrives.peer none.0 arrives.is none.1) then') refl w.2)
        ]
          where
            a : Acknowledgement
            a = record { channel = 0xFF; number = t.command.number; time = w.0 }
