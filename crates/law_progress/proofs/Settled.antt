-- A reliable command that comes is acknowledged by one of the next datagrams, which takes it away.
use Rattle.std.proofs.Common.{◌≡◌, ℕ, ◌+◌, ◌<◌, ◌≤◌, Bool, List, map, refl, sym, subst, Option, Some, None}
use Rattle.std.specs.List.{slice_get}
use Rattle.enet_fragment.specs.declared.data.DataCommand.{DataCommand}
use Rattle.enet_receiver.specs.Members.{Has}
use Rattle.enet_sender.specs.declared.sent.Sent.{Sent}
use Rattle.enet_sender.specs.Due.{SendingEnd}
use Rattle.enet_outbox.specs.declared.parts.Acknowledgement.{Acknowledgement}
use Rattle.enet_outbox.specs.declared.parts.Pace.{Pace}
use Rattle.enet_outbox.specs.Outbox.{Outbox}
use Rattle.enet_outbox.specs.Emission.{acknowledgement_of}
use Rattle.enet_peer.specs.declared.parts.PeerState.TheVariants as state
use Rattle.enet_peer.specs.Peering.{Peering}
use Rattle.enet_peer.specs.CommandEffect.{Outcome, obeyed}
use Rattle.law_connection.specs.Connection.{Put, End, Connection}
use Rattle.law_connection.specs.Invariant.{Invariant}
use Rattle.law_connection.specs.Linked.{sender_in}
use Rattle.law_progress.specs.Outboxes.{AllFit}
use Rattle.law_progress.specs.Peers.{Awaits, IsAnswered}
use Rattle.law_progress.specs.Settled.{IsSettled}
use Rattle.law_progress.proofs.AllOut.{puts-out-all}
use Rattle.law_progress.proofs.Filling.{Has-push}
use Rattle.law_progress.proofs.PeerAnswers.{answers-forth, answers-back}
use Rattle.law_progress.proofs.Removed.{removed}

-- the channel of a command that waits is there
has-end : (xs : List SendingEnd) (channel number : ℕ) → Has (map (λ (t : Sent). t.command.number) (sender_in (slice_get xs channel)).sent) number
    → (s : SendingEnd) × (slice_get xs channel ≡ Some s) × Has (map (λ (t : Sent). t.command.number) s.sender.sent) number
has-end xs channel number h = by (slice_get xs channel) refl h
  where
    by : (o : Option SendingEnd) → slice_get xs channel ≡ o → Has (map (λ (t : Sent). t.command.number) (sender_in o).sent) number → (s : SendingEnd) × (slice_get xs channel ≡ Some s) × Has (map (λ (t : Sent). t.command.number) s.sender.sent) number
    by None e k = absurd k
    by (Some s) e k = (s, e, k)

settles : (from to : End) (p q : Peering) (put : Put) (channel : ℕ) (c : DataCommand) (time : ℕ) (pace : Pace) (o : Outcome) → channel < 255 → Awaits from to p q put channel c → p.state ≡ state.Connected → AllFit pace q.outbox → IsAnswered q channel time c o
    → IsSettled pace p channel time c o
settles from to p q put channel c time pace o low w connected fit answered = record {
  datagrams = all.0;
  few = all.1;
  goes = (let r = all.2 in r.acknowledgements a waits);
  end = s.0;
  there = s.1;
  removed = λ now sent went. removed p now sent (acknowledgement_of a) c.number time s.0 connected refl refl low s.1 s.2 went;
}
  where
    a : Acknowledgement
    a = record { channel = channel; number = c.number; time = time }

    waits : Has o.after.outbox.acknowledgements a
    waits = subst (λ (x : Outbox). Has x.acknowledgements a) (sym answered.waits) (Has-push q.outbox.acknowledgements a)

    fits : AllFit pace o.after.outbox
    fits = subst (λ (x : Outbox). AllFit pace x) (sym answered.waits) (record { fit = record { mtu = fit.fit.mtu; unsequenced = fit.fit.unsequenced; queued = fit.fit.queued }; awaited = fit.awaited; sent = fit.sent })

    all : (n : ℕ) × (n ≤ Rattle.law_progress.specs.Outboxes.ready o.after.outbox + 1) × Rattle.law_progress.specs.Outboxes.IsPutOut pace o.after.outbox n
    all = puts-out-all pace o.after.outbox fits

    s : (s : SendingEnd) × (slice_get p.outbox.senders channel ≡ Some s) × Has (map (λ (t : Sent). t.command.number) s.sender.sent) c.number
    s = has-end p.outbox.senders channel c.number w.waits

pub settled-forth : (joined : Bool) (d : Connection) (p q : Peering) (put : Put) (channel : ℕ) (c : DataCommand) (now time : ℕ) (pace : Pace) → Invariant joined d → channel < 255 → Awaits d.one d.two p q put channel c → p.state ≡ state.Connected → AllFit pace q.outbox
    → IsSettled pace p channel time c (obeyed q now (Some time) put.message)
settled-forth joined d p q put channel c now time pace i low w connected fit = settles d.one d.two p q put channel c time pace (obeyed q now (Some time) put.message) low w connected fit (answers-forth joined d p q put channel c now time i low w)

pub settled-back : (joined : Bool) (d : Connection) (p q : Peering) (put : Put) (channel : ℕ) (c : DataCommand) (now time : ℕ) (pace : Pace) → Invariant joined d → channel < 255 → Awaits d.two d.one p q put channel c → p.state ≡ state.Connected → AllFit pace q.outbox
    → IsSettled pace p channel time c (obeyed q now (Some time) put.message)
settled-back joined d p q put channel c now time pace i low w connected fit = settles d.two d.one p q put channel c time pace (obeyed q now (Some time) put.message) low w connected fit (answers-back joined d p q put channel c now time i low w)
