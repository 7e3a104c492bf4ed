-- A peer that waits for its client has nothing to send on its channels, and nothing that it sent there waits.
use Rattle.std.proofs.Common.{◌≡◌, ℕ, zero, suc, ◌==◌, Bool, true, false, cond, not, List, [], ◌∷◌, refl, sym, ap, ◌∙◌, Option, Some, None, length, slice_set}
use Rattle.std.specs.List.{slice_get}
use Rattle.enet_codec.specs.declared.refusal.Refusal.{Refusal}
use Rattle.enet_codec.specs.declared.refusal.Refusal.TheVariants.{NotConnected}
use Rattle.enet_senders.specs.Controlling as controlling
use Rattle.enet_sender.specs.declared.outgoing.Occasion.{Occasion}
use Rattle.enet_seq.specs.Numbering.{wire}
use Rattle.enet_sender.specs.Due.{SendingEnd}
use Rattle.enet_sender.specs.Sender.{Sender, Next, next, nothing_sent, with_marked}
use Rattle.enet_sender.specs.Sender as sender
use Rattle.enet_outbox.specs.Outbox.{Outbox, acknowledged_on}
use Rattle.enet_peer.specs.declared.parts.PeerEvent.{PeerEvent}
use Rattle.enet_peer.specs.declared.parts.PeerState.TheVariants as state
use Rattle.enet_peer.specs.Peering.{Peering}
use Rattle.enet_peer.specs.Calls.{is_connected, submission_refusal}
use Rattle.law_connection.specs.Linked.{sender_in}
use Rattle.law_connection.proofs.Events.{took}
use Rattle.law_connection.proofs.Moves.{senders-after, marked-at}
use Rattle.law_connection.proofs.Packing.{idle-next}
use Rattle.law_connection.proofs.PeerChanges.{Core, Changes, kept-emitted, kept-given_way, kept-heeded, kept-left, kept-moved, kept-set, kept-told_again}
use Rattle.enet_world.proofs.Lasting.{Lasts}

abbrev pub AreIdle : List SendingEnd → Type 0
AreIdle senders = (i : ℕ) → sender_in (slice_get senders i) ≡ nothing_sent

abbrev pub IsUnsent : Peering → Type 0
IsUnsent p = p.state ≡ state.Answering → AreIdle p.outbox.senders

-- an acknowledgement takes nothing there
idle-set : (senders : List SendingEnd) (k : ℕ) (t : SendingEnd) → t.sender ≡ nothing_sent → AreIdle senders → AreIdle (slice_set senders k t)
idle-set [] k t e h i = h i
idle-set (s ∷ senders) zero t e h zero = e
idle-set (s ∷ senders) zero t e h (suc i) = h (suc i)
idle-set (s ∷ senders) (suc k) t e h zero = h zero
idle-set (s ∷ senders) (suc k) t e h (suc i) = idle-set senders k t e (λ j. h (suc j)) i

acknowledged-idle : (o : Outbox) (j number : ℕ) → AreIdle o.senders → AreIdle (senders-after o j number)
acknowledged-idle o j number h = by-control (j == 0xFF)
  where
    by : (x : Option SendingEnd) → slice_get o.senders j ≡ x → AreIdle (acknowledged_on o j number x).senders
    by None e = h
    by (Some s) e = idle-set o.senders j (record s { sender = sender.after_acknowledgement s.sender number }) (ap (λ (x : Sender). sender.after_acknowledgement x number) (sym (ap sender_in e) ∙ h j)) h

    by-control : (b : Bool) → AreIdle (cond b (record o { control = controlling.after_acknowledgement o.control number }) (acknowledged_on o j number (slice_get o.senders j))).senders
    by-control true = h
    by-control false = by (slice_get o.senders j) refl

-- and nothing is due there
none-due : (senders : List SendingEnd) (k : ℕ) (occasion : Occasion) (s : SendingEnd) (n : Next) → slice_get senders k ≡ Some s → next wire occasion s.sender ≡ Some n → AreIdle senders → ⊥
none-due senders k occasion s n there due h =
    let none : s.sender ≡ nothing_sent = sym (ap sender_in there) ∙ h k in
    idle-next occasion s.sender n (ap (λ (x : Sender). x.queued) none) (ap (λ (x : Sender). x.sent) none) due

unsent-changes : Changes IsUnsent
unsent-changes = record {
  quiet = λ p q e h at i. ap (λ (c : Core). sender_in (slice_get c.senders i)) e ∙ h (ap (λ (c : Core). c.state) (sym e) ∙ at) i;
  controls = λ p what plain on h. h;
  ends = λ p why info here h at. absurd (cc);
  cuts = λ p why now gone over h at. absurd (cc);
  frees = λ p h at. absurd (cc);
  parts = λ p info h at. absurd (cc);
  disconnects = λ p info up h at. absurd (cc);
  answers = λ p info up h at. absurd (cc);
  waits = λ p info on h at. absurd (cc);
  greets = λ p e h at. absurd (cc);
  welcomes = λ p v terms e big word h at. absurd (cc);
  acknowledges = λ p j number here h at. acknowledged-idle p.outbox j number (h at);
  marks = λ p tick h at i. marked-at tick p.outbox.senders i ∙ ap (with_marked tick) (h at i);
  refuses = λ p at h. h;
  holds_back = λ p tick at h. h;
  gives_way = λ p on h. h;
  takes = λ p j r c on there h. h;
  takes_unsequenced = λ p j group payload on h. h;
  puts_control = λ p now timeout n due h. h;
  puts_data = λ p k occasion s n there due h at. absurd (none-due p.outbox.senders k occasion s n there due (h at));
  drops_data = λ p k occasion s n there due h at. absurd (none-due p.outbox.senders k occasion s n there due (h at));
}

-- nothing is submitted to it
never : (p : Peering) (channel len : ℕ) → submission_refusal p channel len ≡ None → p.state ≡ state.Answering → ⊥
never p channel len free at = by (is_connected p.state) _ (ap is_connected at) free
  where
    by : (b : Bool) (rest : Option Refusal) → b ≡ false → cond (not b) (Some NotConnected) rest ≡ None → ⊥
    by true rest e f = absurd (cc)
    by false rest e f = absurd (cc)

pub unsent-lasts : Lasts IsUnsent
unsent-lasts = record {
  submits = λ p channel q free h at. absurd (never p channel (length q.body) free at);
  emits = λ p now h. kept-emitted IsUnsent unsent-changes p now h;
  comes = λ full p now sent m h. kept-heeded IsUnsent unsent-changes full p m.head now sent m.body h;
  yields = λ p answers h. kept-given_way IsUnsent unsent-changes p h;
  tells = λ p away h. kept-told_again IsUnsent unsent-changes p away h;
  ticks = λ short p now h. kept-moved IsUnsent unsent-changes short p now h;
  takes = λ p q e next h. took (λ (r : Peering) (t : PeerEvent). IsUnsent r) p q e next (λ info g. h) (λ x rest g u. h) (λ g u over at. absurd (cc));
  leaves = λ p q way info e h. kept-left IsUnsent unsent-changes p q way info e h;
  sets = λ p s may h. kept-set IsUnsent unsent-changes p s may h;
}
