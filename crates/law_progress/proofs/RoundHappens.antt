-- From each link there is a round.
use Rattle.std.proofs.Common.{false, ◌≡◌, ℕ, zero, suc, ◌+◌, ◌≤◌, true, List, [], ◌∷◌, ◌++◌, length, map, refl, sym, ap, subst, ◌∙◌, inl, inr, arith, Option, Some, None}
use Rattle.enet_seq.specs.Numbering.{wire}
use Rattle.enet_rtt.specs.declared.transmission.Tick.{Tick}
use Rattle.enet_fragment.specs.declared.data.DataCommand.{DataCommand}
use Rattle.enet_sender.specs.declared.outgoing.Occasion.{Occasion}
use Rattle.enet_sender.specs.Sender.{Sender, Next, next, bytes_in_transit, prices_in_transit}
use Rattle.enet_sender.specs.declared.sent.Sent.{Sent}
use Rattle.law_connection.specs.WireLink.{WireLink, marks, sends, puts_out}
use Rattle.law_connection.specs.LinkSteps.{Has, Event, Send}
use Rattle.law_connection.proofs.CarriageLemmas.{Has-append_left, Has-append_right}
use Rattle.law_progress.specs.Links.{IsUp}
use Rattle.law_progress.specs.Outboxes.{ready_at}
use Rattle.law_progress.specs.Rounds.{Fills, comes, all_come, Carries, CarriesMany, IsEnoughFor, IsSpent, answers_out, answers_go, all_heard, HasARound}
use Rattle.law_progress.proofs.PutsOut.{ready-next}
use Rattle.law_progress.proofs.Spent.{goes-of, queued-left, sent-left}
use Rattle.law_progress.proofs.Trips.{Has-map}

record Same (u w : WireLink) : Type 0 where
  outgoing : w.outgoing ≡ u.outgoing
  making : w.making ≡ u.making
  sending : w.is_sending ≡ u.is_sending

-- what comes changes nothing at the sending end
come-same : (most : ℕ) (cs : List DataCommand) (u : WireLink) → Same u (all_come most u cs)
come-same most [] u = record { outgoing = refl; making = refl; sending = refl }
come-same most (c ∷ cs) u = let k = come-same most cs (comes most u c) in record { outgoing = k.outgoing; making = k.making; sending = k.sending }

abbrev total : List DataCommand → ℕ
total [] = 0
total (c ∷ cs) = length c.body + total cs

at-most : (cs : List DataCommand) (c : DataCommand) → Has cs c → length c.body ≤ total cs
at-most [] c h = absurd h
at-most (x ∷ cs) c (inl is) = let e : length x.body ≡ length c.body = ap (λ (y : DataCommand). length y.body) is in omega arith
at-most (x ∷ cs) c (inr h) = let k = at-most cs c h in omega arith

abbrev commands_in : List Sent → List DataCommand
commands_in sent = map (λ (p : Sent). p.command) sent

record PutsOutAll (mtu most limit : ℕ) (start : WireLink) : Type 0 where
  datagrams : ℕ
  few : datagrams ≤ limit
  out : WireLink
  goes : CarriesMany mtu most datagrams start out
  spent : IsSpent out

-- nothing but what is in transit stands in the way of bodies so long
abbrev asked : ℕ → WireLink → Occasion
asked size u = record { now = 0; timeout = 0; transit = bytes_in_transit u.outgoing; most = size; prices = prices_in_transit u.outgoing; dearest = size + 28; barred = false }

record AreWithin (size : ℕ) (s : Sender) : Type 0 where
  queued : (c : DataCommand) → Has s.queued c → length c.body ≤ size
  sent : (p : Sent) → Has s.sent p → length p.command.body ≤ size

enough : (size : ℕ) (u : WireLink) (c : DataCommand) → length c.body ≤ size → IsEnoughFor (asked size u) c
enough size u c low = record { most = low; dearest = omega arith }

rests-spent : (size : ℕ) (u : WireLink) → AreWithin size u.outgoing → next wire (asked size u) u.outgoing ≡ None → IsSpent u
rests-spent size u fits none = record {
  occasion = asked size u;
  transit = refl;
  prices = refl;
  free = refl;
  queued = λ c h. enough size u c (fits.queued c h);
  sent = λ p h. enough size u p.command (fits.sent p h);
  spent = none;
}

-- all goes, a command a datagram
puts-out : (mtu most size fuel n : ℕ) (start u : WireLink) → CarriesMany mtu most n start u → u.is_sending ≡ true → u.making ≡ [] → ready_at u.outgoing ≤ fuel → AreWithin size u.outgoing → PutsOutAll mtu most (n + fuel) start
puts-out mtu most size zero n start u gone sending between few fits = by (next wire (asked size u) u.outgoing) refl
  where
    by : (x : Option Next) → next wire (asked size u) u.outgoing ≡ x → PutsOutAll mtu most (n + 0) start
    by None e = record { datagrams = n; few = omega arith; out = u; goes = gone; spent = rests-spent size u fits e }
    by (Some x) e = absurd (let l = ready-next (asked size u) u.outgoing x e in omega arith)
puts-out mtu most size (suc fuel) n start u gone sending between few fits = by (λ w c s b r q. puts-out mtu most size fuel (suc n) start w c s b r q) (next wire (asked size u) u.outgoing) refl
  where
    by : ((w : WireLink) → CarriesMany mtu most (suc n) start w → w.is_sending ≡ true → w.making ≡ [] → ready_at w.outgoing ≤ fuel → AreWithin size w.outgoing → PutsOutAll mtu most (suc n + fuel) start)
        → (x : Option Next) → next wire (asked size u) u.outgoing ≡ x → PutsOutAll mtu most (n + suc fuel) start
    by go None e = record { datagrams = n; few = omega arith; out = u; goes = gone; spent = rests-spent size u fits e }
    by go (Some x) e =
        let made : WireLink = sends u x in
        let w : WireLink = all_come most (puts_out made) made.making in
        let same = come-same most made.making (puts_out made) in
        let less = ready-next (asked size u) u.outgoing x e in
        let carries : Carries mtu most u w = record { filling = Send (asked size u) ∷ []; fills = only; made = made; runs = (made, record { due = x; sending = sending; is_due = e; after = refl }, refl); after = refl } in
        let p = go w (u, gone, carries) (same.sending ∙ sending) same.making (subst (λ (s : Sender). ready_at s ≤ fuel) (sym same.outgoing) (omega arith)) (subst (λ (s : Sender). AreWithin size s) (sym same.outgoing) left) in
        record { datagrams = p.datagrams; few = (let l = p.few in omega arith); out = p.out; goes = p.goes; spent = p.spent }
      where
        only : (f : Event) → Has (Send (asked size u) ∷ []) f → Fills f
        only f (inl is) = subst Fills is tt
        only f (inr h) = absurd h

        -- what is left was there
        left : AreWithin size x.sender
        left =
            let g = goes-of (asked size u) u.outgoing x e in
            record {
              queued = λ c h. fits.queued c (queued-left (asked size u) u.outgoing x c g h);
              sent = sent-left (asked size u) u.outgoing x (λ c. length c.body ≤ size) g fits.queued fits.sent;
            }

pub has-round : (mtu most : ℕ) (tick : Tick) (v : WireLink) → IsUp v → HasARound mtu most tick v
has-round mtu most tick v up =
    let start = marks v tick in
    let all : List DataCommand = start.outgoing.queued ++ commands_in start.outgoing.sent in
    let fits : AreWithin (total all) start.outgoing = record {
      queued = λ c h. at-most all c (Has-append_left start.outgoing.queued (commands_in start.outgoing.sent) c h);
      sent = λ p h. at-most all p.command (Has-append_right start.outgoing.queued (commands_in start.outgoing.sent) p.command (Has-map (λ (q : Sent). q.command) start.outgoing.sent p h));
    } in
    let p = puts-out mtu most (total all) (ready_at start.outgoing) 0 start start refl up.sending up.between (omega arith) fits in
    record {
      after = all_heard (answers_go p.out) (answers_out p.out);
      round = record { datagrams = p.datagrams; out = p.out; goes = p.goes; spent = p.spent; after = refl };
      few = (let l : p.datagrams ≤ 0 + ready_at start.outgoing = p.few in omega arith);
    }
