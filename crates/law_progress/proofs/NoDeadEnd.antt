-- From each link that was reached a calm run leads to where nothing is outstanding.
use Rattle.std.proofs.Common.{◌≡◌, ℕ, zero, suc, ◌+◌, ◌*◌, ◌^◌, ◌<◌, ◌≤◌, ◌&&◌, not, leb, max, min, Bool, true, false, cond, List, [], ◌∷◌, length, map, refl, sym, ap, subst, ◌∙◌, inl, inr, arith, Some}
use Rattle.std.proofs.lemmas.Bool.Decides.{nat_tests}
use Rattle.std.proofs.lemmas.List.{length-map}
use Rattle.enet_seq.specs.Numbering.{wire}
use Rattle.enet_rtt.specs.Clock.{elapsed_time}
use Rattle.enet_rtt.specs.declared.transmission.Transmission.{Transmission}
use Rattle.enet_rtt.specs.declared.transmission.Tick.{Tick}
use Rattle.enet_rtt.specs.Transmission as transmission
use Rattle.enet_fragment.specs.declared.data.DataCommand.{DataCommand}
use Rattle.enet_sender.specs.CommandChoice.{carried}
use Rattle.enet_sender.specs.declared.outgoing.Occasion.{Occasion}
use Rattle.enet_sender.specs.Sender.{Sender, Next, next, has_room, first_sent, resent, marked}
use Rattle.enet_sender.specs.declared.sent.Sent.{Sent}
use Rattle.law_connection.specs.Image.{reliable_count}
use Rattle.law_connection.specs.WireLink.{WireLink, marks}
use Rattle.law_connection.specs.LinkSteps.{Has, Event, Mark, Happens, Runs, fresh_link, bodies_of}
use Rattle.law_connection.proofs.LinkRuns.{Sound-happens, Sound-runs, Sound-fresh}
use Rattle.law_connection.proofs.Shown.{Sound}
use Rattle.law_progress.specs.Links.{AreShort, IsUp, outstanding, AreTimed, AllDispatched, GetsThrough}
use Rattle.law_progress.proofs.Trips.{Calm, Calm-none, Calm-first, Calm-then, trip}
use Rattle.law_progress.proofs.SomethingGoes.{room-for, first-due, head-due}
use Rattle.law_progress.proofs.Complete.{Consumed-all, dispatched-consumed}

-- nothing is in transit, and a body so long may be
abbrev occasion_for : ℕ → Occasion
occasion_for most = record { now = 0; timeout = 0; transit = 0; most = most; prices = 0; dearest = most + 28; barred = false }

room : (c : DataCommand) → has_room (occasion_for (length c.body)) c ≡ true
room c = room-for (occasion_for (length c.body)) c (omega arith) (omega arith)

-- a moment at which nothing was heard
abbrev moment : ℕ → Tick
moment now = record { now = now; heard = 0; bound = 1000; present = 0 }

-- where nothing waits for its acknowledgement, the head of the queue may go
head-goes : (s : Sender) (c : DataCommand) (rest : List DataCommand) → s.sent ≡ [] → s.queued ≡ c ∷ rest → (n : Next) × (next wire (occasion_for (length c.body)) s ≡ Some n)
head-goes s c rest none queued = (first_sent 0 0 s c rest, head-due (occasion_for (length c.body)) s c rest none queued refl (room c))

-- what is due to go again goes
due-goes : (s : Sender) (x : Sent) (xs : List Sent) → s.sent ≡ x ∷ xs → x.transmission.due ≡ true → (n : Next) × (next wire (occasion_for (length x.command.body)) s ≡ Some n)
due-goes s x xs sent due = (resent 0 s 0 x, first-due (occasion_for (length x.command.body)) s x xs sent due (room x.command))

-- the moment at which a sent command is due to go again
wakes : (t : Transmission) → t.timeout < 2 ^ 32 → (transmission.marked (moment (t.last + t.timeout)) t).due ≡ true
wakes t brief =
    elim (transmission.is_late (t.last + t.timeout) t) as (λ b. transmission.is_late (t.last + t.timeout) t ≡ b → (cond b (record t { timeout = transmission.next_time (moment (t.last + t.timeout)) t; due = true }) t).due ≡ true) [
      | true ↦ λ e. refl
      | false ↦ λ e. already t.due (ap (λ b. not t.due && b) (sym over) ∙ e)
    ] refl
  where
    passed : elapsed_time (t.last + t.timeout) t.last ≡ t.timeout
    passed = omega arith

    over : leb t.timeout (elapsed_time (t.last + t.timeout) t.last) ≡ true
    over = le-leb t.timeout (elapsed_time (t.last + t.timeout) t.last) (let z = passed in omega arith)
      where
        le-leb : (m n : ℕ) → m ≤ n → leb m n ≡ true
        le-leb m n h = grind (arith, nat_tests)

    already : (b : Bool) → (not b && true) ≡ false → b ≡ true
    already true e = refl
    already false e = absurd (cc)

timed-marked : (now : ℕ) (sent : List Sent) → AreTimed sent → AreTimed (map (marked (moment now)) sent)
timed-marked now [] all p h = absurd h
timed-marked now (x ∷ xs) all p (inl e) = subst (λ (y : Sent). y.transmission.timeout < 2 ^ 32) e (by (transmission.is_late now x.transmission))
  where
    t : Transmission
    t = x.transmission

    grows : (b : Bool) → cond b (transmission.answered_time 0 t.timeout) (transmission.grown_time 1000 t.timeout) < 2 ^ 32
    grows true = answered (2 * t.timeout)
      where
        answered : (k : ℕ) → max 0 (min k 100) < 2 ^ 32
        answered k = grind (arith, nat_tests)
    grows false = grown t.timeout (2 * t.timeout) (all x (inl refl))
      where
        grown : (m k : ℕ) → m < 2 ^ 32 → max m (min k 1000) < 2 ^ 32
        grown m k low = grind (arith, nat_tests)

    by : (b : Bool) → (cond b (record t { timeout = transmission.next_time (moment now) t; due = true }) t).timeout < 2 ^ 32
    by true = grows (transmission.is_heard_since (moment now) t)
    by false = all x (inl refl)
timed-marked now (x ∷ xs) all p (inr h) = timed-marked now xs (λ q k. all q (inr k)) p h

-- something is outstanding: one command less is, a calm run later
pub record Gets (mtu most : ℕ) (v : WireLink) : Type 0 where
  pub after : WireLink
  pub run : Calm mtu most v after
  pub up : IsUp after
  pub submitted : after.submitted ≡ v.submitted
  pub less : outstanding after + 1 ≡ outstanding v
  pub timed : AreTimed after.outgoing.sent

gets : (mtu most : ℕ) (v : WireLink) → 28 < mtu → Sound mtu v → IsUp v → AreShort most v.submitted → AreTimed v.outgoing.sent → 0 < outstanding v → Gets mtu most v
gets mtu most v big s up short timed some' = by v.outgoing.sent refl
  where
    none_sent : v.outgoing.sent ≡ [] → (q : List DataCommand) → v.outgoing.queued ≡ q → Gets mtu most v
    none_sent e [] f = absurd (let a : length v.outgoing.sent ≡ 0 = ap (λ (l : List Sent). length l) e in let b : length v.outgoing.queued ≡ 0 = ap (λ (l : List DataCommand). length l) f in omega arith)
    none_sent e (c ∷ rest) f =
        let k = head-goes v.outgoing c rest e f in
        let t = trip mtu most v (occasion_for (length c.body)) k.0 big s up short (omega arith) k.1 in
        record { after = t.after; run = t.run; up = t.up; submitted = t.submitted; less = t.less; timed = t.timed timed }

    by : (sent : List Sent) → v.outgoing.sent ≡ sent → Gets mtu most v
    by [] e = none_sent e v.outgoing.queued refl
    by (p ∷ ps) e =
        let now = p.transmission.last + p.transmission.timeout in
        let at : Tick = moment now in
        let w = marks v at in
        let step : Happens mtu (Mark at) v w = record { sending = up.sending; after = refl } in
        let sw : Sound mtu w = Sound-happens mtu (Mark at) v w big s step in
        let wup : IsUp w = record { sending = up.sending; open' = up.open'; between = up.between } in
        let brief = timed p (subst (λ (l : List Sent). Has l p) (sym e) (inl refl)) in
        let first : w.outgoing.sent ≡ marked at p ∷ map (marked at) ps = ap (map (marked at)) e in
        let k = due-goes w.outgoing (marked at p) (map (marked at) ps) first (wakes p.transmission brief) in
        let t = trip mtu most w (occasion_for (length p.command.body)) k.0 big sw wup short (omega arith) k.1 in
        let same : length (map (marked at) v.outgoing.sent) ≡ length v.outgoing.sent = length-map v.outgoing.sent (marked at) in
        let less = t.less in
        record {
          after = t.after;
          run = Calm-first mtu most (Mark at) v w t.after tt step t.run;
          up = t.up;
          submitted = t.submitted;
          less = omega arith;
          timed = t.timed (timed-marked now v.outgoing.sent timed);
        }

record Ends (mtu most : ℕ) (v : WireLink) : Type 0 where
  after : WireLink
  run : Calm mtu most v after
  up : IsUp after
  submitted : after.submitted ≡ v.submitted
  none : outstanding after ≡ 0

ends : (mtu most k : ℕ) (v : WireLink) → 28 < mtu → Sound mtu v → IsUp v → AreShort most v.submitted → AreTimed v.outgoing.sent → outstanding v ≡ k → Ends mtu most v
ends mtu most zero v big s up short timed e = record { after = v; run = Calm-none mtu most v; up = up; submitted = refl; none = e }
ends mtu most (suc k) v big s up short timed e =
    let g = gets mtu most v big s up short timed (omega arith) in
    let less = g.less in
    let sg : Sound mtu g.after = Sound-runs mtu g.run.events v g.after big s g.run.runs in
    let r = ends mtu most k g.after big sg g.up (subst (λ qs. AreShort most qs) (sym g.submitted) short) g.timed (omega arith) in
    record { after = r.after; run = Calm-then mtu most v g.after r.after g.run r.run; up = r.up; submitted = r.submitted ∙ g.submitted; none = r.none }

pub empty-of : {X : Type 0} (xs : List X) → length xs ≡ 0 → xs ≡ []
empty-of [] e = refl
empty-of (x ∷ xs) e = absurd (omega arith)

pub through : (mtu most : ℕ) (es : List Event) (v : WireLink) → 28 < mtu → Runs mtu es fresh_link v → IsUp v → AreShort most v.submitted → AreTimed v.outgoing.sent → GetsThrough mtu most v
through mtu most es v big runs up short timed =
    let s = Sound-runs mtu es fresh_link v big (Sound-fresh mtu) runs in
    let r = ends mtu most (outstanding v) v big s up short timed refl in
    let sr : Sound mtu r.after = Sound-runs mtu r.run.events v r.after big s r.run.runs in
    let none = r.none in
    let no_queued : r.after.outgoing.queued ≡ [] = empty-of r.after.outgoing.queued (omega arith) in
    let no_sent : r.after.outgoing.sent ≡ [] = empty-of r.after.outgoing.sent (omega arith) in
    let all = dispatched-consumed (carried mtu r.after.submitted) (bodies_of r.after.incoming.dispatched) (Consumed-all mtu r.after sr r.up.sending r.up.open' (ap reliable_count no_queued) no_sent) in
    record {
      events = r.run.events;
      after = r.after;
      runs = r.run.runs;
      calm = r.run.calm;
      none = r.none;
      submitted = r.submitted;
      dispatched = subst (λ qs. AllDispatched (carried mtu qs) (bodies_of r.after.incoming.dispatched)) r.submitted all;
    }
