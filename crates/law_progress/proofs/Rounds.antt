-- What rounds bring in which nothing is lost.
use Rattle.std.proofs.Common.{◌≡◌, ℕ, zero, suc, ◌<◌, ◌≤◌, Bool, true, false, if◌then◌else◌, List, [], ◌∷◌, ◌++◌, length, map, refl, sym, ap, subst, ◌∙◌, inl, inr, ◌⊎◌, arith, Some, None}
use Rattle.std.proofs.lemmas.List.{length-map}
use Rattle.enet_rtt.specs.Transmission as transmission
use Rattle.enet_rtt.specs.declared.transmission.Tick.{Tick}
use Rattle.enet_fragment.specs.declared.data.DataCommand.{DataCommand}
use Rattle.enet_sender.specs.CommandChoice.{carried}
use Rattle.enet_sender.specs.Sender.{marked, bytes_of, price_of, has_room, is_late as has_waited_out}
use Rattle.enet_sender.specs.declared.outgoing.Occasion.{Occasion}
use Rattle.enet_sender.specs.declared.sent.Sent.{Sent}
use Rattle.law_connection.specs.Image.{reliable_count}
use Rattle.law_connection.specs.WireLink.{WireLink, marks}
use Rattle.law_connection.specs.LinkSteps.{Has, Event, Mark, Happens, Runs, fresh_link, bodies_of}
use Rattle.law_connection.proofs.CarriageLemmas.{Has-append_right}
use Rattle.law_connection.proofs.LinkRuns.{Sound-happens, Sound-runs, Sound-fresh}
use Rattle.law_connection.proofs.Shown.{Sound}
use Rattle.law_progress.specs.Links.{AreShort, AllDispatched, IsUp, outstanding}
use Rattle.law_progress.specs.Rounds.{answer_of, answers_out, answers_go, all_heard, IsEnoughFor, Round, WaitsOn, Progresses, Rounds, AreOver, HasAllThrough}
use Rattle.law_progress.proofs.Carried.{Reaches, then-reaches, one-reaches, Went, went-all, answers-reach, Heard, heard-all}
use Rattle.law_progress.proofs.Complete.{Consumed-all, dispatched-consumed}
use Rattle.law_progress.proofs.Blocked.{due-or-not}
use Rattle.law_progress.proofs.SomethingGoes.{AreDue, none-weighs, room-for, first-due, head-due}
use Rattle.law_progress.proofs.Waiting.{Has-mapped}
use Rattle.law_progress.proofs.Trips.{Has-map}

-- what the clock didn't make due is as before, and not late
pub from-marked : (tick : Tick) (sent : List Sent) (p : Sent) → Has (map (marked tick) sent) p → p.transmission.due ≡ false → Has sent p × (has_waited_out tick.now p ≡ false)
from-marked tick [] p h due = absurd h
from-marked tick (x ∷ xs) p (inr h) due = let k = from-marked tick xs p h due in (inr k.0, k.1)
from-marked tick (x ∷ xs) p (inl is) due = by (transmission.is_late tick.now x.transmission) refl is
  where
    as_is : Bool → Sent
    as_is b = record x { transmission = if b then record x.transmission { timeout = transmission.next_time tick x.transmission; due = true } else x.transmission }

    by : (b : Bool) → transmission.is_late tick.now x.transmission ≡ b → marked tick x ≡ p → Has (x ∷ xs) p × (has_waited_out tick.now p ≡ false)
    by true late e =
        let was : marked tick x ≡ as_is true = ap as_is late in
        let z : true ≡ false = ap (λ (y : Sent). y.transmission.due) (sym was ∙ e) ∙ due in
        absurd (cc)
    by false late e =
        let was : marked tick x ≡ x = ap as_is late in
        let same : x ≡ p = sym was ∙ e in
        (inl same, subst (λ (y : Sent). transmission.is_late tick.now y.transmission ≡ false) same late)

-- what still waits after a moment, though it may be due
pub waits-on : (tick : Tick) (sent : List Sent) (p : Sent) → Has (map (marked tick) sent) p → WaitsOn tick sent p
waits-on tick sent p h = by p.transmission.due refl
  where
    by : (b : Bool) → p.transmission.due ≡ b → WaitsOn tick sent p
    by true due = (let k = Has-mapped (marked tick) sent p h in inr (due, k.0, k.1, k.2))
    by false waits = (let k = from-marked tick sent p h waits in inl (k.0, waits, k.1))

-- where all was due or late, all is due after it
pub over-due : (tick : Tick) (sent : List Sent) → AreOver tick.now sent → AreDue (map (marked tick) sent)
over-due tick sent over p h = by p.transmission.due refl
  where
    by : (b : Bool) → p.transmission.due ≡ b → p.transmission.due ≡ true
    by true due = due
    by false waits =
        let k = from-marked tick sent p h waits in
        elim (over p k.0) [
          | inl e ↦ e
          | inr e ↦ absurd (let z : true ≡ false = sym e ∙ k.1 in cc)
        ]

short-of : {X : Type 0} (xs : List X) → length xs ≤ 0 → xs ≡ []
short-of [] h = refl
short-of (x ∷ xs) h = absurd (let l : suc (length xs) ≤ 0 = h in omega arith)

-- a round
pub progress : (mtu most : ℕ) (tick : Tick) (v w : WireLink) → 28 < mtu → Sound mtu v → IsUp v → AreShort most v.submitted → Round mtu most tick v w → Progresses mtu tick v w
progress mtu most tick v w big s up short r = subst (λ z. Progresses mtu tick v z) (sym r.after) (record {
  events = run.0;
  runs = run.1;
  up = record { sending = heard.sending ∙ went.sending; open' = heard.open' ∙ went.open'; between = heard.making ∙ went.between };
  submitted = heard.submitted ∙ went.submitted;
  old = old;
  least = least;
  fewer = fewer;
  queued = queued;
  less = less;
})
  where
    start : WireLink
    start = marks v tick

    out : WireLink
    out = r.out

    heard_by : WireLink
    heard_by = answers_go out

    last : WireLink
    last = all_heard heard_by (answers_out out)

    ticks : Happens mtu (Mark tick) v start
    ticks = record { sending = up.sending; after = refl }

    went : Went mtu start out
    went = went-all mtu most r.datagrams start out big short (record {
      run = ([], refl);
      sound = Sound-happens mtu (Mark tick) v start big s ticks;
      sending = up.sending;
      open' = up.open';
      between = up.between;
      submitted = refl;
      from = λ p h. inl h;
      queued = omega arith;
      least = omega arith;
    }) r.goes

    go : Reaches mtu out heard_by
    go = answers-reach mtu out.answers out refl

    heard : Heard mtu (answers_out out) heard_by last
    heard = heard-all mtu (answers_out out) heard_by big (Sound-runs mtu go.0 out heard_by big went.sound go.1) went.sending went.between (λ a h. Has-append_right out.acks (answers_out out) a h)

    run : Reaches mtu v last
    run = then-reaches mtu v start last (one-reaches mtu (Mark tick) v start ticks) (then-reaches mtu start out last went.run (then-reaches mtu out heard_by last go heard.run))

    old : (p : Sent) → Has last.outgoing.sent p → WaitsOn tick v.outgoing.sent p
    old p h =
        let there : Has out.outgoing.sent p = heard.sent p h in
        elim (went.from p there) [
          | inl before ↦ waits-on tick v.outgoing.sent p before
          | inr answers ↦ absurd (heard.none p h (Has-map (answer_of out.greatest) out.answers p.command.number answers))
        ]

    start_size : length start.outgoing.sent ≡ length v.outgoing.sent
    start_size = length-map v.outgoing.sent (marked tick)

    queued : length last.outgoing.queued ≤ length v.outgoing.queued
    queued = subst (λ (l : List DataCommand). length l ≤ length v.outgoing.queued) (sym heard.queued) went.queued

    queued_same : length last.outgoing.queued ≡ length out.outgoing.queued
    queued_same = ap (λ (l : List DataCommand). length l) heard.queued

    least : outstanding last ≤ outstanding v
    least = (let a = went.least in let b = heard.least in let c = queued_same in let d = start_size in omega arith)

    -- where nothing is in transit and nothing goes, nothing is outstanding
    spent : AreDue out.outgoing.sent → (out.outgoing.sent ≡ []) × (out.outgoing.queued ≡ [])
    spent due = (none-sent out.outgoing.sent refl, none-queued out.outgoing.queued refl)
      where
        o : Occasion
        o = r.spent.occasion

        transit : o.transit ≡ 0
        transit = r.spent.transit ∙ none-weighs bytes_of out.outgoing.sent due

        prices : o.prices ≡ 0
        prices = r.spent.prices ∙ none-weighs price_of out.outgoing.sent due

        room : (c : DataCommand) → IsEnoughFor o c → has_room o c ≡ true
        room c enough = room-for o c (let a = enough.most in let b = transit in omega arith) (let a = enough.dearest in let b = prices in omega arith)

        none-sent : (l : List Sent) → out.outgoing.sent ≡ l → out.outgoing.sent ≡ []
        none-sent [] e = e
        none-sent (p ∷ ps) e =
            let has : Has out.outgoing.sent p = subst (λ (l : List Sent). Has l p) (sym e) (inl refl) in
            let goes = first-due o out.outgoing p ps e (due p has) (room p.command (r.spent.sent p has)) in
            absurd (let f : None ≡ Some _ = sym r.spent.spent ∙ goes in cc)

        none-queued : (q : List DataCommand) → out.outgoing.queued ≡ q → out.outgoing.queued ≡ []
        none-queued [] e = e
        none-queued (c ∷ rest) e =
            let has : Has out.outgoing.queued c = subst (λ (l : List DataCommand). Has l c) (sym e) (inl refl) in
            let goes = head-due o out.outgoing c rest (none-sent out.outgoing.sent refl) e r.spent.free (room c (r.spent.queued c has)) in
            absurd (let f : None ≡ Some _ = sym r.spent.spent ∙ goes in cc)

    fewer : AreOver tick.now v.outgoing.sent → 0 < outstanding v → outstanding last < outstanding v
    fewer over some' = elim (due-or-not out.outgoing.sent) [
      | inl due ↦
          let none = spent due in
          let a : length out.outgoing.sent ≡ 0 = ap (λ (l : List Sent). length l) none.0 in
          let b : length out.outgoing.queued ≡ 0 = ap (λ (l : List DataCommand). length l) none.1 in
          let c = heard.least in
          let d = queued_same in
          omega arith
      | inr waits ↦ elim (went.from waits.0 waits.1) [
        | inl before ↦ absurd (let z : true ≡ false = sym (over-due tick v.outgoing.sent over waits.0 before) ∙ waits.2 in cc)
        | inr answers ↦
            let a = heard.fewer waits.0 waits.1 (Has-map (answer_of out.greatest) out.answers waits.0.command.number answers) in
            let b = went.least in
            let c = queued_same in
            let d = start_size in
            omega arith
      ]
    ]

    less : v.outgoing.sent ≡ [] → 0 < length v.outgoing.queued → length last.outgoing.queued < length v.outgoing.queued
    less none some' =
        let size : length v.outgoing.sent ≡ 0 = ap (λ (l : List Sent). length l) none in
        let l = fewer (λ p h. absurd (subst (λ (l : List Sent). Has l p) none h)) (omega arith) in
        omega arith

-- ---- rounds, one after another
record Since (mtu : ℕ) (v w : WireLink) : Type 0 where
  run : Reaches mtu v w
  up : IsUp w
  submitted : w.submitted ≡ v.submitted
  sent : (p : Sent) → Has w.outgoing.sent p → Has v.outgoing.sent p ⊎ (p.transmission.due ≡ true)
  least : outstanding w ≤ outstanding v

since-none : (mtu : ℕ) (v : WireLink) → IsUp v → Since mtu v v
since-none mtu v up = record { run = ([], refl); up = up; submitted = refl; sent = λ p h. inl h; least = omega arith }

-- what waits after a round waited before, or is due
waited : (tick : Tick) (sent : List Sent) (p : Sent) → WaitsOn tick sent p → Has sent p ⊎ (p.transmission.due ≡ true)
waited tick sent p (inl k) = inl k.0
waited tick sent p (inr k) = inr k.0

since-then : (mtu : ℕ) (tick : Tick) (v u w : WireLink) → Progresses mtu tick v u → Since mtu u w → Since mtu v w
since-then mtu tick v u w p rest = record {
  run = then-reaches mtu v u w (p.events, p.runs) rest.run;
  up = rest.up;
  submitted = rest.submitted ∙ p.submitted;
  sent = λ q h. elim (rest.sent q h) [ inl k ↦ waited tick v.outgoing.sent q (p.old q k) | inr due ↦ inr due ];
  least = (let a = p.least in let b = rest.least in omega arith);
}

since : (mtu most : ℕ) (moments : List Tick) (v w : WireLink) → 28 < mtu → Sound mtu v → IsUp v → AreShort most v.submitted → Rounds mtu most moments v w → Since mtu v w
since mtu most [] v w big s up short r = subst (λ z. Since mtu v z) (sym r) (since-none mtu v up)
since mtu most (tick ∷ moments) v w big s up short r =
    let u = r.0 in
    let p = progress mtu most tick v u big s up short r.1 in
    let rest = since mtu most moments u w big (Sound-runs mtu p.events v u big s p.runs) p.up (subst (λ qs. AreShort most qs) (sym p.submitted) short) r.2 in
    since-then mtu tick v u w p rest

split-rounds : (mtu most : ℕ) (a b : List Tick) (v w : WireLink) → Rounds mtu most (a ++ b) v w → (u : WireLink) × Rounds mtu most a v u × Rounds mtu most b u w
split-rounds mtu most [] b v w r = (v, refl, r)
split-rounds mtu most (tick ∷ a) b v w r = (let k = split-rounds mtu most a b r.0 w r.2 in (k.0, (r.0, r.1, k.1), k.2))

-- where all that waits is due or late, a round for each command that is outstanding takes all
record Empties (mtu : ℕ) (v w : WireLink) : Type 0 where
  since : Since mtu v w
  none : outstanding w ≡ 0

over-after : (mtu : ℕ) (tick : Tick) (v w : WireLink) → AreOver tick.now v.outgoing.sent → Progresses mtu tick v w → AreDue w.outgoing.sent
over-after mtu tick v w over p q h = elim (p.old q h) [
  | inr k ↦ k.0
  | inl k ↦ elim (over q k.0) [
    | inl e ↦ e
    | inr e ↦ absurd (let z : true ≡ false = sym e ∙ k.2 in cc)
  ]
]

abbrev first-now : List Tick → ℕ
first-now [] = 0
first-now (tick ∷ moments) = tick.now

empties : (mtu most : ℕ) (moments : List Tick) (v w : WireLink) → 28 < mtu → Sound mtu v → IsUp v → AreShort most v.submitted → AreOver (first-now moments) v.outgoing.sent → outstanding v ≤ length moments → Rounds mtu most moments v w → Empties mtu v w
empties mtu most [] v w big s up short over few r = subst (λ z. Empties mtu v z) (sym r) (record { since = since-none mtu v up; none = omega arith })
empties mtu most (tick ∷ moments) v w big s up short over few r =
    let u = r.0 in
    let p = progress mtu most tick v u big s up short r.1 in
    let due : AreDue u.outgoing.sent = over-after mtu tick v u over p in
    let rest = empties mtu most moments u w big (Sound-runs mtu p.events v u big s p.runs) p.up (subst (λ qs. AreShort most qs) (sym p.submitted) short) (λ q h. inl (due q h))
    (small (outstanding v) (outstanding u) (length moments) (p.fewer over) p.least few) r.2 in
    record { since = since-then mtu tick v u w p rest.since; none = rest.none }
  where
    small : (a b c : ℕ) → (0 < a → b < a) → b ≤ a → a ≤ suc c → b ≤ c
    small zero b c less same top = omega arith
    small (suc a) b c less same top = let l = less (omega arith) in omega arith

pub all-through : (mtu most : ℕ) (es : List Event) (v w : WireLink) (before after : List Tick) (tick : Tick) → 28 < mtu → Runs mtu es fresh_link v → IsUp v → AreShort most v.submitted
    → AreOver tick.now v.outgoing.sent → outstanding v ≤ length (tick ∷ after) → Rounds mtu most (before ++ tick ∷ after) v w → HasAllThrough mtu v w
all-through mtu most es v w before after tick big runs up short over few r =
    let s = Sound-runs mtu es fresh_link v big (Sound-fresh mtu) runs in
    let parts = split-rounds mtu most before (tick ∷ after) v w r in
    let u = parts.0 in
    let first = since mtu most before v u big s up short parts.1 in
    let su = Sound-runs mtu first.run.0 v u big s first.run.1 in
    let short_u = subst (λ qs. AreShort most qs) (sym first.submitted) short in
    let over_u : AreOver tick.now u.outgoing.sent = (λ q h. elim (first.sent q h) [ inl k ↦ over q k | inr due ↦ inl due ]) in
    let last = empties mtu most (tick ∷ after) u w big su first.up short_u over_u (let a = first.least in omega arith) parts.2 in
    let rest = last.since in
    let sw = Sound-runs mtu rest.run.0 u w big su rest.run.1 in
    let same : w.submitted ≡ v.submitted = rest.submitted ∙ first.submitted in
    let none = last.none in
    let none_queued : w.outgoing.queued ≡ [] = short-of w.outgoing.queued (omega arith) in
    let none_sent : w.outgoing.sent ≡ [] = short-of w.outgoing.sent (omega arith) in
    let all = dispatched-consumed (carried mtu w.submitted) (bodies_of w.incoming.dispatched) (Consumed-all mtu w sw rest.up.sending rest.up.open' (ap reliable_count none_queued) none_sent) in
    record {
      none = last.none;
      submitted = same;
      dispatched = subst (λ qs. AllDispatched (carried mtu qs) (bodies_of w.incoming.dispatched)) same all;
    }
