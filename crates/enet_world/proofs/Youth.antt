-- Which commands that were sent outlast the rounds until they are acknowledged, by ENet's patience. Times are in milliseconds; a round takes
-- `d` of them.
use Rattle.std.proofs.Common.{zero, suc, ◌≡◌, ℕ, ◌+◌, ◌-◌, ◌*◌, ◌%◌, ◌^◌, ◌<◌, ◌≤◌, ◌&&◌, ◌||◌, not, ltb, leb, min, Bool, true, false, cond, refl, sym, ap, subst, ◌∙◌, inl, inr, ◌⊎◌, arith}
use Rattle.std.proofs.lemmas.Bool.Decides.{nat_tests}
use Rattle.std.proofs.Math.Bool.{and-false}
use Rattle.enet_rtt.specs.Clock.{elapsed_time, since_later}
use Rattle.enet_rtt.specs.Transmission as transmission
use Rattle.enet_rtt.specs.Expiry.{gives_up, standard_patience}
use Rattle.enet_rtt.specs.declared.transmission.Transmission.{Transmission}
use Rattle.enet_peer.specs.Peering.{Peering}
use Rattle.enet_peer.specs.Calls.{tick_of}
use Rattle.law_progress.proofs.Timed.{lt-of}
use Rattle.enet_world.specs.Stands.{IsYoung}
use Rattle.enet_world.proofs.Punctual.{Rests, no-time}

-- ---- a clock
abbrev pub moment : ℕ → ℕ → ℕ
moment n d = (n + d) % 2 ^ 32

at-most : (n d x : ℕ) → elapsed_time (moment n d) x ≤ elapsed_time n x + d
at-most n d x = omega arith

exact : (n d x : ℕ) → x < 2 ^ 32 → elapsed_time n x + d < 2 ^ 32 → elapsed_time (moment n d) x ≡ elapsed_time n x + d
exact n d x low near = omega arith

lesser-at-most : (a b a' b' d : ℕ) → a' ≤ a + d → b' ≤ b + d → min a' b' ≤ min a b + d
lesser-at-most a b a' b' d h k = grind arith

later-at-most : (n d x y : ℕ) → since_later (moment n d) x y ≤ since_later n x y + d
later-at-most n d x y = lesser-at-most (elapsed_time n x) (elapsed_time n y) (elapsed_time (moment n d) x) (elapsed_time (moment n d) y) d (at-most n d x) (at-most n d y)

-- ---- a command that is `age` old now, and may get `most`
-- it has time until it has waited out its timeout and two rounds have gone by; or, where it is due to go again, two rounds
record HasTime (age most d n : ℕ) (t : Transmission) : Type 0 where
  last : t.last < 2 ^ 32
  waits : elapsed_time n t.last ≤ t.timeout
  brief : t.timeout < most
  near : age + t.timeout + 2 * d < most + elapsed_time n t.last

abbrev OldBy : (age most d n : ℕ) → Transmission → Type 0
OldBy age most d n t = ((t.due ≡ true) × (age + 2 * d < most)) ⊎ HasTime age most d n t

-- by the moment at which it is due to go again it has one round less
abbrev LaterBy : (age most d n : ℕ) → Transmission → Type 0
LaterBy age most d n t = ((t.due ≡ true) × (age + d < most)) ⊎ HasTime age most d n t

marked-by : (age later most d n : ℕ) (p : Peering) (t : Transmission) → later ≤ age + d → most ≤ 30000 → d < 30000 → OldBy age most d n t → LaterBy later most d (moment n d) (transmission.marked (tick_of p (moment n d)) t)
marked-by age later most d n p t goes high low o = by t.due refl (leb t.timeout (elapsed_time (moment n d) t.last)) refl o
  where
    m : ℕ
    m = moment n d

    grows : Transmission
    grows = record t { timeout = transmission.next_time (tick_of p m) t; due = true }

    same : transmission.is_late m t ≡ false → LaterBy later most d m t → LaterBy later most d m (transmission.marked (tick_of p m) t)
    same e r = subst (λ b. LaterBy later most d m (cond b grows t)) (sym e) r

    by : (due : Bool) → t.due ≡ due → (late : Bool) → leb t.timeout (elapsed_time m t.last) ≡ late → OldBy age most d n t → LaterBy later most d m (transmission.marked (tick_of p m) t)
    by true e late f (inl k) = same (ap (λ b. not b && leb t.timeout (elapsed_time m t.last)) e) (inl (e, (let z = k.1 in omega arith)))
    by true e late f (inr k) = same (ap (λ b. not b && leb t.timeout (elapsed_time m t.last)) e) (inl (e, (let z = k.near in let y = k.waits in omega arith)))
    by false e late f (inl k) = absurd (let z : true ≡ false = sym k.0 ∙ e in cc)
    by false e true f (inr k) = subst (λ b. LaterBy later most d m (cond b grows t)) (sym (λ i. not (e i) && f i)) (inl (refl, (let z = k.near in let y = k.waits in omega arith)))
    by false e false f (inr k) =
        let went : elapsed_time m t.last ≡ elapsed_time n t.last + d = exact n d t.last k.last (let z = k.waits in let y = k.brief in omega arith) in
        same (λ i. not (e i) && f i) (inr (record { last = k.last; waits = (let z = lt-of t.timeout (elapsed_time m t.last) f in omega arith); brief = k.brief; near = (let z = k.near in omega arith) }))

late-by : (age later most d n : ℕ) (t : Transmission) → later ≤ age + d → OldBy age most d n t → later < most
late-by age later most d n t goes (inl k) = (let z = k.1 in omega arith)
late-by age later most d n t goes (inr k) = (let z = k.near in let y = k.waits in omega arith)

stays-by : (age most d n : ℕ) (t : Transmission) → t.due ≡ false → LaterBy age most d n t → OldBy age most d n t
stays-by age most d n t e (inl k) = absurd (let z : true ≡ false = sym k.0 ∙ e in cc)
stays-by age most d n t e (inr k) = inr k

-- ---- a peer that was last heard at `heard`: since the later of that and its first send
-- less than 5 seconds have passed since then, but for what it has waited since it was last sent. Where the peer is heard since, its timeout
-- may be less the next time: so it and a round take at most 5 seconds
record HasMore (d n heard : ℕ) (t : Transmission) : Type 0 where
  last : t.last < 2 ^ 32
  waits : elapsed_time n t.last ≤ t.timeout
  brief : t.timeout < 30000
  near : since_later n t.first heard + d < 5000 + elapsed_time n t.last
  short : t.timeout + d ≤ 5000

abbrev IsNear : (d n heard : ℕ) → Transmission → Type 0
IsNear d n heard t = ((t.due ≡ true) × (since_later n t.first heard + d < 5000)) ⊎ HasMore d n heard t

-- a round later
abbrev IsNearer : (d n heard : ℕ) → Transmission → Type 0
IsNearer d n heard t = ((t.due ≡ true) × (since_later n t.first heard < 5000 + t.timeout)) ⊎ HasMore d n heard t

-- where it was heard since the last send, that was no earlier; else the timeout grows
not-past : (d n : ℕ) (p : Peering) (t : Transmission) → HasMore d n p.heard t → since_later (moment n d) t.first p.heard < 5000 + transmission.next_time (tick_of p (moment n d)) t
not-past d n p t k = by (transmission.is_heard_since (tick_of p m) t) refl
  where
    m : ℕ
    m = moment n d

    longer : (bound k : ℕ) → k ≤ transmission.grown_time bound k
    longer bound k = grind arith

    before : (i j : ℕ) → ltb i j ≡ true → i < j
    before i j e = grind (arith, nat_tests)

    lesser : (a b : ℕ) → min a b ≤ b
    lesser a b = grind arith

    by : (b : Bool) → transmission.is_heard_since (tick_of p m) t ≡ b → since_later m t.first p.heard < 5000 + cond b (transmission.answered_time (tick_of p m).present t.timeout) (transmission.grown_time (tick_of p m).bound t.timeout)
    by true e =
        let h : elapsed_time m p.heard < elapsed_time m t.last = before (elapsed_time m p.heard) (elapsed_time m t.last) e in
        let a : elapsed_time m t.last ≤ elapsed_time n t.last + d = at-most n d t.last in
        let w = k.waits in
        let s = k.short in
        let l : since_later m t.first p.heard ≤ elapsed_time m p.heard = lesser (elapsed_time m t.first) (elapsed_time m p.heard) in
        omega arith
    by false e =
        let g : t.timeout ≤ transmission.grown_time (tick_of p m).bound t.timeout = longer (tick_of p m).bound t.timeout in
        let z = k.near in
        let w = k.waits in
        let y : since_later m t.first p.heard ≤ since_later n t.first p.heard + d = later-at-most n d t.first p.heard in
        omega arith

near-marked : (d n : ℕ) (p : Peering) (t : Transmission) → d < 30000 → IsNear d n p.heard t → IsNearer d (moment n d) p.heard (transmission.marked (tick_of p (moment n d)) t)
near-marked d n p t low o = by t.due refl (leb t.timeout (elapsed_time (moment n d) t.last)) refl o
  where
    m : ℕ
    m = moment n d

    grows : Transmission
    grows = record t { timeout = transmission.next_time (tick_of p m) t; due = true }

    heard : ℕ
    heard = p.heard

    went : since_later m t.first heard ≤ since_later n t.first heard + d
    went = later-at-most n d t.first heard

    same : transmission.is_late m t ≡ false → IsNearer d m heard t → IsNearer d m heard (transmission.marked (tick_of p m) t)
    same e r = subst (λ b. IsNearer d m heard (cond b grows t)) (sym e) r

    by : (due : Bool) → t.due ≡ due → (late : Bool) → leb t.timeout (elapsed_time m t.last) ≡ late → IsNear d n heard t → IsNearer d m heard (transmission.marked (tick_of p m) t)
    by true e late f (inl k) = same (ap (λ b. not b && leb t.timeout (elapsed_time m t.last)) e) (inl (e, (let z = k.1 in let y = went in omega arith)))
    by true e late f (inr k) = same (ap (λ b. not b && leb t.timeout (elapsed_time m t.last)) e) (inl (e, (let z = k.near in let x = k.waits in let y = went in omega arith)))
    by false e late f (inl k) = absurd (let z : true ≡ false = sym k.0 ∙ e in cc)
    by false e true f (inr k) = subst (λ b. IsNearer d m heard (cond b grows t)) (sym (λ i. not (e i) && f i)) (inl (refl, not-past d n p t k))
    by false e false f (inr k) =
        let on : elapsed_time m t.last ≡ elapsed_time n t.last + d = exact n d t.last k.last (let z = k.waits in let y = k.brief in omega arith) in
        same (λ i. not (e i) && f i) (inr (record { last = k.last; waits = (let z = lt-of t.timeout (elapsed_time m t.last) f in omega arith); brief = k.brief; near = (let z = k.near in let y = went in omega arith); short = k.short }))

near-less : (d n heard since : ℕ) (t : Transmission) → since_later n t.first since ≤ since_later n t.first heard → IsNear d n heard t → IsNear d n since t
near-less d n heard since t h (inl k) = inl (k.0, (let z = k.1 in omega arith))
near-less d n heard since t h (inr k) = inr (record { last = k.last; waits = k.waits; brief = k.brief; near = (let z = k.near in omega arith); short = k.short })

nearer-less : (d n heard since : ℕ) (t : Transmission) → since_later n t.first since ≤ since_later n t.first heard → IsNearer d n heard t → IsNearer d n since t
nearer-less d n heard since t h (inl k) = inl (k.0, (let z = k.1 in omega arith))
nearer-less d n heard since t h (inr k) = inr (record { last = k.last; waits = k.waits; brief = k.brief; near = (let z = k.near in omega arith); short = k.short })

-- ---- by the patience
-- it was sent before
pub IsOld : (d n heard : ℕ) → Transmission → Type 0
IsOld d n heard t = ((t.attempts ≤ 4) ⊎ IsNear d n heard t) × OldBy (elapsed_time n t.first) 30000 d n t

-- and it is a round older
pub IsOlder : (d n heard : ℕ) → Transmission → Type 0
IsOlder d n heard t = ((t.attempts ≤ 4) ⊎ IsNearer d n heard t) × LaterBy (elapsed_time n t.first) 30000 d n t

-- it has a round yet
pub HasARound : (d n heard : ℕ) → Transmission → Type 0
HasARound d n heard t = ((t.attempts ≤ 5) ⊎ ((t.last ≡ n) × (n < 2 ^ 32) × (since_later n t.first heard < 5000 + t.timeout))) × (elapsed_time n t.first + d < 30000)

above : (i j : ℕ) → j < i → leb i j ≡ false
above i j h = grind (arith, nat_tests)

-- patience isn't over
few-tries : (a : ℕ) → a ≤ 5 → leb 32 (2 ^ (a - 1)) ≡ false
few-tries zero h = refl
few-tries (suc zero) h = refl
few-tries (suc (suc zero)) h = refl
few-tries (suc (suc (suc zero))) h = refl
few-tries (suc (suc (suc (suc zero)))) h = refl
few-tries (suc (suc (suc (suc (suc zero))))) h = refl
few-tries (suc (suc (suc (suc (suc (suc n)))))) h = absurd (omega arith)

lasts : (n heard : ℕ) (t : Transmission) → elapsed_time n t.first < 30000 → (t.attempts ≤ 5) ⊎ (since_later n t.first heard < elapsed_time n t.last + t.timeout + 5000) → gives_up standard_patience n heard t ≡ false
lasts n heard t low some = (λ i. above 30000 (elapsed_time n t.first) low i || second some i)
  where
    second : (t.attempts ≤ 5) ⊎ (since_later n t.first heard < elapsed_time n t.last + t.timeout + 5000) → (leb 32 (2 ^ (t.attempts - 1)) && leb (elapsed_time n t.last + t.timeout + 5000) (since_later n t.first heard)) ≡ false
    second (inl few) = ap (λ b. b && leb (elapsed_time n t.last + t.timeout + 5000) (since_later n t.first heard)) (few-tries t.attempts few)
    second (inr near) = ap (λ b. leb 32 (2 ^ (t.attempts - 1)) && b) (above (elapsed_time n t.last + t.timeout + 5000) (since_later n t.first heard) near) ∙ and-false (leb 32 (2 ^ (t.attempts - 1)))

pub old-lasts : (d n heard : ℕ) (t : Transmission) → d < 30000 → IsOld d n heard t → gives_up standard_patience (moment n d) heard t ≡ false
unfolding IsOld
old-lasts d n heard t low o = lasts (moment n d) heard t (late-by (elapsed_time n t.first) (elapsed_time (moment n d) t.first) 30000 d n t (at-most n d t.first) o.1) (by o.0)
  where
    went : since_later (moment n d) t.first heard ≤ since_later n t.first heard + d
    went = later-at-most n d t.first heard

    by : (t.attempts ≤ 4) ⊎ IsNear d n heard t → (t.attempts ≤ 5) ⊎ (since_later (moment n d) t.first heard < elapsed_time (moment n d) t.last + t.timeout + 5000)
    by (inl few) = inl (omega arith)
    by (inr (inl k)) = inr (let y = went in let z = k.1 in omega arith)
    by (inr (inr k)) = inr (let y = went in let z = k.near in let x = k.waits in omega arith)

pub round-lasts : (d n heard : ℕ) (t : Transmission) → d < 30000 → HasARound d n heard t → gives_up standard_patience (moment n d) heard t ≡ false
unfolding HasARound
round-lasts d n heard t low o = lasts (moment n d) heard t (let a = at-most n d t.first in let z = o.1 in omega arith) (by o.0)
  where
    by : (t.attempts ≤ 5) ⊎ ((t.last ≡ n) × (n < 2 ^ 32) × (since_later n t.first heard < 5000 + t.timeout)) → (t.attempts ≤ 5) ⊎ (since_later (moment n d) t.first heard < elapsed_time (moment n d) t.last + t.timeout + 5000)
    by (inl few) = inl few
    by (inr k) =
        let y = later-at-most n d t.first heard in
        let at : elapsed_time n n ≡ 0 = no-time n in
        let on : elapsed_time (moment n d) n ≡ elapsed_time n n + d = exact n d n k.1 (omega arith) in
        let is : elapsed_time (moment n d) t.last ≡ elapsed_time (moment n d) n = ap (elapsed_time (moment n d)) k.0 in
        inr (let z = k.2 in omega arith)

-- time comes
same-first : (p : Peering) (n : ℕ) (t : Transmission) → ((transmission.marked (tick_of p n) t).first ≡ t.first) × ((transmission.marked (tick_of p n) t).attempts ≡ t.attempts)
same-first p n t = by (transmission.is_late n t)
  where
    grows : Transmission
    grows = record t { timeout = transmission.next_time (tick_of p n) t; due = true }

    by : (b : Bool) → ((cond b grows t).first ≡ t.first) × ((cond b grows t).attempts ≡ t.attempts)
    by true = (refl, refl)
    by false = (refl, refl)

pub old-marked : (d n : ℕ) (p : Peering) (t : Transmission) → d < 30000 → IsOld d n p.heard t → IsOlder d (moment n d) p.heard (transmission.marked (tick_of p (moment n d)) t)
unfolding IsOld IsOlder
old-marked d n p t low o = (
  by o.0,
  subst (λ x. LaterBy (elapsed_time m x) 30000 d m u) (sym (same-first p m t).0) (marked-by (elapsed_time n t.first) (elapsed_time m t.first) 30000 d n p t (at-most n d t.first) (omega arith) low o.1),
)
  where
    m : ℕ
    m = moment n d

    u : Transmission
    u = transmission.marked (tick_of p m) t

    by : (t.attempts ≤ 4) ⊎ IsNear d n p.heard t → (u.attempts ≤ 4) ⊎ IsNearer d m p.heard u
    by (inl few) = inl (subst (λ a. a ≤ 4) (sym (same-first p m t).1) few)
    by (inr near) = inr (near-marked d n p t low near)

pub older-stays : (d n heard : ℕ) (t : Transmission) → t.due ≡ false → IsOlder d n heard t → IsOld d n heard t
unfolding IsOld IsOlder
older-stays d n heard t e o = (by o.0, stays-by (elapsed_time n t.first) 30000 d n t e o.1)
  where
    by : (t.attempts ≤ 4) ⊎ IsNearer d n heard t → (t.attempts ≤ 4) ⊎ IsNear d n heard t
    by (inl few) = inl few
    by (inr (inl k)) = absurd (let z : true ≡ false = sym k.0 ∙ e in cc)
    by (inr (inr k)) = inr (inr k)

-- the peer is heard
not-more : (n x heard : ℕ) → since_later n x n ≤ since_later n x heard
not-more n x heard = none (elapsed_time n x) (elapsed_time n n) (elapsed_time n heard) (no-time n)
  where
    none : (a b c : ℕ) → b ≡ 0 → min a b ≤ min a c
    none a b c e = grind arith

older-heard : (d n heard : ℕ) (t : Transmission) → IsOlder d n heard t → IsOlder d n n t
unfolding IsOlder
older-heard d n heard t o = (elim o.0 [ inl few ↦ inl few | inr near ↦ inr (nearer-less d n heard n t (not-more n t.first heard) near) ], o.1)

round-heard : (d n heard : ℕ) (t : Transmission) → HasARound d n heard t → HasARound d n n t
unfolding HasARound
round-heard d n heard t o = (elim o.0 [ inl few ↦ inl few | inr k ↦ inr (k.0, k.1, (let a = not-more n t.first heard in let z = k.2 in omega arith)) ], o.1)

old-heard : (d n heard : ℕ) (t : Transmission) → IsOld d n heard t → IsOld d n n t
unfolding IsOld
old-heard d n heard t o = (elim o.0 [ inl few ↦ inl few | inr near ↦ inr (near-less d n heard n t (not-more n t.first heard) near) ], o.1)

-- or not
pub old-since : (d n heard since : ℕ) (t : Transmission) → (since ≡ heard) ⊎ (since ≡ n) → IsOld d n heard t → IsOld d n since t
old-since d n heard since t (inl e) o = subst (λ h. IsOld d n h t) (sym e) o
old-since d n heard since t (inr e) o = subst (λ h. IsOld d n h t) (sym e) (old-heard d n heard t o)

pub older-since : (d n heard since : ℕ) (t : Transmission) → (since ≡ heard) ⊎ (since ≡ n) → IsOlder d n heard t → IsOlder d n since t
older-since d n heard since t (inl e) o = subst (λ h. IsOlder d n h t) (sym e) o
older-since d n heard since t (inr e) o = subst (λ h. IsOlder d n h t) (sym e) (older-heard d n heard t o)

pub round-since : (d n heard since : ℕ) (t : Transmission) → (since ≡ heard) ⊎ (since ≡ n) → HasARound d n heard t → HasARound d n since t
round-since d n heard since t (inl e) o = subst (λ h. HasARound d n h t) (sym e) o
round-since d n heard since t (inr e) o = subst (λ h. HasARound d n h t) (sym e) (round-heard d n heard t o)

-- it goes
pub begun-has : (d n heard wait : ℕ) → d < 30000 → HasARound d n heard (transmission.begun n wait)
unfolding HasARound
begun-has d n heard wait low = (inl (omega arith), (let z = no-time n in omega arith))

pub again-has : (d n heard : ℕ) (t : Transmission) → n < 2 ^ 32 → IsOlder d n heard t → HasARound d n heard (transmission.again n t)
unfolding IsOlder HasARound
again-has d n heard t below o = (tries o.0, by (elapsed_time n t.first) 30000 o.1)
  where
    more : (a : ℕ) → a ≤ 4 → transmission.next_attempts a ≤ 5
    more a h = grind arith

    tries : (t.attempts ≤ 4) ⊎ IsNearer d n heard t → (transmission.next_attempts t.attempts ≤ 5) ⊎ (◌≡◌ {A = ℕ} n n × (n < 2 ^ 32) × (since_later n t.first heard < 5000 + t.timeout))
    tries (inl few) = inl (more t.attempts few)
    tries (inr (inl k)) = inr (refl, below, k.1)
    tries (inr (inr k)) = inr (refl, below, (let z = k.near in let y = k.waits in omega arith))

    by : (age most : ℕ) → LaterBy age most d n t → age + d < most
    by age most (inl k) = k.1
    by age most (inr k) = (let z = k.near in let y = k.waits in omega arith)

-- ---- what is young
pub young-old : (d n heard : ℕ) (t : Transmission) → IsYoung d n heard t → Rests n t → IsOld d n heard t
unfolding IsOld
young-old d n heard t y r = (near y.0 r, by (elapsed_time n t.first) 30000 y.1 r)
  where
    by : (age most : ℕ) → age + t.timeout + 2 * d < most → Rests n t → OldBy age most d n t
    by age most h (inl due) = inl (due, omega arith)
    by age most h (inr k) = (let w = k.1 in inr (record { last = k.0; waits = k.1; brief = omega arith; near = omega arith }))

    near : (t.attempts ≤ 4) ⊎ ((since_later n t.first heard + d < 5000) × (t.timeout + d ≤ 5000)) → Rests n t → (t.attempts ≤ 4) ⊎ IsNear d n heard t
    near (inl few) k = inl few
    near (inr h) (inl due) = inr (inl (due, h.0))
    near (inr h) (inr k) = inr (inr (record { last = k.0; waits = k.1; brief = (let z = y.1 in omega arith); near = (let z = h.0 in omega arith); short = h.1 }))

-- ---- what waits on a channel, perhaps for room: patience lasts for so many milliseconds more
abbrev pub IsOldFor : (left n heard : ℕ) → Transmission → Type 0
IsOldFor left n heard t = ((t.attempts ≤ 4) ⊎ (since_later n t.first heard + left < 5000)) × (elapsed_time n t.first + left < 30000)

-- it was sent now, and has so many milliseconds, or went for the first time
abbrev pub HasRounds : (left n heard : ℕ) → Transmission → Type 0
HasRounds left n heard t = ((t.attempts ≤ 5) ⊎ ((t.last ≡ n) × (n < 2 ^ 32) × (since_later n t.first heard < 5000 + t.timeout))) × ((elapsed_time n t.first + left < 30000) ⊎ (t.first ≡ n))

-- patience isn't over a round later
pub old-for-lasts : (d left n heard : ℕ) (t : Transmission) → d ≤ left → d < 30000 → IsOldFor left n heard t → gives_up standard_patience (moment n d) heard t ≡ false
old-for-lasts d left n heard t some low o = lasts (moment n d) heard t (let a = at-most n d t.first in let z = o.1 in omega arith) (by o.0)
  where
    went : since_later (moment n d) t.first heard ≤ since_later n t.first heard + d
    went = later-at-most n d t.first heard

    by : (t.attempts ≤ 4) ⊎ (since_later n t.first heard + left < 5000) → (t.attempts ≤ 5) ⊎ (since_later (moment n d) t.first heard < elapsed_time (moment n d) t.last + t.timeout + 5000)
    by (inl few) = inl (omega arith)
    by (inr near) = inr (let y = went in omega arith)

rounds-round : (d left n heard : ℕ) (t : Transmission) → d ≤ left → d < 30000 → HasRounds left n heard t → HasARound d n heard t
unfolding HasARound
rounds-round d left n heard t some low o = (o.0, by o.1)
  where
    by : (elapsed_time n t.first + left < 30000) ⊎ (t.first ≡ n) → elapsed_time n t.first + d < 30000
    by (inl k) = omega arith
    by (inr first) = (let z : elapsed_time n t.first ≡ elapsed_time n n = ap (elapsed_time n) first in let y = no-time n in omega arith)

pub rounds-last : (d left n heard : ℕ) (t : Transmission) → d ≤ left → d < 30000 → HasRounds left n heard t → gives_up standard_patience (moment n d) heard t ≡ false
rounds-last d left n heard t some low o = round-lasts d n heard t low (rounds-round d left n heard t some low o)

-- time comes
pub old-for-marked : (d left n heard : ℕ) (p : Peering) (t : Transmission) → d ≤ left → IsOldFor left n heard t → IsOldFor (left - d) (moment n d) heard (transmission.marked (tick_of p (moment n d)) t)
old-for-marked d left n heard p t some o = (
  by o.0,
  subst (λ x. elapsed_time m x + (left - d) < 30000) (sym same.0) (let a = at-most n d t.first in let z = o.1 in omega arith),
)
  where
    m : ℕ
    m = moment n d

    same : ((transmission.marked (tick_of p m) t).first ≡ t.first) × ((transmission.marked (tick_of p m) t).attempts ≡ t.attempts)
    same = same-first p m t

    went : since_later m t.first heard ≤ since_later n t.first heard + d
    went = later-at-most n d t.first heard

    by : (t.attempts ≤ 4) ⊎ (since_later n t.first heard + left < 5000) → ((transmission.marked (tick_of p m) t).attempts ≤ 4) ⊎ (since_later m (transmission.marked (tick_of p m) t).first heard + (left - d) < 5000)
    by (inl few) = inl (subst (λ a. a ≤ 4) (sym same.1) few)
    by (inr near) = inr (subst (λ x. since_later m x heard + (left - d) < 5000) (sym same.0) (let y = went in omega arith))

-- the peer is heard, or not
pub old-for-since : (left n heard since : ℕ) (t : Transmission) → (since ≡ heard) ⊎ (since ≡ n) → IsOldFor left n heard t → IsOldFor left n since t
old-for-since left n heard since t (inl e) o = subst (λ h. IsOldFor left n h t) (sym e) o
old-for-since left n heard since t (inr e) o =
    subst (λ h. IsOldFor left n h t) (sym e) (elim o.0 [ inl few ↦ inl few | inr near ↦ inr (let a = not-more n t.first heard in omega arith) ], o.1)

pub rounds-since : (left n heard since : ℕ) (t : Transmission) → (since ≡ heard) ⊎ (since ≡ n) → HasRounds left n heard t → HasRounds left n since t
rounds-since left n heard since t (inl e) o = subst (λ h. HasRounds left n h t) (sym e) o
rounds-since left n heard since t (inr e) o =
    subst (λ h. HasRounds left n h t) (sym e) (elim o.0 [ inl few ↦ inl few | inr k ↦ inr (k.0, k.1, (let a = not-more n t.first heard in let z = k.2 in omega arith)) ], o.1)

-- it goes
pub begun-rounds : (left n heard wait : ℕ) → HasRounds left n heard (transmission.begun n wait)
begun-rounds left n heard wait = (inl (omega arith), inr refl)

pub again-rounds : (left n heard : ℕ) (t : Transmission) → n < 2 ^ 32 → IsOldFor left n heard t → HasRounds left n heard (transmission.again n t)
again-rounds left n heard t below o = (tries o.0, inl o.1)
  where
    more : (a : ℕ) → a ≤ 4 → transmission.next_attempts a ≤ 5
    more a h = grind arith

    tries : (t.attempts ≤ 4) ⊎ (since_later n t.first heard + left < 5000) → (transmission.next_attempts t.attempts ≤ 5) ⊎ (◌≡◌ {A = ℕ} n n × (n < 2 ^ 32) × (since_later n t.first heard < 5000 + t.timeout))
    tries (inl few) = inl (more t.attempts few)
    tries (inr near) = inr (refl, below, omega arith)
