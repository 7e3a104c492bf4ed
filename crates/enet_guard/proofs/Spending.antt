-- What a client has spent, datagram by datagram.
use Rattle.std.proofs.Common.{◌≡◌, ◌<◌, ◌≤◌, ℕ, ◌+◌, ◌*◌, ◌-◌, ◌^◌, min, Bool, true, false, ◌&&◌, ◌||◌, if◌then◌else◌, nat_lt, is_some, List, [], ◌∷◌, ◌++◌, length, Option, Some, None, slice_get, slice_set, refl, sym, ap, subst, ◌∙◌, arith, mul-add, mul_comm, mul-zero, mul-le-mul_left}
use Rattle.std.specs.Prelude.{sum_by}
use Rattle.std.specs.List.{All}
use Rattle.std.proofs.Math.Nat.{min-eq_left, sub_self}
use Rattle.std.proofs.lemmas.List.{get_or-set_same, length-set}
use Rattle.std.proofs.lemmas.List.Elements.{All-head, All-tail}
use Rattle.std.proofs.lemmas.List.Sums.{sum_by-cons}
use Rattle.std.proofs.lemmas.Option.{slice_get_within, slice_get_read}
use Rattle.enet_codec.specs.declared.address.Addr.{Addr}
use Rattle.enet_guard.specs.declared.guard.Rules.{Rules}
use Rattle.enet_guard.specs.declared.loads.Load.{Load}
use Rattle.enet_guard.specs.declared.share.Spent.{Spent}
use Rattle.enet_guard.specs.Guarding.{Guarding, payer, can_pay, charged, has_share, spent_now}
use Rattle.enet_guard.specs.Shares.{is_client, has_left, drained, with_more, spent_more}
use Rattle.enet_guard.specs.Allowing.{Stays, AllPass, IsLoad, KeepsPackets, KeepsBytes, time_of}

-- where a datagram passes, less counts still than two seconds allow, and it adds what it brings
abbrev Fits : ℕ → (Load → ℕ) → ℕ → List (ℕ × Load) → Type 0
Fits rate count spent [] = spent ≡ spent
Fits rate count spent (d ∷ ds) = (left : ℕ) × (spent ≤ left + rate * d.0) × (left < 2000 * rate) × Fits rate count (left + 1000 * count d.1) ds

last_so : (rate spent left ms time none : ℕ) → spent ≤ left + rate * ms → left < 2000 * rate → time ≡ ms + 0 → none ≡ 0 → spent + 1000 * none < rate * (time + 2000)
last_so rate spent left ms time none within less is nothing =
    let d = mul-add rate time 2000 in
    let c = mul_comm rate 2000 in
    let same : time ≡ ms = omega (arith, is) in
    let e : rate * time ≡ rate * ms = ap (λ (x : ℕ). rate * x) same in
    omega (arith, d, c, e, within, less, nothing)

more_so : (rate spent left ms time later count all rest : ℕ) → spent ≤ left + rate * ms → left + 1000 * count + 1000 * rest < rate * (later + 2000) → time ≡ ms + later
    → all ≡ count + rest → spent + 1000 * all < rate * (time + 2000)
more_so rate spent left ms time later count all rest within less is sum =
    let d = mul-add rate time 2000 in
    let f = mul-add rate later 2000 in
    let e : rate * time ≡ rate * ms + rate * later = ap (λ (x : ℕ). rate * x) is ∙ mul-add rate ms later in
    omega (arith, d, f, e, within, less, sum)

fits_few : (rate : ℕ) (count : Load → ℕ) (spent : ℕ) (ds : List (ℕ × Load)) (last : ℕ × Load) → Fits rate count spent (ds ++ last ∷ [])
    → spent + 1000 * sum_by (λ (d : ℕ × Load). count d.1) ds < rate * (time_of (ds ++ last ∷ []) + 2000)
fits_few rate count spent [] last fits = last_so rate spent fits.0 last.0 (time_of (last ∷ [])) 0 fits.1 fits.2 (sum_by-cons (λ (d : ℕ × Load). d.0) last []) refl
fits_few rate count spent (d ∷ ds) last fits =
    more_so rate spent fits.0 d.0 (time_of (d ∷ ds ++ last ∷ [])) (time_of (ds ++ last ∷ [])) (count d.1) (sum_by (λ (x : ℕ × Load). count x.1) (d ∷ ds))
    (sum_by (λ (x : ℕ × Load). count x.1) ds) fits.1 (fits_few rate count (fits.0 + 1000 * count d.1) ds last fits.3)
    (sum_by-cons (λ (x : ℕ × Load). x.0) d (ds ++ last ∷ [])) (sum_by-cons (λ (x : ℕ × Load). count x.1) d ds)

slack : (spent rate clock later at ms : ℕ) → later ≤ clock + ms → spent - rate * (clock - at) ≤ spent - rate * (later - at) + rate * ms
slack spent rate clock later at ms h =
    let less : later - at ≤ clock - at + ms = omega (arith, h) in
    let more = mul-le-mul_left rate less in
    let both = mul-add rate (clock - at) ms in
    omega (arith, more, both)

all_three : (x y z : Bool) → x ≡ true → y ≡ true → z ≡ true → (x && (y && z)) ≡ true
all_three x y z e f g = ap (λ (b : Bool). b && (y && z)) e ∙ (ap (λ (b : Bool). true && (b && z)) f ∙ ap (λ (b : Bool). true && (true && b)) g)

both_true : (x y : Bool) → (x && y) ≡ true → (x ≡ true) × (y ≡ true)
both_true true y e = (refl, e)
both_true false y e = absurd (let is : false ≡ true = e in cc)

-- the client pays
paid_by : (g : Guarding) (from : Addr) (slot : ℕ) (load : Load) (s : Spent) → has_share g.rules ≡ true → 1 ≤ load.packets → is_client (slice_get g.seats slot) from ≡ true
    → slice_get g.spent slot ≡ Some s → payer g from slot load ≡ Some s
paid_by g from slot load s share some client there =
    let brings : nat_lt 0 load.packets ≡ true = grind (arith, some) in
    ap (λ (b : Bool). if b then slice_get g.spent slot else None) (all_three (has_share g.rules) (nat_lt 0 load.packets) (is_client (slice_get g.seats slot) from) share brings client) ∙ there

put_there : (xs : List Spent) (i : ℕ) (x y : Spent) → slice_get xs i ≡ Some x → slice_get (slice_set xs i y) i ≡ Some y
put_there xs i x y there =
    let inside = slice_get_within xs i x there in
    slice_get_read (slice_set xs i y) (length xs) i y (sym (length-set xs i y)) inside (sym (get_or-set_same xs i y y inside))

-- packets, or bytes
record Kind (amount : Spent → ℕ) (count : Load → ℕ) (limit : Rules → Option ℕ) : Type 0 where
  share : (rules : Rules) (rate : ℕ) → limit rules ≡ Some rate → has_share rules ≡ true
  paid : (g : Guarding) (s : Spent) → can_pay g (Some s) ≡ true → has_left (drained (amount s) (limit g.rules) (g.clock - s.at)) (limit g.rules) ≡ true
  more : (g : Guarding) (s : Spent) (load : Load) → amount (spent_more (spent_now g s) load) ≡ with_more (drained (amount s) (limit g.rules) (g.clock - s.at)) (count load)
  small : (d : ℕ × Load) → IsLoad d → count d.1 ≤ 4096

some_is : {A : Type 0} (o : Option A) (x : A) → o ≡ Some x → is_some o ≡ true
some_is o x e = ap is_some e

or_true : (x : Bool) → (x || true) ≡ true
or_true true = refl
or_true false = refl

kind_packets : Kind (λ s. s.packets) (λ l. l.packets) (λ r. r.packets_of_client)
kind_packets = record {
  share = λ rules rate e. ap (λ (b : Bool). b || is_some rules.bytes_of_client) (some_is rules.packets_of_client rate e);
  paid = λ g s e. (both_true _ _ e).0;
  more = λ g s load. refl;
  small = λ d is. is.1;
}

kind_bytes : Kind (λ s. s.bytes) (λ l. l.bytes) (λ r. r.bytes_of_client)
kind_bytes = record {
  share = λ rules rate e. ap (λ (b : Bool). is_some rules.packets_of_client || b) (some_is rules.bytes_of_client rate e) ∙ or_true (is_some rules.packets_of_client);
  paid = λ g s e. (both_true _ _ e).1;
  more = λ g s load. refl;
  small = λ d is. is.2;
}

left_below : (spent rate ms : ℕ) (o : Option ℕ) → o ≡ Some rate → has_left (drained spent o ms) o ≡ true → spent - rate * ms < 2000 * rate
left_below spent rate ms o e h =
    let is : nat_lt (spent - rate * ms) (2000 * rate) ≡ true = subst (λ (x : Option ℕ). has_left (drained spent x ms) x ≡ true) e h in
    grind (arith, is)

added : (amount spent rate ms count clock : ℕ) (o : Option ℕ) → o ≡ Some rate → rate < 2 ^ 32 → count ≤ 4096 → spent - rate * ms < 2000 * rate
    → amount ≡ with_more (drained spent o ms) count → amount - rate * (clock - clock) ≡ spent - rate * ms + 1000 * count
added amount spent rate ms count clock o e few small less is =
    let z : rate * (clock - clock) ≡ 0 = ap (λ (x : ℕ). rate * x) (sub_self clock) ∙ mul-zero rate in
    let room : spent - rate * ms + 1000 * count ≤ 18446744073709551615 = omega (arith, few, small, less) in
    let now : amount ≡ min (spent - rate * ms + 1000 * count) 18446744073709551615 = is ∙ ap (λ (x : Option ℕ). with_more (drained spent x ms) count) e in
    let so : amount ≡ spent - rate * ms + 1000 * count = now ∙ min-eq_left room in
    omega (arith, z, so)

fits_so : (amount : Spent → ℕ) (count : Load → ℕ) (limit : Rules → Option ℕ) → Kind amount count limit → (from : Addr) (slot rate : ℕ) (ds : List (ℕ × Load)) (old new : Guarding) (s : Spent)
    → limit old.rules ≡ Some rate → rate < 2 ^ 32 → is_client (slice_get old.seats slot) from ≡ true → slice_get old.spent slot ≡ Some s → All IsLoad ds → AllPass from slot old ds new
    → Fits rate count (amount s - rate * (old.clock - s.at)) ds
fits_so amount count limit k from slot rate [] old new s limited few client there loads pass = refl
fits_so amount count limit k from slot rate (d ∷ ds) old new s limited few client there loads pass =
    let g : Guarding = pass.0 in
    let stays : Stays slot d.0 old g = pass.1 in
    let is : IsLoad d = All-head IsLoad d ds loads in
    let limited_1 : limit g.rules ≡ Some rate = ap limit stays.rules_are ∙ limited in
    let client_1 : is_client (slice_get g.seats slot) from ≡ true = ap (λ o. is_client o from) stays.seat_is ∙ client in
    let there_1 : slice_get g.spent slot ≡ Some s = stays.spent_is ∙ there in
    let pays : payer g from slot d.1 ≡ Some s = paid_by g from slot d.1 s (k.share g.rules rate limited_1) is.0 client_1 there_1 in
    let can : can_pay g (Some s) ≡ true = subst (λ o. can_pay g o ≡ true) pays pass.2 in
    let rest : AllPass from slot (charged g slot d.1 (Some s)) ds new = subst (λ o. AllPass from slot (charged g slot d.1 o) ds new) pays pass.3 in
    let less = left_below (amount s) rate (g.clock - s.at) (limit g.rules) limited_1 (k.paid g s can) in
    let s_1 : Spent = spent_more (spent_now g s) d.1 in
    let now = added (amount s_1) (amount s) rate (g.clock - s.at) (count d.1) g.clock (limit g.rules) limited_1 few (k.small d is) less (k.more g s d.1) in (
      amount s - rate * (g.clock - s.at),
      slack (amount s) rate old.clock g.clock s.at d.0 stays.clock_is,
      less,
      subst (λ (n : ℕ). Fits rate count n ds) now
          (fits_so amount count limit k from slot rate ds (charged g slot d.1 (Some s)) new s_1 limited_1 few client_1 (put_there g.spent slot s s_1 there_1) (All-tail IsLoad d ds loads) rest),
    )

some_less : (spent most limit : ℕ) → spent + most < limit → most < limit
some_less spent most limit h = omega (arith, h)

pub packets_kept : KeepsPackets
packets_kept from slot rate ds last old new limited few p =
    some_less _ _ _ (fits_few rate (λ l. l.packets) _ ds last (fits_so _ _ _ kind_packets from slot rate (ds ++ last ∷ []) old new p.spent limited few p.client p.seated p.loads p.pass))

pub bytes_kept : KeepsBytes
bytes_kept from slot rate ds last old new limited few p =
    some_less _ _ _ (fits_few rate (λ l. l.bytes) _ ds last (fits_so _ _ _ kind_bytes from slot rate (ds ++ last ∷ []) old new p.spent limited few p.client p.seated p.loads p.pass))
