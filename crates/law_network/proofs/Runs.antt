-- Whatever happens in a world of two hosts, the law of one connection holds of each connection.
use Rattle.std.proofs.Common.{◌≡◌, ◌<◌, ◌≤◌, ℕ, zero, suc, ◌+◌, ◌⊎◌, inl, inr, ◌&&◌, ◌==◌, Bool, true, false, min, List, [], ◌∷◌, ◌++◌, replicate, refl, sym, ap, subst, ◌∙◌, arith, Option, Some, None, Result, Ok, Err, slice_get}
use Rattle.std.proofs.lemmas.Bool.Decides.{nat_tests}
use Rattle.enet_codec.specs.declared.address.Addr.{Addr}
use Rattle.enet_codec.specs.declared.config.Config.{Config}
use Rattle.enet_codec.specs.declared.refusal.Refusal.{Refusal}
use Rattle.enet_codec.specs.Config.{is_in_range}
use Rattle.enet_peer.specs.declared.parts.PeerState.TheVariants as state
use Rattle.enet_peer.specs.Peering.{joined}
use Rattle.law_connection.specs.Connection.{End}
use Rattle.law_connection.specs.Steps.{with_peer, no_end, asking_pair}
use Rattle.law_unsequenced.specs.Law.{EachSubmitted}
use Rattle.law_unsequenced.proofs.Laws.{lawful, each-submitted, asking-kept, joined-kept}
use Rattle.law_connection.proofs.Runs.{reached-none}
use Rattle.law_connection.proofs.Words.{word-none, word-asking, word-joined}
use Rattle.law_connection.specs.LinkSteps.{Has}
use Rattle.enet_slot.specs.Giving.{limits_of, unused_slot, joined_terms, given}
use Rattle.enet_slot.specs.Slot.{SlotState, greatest}
use Rattle.enet_host.specs.Serving.{served_of}
use Rattle.law_network.specs.Calls as call
use Rattle.law_network.proofs.Lists.{get-set}
use Rattle.law_network.specs.declared.event.Answer.{Answer}
use Rattle.law_network.specs.declared.event.Side.{Side}
use Rattle.law_network.specs.declared.event.WorldEvent.{WorldEvent}
use Rattle.law_network.specs.declared.event.Side.TheVariants.{A, B}
use Rattle.law_network.specs.Law.{time_drawn, LawfulEither, AreLawful, OfEachRun, OfEachJoinedRun, OfEachList, OfEachJoinedList}
use Rattle.law_network.specs.Log.{Logged, ChannelPackets as KeptOf, no_packets, fresh_channels, joined_greatest, packets_at, greatest_at}
use Rattle.law_network.specs.Network.{HostEnd, Site, fresh_end}
use Rattle.law_network.specs.Shown.{Shows}
use Rattle.law_network.specs.Steps.{Around, Happening, Calls, Delivers, Logs, LogsIf, BringsOne, HappensAmong, beside, Happens, count_after}
use Rattle.law_network.specs.World.{World, other, address_of, HappensAt, AllHappen, side_of, Steps, Runs, open_world, joined_config, joined_end, joined_site, joined_world}
use Rattle.law_network.proofs.Beginnings.{asked}
use Rattle.law_network.proofs.Peers.{shows-held}
use Rattle.law_network.proofs.Running.{runs-keep}
use Rattle.law_network.proofs.Submitting.{same-some}
use Rattle.law_network.proofs.Worlds.{KeptEither, Pair, IsHost, AreShown, ComesOf, IsJoined, swapped, pair-goes, shown-end, host-goes, nothing-of, count-grows}
use Rattle.law_network.proofs.Once.{AreAt, IsOfSender, at-goes, begins-once}
use Rattle.law_network.proofs.Owned.{AreOwned, owned-goes, none-held, one-held}

-- which connections stand from the start is told by j
pub record Sound (j : ℕ → Bool) (w : World) : Type 0 where
  pub a : IsHost w.a w.count
  pub b : IsHost w.b w.count
  pub at_a : w.a.address ≡ address_of A
  pub at_b : w.b.address ≡ address_of B
  pub far_a : AreAt (λ x. address_of B) w.a
  pub far_b : AreAt (λ x. address_of A) w.b
  pub owned_a : AreOwned (λ x. true) w.a
  pub owned_b : AreOwned (λ x. true) w.b
  pub pairs : (x : ℕ) → x < w.count → Pair (j x) w.a w.b x
  pub later : (x : ℕ) → w.count ≤ x → j x ≡ false

pub wider : (s : Site) (n m : ℕ) → n ≤ m → IsHost s n → IsHost s m
wider s n m low k = record { few = k.few; apart = k.apart; below = λ e h. (let b : e.connection < n = k.below e h in omega arith); logged = k.logged; named = k.named }

-- a connection that a user asks for
pub new-pair : (w : Around) (from old new : Site) (what : Happening) (x : ℕ) → HappensAmong w from what old new → IsHost old w.count → IsHost from w.count → w.count ≤ x → x < count_after w.count what → Pair false new from x
new-pair w from old new (Calls (call.Connect address channels info word (Ok name))) x happens k ko least most =
    let y = asked w from old new address channels info word name happens (nothing-of old w.count w.count k (λ e h of. let low : e.connection < w.count = k.below e h in let same : e.connection ≡ w.count = of in omega arith)) in
    subst (Pair false new from) (let few : x < w.count + 1 = most in let same : w.count ≡ x = omega arith in same) (record {
      one = (asking_pair old.host.clock (time_drawn old.host.config name) y.0 (limits_of old.host.config)).one;
      two = no_end;
      here = inl (fresh_end w.count name, y.2, refl, y.3);
      there = inr ((λ e h of. let low : e.connection < w.count = ko.below e h in let same : e.connection ≡ w.count = of in omega arith), refl);
      kept = inl (asking-kept old.host.clock (time_drawn old.host.config name) y.0 (limits_of old.host.config));
      word = y.0.connect_id;
      one_word = word-asking old.host.clock (time_drawn old.host.config name) y.0 (limits_of old.host.config);
      two_word = word-none y.0.connect_id;
    })
new-pair w from old new (Calls c) x happens k ko least most = absurd (let few : x < w.count = most in omega arith)
new-pair w from old new (Delivers i answer) x happens k ko least most = absurd (let few : x < w.count = most in omega arith)

-- no host moves
pub stays-put : (w : Around) (from old new : Site) (what : Happening) → HappensAmong w from what old new → new.address ≡ old.address
stays-put w from old new (Calls (call.Connect address channels info word answer)) x = ap (λ (s : Site). s.address) x.1.1
stays-put w from old new (Calls (call.Receive address bytes answer)) x = ap (λ (s : Site). s.address) x.1.1
stays-put w from old new (Calls (call.Service None buf)) x = ap (λ (s : Site). s.address) x.1
stays-put w from old new (Calls (call.Service (Some gave) buf)) x = served (w.is_host gave.1) x.1
  where
    served : (b : Bool) → LogsIf b w.numbers (served_of gave buf) old new → new.address ≡ old.address
    served true y = (let l : Logs w.numbers (served_of gave buf) old new = y in ap (λ (s : Site). s.address) l.rest)
    served false y = (let rest : new ≡ record old { host = new.host } = y in ap (λ (s : Site). s.address) rest)
stays-put w from old new (Calls c) x = ap (λ (s : Site). s.address) x.1
stays-put w from old new (Delivers k answer) x = by (slice_get from.log k) x
  where
    by : (found : Option Logged) → BringsOne from found answer old new → new.address ≡ old.address
    by None y = absurd y
    by (Some d) y = ap (λ (s : Site). s.address) y.1.1

pub less-or-not : (a b : ℕ) → (a < b) ⊎ (b ≤ a)
less-or-not a b = grind arith

-- one side of two goes on

comes-same : (s : Site) (what : Happening) (x : ℕ) → ComesOf s what s x
comes-same s (Delivers k answer) x = λ d is of. refl
comes-same s (Calls c) x = tt

joins : (next : ℕ) (other : Site) (what : Happening) (s : Site) (x : ℕ) → IsJoined (beside next other) other what s other x
joins next other what s x = record {
  numbers = refl;
  strangers = λ e h of address never. absurd (let z : true ≡ false = never in cc);
  sender = inl refl;
  comes = comes-same other what x;
}

goes : (j : ℕ → Bool) (next : ℕ) (other old new : Site) (what : Happening) → Happens next other what old new → IsHost old next → IsHost other next → ((x : ℕ) → x < next → Pair (j x) old other x) → ((x : ℕ) → next ≤ x → j x ≡ false)
    → (x : ℕ) → x < count_after next what → Pair (j x) new other x
goes j next other old new what happens k ko pairs later x low = elim (less-or-not x next) [
  | inl before ↦ pair-goes (j x) (beside next other) other old new what other x happens k ko ko.named (joins next other what old x) before (pairs x before)
  | inr after ↦ subst (λ (t : Bool). Pair t new other x) (sym (later x after)) (new-pair (beside next other) other old new what x happens k ko after low)
]

shown-all : (j : ℕ → Bool) (next : ℕ) (other s : Site) → IsHost s next → ((x : ℕ) → x < next → Pair (j x) s other x) → AreShown s
shown-all j next other s k pairs e h = (let p = pairs e.connection (k.below e h) in (p.one, shown-end (j e.connection) s other next e k h p))

of-sender : (j : ℕ → Bool) (next : ℕ) (place : Addr) (other s : Site) (what : Happening) → IsHost s next → other.address ≡ place → ((x : ℕ) → x < next → Pair (j x) s other x) → IsOfSender j (λ x. place) other s what
of-sender j next place other s (Calls c) k at pairs = tt
of-sender j next place other s (Delivers i answer) k at pairs = λ d sent e h same. (pairs e.connection (k.below e h), sym at)

-- all that holds of the side where something happens
record Gone (j : ℕ → Bool) (place : Addr) (next : ℕ) (other new : Site) (what : Happening) : Type 0 where
  host : IsHost new (count_after next what)
  far : AreAt (λ x. place) new
  owned : AreOwned (λ x. true) new
  pairs : (x : ℕ) → x < count_after next what → Pair (j x) new other x

side-goes : (j : ℕ → Bool) (place : Addr) (next : ℕ) (other old new : Site) (what : Happening) → Happens next other what old new → IsHost old next → IsHost other next → other.address ≡ place → AreAt (λ x. place) old → AreOwned (λ x. true) old
    → ((x : ℕ) → x < next → Pair (j x) old other x) → ((x : ℕ) → next ≤ x → j x ≡ false) → Gone j place next other new what
side-goes j place next other old new what happens k ko at far owned pairs later =
    let shown : AreShown old = shown-all j next other old k pairs in
    record {
      host = host-goes (beside next other) other old new what happens k ko (begins-once j (λ x. place) (beside next other) other old new what happens k ko (of-sender j next place other old what k at pairs) far) shown;
      far = at-goes (λ x. place) (beside next other) other old new what happens k shown (λ f h. sym at) far;
      owned = owned-goes (beside next other) other old new what happens owned;
      pairs = goes j next other old new what happens k ko pairs later;
    }

sound-goes : (j : ℕ → Bool) (side : Side) (what : Happening) (w v : World) → HappensAt side what w v → Sound j w → Sound j v
sound-goes j A what w v h k =
    let gone : Gone j (address_of B) w.count w.b v.a what = side-goes j (address_of B) w.count w.b w.a v.a what h.here k.a k.b k.at_b k.far_a k.owned_a k.pairs k.later in
    let count : count_after w.count what ≡ v.count = sym h.count in
    let up : w.count ≤ v.count = (let g : w.count ≤ count_after w.count what = count-grows w.count what in let c : v.count ≡ count_after w.count what = h.count in omega arith) in
    record {
      a = subst (IsHost v.a) count gone.host;
      b = subst (λ (s : Site). IsHost s v.count) (sym h.there) (wider w.b w.count v.count up k.b);
      at_a = stays-put (beside w.count w.b) w.b w.a v.a what h.here ∙ k.at_a;
      at_b = ap (λ (s : Site). s.address) h.there ∙ k.at_b;
      far_a = gone.far;
      far_b = subst (AreAt (λ x. address_of A)) (sym h.there) k.far_b;
      owned_a = gone.owned;
      owned_b = subst (AreOwned (λ x. true)) (sym h.there) k.owned_b;
      pairs = λ x low. subst (λ (s : Site). Pair (j x) v.a s x) (sym h.there) (gone.pairs x (let c : v.count ≡ count_after w.count what = h.count in omega arith));
      later = λ x least. k.later x (let u : w.count ≤ v.count = up in omega arith);
    }
sound-goes j B what w v h k =
    let back : (x : ℕ) → x < w.count → Pair (j x) w.b w.a x = (λ x low. swapped (j x) w.a w.b x (k.pairs x low)) in
    let gone : Gone j (address_of A) w.count w.a v.b what = side-goes j (address_of A) w.count w.a w.b v.b what h.here k.b k.a k.at_a k.far_b k.owned_b back k.later in
    let count : count_after w.count what ≡ v.count = sym h.count in
    let up : w.count ≤ v.count = (let g : w.count ≤ count_after w.count what = count-grows w.count what in let c : v.count ≡ count_after w.count what = h.count in omega arith) in
    record {
      a = subst (λ (s : Site). IsHost s v.count) (sym h.there) (wider w.a w.count v.count up k.a);
      b = subst (IsHost v.b) count gone.host;
      at_a = ap (λ (s : Site). s.address) h.there ∙ k.at_a;
      at_b = stays-put (beside w.count w.a) w.a w.b v.b what h.here ∙ k.at_b;
      far_a = subst (AreAt (λ x. address_of B)) (sym h.there) k.far_a;
      far_b = gone.far;
      owned_a = subst (AreOwned (λ x. true)) (sym h.there) k.owned_a;
      owned_b = gone.owned;
      pairs = λ x low. subst (λ (s : Site). Pair (j x) s v.b x) (sym h.there) (swapped (j x) v.b w.a x (gone.pairs x (let c : v.count ≡ count_after w.count what = h.count in omega arith)));
      later = λ x least. k.later x (let u : w.count ≤ v.count = up in omega arith);
    }

sound-happens : (j : ℕ → Bool) (es : List (Side × Happening)) (w v : World) → AllHappen es w v → Sound j w → Sound j v
sound-happens j [] w v r k = subst (Sound j) r k
sound-happens j (e ∷ es) w v r k = sound-happens j es r.0 v r.2 (sound-goes j e.0 e.1 w r.0 r.1 k)

sound-step : (j : ℕ → Bool) (w v : World) (e : WorldEvent) (a : Result Answer Refusal) → Steps w e a v → Sound j w → Sound j v
sound-step j w v e (Ok a) r k = sound-goes j (side_of e) r.0 w v r.2 k
sound-step j w v e (Err why) r k = subst (Sound j) (sym r.1) k

sound-runs : (j : ℕ → Bool) (events : List WorldEvent) (answers : List (Result Answer Refusal)) (w v : World) → Runs w events answers v → Sound j w → Sound j v
sound-runs j events answers w v r k = runs-keep Steps (Sound j) (sound-step j) events answers w v r k

-- at first

pub few-of : (c : Config) → is_in_range c ≡ true → c.generations ≤ greatest
few-of c h = grind (arith, nat_tests)

pub both : (a b : Bool) → (a && b) ≡ true → (a ≡ true) × (b ≡ true)
both true true h = (refl, refl)
both true false h = absurd (cc)
both false b h = absurd (cc)

pub none-at : (place : ℕ → Addr) (s : Site) → s.ends ≡ [] → AreAt place s
none-at place s none e h p x = absurd (subst (λ (l : List HostEnd). Has l e) none h)

open-sound : (a b : Config) → (is_in_range a && is_in_range b) ≡ true → Sound (λ x. false) (open_world a b)
open-sound a b h =
    let r = both (is_in_range a) (is_in_range b) h in
    record {
      a = record { few = few-of a r.0; apart = λ e i. absurd i; below = λ e i. absurd i; logged = λ d i. absurd i; named = λ d i. absurd i };
      b = record { few = few-of b r.1; apart = λ e i. absurd i; below = λ e i. absurd i; logged = λ d i. absurd i; named = λ d i. absurd i };
      at_a = refl;
      at_b = refl;
      far_a = none-at (λ x. address_of B) (open_world a b).a refl;
      far_b = none-at (λ x. address_of A) (open_world a b).b refl;
      owned_a = λ i t p there has at. absurd (none-held a.peers i t p there has);
      owned_b = λ i t p there has at. absurd (none-held b.peers i t p there has);
      pairs = λ x low. absurd (let z : x < 0 = low in omega arith);
      later = λ x least. refl;
    }

-- connection 0 from the start

first-slot : (n : ℕ) → 0 < n → slice_get (replicate n unused_slot) 0 ≡ Some unused_slot
first-slot zero low = absurd (omega arith)
first-slot (suc n) low = refl

first-number : (n i last : ℕ) → i < n → greatest_at (replicate n 0 ++ last ∷ []) i ≡ 0
first-number zero i last h = absurd (omega arith)
first-number (suc n) zero last h = refl
first-number (suc n) (suc i) last h = first-number n i last (omega arith)

first-kept : (n i : ℕ) → packets_at (replicate n no_packets) i ≡ no_packets
first-kept zero i = refl
first-kept (suc n) zero = refl
first-kept (suc n) (suc i) = first-kept n i

joined-shows : (side : Side) (c : Config) → 0 < c.peers → Shows (joined_site side c) joined_end (with_peer no_end (joined c.clock (joined_terms c) (limits_of c)))
unfolding fresh_channels joined_greatest
joined-shows side c some = record {
  peer = joined c.clock (joined_terms c) (limits_of c);
  has = refl;
  shows = shows-held (joined_site side c).host joined_end.name (joined c.clock (joined_terms c) (limits_of c)) (λ e. absurd (let y : state.Connected ≡ state.Free = e in cc)) (record {
    slot = given unused_slot (address_of (other side)) (joined c.clock (joined_terms c) (limits_of c));
    there = get-set (replicate c.peers unused_slot) 0 unused_slot (given unused_slot (address_of (other side)) (joined c.clock (joined_terms c) (limits_of c))) (first-slot c.peers some);
    same = refl;
    peer = refl;
  });
  long = refl;
  numbers = refl;
  log = λ k d h of. absurd (let e : None ≡ Some d = h in cc);
  greatest = λ channel low. first-number 255 channel 1 low ∙ sym (reached-none channel 0);
  submitted = λ channel low. ap (λ (k : KeptOf). k.submitted) (first-kept 256 channel);
  mtu = inl refl;
  taken = λ channel low. ap (λ (k : KeptOf). k.taken) (first-kept 256 channel);
  events = refl;
}

joined-host : (side : Side) (c : Config) → c.generations ≤ greatest → IsHost (joined_site side c) 1
joined-host side c few = record {
  few = few;
  apart = λ e h f i same. only e f h i;
  below = λ e h. first e h;
  logged = λ d i. absurd i;
  named = λ d i. absurd i;
}
  where
    only : (e f : HostEnd) → (joined_end ≡ e) ⊎ ⊥ → (joined_end ≡ f) ⊎ ⊥ → f ≡ e
    only e f (inl a) (inl b) = sym b ∙ a
    only e f (inl a) (inr b) = absurd b
    only e f (inr a) b = absurd a

    first : (e : HostEnd) → (joined_end ≡ e) ⊎ ⊥ → e.connection < 1
    first e (inl a) = (let z : e.connection ≡ 0 = ap (λ (x : HostEnd). x.connection) (sym a) in omega arith)
    first e (inr a) = absurd a

joined-at : (side : Side) (c : Config) → 0 < c.peers → AreAt (λ x. address_of (other side)) (joined_site side c)
joined-at side c some e (inl is) p x =
    let s : SlotState = given unused_slot (address_of (other side)) (joined c.clock (joined_terms c) (limits_of c)) in
    let there : slice_get (joined_site side c).host.slots e.name.slot ≡ Some s =
    subst (λ (f : HostEnd). slice_get (joined_site side c).host.slots f.name.slot ≡ Some s) is (get-set (replicate c.peers unused_slot) 0 unused_slot s (first-slot c.peers some)) in
    ap (λ (y : SlotState). y.address) (same-some x.slot s (sym x.there ∙ there))
joined-at side c some e (inr is) p x = absurd is

joined-owned : (side : Side) (c : Config) → AreOwned (λ x. true) (joined_site side c)
joined-owned side c i t p there has at = (joined_end, inl refl, one-held c.peers i (given unused_slot (address_of (other side)) (joined c.clock (joined_terms c) (limits_of c))) t p there has)

in-range : (c : Config) → is_in_range c ≡ true → (576 ≤ c.mtu) × (c.channels ≤ 255) × (0 < c.peers)
in-range c h = (grind (arith, nat_tests), grind (arith, nat_tests), grind (arith, nat_tests))

joined-sound : (a b : Config) → (is_in_range a && is_in_range b) ≡ true → Sound (λ x. x == 0) (joined_world a b)
joined-sound a b h = record {
  a = joined-host A (joined_config a b) (few-of a r.0);
  b = joined-host B (joined_config b a) (few-of b r.1);
  at_a = refl;
  at_b = refl;
  far_a = joined-at A (joined_config a b) ra.2;
  far_b = joined-at B (joined_config b a) rb.2;
  owned_a = joined-owned A (joined_config a b);
  owned_b = joined-owned B (joined_config b a);
  pairs = λ x low. at x low;
  later = λ x least. (let l : 1 ≤ x = least in let t : (x == 0) ≡ false = grind (arith, nat_tests) in t);
}
  where
    r : (is_in_range a ≡ true) × (is_in_range b ≡ true)
    r = both (is_in_range a) (is_in_range b) h

    ra : (576 ≤ a.mtu) × (a.channels ≤ 255) × (0 < a.peers)
    ra = in-range a r.0

    rb : (576 ≤ b.mtu) × (b.channels ≤ 255) × (0 < b.peers)
    rb = in-range b r.1

    first : Pair true (joined_world a b).a (joined_world a b).b 0
    first = record {
      one = with_peer no_end (joined a.clock (joined_terms (joined_config a b)) (limits_of (joined_config a b)));
      two = with_peer no_end (joined b.clock (joined_terms (joined_config b a)) (limits_of (joined_config b a)));
      here = inl (joined_end, inl refl, refl, joined-shows A (joined_config a b) ra.2);
      there = inl (joined_end, inl refl, refl, joined-shows B (joined_config b a) rb.2);
      kept = inl (joined-kept a.clock b.clock (joined_terms (joined_config a b)) (joined_terms (joined_config b a)) (limits_of (joined_config a b)) (limits_of (joined_config b a)) big-a big-b few-a few-b);
      word = 0;
      one_word = word-joined a.clock (joined_terms (joined_config a b)) (limits_of (joined_config a b));
      two_word = word-joined b.clock (joined_terms (joined_config b a)) (limits_of (joined_config b a));
    }
      where
        big-a : 28 < min a.mtu b.mtu
        big-a = let x : 576 ≤ a.mtu = ra.0 in let y : 576 ≤ b.mtu = rb.0 in omega arith

        big-b : 28 < min b.mtu a.mtu
        big-b = let x : 576 ≤ a.mtu = ra.0 in let y : 576 ≤ b.mtu = rb.0 in omega arith

        few-a : min a.channels b.channels ≤ 255
        few-a = let x : a.channels ≤ 255 = ra.1 in omega arith

        few-b : min b.channels a.channels ≤ 255
        few-b = let x : b.channels ≤ 255 = rb.1 in omega arith

    at : (x : ℕ) → x < 1 → Pair (x == 0) (joined_world a b).a (joined_world a b).b x
    at x low =
        let e : 0 ≡ x = (let l : x < 1 = low in omega arith) in
        let t : true ≡ (x == 0) = sym (let z : 0 ≡ x = e in let t : (x == 0) ≡ true = grind (arith, nat_tests) in t) in
        subst (λ (b' : Bool). Pair b' (joined_world a b).a (joined_world a b).b x) t (subst (λ (n : ℕ). Pair true (joined_world a b).a (joined_world a b).b n) e first)

pub lawful-either : (j : Bool) (one two : End) → KeptEither j one two → LawfulEither j one two
lawful-either j one two (inl k) = inl (lawful j (record { one = one; two = two }) k)
lawful-either j one two (inr k) = inr (lawful j (record { one = two; two = one }) k)

pub submitted-either : (j : Bool) (one two : End) → KeptEither j one two → EachSubmitted one two × EachSubmitted two one
submitted-either j one two (inl k) = each-submitted j (record { one = one; two = two }) k
submitted-either j one two (inr k) = (let s = each-submitted j (record { one = two; two = one }) k in (s.1, s.0))

pub are-lawful : (joined : Bool) (w : World) → Sound (λ x. joined && x == 0) w → AreLawful joined w
are-lawful joined w s x low =
    let p = s.pairs x low in
    record { one = p.one; two = p.two; here = p.here; there = p.there; lawful = lawful-either (joined && x == 0) p.one p.two p.kept; unsequenced = submitted-either (joined && x == 0) p.one p.two p.kept }

-- every world is sound

pub sound-run : OfEachRun (Sound (λ x. false))
sound-run a b h es w r = sound-happens (λ x. false) es (open_world a b) w r (open-sound a b h)

pub sound-joined-run : OfEachJoinedRun (Sound (λ x. x == 0))
sound-joined-run a b h es w r = sound-happens (λ x. x == 0) es (joined_world a b) w r (joined-sound a b h)

pub sound-list : OfEachList (Sound (λ x. false))
sound-list a b h events answers w r = sound-runs (λ x. false) events answers (open_world a b) w r (open-sound a b h)

pub sound-joined-list : OfEachJoinedList (Sound (λ x. x == 0))
sound-joined-list a b h events answers w r = sound-runs (λ x. x == 0) events answers (joined_world a b) w r (joined-sound a b h)

-- so the law holds

pub each-run : OfEachRun (AreLawful false)
each-run a b h es w r = are-lawful false w (sound-run a b h es w r)

pub each-joined : OfEachJoinedRun (AreLawful true)
each-joined a b h es w r = are-lawful true w (sound-joined-run a b h es w r)

pub each-list : OfEachList (AreLawful false)
each-list a b h events answers w r = are-lawful false w (sound-list a b h events answers w r)

pub each-joined-list : OfEachJoinedList (AreLawful true)
each-joined-list a b h events answers w r = are-lawful true w (sound-joined-list a b h events answers w r)
