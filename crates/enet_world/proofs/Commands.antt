-- No more commands are outstanding at a connected peer than its user's packets are cut into; and so rounds are enough.
use Rattle.std.proofs.Common.{◌≡◌, ℕ, zero, suc, ◌+◌, ◌-◌, ◌*◌, ◌/◌, ◌<◌, ◌^◌, ◌≤◌, ◌==◌, ◌&&◌, ◌⊎◌, inl, inr, min, nat_lt, not, Bool, true, false, cond, List, [], ◌∷◌, ◌++◌, length, refl, sym, ap, subst, ◌∙◌, arith, Option, Some, None, IfSome, add-one}
use Rattle.std.proofs.lemmas.Bool.Decides.{nat_tests}
use Rattle.std.proofs.lemmas.Option.{slice_get_within}
use Rattle.std.specs.List.{slice_get}
use Rattle.std.specs.Option.{option_and_then}
use Rattle.enet_codec.specs.declared.packet.Packet.{Packet}
use Rattle.enet_fragment.specs.Cutting.{piece_count}
use Rattle.enet_sender.specs.CommandChoice as command_choice
use Rattle.enet_sender.specs.Due.{SendingEnd}
use Rattle.enet_outbox.specs.Outbox.{is_unsequenced}
use Rattle.enet_peer.specs.declared.parts.PeerState.{PeerState}
use Rattle.enet_peer.specs.declared.parts.PeerState.TheVariants as state
use Rattle.enet_peer.specs.Peering.{Peering}
use Rattle.enet_host.specs.Host.{named}
use Rattle.law_connection.specs.Connection.{End, of_channel}
use Rattle.law_connection.specs.Invariant.{IsTidy, PeerFits}
use Rattle.law_connection.specs.Law.{mtu_in, mtu_of}
use Rattle.law_connection.specs.Linked.{IsLinked, ShowsSending, sends_in, sender_in}
use Rattle.law_connection.specs.LinkSteps.{fresh_link}
use Rattle.law_network.specs.declared.event.Side.{Side}
use Rattle.law_network.specs.declared.event.Side.TheVariants.{A, B}
use Rattle.law_network.specs.Headline.{end_at, submitted_at}
use Rattle.law_network.specs.Network.{HostEnd, Site}
use Rattle.law_network.specs.Shown.{on_channel, Shows}
use Rattle.law_network.specs.World.{World, site_of}
use Rattle.law_network.proofs.Runs.{Sound}
use Rattle.law_progress.specs.Exchanges.{outstanding_over}
use Rattle.law_progress.specs.Links.{outstanding_at}
use Rattle.law_progress.proofs.Exchanges.{Joint, joint-swap}
use Rattle.law_progress.proofs.Outstanding.{pieces_in, few-runs, fewer-pieces, sum_below, over-few, sum-more}
use Rattle.enet_site.specs.Standing.{peer_at, state_at}
use Rattle.enet_world.specs.Progress.{AreConnected, AreEnough}
use Rattle.enet_world.specs.Needed.{held, is_connected, pieces_of, pieces_below}
use Rattle.enet_world.specs.Private.Enough.{AreOverIn}
use Rattle.enet_world.specs.Private.Worlds.{IsReached}
use Rattle.enet_world.proofs.Through.{Begun, IsConnected, begun, connected-at, shown-end-of}
use Rattle.enet_world.proofs.TwoEnds.{from_start, sound}

-- ---- what is counted
pub pieces-is : (len : ℕ) → piece_count len 576 ≡ (len - 1) / 548 + 1
unfolding piece_count
pieces-is len = by (len == 0) refl
  where
    empty : (n : ℕ) → (n == 0) ≡ true → n ≡ 0
    empty n e = grind (arith, nat_tests)

    by : (b : Bool) → (len == 0) ≡ b → cond b 1 ((len - 1) / 548 + 1) ≡ (len - 1) / 548 + 1
    by true e = let z : len ≡ 0 = empty len e in sym (ap (λ n. (n - 1) / 548 + 1) z)
    by false e = refl

pub pieces-push : (ps : List Packet) (p : Packet) → pieces_of (ps ++ p ∷ []) ≡ pieces_of ps + piece_count (length p.body) 576
pieces-push [] p = omega arith
pieces-push (q ∷ ps) p = let rest = pieces-push ps p in omega arith

-- of counts that stop at 2^64 - 1
pub sum-held : (a p d n m s : ℕ) → p ≡ min a 18446744073709551615 → d ≡ n → m ≡ min (p + d) 18446744073709551615 → s ≡ a + n → m ≡ min s 18446744073709551615
sum-held a p d n m s one two three four = omega arith

pub pieces-next : (w : World) (x : ℕ) (side : Side) (channel so_far more all : ℕ) → so_far ≡ min (pieces_below w x side channel) 18446744073709551615
    → more ≡ min (pieces_of (submitted_at channel (end_at w x side))) 18446744073709551615 → all ≡ min (so_far + more) 18446744073709551615 → all ≡ min (pieces_below w x side (channel + 1)) 18446744073709551615
unfolding pieces_below
pieces-next w x side channel so_far more all a b sum = subst (λ n. all ≡ min (pieces_below w x side n) 18446744073709551615) (sym (add-one channel)) (both (pieces_below w x side channel) (pieces_of (submitted_at channel (end_at w x side))) a b)
  where
    both : (m n : ℕ) → so_far ≡ min m 18446744073709551615 → more ≡ min n 18446744073709551615 → all ≡ min (m + n) 18446744073709551615
    both m n a b = omega arith

-- a number that 64 bits hold is no other where the counts in it stop
pub held-whole : (w a b m n : ℕ) → m ≡ min a 18446744073709551615 → n ≡ min b 18446744073709551615 → held (w + 2 * (m + n)) ≡ held (w + 2 * (a + b))
held-whole w a b m n is_m is_n = by (nat_lt (w + 2 * (m + n)) (2 ^ 64)) (nat_lt (w + 2 * (a + b)) (2 ^ 64)) refl refl
  where
    by : (s t : Bool) → nat_lt (w + 2 * (m + n)) (2 ^ 64) ≡ s → nat_lt (w + 2 * (a + b)) (2 ^ 64) ≡ t → cond s (Some (w + 2 * (m + n))) None ≡ cond t (Some (w + 2 * (a + b))) None
    by true true e f = ap (λ k. Some k) (grind (arith, nat_tests))
    by true false e f = absurd (grind (arith, nat_tests))
    by false true e f = absurd (grind (arith, nat_tests))
    by false false e f = refl

-- ---- on one channel
pub sum-on : (mtu channel : ℕ) (ps : List Packet) → 576 ≤ mtu → pieces_in mtu (of_channel mtu channel ps) ≤ pieces_of (on_channel channel ps)
sum-on mtu channel [] wide = omega arith
sum-on mtu channel (p ∷ ps) wide = by (p.channel == channel) (is_unsequenced mtu q) (sum-on mtu channel ps wide)
  where
    q : command_choice.Packet
    q = record { flags = p.flags; body = p.body }

    by : (here apart : Bool) → pieces_in mtu (of_channel mtu channel ps) ≤ pieces_of (on_channel channel ps)
        → pieces_in mtu (cond (here && not apart) (q ∷ of_channel mtu channel ps) (of_channel mtu channel ps)) ≤ pieces_of (cond here (p ∷ on_channel channel ps) (on_channel channel ps))
    by true true rest = omega arith
    by true false rest = let one = fewer-pieces (length p.body) mtu wide in omega arith
    by false apart rest = rest

up-to : (a b c : ℕ) → a ≤ b → b ≤ c → a ≤ c
up-to a b c h k = omega arith

least : (n : ℕ) → 0 ≤ n
least n = omega arith

whole : 255 ≤ 255
whole = omega arith

few-at : (joined : Bool) (own far : End) (p : Peering) (channel : ℕ) (s : SendingEnd) → Joint joined own far → own.peer ≡ Some p → p.state ≡ state.Connected → 576 ≤ p.terms.mtu → channel < 255 → slice_get p.outbox.senders channel ≡ Some s
    → outstanding_at s.sender ≤ pieces_of (on_channel channel own.submitted)
few-at joined own far p channel s j is on wide low there = by l.agreed
  where
    l : IsLinked own far channel
    l = j.both.out channel low

    shows : ShowsSending (Some p) channel l.link
    shows = subst (λ (o : Option Peering). ShowsSending o channel l.link) is l.sending

    sends : (l.link.is_sending ≡ true) × (l.link.outgoing ≡ sender_in (slice_get p.outbox.senders channel))
    sends = shows.0 (ap sends_in on)

    here : l.link.outgoing ≡ s.sender
    here = sends.1 ∙ ap sender_in there

    few : outstanding_at s.sender ≤ pieces_in l.mtu (of_channel l.mtu channel own.submitted)
    few =
        let all : outstanding_at l.link.outgoing ≤ pieces_in l.mtu l.link.submitted = few-runs l.mtu l.events fresh_link l.link l.runs (λ sending. omega arith) sends.0 in
        subst (λ (x : List command_choice.Packet). outstanding_at s.sender ≤ pieces_in l.mtu x) l.submitted (subst (λ (x : _). outstanding_at x ≤ pieces_in l.mtu l.link.submitted) here all)

    by : (own.submitted ≡ []) ⊎ (mtu_of own ≡ l.mtu) → outstanding_at s.sender ≤ pieces_of (on_channel channel own.submitted)
    by (inl none) =
        let nothing : pieces_in l.mtu (of_channel l.mtu channel own.submitted) ≡ 0 = ap (λ (x : List Packet). pieces_in l.mtu (of_channel l.mtu channel x)) none in
        up-to (outstanding_at s.sender) 0 (pieces_of (on_channel channel own.submitted)) (subst (λ n. outstanding_at s.sender ≤ n) nothing few) (least (pieces_of (on_channel channel own.submitted)))
    by (inr same) =
        let mtu : p.terms.mtu ≡ l.mtu = sym (ap mtu_in is) ∙ same in
        up-to (outstanding_at s.sender) (pieces_in l.mtu (of_channel l.mtu channel own.submitted)) (pieces_of (on_channel channel own.submitted)) few (sum-on l.mtu channel own.submitted (subst (λ n. 576 ≤ n) mtu wide))

-- ---- on all
few-over : (joined : Bool) (own far : End) (p : Peering) → Joint joined own far → own.peer ≡ Some p → p.state ≡ state.Connected → 576 ≤ p.terms.mtu
    → outstanding_over p.outbox.senders ≤ sum_below (λ i. pieces_of (on_channel i own.submitted)) 255
few-over joined own far p j is on wide =
    up-to (outstanding_over p.outbox.senders) (sum_below f (length p.outbox.senders)) (sum_below f 255) (over-few f p.outbox.senders (λ i s there. few-at joined own far p i s j is on wide (inside i s there) there))
    (sum-more f (length p.outbox.senders) 255 tidy.few)
  where
    tidy : IsTidy own.submitted p
    tidy = (subst (λ (o : Option Peering). PeerFits own.submitted o) is (let k = j.one in k.peer)).0

    f : ℕ → ℕ
    f = λ i. pieces_of (on_channel i own.submitted)

    below : (i n : ℕ) → i < n → n ≤ 255 → i < 255
    below i n h k = omega arith

    inside : (i : ℕ) (s : SendingEnd) → slice_get p.outbox.senders i ≡ Some s → i < 255
    inside i s there = below i (length p.outbox.senders) (slice_get_within p.outbox.senders i s there) tidy.few

-- as the host keeps it
below-shown : (w : World) (x : ℕ) (side : Side) (e : HostEnd) (own : End) (n : ℕ) → end_at w x side ≡ Some e → Shows (site_of w side) e own → n ≤ 255
    → sum_below (λ i. pieces_of (on_channel i own.submitted)) n ≡ pieces_below w x side n
unfolding pieces_below
below-shown w x side e own zero is a low = refl
below-shown w x side e own (suc n) is a low =
    let rest = below-shown w x side e own n is a (omega arith) in
    let one : pieces_of (submitted_at n (end_at w x side)) ≡ pieces_of (on_channel n own.submitted) = ap (λ (o : Option HostEnd). pieces_of (submitted_at n o)) is ∙ ap pieces_of (a.submitted n (omega arith)) in
    omega arith

-- ---- enough rounds
total : (waits a b rounds p q : ℕ) → p ≤ a → q ≤ b → rounds ≡ waits + 2 * (a + b) → waits + 2 * (p + q) ≤ rounds
total waits a b rounds p q h k e = omega arith

pub enough-rounds : (joined : Bool) (w : World) (x ms waits a b rounds : ℕ) → IsReached joined w → AreConnected w x → AreOverIn waits ms w → a ≡ pieces_below w x A 255 → b ≡ pieces_below w x B 255 → rounds ≡ waits + 2 * (a + b)
    → AreEnough ms rounds w x
enough-rounds joined w x ms waits a b rounds r both over is_a is_b sum = record {
  p = one.stands.peer;
  q = two.stands.peer;
  is_p = is_p;
  is_q = is_q;
  waits = waits;
  some = over.some;
  over_p = over.over A x one.stands.peer is_p;
  over_q = over.over B x two.stands.peer is_q;
  enough = total waits a b rounds (outstanding_over one.stands.peer.outbox.senders) (outstanding_over two.stands.peer.outbox.senders)
      (subst (λ n. outstanding_over one.stands.peer.outbox.senders ≤ n) (sym is_a) (few A k.up.ends.e k.own k.far k.up.p one.stands.peer at_a k.up.ends.shows k.up.joint k.up.is_p k.up.on_p k.same_p is_p))
      (subst (λ n. outstanding_over two.stands.peer.outbox.senders ≤ n) (sym is_b)
      (few B k.up.ends.f k.far k.own k.up.q two.stands.peer at_b k.up.ends.shows_far (joint-swap (from_start joined x) k.own k.far k.up.joint) k.up.is_q k.up.on_q k.same_q is_q))
      sum;
}
  where
    one : IsConnected w.a x
    one = connected-at w.a x both.0

    two : IsConnected w.b x
    two = connected-at w.b x both.1

    peer-of : (s : Site) (c : IsConnected s x) → peer_at s x ≡ Some c.stands.peer
    peer-of s c = ap (λ (o : Option HostEnd). option_and_then (λ (e : HostEnd). named s.host.slots e.name) o) c.stands.there ∙ c.stands.is

    is_p : peer_at w.a x ≡ Some one.stands.peer
    is_p = peer-of w.a one

    is_q : peer_at w.b x ≡ Some two.stands.peer
    is_q = peer-of w.b two

    k : Begun joined w x one.stands.peer two.stands.peer
    k = begun joined w x r one two

    s : Sound (from_start joined) w
    s = sound joined w r

    at_a : end_at w x A ≡ Some k.up.ends.e
    at_a = shown-end-of w.a w.count x k.up.ends.e s.a k.up.ends.here k.up.ends.of_e

    at_b : end_at w x B ≡ Some k.up.ends.f
    at_b = shown-end-of w.b w.count x k.up.ends.f s.b k.up.ends.there k.up.ends.of_f

    -- of either
    few : (side : Side) (e : HostEnd) (own far : End) (p q : Peering) → end_at w x side ≡ Some e → Shows (site_of w side) e own → Joint (from_start joined x) own far → own.peer ≡ Some p → p.state ≡ state.Connected → p ≡ q → peer_at (site_of w side) x ≡ Some q
        → outstanding_over q.outbox.senders ≤ pieces_below w x side 255
    few side e own far p q at shows j is on same there =
        let wide : 576 ≤ p.terms.mtu = subst (λ (y : Peering). 576 ≤ y.terms.mtu) (sym same) (over.wide side x q there) in
        let all = few-over (from_start joined x) own far p j is on wide in
        let kept = below-shown w x side e own 255 at shows whole in
        subst (λ (y : Peering). outstanding_over y.outbox.senders ≤ pieces_below w x side 255) same (subst (λ n. outstanding_over p.outbox.senders ≤ n) kept all)

-- ---- the number that is told
if-held : (n : ℕ) (P : ℕ → Type 0) → P n → IfSome (held n) P
if-held n P h = by (nat_lt n (2 ^ 64))
  where
    by : (b : Bool) → IfSome (cond b (Some n) None) P
    by true = h
    by false = tt

pub enough-told : (joined : Bool) (w : World) (x ms waits of_a of_b : ℕ) (told : Option ℕ) → IsReached joined w → state_at w.a x ≡ Some state.Connected → state_at w.b x ≡ Some state.Connected → AreOverIn waits ms w
    → of_a ≡ min (pieces_below w x A 255) 18446744073709551615 → of_b ≡ min (pieces_below w x B 255) 18446744073709551615 → told ≡ held (waits + 2 * (of_a + of_b)) → IfSome told (λ rounds. AreEnough ms rounds w x)
enough-told joined w x ms waits of_a of_b told r one two over is_a is_b is =
    let a : ℕ = pieces_below w x A 255 in
    let b : ℕ = pieces_below w x B 255 in
    subst (λ (o : Option ℕ). IfSome o (λ rounds. AreEnough ms rounds w x)) (sym (is ∙ held-whole waits a b of_a of_b is_a is_b))
    (if-held (waits + 2 * (a + b)) (λ rounds. AreEnough ms rounds w x) (enough-rounds joined w x ms waits a b (waits + 2 * (a + b)) r (one, two) over refl refl refl))

pub connected-is : (o : Option PeerState) → is_connected o ≡ true → o ≡ Some state.Connected
connected-is (Some state.Connected) h = refl
connected-is o h = absurd (let z : false ≡ true = h in cc)
