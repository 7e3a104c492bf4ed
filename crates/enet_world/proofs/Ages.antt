-- After as many rounds as the longest wait takes, all that was sent before them is due to go again or has waited out its timeout.
use Rattle.std.proofs.Common.{◌≡◌, ℕ, zero, suc, ◌+◌, ◌*◌, ◌%◌, ◌^◌, ◌<◌, ◌≤◌, min, Bool, sym, ap, subst, ◌∙◌, arith, Option, Some, None}
use Rattle.std.specs.Option.{option_and_then}
use Rattle.enet_codec.specs.declared.event.PeerRef.{PeerRef}
use Rattle.enet_peer.specs.Peering.{Peering}
use Rattle.enet_host.specs.Host.{named}
use Rattle.enet_host.specs.Ticking.{clock_after}
use Rattle.law_network.specs.Network.{HostEnd, Site, end_of}
use Rattle.law_network.specs.World.{World, site_of}
use Rattle.law_progress.specs.Exchanges.{AllOver}
use Rattle.law_progress.proofs.Ageing.{ages-over}
use Rattle.enet_site.specs.Standing.{peer_at}
use Rattle.enet_world.specs.Progress.{clock_by_rounds}
use Rattle.enet_world.specs.Private.Worlds.{IsReachedIn}
use Rattle.enet_world.specs.Private.Enough.{AreOverIn}
use Rattle.enet_world.proofs.Habits.{HostHabits, WorldHabits, habits-in, clock-sum}

clock-later : (n ms now : ℕ) → clock_by_rounds n ms (now % 2 ^ 32) ≡ (now + n * min ms 60000) % 2 ^ 32
clock-later zero ms now = ap (λ m. m % 2 ^ 32) (sum now (min ms 60000))
  where
    sum : (m k : ℕ) → m ≡ m + 0 * k
    sum m k = omega arith
clock-later (suc n) ms now = ap (λ c. clock_after c ms) (clock-later n ms now) ∙ clock-sum (now + n * min ms 60000) (min ms 60000) ∙ ap (λ m. m % 2 ^ 32) (more now n (min ms 60000))
  where
    more : (m k d : ℕ) → m + k * d + d ≡ m + suc k * d
    more m k d = omega arith

-- the peer of a connection has its name
at-named : (s : Site) (x : ℕ) (p : Peering) → peer_at s x ≡ Some p → (name : PeerRef) × (named s.host.slots name ≡ Some p)
at-named s x p h = by (end_of x s.ends) h
  where
    by : (o : Option HostEnd) → option_and_then (λ (e : HostEnd). named s.host.slots e.name) o ≡ Some p → (name : PeerRef) × (named s.host.slots name ≡ Some p)
    by None k = absurd (let z : ◌≡◌ {A = Option Peering} None (Some p) = k in cc)
    by (Some e) k = (e.name, k)

over-in : (joined : Bool) (w : World) (passed rounds ms : ℕ) → IsReachedIn passed joined w → 0 < rounds → 60000 ≤ rounds * min ms 60000 → passed + rounds * min ms 60000 < 4294967295 → AreOverIn rounds ms w
over-in joined w passed rounds ms r some long near = record {
  some = some;
  over = λ side x p is.
      let k : HostHabits passed (site_of w side).host = all side in
      let n = at-named (site_of w side) x p is in
      let a = k.peers n.0 p n.1 in
      let at : clock_by_rounds rounds ms (site_of w side).host.clock ≡ (k.now + rounds * min ms 60000) % 2 ^ 32 = ap (clock_by_rounds rounds ms) k.clock ∙ clock-later rounds ms k.now in
      subst (λ m. AllOver m p) (sym at) (ages-over k.now passed (rounds * min ms 60000) p (a.aged (omega arith)) long (omega arith));
  wide = λ side x p is. (let k : HostHabits passed (site_of w side).host = all side in let n = at-named (site_of w side) x p is in let a = k.peers n.0 p n.1 in a.wide);
}
  where
    all : WorldHabits passed w
    all = habits-in passed joined w r (omega arith)

-- as many rounds as the longest wait takes
some-of : (n m : ℕ) → 60000 ≤ n * m → 0 < n
some-of zero m h = absurd (omega arith)
some-of (suc n) m h = omega arith

sum-low : (a b : ℕ) → a < 4294500000 → b ≤ 120000 → a + b < 4294967295
sum-low a b h k = omega arith

pub over-wait : (joined : Bool) (w : World) (passed rounds ms : ℕ) → IsReachedIn passed joined w → 60000 ≤ rounds * min ms 60000 → rounds * min ms 60000 ≤ 120000 → passed < 4294500000 → AreOverIn rounds ms w
over-wait joined w passed rounds ms r long brief early = over-in joined w passed rounds ms r (some-of rounds (min ms 60000) long) long (sum-low passed (rounds * min ms 60000) early brief)
