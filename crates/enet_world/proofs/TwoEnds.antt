-- The two ends of a connection through what happens in a world: they go on, or one of them is past its connection, and stays so.
use Rattle.std.proofs.Common.{◌≡◌, ◌==◌, ◌⊎◌, ℕ, Bool, true, false, List, refl, sym, ap, subst, ◌∙◌, inl, inr, Some, Result, Ok, Err}
use Rattle.enet_codec.specs.declared.refusal.Refusal.{Refusal}
use Rattle.enet_peer.specs.declared.parts.PeerState.TheVariants as state
use Rattle.enet_peer.specs.Peering.{Peering}
use Rattle.law_connection.specs.Connection.{End}
use Rattle.law_connection.specs.LinkSteps.{Has}
use Rattle.law_connection.specs.Steps.{Event}
use Rattle.law_network.specs.declared.event.Answer.{Answer}
use Rattle.law_network.specs.declared.event.Side.{Side}
use Rattle.law_network.specs.declared.event.Side.TheVariants.{A, B}
use Rattle.law_network.specs.declared.event.WorldEvent.{WorldEvent}
use Rattle.law_network.specs.Law.{GoesOn, IsBetween, Faces}
use Rattle.law_network.specs.Network.{HostEnd, Site}
use Rattle.law_network.specs.Shown.{Shows, ShowsFar, RunsAt}
use Rattle.law_network.specs.Steps.{Happening, Calls, Delivers, beside}
use Rattle.law_network.specs.Telling.{IsShownAs, IsEnd, IsLive}
use Rattle.law_network.specs.World.{World, HappensAt, Steps, side_of, site_of, other}
use Rattle.law_network.proofs.OneThing.{one-thing}
use Rattle.law_network.proofs.Runs.{Sound, sound-list, sound-joined-list}
use Rattle.law_network.proofs.Worlds.{IsHost, far-shown}
use Rattle.law_network.proofs.Submitting.{same-some}
use Rattle.law_progress.proofs.Exchanges.{Joint, joint-swap}
use Rattle.enet_world.specs.Private.Worlds.{IsReached}
use Rattle.enet_world.proofs.Lasting.{IsIn, Holds, lasts-run, is_past, is_begun, past-lasts, connected-or-past}

-- ---- a world that is reached
-- which connections stand from the start
abbrev pub from_start : Bool → ℕ → Bool
from_start true x = x == 0
from_start false x = false

pub sound : (joined : Bool) (w : World) → IsReached joined w → Sound (from_start joined) w
sound true w r = sound-joined-list r.a r.b r.in_range r.events r.answers w r.runs
sound false w r = sound-list r.a r.b r.in_range r.events r.answers w r.runs

pub host-at : (j : ℕ → Bool) (w : World) → Sound j w → (side : Side) → IsHost (site_of w side) w.count
host-at j w k A = k.a
host-at j w k B = k.b

pub twice : (side : Side) → other (other side) ≡ side
twice A = refl
twice B = refl

-- ---- the two ends
-- the hosts of a world show these two ends of connection x, the one at this side
pub record Ends (w : World) (x : ℕ) (side : Side) (own far : End) : Type 0 where
  pub e : HostEnd
  pub f : HostEnd
  pub here : Has (site_of w side).ends e
  pub there : Has (site_of w (other side)).ends f
  pub of_e : e.connection ≡ x
  pub of_f : f.connection ≡ x
  pub shows : Shows (site_of w side) e own
  pub shows_far : Shows (site_of w (other side)) f far

pub swapped : (w : World) (x : ℕ) (side : Side) (own far : End) → Ends w x side own far → Ends w x (other side) far own
swapped w x side own far k = record {
  e = k.f;
  f = k.e;
  here = k.there;
  there = subst (λ (s : Side). Has (site_of w s).ends k.e) (sym (twice side)) k.here;
  of_e = k.of_f;
  of_f = k.of_e;
  shows = k.shows_far;
  shows_far = subst (λ (s : Side). Shows (site_of w s) k.e own) (sym (twice side)) k.shows;
}

pub back : (w : World) (x : ℕ) (side : Side) (own far : End) → Ends w x (other side) far own → Ends w x side own far
back w x A own far k = swapped w x B far own k
back w x B own far k = swapped w x A far own k

pub is-end : (j : ℕ → Bool) (w : World) (x : ℕ) (side : Side) (own far : End) → Sound j w → (k : Ends w x side own far) → IsEnd (site_of w side) k.e own
is-end j w x side own far s k = (let h = host-at j w s side in record { few = h.few; there = k.here; apart = h.apart k.e k.here; shows = k.shows })

pub far-end : (j : ℕ → Bool) (w : World) (x : ℕ) (side : Side) (own far : End) → Sound j w → (k : Ends w x side own far) → ShowsFar (site_of w (other side)) k.e.connection far
far-end j w x side own far s k =
    subst (λ (n : ℕ). ShowsFar (site_of w (other side)) n far) (sym k.of_e) (far-shown (site_of w (other side)) w.count x far (host-at j w s (other side)) (inl (k.f, k.there, k.of_f, k.shows_far)))

pub faces : (j : ℕ → Bool) (w : World) (x : ℕ) (side : Side) (own far : End) → Sound j w → (k : Ends w x side own far) → Faces (beside w.count (site_of w (other side))) (site_of w side) k.e far
faces j w x side own far s k = (let f = far-end j w x side own far s k in record { numbers = f.greatest; strangers = λ address never. absurd (let z : true ≡ false = never in cc) })

-- one end goes on to what is shown of it, the other stays
unfoldable pub Moved : World → ℕ → Side → End → (End → Type 0) → Type 0
Moved v x side far R = (new : End) × Ends v x side new far × R new

pub moved : (w v : World) (x : ℕ) (side : Side) (own far : End) (what : Happening) (R : End → Type 0) (k : Ends w x side own far) → HappensAt side what w v → IsShownAs (site_of v side) k.e R → Moved v x side far R
unfolding Moved
moved w v x side own far what R k h s = (
  s.end,
  record {
    e = s.after;
    f = k.f;
    here = s.there;
    there = subst (λ (t : Site). Has t.ends k.f) (sym h.there) k.there;
    of_e = s.connection ∙ k.of_e;
    of_f = k.of_f;
    shows = s.shows;
    shows_far = subst (λ (t : Site). Shows t k.f far) (sym h.there) k.shows_far;
  },
  s.holds,
)

-- ---- whatever happens at a side, the end there goes on
pub goes : (j : ℕ → Bool) (w v : World) (x : ℕ) (side : Side) (own far : End) (what : Happening) → Sound j w → (k : Ends w x side own far) → HappensAt side what w v → Moved v x side far (λ new. (es : List Event) × RunsAt es own far new)
unfolding Moved
goes j w v x side own far what s k h = (
  g.went.new,
  record {
    e = g.after;
    f = k.f;
    here = g.there;
    there = subst (λ (t : Site). Has t.ends k.f) (sym h.there) k.there;
    of_e = g.connection ∙ k.of_e;
    of_f = k.of_f;
    shows = g.went.shows;
    shows_far = subst (λ (t : Site). Shows t k.f far) (sym h.there) k.shows_far;
  },
  (g.went.events, g.went.runs),
)
  where
    from : Site
    from = site_of w (other side)

    here : IsHost (site_of w side) w.count
    here = host-at j w s side

    there : IsHost from w.count
    there = host-at j w s (other side)

    between : (happening : Happening) → IsBetween from happening (site_of w side) k.e far
    between (Delivers n answer) = inl (far-end j w x side own far s k)
    between (Calls c) = tt

    g : GoesOn own far (site_of v side) k.e
    g = one-thing (site_of w side) here.few (beside w.count from) from (site_of v side) what h.here there.named k.e k.here (here.apart k.e k.here) own far k.shows (faces j w x side own far s k) (between what)

-- ---- an end that is past its connection stays so
pub record IsDown (w : World) (x : ℕ) : Type 0 where
  pub own : End
  pub far : End
  pub ends : Ends w x A own far
  pub past : Holds (IsIn is_past) own ⊎ Holds (IsIn is_past) far

pub down-at : (w : World) (x : ℕ) (side : Side) (own far : End) → Ends w x side own far → Holds (IsIn is_past) own ⊎ Holds (IsIn is_past) far → IsDown w x
down-at w x A own far k p = record { own = own; far = far; ends = k; past = p }
down-at w x B own far k p = record { own = far; far = own; ends = swapped w x B own far k; past = elim p [ inl h ↦ inr h | inr h ↦ inl h ] }

down-happens : (j : ℕ → Bool) (w v : World) (x : ℕ) (side : Side) (what : Happening) → Sound j w → HappensAt side what w v → IsDown w x → IsDown v x
unfolding Moved
down-happens j w v x A what s h d =
    let g = goes j w v x A d.own d.far what s d.ends h in
    record { own = g.0; far = d.far; ends = g.1; past = elim d.past [ inl p ↦ inl (lasts-run (IsIn is_past) past-lasts g.2.0 d.own d.far g.0 g.2.1 p) | inr p ↦ inr p ] }
down-happens j w v x B what s h d =
    let g = goes j w v x B d.far d.own what s (swapped w x A d.own d.far d.ends) h in
    record { own = d.own; far = g.0; ends = swapped v x B g.0 d.own g.1; past = elim d.past [ inl p ↦ inl p | inr p ↦ inr (lasts-run (IsIn is_past) past-lasts g.2.0 d.far d.own g.0 g.2.1 p) ] }

pub down-step : (joined : Bool) (w v : World) (x : ℕ) (e : WorldEvent) (answer : Result Answer Refusal) → IsReached joined w → Steps w e answer v → IsDown w x → IsDown v x
down-step joined w v x e (Ok answer) r step d = down-happens (from_start joined) w v x (side_of e) step.0 (sound joined w r) step.2 d
down-step joined w v x e (Err why) r step d = subst (λ (u : World). IsDown u x) (sym step.1) d

-- ---- or both are connected
pub record Up (joined : Bool) (w : World) (x : ℕ) (side : Side) (own far : End) : Type 0 where
  pub ends : Ends w x side own far
  pub joint : Joint (from_start joined x) own far
  pub p : Peering
  pub q : Peering
  pub is_p : own.peer ≡ Some p
  pub is_q : far.peer ≡ Some q
  pub on_p : p.state ≡ state.Connected
  pub on_q : q.state ≡ state.Connected

pub up-swapped : (joined : Bool) (w : World) (x : ℕ) (side : Side) (own far : End) → Up joined w x side own far → Up joined w x (other side) far own
up-swapped joined w x side own far k = record { ends = swapped w x side own far k.ends; joint = joint-swap (from_start joined x) own far k.joint; p = k.q; q = k.p; is_p = k.is_q; is_q = k.is_p; on_p = k.on_q; on_q = k.on_p }

pub up-back : (joined : Bool) (w : World) (x : ℕ) (side : Side) (own far : End) → Up joined w x (other side) far own → Up joined w x side own far
up-back joined w x A own far k = up-swapped joined w x B far own k
up-back joined w x B own far k = up-swapped joined w x A far own k

pub begun-here : (e : End) (p : Peering) → e.peer ≡ Some p → p.state ≡ state.Connected → Holds (IsIn is_begun) e
begun-here e p is on = (p, is, ap is_begun on)

-- an end that has begun is connected or past
unfoldable pub IsOn : End → Type 0
IsOn e = (p : Peering) × (e.peer ≡ Some p) × (p.state ≡ state.Connected)

pub on-or-past : (e : End) → Holds (IsIn is_begun) e → IsOn e ⊎ Holds (IsIn is_past) e
unfolding IsOn
on-or-past e h = elim (connected-or-past h.0.state h.2) [ inl on ↦ inl (h.0, h.1, on) | inr past ↦ inr (h.0, h.1, past) ]

pub up-or-down : (joined : Bool) (v : World) (x : ℕ) (side : Side) (new far : End) (q : Peering) → Ends v x side new far → Joint (from_start joined x) new far → Holds (IsIn is_begun) new → far.peer ≡ Some q → q.state ≡ state.Connected
    → Up joined v x side new far ⊎ IsDown v x
unfolding IsOn
up-or-down joined v x side new far q k j h is on = elim (on-or-past new h) [
  | inl y ↦ inl (record { ends = k; joint = j; p = y.0; q = q; is_p = y.1; is_q = is; on_p = y.2; on_q = on })
  | inr past ↦ inr (down-at v x side new far k (inl past))
]

pub live : (e : End) (p : Peering) → e.peer ≡ Some p → p.state ≡ state.Connected → IsLive e
live e p is on q there free = (let same : p ≡ q = same-some p q (sym is ∙ there) in let z : state.Connected ≡ state.Free = sym on ∙ ap (λ (y : Peering). y.state) same ∙ free in cc)
