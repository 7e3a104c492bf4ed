-- A tick and new bandwidths, which change each slot.
use Rattle.std.proofs.Common.{◌≡◌, ◌≢◌, ℕ, Bool, true, false, cond, ◌&&◌, List, [], ◌∷◌, map, refl, sym, ap, ◌∙◌, Option, Some, None, Ok}
use Rattle.std.specs.List.{slice_get, count_by}
use Rattle.enet_peer.specs.declared.parts.PeerState.{PeerState}
use Rattle.enet_peer.specs.declared.parts.PeerState.TheVariants as state
use Rattle.enet_peer.specs.Peering.{Peering}
use Rattle.enet_peer.specs.Calls.{is_connected, with_throttle_limit}
use Rattle.enet_peer.specs.Calls as peers
use Rattle.enet_slot.specs.Slot.{SlotState, with_peer, with_changed, changed}
use Rattle.enet_slot.specs.Sharing.{is_standing, limit_for, with_limit, shared}
use Rattle.enet_host.specs.Crediting.{is_short_at}
use Rattle.enet_host.specs.Host.{Host}
use Rattle.enet_host.specs.Ticking.{clock_after, with_time, is_due, ticked}
use Rattle.enet_host.proofs.Moving.{get-moved}
use Rattle.law_connection.specs.Steps as setting
use Rattle.law_network.specs.Calls.{Call}
use Rattle.law_network.specs.Calls as call
use Rattle.law_network.specs.Common.{common_of}
use Rattle.law_network.specs.Deeds.{Deed, Alone, AllAlone, Tick, Set}
use Rattle.law_network.specs.Falling.{Fell, counted, deeds_if, share_of}
use Rattle.law_network.specs.IsolationLaw.{Fares, untouched, goes_on, having_emitted}
use Rattle.law_network.proofs.Lists.{get-map}
use Rattle.law_network.proofs.Slots.{held, freed-in, counted-same}
use Rattle.law_network.proofs.Single.{Each, IsQuiet, may_begin, begins-not}

-- a change of every peer
pub each-changed : (c : Call) (h : Host) (f : Peering → Peering) (d : Deed) → ((p : Peering) → Alone d p (f p)) → ((i : ℕ) (s : SlotState) (p : Peering) → Fell (common_of h) (record { number = i; slot = s; peer = p }) c (d ∷ [])) → IsQuiet c h
    → may_begin c ≡ false → Each c h (map (changed f) h.slots)
each-changed c h f d alone fell quiet later i s e = (changed f s, get-map (changed f) h.slots i s e, by s.peer refl)
  where
    by : (o : Option Peering) → s.peer ≡ o → Fares c (common_of h) i s (changed f s)
    by None g =
        untouched (λ p k. absurd (let x : ◌≡◌ {A = Option Peering} None (Some p) = sym g ∙ k in cc)) (λ none. begins-not c h i later s)
        (ap (λ (o : Option Peering). with_changed f s o) g ∙ ap (λ (n : ℕ). having_emitted s n) (sym (quiet i s)))
    by (Some p) g =
        goes_on p (f p) (d ∷ []) g (fell i s p) (f p, alone p, refl) (λ gone. begins-not c h i later (with_peer s (f p)))
        (ap (λ (o : Option Peering). with_changed f s o) g ∙ counted-same s (f p) (counted c (common_of h) i s) (quiet i s))

-- the sharing out of bandwidth at a slot whose peer a tick left so
pub record Shares (outgoing standing : ℕ) (due : Bool) (s : SlotState) (p : Peering) : Type 0 where
  pub after : Peering
  pub alone : AllAlone (deeds_if (due && is_connected p.state) (Set (setting.ThrottleLimit (limit_for outgoing standing s.emitted p)) (Ok tt))) p after
  pub left : cond due (shared outgoing standing (with_peer s p)) (with_peer s p) ≡ having_emitted (with_peer s after) (cond due 0 s.emitted)

-- its deeds, where the peer is or isn't connected
alone-if : (b : Bool) (d : Deed) (p q : Peering) → (b ≡ false → p ≡ q) → (b ≡ true → Alone d p q) → AllAlone (deeds_if b d) p q
alone-if true d p q no' yes' = (q, yes' refl, refl)
alone-if false d p q no' yes' = no' refl

shares-live : (outgoing standing : ℕ) (s : SlotState) (p : Peering) (c : Bool) → is_connected p.state ≡ c → p.state ≢ state.Free → Shares outgoing standing true s p
shares-live outgoing standing s p true e n =
    let q : Peering = with_throttle_limit p (limit_for outgoing standing s.emitted p) in
    record {
      after = q;
      alone = alone-if (true && is_connected p.state) (Set (setting.ThrottleLimit (limit_for outgoing standing s.emitted p)) (Ok tt)) p q (λ f. absurd (let x : true ≡ false = sym e ∙ f in cc)) (λ t. refl);
      left =
          ap (λ (x : SlotState). shared outgoing standing x) (held s p n)
          ∙ ap (λ (b : Bool). record s { emitted = 0; peer = Some (cond b q p) }) e
          ∙ ap (λ (x : SlotState). having_emitted x 0) (sym (held s q n));
    }
shares-live outgoing standing s p false e n =
    record {
      after = p;
      alone = alone-if (true && is_connected p.state) (Set (setting.ThrottleLimit (limit_for outgoing standing s.emitted p)) (Ok tt)) p p (λ f. refl) (λ t. absurd (let x : false ≡ true = sym e ∙ t in cc));
      left =
          ap (λ (x : SlotState). shared outgoing standing x) (held s p n)
          ∙ ap (λ (b : Bool). record s { emitted = 0; peer = Some (cond b (with_throttle_limit p (limit_for outgoing standing s.emitted p)) p) }) e
          ∙ ap (λ (x : SlotState). having_emitted x 0) (sym (held s p n));
    }

shares-free : (outgoing standing : ℕ) (s : SlotState) (p : Peering) → p.state ≡ state.Free → Shares outgoing standing true s p
shares-free outgoing standing s p e =
    record {
      after = p;
      alone = alone-if (true && is_connected p.state) (Set (setting.ThrottleLimit (limit_for outgoing standing s.emitted p)) (Ok tt)) p p (λ f. refl)
          (λ t. absurd (let x : false ≡ true = sym (ap is_connected e) ∙ t in cc));
      left = ap (λ (x : SlotState). shared outgoing standing x) (freed-in s p e) ∙ ap (λ (x : SlotState). having_emitted x 0) (sym (freed-in s p e));
    }

shares-in : (outgoing standing : ℕ) (s : SlotState) (p : Peering) (st : PeerState) → p.state ≡ st → Shares outgoing standing true s p
shares-in outgoing standing s p state.Free e = shares-free outgoing standing s p e
shares-in outgoing standing s p st e = shares-live outgoing standing s p (is_connected p.state) refl (λ f. absurd (let x : st ≡ state.Free = sym e ∙ f in cc))

shares : (outgoing standing : ℕ) (due : Bool) (s : SlotState) (p : Peering) → Shares outgoing standing due s p
shares outgoing standing true s p = shares-in outgoing standing s p p.state refl
shares outgoing standing false s p = record { after = p; alone = refl; left = counted-same s p s.emitted refl }

-- the slots after a tick
slots-if : (due : Bool) (f : SlotState → SlotState) (xs : List SlotState) (i : ℕ) (x : SlotState) → slice_get xs i ≡ Some x → slice_get (cond due (map f xs) xs) i ≡ Some (cond due (f x) x)
slots-if true f xs i x e = get-map f xs i x e
slots-if false f xs i x e = e

pub each-ticked : (h : Host) (ms : ℕ) → Each (call.Tick ms) h (ticked h ms).slots
each-ticked h ms i s e = (t s, slots-if (is_due timed) (shared outgoing standing) timed.slots i (changed tick s) (get-moved now (is_short_at h.credits) h.slots i s e), by s.peer refl)
  where
    now : ℕ
    now = clock_after h.clock ms

    timed : Host
    timed = with_time h now

    outgoing : ℕ
    outgoing = timed.config.outgoing

    standing : ℕ
    standing = count_by is_standing timed.slots

    short : Bool
    short = is_short_at h.credits i

    tick : Peering → Peering
    tick p = peers.moved short p now

    t : SlotState → SlotState
    t x = cond (is_due timed) (shared outgoing standing (changed tick x)) (changed tick x)

    none-if : (due : Bool) → s.peer ≡ None → cond due (shared outgoing standing s) s ≡ having_emitted s (cond due 0 s.emitted)
    none-if true g = ap (λ (o : Option Peering). record s { emitted = 0; peer = with_limit outgoing standing s.emitted o }) g ∙ sym (ap (λ (o : Option Peering). record s { emitted = 0; peer = o }) g)
    none-if false g = refl

    by : (o : Option Peering) → s.peer ≡ o → Fares (call.Tick ms) (common_of h) i s (t s)
    by None g =
        untouched (λ p k. absurd (let x : ◌≡◌ {A = Option Peering} None (Some p) = sym g ∙ k in cc)) (λ none. begins-not (call.Tick ms) h i refl s)
        (ap (λ (o : Option Peering). cond (is_due timed) (shared outgoing standing (with_changed tick s o)) (with_changed tick s o)) g ∙ none-if (is_due timed) g)
    by (Some p) g =
        let x : Shares outgoing standing (is_due timed) s (tick p) = shares outgoing standing (is_due timed) s (tick p) in
        goes_on p x.after (Tick now short ∷ share_of (common_of h) now s.emitted (tick p)) g refl (tick p, refl, x.alone) (λ gone. begins-not (call.Tick ms) h i refl (with_peer s x.after))
        (ap (λ (o : Option Peering). cond (is_due timed) (shared outgoing standing (with_changed tick s o)) (with_changed tick s o)) g ∙ x.left)
