-- A slot is given to a peer, whose end begins.
use Rattle.std.proofs.Common.{◌≡◌, ◌≢◌, ℕ, Bool, List, [], ◌∷◌, refl, sym, ap, subst, ◌∙◌, inl, inr, Option, Some, None, Err, is_some, slice_get}
use Rattle.std.specs.Option.{option_map, option_and_then}
use Rattle.enet_codec.specs.declared.address.Addr.{Addr}
use Rattle.enet_codec.specs.declared.event.PeerRef.{PeerRef}
use Rattle.enet_codec.specs.declared.event.Received.{Received}
use Rattle.enet_codec.specs.declared.refusal.Refusal.TheVariants as refusal
use Rattle.enet_codec.specs.declared.header.Header.{Header}
use Rattle.enet_peer.specs.Heading.{IsRead}
use Rattle.enet_peer.specs.declared.parts.PeerState.{PeerState}
use Rattle.enet_peer.specs.Peering.{Peering}
use Rattle.law_connection.specs.LinkSteps.{Has}
use Rattle.enet_slot.specs.Slot.{SlotState, name_of}
use Rattle.enet_slot.specs.Yielding.{readied}
use Rattle.enet_host.specs.Host.{Host, Keeps, named}
use Rattle.enet_host.specs.Opening.{available, host_basis, seat, no_channel, no_slot, no_memory}
use Rattle.enet_host.specs.Foretelling.{guest_name, next_name}
use Rattle.enet_slot.specs.Receiving.{no_peer}
use Rattle.law_network.specs.Calls.{Acts}
use Rattle.law_network.specs.Calls as call
use Rattle.law_network.specs.Common.{common_of}
use Rattle.law_network.specs.Falling as falling
use Rattle.law_network.specs.Network.{HostEnd}
use Rattle.law_network.specs.Steps.{end_of_guest, begun_by, begun}
use Rattle.law_network.proofs.Guests.{guest-named, guest-none, guest, guest-begins}
use Rattle.law_network.proofs.Seats.{available-there, is_open, seat-there}
use Rattle.law_network.proofs.Worlds.{IsFresh, fresh-seat, not-fresh}
use Rattle.enet_site.specs.Private.Sites.{AreShown, begun_if}

-- the next name is that of the slot that is given out next
pub record IsNext (h : Host) (name : PeerRef) : Type 0 where
  pub place : ℕ
  pub slot : SlotState
  pub free : available h.config h.slots ≡ Some place
  pub there : slice_get h.slots place ≡ Some slot
  pub named : name ≡ name_of place slot

next-in : (h : Host) (name : PeerRef) (o : Option ℕ) → available h.config h.slots ≡ o → option_and_then (λ i. option_map (name_of i) (slice_get h.slots i)) o ≡ Some name → IsNext h name
next-in h name None free is = absurd (let y : ◌≡◌ {A = Option PeerRef} None (Some name) = is in cc)
next-in h name (Some i) free is =
    let s = available-there h.config h.slots i free in
    record {
      place = i;
      slot = s.0;
      free = free;
      there = s.1;
      named = (let y : ◌≡◌ {A = Option PeerRef} (Some (name_of i s.0)) (Some name) = sym (ap (λ (o : Option SlotState). option_map (name_of i) o) s.1) ∙ is in cc);
    }

pub next-is : (h : Host) (name : PeerRef) → next_name h.config h.slots ≡ Some name → IsNext h name
next-is h name is = next-in h name (available h.config h.slots) refl is

none-in : (h : Host) (o : Option ℕ) → available h.config h.slots ≡ o → option_and_then (λ i. option_map (name_of i) (slice_get h.slots i)) o ≡ None → o ≡ None
none-in h None free is = refl
none-in h (Some i) free is =
    let s = available-there h.config h.slots i free in
    absurd (let y : ◌≡◌ {A = Option PeerRef} (Some (name_of i s.0)) None = sym (ap (λ (o : Option SlotState). option_map (name_of i) o) s.1) ∙ is in cc)

pub next-none : (h : Host) → next_name h.config h.slots ≡ None → available h.config h.slots ≡ None
next-none h is = none-in h (available h.config h.slots) refl is

-- a host that asks

pub none-asked : (h : Host) (address : Addr) (channels info word : ℕ) → channels ≡ 0 → Acts (call.Connect address channels info word (Err refusal.BadConfig)) h h
none-asked h address channels info word zero = (no_channel zero, refl)

pub none-left : (h : Host) (address : Addr) (channels info word : ℕ) → channels ≢ 0 → next_name h.config h.slots ≡ None → Acts (call.Connect address channels info word (Err refusal.NoSlot)) h h
none-left h address channels info word some none = (no_slot some (next-none h none), refl)

pub none-wanting : (h : Host) (address : Addr) (channels info word : ℕ) (name : PeerRef) → channels ≢ 0 → next_name h.config h.slots ≡ Some name → Acts (call.Connect address channels info word (Err refusal.Memory)) h h
none-wanting h address channels info word name some is = (let n = next-is h name is in (no_memory n.place some n.free, refl))

-- no end has the next name

pub next-fresh : (h : Host) (name : PeerRef) → next_name h.config h.slots ≡ Some name → IsFresh h name
next-fresh h name is =
    let n = next-is h name is in
    let open' = is_open h.config h.slots n.place n.slot n.free n.there in
    subst (IsFresh h) (sym n.named) (record { slot = n.slot; there = n.there; left = open'.1; future = inr (refl, open'.0) })

pub next-other : (h : Host) (ends : List HostEnd) (name : PeerRef) → AreShown h ends → next_name h.config h.slots ≡ Some name → (f : HostEnd) → Has ends f → f.name ≢ name
next-other h ends name k is f there same = (let s = k f there in not-fresh h f name s.0 s.1 (next-fresh h name is) (sym same))

-- nor the name of a guest

record IsGuestName (h : Host) (from : Addr) (name : PeerRef) : Type 0 where
  place : ℕ
  slot : SlotState
  at : seat (host_basis h) from h.slots ≡ Some place
  there : slice_get h.slots place ≡ Some slot
  named : name ≡ name_of place (readied slot)

guest-is : (h : Host) (from : Addr) (name : PeerRef) → guest_name (host_basis h) from h.slots ≡ Some name → IsGuestName h from name
guest-is h from name is = by (seat (host_basis h) from h.slots) refl
  where
    some-name : (m : PeerRef) → ◌≡◌ {A = Option PeerRef} (Some m) (Some name) → name ≡ m
    some-name m e = (let y : ◌≡◌ {A = Option PeerRef} (Some m) (Some name) = e in cc)

    by : (o : Option ℕ) → seat (host_basis h) from h.slots ≡ o → IsGuestName h from name
    by None none = absurd (let y : ◌≡◌ {A = Option PeerRef} None (Some name) = sym (guest-none (host_basis h) from h.slots none) ∙ is in cc)
    by (Some i) at =
        let s = seat-there (host_basis h) from h.slots i at in
        record { place = i; slot = s.0; at = at; there = s.1; named = some-name (name_of i (readied s.0)) (sym (guest-named (host_basis h) from h.slots i s.0 at s.1) ∙ is) }

guest-fresh : (h : Host) (from : Addr) (name : PeerRef) → Keeps h → guest_name (host_basis h) from h.slots ≡ Some name → IsFresh h name
guest-fresh h from name keeps is = (let g = guest-is h from name is in subst (IsFresh h) (sym g.named) (fresh-seat h from g.place g.slot keeps.generations g.at g.there))

pub guest-other : (h : Host) (from : Addr) (ends : List HostEnd) (name : PeerRef) → Keeps h → AreShown h ends → guest_name (host_basis h) from h.slots ≡ Some name → (f : HostEnd) → Has ends f → f.name ≢ name
guest-other h from ends name keeps k is f there same = (let s = k f there in not-fresh h f name s.0 s.1 (guest-fresh h from name keeps is) (sym same))

-- the end that begins where a datagram is answered

end-if : (x : ℕ) (name : PeerRef) (o : Option Peering) (b : Bool) → b ≡ is_some (option_map (λ (p : Peering). p.state) o) → end_of_guest x name o ≡ begun_if b x name
end-if x name None b is = ap (λ (c : Bool). begun_if c x name) (sym is)
end-if x name (Some p) b is = ap (λ (c : Bool). begun_if c x name) (sym is)

pub begins-if : (x : ℕ) (from : Addr) (old new : Host) (name : PeerRef) (b : Bool) (o : Option PeerState) → guest_name (host_basis old) from old.slots ≡ Some name → b ≡ is_some o → o ≡ option_map (λ (p : Peering). p.state) (named new.slots name)
    → begun x from old new ≡ begun_if b x name
begins-if x from old new name b o next is state = ap (λ (g : Option PeerRef). begun_by x g new) next ∙ end-if x name (named new.slots name) b (is ∙ ap is_some state)

pub begun-none : (x : ℕ) (from : Addr) (old new : Host) → guest_name (host_basis old) from old.slots ≡ None → begun x from old new ≡ []
begun-none x from old new none = ap (λ (g : Option PeerRef). begun_by x g new) none

-- a datagram to a peer begins none

none-has : (ends : List HostEnd) → ((f : HostEnd) → Has ends f → ⊥) → ends ≡ []
none-has [] none = refl
none-has (f ∷ ends) none = absurd (none f (inl refl))

not-offered : (from : Addr) (bytes : List ℕ) (answer : Received) (h : Host) (i : ℕ) (s t : SlotState) → ((header : Header) (commands : List ℕ) → IsRead bytes header commands → header.peer ≢ no_peer) → falling.Begins (call.Receive from bytes answer) (common_of h) i s t → ⊥
not-offered from bytes answer h i s t other (falling.asks address channels info word is some at) = absurd (cc)
not-offered from bytes answer h i s t other (falling.answers from' bytes' commands header o is read nobody offer fits new at) =
    (let same : bytes ≡ bytes' = cc in other header commands (subst (λ (l : List ℕ). IsRead l header commands) (sym same) read) nobody)

pub begun-nothing : (x : ℕ) (old new : Host) (from : Addr) (bytes : List ℕ) (answer : Received) → Keeps old → Acts (call.Receive from bytes answer) old new → ((header : Header) (commands : List ℕ) → IsRead bytes header commands → header.peer ≢ no_peer)
    → begun x from old new ≡ []
begun-nothing x old new from bytes answer keeps acts other =
    none-has (begun x from old new) (λ f h. (let g = guest x from old new f h in let b = guest-begins (call.Receive from bytes answer) x from old new f keeps.generations acts g in not-offered from bytes answer old g.number b.0 g.held.slot other b.1))
