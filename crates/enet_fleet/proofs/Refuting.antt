-- The false lists are refuted.
use Rattle.std.proofs.Common.{◌≡◌, inl, inr, ℕ, zero, suc, ◌+◌, ◌<◌, ◌≤◌, ◌%◌, ◌&&◌, arith, Bool, true, false, cond, nat_le, not, refl, sym, ap, subst, ◌∙◌, Option, Some, None, List, [], ◌∷◌, ◌++◌, length, take, slice_get}
use Rattle.std.proofs.lemmas.Bool.Decides.{nat_tests}
use Rattle.std.proofs.lemmas.List.{length-append}
use Rattle.enet_codec.specs.declared.address.Addr.{Addr}
use Rattle.enet_codec.specs.declared.event.PeerRef.{PeerRef}
use Rattle.enet_codec.specs.declared.packet.Packet.{Packet}
use Rattle.law_unsequenced.specs.Law.{AreDistinct}
use Rattle.law_unsequenced.specs.Unsequenced.{TakenAs, Each}
use Rattle.law_network.specs.Network.{is_same_name}
use Rattle.law_network.proofs.Submitting.{same-some}
use Rattle.law_headline.specs.declared.node.Node.TheVariants.{Server, Client}
use Rattle.law_headline.specs.Page.{Follows, in_order, IsInOrder, submitted_if}
use Rattle.law_headline.proofs.Page.{back-follows}
use Rattle.law_headline.proofs.Kept.{name-slot, name-generation}
use Rattle.enet_fleet.specs.Fleets.{address_of}
use Rattle.enet_fleet.specs.Transcript.{Happened, IsOnTranscript, user, asked, placed}
use Rattle.enet_fleet.specs.Examples.{stranger}
use Rattle.enet_fleet.specs.Refuted.{first, second, lie, swap, loan, early, slip, cross, double, NamesAreTied, OwnNamesAlone, LieIsRefuted, SwapIsRefuted, LoanIsRefuted, EarlyIsRefuted, AstrayIsRefuted, MirrorIsRefuted, SlipIsRefuted, CrossIsRefuted, DoubleIsRefuted, TwiceIsRefuted}

pub tied : NamesAreTied
tied clients hs h p k i low told all =
    let r = h.at_client p k i told low in
    absurd (let z : ◌≡◌ {A = Option PeerRef} None (Some p) = sym (all r.0) ∙ r.1 in cc)

pub alone : OwnNamesAlone
alone clients hs h x i k there p a is at other here = other (h.here_at x i k there p a is here at)

-- of one packet no other byte comes first
abbrev packet : ℕ → Packet
packet byte = record { channel = 0; flags = 1; body = byte ∷ [] }

not-first : (byte other : ℕ) (more : List (List ℕ)) → (byte ≡ other → ⊥) → Follows (packet byte ∷ []) ((other ∷ []) ∷ more) → ⊥
not-first byte other more n (inl same) = n (let z : ◌≡◌ {A = List ℕ} (byte ∷ []) (other ∷ []) = same.0 in cc)
not-first byte other more n (inr skip) = absurd skip.1

pub lied : LieIsRefuted
lied h =
    let r = h.at_client first 0 0 refl (let l : 0 < 1 = omega arith in l) in
    by r.0 r.2 r.1 r.3
  where
    by : (x : ℕ) (there : PeerRef) → h.headline.here x ≡ Some first → slice_get (asked lie) x ≡ Some (0, there) → ⊥
    by zero there here is =
        let o : IsInOrder (user (Client 0) lie) (user Server lie) first (h.headline.here 0) = h.headline.each 0 0 first refl in
        let q : IsInOrder (user (Client 0) lie) (user Server lie) first (Some first) = subst (λ (z : Option PeerRef). IsInOrder (user (Client 0) lie) (user Server lie) first z) here o in
        not-first 1 2 ((2 ∷ []) ∷ (3 ∷ []) ∷ []) (λ (e : 1 ≡ 2). (omega arith)) (q.forth 0 (let l : 0 < 256 = omega arith in l))
    by (suc x) there here is = absurd (let z : ◌≡◌ {A = Option (ℕ × PeerRef)} None (Some (0, there)) = is in cc)

pub swapped : SwapIsRefuted
swapped h =
    let r = h.at_client first 0 1 refl (let l : 1 < 2 = omega arith in l) in
    by r.0 r.2 r.1 r.3
  where
    by : (x : ℕ) (there : PeerRef) → h.headline.here x ≡ Some first → slice_get (asked swap) x ≡ Some (1, there) → ⊥
    by zero there here is = absurd (let n : 0 ≡ 1 = ap (λ (a : ℕ × PeerRef). a.0) (same-some (0, first) (1, there) is) in omega arith)
    by (suc zero) there here is =
        let o : IsInOrder (user (Client 1) swap) (user Server swap) first (h.headline.here 1) = h.headline.each 1 1 first refl in
        let q : IsInOrder (user (Client 1) swap) (user Server swap) first (Some first) = subst (λ (z : Option PeerRef). IsInOrder (user (Client 1) swap) (user Server swap) first z) here o in
        not-first 2 1 [] (λ (e : 2 ≡ 1). (omega arith)) (q.forth 0 (let l : 0 < 256 = omega arith in l))
    by (suc (suc x)) there here is = absurd (let z : ◌≡◌ {A = Option (ℕ × PeerRef)} None (Some (1, there)) = is in cc)

same-name : (a b : PeerRef) → is_same_name a b ≡ true → a ≡ b
same-name a b e = (λ i. record { slot = name-slot a b e i; generation = name-generation a b e i })

pub lent : LoanIsRefuted
lent h = by (h.headline.here 1) refl
  where
    comes : (o : Option PeerRef) → h.headline.here 1 ≡ o → Follows (submitted_if (user Server loan) o 0) ((7 ∷ []) ∷ [])
    comes o here =
        let q : IsInOrder (user (Client 0) loan) (user Server loan) second o =
        subst (λ (z : Option PeerRef). IsInOrder (user (Client 0) loan) (user Server loan) second z) here (h.headline.each 1 0 second refl) in
        back-follows (user (Client 0) loan) (user Server loan) second o q 0 (let l : 0 < 256 = omega arith in l)

    -- the stranger's peer is told to be elsewhere, and to nobody else the server's user submitted
    at : (p : PeerRef) → h.headline.here 1 ≡ Some p → (b : Bool) → is_same_name p first ≡ b → Follows (cond (b && true) (packet 7 ∷ []) [] ++ []) ((7 ∷ []) ∷ []) → ⊥
    at p here true same f =
        let e : stranger ≡ address_of (Client 0) = h.here_at 1 0 0 second first stranger refl (here ∙ ap (λ (q : PeerRef). Some q) (same-name p first same)) refl in
        let ip : ◌≡◌ {A = ℕ} 0x0A000909 0x0A000002 = ap (λ (a : Addr). a.ip) e in omega arith
    at p here false same f = absurd f

    by : (o : Option PeerRef) → h.headline.here 1 ≡ o → ⊥
    by None here = absurd (comes None here)
    by (Some p) here = at p here (is_same_name p first) refl (comes (Some p) here)

-- the one connection so far, of the server's first peer
only-one : (hs : List Happened) (h : IsOnTranscript 1 hs) → slice_get (placed Server first hs) 0 ≡ Some (address_of (Client 0)) → asked hs ≡ (0, first) ∷ [] → h.headline.here 0 ≡ Some first
only-one hs h told is =
    let r = h.at_client first 0 0 told (let l : 0 < 1 = omega arith in l) in
    by r.0 r.2 r.1 (ap (λ (l : List (ℕ × PeerRef)). slice_get l r.0) (sym is) ∙ r.3)
  where
    by : (x : ℕ) (there : PeerRef) → h.headline.here x ≡ Some first → slice_get {X = ℕ × PeerRef} ((0, first) ∷ []) x ≡ Some (0, there) → h.headline.here 0 ≡ Some first
    by zero there here at = here
    by (suc x) there here at = absurd (let z : ◌≡◌ {A = Option (ℕ × PeerRef)} None (Some (0, there)) = at in cc)

-- client 0 calls its peer of the first connection so, and the server its own
in-order : (hs : List Happened) (h : IsOnTranscript 1 hs) → slice_get (asked hs) 0 ≡ Some (0, first) → h.headline.here 0 ≡ Some first → IsInOrder (user (Client 0) hs) (user Server hs) first (Some first)
in-order hs h is here = subst (λ (z : Option PeerRef). IsInOrder (user (Client 0) hs) (user Server hs) first z) here (h.headline.each 0 0 first is)

pub too-early : EarlyIsRefuted
too-early h =
    let t : IsOnTranscript 1 (take 4 early) = h.front 4 in
    let o = in-order (take 4 early) t refl (only-one (take 4 early) t refl refl) in
    let f : Follows [] ((1 ∷ []) ∷ []) = o.forth 0 (let l : 0 < 256 = omega arith in l) in
    absurd f

pub led-astray : AstrayIsRefuted
led-astray h = h.no_client first 0 0 1 (let l : 1 < 2 = omega arith in l) refl

pub mirrored : MirrorIsRefuted
mirrored h = h.no_server first 0 refl

pub slipped : SlipIsRefuted
slipped h = by w.0 w.1 w.2
  where
    o : IsInOrder (user (Client 0) slip) (user Server slip) first (Some first)
    o = in-order slip h refl (only-one slip h refl refl)

    -- nothing was submitted to go so
    w : (j : ℕ) × (s : Packet) × (slice_get {X = Packet} [] j ≡ Some s) × (s.body ≡ 2 ∷ []) × (s.flags % 4 ≡ 2)
    w = o.unsequenced_forth 0 (let l : 0 < 256 = omega arith in l) 1 first (record { channel = 0; flags = 2; body = 2 ∷ [] }) refl refl refl

    by : (j : ℕ) (s : Packet) → slice_get {X = Packet} [] j ≡ Some s → ⊥
    by j s at = absurd (let z : ◌≡◌ {A = Option Packet} None (Some s) = at in cc)

pub crossed : CrossIsRefuted
crossed h = by (o.forth 0 (let l : 0 < 256 = omega arith in l))
  where
    here : (h.front 13).headline.here 0 ≡ Some first
    here = h.stays 5 13 0 first (let l : 5 ≤ 13 = omega arith in l) (only-one (take 5 cross) (h.front 5) refl refl)

    o : IsInOrder (user (Client 0) (take 13 cross)) (user Server (take 13 cross)) first (Some first)
    o = in-order (take 13 cross) (h.front 13) refl here

    by : Follows (packet 1 ∷ packet 3 ∷ []) ((1 ∷ []) ∷ (2 ∷ []) ∷ []) → ⊥
    by (inl same) = not-first 3 2 [] (λ (e : 3 ≡ 2). (omega arith)) same.1
    by (inr skip) = absurd (let z : 1 % 2 ≡ 0 = skip.0 in omega arith)

-- a packet that goes unsequenced
abbrev loose : Packet
loose = record { channel = 0; flags = 2; body = 7 ∷ [] }

pub doubled : DoubleIsRefuted
doubled h = by o.room_forth o.is_room_forth.least (o.forth 0 (let l : 0 < 256 = omega arith in l))
  where
    o : IsInOrder (user (Client 0) double) (user Server double) first (Some first)
    o = in-order double h refl (only-one double h refl refl)

    fits : (room : ℕ) → 512 ≤ room → nat_le 1 room ≡ true
    fits room least = grind (arith, nat_tests)

    -- it fits a command, so it doesn't go in order
    by : (room : ℕ) → 512 ≤ room → Follows (in_order room (loose ∷ [])) ((7 ∷ []) ∷ []) → ⊥
    by room least f = subst (λ (b : Bool). Follows (cond (not b) (loose ∷ []) []) ((7 ∷ []) ∷ [])) (fits room least) f

-- of one packet none is another than the first
the-first : (p q : Packet) (n : ℕ) → TakenAs (p ∷ []) n q → n ≡ 1
the-first p q n t =
    let long : 1 ≡ length t.before + length (t.packet ∷ t.later) = ap length t.split ∙ length-append t.before (t.packet ∷ t.later) in
    let number : n ≡ length t.before + 1 = t.number in
    omega arith

pub taken-twice : TwiceIsRefuted
taken-twice p q r k = by k.0 k.1 k.2
  where
    by : (numbers : List ℕ) → Each (TakenAs (p ∷ [])) numbers (q ∷ r ∷ []) → AreDistinct numbers → ⊥
    by [] e d = absurd e
    by (a ∷ []) e d = absurd e.1
    by (a ∷ b ∷ []) e d = d 0 1 0 (omega arith) (omega arith) (the-first p q a e.0 ∙ sym (the-first p r b e.1.0))
    by (a ∷ b ∷ c ∷ more) e d = absurd e.1.1
