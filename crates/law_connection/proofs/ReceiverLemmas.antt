-- What a receiver with unbounded numbers has received, and what it lacks.
use Rattle.std.proofs.Common.{◌≡◌, ℕ, ◌+◌, ◌-◌, ◌<◌, ◌≤◌, Bool, true, false, cond, List, refl, sym, ap, ◌∙◌, inl, inr, ◌⊎◌, arith, Option, Some, None, zero, suc}
use Rattle.std.specs.Ordering.{nat_cmp}
use Rattle.std.specs.FinMap.{get, len, empty_of_len, get-empty}
use Rattle.enet_seq.specs.Numbering.{unbounded}
use Rattle.enet_fragment.specs.Whole.{is_whole}
use Rattle.enet_fragment.specs.PartialPacket.{count_of}
use Rattle.enet_packets.specs.declared.incoming_packet.IncomingPacket.{IncomingPacket}
use Rattle.enet_receiver.specs.Receiver.{Receiver, without, with_dispatched, next_whole, released_with, released}
use Rattle.enet_sender.specs.CommandChoice.{ChosenPacket}
pub use Rattle.law_connection.specs.Keeps.{IsReceived}
use Rattle.law_connection.proofs.Makings.{has_piece-some, whole-has, missing}
use Rattle.enet_receiver.proofs.Without.{get-without_inside, get-without_outside, get_without, len-without_first}
use Rattle.law_connection.proofs.CarriageLemmas.{Stands-has, same_start}
use Rattle.law_connection.proofs.ContentLemmas.{OfReliable, Ready, Ready-dispatched}
use Rattle.law_connection.specs.Meant.{has_piece}

-- the front and what is held stay within what was sent
pub record Within (sent : ℕ) (r : Receiver) : Type 0 where
  pub front : r.front ≤ sent
  pub held : (n : ℕ) (e : IncomingPacket) → get r.held n ≡ Some e → (r.front < n) × ((i : ℕ) → has_piece e.making i ≡ true → n + i ≤ sent)

-- what was received stays received, and the front doesn't fall
pub record Grows (old new : Receiver) : Type 0 where
  pub front : old.front ≤ new.front
  pub received : (m : ℕ) → IsReceived old m → IsReceived new m

pub Grows-same : (r : Receiver) → Grows r r
Grows-same r = record { front = omega arith; received = λ m h. h }

pub Grows-trans : (a b c : Receiver) → Grows a b → Grows b c → Grows a c
Grows-trans a b c g h = record { front = let x = g.front in let y = h.front in omega arith; received = λ m k. h.received m (g.received m k) }

-- a number at most 16,384 above the front is not received, and nothing whole stands just past the front
abbrev pub Lacks : Receiver → Type 0
Lacks r = (g : ℕ) × (r.front < g) × (g ≤ r.front + 16384) × (IsReceived r g → ⊥) × (next_whole (get r.held (r.front + 1)) ≡ None)

-- what a dispatch of one packet keeps, the whole release keeps
pub released-keeps : (P : Receiver → Type 0) → ((r : Receiver) (c : IncomingPacket) → get r.held (r.front + 1) ≡ Some c → is_whole c.making ≡ true → P r → P (with_dispatched unbounded r c)) → (most : ℕ) (r : Receiver) → P r → P (released unbounded most r)
unfolding released
released-keeps P step zero r h = h
released-keeps P step (suc most) r h = go (released-keeps P step most) (get r.held (r.front + 1)) refl
  where
    go : ((x : Receiver) → P x → P (released unbounded most x)) → (o : Option IncomingPacket) → get r.held (r.front + 1) ≡ o → P (released_with (released unbounded most) unbounded r (next_whole o))
    go rest None e = h
    go rest (Some c) e = elim (is_whole c.making) as (λ b. is_whole c.making ≡ b → P (released_with (released unbounded most) unbounded r (cond b (Some c) None))) [
      | true ↦ λ w. rest (with_dispatched unbounded r c) (step r c e w h)
      | false ↦ λ w. h
    ] refl

-- the pieces of what is held at a number
piece_inside : (mtu : ℕ) (cs : List ChosenPacket) (r : Receiver) (n : ℕ) (e : IncomingPacket) (i : ℕ) → Ready mtu cs r → (t : get r.held n ≡ Some e) → has_piece e.making i ≡ true → (p : OfReliable mtu cs n e.making) × (i < p.packet.pieces)
piece_inside mtu cs r n e i k t h =
    let p = k.held n e t in
    let x = has_piece-some e.making i h in
    let m = p.matches in
    (p, (m.pieces i x.0 x.1).0)

pub Within-dispatched : (mtu : ℕ) (cs : List ChosenPacket) (sent : ℕ) (r : Receiver) (c : IncomingPacket) → get r.held (r.front + 1) ≡ Some c → is_whole c.making ≡ true → Ready mtu cs r → Within sent r → Within sent (with_dispatched unbounded r c)
Within-dispatched mtu cs sent r c e w k s =
    let p = k.held (r.front + 1) c e in
    let cut = k.cut p.packet (Stands-has cs p.number p.count p.packet p.stands) in
    let m = p.matches in
    let size = cut.some' in
    let last = whole-has c.making (count_of c.making - 1) w (let a = m.count in omega arith) in
    let reach = (s.held (r.front + 1) c e).1 (count_of c.making - 1) last in
    record {
      front = let a = m.count in omega arith;
      held = λ n x t.
          let old = s.held n x (get_without unbounded r.held (r.front + 1) (count_of c.making) n x t) in (
            elim (less_or_not (r.front + (count_of c.making)) n) [
              | inl above ↦ above
              | inr below ↦ absurd (let low = old.0 in let f : get (without unbounded r.held (r.front + 1) (count_of c.making)) n ≡ None = get-without_inside r.held (r.front + 1) (count_of c.making) n (omega arith) (omega arith) in (let g : Some x ≡ None = sym t ∙ f in cc))
            ],
            old.1,
          );
    }
  where
    less_or_not : (a b : ℕ) → (a < b) ⊎ (b ≤ a)
    less_or_not a b = grind arith

pub Grows-dispatched : (mtu : ℕ) (cs : List ChosenPacket) (sent : ℕ) (r : Receiver) (c : IncomingPacket) → get r.held (r.front + 1) ≡ Some c → Ready mtu cs r → Within sent r → Grows r (with_dispatched unbounded r c)
Grows-dispatched mtu cs sent r c e k s = record {
  front = omega arith;
  received = λ m h. elim h [
    | inl low ↦ inl (omega arith)
    | inr w ↦ kept m w.0 w.1 w.2 w.3 w.4
  ];
}
  where
    less_or_not : (a b : ℕ) → (a < b) ⊎ (b ≤ a)
    less_or_not a b = grind arith

    kept : (m n : ℕ) (x : IncomingPacket) → get r.held n ≡ Some x → n ≤ m → has_piece x.making (m - n) ≡ true → IsReceived (with_dispatched unbounded r c) m
    kept m n x t low h =
        let mine = piece_inside mtu cs r n x (m - n) k t h in
        let q = mine.0 in
        let inside = mine.1 in
        let p = k.held (r.front + 1) c e in
        let above = (s.held n x t).0 in
        let pm = p.matches in
        let qm = q.matches in
        let qp = q.place in
        let pp = p.place in
        elim (less_or_not (r.front + (count_of c.making)) n) [
          | inl beyond ↦ inr (n, x, get-without_outside r.held (r.front + 1) (count_of c.making) n (inr (omega arith)) ∙ t, low, h)
          | inr within ↦
              let same : p.number ≡ q.number = same_start cs p.number q.number p.count q.count n p.packet q.packet p.stands q.stands p.reliable q.reliable (omega arith) (let a = pm.count in omega arith) (omega arith) (omega arith) in
              let first : n ≡ r.front + 1 = omega arith in
              let is : Some x ≡ Some c = sym t ∙ ap (get r.held) first ∙ e in
              let it : x ≡ c = cc in
              let size : (count_of x.making) ≡ (count_of c.making) = ap (λ (y : IncomingPacket). (count_of y.making)) it in
              inl (let a = qm.count in omega arith)
        ]

-- with enough turns nothing whole is left behind the front
nothing_held : (x : Receiver) → len x.held ≡ 0 → get x.held (x.front + 1) ≡ None
nothing_held x e = ap (λ m. get m (x.front + 1)) (empty_of_len x.held e) ∙ get-empty nat_cmp (x.front + 1)

pub released-gap : (mtu : ℕ) (cs : List ChosenPacket) (most : ℕ) (r : Receiver) → Ready mtu cs r → len r.held ≤ most → next_whole (get (released unbounded most r).held ((released unbounded most r).front + 1)) ≡ None
unfolding released
released-gap mtu cs zero r k h = ap next_whole (nothing_held r (omega arith))
released-gap mtu cs (suc most) r k h = go (released-gap mtu cs most) (get r.held (r.front + 1)) refl
  where
    ends : (o : Option IncomingPacket) → get r.held (r.front + 1) ≡ o → next_whole o ≡ None → next_whole (get r.held (r.front + 1)) ≡ None
    ends o e n = ap next_whole e ∙ n

    go : ((x : Receiver) → Ready mtu cs x → len x.held ≤ most → next_whole (get (released unbounded most x).held ((released unbounded most x).front + 1)) ≡ None)
        → (o : Option IncomingPacket) → get r.held (r.front + 1) ≡ o → let s : Receiver = released_with (released unbounded most) unbounded r (next_whole o) in next_whole (get s.held (s.front + 1)) ≡ None
    go rest None e = ends None e refl
    go rest (Some c) e = elim (is_whole c.making) as (λ b. is_whole c.making ≡ b → let s : Receiver = released_with (released unbounded most) unbounded r (cond b (Some c) None) in next_whole (get s.held (s.front + 1)) ≡ None) [
      | true ↦ λ w.
          let p = k.held (r.front + 1) c e in
          let cut = k.cut p.packet (Stands-has cs p.number p.count p.packet p.stands) in
          let size : 0 < (count_of c.making) = let a = cut.some' in let b = p.matches in let d = b.count in omega arith in
          let one : r.front + 1 + 0 ≡ r.front + 1 = omega arith in
          let less = len-without_first unbounded r.held (r.front + 1) (count_of c.making) c one size e in
          rest (with_dispatched unbounded r c) (Ready-dispatched mtu cs r c e w k) (omega arith)
      | false ↦ λ w. ends (Some c) e (ap (λ b. cond b (Some c) None) w)
    ] refl

-- where nothing whole stands behind the front, the packet that the front waits for lacks a number
pub Lacks-from_gap : (mtu : ℕ) (cs : List ChosenPacket) (sent : ℕ) (r : Receiver) → Ready mtu cs r → Within sent r → next_whole (get r.held (r.front + 1)) ≡ None → Lacks r
Lacks-from_gap mtu cs sent r k s gap = go (get r.held (r.front + 1)) refl gap
  where
    go : (o : Option IncomingPacket) → get r.held (r.front + 1) ≡ o → next_whole o ≡ None → Lacks r
    go None e n = (
      r.front + 1,
      omega arith,
      omega arith,
      elim [
        | inl low ↦ omega arith
        | inr w ↦
            let above = (s.held w.0 w.1 w.2).0 in
            let low = w.3 in
            let is : w.0 ≡ r.front + 1 = omega arith in
            (let f : Some w.1 ≡ None = sym w.2 ∙ ap (get r.held) is ∙ e in cc)
      ],
      gap,
    )
    go (Some c) e n =
        let m = missing c.making (not_whole (is_whole c.making) n) in
        let i = m.0 in
        let low = m.1 in
        let p = k.held (r.front + 1) c e in
        let pm = p.matches in
        let pc = pm.count in
        let pp = p.place in
        let cut = k.cut p.packet (Stands-has cs p.number p.count p.packet p.stands) in
        let few = cut.few in (
          r.front + 1 + i,
          omega arith,
          omega arith,
          elim [
            | inl below ↦ omega arith
            | inr w ↦
                let mine = piece_inside mtu cs r w.0 w.1 (r.front + 1 + i - w.0) k w.2 w.4 in
                let q = mine.0 in
                let inside = mine.1 in
                let qp = q.place in
                let above = (s.held w.0 w.1 w.2).0 in
                let least = w.3 in
                let same : p.number ≡ q.number = same_start cs p.number q.number p.count q.count (r.front + 1 + i) p.packet q.packet p.stands q.stands p.reliable q.reliable (omega arith) (omega arith) (omega arith) (omega arith) in
                let first : w.0 ≡ r.front + 1 = omega arith in
                let is : Some w.1 ≡ Some c = sym w.2 ∙ ap (get r.held) first ∙ e in
                let it : w.1 ≡ c = cc in
                let index : r.front + 1 + i - w.0 ≡ i = omega arith in
                (let f : true ≡ false = sym w.4 ∙ ap (λ (y : IncomingPacket). has_piece y.making (r.front + 1 + i - w.0)) it ∙ ap (has_piece c.making) index ∙ m.2 in cc)
          ],
          gap,
        )
      where
        not_whole : (b : Bool) → cond b (Some c) None ≡ None → b ≡ false
        not_whole true f = absurd (cc)
        not_whole false f = refl
