-- Packets and their commands in the list of what was submitted.
use Rattle.std.proofs.Common.{◌≡◌, ℕ, ◌+◌, ◌-◌, ◌*◌, ◌<◌, ◌≤◌, true, false, cond, List, [], ◌∷◌, ◌++◌, length, refl, sym, ap, subst, ◌∙◌, inl, inr, ◌⊎◌, arith, append_assoc}
use Rattle.std.proofs.lemmas.List.{append-nil}
use Rattle.enet_fragment.specs.Cutting.{piece_length}
use Rattle.enet_sender.specs.CommandChoice.{ChosenPacket}
pub use Rattle.law_connection.specs.Meant.{Stands}
use Rattle.law_connection.proofs.Lists.{Has, Cuts, two_cuts}
use Rattle.law_connection.specs.Follows.{command_count, FollowsCarried, count_after}

-- a packet is cut into 1 to 16,384 pieces that cover it, and no fewer cover it
pub record IsCut (mtu : ℕ) (c : ChosenPacket) : Type 0 where
  pub some' : 0 < c.pieces
  pub few : c.pieces ≤ 16384
  pub covered : length c.packet.body ≤ c.pieces * piece_length mtu
  pub tight : (c.pieces - 1) * piece_length mtu ≤ length c.packet.body

abbrev pub AllCut : ℕ → List ChosenPacket → Type 0
AllCut mtu cs = (c : ChosenPacket) → Has cs c → IsCut mtu c

pub Has-append_left : {X : Type 0} (a b : List X) (x : X) → Has a x → Has (a ++ b) x
Has-append_left [] b x h = absurd h
Has-append_left (y ∷ a) b x (inl e) = inl e
Has-append_left (y ∷ a) b x (inr h) = inr (Has-append_left a b x h)

pub Has-append_right : {X : Type 0} (a b : List X) (x : X) → Has b x → Has (a ++ b) x
Has-append_right [] b x h = h
Has-append_right (y ∷ a) b x h = inr (Has-append_right a b x h)

pub Has-middle : {X : Type 0} (a b : List X) (x : X) → Has (a ++ x ∷ b) x
Has-middle a b x = Has-append_right a (x ∷ b) x (inl refl)

-- the whole of the list was gone through: each reliable packet was dispatched
abbrev pub Consumed : List ChosenPacket → List (List ℕ) → Type 0
Consumed [] rs = rs ≡ []
Consumed (c ∷ cs) rs = ((rest : List (List ℕ)) × (rs ≡ c.packet.body ∷ rest) × Consumed cs rest) ⊎ ((c.reliable ≡ false) × Consumed cs rs)

pub Consumed-append : (a b : List ChosenPacket) (xs ys : List (List ℕ)) → Consumed a xs → Consumed b ys → Consumed (a ++ b) (xs ++ ys)
Consumed-append [] b xs ys h k = let e : xs ++ ys ≡ ys = ap (λ (l : List (List ℕ)). l ++ ys) h in rw e k
Consumed-append (c ∷ a) b xs ys (inl w) k =
    let e : xs ++ ys ≡ c.packet.body ∷ (w.0 ++ ys) = ap (λ (l : List (List ℕ)). l ++ ys) w.1 in
    inl (w.0 ++ ys, e, Consumed-append a b w.0 ys w.2 k)
Consumed-append (c ∷ a) b xs ys (inr w) k = inr (w.0, Consumed-append a b xs ys w.1 k)

pub command_count-append : (a b : List ChosenPacket) → command_count (a ++ b) ≡ command_count a + command_count b
command_count-append [] b = omega arith
command_count-append (c ∷ a) b =
    let rest = command_count-append a b in
    elim c.reliable as (λ r. cond r (command_count (a ++ b) + c.pieces) (command_count (a ++ b)) ≡ cond r (command_count a + c.pieces) (command_count a) + command_count b) [ true ↦ omega arith | false ↦ omega arith ]

pub command_count-reliable : (c : ChosenPacket) (cs : List ChosenPacket) → c.reliable ≡ true → command_count (c ∷ cs) ≡ command_count cs + c.pieces
command_count-reliable c cs r = ap (λ b. cond b (command_count cs + c.pieces) (command_count cs)) r

pub command_count-unreliable : (c : ChosenPacket) (cs : List ChosenPacket) → c.reliable ≡ false → command_count (c ∷ cs) ≡ command_count cs
command_count-unreliable c cs r = ap (λ b. cond b (command_count cs + c.pieces) (command_count cs)) r

-- packets of which none is reliable may all be left out
pub Consumed-none : (mtu : ℕ) (cs : List ChosenPacket) → AllCut mtu cs → command_count cs ≡ 0 → Consumed cs []
Consumed-none mtu [] all h = refl
Consumed-none mtu (c ∷ cs) all h =
    elim c.reliable as (λ r. c.reliable ≡ r → cond r (command_count cs + c.pieces) (command_count cs) ≡ 0 → Consumed (c ∷ cs) []) [
      | true ↦ λ e k. absurd (let x = all c (inl refl) in let y = x.some' in omega arith)
      | false ↦ λ e k. inr (e, Consumed-none mtu cs (λ d g. all d (inr g)) k)
    ] refl h

pub Follows-consumed : (a b : List ChosenPacket) (xs : List (List ℕ)) → Consumed a xs → FollowsCarried (a ++ b) xs
Follows-consumed [] b [] h = tt
Follows-consumed [] b (x ∷ xs) h = absurd (cc)
Follows-consumed (c ∷ a) b [] h = tt
Follows-consumed (c ∷ a) b (x ∷ xs) (inl w) =
    let same : c.packet.body ≡ x = let e : x ∷ xs ≡ c.packet.body ∷ w.0 = w.1 in cc in
    let tail : w.0 ≡ xs = let e : x ∷ xs ≡ c.packet.body ∷ w.0 = w.1 in cc in
    inl (same, Follows-consumed a b xs (subst (λ (l : List (List ℕ)). Consumed a l) tail w.2))
Follows-consumed (c ∷ a) b (x ∷ xs) (inr w) = inr (w.0, Follows-consumed a b (x ∷ xs) w.1)

-- less may be taken than was dispatched
pub Follows-front : (cs : List ChosenPacket) (xs ys : List (List ℕ)) → FollowsCarried cs (xs ++ ys) → FollowsCarried cs xs
Follows-front cs [] ys h = tt
Follows-front [] (x ∷ xs) ys h = absurd h
Follows-front (c ∷ cs) (x ∷ xs) ys (inl w) = inl (w.0, Follows-front cs xs ys w.1)
Follows-front (c ∷ cs) (x ∷ xs) ys (inr w) = inr (w.0, Follows-front cs (x ∷ xs) ys w.1)

pub Stands-more : (cs : List ChosenPacket) (x : ChosenPacket) (n k : ℕ) (c : ChosenPacket) → Stands cs n k c → Stands (cs ++ x ∷ []) n k c
Stands-more cs x n k c w = record {
  before = w.before;
  behind = w.behind ++ x ∷ [];
  number_is = w.number_is;
  count_is = w.count_is;
  whole = ap (λ (l : List ChosenPacket). l ++ x ∷ []) w.whole ∙ append_assoc w.before (c ∷ w.behind) (x ∷ []);
}

pub Stands-has : (cs : List ChosenPacket) (n k : ℕ) (c : ChosenPacket) → Stands cs n k c → Has cs c
Stands-has cs n k c w = subst (λ (l : List ChosenPacket). Has l c) (sym w.whole) (Has-middle w.before w.behind c)

-- what stands before the packet that follows those of `passed`
abbrev pub IsNext : List ChosenPacket → ChosenPacket → Type 0
IsNext left c = (skipped : List ChosenPacket) × (rest : List ChosenPacket) × (left ≡ skipped ++ c ∷ rest) × (command_count skipped ≡ 0)

next_inside : (before mid after left : List ChosenPacket) (c : ChosenPacket) → c.reliable ≡ true → 0 < c.pieces → command_count (before ++ mid) ≡ command_count before → c ∷ after ≡ mid ++ left → IsNext left c
next_inside before [] after left c t z n e = ([], after, sym e, refl)
next_inside before (x ∷ mid) after left c t z n e =
    let same : c ≡ x = cc in
    let k : command_count (c ∷ mid) ≡ command_count mid + c.pieces = command_count-reliable c mid t in
    let l : command_count (x ∷ mid) ≡ command_count (c ∷ mid) = ap (λ (y : ChosenPacket). command_count (y ∷ mid)) (sym same) in
    absurd (omega (arith, k, l, command_count-append before (x ∷ mid)))

pub Stands-next : (passed left : List ChosenPacket) (k : ℕ) (c : ChosenPacket) → c.reliable ≡ true → 0 < c.pieces → Stands (passed ++ left) (command_count passed) k c → IsNext left c
Stands-next passed left k c t z w =
    let go : Cuts passed left w.before (c ∷ w.behind) → IsNext left c = elim [
      | inl u ↦ next_inside w.before u.0 w.behind left c t z (let e : passed ≡ w.before ++ u.0 = u.1 in omega (arith, ap command_count e, w.number_is)) u.2
      | inr u ↦ (u.0, w.behind, u.2, let e : w.before ≡ passed ++ u.0 = u.1 in omega (arith, w.number_is, ap command_count e, command_count-append passed u.0))
    ] in
    go (two_cuts passed left w.before (c ∷ w.behind) w.whole)

pub count_after-append : (count : ℕ) (a b : List ChosenPacket) → count_after count (a ++ b) ≡ count_after (count_after count a) b
count_after-append count [] b = refl
count_after-append count (c ∷ a) b = count_after-append (cond c.reliable 0 (count + 1)) a b

count_after-none : (mtu count : ℕ) (cs : List ChosenPacket) → AllCut mtu cs → command_count cs ≡ 0 → count ≤ count_after count cs
count_after-none mtu count [] all h = omega arith
count_after-none mtu count (c ∷ cs) all h =
    elim c.reliable as (λ r. cond r (command_count cs + c.pieces) (command_count cs) ≡ 0 → count ≤ count_after (cond r 0 (count + 1)) cs) [
      | true ↦ λ k. absurd (let x = all c (inl refl) in let y = x.some' in omega arith)
      | false ↦ λ k. let f = count_after-none mtu (count + 1) cs (λ d g. all d (inr g)) k in omega arith
    ] h

pub count_after-push : (cs : List ChosenPacket) (c : ChosenPacket) → count_after 0 (cs ++ c ∷ []) ≡ cond c.reliable 0 (count_after 0 cs + 1)
count_after-push cs c = count_after-append 0 cs (c ∷ [])

-- what stands before the unreliable packet of these numbers
abbrev pub IsNextUnreliable : List ChosenPacket → List ChosenPacket → ℕ → ChosenPacket → Type 0
IsNextUnreliable passed left count c = (skipped : List ChosenPacket) × (rest : List ChosenPacket) × (left ≡ skipped ++ c ∷ rest) × (command_count skipped ≡ 0) × (count_after 0 (passed ++ skipped) ≡ count)

unreliable_inside : (mtu : ℕ) (before mid after left : List ChosenPacket) (c : ChosenPacket) (count : ℕ) → AllCut mtu mid → c.reliable ≡ false → command_count (before ++ mid) ≡ command_count before → count_after 0 before ≡ count → count_after 0 (before ++ mid) ≤ count → c ∷ after ≡ mid ++ left → IsNextUnreliable (before ++ mid) left count c
unreliable_inside mtu before [] after left c count all t n k low e =
    ([], after, sym e, refl, ap (λ (l : List ChosenPacket). count_after 0 l) (append-nil (before ++ []) ∙ append-nil before) ∙ k)
unreliable_inside mtu before (x ∷ mid) after left c count all t n k low e =
    let same : c ≡ x = cc in
    let r : x.reliable ≡ false = subst (λ (y : ChosenPacket). y.reliable ≡ false) same t in
    let one : command_count (x ∷ mid) ≡ command_count mid = command_count-unreliable x mid r in
    let none : command_count mid ≡ 0 = let f = command_count-append before (x ∷ mid) in omega arith in
    let a : count_after 0 (before ++ x ∷ mid) ≡ count_after (count_after 0 before + 1) mid = count_after-append 0 before (x ∷ mid) ∙ ap (λ b. count_after (cond b 0 (count_after 0 before + 1)) mid) r in
    let b = count_after-none mtu (count_after 0 before + 1) mid (λ d g. all d (inr g)) none in
    absurd (omega arith)

pub Stands-next_unreliable : (mtu : ℕ) (passed left : List ChosenPacket) (count : ℕ) (c : ChosenPacket) → AllCut mtu passed → c.reliable ≡ false → Stands (passed ++ left) (command_count passed) count c → count_after 0 passed ≤ count → IsNextUnreliable passed left count c
Stands-next_unreliable mtu passed left count c all t w low =
    let go : Cuts passed left w.before (c ∷ w.behind) → IsNextUnreliable passed left count c = elim [
      | inl k ↦
          let e : passed ≡ w.before ++ k.0 = k.1 in
          subst (λ (l : List ChosenPacket). IsNextUnreliable l left count c) (sym e)
          (unreliable_inside mtu w.before k.0 w.behind left c count (λ d g. all d (subst (λ (l : List ChosenPacket). Has l d) (sym e) (Has-append_right w.before k.0 d g))) t (ap command_count (sym e) ∙ sym w.number_is) w.count_is (subst (λ (l : List ChosenPacket). count_after 0 l ≤ count) e low) k.2)
      | inr k ↦
          let e : w.before ≡ passed ++ k.0 = k.1 in
          (k.0, w.behind, k.2, (let f = ap command_count e in let g = command_count-append passed k.0 in let h = w.number_is in omega arith), ap (λ (l : List ChosenPacket). count_after 0 l) (sym e) ∙ w.count_is)
    ] in
    go (two_cuts passed left w.before (c ∷ w.behind) w.whole)

-- two reliable packets don't overlap
pub same_start : (cs : List ChosenPacket) (s t j k n : ℕ) (c d : ChosenPacket) → Stands cs s j c → Stands cs t k d → c.reliable ≡ true → d.reliable ≡ true → s < n → n ≤ s + c.pieces → t < n → n ≤ t + d.pieces → s ≡ t
same_start cs s t j k n c d v w cr dr s1 s2 t1 t2 =
    let go : Cuts v.before (c ∷ v.behind) w.before (d ∷ w.behind) → s ≡ t = elim [
      | inl u ↦ one s t n c d w.before u.0 v.before w.behind v.behind u.1 u.2 dr v.number_is w.number_is s1 t2
      | inr u ↦ sym (one t s n d c v.before u.0 w.before v.behind w.behind u.1 u.2 cr w.number_is v.number_is t1 s2)
    ] in
    go (two_cuts v.before (c ∷ v.behind) w.before (d ∷ w.behind) (sym v.whole ∙ w.whole))
  where
    -- before = first ++ mid, and the packet behind first stands in mid or is the other
    one : (s t n : ℕ) (c d : ChosenPacket) (first mid before after beyond : List ChosenPacket) → before ≡ first ++ mid → d ∷ after ≡ mid ++ c ∷ beyond → d.reliable ≡ true → command_count before ≡ s → command_count first ≡ t → s < n → n ≤ t + d.pieces → s ≡ t
    one s t n c d first [] before after beyond e f r p q low high = let g = command_count-append first [] in let h = ap command_count e in omega arith
    one s t n c d first (x ∷ mid) before after beyond e f r p q low high =
        let same : d ≡ x = cc in
        let big : command_count (x ∷ mid) ≡ command_count mid + d.pieces =
        subst (λ (y : ChosenPacket). command_count (y ∷ mid) ≡ command_count mid + d.pieces) same (command_count-reliable d mid r) in
        let g = command_count-append first (x ∷ mid) in
        let h = ap command_count e in
        absurd (omega arith)

-- a packet that begins at or before the end of `passed` is one of them
pub Stands-passed : (mtu : ℕ) (passed left : List ChosenPacket) (n k : ℕ) (c : ChosenPacket) → AllCut mtu (passed ++ left) → c.reliable ≡ true → Stands (passed ++ left) n k c → n < command_count passed → n + c.pieces ≤ command_count passed
Stands-passed mtu passed left n k c all t w low =
    let go : Cuts passed left w.before (c ∷ w.behind) → n + c.pieces ≤ command_count passed = elim [
      | inl u ↦ inside u.0 u.1 u.2
      | inr u ↦ absurd (let e : w.before ≡ passed ++ u.0 = u.1 in omega (arith, ap command_count e, command_count-append passed u.0, w.number_is))
    ] in
    go (two_cuts passed left w.before (c ∷ w.behind) w.whole)
  where
    inside : (mid : List ChosenPacket) → passed ≡ w.before ++ mid → c ∷ w.behind ≡ mid ++ left → n + c.pieces ≤ command_count passed
    inside [] e f = absurd (let g : passed ≡ w.before = e ∙ append-nil w.before in omega (arith, ap command_count g, w.number_is))
    inside (x ∷ mid) e f =
        let same : c ≡ x = cc in
        let k : command_count (x ∷ mid) ≡ command_count mid + c.pieces = subst (λ (y : ChosenPacket). command_count (y ∷ mid) ≡ command_count mid + c.pieces) same (command_count-reliable c mid t) in
        omega (arith, ap command_count e, command_count-append w.before (x ∷ mid), k, w.number_is)
