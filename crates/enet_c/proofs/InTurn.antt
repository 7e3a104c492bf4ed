-- A packet to several peers of C's, one after another, each with its answer.
use Rattle.std.proofs.Common.{◌≡◌, ℕ, suc, ◌+◌, ◌<◌, ◌≤◌, List, [], ◌∷◌, ◌++◌, length, take, drop, get_or, set, map, refl, sym, ◌∙◌, ap, subst, append_assoc, arith}
use Rattle.std.proofs.lemmas.List.{drop_more, length-map, length-set, length-take-le, map-append, set_at, take_more}
use Rattle.enet_codec.specs.declared.event.PeerRef.{PeerRef}
use Rattle.enet_sender.specs.CommandChoice.{Packet}
use Rattle.enet_c.specs.declared.held.Held.{Held}
use Rattle.enet_c.specs.declared.shapes.CorePeer.{CorePeer}
use Rattle.enet_c.specs.Shapes.{name_meant}
use Rattle.enet_c.specs.Border.{SubmitsInTurn, SubmitsTo}

abbrev Submits : ℕ → Packet → PeerRef → ℕ → Held → Held → Type 0
Submits channel q name number before after = SubmitsTo name channel q (record { before = before; number = number; after = after })

-- what was submitted to these peers, and what they answered; the rest of the buffer stands
pub record Wrote (channel : ℕ) (q : Packet) (names : List PeerRef) (old new : List ℕ) (before after : Held) : Type 0 where
  pub numbers : List ℕ
  pub submits : SubmitsInTurn channel q names numbers before after
  pub written : new ≡ numbers ++ drop (length names) old
  pub long : length new ≡ length old

turn-more : (channel : ℕ) (q : Packet) (names : List PeerRef) (numbers : List ℕ) (name : PeerRef) (number : ℕ) (before mid after : Held) → SubmitsInTurn channel q names numbers before mid → Submits channel q name number mid after
    → SubmitsInTurn channel q (names ++ name ∷ []) (numbers ++ number ∷ []) before after
turn-more channel q [] [] name number before mid after stays one = (after, subst (λ (h : Held). Submits channel q name number h after) stays one, refl)
turn-more channel q [] (m ∷ numbers) name number before mid after all one = absurd all
turn-more channel q (n ∷ names) [] name number before mid after all one = absurd all
turn-more channel q (n ∷ names) (m ∷ numbers) name number before mid after all one = (all.0, all.1, turn-more channel q names numbers name number all.0 mid after all.2 one)

turn-length : (channel : ℕ) (q : Packet) (names : List PeerRef) (numbers : List ℕ) (before after : Held) → SubmitsInTurn channel q names numbers before after → length numbers ≡ length names
turn-length channel q [] [] before after all = refl
turn-length channel q [] (m ∷ numbers) before after all = absurd all
turn-length channel q (n ∷ names) [] before after all = absurd all
turn-length channel q (n ∷ names) (m ∷ numbers) before after all = ap suc (turn-length channel q names numbers all.0 after all.2)

-- an answer more goes behind those that are there
written-more : (numbers old : List ℕ) (k number : ℕ) → length numbers ≡ k → k < length old → set (numbers ++ drop k old) k number ≡ (numbers ++ number ∷ []) ++ drop (k + 1) old
written-more numbers old k number long inside =
    ap (λ (rest : List ℕ). set (numbers ++ rest) k number) (drop_more old k 0 inside)
    ∙ set_at numbers (get_or old k 0) (drop (k + 1) old) number k long
    ∙ sym (append_assoc numbers (number ∷ []) (drop (k + 1) old))

abbrev first : List CorePeer → ℕ → List PeerRef
first peers k = map name_meant (take k peers)

first-length : (peers : List CorePeer) (k : ℕ) → k ≤ length peers → length (first peers k) ≡ k
first-length peers k within = length-map (take k peers) name_meant ∙ length-take-le k peers within

first-more : (peers : List CorePeer) (k : ℕ) (d : CorePeer) → k < length peers → first peers (k + 1) ≡ first peers k ++ name_meant (get_or peers k d) ∷ []
first-more peers k d inside = ap (map name_meant) (take_more peers k d inside) ∙ map-append name_meant (take k peers) (get_or peers k d ∷ [])

pub wrote-more : (channel : ℕ) (q : Packet) (peers : List CorePeer) (k number : ℕ) (d : CorePeer) (name : PeerRef) (old now new : List ℕ) (before mid after : Held) → k < length peers → length peers ≤ length old
    → name ≡ name_meant (get_or peers k d) → Wrote channel q (first peers k) old now before mid → Submits channel q name number mid after → new ≡ set now k number
    → Wrote channel q (first peers (k + 1)) old new before after
wrote-more channel q peers k number d name old now new before mid after inside room is so_far one put =
    let so_long : length so_far.numbers ≡ k = turn-length channel q (first peers k) so_far.numbers before mid so_far.submits ∙ first-length peers k (omega (arith, inside)) in
    let place : length (first peers k) ≡ k = first-length peers k (omega (arith, inside)) in
    record {
      numbers = so_far.numbers ++ number ∷ [];
      submits = subst (λ (names : List PeerRef). SubmitsInTurn channel q names (so_far.numbers ++ number ∷ []) before after)
          (ap (λ (n : PeerRef). first peers k ++ n ∷ []) is ∙ sym (first-more peers k d inside))
          (turn-more channel q (first peers k) so_far.numbers name number before mid after so_far.submits one);
      written = put ∙ ap (λ (xs : List ℕ). set xs k number) (so_far.written ∙ ap (λ (n : ℕ). so_far.numbers ++ drop n old) place)
          ∙ written-more so_far.numbers old k number so_long (omega (arith, inside, room))
          ∙ ap (λ (n : ℕ). (so_far.numbers ++ number ∷ []) ++ drop n old) (sym (first-length peers (k + 1) (omega (arith, inside))));
      long = ap length put ∙ length-set now k number ∙ so_far.long;
    }
