-- How whole packets are dispatched: in as many turns as packets are held, whatever was dispatched before.
use Rattle.std.proofs.Common.{◌≡◌, ℕ, zero, suc, ◌+◌, ◌<◌, ◌≤◌, Bool, true, false, cond, List, [], ◌∷◌, refl, sym, ap, subst, ◌∙◌, arith, Option, Some, None, append_assoc}
use Rattle.std.specs.Ordering.{nat_cmp}
use Rattle.std.specs.FinMap.{FinMap, get, len, empty_of_len, get-empty, entries}
use Rattle.enet_seq.specs.Numbering.{Numbering, wire, unbounded}
use Rattle.enet_fragment.specs.PartialPacket.{count_of}
use Rattle.enet_fragment.specs.Whole.{is_whole}
use Rattle.enet_fragment.specs.declared.data.DataCommand.{DataCommand}
use Rattle.enet_packets.specs.declared.incoming_packet.IncomingPacket.{IncomingPacket}
use Rattle.enet_packets.specs.declared.incoming_packet.Dispatched.{Dispatched}
use Rattle.enet_packets.specs.Packets.{handed_out, fresh}
use Rattle.enet_receiver.specs.Receiver.{Receiver, with_passed, with_dispatched, next_whole, released_with, released, all_released, flushed_from, flushed, front_line}
use Rattle.enet_receiver.specs.DataOutcome.{outcome, received, received_with, place_read, came_at, with_added, with_more, earlier_or_new, added_at}
use Rattle.enet_receiver.specs.declared.took.Took.{Took}
use Rattle.enet_receiver.specs.declared.took.Took.TheVariants.{Held, Again, Outside, Bad, Waiting, Memory}
use Rattle.enet_receiver.specs.Laws.{HavePieces, NothingIsDue, with_earlier, DoesTheSame}
use Rattle.enet_receiver.proofs.Without.{len-without_first, get_without}

-- the number just past another begins a count
abbrev pub Begins : Numbering → Type 0
Begins g = (n : ℕ) → g.after (g.after n 1) 0 ≡ g.after n 1

pub wire_begins : Begins wire
wire_begins n = omega arith

pub unbounded_begins : Begins unbounded
unbounded_begins n = omega arith

pub whole_is : (o : Option IncomingPacket) (c : IncomingPacket) → next_whole o ≡ Some c → (o ≡ Some c) × (is_whole c.making ≡ true)
whole_is None c e = absurd (cc)
whole_is (Some d) c e =
    elim (is_whole d.making) as (λ b. is_whole d.making ≡ b → cond b (Some d) None ≡ Some c → (Some d ≡ Some c) × (is_whole c.making ≡ true)) [
      | true ↦ λ t f. (f, (let same : d ≡ c = cc in subst (λ (x : IncomingPacket). is_whole x.making ≡ true) same t))
      | false ↦ λ t f. absurd (cc)
    ] refl e

pub due : Numbering → Receiver → Option IncomingPacket
due g r = next_whole (get r.held (g.after r.front 1))

pub due-is : (g : Numbering) (r : Receiver) → due g r ≡ next_whole (get r.held (g.after r.front 1))
unfolding due
due-is g r = refl

pub nothing_held : {X : Type 0} (m : FinMap nat_cmp X) (k : ℕ) → len m ≤ 0 → get m k ≡ None
nothing_held m k h = ap (λ x. get x k) (empty_of_len m (omega arith)) ∙ get-empty nat_cmp k

pub HavePieces-dispatched : (g : Numbering) (r : Receiver) (c : IncomingPacket) → HavePieces r → HavePieces (with_dispatched g r c)
HavePieces-dispatched g r c h = λ q x e. h q x (get_without g r.held (g.after r.front 1) (count_of c.making) q x e)

pub fewer_held : (g : Numbering) (r : Receiver) (c : IncomingPacket) → Begins g → HavePieces r → next_whole (get r.held (g.after r.front 1)) ≡ Some c → len (with_dispatched g r c).held < len r.held
fewer_held g r c begins h e =
    let there = (whole_is (get r.held (g.after r.front 1)) c e).0 in
    let some_piece : 1 ≤ count_of c.making = h (g.after r.front 1) c there in
    len-without_first g r.held (g.after r.front 1) (count_of c.making) c (begins r.front) (omega arith) there

pub released-some : (g : Numbering) (n : ℕ) (r : Receiver) (c : IncomingPacket) → next_whole (get r.held (g.after r.front 1)) ≡ Some c → released g (suc n) r ≡ released g n (with_dispatched g r c)
unfolding released
released-some g n r c e = ap (released_with (released g n) g r) e

pub released-none : (g : Numbering) (n : ℕ) (r : Receiver) → next_whole (get r.held (g.after r.front 1)) ≡ None → released g n r ≡ r
unfolding released
released-none g zero r e = refl
released-none g (suc n) r e = ap (released_with (released g n) g r) e

-- any two counts of turns that are enough do the same
pub released-enough : (g : Numbering) (j k : ℕ) (r : Receiver) → Begins g → HavePieces r → len r.held ≤ j → len r.held ≤ k → released g j r ≡ released g k r
unfolding released
released-enough g zero k r begins h a b = sym (released-none g k r (ap next_whole (nothing_held r.held (g.after r.front 1) a)))
released-enough g (suc j) zero r begins h a b = released-none g (suc j) r (ap next_whole (nothing_held r.held (g.after r.front 1) b))
released-enough g (suc j) (suc k) r begins h a b =
    elim (next_whole (get r.held (g.after r.front 1))) as (λ o. next_whole (get r.held (g.after r.front 1)) ≡ o → released_with (released g j) g r o ≡ released_with (released g k) g r o) [
      | None ↦ λ e. refl
      | Some c ↦ λ e. (let less = fewer_held g r c begins h e in
          released-enough g j k (with_dispatched g r c) begins (HavePieces-dispatched g r c h) (omega arith) (omega arith))
    ] refl

-- one turn of the loop that releases
pub all_released-some : (g : Numbering) (r : Receiver) (c : IncomingPacket) → Begins g → HavePieces r → next_whole (get r.held (g.after r.front 1)) ≡ Some c → all_released g r ≡ all_released g (with_dispatched g r c)
all_released-some g r c begins h e =
    let less = fewer_held g r c begins h e in
    let d : Receiver = with_dispatched g r c in
    ap flushed (released-enough g (len r.held) (suc (len r.held)) r begins h (omega arith) (omega arith)
    ∙ released-some g (len r.held) r c e
    ∙ released-enough g (len r.held) (len d.held) d begins (HavePieces-dispatched g r c h) (omega arith) (omega arith))

pub all_released-none : (g : Numbering) (r : Receiver) → next_whole (get r.held (g.after r.front 1)) ≡ None → all_released g r ≡ flushed r
all_released-none g r e = ap flushed (released-none g (len r.held) r e)

-- what each dispatch keeps is kept
pub released-keeps : (g : Numbering) (P : Receiver → Type 0) → ((r : Receiver) (c : IncomingPacket) → next_whole (get r.held (g.after r.front 1)) ≡ Some c → P r → P (with_dispatched g r c))
    → (n : ℕ) (r : Receiver) → P r → P (released g n r)
unfolding released
released-keeps g P step zero r h = h
released-keeps g P step (suc n) r h =
    elim (next_whole (get r.held (g.after r.front 1))) as (λ o. next_whole (get r.held (g.after r.front 1)) ≡ o → P (released_with (released g n) g r o)) [
      | None ↦ λ e. h
      | Some c ↦ λ e. released-keeps g P step n (with_dispatched g r c) (step r c e h)
    ] refl

-- turns suffice
pub nothing_due : (g : Numbering) (n : ℕ) (r : Receiver) → Begins g → HavePieces r → len r.held ≤ n → next_whole (get (released g n r).held (g.after (released g n r).front 1)) ≡ None
unfolding released
nothing_due g zero r begins h a = ap next_whole (nothing_held r.held (g.after r.front 1) a)
nothing_due g (suc n) r begins h a =
    elim (next_whole (get r.held (g.after r.front 1))) as (λ o. next_whole (get r.held (g.after r.front 1)) ≡ o → let s : Receiver = released_with (released g n) g r o in next_whole (get s.held (g.after s.front 1)) ≡ None) [
      | None ↦ λ e. e
      | Some c ↦ λ e. (let less = fewer_held g r c begins h e in
          nothing_due g n (with_dispatched g r c) begins (HavePieces-dispatched g r c h) (omega arith))
    ] refl

pub nothing_is_due : (g : Numbering) (r : Receiver) → Begins g → HavePieces r → NothingIsDue g r
nothing_is_due g r begins h = nothing_due g (len r.held) r begins h (omega arith)

flushed-earlier : (first : ℕ) (xs : List Dispatched) (r : Receiver) → flushed_from first (with_earlier xs r) ≡ with_earlier xs (flushed_from first r)
flushed-earlier first xs r = ap (λ out. record (flushed_from first r) { dispatched = out }) (append_assoc xs r.dispatched (fresh first (entries (front_line r))))

dispatched-earlier : (g : Numbering) (xs : List Dispatched) (r : Receiver) (c : IncomingPacket) → with_dispatched g (with_earlier xs r) c ≡ with_earlier xs (with_dispatched g r c)
dispatched-earlier g xs r c =
    let s : Receiver = with_passed g r c in
    ap (λ (out : List Dispatched). flushed_from 0 (record s { dispatched = out })) (append_assoc xs r.dispatched (handed_out c ∷ []))
    ∙ flushed-earlier 0 xs s

released-earlier : (g : Numbering) (xs : List Dispatched) (n : ℕ) (r : Receiver) → released g n (with_earlier xs r) ≡ with_earlier xs (released g n r)
unfolding released
released-earlier g xs zero r = refl
released-earlier g xs (suc n) r =
    elim (next_whole (get r.held (g.after r.front 1))) as (λ o. released_with (released g n) g (with_earlier xs r) o ≡ with_earlier xs (released_with (released g n) g r o)) [
      | None ↦ refl
      | Some c ↦ ap (released g n) (dispatched-earlier g xs r c) ∙ released-earlier g xs n (with_dispatched g r c)
    ]

pub all_released-earlier : (g : Numbering) (xs : List Dispatched) (r : Receiver) → all_released g (with_earlier xs r) ≡ with_earlier xs (all_released g r)
all_released-earlier g xs r =
    let s : Receiver = released g (len r.held) r in
    ap flushed (released-earlier g xs (len r.held) r) ∙ flushed-earlier (s.unreliable + 1) xs s

added-earlier : (g : Numbering) (r : Receiver) (c : DataCommand) (xs : List Dispatched) (o : Option ℕ) → added_at g (with_earlier xs r) c o ≡ with_earlier xs (added_at g r c o)
added-earlier g r c xs None = refl
added-earlier g r c xs (Some place) = all_released-earlier g xs (with_added r c place (with_more (earlier_or_new (came_at r c place) c) c))

received_with-earlier : (g : Numbering) (r : Receiver) (c : DataCommand) (xs : List Dispatched) (t : Took) → received_with t g (with_earlier xs r) c ≡ with_earlier xs (received_with t g r c)
received_with-earlier g r c xs Held = added-earlier g r c xs (place_read g r c)
received_with-earlier g r c xs Again = refl
received_with-earlier g r c xs Outside = refl
received_with-earlier g r c xs Bad = refl
received_with-earlier g r c xs Waiting = refl
received_with-earlier g r c xs Memory = refl

pub does_the_same : (g : Numbering) (most : ℕ) (r : Receiver) (c : DataCommand) (full : Bool) (xs : List Dispatched) → DoesTheSame (λ s. received g most s c full) r xs
does_the_same g most r c full xs = received_with-earlier g r c xs (outcome g most r c full)
