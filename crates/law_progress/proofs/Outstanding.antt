-- No more commands are outstanding on a channel than the packets that were submitted there are cut into.
use Rattle.std.proofs.Common.{◌≡◌, ℕ, zero, suc, ◌+◌, ◌-◌, ◌*◌, ◌/◌, ◌≤◌, ◌==◌, Bool, true, false, cond, List, [], ◌∷◌, ◌++◌, length, refl, sym, ap, subst, inl, inr, ◌⊎◌, arith, Option, Some, None}
use Rattle.std.proofs.lemmas.List.{length-append, length-map}
use Rattle.std.proofs.lemmas.List.FromFn.{length-map-range_with_len}
use Rattle.std.proofs.Math.Nat.{div-mul-le_self}
use Rattle.std.proofs.lemmas.Nat.{le-div}
use Rattle.std.specs.List.{remove, slice_get}
use Rattle.enet_seq.specs.Numbering.{wire}
use Rattle.enet_fragment.specs.Cutting.{piece_length, piece_count}
use Rattle.enet_fragment.specs.declared.data.DataCommand.{DataCommand}
use Rattle.enet_sender.specs.CommandChoice.{Packet, ChosenPacket, carried_as}
use Rattle.enet_sender.specs.declared.sent.Sent.{Sent}
use Rattle.enet_sender.specs.declared.outgoing.Occasion.{Occasion}
use Rattle.enet_sender.specs.Due.{SendingEnd}
use Rattle.enet_sender.specs.Sender.{Sender, Next, again, begun, commands_of, marked, without_place, position_of}
use Rattle.law_connection.specs.WireLink.{WireLink}
use Rattle.law_connection.specs.LinkSteps.{Event, Submit, Send, Drop, Mark, PutsOut, Arrive, ArriveAnswered, PutsAnswer, Acknowledge, GivesUp, StopSending, StopReceiving, DropAnswers, Happens, Runs}
use Rattle.law_progress.specs.Exchanges.{outstanding_over}
use Rattle.law_progress.specs.Links.{outstanding_at, outstanding}
use Rattle.law_progress.proofs.Carried.{set-length}
use Rattle.law_progress.proofs.SomethingGoes.{skipped-length}
use Rattle.law_progress.proofs.Spent.{Goes, First, Again, goes-of}

-- how many commands packets are cut into, in datagrams of at most `mtu` bytes
abbrev pub pieces_in : ℕ → List Packet → ℕ
pieces_in mtu [] = 0
pieces_in mtu (p ∷ ps) = piece_count (length p.body) mtu + pieces_in mtu ps

pieces-more : (mtu : ℕ) (ps : List Packet) (p : Packet) → pieces_in mtu (ps ++ p ∷ []) ≡ pieces_in mtu ps + piece_count (length p.body) mtu
pieces-more mtu [] p = omega arith
pieces-more mtu (q ∷ ps) p = let rest = pieces-more mtu ps p in omega arith

-- what happens to what is outstanding
longer : {X : Type 0} (xs : List X) (x : X) → length (xs ++ x ∷ []) ≡ length xs + 1
longer [] x = refl
longer (y ∷ xs) x = let k = longer xs x in omega arith

sends-no-more : (o : Occasion) (s : Sender) (n : Next) → Goes o s n → outstanding_at n.sender ≤ outstanding_at s
sends-no-more o s n (First c rest q may is) = subst (λ (x : Next). outstanding_at x.sender ≤ outstanding_at s) is (by c.reliable)
  where
    p : Sent
    p = begun o.now o.timeout c

    fewer : length s.queued ≡ suc (length rest)
    fewer = ap (λ (l : List DataCommand). length l) q

    by : (b : Bool) → length rest + length (cond b (s.sent ++ p ∷ []) s.sent) ≤ length s.queued + length s.sent
    by true = (let k : length (s.sent ++ p ∷ []) ≡ length s.sent + 1 = longer s.sent p in let f : length s.queued ≡ suc (length rest) = fewer in omega arith)
    by false = (let k : length (cond false (s.sent ++ p ∷ []) s.sent) ≡ length s.sent = refl in let f : length s.queued ≡ suc (length rest) = fewer in omega arith)
sends-no-more o s n (Again i p there due is) = subst (λ (x : Next). outstanding_at x.sender ≤ outstanding_at s) is (let k = set-length s.sent i (again o.now p) in omega arith)

removed-shorter : (xs : List Sent) (i : ℕ) → length (remove xs i) ≤ length xs
removed-shorter [] zero = omega arith
removed-shorter [] (suc i) = omega arith
removed-shorter (x ∷ xs) zero = omega arith
removed-shorter (x ∷ xs) (suc i) = let k = removed-shorter xs i in omega arith

gone-shorter : (xs : List Sent) (o : Option ℕ) → length (without_place xs o) ≤ length xs
gone-shorter xs None = omega arith
gone-shorter xs (Some i) = removed-shorter xs i

-- on a channel
abbrev IsFew : ℕ → WireLink → Type 0
IsFew mtu v = v.is_sending ≡ true → outstanding v ≤ pieces_in mtu v.submitted

few-happens : (mtu : ℕ) (e : Event) (v w : WireLink) → Happens mtu e v w → IsFew mtu v → IsFew mtu w
few-happens mtu (Submit packet) v w x k = subst (IsFew mtu) (sym x.after) (λ sending.
    let c : ChosenPacket = carried_as mtu v.outgoing.unreliable packet in
    let cs : List DataCommand = commands_of wire mtu v.outgoing.number v.outgoing.unreliable c in
    let new : length cs ≡ piece_count (length packet.body) mtu = length-map-range_with_len _ 0 c.pieces in
    let all : length (v.outgoing.queued ++ cs) ≡ length v.outgoing.queued + length cs = length-append v.outgoing.queued cs in
    let more = pieces-more mtu v.submitted packet in
    let was = k sending in
    omega arith)
few-happens mtu (Send occasion) v w x k = subst (IsFew mtu) (sym x.after) (λ sending.
    let least = sends-no-more occasion v.outgoing x.due (goes-of occasion v.outgoing x.due x.is_due) in
    let was = k sending in
    omega arith)
few-happens mtu (Drop occasion) v w x k = subst (IsFew mtu) (sym x.after) (λ sending.
    let least = sends-no-more occasion v.outgoing x.due (goes-of occasion v.outgoing x.due x.is_due) in
    let shorter = skipped-length x.due.sender.queued in
    let was = k sending in
    omega arith)
few-happens mtu (Mark tick) v w x k = subst (IsFew mtu) (sym x.after) (λ sending. let same = length-map v.outgoing.sent (marked tick) in let was = k sending in omega arith)
few-happens mtu PutsOut v w x k = subst (IsFew mtu) (sym x) k
few-happens mtu (Arrive command max_packet full) v w x k = subst (IsFew mtu) (sym x.after) k
few-happens mtu (ArriveAnswered command max_packet full) v w x k = subst (IsFew mtu) (sym x.after) k
few-happens mtu (PutsAnswer number rest) v w x k = subst (IsFew mtu) (sym x.after) k
few-happens mtu (Acknowledge answer) v w x k = subst (IsFew mtu) (sym x.after) (λ sending.
    let shorter = gone-shorter v.outgoing.sent (position_of answer.number v.outgoing.sent) in
    let was = k sending in
    omega arith)
few-happens mtu GivesUp v w x k = subst (IsFew mtu) (sym x) k
few-happens mtu (StopSending left) v w x k = subst (IsFew mtu) (sym x.after) (λ sending. absurd (let z : false ≡ true = sending in cc))
few-happens mtu (StopReceiving left kept gone) v w x k = subst (IsFew mtu) (sym x.after) k
few-happens mtu DropAnswers v w x k = subst (IsFew mtu) (sym x) k

pub few-runs : (mtu : ℕ) (es : List Event) (v w : WireLink) → Runs mtu es v w → IsFew mtu v → IsFew mtu w
few-runs mtu [] v w r k = subst (IsFew mtu) r k
few-runs mtu (e ∷ es) v w r k = few-runs mtu es r.0 w r.2 (few-happens mtu e v r.0 r.1 k)

-- longer datagrams take no more
pub fewer-pieces : (len mtu : ℕ) → 576 ≤ mtu → piece_count len mtu ≤ piece_count len 576
unfolding piece_count
fewer-pieces len mtu wide = by (len == 0)
  where
    long : (m : ℕ) → 576 ≤ m → 548 ≤ piece_length m
    long m h = grind arith

    less : (n m : ℕ) → 548 ≤ m → n / m ≤ n / 548
    less n m low =
        let down : n / m * m ≤ n = div-mul-le_self n m in
        let scaled : n / m * 548 ≤ n / m * m = more (n / m) 548 m low in
        le-div (n / m) n 548 (omega arith) (omega arith)
      where
        more : (k a b : ℕ) → a ≤ b → k * a ≤ k * b
        more zero a b h = omega arith
        more (suc k) a b h = let rest = more k a b h in omega arith

    by : (b : Bool) → cond b 1 ((len - 1) / piece_length mtu + 1) ≤ cond b 1 ((len - 1) / piece_length 576 + 1)
    by true = omega arith
    by false = let l = less (len - 1) (piece_length mtu) (long mtu wide) in omega arith

-- over all channels
abbrev pub sum_below : (ℕ → ℕ) → ℕ → ℕ
sum_below f zero = 0
sum_below f (suc n) = sum_below f n + f n

sum-first : (f : ℕ → ℕ) (n : ℕ) → sum_below f (suc n) ≡ f 0 + sum_below (λ i. f (suc i)) n
sum-first f zero = omega arith
sum-first f (suc n) = let k = sum-first f n in omega arith

pub over-few : (f : ℕ → ℕ) (xs : List SendingEnd) → ((i : ℕ) (s : SendingEnd) → slice_get xs i ≡ Some s → outstanding_at s.sender ≤ f i) → outstanding_over xs ≤ sum_below f (length xs)
over-few f [] few = omega arith
over-few f (s ∷ xs) few =
    let one : outstanding_at s.sender ≤ f 0 = few 0 s refl in
    let rest : outstanding_over xs ≤ sum_below (λ i. f (suc i)) (length xs) = over-few (λ i. f (suc i)) xs (λ i t at. few (suc i) t at) in
    let all = sum-first f (length xs) in
    omega arith

up-to-or : (a b : ℕ) → a ≤ suc b → (a ≤ b) ⊎ (a ≡ suc b)
up-to-or zero b h = inl (omega arith)
up-to-or (suc a) zero h = inr (omega arith)
up-to-or (suc a) (suc b) h = elim (up-to-or a b (omega arith)) [ inl l ↦ inl (omega arith) | inr e ↦ inr (omega arith) ]

pub sum-more : (f : ℕ → ℕ) (m n : ℕ) → m ≤ n → sum_below f m ≤ sum_below f n
sum-more f m zero h = (let z : m ≡ 0 = omega arith in subst (λ i. sum_below f i ≤ 0) (sym z) (omega arith))
sum-more f m (suc n) h = elim (up-to-or m n h) [
  | inl l ↦ (let k = sum-more f m n l in omega arith)
  | inr e ↦ subst (λ i. sum_below f i ≤ sum_below f (suc n)) (sym e) (omega arith)
]
