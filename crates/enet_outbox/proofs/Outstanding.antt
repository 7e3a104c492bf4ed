-- How much is queued or unacknowledged, as it is told and as packets are submitted.
use Rattle.std.proofs.Common.{inl, inr, ◌≡◌, ℕ, zero, suc, ◌+◌, ◌-◌, ◌*◌, ◌<◌, ◌≤◌, ◌&&◌, ◌||◌, not, min, ltb, leb, Bool, true, false, cond, List, [], ◌∷◌, length, map, take, drop, get_or, Option, Some, None, refl, sym, ap, ap₂, subst, ◌∙◌, arith}
use Rattle.std.specs.List.{range_with_len, slice_get, sum_by}
use Rattle.std.proofs.lemmas.Bool.{and_parts, cases_lt, le-leb, le-ltb, lt-leb, lt-ltb, ltb-false}
use Rattle.std.proofs.lemmas.List.{length-append, length-drop, length-take}
use Rattle.std.proofs.lemmas.List.FromFn.{length-map-range_with_len}
use Rattle.std.proofs.lemmas.List.Sums.{sum_by-append, sum_by-cons, sum_by-set}
use Rattle.std.proofs.lemmas.Option.{get_or_from_slice_get}
use Rattle.enet_seq.specs.Numbering.{wire}
use Rattle.enet_fragment.specs.declared.data.DataCommand.{DataCommand}
use Rattle.enet_fragment.specs.Cutting.{piece_count, piece_length}
use Rattle.enet_fragment.proofs.Cuts.{piece_count-enough}
use Rattle.enet_sender.specs.declared.outstanding.Outstanding.{Outstanding}
use Rattle.enet_sender.specs.declared.sent.Sent.{Sent}
use Rattle.enet_sender.specs.CommandChoice.{Packet, carried_as, is_flagged_reliable}
use Rattle.enet_sender.specs.Counting.{greatest_count}
use Rattle.enet_sender.specs.Due.{SendingEnd}
use Rattle.enet_sender.specs.Outstanding.{outstanding_bytes, outstanding_commands, payload}
use Rattle.enet_sender.specs.Sender.{LastNumbers, Sender, command_at, commands_of}
use Rattle.enet_sender.specs.Sender as sender
use Rattle.enet_sender.proofs.Courses.{piece_count-one}
use Rattle.enet_senders.specs.Outstanding.{outstanding_over}
use Rattle.enet_outbox.specs.declared.parts.SendLimit.{SendLimit}
use Rattle.enet_outbox.specs.declared.parts.Unsequenced.{Unsequenced}
use Rattle.enet_outbox.specs.Outbox.{Outbox, is_flagged_unsequenced, is_unsequenced, submitted, with_sequenced, with_unsequenced}
use Rattle.enet_outbox.specs.Outstanding.{bytes_waiting, capped, is_full, outstanding_of, reaches}
use Rattle.enet_outbox.proofs.Submitting.{there}

-- ---- a number that stops at the greatest one meets a limit where it does

most : (l n : ℕ) → l ≤ greatest_count → leb l (min n greatest_count) ≡ leb l n
most l n small =
    elim (cases_lt n l) [
      | inl less ↦ lt-leb l (min n greatest_count) (omega arith) ∙ sym (lt-leb l n less)
      | inr more ↦ le-leb l (min n greatest_count) (omega arith) ∙ sym (le-leb l n more)
    ]

some : (n : ℕ) → ltb 0 (min n greatest_count) ≡ ltb 0 n
some n =
    elim (cases_lt 0 n) [
      | inl less ↦ lt-ltb 0 (min n greatest_count) (omega arith) ∙ sym (lt-ltb 0 n less)
      | inr none ↦ le-ltb 0 (min n greatest_count) (omega arith) ∙ sym (le-ltb 0 n none)
    ]

pub reaches-capped : (limit : SendLimit) (full : Outstanding) → limit.bytes ≤ greatest_count → limit.commands ≤ greatest_count → reaches limit (capped full) ≡ reaches limit full
reaches-capped limit full few_bytes few_commands =
    ap (λ (b : Bool). b && (leb limit.bytes (min full.bytes greatest_count) || leb limit.commands (min full.commands greatest_count))) (some full.commands)
    ∙ ap₂ (λ (a b : Bool). ltb 0 full.commands && (a || b)) (most limit.bytes full.bytes few_bytes) (most limit.commands full.commands few_commands)

-- ---- one packet always goes where nothing is

pub empty-passes : (limit : Option SendLimit) (o : Outbox) → (outstanding_of o).commands ≡ 0 → is_full limit o ≡ false
empty-passes None o none = refl
empty-passes (Some limit) o none = ap (λ (n : ℕ). ltb 0 n && (leb limit.bytes (outstanding_of o).bytes || leb limit.commands (outstanding_of o).commands)) none

-- ---- a packet adds itself

abbrev pub bodies : List DataCommand → ℕ
bodies cs = sum_by (λ (c : DataCommand). length c.body) cs

pieces-sum : (f : ℕ → DataCommand) (size : ℕ) (body : List ℕ) → ((i : ℕ) → (f i).body ≡ take size (drop (i * size) body)) → (n from : ℕ)
    → bodies (map f (range_with_len from n)) + min (from * size) (length body) ≡ min ((from + n) * size) (length body)
pieces-sum f size body is zero from =
    let e : (from + 0) * size ≡ from * size = ap (λ k. k * size) (let z : from + 0 ≡ from = omega arith in z) in
    omega arith
pieces-sum f size body is (suc n) from =
    let one = sum_by-cons (λ (c : DataCommand). length c.body) (f from) (map f (range_with_len (from + 1) n)) in
    let rest = pieces-sum f size body is n (from + 1) in
    let here : length (f from).body ≡ length (take size (drop (from * size) body)) = ap (λ (xs : List ℕ). length xs) (is from) in
    let taken = length-take size (drop (from * size) body) in
    let dropped = length-drop (from * size) body in
    let next : (from + 1) * size ≡ from * size + size = omega arith in
    let last : (from + suc n) * size ≡ (from + 1 + n) * size = ap (λ k. k * size) (let z : from + suc n ≡ from + 1 + n = omega arith in z) in
    omega arith

queued-bytes : (mtu number count u : ℕ) (q : Packet) → 28 < mtu → bodies (commands_of wire mtu number count (carried_as mtu u q)) ≡ length q.body
queued-bytes mtu number count u q wide =
    let last : LastNumbers = record { number = number; unreliable = count } in
    let n = piece_count (length q.body) mtu in
    let size = piece_length mtu in
    let all = pieces-sum (command_at wire mtu last (carried_as mtu u q)) size q.body (λ i. refl) n 0 in
    let enough = piece_count-enough (length q.body) mtu wide in
    let first : 0 * size ≡ 0 = omega arith in
    let same : (0 + n) * size ≡ n * size = ap (λ k. k * size) (let z : 0 + n ≡ n = omega arith in z) in
    omega arith

bytes-more : (mtu : ℕ) (s : Sender) (q : Packet) → 28 < mtu → outstanding_bytes (sender.submitted wire mtu s q) ≡ outstanding_bytes s + length q.body
bytes-more mtu s q wide =
    let c = carried_as mtu s.unreliable q in
    let both = sum_by-append (λ (c : DataCommand). length c.body) s.queued (commands_of wire mtu s.number s.unreliable c) in
    let new = queued-bytes mtu s.number s.unreliable s.unreliable q wide in
    omega arith

commands-more : (mtu : ℕ) (s : Sender) (q : Packet) → outstanding_commands (sender.submitted wire mtu s q) ≡ outstanding_commands s + piece_count (length q.body) mtu
commands-more mtu s q =
    let c = carried_as mtu s.unreliable q in
    let both = length-append s.queued (commands_of wire mtu s.number s.unreliable c) in
    let new = length-map-range_with_len (command_at wire mtu (record { number = s.number; unreliable = s.unreliable }) c) 0 c.pieces in
    omega arith

-- what a packet adds: its bytes, and a command for each piece
pub record Adds (old new : Outstanding) (q : Packet) (mtu : ℕ) : Type 0 where
  pub bytes : new.bytes ≡ old.bytes + length q.body
  pub commands : new.commands ≡ old.commands + piece_count (length q.body) mtu

adds-on : (o : Outbox) (mtu channel : ℕ) (q : Packet) (s : SendingEnd) → 28 < mtu → channel < length o.senders → slice_get o.senders channel ≡ Some s
    → Adds (outstanding_of o) (outstanding_of (with_sequenced o mtu channel q (Some s))) q mtu
adds-on o mtu channel q s wide inside is =
    let e : SendingEnd = record s { sender = sender.submitted wire mtu s.sender q } in
    let old = get_or_from_slice_get o.senders channel s s is in
    let of_bytes = sum_by-set (λ (x : SendingEnd). outstanding_bytes x.sender) o.senders channel e s inside in
    let of_commands = sum_by-set (λ (x : SendingEnd). outstanding_commands x.sender) o.senders channel e s inside in
    let same_bytes : outstanding_bytes (get_or o.senders channel s).sender ≡ outstanding_bytes s.sender = ap (λ (x : SendingEnd). outstanding_bytes x.sender) old in
    let same_commands : outstanding_commands (get_or o.senders channel s).sender ≡ outstanding_commands s.sender = ap (λ (x : SendingEnd). outstanding_commands x.sender) old in
    let bytes = bytes-more mtu s.sender q wide in
    let commands = commands-more mtu s.sender q in
    record { bytes = omega arith; commands = omega arith }

adds-unsequenced : (o : Outbox) (mtu channel : ℕ) (q : Packet) → piece_count (length q.body) mtu ≡ 1 → Adds (outstanding_of o) (outstanding_of (with_unsequenced o channel q)) q mtu
adds-unsequenced o mtu channel q one =
    let u : Unsequenced = record { channel = channel; group = (with_unsequenced o channel q).group; body = q.body } in
    let bytes = sum_by-append (λ (x : Unsequenced). length x.body) o.unsequenced (u ∷ []) in
    let last = sum_by-cons (λ (x : Unsequenced). length x.body) u [] in
    let long = length-append o.unsequenced (u ∷ []) in
    record { bytes = omega arith; commands = omega arith }

lone-piece : (asks : Bool) (len mtu : ℕ) → 28 < mtu → (asks && not (ltb (piece_length mtu) len)) ≡ true → piece_count len mtu ≡ 1
lone-piece asks len mtu wide goes =
    let short : ltb (piece_length mtu) len ≡ false = not_true (ltb (piece_length mtu) len) (and_parts asks (not (ltb (piece_length mtu) len)) goes).1 in
    piece_count-one len mtu wide (ltb-false (piece_length mtu) len short)
  where
    not_true : (b : Bool) → not b ≡ true → b ≡ false
    not_true true e = cc
    not_true false e = refl

pub packet-adds : (o : Outbox) (mtu channel : ℕ) (q : Packet) → 28 < mtu → channel < length o.senders → Adds (outstanding_of o) (outstanding_of (submitted o mtu channel q)) q mtu
packet-adds o mtu channel q wide inside = by (is_unsequenced mtu q) refl
  where
    by : (b : Bool) → is_unsequenced mtu q ≡ b → Adds (outstanding_of o) (outstanding_of (cond b (with_unsequenced o channel q) (with_sequenced o mtu channel q (slice_get o.senders channel)))) q mtu
    by true goes = adds-unsequenced o mtu channel q (lone-piece (is_flagged_unsequenced q && not (is_flagged_reliable q)) (length q.body) mtu wide goes)
    by false goes =
        let found = there o.senders channel inside in
        subst (λ (x : Option SendingEnd). Adds (outstanding_of o) (outstanding_of (with_sequenced o mtu channel q x)) q mtu) (sym found.1) (adds-on o mtu channel q found.0 wide inside found.1)

-- ---- so no peer has more than the limit and one packet

nothing-queued : (cs : List DataCommand) → length cs ≡ 0 → bodies cs ≡ 0
nothing-queued [] none = refl
nothing-queued (c ∷ cs) none = absurd (omega arith)

nothing-sent : (s : Sender) → outstanding_commands s ≡ 0 → outstanding_bytes s ≡ 0
nothing-sent s none = by s.queued s.sent none
  where
    by : (cs : List DataCommand) (ps : List Sent) → length cs + length ps ≡ 0 → bodies cs + sum_by payload ps ≡ 0
    by [] [] none = refl
    by [] (p ∷ ps) none = absurd (omega arith)
    by (c ∷ cs) ps none = absurd (omega arith)

nothing-over : (senders : List SendingEnd) → (outstanding_over senders).commands ≡ 0 → (outstanding_over senders).bytes ≡ 0
nothing-over [] none = refl
nothing-over (s ∷ senders) none =
    let commands = sum_by-cons (λ (x : SendingEnd). outstanding_commands x.sender) s senders in
    let bytes = sum_by-cons (λ (x : SendingEnd). outstanding_bytes x.sender) s senders in
    let one = nothing-sent s.sender (omega arith) in
    let rest = nothing-over senders (omega arith) in
    omega arith

nothing-waits : (us : List Unsequenced) → length us ≡ 0 → bytes_waiting us ≡ 0
nothing-waits [] none = refl
nothing-waits (u ∷ us) none = absurd (omega arith)

nothing-there : (o : Outbox) → (outstanding_of o).commands ≡ 0 → (outstanding_of o).bytes ≡ 0
nothing-there o none =
    let senders = nothing-over o.senders (omega arith) in
    let waiting = nothing-waits o.unsequenced (omega arith) in
    omega arith

below : (limit : SendLimit) (here : Outstanding) → reaches limit here ≡ false → (here.commands ≡ 0 → here.bytes ≡ 0) → (here.bytes ≤ limit.bytes) × (here.commands ≤ limit.commands)
below limit here passes empty =
    elim (cases_lt 0 here.commands) [
      | inl more ↦
          let neither : (leb limit.bytes here.bytes || leb limit.commands here.commands) ≡ false =
          sym (ap (λ (b : Bool). b && (leb limit.bytes here.bytes || leb limit.commands here.commands)) (lt-ltb 0 here.commands more)) ∙ passes in (
            elim (cases_lt here.bytes limit.bytes) [
              | inl less ↦ omega arith
              | inr past ↦ absurd (let f = le-leb limit.bytes here.bytes past in let g = ap (λ (b : Bool). b || leb limit.commands here.commands) (sym f) ∙ neither in cc)
            ],
            elim (cases_lt here.commands limit.commands) [
              | inl less ↦ omega arith
              | inr past ↦ absurd (let f = le-leb limit.commands here.commands past in let g = or-true (leb limit.bytes here.bytes) (leb limit.commands here.commands) f in cc)
            ],
          )
      | inr none ↦
          let zero_commands : here.commands ≡ 0 = omega arith in
          let zero_bytes = empty zero_commands in
          (omega arith, omega arith)
    ]
  where
    or-true : (a b : Bool) → b ≡ true → (a || b) ≡ true
    or-true true b e = refl
    or-true false b e = e

pub stays-near : (limit : SendLimit) (o : Outbox) (mtu channel : ℕ) (q : Packet) → 28 < mtu → channel < length o.senders → is_full (Some limit) o ≡ false
    → ((outstanding_of (submitted o mtu channel q)).bytes ≤ limit.bytes + length q.body) × ((outstanding_of (submitted o mtu channel q)).commands ≤ limit.commands + piece_count (length q.body) mtu)
stays-near limit o mtu channel q wide inside passes =
    let adds = packet-adds o mtu channel q wide inside in
    let low = below limit (outstanding_of o) passes (nothing-there o) in
    let bytes = adds.bytes in
    let commands = adds.commands in
    (omega (arith, low.0), omega (arith, low.1))
