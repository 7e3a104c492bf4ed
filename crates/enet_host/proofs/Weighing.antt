-- Who holds no more holds no more bytes.
use Rattle.std.proofs.Common.{◌≡◌, ℕ, ◌≤◌, ◌+◌, ◌*◌, length, ap, arith, mul-add, mul-le-mul_right, mul_assoc, subst}
use Rattle.enet_peer.specs.declared.held.Held.{Held}
use Rattle.enet_peer.specs.Held.{IsWithin}
use Rattle.enet_host.specs.Held.{held_by, most_held, times}
use Rattle.enet_host.specs.Host.{Host}
use Rattle.enet_host.specs.Memory.{host_takes, memory_bound, memory_of, memory_of_held, memory_with, own_in, acknowledgement_takes, byte_takes, channel_takes, packet_takes, sender_takes, slot_takes, undispatched_takes}

-- what others make a host hold, on so many channels
pub others-weigh : (channels senders : ℕ) (held most : Held) → IsWithin held most
    → memory_of_held (record held { channels = channels; senders = senders }) ≤ memory_of_held (record most { channels = channels; senders = senders })
others-weigh channels senders held most is =
    let a : held.packets * packet_takes ≤ most.packets * packet_takes = mul-le-mul_right packet_takes is.packets in
    let b : held.undispatched * undispatched_takes ≤ most.undispatched * undispatched_takes = mul-le-mul_right undispatched_takes is.undispatched in
    let c : held.acknowledgements * acknowledgement_takes ≤ most.acknowledgements * acknowledgement_takes = mul-le-mul_right acknowledgement_takes is.acknowledgements in
    let d : held.bytes * byte_takes ≤ most.bytes * byte_takes = mul-le-mul_right byte_takes is.bytes in
    omega (arith, a, b, c, d)

-- and on fewer of them
pub all-weigh : (held most : Held) → IsWithin held most → memory_of_held held ≤ memory_of_held most
all-weigh held most is =
    let a : held.channels * channel_takes ≤ most.channels * channel_takes = mul-le-mul_right channel_takes is.channels in
    let b : held.senders * sender_takes ≤ most.senders * sender_takes = mul-le-mul_right sender_takes is.senders in
    let c : memory_of_held (record held { channels = held.channels; senders = held.senders }) ≤ memory_of_held (record most { channels = held.channels; senders = held.senders }) =
    others-weigh held.channels held.senders held most is in
    omega (arith, a, b, c)

-- the same of all that a host holds
pub host-weighs : (h : Host) (held : Held) → length h.slots ≡ h.config.peers → held ≡ held_by h.slots → IsWithin held (most_held h.config) → memory_of h ≤ memory_bound h.config (own_in h.slots)
host-weighs h held count is within =
    let all : Held = held_by h.slots in
    let w : memory_of_held all ≤ memory_of_held (record (most_held h.config) { channels = all.channels; senders = all.senders }) =
    others-weigh all.channels all.senders all (most_held h.config) (subst (λ (x : Held). IsWithin x (most_held h.config)) is within) in
    let s : length h.slots * slot_takes ≡ h.config.peers * slot_takes = ap (λ (n : ℕ). n * slot_takes) count in
    omega (arith, w, s)

-- so many peers that hold the same take so many times as much
times-weigh : (n : ℕ) (one : Held) → memory_of_held (times n one) ≡ n * memory_of_held one
times-weigh n one =
    let a : ℕ = one.channels * channel_takes in
    let b : ℕ = one.senders * sender_takes in
    let c : ℕ = one.packets * packet_takes in
    let d : ℕ = one.undispatched * undispatched_takes in
    let e : ℕ = one.bytes * byte_takes in
    let f : ℕ = one.acknowledgements * acknowledgement_takes in
    let sum-f = mul-add n (a + b + c + d + e) f in
    let sum-e = mul-add n (a + b + c + d) e in
    let sum-d = mul-add n (a + b + c) d in
    let sum-c = mul-add n (a + b) c in
    let sum-b = mul-add n a b in
    let is-a = mul_assoc n one.channels channel_takes in
    let is-b = mul_assoc n one.senders sender_takes in
    let is-c = mul_assoc n one.packets packet_takes in
    let is-d = mul_assoc n one.undispatched undispatched_takes in
    let is-e = mul_assoc n one.bytes byte_takes in
    let is-f = mul_assoc n one.acknowledgements acknowledgement_takes in
    omega (arith, sum-b, sum-c, sum-d, sum-e, sum-f, is-a, is-b, is-c, is-d, is-e, is-f)

pub slots-weigh : (n : ℕ) (one : Held) → memory_with n (times n one) ≡ host_takes + n * (slot_takes + memory_of_held one)
slots-weigh n one =
    let t : memory_of_held (times n one) ≡ n * memory_of_held one = times-weigh n one in
    let s : n * (slot_takes + memory_of_held one) ≡ n * slot_takes + n * memory_of_held one = mul-add n slot_takes (memory_of_held one) in
    omega (arith, t, s)
