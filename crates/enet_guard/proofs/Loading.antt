-- What a datagram brings, command by command.
use Rattle.std.proofs.Common.{◌≡◌, ◌≤◌, ℕ, ◌+◌, List, [], ◌∷◌, ◌++◌, length, take, drop, refl, sym, ap, subst, ◌∙◌, append_assoc, length-append, arith}
use Rattle.std.specs.Int.{w16, to_be_bytes}
use Rattle.std.proofs.lemmas.List.{take-append-drop, length-take-le}
use Rattle.enet_codec.specs.Message.{Body, acknowledge, connect, verify_connect, disconnect, ping, send_reliable, send_unreliable, send_fragment, send_unsequenced, bandwidth_limit, throttle_configure, send_unreliable_fragment, Message, Spells, fields_of, payload_of, text}
use Rattle.enet_guard.specs.declared.loads.Load.{Load}
use Rattle.enet_guard.specs.Loads.{nothing, load_of, both, Brings}

abbrev load_so : ℕ → ℕ → ℕ → Load
load_so packets bytes reliable = record { packets = packets; bytes = bytes; reliable = reliable }

same_load : (p p_1 b b_1 r r_1 : ℕ) → p ≡ p_1 → b ≡ b_1 → r ≡ r_1 → load_so p b r ≡ load_so p_1 b_1 r_1
same_load p p_1 b b_1 r r_1 e f g = ap (λ (x : ℕ). load_so x b r) e ∙ (ap (λ (x : ℕ). load_so p_1 x r) f ∙ ap (λ (x : ℕ). load_so p_1 b_1 x) g)

pub both_nothing : (a : Load) → both a nothing ≡ a
both_nothing a = same_load (a.packets + 0) a.packets (a.bytes + 0) a.bytes (a.reliable + 0) a.reliable (omega arith) (omega arith) (omega arith)

pub nothing_both : (a : Load) → both nothing a ≡ a
nothing_both a = same_load (0 + a.packets) a.packets (0 + a.bytes) a.bytes (0 + a.reliable) a.reliable (omega arith) (omega arith) (omega arith)

pub both_assoc : (a b c : Load) → both (both a b) c ≡ both a (both b c)
both_assoc a b c =
    same_load (a.packets + b.packets + c.packets) (a.packets + (b.packets + c.packets)) (a.bytes + b.bytes + c.bytes) (a.bytes + (b.bytes + c.bytes))
    (a.reliable + b.reliable + c.reliable) (a.reliable + (b.reliable + c.reliable)) (omega arith) (omega arith) (omega arith)

-- where no command can be read
pub brings_none : (bytes : List ℕ) → ((m : Message) (spelled behind : List ℕ) → bytes ≡ spelled ++ behind → Spells spelled m → ⊥) → Brings bytes nothing
brings_none bytes none = record { messages = []; commands = []; rest = bytes; bytes_are = refl; spelled = refl; no_more = none; load_is = refl }

-- a command in front
pub brings_more : (len : ℕ) (bytes : List ℕ) (m : Message) (later : Load) → Spells (take len bytes) m → Brings (drop len bytes) later → Brings bytes (both (load_of m.body) later)
brings_more len bytes m later spells b = record {
  messages = m ∷ b.messages;
  commands = take len bytes ++ b.commands;
  rest = b.rest;
  bytes_are = sym (take-append-drop len bytes) ∙ (ap (λ (xs : List ℕ). take len bytes ++ xs) b.bytes_are ∙ sym (append_assoc (take len bytes) b.commands b.rest));
  spelled = (take len bytes, b.commands, refl, spells, b.spelled);
  no_more = b.no_more;
  load_is = ap (both (load_of m.body)) b.load_is;
}

-- a command brings no more bytes than it has
bytes_in : (b : Body) → ((load_of b).bytes ≤ length (payload_of b)) × ((load_of b).packets ≤ 1) × ((load_of b).reliable ≤ 1)
bytes_in (acknowledge n t) = (omega arith, omega arith, omega arith)
bytes_in (connect o) = (omega arith, omega arith, omega arith)
bytes_in (verify_connect v) = (omega arith, omega arith, omega arith)
bytes_in (disconnect i) = (omega arith, omega arith, omega arith)
bytes_in ping = (omega arith, omega arith, omega arith)
bytes_in (send_reliable p) = (omega arith, omega arith, omega arith)
bytes_in (send_unreliable n p) = (omega arith, omega arith, omega arith)
bytes_in (send_fragment f p) = (omega arith, omega arith, omega arith)
bytes_in (send_unsequenced g p) = (omega arith, omega arith, omega arith)
bytes_in (bandwidth_limit i o) = (omega arith, omega arith, omega arith)
bytes_in (throttle_configure i a d) = (omega arith, omega arith, omega arith)
bytes_in (send_unreliable_fragment f p) = (omega arith, omega arith, omega arith)

behind : (first channel : ℕ) (number fields payload : List ℕ) → 2 + length payload ≤ length (first ∷ channel ∷ number ++ (fields ++ payload))
behind first channel number fields payload =
    let f = length-append number (fields ++ payload) in
    let g = length-append fields payload in
    omega (arith, f, g)

spelled_long : (bytes : List ℕ) (m : Message) → Spells bytes m → 2 + length (payload_of m.body) ≤ length bytes
spelled_long bytes m s =
    subst (λ (xs : List ℕ). 2 + length (payload_of m.body) ≤ length xs) (sym s.spelled)
    (behind s.first m.head.channel (to_be_bytes w16 m.head.number) (text (fields_of m.body)) (payload_of m.body))

pub load_within : (len : ℕ) (bytes : List ℕ) (m : Message) → len ≤ length bytes → Spells (take len bytes) m
    → ((load_of m.body).packets ≤ len) × ((load_of m.body).bytes ≤ len) × ((load_of m.body).reliable ≤ len)
load_within len bytes m within s =
    let i = bytes_in m.body in
    let l = spelled_long (take len bytes) m s in
    let t = length-take-le len bytes within in
    (omega (arith, i.1, l, t), omega (arith, i.0, l, t), omega (arith, i.2, l, t))
