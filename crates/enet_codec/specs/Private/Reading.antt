-- Reading a command from the front, by the number in its first byte and the table of the fields (`fields_of`), from which it is
-- written too.
use Rattle.std.specs.Prelude.{◌≡◌, ℕ, ◌+◌, ◌≤◌, true, List, length, take, drop, Option, Some, None, IfSome, ◌%◌, ◌==◌, Bool, [], ◌∷◌, map, nat_lt, nat_le, ◌&&◌, slice_index, if◌then◌else◌}
use Rattle.std.specs.Int.{w16, from_be_bytes, Width, byte_len, bit_at}
use Rattle.std.specs.Borrow.{Bor}
use Rattle.enet_codec.specs.declared.command.Command.{Command}
use Rattle.enet_codec.specs.declared.table.Row.{Row}
use Rattle.enet_codec.specs.Message.{Message, view, Body, acknowledge, connect, verify_connect, disconnect, ping, send_reliable, send_unreliable, send_fragment, send_unsequenced, bandwidth_limit, throttle_configure, send_unreliable_fragment, Field, fields_of}
use Rattle.enet_codec.specs.declared.command.Head.{Head}
use Rattle.enet_codec.specs.declared.command.Offer.{Offer}
use Rattle.enet_codec.specs.declared.command.Verify.{Verify}
use Rattle.enet_codec.specs.declared.command.Fragment.{Fragment}

-- How many bytes fields of these widths take.
abbrev pub size_of : List Width → ℕ
size_of [] = 0
size_of (w ∷ ws) = byte_len w + size_of ws

-- The numbers of the fields that stand from a place on.
abbrev pub numbers_at : List Width → ℕ → List ℕ → List ℕ
numbers_at [] at bytes = []
numbers_at (w ∷ ws) at bytes = from_be_bytes w (drop at bytes) ∷ numbers_at ws (at + byte_len w) bytes

-- What CONNECT and VERIFY_CONNECT say, by the numbers of their fields.
abbrev pub offer_of : List ℕ → Offer
offer_of ns = record {
  outgoing_peer = slice_index ns 0;
  incoming_session = slice_index ns 1;
  outgoing_session = slice_index ns 2;
  mtu = slice_index ns 3;
  window = slice_index ns 4;
  channels = slice_index ns 5;
  incoming_bandwidth = slice_index ns 6;
  outgoing_bandwidth = slice_index ns 7;
  throttle_interval = slice_index ns 8;
  acceleration = slice_index ns 9;
  deceleration = slice_index ns 10;
  connect_id = slice_index ns 11;
  info = slice_index ns 12;
}

abbrev pub verify_of : List ℕ → Verify
verify_of ns = record {
  outgoing_peer = slice_index ns 0;
  incoming_session = slice_index ns 1;
  outgoing_session = slice_index ns 2;
  mtu = slice_index ns 3;
  window = slice_index ns 4;
  channels = slice_index ns 5;
  incoming_bandwidth = slice_index ns 6;
  outgoing_bandwidth = slice_index ns 7;
  throttle_interval = slice_index ns 8;
  acceleration = slice_index ns 9;
  deceleration = slice_index ns 10;
  connect_id = slice_index ns 11;
}

-- The same of a fragment; number 1 is the length of its payload.
abbrev pub fragment_of : List ℕ → Fragment
fragment_of ns = record { start = slice_index ns 0; count = slice_index ns 2; number = slice_index ns 3; total = slice_index ns 4; offset = slice_index ns 5 }

-- What the command of a number says, by the numbers of its fields, and its payload.
abbrev pub body_of : ℕ → List ℕ → List ℕ → Body
body_of kind ns payload =
    if kind == 1 then acknowledge (slice_index ns 0) (slice_index ns 1)
    else if kind == 2 then connect (offer_of ns)
    else if kind == 3 then verify_connect (verify_of ns)
    else if kind == 4 then disconnect (slice_index ns 0)
    else if kind == 5 then ping
    else if kind == 6 then send_reliable payload
    else if kind == 7 then send_unreliable (slice_index ns 0) payload
    else if kind == 8 then send_fragment (fragment_of ns) payload
    else if kind == 9 then send_unsequenced (slice_index ns 0) payload
    else if kind == 10 then bandwidth_limit (slice_index ns 0) (slice_index ns 1)
    else if kind == 11 then throttle_configure (slice_index ns 0) (slice_index ns 1) (slice_index ns 2)
    else send_unreliable_fragment (fragment_of ns) payload

abbrev pub is_kind : ℕ → Bool
is_kind kind = nat_lt 0 kind && nat_lt kind 13

-- The fields of the command of a number, by the table of `fields_of`, where all that it says is 0 but for its payload.
abbrev pub blank : ℕ → List ℕ → List Field
blank kind payload = fields_of (body_of kind [] payload)

-- The widths of its fields.
abbrev pub layout : ℕ → List Width
layout kind = map (λ f. f.0) (blank kind [])

-- The number that stands in the first field that is 1 in the table.
abbrev pub told : List Field → List ℕ → ℕ
told [] ns = 0
told (f ∷ fs) [] = 0
told (f ∷ fs) (n ∷ ns) = if f.1 == 1 then n else told fs ns

-- The length of the payload, by the fields: a payload of one byte shows which field tells it.
abbrev pub payload_len : ℕ → List ℕ → ℕ
payload_len kind ns = told (blank kind (0 ∷ [])) ns

-- The command of this number and head, by the fields at the front of the bytes, and its payload.
abbrev pub message_of : ℕ → Head → List ℕ → List ℕ → Message
message_of kind head bytes payload = record { head = head; body = body_of kind (numbers_at (layout kind) 0 bytes) payload }

-- The command of this number, and the bytes after it.
abbrev pub command_at : ℕ → Head → List ℕ → Option (Message × List ℕ)
command_at kind head bytes =
    if is_kind kind && nat_le (size_of (layout kind)) (length bytes) then
    (let rest = drop (size_of (layout kind)) bytes in
    let len = payload_len kind (numbers_at (layout kind) 0 bytes) in
    if nat_le len (length rest) then Some (message_of kind head bytes (take len rest), drop len rest)
    else None)
    else None

abbrev pub head_at : List ℕ → Head
head_at bytes = record {
  acknowledge = bit_at (slice_index bytes 0) 7 == 1;
  unsequenced = bit_at (slice_index bytes 0) 6 == 1;
  channel = slice_index bytes 1;
  number = from_be_bytes w16 (drop 2 bytes);
}

-- The command at the front, and the bytes after it.
unfoldable pub message_at : List ℕ → Option (Message × List ℕ)
message_at bytes = if nat_le 4 (length bytes) then command_at (slice_index bytes 0 % 16) (head_at bytes) (drop 4 bytes) else None

-- The payload's length, where it stands at a place.
abbrev pub len_at : Option ℕ → List ℕ → ℕ
len_at None bytes = 0
len_at (Some at) bytes = from_be_bytes w16 (drop at bytes)

-- What the table says of a number: how many bytes the fields take, and where they tell the payload's length.
pub record Tells (kind : ℕ) (r : Row) : Type 0 where
  pub known : is_kind kind ≡ true
  pub fields : r.fields ≡ size_of (layout kind)
  pub payload : (bytes : List ℕ) → len_at r.payload_len_at bytes ≡ payload_len kind (numbers_at (layout kind) 0 bytes)
  pub within : IfSome r.payload_len_at (λ at. at + 2 ≤ r.fields)

-- What a reader returned is what reading gives.
abbrev pub Gives : Option (Command × Bor (List ℕ)) → Option (Message × List ℕ) → Type 0
Gives None read = read ≡ None
Gives (Some x) read = read ≡ Some (view x.0, x.1.now)
