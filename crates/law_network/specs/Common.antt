-- What the connections of one host share: this, the call, and nothing else. No connection changes the settings, the clock, the send limit
-- or when the bandwidth is shared out: `set_bandwidth`, `tick` and `set_send_limit` do, by their arguments and these alone.
use Rattle.std.specs.Prelude.{ℕ, Bool, Option, length}
use Rattle.std.specs.List.{count_by, list_any}
use Rattle.enet_codec.specs.declared.address.Addr.{Addr}
use Rattle.enet_codec.specs.declared.config.Config.{Config}
use Rattle.enet_outbox.specs.declared.parts.SendLimit.{SendLimit}
use Rattle.enet_slot.specs.Giving.{Basis}
use Rattle.enet_slot.specs.Receiving.{is_connection}
use Rattle.enet_slot.specs.Sharing.{is_standing}
use Rattle.enet_host.specs.Crediting.{is_short_at}
use Rattle.enet_host.specs.Host.{Host}
use Rattle.enet_host.specs.Opening as opening
use Rattle.enet_host.specs.Receiving.{is_full, listener_of}
use Rattle.enet_host.specs.Ticking as ticking
use Rattle.enet_host.specs.Turns.{turn_of}

pub record Common : Type 0 where
  pub config : Config
  pub clock : ℕ
  pub available : Option ℕ  -- the lowest slot that is free and has a generation left
  pub seat : Addr → Option ℕ  -- the slot that an offer from an address gets: that one, or one that gives way
  pub full : Bool  -- whether as many peers that began by a CONNECT have a client that confirmed as may be there
  pub knows : Addr → ℕ → Bool  -- whether a slot holds the connection of this address and connect id already
  pub turn : ℕ → ℕ  -- how many slots are asked for a datagram before this one
  pub event_turn : ℕ → ℕ  -- how many are asked for an event before this one
  pub is_due : ℕ → Bool  -- whether the bandwidth is shared out anew once time has come to this moment
  pub standing : ℕ → ℕ  -- and among how many connected peers
  pub short : ℕ → Bool  -- whether the address of a slot's peer sent too little for another answer
  pub send_limit : Option SendLimit  -- at how much queued or unacknowledged a peer takes no further packet

abbrev pub common_of : Host → Common
common_of h = record {
  config = h.config;
  clock = h.clock;
  available = opening.available h.config h.slots;
  seat = λ from. opening.seat (opening.host_basis h) from h.slots;
  full = is_full (listener_of h);
  knows = λ from connect_id. list_any (is_connection from connect_id) h.slots;
  turn = turn_of (length h.slots) h.service_from;
  event_turn = turn_of (length h.slots) h.event_from;
  is_due = λ now. ticking.is_due (ticking.with_time h now);
  standing = λ now. count_by is_standing (ticking.with_time h now).slots;
  short = is_short_at h.credits;
  send_limit = h.send_limit;
}

-- what a host goes by, of what is shared
abbrev pub common_basis : Common → Basis
common_basis h = record { config = h.config; clock = h.clock }
