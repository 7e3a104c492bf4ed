-- The terms on which a server stands that answers an offer.
use Rattle.std.specs.Prelude.{ℕ, ◌≤◌, min, Bool, ◌&&◌, nat_le, Option, Some, None, if◌then◌else◌}
use Rattle.enet_throttle.specs.Bandwidth.{window_size}
use Rattle.enet_codec.specs.declared.command.Offer.{Offer}
use Rattle.enet_connect.specs.declared.server.Server.{Server}
use Rattle.enet_connect.specs.declared.terms.Terms.{Terms}
use Rattle.enet_connect.specs.Session.{new_session}
use Rattle.enet_connect.specs.Sizes.{mtu_of}

-- The lesser of asked and allowed.
abbrev pub granted_channels : Offer → Server → ℕ
granted_channels o s = min o.channels s.channels

-- The session that came as incoming gives the server's outgoing one, and the other way round.
abbrev pub outgoing_for : Offer → Server → ℕ
outgoing_for o s = new_session o.incoming_session s.outgoing_session

abbrev pub incoming_for : Offer → Server → ℕ
incoming_for o s = new_session o.outgoing_session s.incoming_session

abbrev pub granted : Offer → Server → Terms
granted o s = record {
  slot = o.outgoing_peer;
  channels = granted_channels o s;
  mtu = mtu_of o.mtu s.mtu;
  window = window_size s.outgoing_bandwidth o.incoming_bandwidth;
  incoming_session = incoming_for o s;
  outgoing_session = outgoing_for o s;
  throttle_interval = o.throttle_interval;
  acceleration = o.acceleration;
  deceleration = o.deceleration;
  connect_id = o.connect_id;
}

-- A count of channels is 1 to 255.
abbrev pub is_channel_count : ℕ → Bool
is_channel_count n = nat_le 1 n && nat_le n 255

-- An offer is answered where it asks for 1 to 255 channels.
abbrev pub answered : Offer → Server → Option Terms
answered o s = if is_channel_count o.channels then Some (granted o s) else None

-- The ranges of a connection's terms.
pub record IsWithinLimits (t : Terms) : Type 0 where
  pub mtu_least : 576 ≤ t.mtu
  pub mtu_most : t.mtu ≤ 4096
  pub window_least : 4096 ≤ t.window
  pub window_most : t.window ≤ 65536
