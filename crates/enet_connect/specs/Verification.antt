-- VERIFY_CONNECT, with which a server accepts an offer, and the terms on which the client then stands.
use Rattle.std.specs.Prelude.{◌≡◌, ◌≤◌, ◌%◌, min, Bool, ◌&&◌, ◌==◌, Option, Some, None, if◌then◌else◌}
use Rattle.enet_throttle.specs.Bandwidth.{window_size}
use Rattle.enet_codec.specs.declared.command.Offer.{Offer}
use Rattle.enet_codec.specs.declared.command.Verify.{Verify}
use Rattle.enet_connect.specs.declared.server.Server.{Server}
use Rattle.enet_connect.specs.declared.terms.Terms.{Terms}
use Rattle.enet_connect.specs.Sizes.{mtu_of, window_within}
use Rattle.enet_connect.specs.Terms.{granted_channels, outgoing_for, incoming_for, is_channel_count}

-- What the server writes. The client's incoming session is the one that the server sends with.
abbrev pub verification_of : Offer → Server → Verify
verification_of o s = record {
  outgoing_peer = s.slot;
  incoming_session = outgoing_for o s;
  outgoing_session = incoming_for o s;
  mtu = mtu_of o.mtu s.mtu;
  window = window_within o.window (window_size s.incoming_bandwidth 0);
  channels = granted_channels o s;
  incoming_bandwidth = s.incoming_bandwidth;
  outgoing_bandwidth = s.outgoing_bandwidth;
  throttle_interval = o.throttle_interval;
  acceleration = o.acceleration;
  deceleration = o.deceleration;
  connect_id = o.connect_id;
}

-- The throttle's numbers are repeated.
abbrev pub has_same_throttle : Offer → Verify → Bool
has_same_throttle o v =
    o.throttle_interval == v.throttle_interval && (o.acceleration == v.acceleration && o.deceleration == v.deceleration)

-- A client accepts 1 to 255 channels with the throttle's numbers and the connect id repeated.
abbrev pub is_accepted : Offer → Verify → Bool
is_accepted o v = is_channel_count v.channels && (has_same_throttle o v && o.connect_id == v.connect_id)

-- The terms on which the client then stands.
abbrev pub agreed : Offer → Verify → Terms
agreed o v = record {
  slot = v.outgoing_peer;
  channels = min o.channels v.channels;
  mtu = mtu_of o.mtu v.mtu;
  window = window_within o.window v.window;
  incoming_session = v.incoming_session % 4;
  outgoing_session = v.outgoing_session % 4;
  throttle_interval = o.throttle_interval;
  acceleration = o.acceleration;
  deceleration = o.deceleration;
  connect_id = o.connect_id;
}

abbrev pub confirmed : Offer → Verify → Option Terms
confirmed o v = if is_accepted o v then Some (agreed o v) else None

-- What a client asked for, before the server is known.
abbrev pub asked : Offer → Terms
asked o = record {
  slot = 0xFFF;
  channels = min o.channels 255;
  mtu = o.mtu;
  window = o.window;
  incoming_session = o.incoming_session;
  outgoing_session = o.outgoing_session;
  throttle_interval = o.throttle_interval;
  acceleration = o.acceleration;
  deceleration = o.deceleration;
  connect_id = o.connect_id;
}

-- The offer asks for 1 to 255 channels, and the server grants at least one.
pub record IsOffered (o : Offer) (s : Server) : Type 0 where
  pub asked_least : 1 ≤ o.channels
  pub asked_most : o.channels ≤ 255
  pub granted_least : 1 ≤ s.channels

-- Both ends have the same channels, mtu, throttle and connect id, and what one sends with, the other takes in.
pub record AreAlike (client server : Terms) : Type 0 where
  pub channels : client.channels ≡ server.channels
  pub mtu : client.mtu ≡ server.mtu
  pub sent : client.outgoing_session ≡ server.incoming_session
  pub taken : client.incoming_session ≡ server.outgoing_session
  pub interval : client.throttle_interval ≡ server.throttle_interval
  pub acceleration : client.acceleration ≡ server.acceleration
  pub deceleration : client.deceleration ≡ server.deceleration
  pub connect_id : client.connect_id ≡ server.connect_id
