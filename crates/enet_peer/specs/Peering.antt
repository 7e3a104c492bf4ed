-- A peer as its callers see it. Times are in milliseconds.
use Rattle.std.specs.Prelude.{ℕ, Bool, true, false, Option, None}
use Rattle.enet_codec.specs.declared.command.Offer.{Offer}
use Rattle.enet_rtt.specs.declared.expiry.Patience.{Patience}
use Rattle.enet_rtt.specs.Expiry.{standard_patience}
use Rattle.enet_rtt.specs.Timing.{Estimate, fresh}
use Rattle.enet_throttle.specs.Throttle.{Throttling, start, with_interval}
use Rattle.enet_connect.specs.declared.terms.Terms.{Terms}
use Rattle.enet_connect.specs.declared.server.Server.{Server}
use Rattle.enet_connect.specs.Terms.{granted}
use Rattle.enet_connect.specs.Verification.{asked, verification_of}
use Rattle.enet_senders.specs.declared.control.Control.TheVariants as control
use Rattle.enet_inbox.specs.Inbox.{Inbox, empty_inbox}
use Rattle.enet_outbox.specs.Outbox.{Outbox, empty_outbox, with_control}
use Rattle.enet_peer.specs.declared.parts.Ending.{Ending}
use Rattle.enet_peer.specs.declared.parts.PeerState.{PeerState}
use Rattle.enet_peer.specs.declared.parts.PeerState.TheVariants as state
use Rattle.enet_peer.specs.declared.parts.Limits.{Limits}
use Rattle.enet_peer.specs.declared.parts.Offsets.{Offsets}

pub record Peering : Type 0 where
  pub state : PeerState
  pub is_server : Bool  -- this end began by a CONNECT that came
  pub info : ℕ  -- the word for the next event of the connection, or for the DISCONNECT that is to come
  pub terms : Terms
  pub offer : Offer  -- what the client asked for
  pub limits : Limits
  pub offset : ℕ  -- what this end adds to its sent times, modulo 65536
  pub patience : Patience
  pub ping_interval : ℕ
  pub estimate : Estimate
  pub heard : ℕ  -- when an acknowledgement was last matched, or at first when the peer was made
  pub made : ℕ  -- when the peer was made
  pub refused : Bool  -- its host was full when its client confirmed: it is told so, and let go
  pub other_incoming : ℕ  -- the other's incoming bandwidth as last told, in bytes per second
  pub greeting : Option ℕ  -- a Connect event that wasn't taken
  pub ending : Option Ending  -- why the connection has ended
  pub inbox : Inbox
  pub outbox : Outbox

abbrev pub no_offer : Offer
no_offer = record {
  outgoing_peer = 0;
  incoming_session = 0;
  outgoing_session = 0;
  mtu = 0;
  window = 0;
  channels = 0;
  incoming_bandwidth = 0;
  outgoing_bandwidth = 0;
  throttle_interval = 0;
  acceleration = 0;
  deceleration = 0;
  connect_id = 0;
  info = 0;
}

abbrev pub throttle_for : Terms → Throttling
throttle_for t = with_interval start t.throttle_interval t.acceleration t.deceleration

-- a peer that is connected from the start, its number 1 of channel 0xFF counting as sent. Nothing is added to its sent times
abbrev pub joined : ℕ → Terms → Limits → Peering
joined now terms limits = record {
  state = state.Connected;
  is_server = false;
  info = 0;
  terms = terms;
  offer = no_offer;
  limits = limits;
  offset = 0;
  patience = standard_patience;
  ping_interval = 500;
  estimate = fresh;
  heard = now;
  made = now;
  refused = false;
  other_incoming = 0;
  greeting = None;
  ending = None;
  inbox = empty_inbox terms.channels limits.max_packet limits.max_waiting;
  outbox = empty_outbox terms.channels 1 (throttle_for terms);
}

-- a client that asks: CONNECT is queued as number 1
abbrev pub connecting : (now offset : ℕ) → Offer → Limits → Peering
connecting now offset offer limits = record (joined now (asked offer) limits) {
  state = state.Connecting;
  offset = offset;
  offer = offer;
  outbox = with_control (empty_outbox (asked offer).channels 0 (throttle_for (asked offer))) (control.Connect offer);
}

-- a server that answers: VERIFY_CONNECT is queued, with the number after that which is added to its numbers
abbrev pub answering : ℕ → Offsets → Offer → Server → Limits → Peering
answering now offsets offer server limits = record (joined now (granted offer server) limits) {
  state = state.Answering;
  is_server = true;
  offset = offsets.time;
  info = offer.info;
  other_incoming = offer.incoming_bandwidth;
  outbox = with_control (empty_outbox (granted offer server).channels offsets.number (throttle_for (granted offer server))) (control.VerifyConnect (verification_of offer server));
}
