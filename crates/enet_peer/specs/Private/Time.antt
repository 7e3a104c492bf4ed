-- What a moment makes of what a peer has sent, before its end and before a ping.
use Rattle.std.specs.Prelude.{ℕ, Bool, if◌then◌else◌}
use Rattle.enet_rtt.specs.declared.expiry.Expiry.{Expiry}
use Rattle.enet_rtt.specs.declared.expiry.Expiry.TheVariants.{No, Resend, End}
use Rattle.enet_outbox.specs.Outbox.{marked}
use Rattle.enet_peer.specs.Peering.{Peering}
use Rattle.enet_peer.specs.Calls.{after_timeouts, expiry_of, held_back, is_held_back, tick_of}

-- what waited out its timeout is due to go again
abbrev pub marked_by : Expiry → Peering → ℕ → Peering
marked_by No p now = p
marked_by Resend p now = record p { outbox = marked p.outbox (tick_of p now) }
marked_by End p now = p

-- or is held back
abbrev pub expired : Bool → Peering → ℕ → Peering
expired short p now = if is_held_back short p now then held_back p now else marked_by (expiry_of p now) p now

abbrev pub timed_out : Bool → Peering → ℕ → Peering
timed_out short p now = if is_held_back short p now then held_back p now else after_timeouts p now
