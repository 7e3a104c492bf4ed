-- What is held, slot by slot.
use Rattle.std.specs.Prelude.{ℕ, ◌+◌, ◌*◌, ◌≤◌}
use Rattle.enet_peer.specs.declared.held.Held.{Held}

-- this and that together
abbrev pub together : Held → Held → Held
together this that = record {
  channels = this.channels + that.channels;
  senders = this.senders + that.senders;
  packets = this.packets + that.packets;
  undispatched = this.undispatched + that.undispatched;
  bytes = this.bytes + that.bytes;
  acknowledgements = this.acknowledgements + that.acknowledgements;
}

-- what so many peers hold whatever their limits are
pub record IsLittleBy (n : ℕ) (held : Held) : Type 0 where
  pub channels : held.channels ≤ n * 255
  pub senders : held.senders ≤ n * 255
  pub packets : held.packets ≤ n * 134217728
  pub undispatched : held.undispatched ≤ n * 134217728
  pub bytes : held.bytes ≤ n * 4398046511104
  pub acknowledgements : held.acknowledgements ≤ n * 8192
