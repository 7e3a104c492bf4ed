-- What is put out is spelled.
use Rattle.std.proofs.Common.{ℕ, ◌<◌, ◌^◌, Bool, true, false, cond, List, take, flat_map, Some, None, arith}
use Rattle.std.specs.Prelude.{IfSome}
use Rattle.std.specs.List.{list_any}
use Rattle.enet_codec.specs.Header.{header_text, masked}
use Rattle.enet_codec.specs.Message.{Message, canonical}
use Rattle.enet_codec.specs.Datagram.{SpellsDatagram}
use Rattle.enet_codec.proofs.Datagrams.{header-spells, spells-all}
use Rattle.enet_rtt.specs.Clock.{told_time}
use Rattle.enet_outbox.specs.declared.parts.Destination.{Destination}
use Rattle.enet_outbox.specs.Emission.{HasDatagram, asks, header_for}

time-fits : (asking : Bool) (now offset : ℕ) → IfSome (cond asking (Some (told_time now offset)) None) (λ (time : ℕ). time < 2 ^ 16)
time-fits true now offset = omega arith
time-fits false now offset = tt

pub datagram-spelled : (now : ℕ) (to : Destination) (messages : List Message) (len : ℕ) (buf : List ℕ) → HasDatagram now to messages len buf
    → SpellsDatagram (take len buf) (masked (header_for now to messages)) messages
datagram-spelled now to messages len buf d = record {
  front = header_text (header_for now to messages);
  commands = flat_map canonical messages;
  split = d.text;
  header = header-spells (header_for now to messages) (time-fits (list_any asks messages) now to.offset);
  messages = spells-all messages d.ranges;
}
