-- Which datagrams ask for a connection.
use Rattle.std.specs.Prelude.{◌≡◌, ℕ, List, ◌++◌}
use Rattle.enet_codec.specs.declared.header.Header.{Header}
use Rattle.enet_codec.specs.declared.command.Head.{Head}
use Rattle.enet_codec.specs.declared.command.Offer.{Offer}
use Rattle.enet_codec.specs.Header.{SpellsHeader}
use Rattle.enet_codec.specs.Message.{Spells, connect}

-- a header that names no slot, and then a CONNECT with this connect id, whatever follows
pub record Asks (bytes : List ℕ) (connect_id : ℕ) : Type 0 where
  pub header : Header
  pub head : Head
  pub offer : Offer
  pub header_text : List ℕ
  pub command_text : List ℕ
  pub rest : List ℕ
  pub bytes_are : bytes ≡ header_text ++ (command_text ++ rest)
  pub header_spelled : SpellsHeader header_text header
  pub no_slot : header.peer ≡ 4095
  pub command_spelled : Spells command_text (record { head = head; body = connect offer })
  pub id : connect_id ≡ offer.connect_id
