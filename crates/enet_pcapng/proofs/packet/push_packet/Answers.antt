use Rattle.std.proofs.Common.{◌≡◌, ◌++◌, rules}
use Rattle.std.specs.Int.{to_be_bytes, w32}
use Rattle.enet_pcapng.proofs.Joins.{behind}
use Rattle.enet_pcapng.proofs.packet.push_packet.Goals as goal

pub returns : goal.returns
returns c =
    let old = c.args.packets.now.items in
    let first = to_be_bytes w32 c.args.packet.seconds in
    let second = to_be_bytes w32 c.args.packet.parts in
    let third = to_be_bytes w32 c.args.packet.kept in
    let one : c.extend_from_slice.new.self.items ≡ old ++ first = search rules in
    let two : c.extend_from_slice-2.new.self.items ≡ c.extend_from_slice.new.self.items ++ second = search rules in
    let three : c.extend_from_slice-3.new.self.items ≡ c.extend_from_slice-2.new.self.items ++ third = search rules in
    let four : c.extend_from_slice-4.new.self.items ≡ c.extend_from_slice-3.new.self.items ++ third = search rules in
    let five : c.extend_from_slice-5.new.self.items ≡ c.extend_from_slice-4.new.self.items ++ c.args.packet.bytes.now = search rules in
    behind old (((first ++ second) ++ third) ++ third) _ _ _
    (behind old ((first ++ second) ++ third) third _ _ (behind old (first ++ second) third _ _ (behind old first second _ _ one two) three) four) five
