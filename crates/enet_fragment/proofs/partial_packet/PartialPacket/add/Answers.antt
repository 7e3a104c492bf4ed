use Rattle.std.proofs.Common.{◌≡◌, true, is_some, sym, ap, ◌∙◌, rules}
use Rattle.enet_fragment.specs.PartialPacket.{piece_at}
use Rattle.enet_fragment.proofs.Wholes.{whole_seen, whole-misses_none}
use Rattle.enet_fragment.proofs.partial_packet.PartialPacket.add.Goals as goal

pub unreachable-requires : goal.unreachable-requires
unreachable-requires c =
    let here = whole_seen _ _ _ _ _ c.self.view_is (sym c.replace.ensures.value ∙ c.in-Whole.is) in
    let there : is_some (piece_at c.args.self.now c.args.place.number) ≡ true = whole-misses_none _ _ _ _ c.args.place here c.requires.belongs in
    let missing = ap is_some c.requires.missing in
    cc

pub returns-in-Ok-clause-ok : goal.returns-in-Ok-clause-ok
returns-in-Ok-clause-ok c = search rules
