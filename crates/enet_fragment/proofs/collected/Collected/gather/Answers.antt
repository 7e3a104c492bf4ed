use Rattle.std.proofs.Common.{refl}
use Rattle.enet_fragment.specs.declared.collected.Collected.{Collected}
use Rattle.enet_fragment.proofs.Collecting.{gathered-contents}
use Rattle.enet_fragment.proofs.collected.Collected.gather.Goals as goal

pub returns-clause-written : goal.returns-clause-written
returns-clause-written c = λ _.
    let after : Collected = record { front = c.write_at.new.buffer; front_room = c.capacity-room.result; early = c.new.result; early_bytes = 0 } in
    gathered-contents c.args.total c.args.offset c.args.bytes.now c.write_at.new.buffer.items c.lay_all.new.all.items c.args.self.now after c.lay_all.ensures.bytes c.requires.fits c.new.ensures.items refl c.write_at.ensures.bytes
