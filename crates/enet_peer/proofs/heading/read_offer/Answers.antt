use Rattle.std.proofs.Common.{[], append-nil, refl}
use Rattle.enet_codec.specs.Message.{connect}
use Rattle.enet_peer.proofs.heading.read_offer.Goals as goal

pub returns-in_default-clause-none : goal.returns-in_default-clause-none
returns-in_default-clause-none c = λ head o spelled.
    c.in_default.ensures.none (record { head = head; body = connect o }) c.args.commands.now [] (rw append-nil refl) spelled

pub returns-then-len-commands-clause-none : goal.returns-then-len-commands-clause-none
returns-then-len-commands-clause-none c = λ head o spelled.
    let only = c.in-Some.ensures.only (record { head = head; body = connect o }) c.args.commands.now [] (rw append-nil refl) spelled in
    absurd (c.if-len-commands.true only.1)
