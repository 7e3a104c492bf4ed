use Rattle.std.proofs.Common.{◌≤◌, ◌-◌, arith}
use borrow.Author.Tests.{leb-true}
use Rattle.enet_fragment.proofs.Places.{told_piece_len-le}
use Rattle.enet_fragment.proofs.place.Place.ends_within.Goals as goal

pub returns-then-self-total-clause-small : goal.returns-then-self-total-clause-small
returns-then-self-total-clause-small c = λ h.
    let ends : c.args.self.offset ≤ c.args.self.total - c.args.self.len = leb-true _ _ h in
    omega (arith, told_piece_len-le c.args.self)
