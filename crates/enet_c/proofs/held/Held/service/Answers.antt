use Rattle.std.proofs.Common.{rules, inr, refl}
use Rattle.enet_c.proofs.held.Held.service.Goals as goal

pub returns : goal.returns
returns c =
    inr (record {
      gave = c.service.result;
      front = c.service.new.buf;
      serves = c.service.ensures.serves;
      room = search rules;
      written = refl;
      shown = c.of.ensures;
      done = refl;
      rest = refl;
    })
