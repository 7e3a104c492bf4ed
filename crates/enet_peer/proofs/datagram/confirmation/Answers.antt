use Rattle.std.proofs.Common.{arith, sym, ap, subst, ◌∙◌}
use Rattle.enet_codec.specs.Message.{Message, view}
use Rattle.enet_peer.proofs.Confirming.{none-confirms, none-spelled}
use Rattle.enet_peer.proofs.datagram.confirmation.Goals as goal

pub returns-then-confirms-clause-found : goal.returns-then-confirms-clause-found
returns-then-confirms-clause-found c = record {
  some = (let l = c.in-Some.ensures.length in omega (arith, l.0));
  within = c.in-Some.ensures.length.1;
  message = view c.in-Some.command;
  spelled = c.in-Some.ensures.found;
  confirms = sym c.confirms.ensures ∙ c.if-confirms.true;
}

pub returns-else-confirms-clause-none : goal.returns-else-confirms-clause-none
returns-else-confirms-clause-none c =
    none-confirms c.in-Some.len c.args.bytes.now (view c.in-Some.command) c.args.peer.now.peer c.in-Some.ensures.found (sym c.confirms.ensures ∙ c.if-confirms.false)

pub returns-in_default-clause-none : goal.returns-in_default-clause-none
returns-in_default-clause-none c = none-spelled c.args.bytes.now c.args.peer.now.peer c.in_default.ensures.none
