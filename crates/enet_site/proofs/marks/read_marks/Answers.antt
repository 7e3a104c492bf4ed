use Rattle.std.proofs.Common.{take, drop, inl}
use Rattle.enet_site.proofs.MarkLemmas.{split-at}
use Rattle.enet_site.proofs.marks.read_marks.Goals as goal

pub returns-in-Some : goal.returns-in-Some
returns-in-Some c =
    inl (record {
      header = c.in-Some._header;
      front = take c.in-Some.len c.args.text.now;
      commands = drop c.in-Some.len c.args.text.now;
      split = split-at c.in-Some.len c.args.text.now;
      spelled = c.in-Some.ensures.found;
      marked = rw (← c.bytes_after.ensures) c.read_command_marks.ensures;
    })
