use Rattle.std.proofs.Common.{◌≡◌, ◌+◌, ◌-◌, [], arith, subst, sym, append_assoc}
use Rattle.enet_codec.specs.Message.{view}
use Rattle.law_network.specs.Marks.{MarksOf}
use Rattle.enet_site.proofs.MarkLemmas.{marks-none, marks-zero, marks-more, ended, split-at}
use Rattle.enet_site.proofs.marks.read_command_marks.Goals as goal

pub returns-in_default : goal.returns-in_default
returns-in_default c = ended _ _ (c.loop-command.invariant.joins [] (marks-none _ _ (rw c.in_default.is at c.read_command.ensures.none)))

pub loop-command-preserved : goal.loop-command-preserved
loop-command-preserved c = record {
  room = omega arith;
  joins = λ later follow.
      rw (c.push_mark.ensures.items, append_assoc)
      (c.loop-command.invariant.joins _
      (marks-more (32 - (c.loop-command._command + 1)) _ _ _ _ (view c.in-Some.command) later (omega arith)
      (split-at c.in-Some.len c.loop-command.rest.now) c.in-Some.ensures.found (rw c.bytes_after-rest.ensures at follow)));
}

pub returns : goal.returns
returns c =
    let none_left : 32 - c.loop-command._command ≡ 0 = omega arith in
    ended _ _ (c.loop-command.invariant.joins [] (subst (λ n. MarksOf n c.loop-command.rest.now []) (sym none_left) (marks-zero _)))
