use Rattle.std.proofs.Common.{take, drop, refl, sym, subst, List, ℕ}
use Rattle.std.proofs.lemmas.List.{take-append-drop}
use Rattle.enet_guard.specs.Loads.{Brings}
use Rattle.enet_guard.proofs.loads.carried.Goals as goal

pub returns-clause-carries : goal.returns-clause-carries
returns-clause-carries c = record {
  header = c.in_ok-header.header;
  header_text = take c.in_ok-header.len c.args.bytes.now;
  behind = drop c.in_ok-header.len c.args.bytes.now;
  bytes_are = sym (take-append-drop c.in_ok-header.len c.args.bytes.now);
  header_spelled = c.in_ok-header.ensures.found;
  slot_is = refl;
  brings = subst (λ (xs : List ℕ). Brings xs c.brought.result) c.bytes_after.ensures c.brought.ensures;
}
