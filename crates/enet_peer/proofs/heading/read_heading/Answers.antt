use Rattle.std.proofs.Common.{◌≡◌, ◌++◌, drop, take, arith, rules, sym}
use Rattle.std.proofs.lemmas.List.{take-append-drop}
use Rattle.enet_peer.specs.Heading.{too_short, compressed, cut_short}
use Rattle.enet_peer.proofs.heading.read_heading.Goals as goal

pub returns-then-bytes-lt2-clause-refused : goal.returns-then-bytes-lt2-clause-refused
returns-then-bytes-lt2-clause-refused c = too_short (omega arith)

pub returns-then-is_compressed-clause-refused : goal.returns-then-is_compressed-clause-refused
returns-then-is_compressed-clause-refused c = compressed (omega arith) (search rules)

pub returns-in_default-clause-refused : goal.returns-in_default-clause-refused
returns-in_default-clause-refused c = cut_short (omega arith) (search rules) (search rules)

pub returns-clause-read : goal.returns-clause-read
returns-clause-read c =
    let bytes = c.args.bytes.now in
    let len = c.in-Some.len in
    let split : bytes ≡ take len bytes ++ drop len bytes = sym (take-append-drop len bytes) in
    record {
      front = take len bytes;
      split = rw c.bytes_after.ensures split;
      spelled = c.in-Some.ensures.found;
      plain = search rules;
    }
