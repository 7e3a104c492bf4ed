use Rattle.std.proofs.Common.{◌≡◌, ◌++◌, take}
use Rattle.std.specs.List.{flat_map}
use Rattle.std.specs.String.{string_bytes}
use Rattle.enet_text.specs.Bodies.{escaped}
use Rattle.enet_text.proofs.body.push_letters.Given as goal

-- what is told of the bytes so far
abbrev pub invariant-loop-byte : goal.invariant-loop-byte
invariant-loop-byte l = string_bytes l.text ≡ string_bytes l.initial.text ++ flat_map escaped (take l.byte-index l.bytes)
