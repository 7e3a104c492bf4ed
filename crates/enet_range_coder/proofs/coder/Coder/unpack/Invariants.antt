use Rattle.std.proofs.Common.{◌≡◌, ◌-◌, length, take}
use Rattle.enet_range_coder.specs.Private.Span.{IsWide}
use Rattle.enet_range_coder.specs.Body.{behind, unpacked}
use Rattle.enet_range_coder.specs.Memory.{contexts}
use Rattle.enet_range_coder.specs.Learning.{learned}
use Rattle.enet_range_coder.specs.Code.{opened_whole}
use Rattle.enet_range_coder.specs.Private.Meant.{span_meant}
use Rattle.enet_range_coder.proofs.coder.Coder.unpack.Given as goal

abbrev pub invariant-loop-at : goal.invariant-loop-at
invariant-loop-at l = record {
  wide : IsWide (span_meant l.interval);
  rest : opened_whole (length l.out) l.code ≡ behind (take l.at l.out) (unpacked contexts learned (length l.out - l.at) l.self (span_meant l.interval) l.rest);
}
