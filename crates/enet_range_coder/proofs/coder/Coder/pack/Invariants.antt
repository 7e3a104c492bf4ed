use Rattle.std.proofs.Common.{◌≡◌, ◌≤◌, length, take, drop}
use Rattle.enet_range_coder.specs.Private.Span.{IsWide}
use Rattle.enet_range_coder.specs.Body.{behind, packed}
use Rattle.enet_range_coder.specs.Memory.{contexts}
use Rattle.enet_range_coder.specs.Learning.{learned}
use Rattle.enet_range_coder.specs.Code.{coded_whole}
use Rattle.enet_range_coder.specs.Private.Meant.{span_meant}
use Rattle.enet_range_coder.proofs.coder.Coder.pack.Given as goal

abbrev pub invariant-loop-byte : goal.invariant-loop-byte
invariant-loop-byte l = record {
  wide : IsWide (span_meant l.interval);
  within : l.at ≤ length l.out;
  rest : coded_whole l.body ≡ behind (take l.at l.out) (packed contexts learned l.self (span_meant l.interval) (drop l.byte-index l.body));
}
