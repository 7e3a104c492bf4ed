use Rattle.std.proofs.Common.{◌≡◌, ◌+◌, ◌*◌, ◌≤◌, length, refl, arith}
use Rattle.enet_fragment.specs.PartialPacket.{count_of}
use Rattle.enet_fragment.specs.Collected.{contents, taken_by}
use Rattle.enet_fragment.specs.Memory.{bytes_come, pieces_come}
use Rattle.enet_fragment.specs.Stored.{stored}
use Rattle.enet_fragment.proofs.Views.{count_of-making}
use Rattle.enet_fragment.proofs.Frugal.{bytes_come-making, pieces_come-le, taken-within}
use Rattle.enet_fragment.proofs.piece_store.PieceStore.memory.Goals as goal

pub memory-requires : goal.memory-requires
memory-requires c =
    let s = c.args.self.now in
    let m = stored s in
    let taken : taken_by s.bytes ≤ 2 * bytes_come m + 64 * pieces_come m + 512 = taken-within m s.bytes c.requires.frugal in
    let bytes : bytes_come m ≤ length (contents s.total s.bytes) = bytes_come-making s.cut (contents s.total s.bytes) s.came in
    let pieces : pieces_come m ≤ count_of m = pieces_come-le m in
    let many : count_of m ≡ length s.came = count_of-making (contents s.total s.bytes) s.came s.cut m refl in
    omega (arith, c.requires.stored.kept.small_total, c.requires.stored.kept.small_count)

pub overflow_add-result : goal.overflow_add-result
overflow_add-result c =
    let s = c.args.self.now in
    let m = stored s in
    let taken : taken_by s.bytes ≤ 2 * bytes_come m + 64 * pieces_come m + 512 = taken-within m s.bytes c.requires.frugal in
    let bytes : bytes_come m ≤ length (contents s.total s.bytes) = bytes_come-making s.cut (contents s.total s.bytes) s.came in
    let pieces : pieces_come m ≤ count_of m = pieces_come-le m in
    let many : count_of m ≡ length s.came = count_of-making (contents s.total s.bytes) s.came s.cut m refl in
    omega (arith, c.requires.stored.kept.small_total, c.requires.stored.kept.small_count, c.memory.ensures, c.memory-2.ensures)

pub returns : goal.returns
returns c =
    let s = c.args.self.now in
    let m = stored s in
    let taken : taken_by s.bytes ≤ 2 * bytes_come m + 64 * pieces_come m + 512 = taken-within m s.bytes c.requires.frugal in
    let many : count_of m ≡ length s.came = count_of-making (contents s.total s.bytes) s.came s.cut m refl in
    omega (arith, c.memory.ensures, c.memory-2.ensures)
