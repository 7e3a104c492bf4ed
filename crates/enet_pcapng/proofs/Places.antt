-- Where the parts of a block and of an option stand.
use Rattle.std.proofs.Common.{◌≡◌, ◌≤◌, ◌<◌, ◌+◌, ℕ, List, length, take, drop, ap, length-take, length-drop, arith}
use Rattle.enet_pcapng.specs.declared.block.Order.{Order}
use Rattle.enet_pcapng.specs.declared.block.Block.{Block}
use Rattle.enet_pcapng.specs.Blocks.{IsBlock}
use Rattle.enet_pcapng.specs.Interfaces.{IsOption, filled}

-- what is left behind a cut that was possible
pub enough : (bytes tail : List ℕ) (n : ℕ) → tail ≡ take 4 (drop n (drop 8 bytes)) → length tail ≡ 4 → n + 12 ≤ length bytes
enough bytes tail n is four =
    omega (arith, ap length is, four, length-take 4 (drop n (drop 8 bytes)), length-drop n (drop 8 bytes), length-drop 8 bytes)

-- behind a block there are fewer bytes
pub fewer : (before : Order) (bytes : List ℕ) (block : Block) (behind : List ℕ) → IsBlock before bytes block behind → length behind < length bytes
fewer before bytes block behind is =
    let n = length block.body.now in
    omega (arith, is.is_within, ap length is.behind_is, length-drop 4 (drop n (drop 8 bytes)), length-drop n (drop 8 bytes), length-drop 8 bytes)

-- behind an option there are fewer bytes
pub fewer_left : (order : Order) (bytes : List ℕ) (code : ℕ) (value behind : List ℕ) → IsOption order bytes code value behind → length behind < length bytes
fewer_left order bytes code value behind is =
    omega (arith, is.is_within, ap length is.behind_is, length-drop (filled (length value)) (drop 4 bytes), length-drop 4 bytes)
