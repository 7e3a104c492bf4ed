-- What a store of pieces stands for, and what stays true of it.
use Rattle.enet_fragment.specs.declared.piece_store.PieceStore.{PieceStore}
use Rattle.enet_fragment.specs.PartialPacket.{PartialPacket}
use Rattle.enet_fragment.specs.Assembly.{making_of, AreKept}
use Rattle.enet_fragment.specs.Collected.{contents, IsCollected, IsThrifty}
use Rattle.enet_fragment.specs.Memory.{bytes_come, pieces_come}

-- the packet in pieces that it stands for
abbrev pub stored : PieceStore → PartialPacket
stored s = making_of (contents s.total s.bytes) s.came s.cut

-- its fields fit one another
pub record IsStored (s : PieceStore) : Type 0 where
  pub kept : AreKept (contents s.total s.bytes) s.came s.missing s.cut
  pub collected : IsCollected s.total s.bytes

-- it has taken no more memory than the pieces that came are worth (a piece whose mark was taken back isn't counted among them)
abbrev pub IsFrugal : PieceStore → Type 0
IsFrugal s = IsThrifty (bytes_come (stored s)) (pieces_come (stored s)) s.bytes
