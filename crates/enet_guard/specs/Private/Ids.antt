-- The connect id of a command.
use Rattle.std.specs.Prelude.{ℕ, Option, Some, None}
use Rattle.enet_codec.specs.Message.{Body, connect}

-- a CONNECT has one
abbrev pub id_in : Body → Option ℕ
id_in (connect offer) = Some offer.connect_id
id_in _ = None
