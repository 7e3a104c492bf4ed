-- What a user is told of a connection.
use Rattle.std.specs.Prelude.{false, List}
use Rattle.enet_codec.specs.declared.event.Event.{Event}
use Rattle.enet_codec.specs.declared.event.PeerRef.{PeerRef}
use Rattle.law_network.specs.Headline.{IsLife}

-- all that a user took of a connection is one life, of whichever peer
pub record IsSomeLife (taken : List Event) : Type 0 where
  pub name : PeerRef
  pub life : IsLife false name taken
