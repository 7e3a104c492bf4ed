use Rattle.std.proofs.Common.{rules}
use Rattle.enet_fragment.proofs.place.Place.is_sound.Goals as goal

pub is_even-requires-clause-count : goal.is_even-requires-clause-count
is_even-requires-clause-count c = search rules
