-- Channels that seek anew what of theirs is due to go again.
use Rattle.std.specs.Prelude.{◌≡◌, List, map}
use Rattle.enet_sender.specs.declared.outgoing.Outgoing.{Outgoing}

-- one of them
abbrev pub seeking : Outgoing → Outgoing
seeking o = record o { due_from = 0 }

-- all of them
abbrev pub Seek : List Outgoing → List Outgoing → Type 0
Seek old new = new ≡ map seeking old
