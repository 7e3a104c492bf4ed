-- An inbox of its parts, and the parts of what it answers.
use Rattle.std.specs.Prelude.{◌≡◌, ℕ, Bool, true, ◌==◌, nat_lt, if◌then◌else◌, is_ok, Option, Some, None, Result, Ok, Err, length}
use Rattle.enet_codec.specs.declared.stop.Stop.{Stop}
use Rattle.enet_codec.specs.declared.stop.Stop.TheVariants as stop
use Rattle.enet_seq.specs.Windows.{acknowledges}
use Rattle.enet_fragment.specs.declared.data.DataCommand.{DataCommand}
use Rattle.enet_receiver.specs.Foresight.{ReceivingEnd, new_end}
use Rattle.enet_inbox.specs.Inbox.{Inbox, given_way, given_way_receiver}
use Rattle.enet_inbox.specs.DataEffect.{sequenced}
use Rattle.enet_receiver.specs.declared.took.Took.{Took}
use Rattle.enet_receiver.specs.declared.took.Took.TheVariants as took
use Rattle.enet_receiver.specs.declared.took.Foresight.{Foresight}

-- what an outcome means for a datagram, where this says whether the command may be acknowledged
abbrev pub answer_by : Took → Bool → Result Bool Stop
answer_by took.Held may = Ok may
answer_by took.Again may = Ok may
answer_by took.Outside may = Ok may
answer_by took.Bad may = Err stop.BadFragment
answer_by took.Waiting may = Err stop.Waiting
answer_by took.Memory may = Err stop.Memory

abbrev pub answer_of : Foresight → Result Bool Stop
answer_of f = answer_by f.took f.acknowledged

-- the answer to a command that is taken in where it finds room, where this says whether it finds none
abbrev pub answer_where : Bool → ReceivingEnd → DataCommand → Result Bool Stop
answer_where full r c = if full then Err stop.Waiting else Ok (acknowledges r.receiver.front c.number)

-- what waits is given up on all channels but one
abbrev pub given_way_but : ℕ → ReceivingEnd → ReceivingEnd
given_way_but own r = if r.channel == own then r else given_way_receiver r

-- the inbox that a command meets, where this says whether it makes room for itself
abbrev pub met_by : Bool → Inbox → Inbox
met_by makes_room b = if makes_room then given_way b else b

-- a sequenced command finds no room, and finds it once the unreliable packets that wait give way
pub record FindsRoom (b : Inbox) (channel : ℕ) (o : Option DataCommand) : Type 0 where
  pub none_yet : (sequenced b channel o).answer ≡ Err stop.Waiting
  pub then_room : is_ok (sequenced (given_way b) channel o).answer ≡ true

-- the receiver of a channel of which nothing was kept yet; none where there is no such channel
abbrev pub new_at : Inbox → ℕ → Option ReceivingEnd
new_at b channel = if nat_lt channel (length b.receivers) then Some (new_end channel b.max_packet) else None
