-- The marks of a datagram's commands, by what its bytes spell.
use Rattle.std.specs.Prelude.{◌≡◌, ℕ, zero, suc, List, [], ◌++◌, ◌⊎◌, Option, Some, None, map, option_to_list}
use Rattle.enet_codec.specs.declared.command.Head.{Head}
use Rattle.enet_codec.specs.declared.header.Header.{Header}
use Rattle.enet_codec.specs.Header.{SpellsHeader}
use Rattle.enet_codec.specs.Message.{Message, Body, acknowledge, send_reliable, send_unreliable, send_fragment, send_unsequenced, send_unreliable_fragment, Spells}
use Rattle.enet_peer.specs.Handling.{SpellsNone}
use Rattle.law_network.specs.Log.{counted_all, reached}
use Rattle.law_network.specs.declared.mark.Mark.{Mark}
use Rattle.law_network.specs.declared.mark.MarkKind.{MarkKind}
use Rattle.law_network.specs.declared.mark.MarkKind.TheVariants.{Data, Acknowledgement, Control}

abbrev pub mark_as : MarkKind → ℕ → ℕ → Mark
mark_as kind channel number = record { kind = kind; channel = channel; number = number; sent_then = 0 }

-- an acknowledgement has the number of the command that it acknowledges, any other command its own
abbrev pub mark_by_body : Head → Body → Option Mark
mark_by_body h (acknowledge number time) = Some (mark_as Acknowledgement h.channel number)
mark_by_body h (send_reliable payload) = Some (mark_as Data h.channel h.number)
mark_by_body h (send_unreliable unreliable payload) = Some (mark_as Data h.channel h.number)
mark_by_body h (send_fragment fragment payload) = Some (mark_as Data h.channel h.number)
mark_by_body h (send_unreliable_fragment fragment payload) = Some (mark_as Data h.channel h.number)
mark_by_body h (send_unsequenced group payload) = None
mark_by_body h _ = Some (mark_as Control h.channel h.number)

-- the mark of a command, if it has one, before `sent_then` is noted
abbrev pub mark_of : Message → Option Mark
mark_of m = mark_by_body m.head m.body

-- the first command that bytes spell, with the marks of those after it
pub record SpellsFirst (Later : List ℕ → List Mark → Type 0) (bytes : List ℕ) (marks : List Mark) : Type 0 where
  pub message : Message
  pub text : List ℕ
  pub rest : List ℕ
  pub later : List Mark
  pub split : bytes ≡ text ++ rest
  pub spelled : Spells text message
  pub follow : Later rest later
  pub joined : marks ≡ option_to_list (mark_of message) ++ later

-- the marks of the first so many commands that bytes spell, one after another
unfoldable pub MarksOf : ℕ → List ℕ → List Mark → Type 0
MarksOf zero bytes marks = marks ≡ []
MarksOf (suc most) bytes marks = (SpellsNone bytes × (marks ≡ [])) ⊎ SpellsFirst (MarksOf most) bytes marks

-- a header, and the marks of the commands after it
pub record AfterHeader (text : List ℕ) (marks : List Mark) : Type 0 where
  pub header : Header
  pub front : List ℕ
  pub commands : List ℕ
  pub split : text ≡ front ++ commands
  pub spelled : SpellsHeader front header
  pub marked : MarksOf 32 commands marks

-- the marks of a datagram: those of the at most 32 commands that stand after its header
abbrev pub MarksIn : List ℕ → List Mark → Type 0
MarksIn text marks = AfterHeader text marks ⊎ (((h : Header) (front rest : List ℕ) → text ≡ front ++ rest → SpellsHeader front h → ⊥) × (marks ≡ []))

-- a datagram is put out: its commands are counted, which leaves the greatest numbers of its end so, and then marked with how far the
-- numbers have come
pub record Counts (text : List ℕ) (old new other : List ℕ) (marks : List Mark) : Type 0 where
  pub read : List Mark
  pub marked : MarksIn text read
  pub counted : new ≡ counted_all old read
  pub noted : marks ≡ map (reached new other) read
