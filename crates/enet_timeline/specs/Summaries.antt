-- What a summary says: of the whole, and of one connection after another.
use Rattle.std.specs.Prelude.{◌≡◌, ◌-◌, ◌/◌, ◌%◌, ◌==◌, ◌&&◌, not, ℕ, zero, suc, nat_lt, Bool, true, false, if◌then◌else◌, List, [], ◌∷◌, ◌++◌, length, vec_len, slice_get, count_by, codes, Option, Some, None, is_some}
use Rattle.std.specs.Fmt.{decimal}
use Rattle.std.specs.Int.{to_be_bytes, w32}
use Rattle.std.specs.List.{flat_map}
use Rattle.std.specs.Option.{unwrap_or}
use Rattle.enet_codec.specs.declared.stop.Stop.{Stop}
use Rattle.enet_codec.specs.declared.stop.Stop.TheVariants.{Short, Compressed, BadCommand}
use Rattle.enet_codec.specs.Stop.{stop_label}
use Rattle.enet_text.specs.Texts.{address_text, bytes_text}
use Rattle.enet_captured.specs.declared.told.Kind.{Kind}
use Rattle.enet_captured.specs.declared.told.Kind.TheVariants.{Acknowledge, Connect, VerifyConnect, Disconnect, Ping, SendReliable, SendUnreliable, SendFragment, SendUnsequenced, BandwidthLimit, ThrottleConfigure, SendUnreliableFragment}
use Rattle.enet_captured.specs.declared.timeline.Way.{Way}
use Rattle.enet_captured.specs.declared.timeline.Way.TheVariants.{Right, Left}
use Rattle.enet_captured.specs.declared.delays.Delays.{Delays}
use Rattle.enet_captured.specs.Delays.{made_at}
use Rattle.enet_captured.specs.Sends.{other_way}
use Rattle.enet_captured.specs.declared.timeline.Source.{Source}
use Rattle.enet_captured.specs.declared.timeline.Source.TheVariants.{Capture, Script, Sockets}
use Rattle.enet_captured.specs.declared.fates.Marked.{Marked}
use Rattle.enet_captured.specs.declared.fates.Outcome.TheVariants.{Acknowledged, NoneSeen, Open}
use Rattle.enet_captured.specs.Fates.{has_ended, was_early, was_in_vain, was_lost, was_resent}
use Rattle.enet_captured.specs.declared.timeline.Seen.{Seen}
use Rattle.enet_captured.specs.declared.timeline.Mark.{Mark}
use Rattle.enet_captured.specs.declared.timeline.Timeline.{Timeline}
use Rattle.enet_captured.specs.declared.filter.Filter.{Filter}
use Rattle.enet_captured.specs.declared.part.Part.{Part}
use Rattle.enet_captured.specs.Commands.{name_of, same_kind}
use Rattle.enet_captured.specs.Counts.{same_way, is_stopped_by}
use Rattle.enet_captured.specs.Gaps.{IsLongest}

-- Microseconds as seconds, with six digits behind the point.
unfoldable pub seconds_text : ℕ → List ℕ
seconds_text us =
    decimal (us / 1000000) ++ codes "." ++ decimal (us / 100000 % 10) ++ decimal (us / 10000 % 10) ++ decimal (us / 1000 % 10)
    ++ decimal (us / 100 % 10) ++ decimal (us / 10 % 10) ++ decimal (us % 10)

-- What isn't told, drawn or there, where something isn't.
unfoldable pub unkept_text : ℕ → List ℕ
unkept_text unkept = if unkept == 0 then [] else (decimal unkept ++ codes " datagrams of further connections aren't told\n")

unfoldable pub cut_text : Bool → List ℕ
cut_text is_cut = if is_cut then codes "the capture is cut short\n" else []

unfoldable pub first_connections_text : ℕ → List ℕ
first_connections_text connections = if nat_lt 24 connections then (codes "drawn are the first " ++ decimal 24 ++ codes " connections\n") else []

unfoldable pub counts_text : Timeline → List ℕ
counts_text t =
    codes "datagrams " ++ decimal t.datagrams ++ codes ", connections " ++ decimal (vec_len t.connections) ++ codes ", other packets "
    ++ decimal t.others ++ codes "\n"

-- What is asked for of it, where something is.
unfoldable pub number_asked_text : List ℕ → Option ℕ → List ℕ
number_asked_text name None = []
number_asked_text name (Some number) = name ++ decimal number

unfoldable pub time_asked_text : List ℕ → Option ℕ → List ℕ
time_asked_text name None = []
time_asked_text name (Some time) = name ++ seconds_text time

unfoldable pub words_asked_text : Filter → List ℕ
words_asked_text f =
    codes "shown of it:" ++ number_asked_text (codes " connection ") f.connection ++ number_asked_text (codes " channel ") f.channel
    ++ time_asked_text (codes " from ") f.from ++ time_asked_text (codes " to ") f.to ++ codes "\n"

abbrev pub is_all : Filter → Bool
is_all f = not (is_some f.connection) && (not (is_some f.channel) && (not (is_some f.from) && not (is_some f.to)))

abbrev pub asked_if : Bool → Filter → List ℕ
asked_if true f = []
asked_if false f = words_asked_text f

abbrev pub asked_text : Filter → List ℕ
asked_text f = asked_if (is_all f) f

-- The lines of the whole, where so many connections are shown.
unfoldable pub whole_text : Timeline → Filter → ℕ → List ℕ
whole_text t f connections =
    counts_text t ++ unkept_text t.unkept ++ cut_text t.is_cut ++ asked_text f ++ first_connections_text connections

-- The ends of a connection, and the connect id that began it, where one did.
unfoldable pub id_text : ℕ → List ℕ
id_text id = codes ", connect id " ++ bytes_text (to_be_bytes w32 id) ++ codes "\n"

abbrev pub began_text : Option ℕ → List ℕ
began_text None = codes "\n"
began_text (Some id) = id_text id

unfoldable pub names_text : ℕ → List ℕ → List ℕ → List ℕ
names_text index left right = codes "connection " ++ decimal index ++ codes ": " ++ left ++ codes " and " ++ right

unfoldable pub ends_text : Part → List ℕ
ends_text p = names_text p.index (address_text p.connection.left) (address_text p.connection.right) ++ began_text p.connection.id

-- Its datagrams, one way and the other, from the first to the last.
abbrev pub time_between : Option Seen → Option Seen → ℕ
time_between None last = 0
time_between (Some first) None = 0
time_between (Some first) (Some last) = last.at - first.at

abbrev pub lasting : List Seen → ℕ
lasting seen = time_between (slice_get seen 0) (slice_get seen (length seen - 1))

unfoldable pub ways_text : List Seen → List ℕ
ways_text seen =
    codes "  " ++ decimal (length seen) ++ codes " datagrams, " ++ decimal (count_by (λ (one : Seen). same_way one.way Right) seen)
    ++ codes " to the right and " ++ decimal (count_by (λ (one : Seen). same_way one.way Left) seen) ++ codes " to the left, in "

unfoldable pub going_text : List Seen → List ℕ
going_text seen = ways_text seen ++ seconds_text (lasting seen) ++ codes " s\n"

-- How many of them can't be read to their end for a reason, where some can't.
unfoldable pub unread_text : List ℕ → ℕ → List ℕ
unread_text why count = if count == 0 then [] else (codes "  " ++ decimal count ++ codes " can't be read to their end: " ++ why ++ codes "\n")

unfoldable pub stopped_text : List Seen → Stop → List ℕ
stopped_text seen stop = unread_text (stop_label stop) (count_by (λ (one : Seen). is_stopped_by one.stop stop) seen)

unfoldable pub stops_text : List Seen → List ℕ
stops_text seen = stopped_text seen Short ++ stopped_text seen Compressed ++ stopped_text seen BadCommand

-- How many of its commands are of a kind, where some are.
unfoldable pub counted_text : List ℕ → ℕ → List ℕ
counted_text name count = if count == 0 then [] else (codes " " ++ name ++ codes " " ++ decimal count)

unfoldable pub kind_text : List Mark → Kind → List ℕ
kind_text marks kind = counted_text (name_of kind) (count_by (λ (mark : Mark). same_kind mark.told.kind kind) marks)

-- The kinds that carry no packet, and those that do.
abbrev pub plain_kinds : List Kind
plain_kinds = Connect ∷ VerifyConnect ∷ Disconnect ∷ Ping ∷ Acknowledge ∷ BandwidthLimit ∷ ThrottleConfigure ∷ []

abbrev pub packet_kinds : List Kind
packet_kinds = SendReliable ∷ SendFragment ∷ SendUnreliable ∷ SendUnreliableFragment ∷ SendUnsequenced ∷ []

unfoldable pub all_text : ℕ → List ℕ
all_text commands = codes "  " ++ decimal commands ++ codes " commands:"

unfoldable pub commands_text : List Mark → List ℕ
commands_text marks =
    all_text (length marks) ++ flat_map (kind_text marks) plain_kinds ++ codes "\n  packets:"
    ++ flat_map (kind_text marks) packet_kinds ++ codes "\n"

-- What became of the datagrams that go one way: how many were acknowledged, how many were sent again without an acknowledgement that was
-- seen, how many neither; how many repeat a command, and how many of these came too early.
unfoldable pub ended_text : List ℕ → ℕ → ℕ → ℕ → List ℕ
ended_text name acknowledged unseen left_open =
    codes "  to the " ++ name ++ codes ": acknowledged " ++ decimal acknowledged ++ codes "; no acknowledgement seen " ++ decimal unseen
    ++ codes "; not acknowledged and not sent again " ++ decimal left_open ++ codes "; "

unfoldable pub resent_text : ℕ → ℕ → List ℕ
resent_text resent early = codes "sent again " ++ decimal resent ++ codes ", too early " ++ decimal early ++ codes "\n"

unfoldable pub outcomes_text : List ℕ → Way → List Marked → List ℕ
outcomes_text name way marked =
    ended_text name (count_by (has_ended way Acknowledged) marked) (count_by (has_ended way NoneSeen) marked) (count_by (has_ended way Open) marked)
    ++ resent_text (count_by (was_resent way) marked) (count_by (was_early way) marked)

-- How many acknowledge what is sent again all the same, where any do, and why that may be: what leads to the end at which the capture was
-- made had arrived there.
abbrev pub way_name : Way → List ℕ
way_name Right = codes "right"
way_name Left = codes "left"

abbrev pub vain_words : Option Way → Way → List ℕ
vain_words None way = codes "lost or late behind this point, or not yet read"
vain_words (Some end) way = if same_way end way then codes "had arrived, not read in time" else codes "lost or late"

unfoldable pub vain_line : ℕ → List ℕ → List ℕ → List ℕ
vain_line count name words =
    codes "  " ++ decimal count ++ codes " to the " ++ name ++ codes " acknowledge what is sent again all the same: " ++ words ++ codes "\n"

unfoldable pub vain_text : Option Way → Way → ℕ → List ℕ
vain_text at way count = if count == 0 then [] else vain_line count (way_name way) (vain_words at way)

-- How many were never delivered, where that is known of any.
unfoldable pub lost_text : List ℕ → ℕ → List ℕ
lost_text name count = if count == 0 then [] else (codes "  " ++ decimal count ++ codes " to the " ++ name ++ codes " never delivered\n")

unfoldable pub fates_text : Option Way → List Marked → List ℕ
fates_text at marked =
    outcomes_text (codes "right") Right marked ++ outcomes_text (codes "left") Left marked
    ++ vain_text at Right (count_by (was_in_vain Right) marked) ++ vain_text at Left (count_by (was_in_vain Left) marked)
    ++ lost_text (codes "right") (count_by (was_lost Right) marked) ++ lost_text (codes "left") (count_by (was_lost Left) marked)

-- At which end it was captured, as it seems: told of a capture, where nobody says so.
abbrev pub is_guessed : Source → Option Way → Bool
is_guessed Capture at = not (is_some at)
is_guessed Script at = false
is_guessed Sockets at = false

unfoldable pub near_text : List ℕ → List ℕ
near_text name = codes "  captured at the " ++ name ++ codes " end, as it seems: the soonest acknowledgement took "

unfoldable pub far_text : List ℕ → List ℕ
far_text name = codes " s from the " ++ name ++ codes " end\n"

unfoldable pub made_text : Way → ℕ → ℕ → List ℕ
made_text end soon late =
    near_text (way_name end) ++ seconds_text soon ++ codes " s from there, " ++ seconds_text late ++ far_text (way_name (other_way end))

abbrev pub shortest_of : Delays → ℕ
shortest_of delays = unwrap_or delays.shortest 0

-- How soon an end acknowledges: what goes there.
abbrev pub delays_from : Way → Delays → Delays → Delays
delays_from Right right left = right
delays_from Left right left = left

abbrev pub end_text : Way → Delays → Delays → List ℕ
end_text end right left = made_text end (shortest_of (delays_from end right left)) (shortest_of (delays_from (other_way end) right left))

abbrev pub seems_text : Option Way → Delays → Delays → List ℕ
seems_text None right left = codes "  it can't be told at which end it was captured\n"
seems_text (Some end) right left = end_text end right left

abbrev pub guessed_text : Bool → Part → List ℕ
guessed_text false p = []
guessed_text true p = seems_text (made_at p.right p.left) p.right p.left

abbrev pub guess_text : Source → Option Way → Part → List ℕ
guess_text source at p = guessed_text (is_guessed source at) p

-- A longest gap between two datagrams, and the later one: of gaps that are as long, any.
unfoldable pub before_text : ℕ → List ℕ
before_text number = codes " s, before datagram " ++ decimal number ++ codes "\n"

unfoldable pub longest_text : ℕ → ℕ → List ℕ
longest_text gap number = codes "  longest gap: " ++ seconds_text gap ++ before_text number

abbrev pub gap_text : Option (ℕ × ℕ) → List ℕ
gap_text None = []
gap_text (Some gap) = longest_text gap.0 gap.1

unfoldable pub first_datagrams_text : ℕ → List ℕ
first_datagrams_text datagrams = if nat_lt 500 datagrams then (codes "  drawn are the first " ++ decimal 500 ++ codes " datagrams\n") else []

-- The text of what is shown of a connection.
pub record TellsPart (part : Part) (source : Source) (at : Option Way) (text : List ℕ) : Type 0 where
  pub gap : Option (ℕ × ℕ)
  pub is_longest : IsLongest part.seen.items gap
  pub told : text ≡ ends_text part ++ going_text part.seen.items ++ stops_text part.seen.items ++ commands_text part.marks.items
      ++ fates_text at part.marked.items ++ guess_text source at part ++ gap_text gap ++ first_datagrams_text (vec_len part.seen)

-- The texts of so many of these, one behind another.
unfoldable pub TellsParts : List Part → Source → Option Way → ℕ → List ℕ → Type 0
TellsParts parts source at zero text = text ≡ []
TellsParts parts source at (suc n) text =
    (before last : List ℕ) × (part : Part) × (text ≡ before ++ last) × TellsParts parts source at n before × (slice_get parts n ≡ Some part)
    × TellsPart part source at last

pub record Summarizes (t : Timeline) (f : Filter) (parts : List Part) (at : Option Way) (text : List ℕ) : Type 0 where
  pub told_parts : List ℕ
  pub told : text ≡ whole_text t f (length parts) ++ told_parts
  pub each : TellsParts parts t.source at (length parts) told_parts
