-- What a line of a script spells: the words behind its first word have the form that the first names, or it spells nothing. Where a
-- form is one of a world and of a fleet alike, the name of the host tells of which.
use Rattle.std.specs.Prelude.{ℕ, ◌^◌, nat_eq, nat_le, if◌then◌else◌, List, [], ◌∷◌, codes, bytes_eq, Option, Some, None, option_map}
use Rattle.std.specs.List.{starts_with}
use Rattle.std.specs.Option.{option_or}
use Rattle.enet_codec.specs.declared.config.Admission.{Admission}
use Rattle.enet_codec.specs.declared.config.Admission.TheVariants.{GiveWay, Most, OfAddress}
use Rattle.enet_codec.specs.declared.event.DisconnectMode.{DisconnectMode}
use Rattle.enet_codec.specs.declared.event.DisconnectMode.TheVariants.{Now, Ask, Later}
use Rattle.enet_codec.specs.declared.event.PeerRef.{PeerRef}
use Rattle.law_network.specs.declared.event.Side.{Side}
use Rattle.law_network.specs.declared.event.WorldEvent.TheVariants as world
use Rattle.enet_fleet.specs.declared.event.FleetEvent.TheVariants as fleet
use Rattle.law_headline.specs.declared.node.Node.{Node}
use Rattle.law_headline.specs.declared.node.Node.TheVariants.{Server, Client}
use Rattle.enet_text.specs.Words.{line_words, number_below, peer_of, ip_of, bytes_of, id_of, of_one, of_two, of_three, of_four, of_five, ◌>>=◌}
use Rattle.enet_lab.specs.declared.host.Host.{Host}
use Rattle.enet_lab.specs.declared.host.Host.TheVariants.{OfWorld, OfFleet}
use Rattle.enet_lab.specs.declared.line.Line.{Line}
use Rattle.enet_lab.specs.declared.line.Line.TheVariants.{PassedOver, Pair, Open, Fleet, InWorld, InFleet, Calm, RoundsNeeded, DeliverLast, DeliverLastFrom}
use Rattle.enet_lab.specs.Hosts.{side_named, node_named, host_named}

-- How a connection is ended, by the first word of the line.
abbrev pub mode_named : List ℕ → Option DisconnectMode
mode_named word =
    if bytes_eq word (codes "now") then Some Now
    else (if bytes_eq word (codes "ask") then Some Ask else (if bytes_eq word (codes "later") then Some Later else None))

-- `pair <channels>`
abbrev pub pair_of : List (List ℕ) → Option Line
pair_of others = of_one (λ channels. option_map Pair (number_below (2 ^ 8) channels)) others

-- `open <peers A> <channels A> <peers B> <channels B>`
abbrev pub open_of : List (List ℕ) → Option Line
open_of others = of_four (λ peers_a channels_a peers_b channels_b. do
  peers_a ← number_below (2 ^ 16) peers_a
  channels_a ← number_below (2 ^ 8) channels_a
  peers_b ← number_below (2 ^ 16) peers_b
  channels_b ← number_below (2 ^ 8) channels_b
  Some (Open peers_a channels_a peers_b channels_b)) others

-- `fleet <clients> <peers> <channels>`
abbrev pub fleet_of : List (List ℕ) → Option Line
fleet_of others = of_three (λ clients peers channels. do
  clients ← number_below (2 ^ 16) clients
  peers ← number_below (2 ^ 16) peers
  channels ← number_below (2 ^ 8) channels
  Some (Fleet clients peers channels)) others

-- `calm <rounds> <ms>`: no more than 16,777,216 rounds, so that each line ends
abbrev pub calm_up_to : ℕ → ℕ → Option Line
calm_up_to rounds ms = if nat_le rounds 16777216 then Some (Calm rounds ms) else None

abbrev pub calm_of : List (List ℕ) → Option Line
calm_of others = of_two (λ rounds ms. do
  rounds ← number_below (2 ^ 64) rounds
  ms ← number_below (2 ^ 32) ms
  calm_up_to rounds ms) others

-- `rounds <connection> <ms>`
abbrev pub rounds_of : List (List ℕ) → Option Line
rounds_of others = of_two (λ connection ms. do
  connection ← number_below (2 ^ 64) connection
  ms ← number_below (2 ^ 32) ms
  Some (RoundsNeeded connection ms)) others

-- `connect <host> <channels> <data> <id>`: in a fleet a client asks, the server doesn't.
abbrev pub connect_at : Host → ℕ → ℕ → ℕ → Option Line
connect_at (OfWorld side) channels info id = Some (InWorld (world.Connect side channels info id))
connect_at (OfFleet Server) channels info id = None
connect_at (OfFleet (Client i)) channels info id = Some (InFleet (fleet.Connect i channels info id))

abbrev pub connect_of : List (List ℕ) → Option Line
connect_of others = of_four (λ host channels info id. do
  host ← host_named host
  channels ← number_below (2 ^ 8) channels
  info ← number_below (2 ^ 32) info
  id ← id_of id
  connect_at host channels info id) others

-- `submit <host> <peer> <channel> <flags> <bytes>`
abbrev pub submit_at : Host → PeerRef → ℕ → ℕ → List ℕ → Line
submit_at (OfWorld side) peer channel flags body = InWorld (world.Submit side peer channel flags body)
submit_at (OfFleet node) peer channel flags body = InFleet (fleet.Submit node peer channel flags body)

abbrev pub submit_of : List (List ℕ) → Option Line
submit_of others = of_five (λ host peer channel flags body. do
  host ← host_named host
  peer ← peer_of peer
  channel ← number_below (2 ^ 8) channel
  flags ← number_below (2 ^ 8) flags
  body ← bytes_of body
  Some (submit_at host peer channel flags body)) others

-- `deliver <side> <k>` in a world, `deliver <host> <from> <k>` in a fleet; in the place of a number `last` is the newest datagram's
abbrev pub deliver_at : Side → List ℕ → Option Line
deliver_at side k =
    if bytes_eq k (codes "last") then Some (DeliverLast side) else option_map (λ k. InWorld (world.Deliver side k)) (number_below (2 ^ 64) k)

abbrev pub deliver_side_of : List (List ℕ) → Option Line
deliver_side_of others = of_two (λ side k. do
  side ← side_named side
  deliver_at side k) others

abbrev pub deliver_from_at : Node → Node → List ℕ → Option Line
deliver_from_at to from k =
    if bytes_eq k (codes "last") then Some (DeliverLastFrom to from)
    else option_map (λ k. InFleet (fleet.Deliver to from k)) (number_below (2 ^ 64) k)

abbrev pub deliver_from_of : List (List ℕ) → Option Line
deliver_from_of others = of_three (λ to from k. do
  to ← node_named to
  from ← node_named from
  deliver_from_at to from k) others

abbrev pub deliver_of : List (List ℕ) → Option Line
deliver_of others = option_or (deliver_side_of others) (deliver_from_of others)

-- `stranger <host> <ip> <port> <bytes>` in a fleet
abbrev pub stranger_of : List (List ℕ) → Option Line
stranger_of others = of_four (λ to ip port body. do
  to ← node_named to
  ip ← ip_of ip
  port ← number_below (2 ^ 16) port
  body ← bytes_of body
  Some (InFleet (fleet.Stranger to (record { ip = ip; port = port }) body))) others

-- `turn <host>`
abbrev pub turn_at : Host → Line
turn_at (OfWorld side) = InWorld (world.Turn side)
turn_at (OfFleet node) = InFleet (fleet.Turn node)

abbrev pub turn_of : List (List ℕ) → Option Line
turn_of others = of_one (λ host. option_map turn_at (host_named host)) others

-- `tick <host> <ms>`
abbrev pub tick_at : Host → ℕ → Line
tick_at (OfWorld side) ms = InWorld (world.Tick side ms)
tick_at (OfFleet node) ms = InFleet (fleet.Tick node ms)

abbrev pub tick_of : List (List ℕ) → Option Line
tick_of others = of_two (λ host ms. do
  host ← host_named host
  ms ← number_below (2 ^ 32) ms
  Some (tick_at host ms)) others

-- `take <host>`
abbrev pub take_at : Host → Line
take_at (OfWorld side) = InWorld (world.Take side)
take_at (OfFleet node) = InFleet (fleet.Take node)

abbrev pub take_of : List (List ℕ) → Option Line
take_of others = of_one (λ host. option_map take_at (host_named host)) others

-- `give-way <host>`, `most <host> <n>` and `of-address <host> <n>`
abbrev pub admit_at : Host → Admission → Line
admit_at (OfWorld side) what = InWorld (world.Admit side what)
admit_at (OfFleet node) what = InFleet (fleet.Admit node what)

abbrev pub give_way_of : List (List ℕ) → Option Line
give_way_of others = of_one (λ host. option_map (λ (h : Host). admit_at h GiveWay) (host_named host)) others

abbrev pub most_of : List (List ℕ) → Option Line
most_of others = of_two (λ host peers. do
  host ← host_named host
  peers ← number_below (2 ^ 16) peers
  Some (admit_at host (Most peers))) others

abbrev pub of_address_of : List (List ℕ) → Option Line
of_address_of others = of_two (λ host peers. do
  host ← host_named host
  peers ← number_below (2 ^ 16) peers
  Some (admit_at host (OfAddress peers))) others

-- `send-limit <host> <bytes> <commands>`
abbrev pub send_limit_at : Host → ℕ → ℕ → Line
send_limit_at (OfWorld side) bytes commands = InWorld (world.SetSendLimit side bytes commands)
send_limit_at (OfFleet node) bytes commands = InFleet (fleet.SetSendLimit node bytes commands)

abbrev pub send_limit_of : List (List ℕ) → Option Line
send_limit_of others = of_three (λ host bytes commands. do
  host ← host_named host
  bytes ← number_below (2 ^ 64) bytes
  commands ← number_below (2 ^ 64) commands
  Some (send_limit_at host bytes commands)) others

-- `now`, `ask` or `later <host> <peer> <data>`
abbrev pub disconnect_at : Host → PeerRef → DisconnectMode → ℕ → Line
disconnect_at (OfWorld side) peer how info = InWorld (world.Disconnect side peer how info)
disconnect_at (OfFleet node) peer how info = InFleet (fleet.Disconnect node peer how info)

abbrev pub disconnect_of : List ℕ → List (List ℕ) → Option Line
disconnect_of form others = of_three (λ host peer info. do
  how ← mode_named form
  host ← host_named host
  peer ← peer_of peer
  info ← number_below (2 ^ 32) info
  Some (disconnect_at host peer how info)) others

-- How a network goes on that a line spells, by its first word.
unfoldable pub event_of : List ℕ → List (List ℕ) → Option Line
event_of form others =
    if bytes_eq form (codes "connect") then connect_of others
    else (if bytes_eq form (codes "submit") then submit_of others
    else (if bytes_eq form (codes "deliver") then deliver_of others
    else (if bytes_eq form (codes "stranger") then stranger_of others
    else (if bytes_eq form (codes "turn") then turn_of others
    else (if bytes_eq form (codes "tick") then tick_of others
    else (if bytes_eq form (codes "take") then take_of others
    else (if bytes_eq form (codes "give-way") then give_way_of others
    else (if bytes_eq form (codes "most") then most_of others
    else (if bytes_eq form (codes "send-limit") then send_limit_of others
    else (if bytes_eq form (codes "of-address") then of_address_of others
    else disconnect_of form others))))))))))

-- What a line of these words spells.
unfoldable pub line_of : List (List ℕ) → Option Line
line_of [] = Some PassedOver
line_of (form ∷ others) =
    if bytes_eq form (codes "pair") then pair_of others
    else (if bytes_eq form (codes "open") then open_of others
    else (if bytes_eq form (codes "fleet") then fleet_of others
    else (if bytes_eq form (codes "calm") then calm_of others
    else (if bytes_eq form (codes "rounds") then rounds_of others
    else event_of form others))))

-- What a line spells. One that begins with `#` is passed over, as one without words is; one of spaces and then `#` spells nothing, since its
-- first word begins with that.
unfoldable pub spells : List ℕ → Option Line
spells line = if starts_with nat_eq line (codes "#") then Some PassedOver else line_of (line_words line)
