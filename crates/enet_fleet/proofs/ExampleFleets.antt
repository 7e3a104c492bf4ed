-- A run of a fleet, of the things that happen in the example of a world: client 0 is where B is, and the server where A is.
use Rattle.std.proofs.Common.{◌≡◌, ℕ, zero, suc, List, [], ◌∷◌, ◌++◌, length, refl, arith, Some, None, Ok}
use Rattle.enet_codec.specs.declared.event.Event.TheVariants as events
use Rattle.enet_codec.specs.declared.stop.Stop.TheVariants.{Short}
use Rattle.enet_codec.specs.Message.{Message}
use Rattle.enet_fragment.specs.Cutting as cutting
use Rattle.enet_peer.specs.declared.parts.PeerEvent.TheVariants as told
use Rattle.enet_peer.specs.declared.parts.PeerState.TheVariants as state
use Rattle.enet_peer.specs.CommandEffect.{obeyed}
use Rattle.enet_peer.specs.Peering.{Peering}
use Rattle.enet_slot.specs.Receiving.{stopped}
use Rattle.enet_host.specs.Receiving.{handled_one}
use Rattle.law_connection.specs.Examples.{example_packet}
use Rattle.law_connection.proofs.FirstPacket.{with_untaken, rest, first_message}
use Rattle.enet_fleet.specs.declared.answer.Answer.TheVariants as answer
use Rattle.law_network.specs.declared.event.Side.TheVariants.{A, B}
use Rattle.law_network.specs.Examples.{example_config, first_name}
use Rattle.law_network.specs.Log.{Logged, fresh_greatest, fresh_channels}
use Rattle.law_network.specs.Network.{Site}
use Rattle.law_network.specs.Numbers.{Stands}
use Rattle.law_network.specs.World as world
use Rattle.law_network.proofs.LoneSites.{Lone, site, end_of, submits, takes, PutsOne, after_putting, puts-out, text_of, header_of, logged, spells, Brings, after_hearing, Obeys, hears, after_nothing, hears-nothing, free_site, asks-first, answers-first}
use Rattle.law_network.proofs.ExampleWorlds.{content, submitting, sending, sent, hearing, taking, offer, reliable, asking_message, verifying_message, confirming_message, asking, asked, ask, answering, verified, verify, welcomed, confirmed, confirm, standing, told_asker, told_answerer, puts-ask, brings-ask, puts-verify, brings-verify, puts-confirm, brings-confirm, crosses-told}
use Rattle.law_network.specs.Places.{Place, opened_at}
use Rattle.law_network.specs.declared.put_out.Sent.{Sent}
use Rattle.law_network.specs.declared.put_out.Sent.TheVariants.{Of}
use Rattle.enet_fleet.specs.declared.event.FleetEvent.TheVariants as happen
use Rattle.law_headline.specs.declared.node.Node.TheVariants.{Server, Client}
use Rattle.law_headline.specs.Delivered.{HasNothingLeft}
use Rattle.enet_fleet.specs.Fleets.{Fleet, address_of, is_host, numbers_far, Steps}
use Rattle.enet_fleet.specs.Examples as example
use Rattle.enet_fleet.proofs.Stepping.{asks, submitted, turned, delivered, heard, taken-one}

-- a host that put out so many datagrams, all of them to hosts
abbrev numbered : ℕ → List Sent
numbered zero = []
numbered (suc n) = numbered n ++ Of n ∷ []

abbrev place : Site → ℕ → Place
place s n = record { site = s; sent = numbered n }

-- client 0 and the server with as many datagrams, and the connections so far; nothing happens to client 1
abbrev fleet : Site → ℕ → Site → ℕ → List ℕ → Fleet
fleet client c server s asked = record { server = place server s; clients = place client c ∷ opened_at (address_of (Client 1)) example_config ∷ []; asked = asked }

abbrev pair : Site → ℕ → Site → ℕ → Fleet
pair client c server s = fleet client c server s (0 ∷ [])

-- a datagram is put out by client 0, and by the server

client-turns : (x : Lone) (c : ℕ) (server : Site) (s : ℕ) (m : Message) → PutsOne x.peer m → c ≡ length (numbered c) → numbered (suc c) ≡ numbered c ++ Of (length x.log) ∷ []
    → Steps (pair (site B x) c server s) (happen.Turn (Client 0)) (Ok (answer.Sent (Some c))) (pair (site B (after_putting B server x m)) (suc c) server s)
client-turns x c server s m puts number next =
    let f = pair (site B x) c server s in
    turned f (Client 0) (Some c) (place (site B x) c) (place (site B (after_putting B server x m)) (suc c)) refl (
      number,
      (first_name, world.address_of A, length (text_of x.peer m)),
      text_of x.peer m,
      (λ count from. puts-out (record { count = count; is_host = is_host 2; numbers = numbers_far f (Client 0) }) from B server x m refl refl puts),
      next,
    )

server-turns : (x : Lone) (s : ℕ) (client : Site) (c : ℕ) (m : Message) → PutsOne x.peer m → s ≡ length (numbered s) → numbered (suc s) ≡ numbered s ++ Of (length x.log) ∷ []
    → Steps (pair client c (site A x) s) (happen.Turn Server) (Ok (answer.Sent (Some s))) (pair client c (site A (after_putting A client x m)) (suc s))
server-turns x s client c m puts number next =
    let f = pair client c (site A x) s in
    turned f Server (Some s) (place (site A x) s) (place (site A (after_putting A client x m)) (suc s)) refl (
      number,
      (first_name, world.address_of B, length (text_of x.peer m)),
      text_of x.peer m,
      (λ count from. puts-out (record { count = count; is_host = is_host 2; numbers = numbers_far f Server }) from A client x m refl refl puts),
      next,
    )

-- the packet comes, and is taken

abbrev untaken : Peering
untaken = with_untaken told_answerer.peer (example_packet ∷ rest)

abbrev emptied : Peering
emptied = with_untaken told_answerer.peer rest

-- the client and the server once the packet was taken, and the server once a stranger's datagram came

abbrev client : Site
client = site B (sending told_asker told_answerer)

abbrev server : Lone
server = taking told_asker told_answerer untaken emptied

-- its acknowledgement goes and comes: that of the VERIFY_CONNECT, but on channel 0

abbrev acknowledging_message : Message
acknowledging_message = record confirming_message { head = record confirming_message.head { channel = 0 } }

abbrev acknowledged : Lone
acknowledged = after_putting A client server acknowledging_message

abbrev acknowledgement : Logged
acknowledgement = logged A client server acknowledging_message

abbrev relieved : Lone
relieved = after_hearing (sending told_asker told_answerer) acknowledgement.text (obeyed (sending told_asker told_answerer).peer 0 None acknowledging_message).after

puts-acknowledgement : PutsOne server.peer acknowledging_message
puts-acknowledgement = record { messages = refl; live = λ e. absurd (cc); ranges = record { channel = omega arith; number = puts-confirm.ranges.number; fields = puts-confirm.ranges.fields }; plain = refl }

brings-acknowledgement : Brings (site A acknowledged) client B 1 0 (header_of server.peer acknowledging_message).session None acknowledgement acknowledging_message
unfolding fresh_greatest
brings-acknowledgement = record { there = refl; at = refl; of = refl; in_time = refl; spelled = spells server.peer acknowledging_message puts-acknowledgement; plain = refl }

obeys-acknowledgement : Obeys B (sending told_asker told_answerer) (header_of server.peer acknowledging_message).session None acknowledging_message relieved.peer
unfolding cutting.piece_count
obeys-acknowledgement = record { let_in = refl; kept = refl; goes = refl; after = refl; live = λ e. absurd (let z : state.Connected ≡ state.Free = e in cc) }

abbrev client-stands : Stands (site B relieved) 0
client-stands = record { end = end_of relieved; there = refl; peer = relieved.peer; is = refl }

nothing-left : HasNothingLeft client-stands 0
unfolding cutting.piece_count
nothing-left = record { sends = refl; none = refl }

abbrev undisturbed : Lone
undisturbed = after_nothing acknowledged

pub crosses : example.Crosses
unfolding fresh_channels fresh_greatest
crosses = (
  pair (site B relieved) 3 (site A undisturbed) 2,
  (
    pair (site B asking) 0 (free_site A) 0,
    asks (fleet (free_site B) 0 (free_site A) 0 []) 0 (place (free_site B) 0) (site B asking) (0 ∷ []) 1 3 9 first_name refl refl (asks-first B (free_site A) 3 9 refl) refl,
    (
      pair (site B asked) 1 (free_site A) 0,
      client-turns asking 0 (free_site A) 0 asking_message puts-ask refl refl,
      (
        pair (site B asked) 1 (site A answering) 0,
        delivered (pair (site B asked) 1 (free_site A) 0) Server (Client 0) 0 0 (place (free_site A) 0) (place (site B asked) 1) (site A answering) handled_one refl refl refl
            (λ next. answers-first A (site B asked) 0 (header_of asking.peer asking_message).session (Some 0) ask reliable offer refl brings-ask),
        (
          pair (site B asked) 1 (site A verified) 1,
          server-turns answering 0 (site B asked) 1 verifying_message puts-verify refl refl,
          (
            pair (site B welcomed) 1 (site A verified) 1,
            delivered (pair (site B asked) 1 (site A verified) 1) (Client 0) Server 0 0 (place (site B asked) 1) (place (site A verified) 1) (site B welcomed) handled_one refl refl refl
                (λ next. hears next B (site A verified) asked 0 (header_of answering.peer verifying_message).session (Some 0) verify verifying_message welcomed.peer brings-verify
                (record { let_in = refl; kept = refl; goes = refl; after = refl; live = λ e. absurd (cc) })),
            (
              pair (site B confirmed) 2 (site A verified) 1,
              client-turns welcomed 1 (site A verified) 1 confirming_message puts-confirm refl refl,
              (
                pair (site B confirmed) 2 (site A standing) 1,
                delivered (pair (site B confirmed) 2 (site A verified) 1) Server (Client 0) 1 1 (place (site A verified) 1) (place (site B confirmed) 2) (site A standing) handled_one refl refl refl
                    (λ next. hears next A (site B confirmed) verified 1 (header_of welcomed.peer confirming_message).session None confirm confirming_message standing.peer brings-confirm
                    (record { let_in = refl; kept = refl; goes = refl; after = refl; live = λ e. absurd (cc) })),
                (
                  pair (site B told_asker) 2 (site A standing) 1,
                  taken-one (pair (site B confirmed) 2 (site A standing) 1) (Client 0) (place (site B confirmed) 2) (site B told_asker) (events.Connect first_name 0) (address_of Server) refl
                      (λ next far. takes next B far confirmed told_asker.peer (told.Connect 0) refl (λ e. absurd (cc))) refl,
                  (
                    pair (site B told_asker) 2 (site A told_answerer) 1,
                    taken-one (pair (site B told_asker) 2 (site A standing) 1) Server (place (site A standing) 1) (site A told_answerer) (events.Connect first_name 3) (address_of (Client 0)) refl
                        (λ next far. takes next A far standing told_answerer.peer (told.Connect 3) refl (λ e. absurd (cc))) refl,
                    (
                      pair (site B (submitting told_asker)) 2 (site A told_answerer) 1,
                      submitted (pair (site B told_asker) 2 (site A told_answerer) 1) (Client 0) (place (site B told_asker) 2) (site B (submitting told_asker)) first_name 0 content.flags content.body refl
                          (λ next far. submits next B far told_asker 0 content crosses-told.accepted crosses-told.live),
                      (
                        pair client 3 (site A told_answerer) 1,
                        client-turns (submitting told_asker) 2 (site A told_answerer) 1 first_message crosses-told.puts refl refl,
                        (
                          pair client 3 (site A (hearing told_asker told_answerer untaken)) 1,
                          delivered (pair client 3 (site A told_answerer) 1) Server (Client 0) 2 2 (place (site A told_answerer) 1) (place client 3) (site A (hearing told_asker told_answerer untaken)) handled_one refl refl refl
                              (λ next. hears next A client told_answerer 2 (header_of (submitting told_asker).peer first_message).session (Some 0) (sent told_asker told_answerer) first_message untaken crosses-told.brings crosses-told.obeys),
                          (
                            pair client 3 (site A server) 1,
                            taken-one (pair client 3 (site A (hearing told_asker told_answerer untaken)) 1) Server (place (site A (hearing told_asker told_answerer untaken)) 1) (site A server) (events.Receive first_name example_packet) (address_of (Client 0)) refl
                                (λ next far. takes next A far (hearing told_asker told_answerer untaken) emptied (told.Receive example_packet) crosses-told.tells crosses-told.stays) refl,
                            (
                              pair client 3 (site A acknowledged) 2,
                              server-turns server 1 client 3 acknowledging_message puts-acknowledgement refl refl,
                              (
                                pair (site B relieved) 3 (site A acknowledged) 2,
                                delivered (pair client 3 (site A acknowledged) 2) (Client 0) Server 1 1 (place client 3) (place (site A acknowledged) 2) (site B relieved) handled_one refl refl refl
                                    (λ next. hears next B (site A acknowledged) (sending told_asker told_answerer) 1 (header_of server.peer acknowledging_message).session None acknowledgement acknowledging_message relieved.peer brings-acknowledgement obeys-acknowledgement),
                                (
                                  pair (site B relieved) 3 (site A undisturbed) 2,
                                  heard (pair (site B relieved) 3 (site A acknowledged) 2) Server (place (site A acknowledged) 2) (site A undisturbed) example.stranger [] (stopped Short) refl refl
                                      (λ next. hears-nothing next A acknowledged example.stranger),
                                  (
                                    pair (site B relieved) 3 (site A undisturbed) 2,
                                    (refl, refl),
                                    (pair (site B relieved) 3 (site A undisturbed) 2, (refl, refl), refl),
                                  ),
                                ),
                              ),
                            ),
                          ),
                        ),
                      ),
                    ),
                  ),
                ),
              ),
            ),
          ),
        ),
      ),
    ),
  ),
  record {
    client = place (site B relieved) 3;
    asked = refl;
    one = client-stands;
    two = record { end = end_of undisturbed; there = refl; peer = undisturbed.peer; is = refl };
    submitted = refl;
    taken = refl;
    left = nothing-left;
    dispatches = refl;
  },
)
