-- What is told of a service, in the text format of Prometheus.
use Rattle.std.specs.Prelude.{ℕ, Bool, false, nat_lt, List, [], ◌++◌, codes, Option, Some, None}
use Rattle.enet_metrics.specs.declared.reading.Standing.{Standing}
use Rattle.enet_metrics.specs.declared.reading.Reading.{Reading}
use Rattle.enet_metrics.specs.Texts.{head_text, line_text, figure_text, reasons_from, seconds_text}
use Rattle.enet_metrics.specs.Trips.{trips_text}

-- the last look is known to be less than a second old
abbrev pub is_young : Option ℕ → Bool
is_young None = false
is_young (Some age) = nat_lt age 1000

abbrev pub is_alive : Reading → Bool
is_alive r = is_young r.age

unfoldable pub peers_text : Standing → List ℕ
peers_text s =
    figure_text (codes "enet_peers") (codes "gauge") (codes "How many peers are connected.") s.peers
    ++ figure_text (codes "enet_in_transit_bytes") (codes "gauge") (codes "Bytes of reliable packets that were sent, are not acknowledged and are not due to be sent again.") s.in_transit
    ++ figure_text (codes "enet_sent_again") (codes "gauge") (codes "Commands that are not acknowledged and were sent more than once.") s.sent_again
    ++ figure_text (codes "enet_connects_passed_over_total") (codes "counter") (codes "CONNECTs that the guard kept from the host.") s.passed_over

unfoldable pub queued_text : Standing → List ℕ
queued_text s =
    figure_text (codes "enet_queued_bytes") (codes "gauge") (codes "Bytes of packets that are queued for peers, or sent and not acknowledged.") s.queued
    ++ figure_text (codes "enet_queued_bytes_most") (codes "gauge") (codes "Those of the peer that has the most.") s.queued_most
    ++ figure_text (codes "enet_receivers_dropped_total") (codes "counter") (codes "Peers that were full when a reliable packet came for them, and were disconnected.") s.dropped
    ++ figure_text (codes "enet_packets_dropped_total") (codes "counter") (codes "Packets, or pieces of long ones, that the guard kept from the host, since their clients had sent too much.") s.beyond_share

unfoldable pub states_text : Standing → List ℕ
states_text s =
    line_text (codes "enet_slots_by_state{state=\"free\"}") s.free
    ++ line_text (codes "enet_slots_by_state{state=\"spent\"}") s.spent
    ++ line_text (codes "enet_slots_by_state{state=\"connecting\"}") s.connecting
    ++ line_text (codes "enet_slots_by_state{state=\"answering\"}") s.answering
    ++ line_text (codes "enet_slots_by_state{state=\"connected\"}") s.connected
    ++ line_text (codes "enet_slots_by_state{state=\"leaving\"}") s.leaving

unfoldable pub slots_text : Standing → List ℕ
slots_text s =
    figure_text (codes "enet_slots") (codes "gauge") (codes "How many peers there is room for.") s.slots
    ++ head_text (codes "enet_slots_by_state") (codes "gauge") (codes "What the slots are, as they were at most a second before the last look.")
    ++ states_text s

unfoldable pub waiting_text : Standing → List ℕ
waiting_text s =
    head_text (codes "enet_waiting") (codes "gauge") (codes "Orders and events that wait between relay and service.")
    ++ line_text (codes "enet_waiting{what=\"orders\"}") s.orders
    ++ line_text (codes "enet_waiting{what=\"events\"}") s.events

unfoldable pub datagrams_text : Standing → List ℕ
datagrams_text s =
    head_text (codes "enet_datagrams_total") (codes "counter") (codes "Datagrams that came, and that the host put out.")
    ++ line_text (codes "enet_datagrams_total{way=\"in\"}") s.datagrams_in
    ++ line_text (codes "enet_datagrams_total{way=\"out\"}") s.datagrams_out

unfoldable pub bytes_text : Standing → List ℕ
bytes_text s =
    head_text (codes "enet_bytes_total") (codes "counter") (codes "Their bytes.")
    ++ line_text (codes "enet_bytes_total{way=\"in\"}") s.bytes_in
    ++ line_text (codes "enet_bytes_total{way=\"out\"}") s.bytes_out

unfoldable pub sends_text : Standing → List ℕ
sends_text s =
    figure_text (codes "enet_sends_total") (codes "counter") (codes "Commands with data that went and ask for an acknowledgement, resent ones included.") s.sends
    ++ figure_text (codes "enet_resends_total") (codes "counter") (codes "Those of them that had gone before.") s.resends

unfoldable pub traffic_text : Standing → List ℕ
traffic_text s =
    datagrams_text s ++ bytes_text s ++ sends_text s
    ++ figure_text (codes "enet_datagrams_lost_total") (codes "counter") (codes "Datagrams that the socket did not take.") s.lost

unfoldable pub stops_text : Reading → List ℕ
stops_text r =
    head_text (codes "enet_datagrams_stopped_total") (codes "counter") (codes "Datagrams that were not read to their end, by the reason.")
    ++ reasons_from (codes "enet_datagrams_stopped_total") (codes "S") 1 r.stops

unfoldable pub refusals_text : Reading → List ℕ
refusals_text r =
    head_text (codes "enet_orders_refused_total") (codes "counter") (codes "Orders that the host refused, by the reason.")
    ++ reasons_from (codes "enet_orders_refused_total") (codes "E") 1 r.refusals

unfoldable pub known_age_text : ℕ → List ℕ
known_age_text age =
    head_text (codes "enet_look_age_seconds") (codes "gauge") (codes "How long ago the service last looked.")
    ++ seconds_text (codes "enet_look_age_seconds") age

-- what isn't known isn't told
abbrev pub age_text : Option ℕ → List ℕ
age_text None = []
age_text (Some age) = known_age_text age

-- all that is told
unfoldable pub reading_text : Reading → List ℕ
reading_text r =
    (peers_text r.standing ++ queued_text r.standing ++ slots_text r.standing ++ waiting_text r.standing ++ traffic_text r.standing)
    ++ stops_text r ++ refusals_text r ++ trips_text r.trips ++ age_text r.age
