-- What became of the datagrams of a connection, as far as a capture tells.
use Rattle.std.specs.Prelude.{◌==◌, ◌&&◌, ◌||◌, not, ℕ, zero, suc, nat_lt, Bool, true, false, if◌then◌else◌, List, length, slice_get, Option, Some, None, is_some}
use Rattle.std.specs.List.{list_any}
use Rattle.enet_captured.specs.declared.told.Kind.TheVariants.{Connect, VerifyConnect}
use Rattle.enet_captured.specs.declared.timeline.Way.{Way}
use Rattle.enet_captured.specs.declared.timeline.Mark.{Mark}
use Rattle.enet_captured.specs.declared.timeline.Seen.{Seen}
use Rattle.enet_captured.specs.declared.fates.Fate.{Fate}
use Rattle.enet_captured.specs.declared.fates.Marked.{Marked}
use Rattle.enet_captured.specs.declared.fates.Outcome.{Outcome}
use Rattle.enet_captured.specs.declared.fates.Outcome.TheVariants.{AsksNothing, Acknowledged, NoneSeen, Open}
use Rattle.enet_captured.specs.Commands.{same_kind}
use Rattle.enet_captured.specs.Counts.{same_way}
use Rattle.enet_captured.specs.Sends.{other_way, seen_before, went_before, belongs_to, goes_again, is_acknowledged}

-- VERIFY_CONNECT answers the CONNECTs that went the other way, and no particular one: these wait for nothing else.
abbrev pub verifies : Way → Mark → Bool
verifies way mark = same_kind mark.told.kind VerifyConnect && same_way mark.way way

abbrev pub is_verified : List Mark → Mark → Bool
is_verified marks mark = same_kind mark.told.kind Connect && list_any (verifies (other_way mark.way)) marks

-- A command waits for an acknowledgement: it asks for one, wasn't seen before, and isn't such a CONNECT.
abbrev pub waits_as : List Mark → Option ℕ → Option Mark → Bool
waits_as marks seen None = false
waits_as marks seen (Some mark) = (mark.told.asks && not (is_some seen)) && not (is_verified marks mark)

abbrev pub waits : List Mark → ℕ → Bool
waits marks place = waits_as marks (seen_before marks place) (slice_get marks place)

-- What links lead to from there stands behind a place.
abbrev pub is_behind : ℕ → Option ℕ → Bool
is_behind place None = false
is_behind place (Some other) = nat_lt place other

abbrev pub leads_behind : (ℕ → Option ℕ) → ℕ → Option ℕ → Bool
leads_behind links place None = false
leads_behind links place (Some there) = is_behind place (links there)

-- It was sent again too early: what it repeats was acknowledged, and only behind it.
abbrev pub is_early : List Mark → ℕ → Bool
is_early marks place = leads_behind (is_acknowledged marks) place (went_before marks place)

-- It acknowledges what was sent again all the same, behind it.
abbrev pub is_in_vain : List Mark → ℕ → Bool
is_in_vain marks place = leads_behind (goes_again marks) place (belongs_to marks place)

-- What is true of a command, by whether it waits, where it was seen before, was sent before, is sent again and is acknowledged, whether it was
-- sent again too early, and whether it acknowledges in vain.
abbrev pub fate_by : Bool → Option ℕ → Option ℕ → Option ℕ → Option ℕ → Bool → Bool → Fate
fate_by waits seen went again acknowledged early vain = record {
  waits = waits;
  is_acknowledged = is_some acknowledged;
  goes_again = waits && is_some again;
  went_before = is_some went;
  is_early = early;
  is_in_vain = vain;
  was_seen = is_some seen;
}

abbrev pub fate_at : List Mark → ℕ → Fate
fate_at marks place =
    fate_by (waits marks place) (seen_before marks place) (went_before marks place) (goes_again marks place) (is_acknowledged marks place)
    (is_early marks place) (is_in_vain marks place)

-- The fate of a datagram: what is true of one of its commands is true of it.
abbrev pub nothing : Fate
nothing = record {
  waits = false;
  is_acknowledged = false;
  goes_again = false;
  went_before = false;
  is_early = false;
  is_in_vain = false;
  was_seen = false;
}

abbrev pub join : Fate → Fate → Fate
join a b = record {
  waits = a.waits || b.waits;
  is_acknowledged = a.is_acknowledged || b.is_acknowledged;
  goes_again = a.goes_again || b.goes_again;
  went_before = a.went_before || b.went_before;
  is_early = a.is_early || b.is_early;
  is_in_vain = a.is_in_vain || b.is_in_vain;
  was_seen = a.was_seen || b.was_seen;
}

abbrev pub is_of : ℕ → Option Mark → Bool
is_of datagram None = false
is_of datagram (Some mark) = mark.datagram == datagram

abbrev pub joined : List Mark → (ℕ → Fate) → ℕ → ℕ → Fate
joined marks fates datagram zero = nothing
joined marks fates datagram (suc n) =
    if is_of datagram (slice_get marks n) then join (joined marks fates datagram n) (fates n) else joined marks fates datagram n

abbrev pub fate_of : List Mark → ℕ → Fate
fate_of marks datagram = joined marks (fate_at marks) datagram (length marks)

abbrev pub marked_as : List Mark → Seen → Marked
marked_as marks seen = record { seen = seen; fate = fate_of marks seen.number }

-- The four cases. A datagram *was acknowledged* if one of its sends was. Of one that wasn't, no acknowledgement was seen if one of its
-- sends was sent again; if none was, it is left open.
abbrev pub outcome_of : Fate → Outcome
outcome_of fate = if fate.is_acknowledged then Acknowledged else (if not fate.waits then AsksNothing else (if fate.goes_again then NoneSeen else Open))

abbrev pub same_outcome : Outcome → Outcome → Bool
same_outcome AsksNothing AsksNothing = true
same_outcome AsksNothing Acknowledged = false
same_outcome AsksNothing NoneSeen = false
same_outcome AsksNothing Open = false
same_outcome Acknowledged AsksNothing = false
same_outcome Acknowledged Acknowledged = true
same_outcome Acknowledged NoneSeen = false
same_outcome Acknowledged Open = false
same_outcome NoneSeen AsksNothing = false
same_outcome NoneSeen Acknowledged = false
same_outcome NoneSeen NoneSeen = true
same_outcome NoneSeen Open = false
same_outcome Open AsksNothing = false
same_outcome Open Acknowledged = false
same_outcome Open NoneSeen = false
same_outcome Open Open = true

-- What is counted of the datagrams that go one way.
abbrev pub has_ended : Way → Outcome → Marked → Bool
has_ended way outcome one = same_way one.seen.way way && same_outcome (outcome_of one.fate) outcome

abbrev pub was_resent : Way → Marked → Bool
was_resent way one = same_way one.seen.way way && one.fate.went_before

abbrev pub was_early : Way → Marked → Bool
was_early way one = same_way one.seen.way way && one.fate.is_early

abbrev pub was_in_vain : Way → Marked → Bool
was_in_vain way one = same_way one.seen.way way && one.fate.is_in_vain

-- Of these it is known that they were never delivered.
abbrev pub was_lost : Way → Marked → Bool
was_lost way one = same_way one.seen.way way && one.seen.is_lost
