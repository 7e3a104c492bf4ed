-- What a peer alone does is a number of events of its end.
use Rattle.std.proofs.Common.{◌≡◌, ℕ, Bool, List, [], ◌∷◌, ◌++◌, refl, sym, ap, subst, ◌∙◌, inl, Option, Some, None, Result, Ok, Err}
use Rattle.std.specs.Prelude.{flat_map}
use Rattle.std.proofs.lemmas.List.{append-nil, append_assoc}
use Rattle.enet_codec.specs.declared.address.Addr.{Addr}
use Rattle.enet_codec.specs.declared.packet.Packet.{Packet}
use Rattle.enet_codec.specs.declared.stop.Stop.{Stop}
use Rattle.enet_codec.specs.declared.stop.Stop.TheVariants as stop
use Rattle.enet_codec.specs.Message.{Message, IsMessage}
use Rattle.enet_outbox.specs.Emission.{filled, datagram}
use Rattle.enet_peer.specs.declared.parts.PeerEvent.{PeerEvent}
use Rattle.enet_peer.specs.Peering.{Peering}
use Rattle.enet_peer.specs.CommandEffect.{Outcome, Obeys, wants_memory}
use Rattle.enet_peer.specs.Handling.{Arrival}
use Rattle.enet_peer.specs.Refusing.{heeded}
use Rattle.enet_peer.specs.Calls.{pace_of, destination_of}
use Rattle.enet_receiver.specs.Members.{Has}
use Rattle.law_connection.proofs.CarriageLemmas.{Has-append_left, Has-append_right}
use Rattle.law_network.specs.Deeds.{Deed, Alone, AllAlone, bytes_of}
use Rattle.law_network.specs.Deeds as deed
use Rattle.law_network.proofs.Accepting as accepting
use Rattle.law_network.proofs.Matching.{was-set, matches}
use Rattle.law_one_end.specs.OneEnd.{OneEnd, Event, Come, Tick, Disconnect, Set, GiveWay, TellAgain, with_peer, with_submission, with_emission, with_come, Runs}
use Rattle.law_one_end.specs.Hosts.{AreOf, message_in, event_in}

-- what a deed adds to the lists of an end
abbrev pub told_in : Deed → List PeerEvent
told_in (deed.Take (Some e)) = e ∷ []
told_in d = []

abbrev pub accepted_in : Deed → List Packet
accepted_in (deed.Submit q limit (Ok done)) = q ∷ []
accepted_in d = []

abbrev pub given_in : Addr → Deed → List (Addr × List ℕ)
given_in a (deed.Emit now (Some bytes)) = (a, bytes) ∷ []
given_in a d = []

-- these events lead an end to one with this peer, to which these were told and submitted, and which put these out
pub record Led (a : Addr) (e : OneEnd) (events : List Event) (told : List PeerEvent) (accepted : List Packet) (given : List (Addr × List ℕ)) (q : Peering) : Type 0 where
  pub end : OneEnd
  pub runs : Runs events e end
  pub peer : end.peer ≡ q
  pub taken : end.taken ≡ e.taken ++ told
  pub submitted : end.submitted ≡ e.submitted ++ accepted
  pub messages : List Message
  pub puts : AreOf a given messages
  pub put : end.put ≡ e.put ++ messages

-- nothing happens
pub led-nothing : (a : Addr) (e : OneEnd) (q : Peering) → q ≡ e.peer → Led a e [] [] [] [] q
led-nothing a e q same = record {
  end = e;
  runs = refl;
  peer = sym same;
  taken = sym (append-nil e.taken);
  submitted = sym (append-nil e.submitted);
  messages = [];
  puts = refl;
  put = sym (append-nil e.put);
}

-- one event that only changes the peer
one-event : (a : Addr) (e : OneEnd) (event : Event) (q : Peering) → Runs (event ∷ []) e (with_peer e q) → Led a e (event ∷ []) [] [] [] q
one-event a e event q runs = record {
  end = with_peer e q;
  runs = runs;
  peer = refl;
  taken = sym (append-nil e.taken);
  submitted = sym (append-nil e.submitted);
  messages = [];
  puts = refl;
  put = sym (append-nil e.put);
}

runs-append : (es fs : List Event) (a b c : OneEnd) → Runs es a b → Runs fs b c → Runs (es ++ fs) a c
runs-append [] fs a b c r s = subst (λ (x : OneEnd). Runs fs x c) (sym r) s
runs-append (e ∷ es) fs a b c r s = (r.0, r.1, runs-append es fs r.0 b c r.2 s)

are-append : (a : Addr) (ds es : List (Addr × List ℕ)) (ms ns : List Message) → AreOf a ds ms → AreOf a es ns → AreOf a (ds ++ es) (ms ++ ns)
are-append a [] es ms ns h k = subst (λ (l : List Message). AreOf a es (l ++ ns)) (sym h) k
are-append a (d ∷ ds) es ms ns h k =
    (h.0, h.1, h.2, h.3 ++ ns, h.4, ap (λ (l : List Message). l ++ ns) h.5 ∙ append_assoc h.2 h.3 ns, are-append a ds es h.3 ns h.6 k)

more-of : {X : Type 0} (a b c d e : List X) → d ≡ a ++ b → e ≡ d ++ c → e ≡ a ++ (b ++ c)
more-of a b c d e f g = g ∙ ap (λ (l : List _). l ++ c) f ∙ append_assoc a b c

-- and then more happens
pub led-both : (a : Addr) (e : OneEnd) (es fs : List Event) (t u : List PeerEvent) (s r : List Packet) (g k : List (Addr × List ℕ)) (q z : Peering)
    → (one : Led a e es t s g q) → Led a one.end fs u r k z → Led a e (es ++ fs) (t ++ u) (s ++ r) (g ++ k) z
led-both a e es fs t u s r g k q z one two = record {
  end = two.end;
  runs = runs-append es fs e one.end two.end one.runs two.runs;
  peer = two.peer;
  taken = more-of e.taken t u one.end.taken two.end.taken one.taken two.taken;
  submitted = more-of e.submitted s r one.end.submitted two.end.submitted one.submitted two.submitted;
  messages = one.messages ++ two.messages;
  puts = are-append a g k one.messages two.messages one.puts two.puts;
  put = more-of e.put one.messages two.messages one.end.put two.end.put one.put two.put;
}

-- what a datagram that was put out says
none-put : (p : Peering) (now : ℕ) (ms : List Message) → None ≡ bytes_of p now ms → ms ≡ []
none-put p now [] e = refl
none-put p now (m ∷ ms) e = absurd (cc)

some-put : (p : Peering) (now : ℕ) (ms : List Message) (bytes : List ℕ) → Some bytes ≡ bytes_of p now ms → bytes ≡ datagram now (destination_of p) ms
some-put p now [] bytes e = absurd (cc)
some-put p now (m ∷ ms) bytes e = cc

-- a command comes
led-come : (a : Addr) (e : OneEnd) (full : Bool) (now : ℕ) (sent : Option ℕ) (m : Message) (q : Peering) → IsMessage m → q ≡ (heeded full e.peer now sent m).after → Led a e (Come m now sent ∷ []) [] [] [] q
led-come a e full now sent m q is after =
    let p : Peering = (heeded full e.peer now sent m).after in
    record {
      end = with_come e m p;
      runs = (with_come e m p, (is, full, refl), refl);
      peer = sym after;
      taken = sym (append-nil e.taken);
      submitted = sym (append-nil e.submitted);
      messages = [];
      puts = refl;
      put = sym (append-nil e.put);
    }

-- or it is refused for want of memory alone
led-answered : (a : Addr) (e : OneEnd) (how : Arrival) (m : Message) (q : Peering) → IsMessage m → (answer : Result (Unit {0}) Stop)
    → Obeys answer (wants_memory e.peer how.now how.sent m) (heeded how.full e.peer how.now how.sent m) e.peer q → Led a e (event_in (deed.Come how m answer)) [] [] [] q
led-answered a e how m q is answer h = by answer h
  where
    wants : Bool
    wants = wants_memory e.peer how.now how.sent m

    o : Outcome
    o = heeded how.full e.peer how.now how.sent m

    came : q ≡ o.after → Led a e (Come m how.now how.sent ∷ []) [] [] [] q
    came after = led-come a e how.full how.now how.sent m q is after

    by : (answer : Result (Unit {0}) Stop) → Obeys answer wants o e.peer q → Led a e (event_in (deed.Come how m answer)) [] [] [] q
    by (Ok done) h = came h.1
    by (Err stop.Memory) h = led-nothing a e q h.2
    by (Err stop.Short) h = came h.1
    by (Err stop.Compressed) h = came h.1
    by (Err stop.UnknownPeer) h = came h.1
    by (Err stop.WrongAddress) h = came h.1
    by (Err stop.WrongSession) h = came h.1
    by (Err stop.BadCommand) h = came h.1
    by (Err stop.NotConnected) h = came h.1
    by (Err stop.BadChannel) h = came h.1
    by (Err stop.BadFragment) h = came h.1
    by (Err stop.Waiting) h = came h.1
    by (Err stop.NoSentTime) h = came h.1
    by (Err stop.NoSlot) h = came h.1

-- one deed
pub led-deed : (a : Addr) (e : OneEnd) (d : Deed) (q : Peering) → Alone d e.peer q → ((m : Message) → Has (message_in d) m → IsMessage m) → Led a e (event_in d) (told_in d) (accepted_in d) (given_in a d) q
led-deed a e (deed.Submit x limit (Ok done)) q alone is = record {
  end = with_submission e x;
  runs = (with_submission e x, (accepting.accepted limit e.peer x.channel (record { flags = x.flags; body = x.body }) alone.0, refl), refl);
  peer = sym alone.1;
  taken = sym (append-nil e.taken);
  submitted = refl;
  messages = [];
  puts = refl;
  put = sym (append-nil e.put);
}
led-deed a e (deed.Submit x limit (Err why)) q alone is = led-nothing a e q alone.1
led-deed a e (deed.Emit now None) q alone is = record {
  end = with_emission e now;
  runs = (with_emission e now, refl, refl);
  peer = sym alone.1;
  taken = sym (append-nil e.taken);
  submitted = sym (append-nil e.submitted);
  messages = (filled (pace_of e.peer now) e.peer.outbox).messages;
  puts = none-put e.peer now (filled (pace_of e.peer now) e.peer.outbox).messages alone.0;
  put = refl;
}
led-deed a e (deed.Emit now (Some bytes)) q alone is =
    let ms : List Message = (filled (pace_of e.peer now) e.peer.outbox).messages in
    record {
      end = with_emission e now;
      runs = (with_emission e now, refl, refl);
      peer = sym alone.1;
      taken = sym (append-nil e.taken);
      submitted = sym (append-nil e.submitted);
      messages = ms;
      puts = (now, destination_of e.peer, ms, [], ap (λ (l : List ℕ). (a, l)) (some-put e.peer now ms bytes alone.0), sym (append-nil ms), refl);
      put = refl;
    }
led-deed a e (deed.Come how m answer) q alone is = led-answered a e how m q (is m (inl refl)) answer alone
led-deed a e (deed.Tick now short) q alone is = one-event a e (Tick now) q (with_peer e q, (short, ap (λ (x : Peering). with_peer e x) alone), refl)
led-deed a e (deed.Take None) q alone is = led-nothing a e q alone.1
led-deed a e (deed.Take (Some t)) q alone is = record {
  end = record e { peer = q; taken = e.taken ++ t ∷ [] };
  runs = (record e { peer = q; taken = e.taken ++ t ∷ [] }, (t, q, alone, refl), refl);
  peer = refl;
  taken = refl;
  submitted = sym (append-nil e.submitted);
  messages = [];
  puts = refl;
  put = sym (append-nil e.put);
}
led-deed a e (deed.Disconnect way info (Ok done)) q alone is = one-event a e (Disconnect way info) q (with_peer e q, (q, alone, refl), refl)
led-deed a e (deed.Disconnect way info (Err why)) q alone is = led-nothing a e q alone.2
led-deed a e (deed.Set s (Ok done)) q alone is =
    let set = was-set s done e.peer q alone in
    one-event a e (Set s) q (with_peer e q, (set.0, ap (λ (x : Peering). with_peer e x) set.1), refl)
led-deed a e (deed.Set s (Err why)) q alone is = led-nothing a e q (matches.refused (deed.Set s (Err why)) e.peer q alone refl)
led-deed a e deed.GiveWay q alone is = one-event a e GiveWay q (with_peer e q, (alone.0, ap (λ (x : Peering). with_peer e x) alone.1), refl)
led-deed a e deed.TellAgain q alone is = one-event a e TellAgain q (with_peer e q, (alone.0, ap (λ (x : Peering). with_peer e x) alone.1), refl)

-- and all deeds, in order
pub led-deeds : (a : Addr) (ds : List Deed) (e : OneEnd) (q : Peering) → AllAlone ds e.peer q → ((m : Message) → Has (flat_map message_in ds) m → IsMessage m)
    → Led a e (flat_map event_in ds) (flat_map told_in ds) (flat_map accepted_in ds) (flat_map (given_in a) ds) q
led-deeds a [] e q alone is = led-nothing a e q (sym alone)
led-deeds a (d ∷ ds) e q alone is =
    let one : Led a e (event_in d) (told_in d) (accepted_in d) (given_in a d) alone.0 = led-deed a e d alone.0 alone.1 (λ m there. is m (Has-append_left (message_in d) (flat_map message_in ds) m there)) in
    led-both a e (event_in d) (flat_map event_in ds) (told_in d) (flat_map told_in ds) (accepted_in d) (flat_map accepted_in ds) (given_in a d) (flat_map (given_in a) ds) alone.0 q one
    (led-deeds a ds one.end q (subst (λ (x : Peering). AllAlone ds x q) (sym one.peer) alone.2) (λ m there. is m (Has-append_right (message_in d) (flat_map message_in ds) m there)))
