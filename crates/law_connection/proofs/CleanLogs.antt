-- What a peer puts out is clean: sequenced data is of a channel below 255, and there only reliable data asks for an acknowledgement.
use Rattle.std.proofs.Common.{◌≡◌, ℕ, ◌<◌, ◌≤◌, Bool, true, false, List, [], ◌∷◌, ◌++◌, map, refl, sym, ap, subst, ◌∙◌, inl, inr, arith, Option, Some, None, length}
use Rattle.std.specs.Option.{is_some}
use Rattle.std.specs.List.{slice_get}
use Rattle.enet_codec.specs.Message.{Message}
use Rattle.enet_codec.specs.declared.command.Head.{Head}
use Rattle.enet_codec.specs.declared.command.Fragment.{Fragment}
use Rattle.enet_senders.specs.Controlling as controlling
use Rattle.enet_fragment.specs.declared.data.DataCommand.{DataCommand}
use Rattle.enet_fragment.specs.DataCommand.{message_of, data_of, read_of, wire_body}
use Rattle.enet_sender.specs.Sender.{with_skipped}
use Rattle.enet_sender.specs.Due.{SendingEnd}
use Rattle.enet_outbox.specs.declared.parts.Pace.{Pace}
use Rattle.enet_outbox.specs.Outbox.{Outbox}
use Rattle.enet_outbox.specs.Emission.{Filling, acknowledgement_of, unsequenced_of, filled}
use Rattle.enet_peer.specs.Peering.{Peering}
use Rattle.enet_peer.specs.Calls.{pace_of}
use Rattle.law_connection.specs.LinkSteps.{Has}
use Rattle.law_connection.proofs.Lists.{Has-push_cases, Has-append_cases}
use Rattle.law_connection.specs.Connection.{Put, End, put_by}
use Rattle.law_connection.specs.Steps.{with_emission}
use Rattle.law_connection.specs.Linked.{IsClean}
use Rattle.law_connection.specs.Invariant.{AreInPlace}
use Rattle.enet_outbox.proofs.Filled.{by-filling}
use Rattle.law_connection.proofs.Packing.{places-set, control-none}
use Rattle.law_connection.proofs.Emits.{Has-from_map}
use Rattle.law_connection.proofs.Runs.{inside, few-set}

pub record IsCleanMessage (m : Message) : Type 0 where
  pub low : (c : DataCommand) → data_of m ≡ Some c → m.head.channel < 255
  pub asks : m.head.acknowledge ≡ true → m.head.channel < 255 → (c : DataCommand) × (data_of m ≡ Some c) × (c.reliable ≡ true)

reliable-read : (h : Head) (r : Bool) (f : Option Fragment) (count : ℕ) (body : List ℕ) → r ≡ true → (c : DataCommand) × (read_of h (wire_body r f count body) ≡ Some c) × (c.reliable ≡ true)
reliable-read h true None count body e = (record { reliable = true; number = h.number; unreliable = 0; fragment = None; body = body }, refl, refl)
reliable-read h true (Some f) count body e = (record { reliable = true; number = h.number; unreliable = 0; fragment = Some f; body = body }, refl, refl)
reliable-read h false f count body e = absurd (cc)

clean-data : (channel : ℕ) (c : DataCommand) → channel < 255 → IsCleanMessage (message_of channel c)
clean-data channel c few = record { low = λ d e. few; asks = λ t low. reliable-read (message_of channel c).head c.reliable c.fragment c.unreliable c.body t }

-- what is no sequenced data, and asks for nothing or is of channel 0xFF
clean-other : (m : Message) → is_some (data_of m) ≡ false → (m.head.acknowledge ≡ true → m.head.channel < 255 → ⊥) → IsCleanMessage m
clean-other m none quiet = record {
  low = λ c e. absurd (let x : true ≡ false = sym (ap is_some e) ∙ none in cc);
  asks = λ t low. absurd (quiet t low);
}

-- so far a datagram is clean
record Cleans (f : Filling) : Type 0 where
  places : AreInPlace f.outbox.senders
  few : length f.outbox.senders ≤ 255
  messages : (m : Message) → Has f.messages m → IsCleanMessage m

more : (ms : List Message) (m : Message) → ((x : Message) → Has ms x → IsCleanMessage x) → IsCleanMessage m → (x : Message) → Has (ms ++ m ∷ []) x → IsCleanMessage x
more ms m old new x h = elim (Has-push_cases ms m x h) [ inl k ↦ old x k | inr e ↦ subst IsCleanMessage e new ]

channel-few : (ss : List SendingEnd) (k : ℕ) (s : SendingEnd) → AreInPlace ss → length ss ≤ 255 → slice_get ss k ≡ Some s → s.channel < 255
channel-few ss k s places few there = let i = inside ss k s there in let at = places k s there in omega arith

cleans-filled : (pace : Pace) (o : Outbox) → AreInPlace o.senders → length o.senders ≤ 255 → Cleans (filled pace o)
cleans-filled pace o places few =
    by-filling pace o Cleans (record {
      closes = λ f a. record { places = a.places; few = a.few; messages = a.messages };
      acknowledges = λ f x rest e a. record { places = a.places; few = a.few; messages = more f.messages (acknowledgement_of x) a.messages (clean-other (acknowledgement_of x) refl (λ t low. (let y : false ≡ true = t in cc))) };
      controls = λ f n e a. (let m : Message = controlling.message_of n.command in
          record { places = a.places; few = a.few; messages = more f.messages m a.messages (clean-other m (control-none n.command.control m.head) (λ t low. (let y : 255 < 255 = low in omega arith))) });
      puts_unsequenced = λ f u rest t e a. record { places = a.places; few = a.few; messages = more f.messages (unsequenced_of u) a.messages (clean-other (unsequenced_of u) refl (λ t low. (let y : false ≡ true = t in cc))) };
      drops_unsequenced = λ f u rest t e a. record { places = a.places; few = a.few; messages = a.messages };
      puts_data = λ f k s n t there due a. record {
        places = places-set f.outbox.senders k s (record s { sender = n.sender }) there refl a.places;
        few = few-set f.outbox.senders k (record s { sender = n.sender }) a.few;
        messages = more f.messages (message_of s.channel n.command) a.messages (clean-data s.channel n.command (channel-few f.outbox.senders k s a.places a.few there));
      };
      drops_data = λ f k s n t there due kind a. record {
        places = places-set f.outbox.senders k s (record s { sender = with_skipped n.sender }) there refl a.places;
        few = few-set f.outbox.senders k (record s { sender = with_skipped n.sender }) a.few;
        messages = a.messages;
      };
      keeps_room = λ f i x there wants a. record { places = a.places; few = a.few; messages = a.messages };
      gives_room = λ f i x n there due a. record { places = a.places; few = a.few; messages = a.messages };
    }) (record { places = places; few = few; messages = λ m h. absurd h })

-- the log of an end
clean-message : (e : End) → IsClean e → (p : Put) → Has e.log p → IsCleanMessage p.message
clean-message e h p there = record { low = λ c d. h.low p c there d; asks = λ t few. h.asks p there t few }

clean-log : (e : End) → ((p : Put) → Has e.log p → IsCleanMessage p.message) → IsClean e
clean-log e h = record { low = λ p c there d. (let m = h p there in m.low c d); asks = λ p there t few. (let m = h p there in m.asks t few) }

-- a log that stays
pub clean-same : (e f : End) → f.log ≡ e.log → IsClean e → IsClean f
clean-same e f same h = clean-log f (λ p there. clean-message e h p (subst (λ (l : List Put). Has l p) same there))

pub clean-emitted : (own other : End) (p : Peering) (now : ℕ) → AreInPlace p.outbox.senders → length p.outbox.senders ≤ 255 → IsClean own → IsClean (with_emission own other p now)
clean-emitted own other p now places few h = clean-log (with_emission own other p now) (λ x there. elim (Has-append_cases own.log (map put ms) x there) [
  | inl old ↦ clean-message own h x old
  | inr new ↦ (let r = Has-from_map put ms x new in subst (λ (y : Put). IsCleanMessage y.message) r.2 (c.messages r.0 r.1))
])
  where
    ms : List Message
    ms = (filled (pace_of p now) p.outbox).messages

    c : Cleans (filled (pace_of p now) p.outbox)
    c = cleans-filled (pace_of p now) p.outbox places few

    put : Message → Put
    put = put_by (record own { log = own.log ++ map (λ (m : Message). record { message = m; sent_then = 0 }) ms }) other

pub clean-nothing : (e : End) → e.log ≡ [] → IsClean e
clean-nothing e none = clean-log e (λ p there. absurd (subst (λ (l : List Put). Has l p) none there))
