-- What a datagram that asks for a connection begins with.
use Rattle.std.proofs.Common.{rules, ◌≡◌, ℕ, List, ◌++◌, length, take, drop, Option, Some, None, IfNone, IfSome, refl, ap, sym, subst, ◌∙◌, arith}
use Rattle.std.proofs.lemmas.List.{take-append-drop, drop_at}
use Rattle.std.proofs.lemmas.Option.{none-some}
use Rattle.enet_codec.specs.declared.header.Header.{Header}
use Rattle.enet_codec.specs.declared.command.Offer.{Offer}
use Rattle.enet_codec.specs.Header.{SpellsHeader}
use Rattle.enet_codec.specs.Message.{Body, Message, Spells, connect, acknowledge, verify_connect, disconnect, ping, send_reliable, send_unreliable, send_fragment, send_unsequenced, bandwidth_limit, throttle_configure, send_unreliable_fragment}
use Rattle.enet_guard.specs.Asking.{Asks}
use Rattle.enet_guard.specs.Private.Ids.{id_in}

-- what has a connect id is a CONNECT
pub is_connect : (body : Body) (connect_id : ℕ) → id_in body ≡ Some connect_id → (offer : Offer) × (body ≡ connect offer) × (connect_id ≡ offer.connect_id)
is_connect (connect offer) connect_id e = (offer, refl, grind (arith, e))
is_connect (acknowledge n t) connect_id e = absurd (none-some _ e)
is_connect (verify_connect v) connect_id e = absurd (none-some _ e)
is_connect (disconnect i) connect_id e = absurd (none-some _ e)
is_connect ping connect_id e = absurd (none-some _ e)
is_connect (send_reliable p) connect_id e = absurd (none-some _ e)
is_connect (send_unreliable n p) connect_id e = absurd (none-some _ e)
is_connect (send_fragment f p) connect_id e = absurd (none-some _ e)
is_connect (send_unsequenced g p) connect_id e = absurd (none-some _ e)
is_connect (bandwidth_limit i o) connect_id e = absurd (none-some _ e)
is_connect (throttle_configure i a d) connect_id e = absurd (none-some _ e)
is_connect (send_unreliable_fragment f p) connect_id e = absurd (none-some _ e)

-- such a datagram asks
pub asks_so : (bytes : List ℕ) (header : Header) (len : ℕ) (message : Message) (size : ℕ) (connect_id : ℕ)
    → SpellsHeader (take len bytes) header → header.peer ≡ 4095 → Spells (take size (drop len bytes)) message → id_in message.body ≡ Some connect_id → Asks bytes connect_id
asks_so bytes header len message size connect_id spelled none command e =
    let found = is_connect message.body connect_id e in record {
      header = header;
      head = message.head;
      offer = found.0;
      header_text = take len bytes;
      command_text = take size (drop len bytes);
      rest = drop size (drop len bytes);
      bytes_are = sym (ap (λ (xs : List ℕ). take len bytes ++ xs) (take-append-drop size (drop len bytes)) ∙ take-append-drop len bytes);
      header_spelled = spelled;
      no_slot = none;
      command_spelled = subst (λ (b : Body). Spells (take size (drop len bytes)) (record { head = message.head; body = b })) found.1 command;
      id = found.2;
    }

-- where it asks, the command behind its header is a CONNECT
pub asks_else : (bytes : List ℕ) (len : ℕ) (connect_id : ℕ) (a : Asks bytes connect_id) → len ≡ length a.header_text → drop len bytes ≡ a.command_text ++ a.rest
asks_else bytes len connect_id a e = ap (drop len) a.bytes_are ∙ drop_at a.header_text (a.command_text ++ a.rest) len (sym e)

-- what was found of it
pub asks_if : (found : Option ℕ) (bytes : List ℕ) (header : Header) (len : ℕ) (rest : List ℕ) (message : Message) (size : ℕ) → found ≡ id_in message.body → rest ≡ drop len bytes
    → SpellsHeader (take len bytes) header → header.peer ≡ 4095 → Spells (take size rest) message → IfSome found (Asks bytes)
asks_if None bytes header len rest message size e is spelled none command = search rules
asks_if (Some connect_id) bytes header len rest message size e is spelled none command =
    asks_so bytes header len message size connect_id spelled none (subst (λ (xs : List ℕ). Spells (take size xs) message) is command) (sym e)

pub asks_not : (found : Option ℕ) (bytes : List ℕ) (message : Message) → found ≡ id_in message.body
    → ((connect_id : ℕ) (a : Asks bytes connect_id) → message ≡ record { head = a.head; body = connect a.offer }) → IfNone found ((connect_id : ℕ) → Asks bytes connect_id → ⊥)
asks_not None bytes message e is = λ connect_id a. none-some _ (e ∙ ap (λ (m : Message). id_in m.body) (is connect_id a))
asks_not (Some connect_id) bytes message e is = search rules

pub if_none : (found : Option ℕ) (P : Type 0) → found ≡ None → P → IfNone found P
if_none found P e p = subst (λ (o : Option ℕ). IfNone o P) (sym e) p
