-- What is written is spelled, and what is spelled is one datagram.
use Rattle.std.proofs.Common.{◌≡◌, ℕ, ◌+◌, ◌*◌, ◌%◌, ◌<◌, ◌^◌, Bool, true, false, List, [], ◌∷◌, ◌++◌, flat_map, length, refl, sym, ap, subst, ◌∙◌, arith}
use Rattle.std.specs.Prelude.{IfSome}
use Rattle.std.specs.Int.{w16, to_be_bytes, bit_at}
use Rattle.std.specs.List.{AllByRecursion}
use Rattle.std.proofs.lemmas.List.{append_cancel_left}
use Rattle.enet_codec.specs.declared.header.Header.{Header}
use Rattle.enet_codec.specs.Header.{SpellsHeader, header_text, header_word, masked, sent_text}
use Rattle.enet_codec.specs.Message.{Body, acknowledge, connect, verify_connect, disconnect, ping, send_reliable, send_unreliable, send_fragment, send_unsequenced, bandwidth_limit, throttle_configure, send_unreliable_fragment, IsMessage, Message, Spells, after_first, bit, canonical, first_byte, kind_of}
use Rattle.enet_codec.specs.Datagram.{SpellsAll, SpellsDatagram}
use Rattle.enet_codec.proofs.Laws.{one_spelling}
use Rattle.enet_codec.proofs.HeaderLaws.{one_header}

-- a kind is one of the table
pub kind-low : (b : Body) → kind_of b < 13
kind-low (acknowledge n t) = omega arith
kind-low (connect o) = omega arith
kind-low (verify_connect v) = omega arith
kind-low (disconnect i) = omega arith
kind-low ping = omega arith
kind-low (send_reliable p) = omega arith
kind-low (send_unreliable n p) = omega arith
kind-low (send_fragment f p) = omega arith
kind-low (send_unsequenced g p) = omega arith
kind-low (bandwidth_limit i o) = omega arith
kind-low (throttle_configure i a d) = omega arith
kind-low (send_unreliable_fragment f p) = omega arith

-- the parts of a first byte
parts : (u a : Bool) (kind : ℕ) → kind < 13 → let first = kind + 64 * bit u + 128 * bit a in (first % 16 ≡ kind) × (bit_at first 6 ≡ bit u) × (bit_at first 7 ≡ bit a) × (first < 256)
parts true true kind low = (omega arith, omega arith, omega arith, omega arith)
parts true false kind low = (omega arith, omega arith, omega arith, omega arith)
parts false true kind low = (omega arith, omega arith, omega arith, omega arith)
parts false false kind low = (omega arith, omega arith, omega arith, omega arith)

pub canonical-spells : (m : Message) → IsMessage m → Spells (canonical m) m
canonical-spells m is =
    let p = parts m.head.unsequenced m.head.acknowledge (kind_of m.body) (kind-low m.body) in
    record {
      message = is;
      first = first_byte m;
      begins = record { kind = p.0; unsequenced = p.1; acknowledge = p.2; byte = p.3 };
      spelled = refl;
    }

pub spells-all : (ms : List Message) → AllByRecursion IsMessage ms → SpellsAll (flat_map canonical ms) ms
spells-all [] all = refl
spells-all (m ∷ ms) all = (canonical m, flat_map canonical ms, refl, canonical-spells m all.0, spells-all ms all.1)

pub header-spells : (h : Header) → IfSome h.sent (λ time. time < 2 ^ 16) → SpellsHeader (header_text h) (masked h)
header-spells h fits =
    let word : header_word h ≡ header_word (masked h) = omega arith in
    record {
      header = record { peer = omega arith; session = omega arith; sent = fits };
      spelled = ap (λ (w : ℕ). to_be_bytes w16 w ++ sent_text h.sent) word;
    }

-- a command has bytes
pub some-bytes : (text rest : List ℕ) (m : Message) → Spells text m → text ++ rest ≡ [] → ⊥
some-bytes text rest m s e =
    let none : s.first ∷ (after_first m ++ rest) ≡ [] = ap (λ (xs : List ℕ). xs ++ rest) (sym s.spelled) ∙ e in
    absurd (let l = ap (λ (xs : List ℕ). length xs) none in omega arith)

pub one-reading : (bytes : List ℕ) (ms ns : List Message) → SpellsAll bytes ms → SpellsAll bytes ns → ms ≡ ns
one-reading bytes [] [] a b = refl
one-reading bytes [] (n ∷ ns) a b = absurd (some-bytes b.0 b.1 n b.3 (sym b.2 ∙ a))
one-reading bytes (m ∷ ms) [] a b = absurd (some-bytes a.0 a.1 m a.3 (sym a.2 ∙ b))
one-reading bytes (m ∷ ms) (n ∷ ns) a b =
    let both : a.0 ++ a.1 ≡ b.0 ++ b.1 = sym a.2 ∙ b.2 in
    let one = one_spelling a.0 b.0 a.1 b.1 m n a.3 b.3 both in
    let rest : a.1 ≡ b.1 = append_cancel_left b.0 a.1 b.1 (ap (λ (xs : List ℕ). xs ++ a.1) (sym one.0) ∙ both) in
    let later = one-reading b.1 ms ns (subst (λ (xs : List ℕ). SpellsAll xs ms) rest a.4) b.4 in
    ap (λ (x : Message). x ∷ ms) one.1 ∙ ap (λ (xs : List Message). n ∷ xs) later

pub one-datagram : (bytes : List ℕ) (g h : Header) (ms ns : List Message) → SpellsDatagram bytes g ms → SpellsDatagram bytes h ns → (g ≡ h) × (ms ≡ ns)
one-datagram bytes g h ms ns a b =
    let both : a.front ++ a.commands ≡ b.front ++ b.commands = sym a.split ∙ b.split in
    let one = one_header a.front b.front a.commands b.commands g h a.header b.header both in
    let rest : a.commands ≡ b.commands = append_cancel_left b.front a.commands b.commands (ap (λ (xs : List ℕ). xs ++ a.commands) (sym one.0) ∙ both) in
    (one.1, one-reading b.commands ms ns (subst (λ (xs : List ℕ). SpellsAll xs ms) rest a.messages) b.messages)
