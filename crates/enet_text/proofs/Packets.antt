-- Bytes that stand in others, and packets one after another.
use Rattle.std.proofs.Common.{◌≡◌, ◌≤◌, ◌<◌, ◌+◌, ◌++◌, ℕ, min, List, [], ◌∷◌, length, take, drop, Option, Some, None, IfSome, refl, sym, ap, subst, ◌∙◌, append_assoc, append-nil, length-append, take-append-drop, unwrap_or, arith}
use Rattle.std.specs.Prelude.{MatchOption}
use Rattle.enet_text.specs.declared.body.Bodies.{Bodies}
use Rattle.enet_text.specs.declared.pcap.Order.{Order}
use Rattle.enet_text.specs.declared.pcap.Format.{Format}
use Rattle.enet_text.specs.declared.pcap.Captured.{Captured}
use Rattle.enet_text.specs.declared.pcap.Datagram.{Datagram}
use Rattle.enet_text.specs.Inspected.{TellsOne}
use Rattle.enet_text.specs.Captures.{number_of, IsPacket, IsWithin, TellsPackets, told, passed_over, found_of, begun_of, moment, since_begun, way_text}

pub itself : (xs : List ℕ) → IsWithin xs xs
itself xs = record { front = []; behind = []; whole_is = sym (append-nil xs) }

pub dropped : (xs ys : List ℕ) (n : ℕ) → ys ≡ drop n xs → IsWithin ys xs
dropped xs ys n is = record {
  front = take n xs;
  behind = [];
  whole_is = sym (append-nil (take n xs ++ ys) ∙ ap (λ l. take n xs ++ l) is ∙ take-append-drop n xs);
}

pub fronted : (xs ys : List ℕ) (n : ℕ) → ys ≡ take n xs → IsWithin ys xs
fronted xs ys n is = record { front = []; behind = drop n xs; whole_is = sym (ap (λ l. l ++ drop n xs) is ∙ take-append-drop n xs) }

pub deeper : (xs ys zs : List ℕ) → IsWithin zs ys → IsWithin ys xs → IsWithin zs xs
deeper xs ys zs inner outer =
    let front = outer.front in
    let behind = outer.behind in record {
      front = front ++ inner.front;
      behind = inner.behind ++ behind;
      whole_is = outer.whole_is ∙ ap (λ l. (front ++ l) ++ behind) inner.whole_is
          ∙ ap (λ l. l ++ behind) (sym (append_assoc front (inner.front ++ zs) inner.behind))
          ∙ append_assoc (front ++ (inner.front ++ zs)) inner.behind behind
          ∙ ap (λ l. l ++ (inner.behind ++ behind)) (sym (append_assoc front inner.front zs));
    }

-- what holds where something is there
pub if_some : {A : Type 0} {P Q : A → Type 0} (r : Option A) → ((x : A) → P x → Q x) → IfSome r P → IfSome r Q
if_some None f p = p
if_some (Some x) f p = f x p

-- bytes that are cut twice
pub twice : (xs a rest b d : List ℕ) (n k : ℕ) → a ≡ take n xs → rest ≡ drop n xs → b ≡ take k rest → d ≡ drop k rest → xs ≡ (a ++ b) ++ d
twice xs a rest b d n k front back first second =
    sym (take-append-drop n xs) ∙ ap (λ l. l ++ drop n xs) (sym front)
    ∙ ap (λ l. a ++ l) (sym back ∙ sym (take-append-drop k rest) ∙ ap (λ l. l ++ drop k rest) (sym first) ∙ ap (λ l. b ++ l) (sym second))
    ∙ sym (append_assoc a b d)

-- behind a packet there are fewer bytes
pub fewer : (order : Order) (bytes : List ℕ) (captured : Captured) (behind : List ℕ) → IsPacket order bytes captured behind → length behind + 16 ≤ length bytes
fewer order bytes captured behind p =
    let all : length bytes ≡ length ((p.head ++ captured.bytes.now) ++ behind) = ap length p.bytes_are in
    omega (arith, all, length-append (p.head ++ captured.bytes.now) behind, length-append p.head captured.bytes.now, p.head_len)

-- the packet that comes next is told
pub one_told : (bodies : Bodies) (format : Format) (packets left behind text more : List ℕ) (datagrams others count : ℕ) (captured : Captured) (datagram : Datagram)
    → datagrams + others + length left ≤ length packets → length packets < 9223372036854775808 → TellsPackets bodies format packets left text datagrams others
    → IsPacket format.order left captured behind → IsWithin datagram.payload.now captured.bytes.now
    → TellsOne bodies datagrams (found_of format (begun_of format packets) captured datagram) more → count ≡ min (datagrams + 1) 18446744073709551615
    → (count + others + length behind ≤ length packets) × TellsPackets bodies format packets behind (text ++ more) count others
one_told bodies format packets left behind text more datagrams others count captured datagram within short past packet inside tells is =
    let next : count ≡ datagrams + 1 = omega (arith, within, short, is) in (
      omega (arith, within, next, fewer format.order left captured behind packet),
      subst (λ n. TellsPackets bodies format packets behind (text ++ more) n others) (sym next)
          (told left text more datagrams others captured datagram behind past packet inside tells),
    )

-- it is passed over
pub one_passed_over : (bodies : Bodies) (format : Format) (packets left behind text : List ℕ) (datagrams others count : ℕ) (captured : Captured)
    → datagrams + others + length left ≤ length packets → length packets < 9223372036854775808 → TellsPackets bodies format packets left text datagrams others
    → IsPacket format.order left captured behind → count ≡ min (others + 1) 18446744073709551615
    → (datagrams + count + length behind ≤ length packets) × TellsPackets bodies format packets behind text datagrams count
one_passed_over bodies format packets left behind text datagrams others count captured within short past packet is =
    let next : count ≡ others + 1 = omega (arith, within, short, is) in (
      omega (arith, within, next, fewer format.order left captured behind packet),
      subst (λ n. TellsPackets bodies format packets behind text datagrams n) (sym next) (passed_over left text datagrams others captured behind past packet),
    )

-- a datagram is told with the time since the first packet
pub told_since : (bodies : Bodies) (number : ℕ) (format : Format) (captured : Captured) (datagram : Datagram) (begun : Option ℕ) (since : ℕ) (more : List ℕ)
    → since ≡ since_begun begun (moment captured.seconds captured.parts format.nanoseconds)
    → TellsOne bodies number (record { way = way_text datagram since format.nanoseconds; bytes = datagram.payload.now }) more
    → TellsOne bodies number (found_of format begun captured datagram) more
told_since bodies number format captured datagram begun since more is tells =
    subst (λ n. TellsOne bodies number (record { way = way_text datagram n format.nanoseconds; bytes = datagram.payload.now }) more) is tells

-- the last line behind what was told
pub in_parts : (a b c d e : List ℕ) → a ++ (((b ++ c) ++ d) ++ e) ≡ (((a ++ b) ++ c) ++ d) ++ e
in_parts a b c d e =
    sym (append_assoc a ((b ++ c) ++ d) e) ∙ ap (λ l. l ++ e) (sym (append_assoc a (b ++ c) d) ∙ ap (λ l. l ++ d) (sym (append_assoc a b c)))

pub none_left : (xs : List ℕ) → length xs ≡ 0 → xs ≡ []
none_left [] h = refl
none_left (x ∷ xs) h = absurd (omega (arith, h))

-- bytes that are cut once
pub once : (xs a rest : List ℕ) (n : ℕ) → a ≡ take n xs → rest ≡ drop n xs → xs ≡ a ++ rest
once xs a rest n front back = sym (take-append-drop n xs) ∙ ap (λ l. l ++ drop n xs) (sym front) ∙ ap (λ l. a ++ l) (sym back)

-- the link type in a head that is whole
pub link_number : (read : Option ℕ) (head : List ℕ) (order : Order) → length head ≡ 24
    → MatchOption read (length head < 20 + 4) (λ number. (20 + 4 ≤ length head) × (number ≡ number_of order (drop 20 head)))
    → unwrap_or read 0 ≡ number_of order (drop 20 head)
link_number None head order len h = absurd (omega (arith, len, h))
link_number (Some n) head order len h = h.1
