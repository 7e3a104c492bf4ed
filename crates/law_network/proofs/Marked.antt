-- What the bytes of a datagram that was put out spell: its commands, and their marks.
use Rattle.std.proofs.Common.{◌≡◌, ℕ, zero, suc, ◌≤◌, List, [], ◌∷◌, ◌++◌, length, Option, Some, None, option_to_list, refl, sym, ap, subst, ◌∙◌, inl, inr, arith}
use Rattle.std.proofs.lemmas.List.{append_cancel_left}
use Rattle.std.specs.List.{flat_map}
use Rattle.enet_codec.specs.declared.header.Header.{Header}
use Rattle.enet_codec.specs.Header.{SpellsHeader}
use Rattle.enet_codec.specs.Message.{Message}
use Rattle.enet_codec.specs.Datagram.{SpellsAll, SpellsDatagram}
use Rattle.enet_codec.proofs.HeaderLaws.{one_header}
use Rattle.enet_codec.proofs.Laws.{one_spelling}
use Rattle.enet_codec.proofs.Datagrams.{some-bytes}
use Rattle.law_connection.specs.LinkSteps.{Has}
use Rattle.law_network.specs.declared.mark.Mark.{Mark}
use Rattle.law_network.specs.Marks.{mark_of, MarksOf, MarksIn}

-- the commands behind whatever header was read
pub behind : (bytes : List ℕ) (h g : Header) (front commands : List ℕ) (ms : List Message) → bytes ≡ front ++ commands → SpellsHeader front g → SpellsDatagram bytes h ms → SpellsAll commands ms
behind bytes h g front commands ms split spelled s =
    let both : front ++ commands ≡ s.front ++ s.commands = sym split ∙ s.split in
    let one = one_header front s.front commands s.commands g h spelled s.header both in
    let rest : commands ≡ s.commands = append_cancel_left s.front commands s.commands (ap (λ (xs : List ℕ). xs ++ commands) (sym one.0) ∙ both) in
    subst (λ (xs : List ℕ). SpellsAll xs ms) (sym rest) s.messages

-- the marks of commands, before it is noted how far their channel had got
abbrev pub marks_of : List Message → List Mark
marks_of ms = flat_map (λ (m : Message). option_to_list (mark_of m)) ms

marks-are : (most : ℕ) (ms : List Message) (bytes : List ℕ) (marks : List Mark) → length ms ≤ most → SpellsAll bytes ms → MarksOf most bytes marks → marks ≡ marks_of ms
unfolding MarksOf
marks-are zero [] bytes marks few s h = h
marks-are zero (m ∷ ms) bytes marks few s h = absurd (omega arith)
marks-are (suc most) [] bytes marks few s (inl none) = none.1
marks-are (suc most) [] bytes marks few s (inr b) = absurd (some-bytes b.text b.rest b.message b.spelled (sym b.split ∙ s))
marks-are (suc most) (m ∷ ms) bytes marks few s (inl none) = absurd (none.0 m s.0 s.1 s.2 s.3)
marks-are (suc most) (m ∷ ms) bytes marks few s (inr b) =
    let both : b.text ++ b.rest ≡ s.0 ++ s.1 = sym b.split ∙ s.2 in
    let one = one_spelling b.text s.0 b.rest s.1 b.message m b.spelled s.3 both in
    let rest : b.rest ≡ s.1 = append_cancel_left s.0 b.rest s.1 (ap (λ (xs : List ℕ). xs ++ b.rest) (sym one.0) ∙ both) in
    let later : b.later ≡ marks_of ms = marks-are most ms b.rest b.later (omega arith) (subst (λ (xs : List ℕ). SpellsAll xs ms) (sym rest) s.4) b.follow in
    b.joined ∙ (λ i. option_to_list (mark_of (one.1 i)) ++ later i)

pub marked-datagram : (h : Header) (ms : List Message) (text : List ℕ) (marks : List Mark) → length ms ≤ 32 → SpellsDatagram text h ms → MarksIn text marks → marks ≡ marks_of ms
marked-datagram h ms text marks few s (inl a) = marks-are 32 ms a.commands marks few (behind text h a.header a.front a.commands ms a.split a.spelled s) a.marked
marked-datagram h ms text marks few s (inr none) = absurd (none.0 h s.front s.commands s.split s.header)

pub Has-marks : (ms : List Message) (m : Message) (mark : Mark) → Has ms m → mark_of m ≡ Some mark → Has (marks_of ms) mark
Has-marks [] m mark h is = absurd h
Has-marks (x ∷ ms) m mark (inl e) is = subst (λ (o : Option Mark). Has (option_to_list o ++ marks_of ms) mark) (sym (ap mark_of e ∙ is)) (inl refl)
Has-marks (x ∷ ms) m mark (inr h) is = later (mark_of x) (Has-marks ms m mark h is)
  where
    later : (o : Option Mark) → Has (marks_of ms) mark → Has (option_to_list o ++ marks_of ms) mark
    later None k = k
    later (Some y) k = inr k
