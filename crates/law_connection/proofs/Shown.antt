-- What holds of a link as its two ends and the log show it.
use Rattle.std.proofs.Common.{◌≡◌, ℕ, ◌+◌, ◌%◌, ◌≤◌, true, false, List, [], ◌∷◌, ◌++◌, map, sym, ap, subst, ◌∙◌, ◌⊎◌}
use Rattle.std.proofs.lemmas.List.{map-append}
use Rattle.enet_fragment.specs.declared.data.DataCommand.{DataCommand}
use Rattle.enet_packets.specs.declared.incoming_packet.Dispatched.{Dispatched}
use Rattle.enet_sender.specs.CommandChoice.{ChosenPacket, carried}
use Rattle.enet_sender.specs.Sender.{Sender}
use Rattle.enet_sender.specs.declared.sent.Sent.{Sent}
use Rattle.law_connection.specs.Follows.{command_count, count_after, Follows, FollowsCarried}
use Rattle.law_connection.specs.Link.{PutOut, Answer, wired}
use Rattle.law_connection.specs.Private.Link.{Link}
use Rattle.law_connection.specs.WireLink.{WireLink}
pub use Rattle.law_connection.specs.Image.{IsRising}
use Rattle.law_connection.proofs.Lists.{Has}
use Rattle.law_connection.proofs.WireReceiver.{ShowsReceiver}
use Rattle.law_connection.proofs.CarriageLemmas.{Follows-consumed, Follows-front}
use Rattle.law_connection.proofs.ContentLemmas.{Ready, bodies_of}
use Rattle.law_connection.proofs.PieceLemmas.{IsPlain, IsPieceOf}
use Rattle.law_connection.proofs.LinkLemmas.{Numbers}
use Rattle.law_connection.proofs.QueueLemmas.{reliable_count, all_from}

-- the queue has the commands of what was submitted that didn't go
pub record Queues (mtu : ℕ) (cs : List ChosenPacket) (sent : ℕ) (o : Sender) : Type 0 where
  pub gone : List DataCommand
  pub left : List DataCommand
  pub whole : all_from mtu 0 0 cs ≡ gone ++ left
  pub count : reliable_count gone ≡ sent
  pub queued : o.queued ≡ map wired left
  pub number : o.number ≡ command_count cs % 65536
  pub unreliable : o.unreliable ≡ count_after 0 cs

-- a sent command is the one of this number
pub record ImageOf (mtu : ℕ) (cs : List ChosenPacket) (n : ℕ) (p : Sent) : Type 0 where
  pub meant : DataCommand
  pub piece : IsPieceOf mtu cs meant
  pub reliable : meant.reliable ≡ true
  pub number : meant.number ≡ n
  pub command : p.command ≡ wired meant

abbrev pub Images : ℕ → List ChosenPacket → List ℕ → List Sent → Type 0
Images mtu cs [] [] = Unit {0}
Images mtu cs [] (p ∷ sent) = ⊥
Images mtu cs (n ∷ ns) [] = ⊥
Images mtu cs (n ∷ ns) (p ∷ sent) = ImageOf mtu cs n p × Images mtu cs ns sent

-- a command of the datagram in the making: it waits for its acknowledgement, or is unreliable and the next number is the last sent or waits
pub record Pending (mtu : ℕ) (l : Link) (c : DataCommand) : Type 0 where
  pub meant : DataCommand
  pub piece : IsPieceOf mtu l.carried meant
  pub command : c ≡ wired meant
  pub reliable : meant.reliable ≡ true → Has l.unacked meant.number
  pub unreliable : meant.reliable ≡ false → (meant.number ≤ l.sent) × ((l.sent ≡ meant.number) ⊎ Has l.unacked (meant.number + 1))

-- a command of the log is one that was meant
pub record Logged (l : Link) (e : PutOut) : Type 0 where
  pub meant : DataCommand
  pub command : e.command ≡ wired meant
  pub there : Has l.commands (record { command = meant; sent_then = e.sent_then })

pub record Shows (mtu : ℕ) (v : WireLink) (l : Link) : Type 0 where
  pub carried : l.carried ≡ carried mtu v.submitted
  pub plain : (c : ChosenPacket) → Has l.carried c → IsPlain mtu c
  pub greatest : v.greatest ≡ l.sent
  pub is_open : v.is_open ≡ l.is_open
  pub queues : v.is_sending ≡ true → Queues mtu l.carried l.sent v.outgoing
  pub images : v.is_sending ≡ true → Images mtu l.carried l.unacked v.outgoing.sent
  pub rising : IsRising l.unacked
  pub commands : (e : PutOut) → Has v.commands e → Logged l e
  pub pieces : (e : PutOut) → Has l.commands e → IsPieceOf mtu l.carried e.command
  pub making : (c : DataCommand) → Has v.making c → Pending mtu l c
  pub incoming : l.is_open ≡ true → ShowsReceiver v.incoming l.receiver
  pub dispatched : (rest : List Dispatched) × (l.receiver.dispatched ≡ v.incoming.dispatched ++ rest)
  pub answers : v.answers ≡ map (λ a. a.number % 65536) l.answers
  pub acks : (a : Answer) → Has v.acks a → (n : ℕ) × (a.number ≡ n % 65536) × Has l.acks (record { number = n; sent_then = a.sent_then })

pub record Sound (mtu : ℕ) (v : WireLink) : Type 0 where
  pub link : Link
  pub shows : Shows mtu v link
  pub numbers : Numbers link
  pub ready : Ready mtu link.carried link.receiver

-- the headline, for one channel of one connection
pub Sound-follows : (mtu : ℕ) (v : WireLink) → Sound mtu v → Follows mtu v.submitted (bodies_of v.incoming.dispatched)
Sound-follows mtu v s =
    let p = s.ready.passed in
    let d = s.shows.dispatched in
    let all : FollowsCarried s.link.carried (bodies_of s.link.receiver.dispatched) = subst (λ (x : List ChosenPacket). FollowsCarried x (bodies_of s.link.receiver.dispatched)) (sym p.whole) (Follows-consumed p.passed p.left (bodies_of s.link.receiver.dispatched) p.consumed) in
    let split : bodies_of s.link.receiver.dispatched ≡ bodies_of v.incoming.dispatched ++ bodies_of d.0 = ap bodies_of d.1 ∙ map-append (λ (x : Dispatched). x.body) v.incoming.dispatched d.0 in
    let part : FollowsCarried s.link.carried (bodies_of v.incoming.dispatched) = Follows-front s.link.carried (bodies_of v.incoming.dispatched) (bodies_of d.0) (subst (λ (x : List (List ℕ)). FollowsCarried s.link.carried x) split all) in
    subst (λ (x : List ChosenPacket). FollowsCarried x (bodies_of v.incoming.dispatched)) s.shows.carried part
