-- A sequenced data command that comes to an inbox is a move of the link on its channel.
use Rattle.std.proofs.Common.{◌≡◌, ◌≢◌, ℕ, Bool, true, false, cond, not, ◌==◌, ◌&&◌, List, [], ◌∷◌, ◌++◌, map, refl, sym, ap, ◌∙◌, arith, Option, Some, None, slice_set, append_assoc}
use Rattle.std.proofs.lemmas.Bool.Decides.{nat_tests}
use Rattle.std.proofs.lemmas.List.{append-nil}
use Rattle.std.specs.List.{slice_get}
use Rattle.enet_codec.specs.declared.packet.Packet.{Packet}
use Rattle.enet_seq.specs.Numbering.{wire}
use Rattle.enet_fragment.specs.declared.data.DataCommand.{DataCommand}
use Rattle.enet_packets.specs.declared.incoming_packet.Dispatched.{Dispatched}
use Rattle.enet_receiver.specs.declared.took.Took.{Took}
use Rattle.enet_receiver.specs.declared.took.Took.TheVariants.{Held, Again, Outside, Bad, Waiting, Memory}
use Rattle.enet_receiver.specs.Receiver.{Receiver}
use Rattle.enet_receiver.specs.DataOutcome.{outcome, received, received_with}
use Rattle.enet_receiver.specs.Laws.{DoesTheSame}
use Rattle.enet_receiver.specs.Foresight.{ReceivingEnd}
use Rattle.enet_inbox.specs.Inbox.{Inbox, is_full_for}
use Rattle.enet_inbox.specs.DataEffect.{packet_of, emptied, by_took, sequenced_on}
use Rattle.law_connection.specs.Connection.{in_sequence}
use Rattle.law_connection.specs.Linked.{receiver_in}
use Rattle.enet_receiver.specs.Sequenced.{AreSequenced}
use Rattle.law_connection.proofs.Runs.{get-set, get-set-other}

-- packets that came in sequence

pub in_sequence-append : (channel : ℕ) (qs rs : List Packet) → in_sequence channel (qs ++ rs) ≡ in_sequence channel qs ++ in_sequence channel rs
in_sequence-append channel [] rs = refl
in_sequence-append channel (q ∷ qs) rs =
    by (q.channel == channel && not (q.flags == 2)) (in_sequence-append channel qs rs)
  where
    by : (b : Bool) → in_sequence channel (qs ++ rs) ≡ in_sequence channel qs ++ in_sequence channel rs
        → cond b ((record { flags = q.flags; body = q.body }) ∷ in_sequence channel (qs ++ rs)) (in_sequence channel (qs ++ rs))
        ≡ cond b ((record { flags = q.flags; body = q.body }) ∷ in_sequence channel qs) (in_sequence channel qs) ++ in_sequence channel rs
    by true e = ap (λ (l : List Dispatched). (record { flags = q.flags; body = q.body }) ∷ l) e
    by false e = e

in_sequence-own : (channel : ℕ) (ds : List Dispatched) → AreSequenced ds → in_sequence channel (map (packet_of channel) ds) ≡ ds
in_sequence-own channel [] h = refl
in_sequence-own channel (d ∷ ds) h =
    let own : (channel == channel) ≡ true = grind (arith, nat_tests) in
    let goes : (channel == channel && not (d.flags == 2)) ≡ true = (λ i. own i && not (h.0 i)) in
    ap (λ b. cond b (d ∷ in_sequence channel (map (packet_of channel) ds)) (in_sequence channel (map (packet_of channel) ds))) goes
    ∙ ap (λ (l : List Dispatched). d ∷ l) (in_sequence-own channel ds h.1)

in_sequence-other : (k channel : ℕ) (ds : List Dispatched) → k ≢ channel → in_sequence channel (map (packet_of k) ds) ≡ []
in_sequence-other k channel [] n = refl
in_sequence-other k channel (d ∷ ds) n =
    let off : (k == channel) ≡ false = grind (arith, nat_tests) in
    ap (λ b. cond (b && not (d.flags == 2)) (d ∷ in_sequence channel (map (packet_of k) ds)) (in_sequence channel (map (packet_of k) ds))) off ∙ in_sequence-other k channel ds n

-- a receiver with all that it ever dispatched
abbrev pub grown : List Dispatched → Receiver → Receiver
grown ds r = record r { dispatched = ds }

-- the receiver of a channel with what was dispatched, `taken` of it taken
abbrev pub shown_in : ℕ → List Dispatched → Inbox → Receiver
shown_in channel taken b = grown (taken ++ in_sequence channel b.untaken) (receiver_in (slice_get b.receivers channel))

-- a command leaves the receiver that the inbox shows as if it had come to that one
abbrev Moves : ℕ → List Dispatched → Inbox → ReceivingEnd → DataCommand → Took → Type 0
Moves channel taken b r c t = shown_in channel taken (by_took t b channel r c).after ≡ received_with t wire (shown_in channel taken b) c

moves-by : (channel : ℕ) (taken : List Dispatched) (b : Inbox) (r : ReceivingEnd) (c : DataCommand) (t : Took) → slice_get b.receivers channel ≡ Some r → r.receiver.dispatched ≡ []
    → DoesTheSame (λ s. received wire r.max_packet s c (is_full_for b r c)) r.receiver (taken ++ in_sequence channel b.untaken)
    → AreSequenced (received wire r.max_packet r.receiver c (is_full_for b r c)).dispatched
    → outcome wire r.max_packet r.receiver c (is_full_for b r c) ≡ t → Moves channel taken b r c t
moves-by channel taken b r c Bad there none same flags e = refl
moves-by channel taken b r c Waiting there none same flags e = refl
moves-by channel taken b r c Memory there none same flags e = refl
moves-by channel taken b r c Outside there none same flags e = refl
moves-by channel taken b r c Again there none same flags e = refl
moves-by channel taken b r c Held there none same flags e =
    let full = is_full_for b r c in
    let d : List Dispatched = taken ++ in_sequence channel b.untaken in
    let new : Receiver = received wire r.max_packet r.receiver c full in
    let mine : Receiver = grown d r.receiver in
    let start : (record r.receiver { dispatched = d ++ r.receiver.dispatched }) ≡ mine = ap (λ (l : List Dispatched). grown (d ++ l) r.receiver) none ∙ ap (λ (l : List Dispatched). grown l r.receiver) (append-nil d) in
    let took : received wire r.max_packet mine c full ≡ grown (d ++ new.dispatched) new = ap (λ (x : Receiver). received wire r.max_packet x c full) (sym start) ∙ same in
    let held : received wire r.max_packet mine c full ≡ received_with Held wire mine c = ap (λ (t : Took). received_with t wire mine c) e in
    let shown : shown_in channel taken b ≡ mine = ap (λ (o : Option ReceivingEnd). grown d (receiver_in o)) there in
    let more : in_sequence channel (b.untaken ++ map (packet_of channel) new.dispatched) ≡ in_sequence channel b.untaken ++ new.dispatched =
    in_sequence-append channel b.untaken (map (packet_of channel) new.dispatched) ∙ ap (λ (l : List Dispatched). in_sequence channel b.untaken ++ l) (in_sequence-own channel new.dispatched flags) in
    let after' : ReceivingEnd = record r { receiver = new } in
    let got : slice_get (slice_set b.receivers channel (emptied after')) channel ≡ Some (emptied after') = get-set b.receivers channel r (emptied after') there in
    ap (λ (o : Option ReceivingEnd). grown (taken ++ in_sequence channel (b.untaken ++ map (packet_of channel) new.dispatched)) (receiver_in o)) got
    ∙ ap (λ (l : List Dispatched). grown (taken ++ l) new) more
    ∙ ap (λ (l : List Dispatched). grown l new) (sym (append_assoc taken (in_sequence channel b.untaken) new.dispatched))
    ∙ sym took ∙ held ∙ ap (λ (x : Receiver). received_with Held wire x c) (sym shown)

-- on the channel of the command
pub arrival-own : (channel : ℕ) (taken : List Dispatched) (b : Inbox) (r : ReceivingEnd) (c : DataCommand) → slice_get b.receivers channel ≡ Some r → r.receiver.dispatched ≡ []
    → DoesTheSame (λ s. received wire r.max_packet s c (is_full_for b r c)) r.receiver (taken ++ in_sequence channel b.untaken)
    → AreSequenced (received wire r.max_packet r.receiver c (is_full_for b r c)).dispatched
    → shown_in channel taken (sequenced_on b channel c (slice_get b.receivers channel)).after ≡ received wire r.max_packet (shown_in channel taken b) c (is_full_for b r c)
arrival-own channel taken b r c there none same flags =
    let full = is_full_for b r c in
    let d : List Dispatched = taken ++ in_sequence channel b.untaken in
    let shown : shown_in channel taken b ≡ grown d r.receiver = ap (λ (o : Option ReceivingEnd). grown d (receiver_in o)) there in
    let t : outcome wire r.max_packet (shown_in channel taken b) c full ≡ outcome wire r.max_packet r.receiver c full = ap (λ (x : Receiver). outcome wire r.max_packet x c full) shown in
    ap (λ (o : Option ReceivingEnd). shown_in channel taken (sequenced_on b channel c o).after) there
    ∙ moves-by channel taken b r c (outcome wire r.max_packet r.receiver c full) there none same flags refl
    ∙ ap (λ (t : Took). received_with t wire (shown_in channel taken b) c) (sym t)

-- and on another nothing happens
other-by : (k channel : ℕ) (taken : List Dispatched) (b : Inbox) (r : ReceivingEnd) (c : DataCommand) (t : Took) → k ≢ channel → shown_in channel taken (by_took t b k r c).after ≡ shown_in channel taken b
other-by k channel taken b r c Bad n = refl
other-by k channel taken b r c Waiting n = refl
other-by k channel taken b r c Memory n = refl
other-by k channel taken b r c Outside n = refl
other-by k channel taken b r c Again n = refl
other-by k channel taken b r c Held n =
    let new : Receiver = received wire r.max_packet r.receiver c (is_full_for b r c) in
    let after' : ReceivingEnd = record r { receiver = new } in
    ap (λ (o : Option ReceivingEnd). grown (taken ++ in_sequence channel (b.untaken ++ map (packet_of k) new.dispatched)) (receiver_in o)) (get-set-other b.receivers k channel (emptied after') n)
    ∙ ap (λ (l : List Dispatched). grown (taken ++ l) (receiver_in (slice_get b.receivers channel)))
    (in_sequence-append channel b.untaken (map (packet_of k) new.dispatched) ∙ ap (λ (l : List Dispatched). in_sequence channel b.untaken ++ l) (in_sequence-other k channel new.dispatched n) ∙ append-nil (in_sequence channel b.untaken))

pub arrival-other : (k channel : ℕ) (taken : List Dispatched) (b : Inbox) (c : DataCommand) (o : Option ReceivingEnd) → k ≢ channel → shown_in channel taken (sequenced_on b k c o).after ≡ shown_in channel taken b
arrival-other k channel taken b c None n = refl
arrival-other k channel taken b c (Some r) n = other-by k channel taken b r c (outcome wire r.max_packet r.receiver c (is_full_for b r c)) n
