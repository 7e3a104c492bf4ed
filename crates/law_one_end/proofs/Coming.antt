-- What came to an end came by its events, and these are what fell to the peer.
use Rattle.std.proofs.Common.{◌≡◌, ℕ, List, [], ◌∷◌, ◌++◌, refl, sym, ap, subst, ◌⊎◌, inl, inr, Option, Some, None, Ok, Err}
use Rattle.std.specs.Prelude.{flat_map}
use Rattle.std.proofs.lemmas.List.Concat.{flat_map-append}
use Rattle.enet_codec.specs.declared.stop.Stop.TheVariants as stop
use Rattle.enet_codec.specs.Message.{Message}
use Rattle.enet_fragment.specs.declared.data.DataCommand.{DataCommand}
use Rattle.enet_fragment.specs.DataCommand.{data_of}
use Rattle.enet_peer.specs.Peering.{Peering}
use Rattle.enet_receiver.specs.Members.{Has}
use Rattle.law_connection.proofs.CarriageLemmas.{Has-append_left, Has-append_right}
use Rattle.law_connection.proofs.Lists.{Has-append_cases}
use Rattle.law_network.specs.Deeds.{Deed}
use Rattle.law_network.specs.Deeds as deed
use Rattle.law_one_end.specs.OneEnd.{Heard, OneEnd, Event, Submit, Emit, Come, Tick, Take, Disconnect, Set, GiveWay, TellAgain, heard_as, reliable_taken, Happens, Runs, beginning}
use Rattle.law_one_end.specs.Hosts.{message_in, event_in}

-- the command that came by an event
abbrev came_in : Event → List Message
came_in (Come m now sent) = m ∷ []
came_in event = []

-- it came by one of these commands
abbrev pub IsOf : List Message → Heard → Type 0
IsOf ms h = (m : Message) × Has ms m × (h.channel ≡ m.head.channel) × (data_of m ≡ Some h.command)

heard-is : (channel front taken : ℕ) (o : Option DataCommand) (h : Heard) → Has (heard_as channel front taken o) h → (h.channel ≡ channel) × (o ≡ Some h.command)
heard-is channel front taken None h there = absurd there
heard-is channel front taken (Some c) h (inl e) = (ap (λ (x : Heard). x.channel) (sym e), ap (λ (x : Heard). Some x.command) e)
heard-is channel front taken (Some c) h (inr f) = absurd f

came-once : (event : Event) (e new : OneEnd) → Happens e event new → (h : Heard) → Has new.came h → Has e.came h ⊎ IsOf (came_in event) h
came-once (Submit q) e new k h there = inl (subst (λ (x : OneEnd). Has x.came h) k.1 there)
came-once (Emit now) e new k h there = inl (subst (λ (x : OneEnd). Has x.came h) k there)
came-once (Come m now sent) e new k h there =
    elim (Has-append_cases e.came (heard_as m.head.channel (e.fronts m.head.channel) (reliable_taken m.head.channel e.taken) (data_of m)) h (subst (λ (x : OneEnd). Has x.came h) k.2 there)) [
      | inl old ↦ inl old
      | inr more ↦ (let i = heard-is m.head.channel (e.fronts m.head.channel) (reliable_taken m.head.channel e.taken) (data_of m) h more in inr (m, inl refl, i.0, i.1))
    ]
came-once (Tick now) e new k h there = inl (subst (λ (x : OneEnd). Has x.came h) k.1 there)
came-once Take e new k h there = inl (subst (λ (x : OneEnd). Has x.came h) k.3 there)
came-once (Disconnect way info) e new k h there = inl (subst (λ (x : OneEnd). Has x.came h) k.2 there)
came-once (Set setting) e new k h there = inl (subst (λ (x : OneEnd). Has x.came h) k.1 there)
came-once GiveWay e new k h there = inl (subst (λ (x : OneEnd). Has x.came h) k.1 there)
came-once TellAgain e new k h there = inl (subst (λ (x : OneEnd). Has x.came h) k.1 there)

came-by : (es : List Event) (e new : OneEnd) → Runs es e new → (h : Heard) → Has new.came h → Has e.came h ⊎ IsOf (flat_map came_in es) h
came-by [] e new r h there = inl (subst (λ (x : OneEnd). Has x.came h) (sym r) there)
came-by (event ∷ es) e new r h there = elim (came-by es r.0 new r.2 h there) [
  | inr more ↦ inr (more.0, Has-append_right (came_in event) (flat_map came_in es) more.0 more.1, more.2, more.3)
  | inl old ↦ elim (came-once event e r.0 r.1 h old) [
    | inl was ↦ inl was
    | inr more ↦ inr (more.0, Has-append_left (came_in event) (flat_map came_in es) more.0 more.1, more.2, more.3)
  ]
]

-- an event's command is its deed's
of-deed : (d : Deed) (m : Message) → Has (flat_map came_in (event_in d)) m → Has (message_in d) m
of-deed (deed.Submit q limit (Ok done)) m there = there
of-deed (deed.Submit q limit (Err why)) m there = there
of-deed (deed.Emit now given) m there = there
of-deed (deed.Come a x (Ok done)) m there = there
of-deed (deed.Come a x (Err stop.Memory)) m there = absurd there
of-deed (deed.Come a x (Err stop.Short)) m there = there
of-deed (deed.Come a x (Err stop.Compressed)) m there = there
of-deed (deed.Come a x (Err stop.UnknownPeer)) m there = there
of-deed (deed.Come a x (Err stop.WrongAddress)) m there = there
of-deed (deed.Come a x (Err stop.WrongSession)) m there = there
of-deed (deed.Come a x (Err stop.BadCommand)) m there = there
of-deed (deed.Come a x (Err stop.NotConnected)) m there = there
of-deed (deed.Come a x (Err stop.BadChannel)) m there = there
of-deed (deed.Come a x (Err stop.BadFragment)) m there = there
of-deed (deed.Come a x (Err stop.Waiting)) m there = there
of-deed (deed.Come a x (Err stop.NoSentTime)) m there = there
of-deed (deed.Come a x (Err stop.NoSlot)) m there = there
of-deed (deed.Tick now short) m there = there
of-deed (deed.Take None) m there = there
of-deed (deed.Take (Some e)) m there = there
of-deed (deed.Disconnect way info (Ok done)) m there = there
of-deed (deed.Disconnect way info (Err why)) m there = there
of-deed (deed.Set setting (Ok done)) m there = there
of-deed (deed.Set setting (Err why)) m there = there
of-deed deed.GiveWay m there = there
of-deed deed.TellAgain m there = there

of-deeds : (ds : List Deed) (m : Message) → Has (flat_map came_in (flat_map event_in ds)) m → Has (flat_map message_in ds) m
of-deeds [] m there = there
of-deeds (d ∷ ds) m there =
    let both : Has (flat_map came_in (event_in d) ++ flat_map came_in (flat_map event_in ds)) m = subst (λ (l : List Message). Has l m) (flat_map-append came_in (event_in d) (flat_map event_in ds)) there in
    elim (Has-append_cases (flat_map came_in (event_in d)) (flat_map came_in (flat_map event_in ds)) m both) [
      | inl one ↦ Has-append_left (message_in d) (flat_map message_in ds) m (of-deed d m one)
      | inr more ↦ Has-append_right (message_in d) (flat_map message_in ds) m (of-deeds ds m more)
    ]

-- so what came to an end came by what fell to it
pub came-of : (ds : List Deed) (p : Peering) (end : OneEnd) → Runs (flat_map event_in ds) (beginning p) end → (h : Heard) → Has end.came h → IsOf (flat_map message_in ds) h
came-of ds p end runs h there = elim (came-by (flat_map event_in ds) (beginning p) end runs h there) [
  | inl old ↦ absurd old
  | inr more ↦ (more.0, of-deeds ds more.0 more.1, more.2, more.3)
]
