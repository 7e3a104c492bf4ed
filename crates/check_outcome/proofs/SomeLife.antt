-- A user's events, as those of a peer.
use Rattle.std.proofs.Common.{◌≡◌, ℕ, false, List, [], ◌∷◌, length, map, arith, refl, sym, ap, subst, ◌∙◌}
use Rattle.enet_codec.specs.declared.event.Event.{Event}
use Rattle.enet_codec.specs.declared.event.Event.TheVariants as events
use Rattle.enet_codec.specs.declared.event.PeerRef.{PeerRef}
use Rattle.enet_peer.specs.declared.parts.PeerEvent.{PeerEvent}
use Rattle.enet_peer.specs.declared.parts.PeerEvent.TheVariants as told
use Rattle.enet_slot.specs.Calls.{event_of}
use Rattle.law_connection.specs.Law.{AreLast, IsOneLife}
use Rattle.check_outcome.specs.Life.{IsSomeLife}
use Rattle.check_outcome.specs.Private.Life.{AreLastOf}

pub is-empty : (es : List Event) → length es ≡ 0 → es ≡ []
is-empty [] h = refl
is-empty (e ∷ es) h = absurd (omega arith)

-- what is told of a peer and is last is that of its events
abbrev TellsLast : PeerRef → List Event → Type 0
TellsLast name taken = (es : List PeerEvent) × (taken ≡ map (event_of name) es) × AreLast es

tells-last : (name : PeerRef) (taken : List Event) → AreLastOf name taken → TellsLast name taken
tells-last name [] h = ([], refl, tt)
tells-last name (events.Connect peer info ∷ taken) h = absurd h
tells-last name (events.Receive peer q ∷ taken) h =
    let more = tells-last name taken h.1 in
    (told.Receive q ∷ more.0, λ i. events.Receive (h.0 i) q ∷ more.1 i, more.2)
tells-last name (events.Disconnect peer info ∷ taken) h = (told.Disconnect info ∷ [], λ i. events.Disconnect (h.0 i) info ∷ h.1 i, refl)
tells-last name (events.Refused seat number why ∷ taken) h = absurd h

last-of : (name : PeerRef) (es : List PeerEvent) → AreLast es → AreLastOf name (map (event_of name) es)
last-of name [] h = tt
last-of name (told.Connect info ∷ es) h = absurd h
last-of name (told.Receive q ∷ es) h = (refl, last-of name es h)
last-of name (told.Disconnect info ∷ es) h = (refl, ap (map (event_of name)) h)

pub life_none : IsSomeLife []
life_none = record { name = record { slot = 0; generation = 0 }; life = record { events = []; told = refl; life = tt } }

pub life_connect : (name : PeerRef) (info : ℕ) (rest : List Event) → AreLastOf name rest → IsSomeLife (events.Connect name info ∷ rest)
life_connect name info rest h =
    let more = tells-last name rest h in
    record { name = name; life = record { events = told.Connect info ∷ more.0; told = ap (λ (es : List Event). events.Connect name info ∷ es) more.1; life = more.2 } }

pub life_disconnect : (name : PeerRef) (info : ℕ) (rest : List Event) → rest ≡ [] → IsSomeLife (events.Disconnect name info ∷ rest)
life_disconnect name info rest none =
    record { name = name; life = record { events = told.Disconnect info ∷ []; told = ap (λ (es : List Event). events.Disconnect name info ∷ es) none; life = refl } }

pub connect_life : (peer : PeerRef) (info : ℕ) (rest : List Event) → IsSomeLife (events.Connect peer info ∷ rest) → AreLastOf peer rest
connect_life peer info rest h = by h.name h.life.events h.life.told h.life.life
  where
    by : (name : PeerRef) (es : List PeerEvent) → events.Connect peer info ∷ rest ≡ map (event_of name) es → IsOneLife false es → AreLastOf peer rest
    by name [] e l = absurd (cc)
    by name (told.Connect i ∷ es) e l =
        let same : peer ≡ name = cc in
        let is : rest ≡ map (event_of name) es = cc in
        subst (λ (n : PeerRef). AreLastOf n rest) (sym same) (subst (AreLastOf name) (sym is) (last-of name es l))
    by name (told.Receive q ∷ es) e l = absurd l
    by name (told.Disconnect i ∷ es) e l = absurd (cc)

pub disconnect_life : (peer : PeerRef) (info : ℕ) (rest : List Event) → IsSomeLife (events.Disconnect peer info ∷ rest) → rest ≡ []
disconnect_life peer info rest h = by h.name h.life.events h.life.told h.life.life
  where
    by : (name : PeerRef) (es : List PeerEvent) → events.Disconnect peer info ∷ rest ≡ map (event_of name) es → IsOneLife false es → rest ≡ []
    by name [] e l = absurd (cc)
    by name (told.Connect i ∷ es) e l = absurd (cc)
    by name (told.Receive q ∷ es) e l = absurd l
    by name (told.Disconnect i ∷ es) e l =
        let is : rest ≡ map (event_of name) es = cc in
        is ∙ ap (map (event_of name)) l
