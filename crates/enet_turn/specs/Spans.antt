-- What a service's owner does with it: turns, and between them it may part from peers.
use Rattle.std.specs.Prelude.{◌≡◌, List, [], ◌∷◌, flat_map, Option}
use Rattle.enet_codec.specs.declared.event.DisconnectMode.{DisconnectMode}
use Rattle.enet_codec.specs.declared.event.PeerRef.{PeerRef}
use Rattle.enet_codec.specs.declared.refusal.Refusal.{Refusal}
use Rattle.enet_submit.specs.declared.order.Order.TheVariants.{Disconnect}
use Rattle.enet_turn.specs.declared.service.Service.{Service}
use Rattle.enet_turn.specs.Calls.{Calls}
use Rattle.enet_turn.specs.Phases.{Chain}
use Rattle.enet_turn.specs.LoneTurn.{Kind, RoundsOf}
use Rattle.enet_turn.specs.Turn.{Round}

-- some turns of a kind, and the peers that it parted from after them
pub record Span : Type 0 where
  pub kind : Kind
  pub rounds : List Round
  pub how : DisconnectMode
  pub parted : List PeerRef

-- each peer is told that its connection ends, unless that is refused (as `disconnect_all` does)
abbrev pub Parts : {H : Type 0} → Calls H → DisconnectMode → Service H → List PeerRef → Service H → Type 0
Parts calls how old peers new = Chain (λ s peer t. (why : Option Refusal) × calls.applies s.host (Disconnect peer how 0) why t.host × (t.waiting ≡ s.waiting)) old peers new

abbrev pub IsSpan : {H : Type 0} → Calls H → Service H → Span → Service H → Type 0
IsSpan {H} calls old span new = (between : Service H) × RoundsOf span.kind calls old span.rounds between × Parts calls span.how between span.parted new

abbrev pub Spans : {H : Type 0} → Calls H → Service H → List Span → Service H → Type 0
Spans calls old spans new = Chain (IsSpan calls) old spans new

-- all turns
abbrev pub rounds_in : List Span → List Round
rounds_in spans = flat_map (λ s. s.rounds) spans
