-- While both ends are connected, no DISCONNECT goes: a connected peer has none to send, and by no other command it ceases to be connected.
use Rattle.std.proofs.Common.{◌≡◌, ◌⊎◌, inl, inr, ℕ, Bool, true, false, List, [], ◌∷◌, ◌++◌, append-nil, map, refl, sym, ap, subst, ◌∙◌, Option, Some, None}
use Rattle.enet_codec.specs.declared.address.Addr.{Addr}
use Rattle.enet_codec.specs.declared.command.Fragment.{Fragment}
use Rattle.enet_codec.specs.Message.{Message, disconnect}
use Rattle.enet_senders.specs.declared.control.Control.{Control}
use Rattle.enet_senders.specs.declared.control.Control.TheVariants as control
use Rattle.enet_senders.specs.Controlling.{body_of}
use Rattle.enet_fragment.specs.DataCommand.{wire_body}
use Rattle.enet_outbox.specs.declared.parts.Pace.{Pace}
use Rattle.enet_outbox.specs.Outbox.{Outbox}
use Rattle.enet_outbox.specs.Emission.{filled}
use Rattle.enet_peer.specs.declared.parts.PeerState.TheVariants as state
use Rattle.enet_peer.specs.Peering.{Peering}
use Rattle.enet_peer.specs.CommandEffect.{obeyed}
use Rattle.enet_peer.specs.Calls.{is_answering, pace_of}
use Rattle.law_connection.specs.Connection.{Put, End, put_by}
use Rattle.law_connection.specs.LinkSteps.{Has}
use Rattle.law_connection.specs.Steps.{Emit, Happens, with_emission}
use Rattle.law_connection.proofs.Emits.{Has-from_map}
use Rattle.law_network.specs.Log.{Logged}
use Rattle.law_network.specs.Network.{HostEnd, Site}
use Rattle.law_network.specs.Telling.{GoesTo}
use Rattle.law_network.proofs.Submitting.{same-some}
use Rattle.law_progress.proofs.Exchanges.{same-peer, goes-on, put_out}
use Rattle.std.proofs.lemmas.List.{append_cancel_left}
use Rattle.enet_world.proofs.Pings.{IsLone, is_ping, next-lone, meets}
use Rattle.enet_world.proofs.Offers.{filled-all}

-- by any other command that comes it stays connected
pub hears-on : (p : Peering) (now : ℕ) (sent : Option ℕ) (m : Message) → p.state ≡ state.Connected → ((info : ℕ) → m.body ≡ disconnect info → ⊥) → (obeyed p now sent m).after.state ≡ state.Connected
hears-on p now sent m on none = meets (λ q. q.state ≡ state.Connected) p now sent m on (record {
  same = on;
  holds = λ b. on;
  acknowledges = λ channel number time. on;
  hears = λ n. on;
  paces = λ interval acceleration deceleration. on;
  ends = λ b info e. absurd (none info e);
  answers = λ q a k. k;
})

-- nor is it let go for another
pub not-let-go : (from : Addr) (s : Site) (e : HostEnd) (d : Logged) (own far new : End) (p : Peering) → own.peer ≡ Some p → p.state ≡ state.Connected → (new ≡ own) ⊎ GoesTo from s e d own far new → new ≡ own
not-let-go from s e d own far new p is on (inl same) = same
not-let-go from s e d own far new p is on (inr x) =
    let gone = x.2 in
    let same : gone.0 ≡ p = same-some gone.0 p (sym gone.1 ∙ is) in
    absurd (let y : true ≡ false = sym gone.2 ∙ ap (λ (q : Peering). is_answering q.state) same ∙ ap is_answering on in cc)

-- it puts out none
control-said : (what : Control) (info : ℕ) → is_ping what ≡ true → body_of what ≡ disconnect info → ⊥
control-said control.Ping info ok e = cc
control-said what info ok e = absurd (let z : false ≡ true = ok in cc)

data-said : (r : Bool) (f : Option Fragment) (count : ℕ) (body : List ℕ) (info : ℕ) → wire_body r f count body ≡ disconnect info → ⊥
data-said true None count body info e = cc
data-said true (Some f) count body info e = cc
data-said false None count body info e = cc
data-said false (Some f) count body info e = cc

filled-said : (pace : Pace) (b : Outbox) → IsLone is_ping b.control → (m : Message) → Has (filled pace b).messages m → (info : ℕ) → m.body ≡ disconnect info → ⊥
filled-said pace b = filled-all (IsLone is_ping) (λ m. (info : ℕ) → m.body ≡ disconnect info → ⊥) pace b
    (λ c n e a. (let s = next-lone is_ping pace.now pace.timeout c n e a in (s.0, λ info t. control-said n.command.control info s.1 t)))
    (λ x info t. absurd (cc)) (λ u info t. absurd (cc)) (λ channel d info t. data-said d.reliable d.fragment d.unreliable d.body info t)

-- what an end puts out is what its peer has to send
puts-are : (now : ℕ) (own far new : End) (p : Peering) (puts : List Put) → own.peer ≡ Some p → Happens own far (Emit now) new → new.log ≡ own.log ++ puts
    → (put : Message → Put) × (puts ≡ map put (filled (pace_of p now) p.outbox).messages) × ((m : Message) → (put m).message ≡ m)
puts-are now own far new p puts is h logged = (put, append_cancel_left own.log puts (map put ms) (sym logged ∙ ap (λ (e : End). e.log) after), λ m. refl)
  where
    ms : List Message
    ms = (filled (pace_of p now) p.outbox).messages

    put : Message → Put
    put = put_by (record own { log = own.log ++ map (λ (m : Message). record { message = m; sent_then = 0 }) ms }) far

    after : new ≡ with_emission own far p now
    after = subst (λ (y : Peering). new ≡ with_emission own far y now) (same-peer own h.0 p h.1 is) h.2

pub was-filled : (now : ℕ) (own far new : End) (p : Peering) (puts : List Put) → own.peer ≡ Some p → Happens own far (Emit now) new → new.log ≡ own.log ++ puts → (x : Put) → Has puts x → Has (filled (pace_of p now) p.outbox).messages x.message
was-filled now own far new p puts is h logged x has =
    let all = puts-are now own far new p puts is h logged in
    let m = Has-from_map all.0 (filled (pace_of p now) p.outbox).messages x (subst (λ (l : List Put). Has l x) all.1 has) in
    subst (λ (y : Message). Has (filled (pace_of p now) p.outbox).messages y) (sym (all.2 m.0) ∙ ap (λ (y : Put). y.message) m.2) m.1

pub none-filled : (now : ℕ) (own far new : End) (p : Peering) → own.peer ≡ Some p → Happens own far (Emit now) new → new.log ≡ own.log → (filled (pace_of p now) p.outbox).messages ≡ []
none-filled now own far new p is h same =
    let all = puts-are now own far new p [] is h (same ∙ sym (append-nil own.log)) in
    none-put all.0 (filled (pace_of p now) p.outbox).messages (sym all.1)
  where
    none-put : (f : Message → Put) (ms : List Message) → map f ms ≡ [] → ms ≡ []
    none-put f [] e = refl
    none-put f (m ∷ ms) e = absurd (cc)

-- so none is among what its end puts out
pub puts-none-ends : (now : ℕ) (own far new : End) (p : Peering) (puts : List Put) → own.peer ≡ Some p → IsLone is_ping p.outbox.control → Happens own far (Emit now) new → new.log ≡ own.log ++ puts
    → (x : Put) (info : ℕ) → Has puts x → x.message.body ≡ disconnect info → ⊥
puts-none-ends now own far new p puts is lone h logged x info has says = filled-said (pace_of p now) p.outbox lone x.message (was-filled now own far new p puts is h logged x has) info says

-- and it is connected then
pub emits-on : (now : ℕ) (own far new : End) (p : Peering) → own.peer ≡ Some p → p.state ≡ state.Connected → Happens own far (Emit now) new → new.peer ≡ Some (put_out p now)
emits-on now own far new p is on h =
    ap (λ (e : End). e.peer) (subst (λ (y : Peering). new ≡ with_emission own far y now) (same-peer own h.0 p h.1 is) h.2) ∙ ap (λ (q : Peering). Some q) (goes-on (put_out p now) on)
