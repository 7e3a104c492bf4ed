use Rattle.std.proofs.Common.{◌≡◌, ℕ, false, List, length, Some, sym, ap, subst, ◌∙◌, arith}
use Rattle.law_network.specs.Calls as call
use Rattle.law_network.specs.Steps.{Called}
use Rattle.law_network.specs.Places.{Place}
use Rattle.enet_fleet.specs.Fleets.{Fleet, place_of, is_host}
use Rattle.enet_fleet.proofs.Stepping.{heard}
use Rattle.enet_fleet.proofs.happening.receive.Goals as goal

pub returns : goal.returns
returns c =
    let f : Fleet = c.args.hosts.now in
    let was : Place = record { site = c.here.inside.site; sent = c.here.inside.sent.items } in
    let there : place_of f c.args.to ≡ Some was = sym c.in-Some.ensures.there ∙ ap (λ (p : Place). Some p) (sym c.here.view_is) in
    let same = ap (λ (h : Fleet). length h.clients) c.hosts.view_is in
    let many : c.len.result ≡ length f.clients = omega arith in
    let strange : is_host (length f.clients) c.args.addr ≡ false =
    ap (λ (n : ℕ). is_host n c.args.addr) (sym many) ∙ sym c.is_host.ensures ∙ c.if-is_host.false in
    heard f c.args.to was c.receive-received.new.self c.args.addr c.args.bytes.now c.receive-received.result there strange
    (subst (λ (bytes : List ℕ). (next : ℕ) → Called next (call.Receive c.args.addr bytes c.receive-received.result) c.here.inside.site c.receive-received.new.self) c.deref.ensures c.receive-received.ensures)
