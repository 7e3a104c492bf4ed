use Rattle.std.proofs.Common.{◌≡◌, Bool, true, false, not, refl, sym, ◌∙◌}
use Rattle.enet_codec.specs.Message.{view}
use Rattle.enet_peer.proofs.Arriving.{quiet_taken}
use Rattle.enet_peer.proofs.peer.Peer.on_data.Goals as goal

is-false : (b : Bool) → not b ≡ true → b ≡ false
is-false true h = absurd (let e : false ≡ true = h in cc)
is-false false h = refl

pub returns-then-not-what-clause-done : goal.returns-then-not-what-clause-done
returns-then-not-what-clause-done c = sym (quiet_taken c.args.self.now.peer (view c.args.command.now) (sym c.requires.kept ∙ is-false c.args.what.kept c.if-not-what.true))
