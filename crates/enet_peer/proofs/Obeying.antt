-- What a command leaves of a peer.
use Rattle.std.proofs.Common.{Bool, true, false, cond, ◌==◌, sym, subst, Result, Ok, Err}
use Rattle.enet_codec.specs.declared.stop.Stop.{Stop}
use Rattle.enet_codec.specs.declared.stop.Stop.TheVariants as stop
use Rattle.enet_peer.specs.Peering.{Peering}
use Rattle.enet_codec.specs.declared.command.Verify.{Verify}
use Rattle.enet_codec.specs.Message.{Message}
use Rattle.enet_peer.specs.Endings.{ended}
use Rattle.enet_peer.specs.declared.parts.Ending.TheVariants.{BadAnswer}
use Rattle.enet_peer.specs.CommandEffect.{Outcome, Obeys, is_crowded_out, is_unasked, stopped, unless_refused, unwelcomed}

-- what holds of the peer as it was and as the command leaves it holds after the call, memory refused or not
pub obeys-holds : (P : Peering → Type 0) (r : Result (Unit {0}) Stop) (wants : Bool) (o : Outcome) (p q : Peering) → P p → P o.after → Obeys r wants o p q → P q
obeys-holds P (Ok it) wants o p q was is e = subst P (sym e.1) is
obeys-holds P (Err stop.Memory) wants o p q was is e = subst P (sym e.2) was
obeys-holds P (Err stop.Short) wants o p q was is e = subst P (sym e.1) is
obeys-holds P (Err stop.Compressed) wants o p q was is e = subst P (sym e.1) is
obeys-holds P (Err stop.UnknownPeer) wants o p q was is e = subst P (sym e.1) is
obeys-holds P (Err stop.WrongAddress) wants o p q was is e = subst P (sym e.1) is
obeys-holds P (Err stop.WrongSession) wants o p q was is e = subst P (sym e.1) is
obeys-holds P (Err stop.BadCommand) wants o p q was is e = subst P (sym e.1) is
obeys-holds P (Err stop.NotConnected) wants o p q was is e = subst P (sym e.1) is
obeys-holds P (Err stop.BadChannel) wants o p q was is e = subst P (sym e.1) is
obeys-holds P (Err stop.BadFragment) wants o p q was is e = subst P (sym e.1) is
obeys-holds P (Err stop.Waiting) wants o p q was is e = subst P (sym e.1) is
obeys-holds P (Err stop.NoSentTime) wants o p q was is e = subst P (sym e.1) is
obeys-holds P (Err stop.NoSlot) wants o p q was is e = subst P (sym e.1) is

-- what holds of the peer as it was and of what a command makes of it holds too where that may be refused
pub unless-holds : (P : Peering → Type 0) (p : Peering) (m : Message) (o : Outcome) → P p → P o.after → P (unless_refused p m o).after
unless-holds P p m o was is = by (is_unasked p m.body) (is_crowded_out p m)
  where
    by : (a b : Bool) → P (cond a (stopped p stop.NotConnected) (cond b (stopped p stop.Waiting) o)).after
    by true b = was
    by false true = was
    by false false = is

-- what holds of a client as it was and of one whose connection has ended holds where a server's answer isn't accepted
pub unwelcomed-holds : (P : Peering → Type 0) (p : Peering) (v : Verify) → P p → P (ended p BadAnswer 0) → P (unwelcomed p v)
unwelcomed-holds P p v was is = by (p.offer.connect_id == v.connect_id)
  where
    by : (b : Bool) → P (cond b (ended p BadAnswer 0) p)
    by true = is
    by false = was
