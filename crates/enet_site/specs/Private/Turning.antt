-- A host puts out a datagram, or has none.
use Rattle.std.specs.Prelude.{◌≡◌, ℕ, Bool, true, false, List, [], ◌∷◌, ◌++◌, length, take, Option, Some, None}
use Rattle.enet_codec.specs.declared.address.Addr.{Addr}
use Rattle.enet_codec.specs.declared.event.PeerRef.{PeerRef}
use Rattle.enet_host.specs.Host.{Host}
use Rattle.enet_host.specs.Serving.{Serves}
use Rattle.law_network.specs.Log.{Logged}
use Rattle.enet_site.specs.Records.{Given, Notes}
use Rattle.enet_site.specs.declared.put_out.Turned.{Turned}
use Rattle.enet_site.specs.declared.put_out.Turned.TheVariants.{Sent, Away}
use Rattle.enet_site.specs.Private.Sites.{Recorded}

-- it has none
abbrev pub EmitsNothing : Host → Host → Type 0
EmitsNothing old new = (buf : List ℕ) × Serves old None buf new

-- it gives one of a peer
pub record EmitsOne (old : Host) (given : Given) (new : Host) : Type 0 where
  pub len : ℕ
  pub buf : List ℕ
  pub serves : Serves old (Some (given.name, given.to, len)) buf new
  pub text_is : given.text ≡ take len buf

-- the datagram is a host's, and is logged last; `far` has the greatest numbers that the other end of a connection sent
pub record Puts (hosts : Addr → Bool) (far : ℕ → List ℕ) (old new : Recorded) : Type 0 where
  pub given : Given
  pub gives : EmitsOne old.host given new.host
  pub host : hosts given.to ≡ true
  pub logged : Logged
  pub notes : Notes far given old.records.ends new.records.ends logged
  pub log : new.records.log ≡ old.records.log ++ logged ∷ []

-- what it was: a host's datagram got the next number, and of a stranger's nothing is kept
abbrev pub Turns : (Addr → Bool) → (ℕ → List ℕ) → Option Turned → Recorded → Recorded → Type 0
Turns hosts far None old new = EmitsNothing old.host new.host × (new.records ≡ old.records)
Turns hosts far (Some (Sent n)) old new = (n ≡ length old.records.log) × Puts hosts far old new
Turns hosts far (Some (Away to text)) old new =
    (name : PeerRef) × EmitsOne old.host (record { name = name; to = to; text = text }) new.host × (hosts to ≡ false) × (new.records ≡ old.records)
