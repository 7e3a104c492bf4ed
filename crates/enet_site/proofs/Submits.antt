-- A submission, at its site.
use Rattle.std.proofs.Common.{◌≡◌, ◌<◌, ℕ, true, List, length, refl, sym, ap, subst, ◌∙◌, arith, Option, Some, None, Result, Ok, Err, IfOk, IfErr, OnErr, is_ok, slice_set}
use Rattle.std.specs.List.{position, slice_index_or}
use Rattle.enet_codec.specs.declared.event.PeerRef.{PeerRef}
use Rattle.enet_codec.specs.declared.packet.Packet.{Packet}
use Rattle.enet_codec.specs.declared.refusal.Refusal.{Refusal}
use Rattle.enet_sender.specs.CommandChoice as command_choice
use Rattle.law_connection.specs.Law.{mtu_in}
use Rattle.enet_host.specs.Host.{Host, named}
use Rattle.enet_host.specs.Foretelling.{refusal_of}
use Rattle.law_network.specs.Calls.{Done, Acts}
use Rattle.law_network.specs.Calls as call
use Rattle.law_network.specs.Log.{Logged}
use Rattle.law_network.specs.Network.{HostEnd, is_same_name, with_end}
use Rattle.law_network.specs.Steps.{with_packet}
use Rattle.enet_site.specs.Records.{Records, AreApart}
use Rattle.enet_site.specs.RecordsPrivate.Records.{IsKept, AreKept}
use Rattle.enet_site.proofs.Ends.{Placed, placed-some, with-one, with-none}
use Rattle.enet_site.proofs.Keeps.{kept-set, packet-kept}
use Rattle.enet_site.specs.Private.Sites.{CallsOn}

-- where the end stands that has a name
pub place-of : (ends xs : List HostEnd) (name : PeerRef) (i : ℕ) (e : HostEnd) → xs ≡ ends → Some i ≡ position (λ (f : HostEnd). is_same_name f.name name) xs → e ≡ slice_index_or ends i e → Placed ends name i e
place-of ends xs name i e same found at = placed-some ends name i e (ap (position (λ (f : HostEnd). is_same_name f.name name)) (sym same) ∙ sym found) at

-- and where none has it
pub none-of : (was : Records) (log : List Logged) (ends xs : List HostEnd) (name : PeerRef) → record { log = log; ends = ends } ≡ was → xs ≡ ends → None ≡ position (λ (f : HostEnd). is_same_name f.name name) xs
    → position (λ (f : HostEnd). is_same_name f.name name) was.ends ≡ None
none-of was log ends xs name view same found =
    ap (λ (w : Records). position (λ (f : HostEnd). is_same_name f.name name) w.ends) (sym view) ∙ ap (position (λ (f : HostEnd). is_same_name f.name name)) (sym same) ∙ sym found

ok-of : {S : Type 0} (r : Result S Refusal) → None ≡ refusal_of r → is_ok r ≡ true
ok-of (Ok s) is = refl
ok-of (Err why) is = absurd (let y : ◌≡◌ {A = Option Refusal} None (Some why) = is in cc)

pub is-open : {S : Type 0} (outcome : PeerRef → command_choice.Packet → Result S Refusal) (name peer : PeerRef) (flags : ℕ) (body copy : List ℕ) (len : ℕ) → name ≡ peer → copy ≡ body → len ≡ length body
    → ((q : command_choice.Packet) → length q.body ≡ len → None ≡ refusal_of (outcome peer q)) → is_ok (outcome name (record { flags = flags; body = copy })) ≡ true
is-open outcome name peer flags body copy len same content long agrees =
    subst (λ (n : PeerRef). is_ok (outcome n (record { flags = flags; body = copy })) ≡ true) (sym same)
    (ok-of (outcome peer (record { flags = flags; body = copy })) (agrees (record { flags = flags; body = copy }) (ap length content ∙ sym long)))

-- what was said of the end's own name and packet

pub refused-so : (r : Done) (h : Host) (name peer : PeerRef) (channel flags : ℕ) (body copy : List ℕ) → name ≡ peer → copy ≡ body
    → IfErr r (λ why. Acts (call.Submit name channel (record { flags = flags; body = copy }) (Err (why, copy))) h h)
    → IfErr r (λ why. Acts (call.Submit peer channel (record { flags = flags; body = body }) (Err (why, body))) h h)
refused-so (Ok done) h name peer channel flags body copy same content is = tt
refused-so (Err why) h name peer channel flags body copy same content is =
    subst (λ (n : PeerRef). Acts (call.Submit n channel (record { flags = flags; body = body }) (Err (why, body))) h h) same
    (subst (λ (b : List ℕ). Acts (call.Submit name channel (record { flags = flags; body = b }) (Err (why, b))) h h) content is)

abbrev with_submitted : ℕ → ℕ → ℕ → List ℕ → HostEnd → HostEnd
with_submitted channel flags mtu body e = with_packet mtu (record { channel = channel; flags = flags; body = body }) e

pub submitted-on : (r : Done) (old new : Host) (was : Records) (log : List Logged) (ends : List HostEnd) (place : ℕ) (e f : HostEnd) (peer : PeerRef) (mtu channel flags : ℕ) (body copy : List ℕ) → record { log = log; ends = ends } ≡ was
    → AreApart ends → Placed ends peer place e → mtu ≡ mtu_in (named old.slots peer) → copy ≡ body
    → IfOk r (λ done. Acts (call.Submit e.name channel (record { flags = flags; body = copy }) (Ok tt)) old new)
    → IfOk r (λ done. f ≡ with_packet mtu (record { channel = channel; flags = flags; body = copy }) e)
    → IfOk r (λ done. CallsOn 0 (call.Submit peer channel (record { flags = flags; body = body }) (Ok tt)) (record { host = old; records = was }) (record { host = new; records = record { log = log; ends = slice_set ends place f } }))
submitted-on (Err why) old new was log ends place e f peer mtu channel flags body copy view apart at by content does keeps = tt
submitted-on (Ok done) old new was log ends place e f peer mtu channel flags body copy view apart at by content does keeps =
    subst (λ (w : Records). CallsOn 0 (call.Submit peer channel (record { flags = flags; body = body }) (Ok tt)) (record { host = old; records = w }) (record { host = new; records = record { log = log; ends = slice_set ends place f } })) view
    (λ address. (acts, (λ i. record { address = address; host = new; log = log; ends = same i })))
  where
    acts : Acts (call.Submit peer channel (record { flags = flags; body = body }) (Ok tt)) old new
    acts =
        subst (λ (n : PeerRef). Acts (call.Submit n channel (record { flags = flags; body = body }) (Ok tt)) old new) at.named
        (subst (λ (b : List ℕ). Acts (call.Submit e.name channel (record { flags = flags; body = b }) (Ok tt)) old new) content does)

    same : slice_set ends place f ≡ with_end (with_packet (mtu_in (named old.slots peer)) (record { channel = channel; flags = flags; body = body })) peer ends
    same =
        ap (slice_set ends place) (keeps ∙ (λ i. with_submitted channel flags (by i) (content i) e))
        ∙ sym (with-one (with_submitted channel flags (mtu_in (named old.slots peer)) body) peer ends place e apart at.at at.named)

pub kept-submitted : (r : Done) (log : List Logged) (ends : List HostEnd) (place : ℕ) (e f : HostEnd) (peer : PeerRef) (mtu : ℕ) (q : Packet) → AreKept log ends → Placed ends peer place e → OnErr r (f ≡ e) → IfOk r (λ done. f ≡ with_packet mtu q e)
    → AreKept log (slice_set ends place f)
kept-submitted (Ok done) log ends place e f peer mtu q k at same keeps =
    kept-set log ends place e f k at.at (ap (λ (x : HostEnd). x.name) keeps) (subst (IsKept (length log)) (sym keeps) (packet-kept (length log) mtu q e (k.each e at.there)))
kept-submitted (Err why) log ends place e f peer mtu q k at same keeps =
    kept-set log ends place e f k at.at (ap (λ (x : HostEnd). x.name) same) (subst (IsKept (length log)) (sym same) (k.each e at.there))

pub channel-inside : (log : List Logged) (ends : List HostEnd) (place : ℕ) (e : HostEnd) (peer : PeerRef) (channel : ℕ) → AreKept log ends → Placed ends peer place e → channel < 256 → channel < length e.channels
channel-inside log ends place e peer channel k at low = (let own = k.each e at.there in let long = own.channels in omega arith)

-- a packet that is submitted to a peer which no end has is kept nowhere
pub submitted-off : (r : Done) (old new : Host) (was : Records) (log : List Logged) (ends xs : List HostEnd) (peer : PeerRef) (channel flags : ℕ) (body copy : List ℕ) → record { log = log; ends = ends } ≡ was → xs ≡ ends
    → None ≡ position (λ (f : HostEnd). is_same_name f.name peer) xs → copy ≡ body → IfOk r (λ done. Acts (call.Submit peer channel (record { flags = flags; body = copy }) (Ok tt)) old new)
    → IfOk r (λ done. CallsOn 0 (call.Submit peer channel (record { flags = flags; body = body }) (Ok tt)) (record { host = old; records = was }) (record { host = new; records = was }))
submitted-off (Err why) old new was log ends xs peer channel flags body copy view same found content does = tt
submitted-off (Ok done) old new was log ends xs peer channel flags body copy view same found content does = λ address. (
  subst (λ (b : List ℕ). Acts (call.Submit peer channel (record { flags = flags; body = b }) (Ok tt)) old new) content does,
  (λ i. record {
    address = address;
    host = new;
    log = was.log;
    ends = sym (with-none (with_packet (mtu_in (named old.slots peer)) (record { channel = channel; flags = flags; body = body })) peer was.ends (none-of was log ends xs peer view same found)) i;
  }),
)
