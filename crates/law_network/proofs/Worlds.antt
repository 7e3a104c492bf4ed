-- What holds of hosts and of the two ends of a connection, whatever happens at one of them.
use Rattle.std.proofs.Common.{◌≡◌, ◌≢◌, ◌<◌, ◌≤◌, ℕ, ◌+◌, ◌⊎◌, inl, inr, Bool, true, false, cond, ◌==◌, List, [], ◌∷◌, ◌++◌, take, refl, sym, ap, subst, ◌∙◌, arith, Option, Some, None, Result, Ok, slice_get}
use Rattle.std.proofs.lemmas.Bool.Decides.{nat_tests}
use Rattle.enet_codec.specs.declared.event.PeerRef.{PeerRef}
use Rattle.enet_codec.specs.declared.event.Received.{Received}
use Rattle.enet_codec.specs.declared.refusal.Refusal.{Refusal}
use Rattle.enet_codec.specs.declared.address.Addr.{Addr}
use Rattle.enet_codec.specs.declared.header.Header.{Header}
use Rattle.enet_codec.proofs.HeaderLaws.{one_header}
use Rattle.enet_peer.specs.Heading.{IsRead}
use Rattle.enet_peer.specs.declared.parts.PeerState.TheVariants as state
use Rattle.enet_peer.specs.Peering.{Peering}
use Rattle.law_connection.specs.LinkSteps.{Has}
use Rattle.law_connection.proofs.Lists.{Has-push_cases, Has-slice_get}
use Rattle.law_connection.specs.Connection.{End, sent_on}
use Rattle.law_connection.specs.Steps.{One, Two, Event, no_end}
use Rattle.law_connection.proofs.Runs.{reached-none}
use Rattle.law_connection.proofs.Words.{IsWord, word-happens}
use Rattle.law_unsequenced.proofs.Laws.{Kept as KeptBetween, kept-at as kept-event}
use Rattle.enet_slot.specs.Slot.{SlotState, name_of, greatest}
use Rattle.enet_slot.specs.Yielding.{readied}
use Rattle.enet_host.specs.Host.{Host}
use Rattle.enet_host.specs.Opening.{host_basis, seat, Connects, no_channel, no_slot, no_memory, asks}
use Rattle.enet_host.specs.Serving.{served_of}
use Rattle.law_network.specs.Calls.{Call, Acts}
use Rattle.law_network.specs.Calls as call
use Rattle.law_network.proofs.Lists.{same-or}
use Rattle.law_network.proofs.Names.{IsThere, IsSpent, same-generations, begun-generation}
use Rattle.law_network.proofs.Guests.{guest}
use Rattle.law_network.proofs.Seats.{IsOpen, is_open, readied-low, readied-new, seat-open}
use Rattle.law_network.specs.IsolationLaw as isolation
use Rattle.law_network.specs.Common.{common_of}
use Rattle.law_network.specs.Law.{AreNamed, HasNothingOf, GoesOn, IsElsewhere, IsBetween, Faces, Begins, ShowsAt}
use Rattle.law_network.specs.Log.{Logged, greatest_at}
use Rattle.law_network.specs.Network.{HostEnd, Site, fresh_end, end_of, numbers_in, numbers_of}
use Rattle.law_network.specs.Shown.{ShowsPeer, Shows, ShowsFar, RunsAt, IsApart}
use Rattle.law_network.specs.Steps.{Around, Happening, Calls, Delivers, HappensAmong, Logs, LogsIf, BringsOne, begun, count_after}
use Rattle.law_network.proofs.Beginnings.{answered}
use Rattle.law_network.proofs.Delivering.{end-there}
use Rattle.law_network.proofs.Growing.{more_of, more_in, Grows, grows, from-before, stays-there, begins-there, begun-is}
use Rattle.law_network.proofs.OneThing.{one-thing}
use Rattle.law_network.proofs.Peers.{there-or}
use Rattle.law_network.proofs.Submitting.{same-some}

-- two ends of one connection, either of which may have asked
abbrev pub KeptEither : Bool → End → End → Type 0
KeptEither joined a b = KeptBetween joined (record { one = a; two = b }) ⊎ KeptBetween joined (record { one = b; two = a })

-- two hosts show the ends of connection x, which stands from the start or not, which keep what every connection keeps, and which have one connect id
pub record Pair (joined : Bool) (a b : Site) (x : ℕ) : Type 0 where
  pub one : End
  pub two : End
  pub here : ShowsAt a x one
  pub there : ShowsAt b x two
  pub kept : KeptEither joined one two
  pub word : ℕ
  pub one_word : IsWord word one
  pub two_word : IsWord word two

-- no connection begins at a host that has an end of it
abbrev pub BeginsOnce : Site → Site → Site → Happening → Type 0
BeginsOnce from old new (Calls c) = Unit {0}
BeginsOnce from old new (Delivers k answer) =
    (d : Logged) → slice_get from.log k ≡ Some d → (e : HostEnd) → Has old.ends e → e.connection ≡ d.connection → (f : HostEnd) → Has (begun d.connection from.address old.host new.host) f → ⊥

-- what holds of a host where there were so many connections
pub record IsHost (s : Site) (count : ℕ) : Type 0 where
  pub few : s.host.config.generations ≤ greatest
  pub apart : (e : HostEnd) → Has s.ends e → IsApart s.ends e
  pub below : (e : HostEnd) → Has s.ends e → e.connection < count
  pub logged : (d : Logged) → Has s.log d → (e : HostEnd) × Has s.ends e × (e.connection ≡ d.connection)
  pub named : AreNamed s.log

-- each end of a host is shown
abbrev pub AreShown : Site → Type 0
AreShown s = (e : HostEnd) → Has s.ends e → (own : End) × Shows s e own

-- the ends of connection x at a host
abbrev pub AreAllOf : Site → ℕ → (HostEnd → Type 0) → Type 0
AreAllOf s x P = (e : HostEnd) → Has s.ends e → e.connection ≡ x → P e

-- a datagram of connection x comes of the host that has its other end
abbrev pub ComesOf : Site → Happening → Site → ℕ → Type 0
ComesOf from (Delivers k answer) other x = (d : Logged) → slice_get from.log k ≡ Some d → d.connection ≡ x → from ≡ other
ComesOf from (Calls c) other x = Unit {0}

-- something happens at a host, of whose connection x this is the other one: how far its numbers have come is known, no stranger is at its
-- address, and what comes is of it, or of a host at another address
pub record IsJoined (w : Around) (from : Site) (what : Happening) (s other : Site) (x : ℕ) : Type 0 where
  pub numbers : w.numbers x ≡ numbers_of other x
  pub strangers : AreAllOf s x (λ e. (address : Addr) → w.is_host address ≡ false → IsElsewhere s e address)
  pub sender : (from ≡ other) ⊎ AreAllOf s x (λ e. IsElsewhere s e from.address)
  pub comes : ComesOf from what other x

kept-swapped : (j : Bool) (a b : End) → KeptEither j a b → KeptEither j b a
kept-swapped j a b (inl k) = inr k
kept-swapped j a b (inr k) = inl k

pub swapped : (j : Bool) (a b : Site) (x : ℕ) → Pair j a b x → Pair j b a x
swapped j a b x p = record { one = p.two; two = p.one; here = p.there; there = p.here; kept = kept-swapped j p.one p.two p.kept; word = p.word; one_word = p.two_word; two_word = p.one_word }

-- events keep it

kept-one : (j : Bool) (es : List Event) (own far new : End) → RunsAt es own far new → KeptBetween j (record { one = own; two = far }) → KeptBetween j (record { one = new; two = far })
kept-one j [] own far new r k = subst (λ (x : End). KeptBetween j (record { one = x; two = far })) r k
kept-one j (e ∷ es) own far new r k = kept-one j es r.0 far new r.2 (kept-event j One e (record { one = own; two = far }) (record { one = r.0; two = far }) (r.1, refl) k)

kept-two : (j : Bool) (es : List Event) (own far new : End) → RunsAt es own far new → KeptBetween j (record { one = far; two = own }) → KeptBetween j (record { one = far; two = new })
kept-two j [] own far new r k = subst (λ (x : End). KeptBetween j (record { one = far; two = x })) r k
kept-two j (e ∷ es) own far new r k = kept-two j es r.0 far new r.2 (kept-event j Two e (record { one = far; two = own }) (record { one = far; two = r.0 }) (r.1, refl) k)

kept-ran : (j : Bool) (es : List Event) (own far new : End) → RunsAt es own far new → KeptEither j own far → KeptEither j new far
kept-ran j es own far new r (inl k) = inl (kept-one j es own far new r k)
kept-ran j es own far new r (inr k) = inr (kept-two j es own far new r k)

word-ran : (w : ℕ) (es : List Event) (own far new : End) → IsWord w far → RunsAt es own far new → IsWord w own → IsWord w new
word-ran w [] own far new f r k = subst (IsWord w) r k
word-ran w (e ∷ es) own far new f r k = word-ran w es r.0 far new f r.2 (word-happens w own far r.0 e f k r.1)

-- what is shown from afar

pub end-none : (ends : List HostEnd) (x : ℕ) → ((e : HostEnd) → Has ends e → e.connection ≢ x) → end_of x ends ≡ None
end-none [] x none = refl
end-none (f ∷ ends) x none =
    ap (λ (b : Bool). cond b (Some f) (end_of x ends)) (let n : f.connection ≢ x = none f (inl refl) in let t : (f.connection == x) ≡ false = grind (arith, nat_tests) in t)
    ∙ end-none ends x (λ e h. none e (inr h))

-- a host that has no end of a connection put nothing out of it
pub nothing-of : (s : Site) (count x : ℕ) → IsHost s count → ((e : HostEnd) → Has s.ends e → e.connection ≢ x) → HasNothingOf x s
nothing-of s count x k none d h of = let l = k.logged d h in none l.0 l.1 (l.2 ∙ of)

pub far-shown : (s : Site) (count x : ℕ) (own : End) → IsHost s count → ShowsAt s x own → ShowsFar s x own
far-shown s count x own k (inl shown) = record {
  log = λ i d h of. shown.3.log i d h (of ∙ sym shown.2);
  greatest = λ channel low. ap (λ (l : List ℕ). greatest_at l channel) (ap numbers_in (subst (λ (n : ℕ). end_of n s.ends ≡ Some shown.0) shown.2 (end-there s.ends shown.0 shown.1 (k.apart shown.0 shown.1)))) ∙ shown.3.greatest channel low;
}
far-shown s count x own k (inr none) = record {
  log = λ i d h of. absurd (nothing-of s count x k none.0 d (Has-slice_get s.log i d h) of);
  greatest = λ channel low. ap (λ (l : List ℕ). greatest_at l channel) (ap numbers_in (end-none s.ends x none.0)) ∙ sym (reached-none channel 0) ∙ ap (sent_on channel) (sym none.1);
}

-- one connection goes on

begins-or : (xs : List HostEnd) (x : ℕ) → ((f : HostEnd) × Has xs f × (f.connection ≡ x)) ⊎ ((f : HostEnd) → Has xs f → f.connection ≢ x)
begins-or [] x = inr (λ f h. absurd h)
begins-or (y ∷ xs) x = by (same-or y.connection x) (begins-or xs x)
  where
    neither : y.connection ≢ x → ((f : HostEnd) → Has xs f → f.connection ≢ x) → (f : HostEnd) → (y ≡ f) ⊎ Has xs f → f.connection ≢ x
    neither n none f (inl e) = subst (λ (z : HostEnd). z.connection ≢ x) e n
    neither n none f (inr h) = none f h

    by : (y.connection ≡ x) ⊎ (y.connection ≢ x) → ((f : HostEnd) × Has xs f × (f.connection ≡ x)) ⊎ ((f : HostEnd) → Has xs f → f.connection ≢ x)
        → ((f : HostEnd) × Has (y ∷ xs) f × (f.connection ≡ x)) ⊎ ((f : HostEnd) → Has (y ∷ xs) f → f.connection ≢ x)
    by (inl e) r = inl (y, inl refl, e)
    by (inr n) (inl z) = inl (z.0, inr z.1, z.2)
    by (inr n) (inr z) = inr (neither n z)

-- of connections so far only that of a datagram that is brought begins
begins-by : (w : Around) (from old new : Site) (what : Happening) (x : ℕ) (other : Site) (two : End) → HappensAmong w from what old new → IsHost old w.count → IsHost other w.count → ComesOf from what other x
    → ((e : HostEnd) → Has old.ends e → e.connection ≢ x) → x < w.count → ShowsAt other x two → (f : HostEnd) → Has (more_of w.count from old new what) f → f.connection ≡ x → Begins two new f
begins-by w from old new (Calls (call.Connect address channels info word (Ok name))) x other two happens k ko comes none low there f (inl e) of =
    absurd (let same : w.count ≡ x = ap (λ (z : HostEnd). z.connection) e ∙ of in omega arith)
begins-by w from old new (Calls (call.Connect address channels info word (Ok name))) x other two happens k ko comes none low there f (inr h) of = absurd h
begins-by w from old new (Calls c) x other two happens k ko comes none low there f h of = absurd h
begins-by w from old new (Delivers i answer) x other two happens k ko comes none low there f h of = by (slice_get from.log i) refl happens h
  where
    by : (found : Option Logged) → slice_get from.log i ≡ found → BringsOne from found answer old new → Has (more_in from.address old new found) f → Begins two new f
    by None is brings y = absurd y
    by (Some d) is brings y =
        let b = begun-is d.connection from.address old.host new.host f y in
        let same : d.connection ≡ x = ap (λ (z : HostEnd). z.connection) (sym b.4) ∙ of in
        let shown : ShowsFar other d.connection two = subst (λ (n : ℕ). ShowsFar other n two) (sym same) (far-shown other w.count x two ko there) in
        answered i answer d from old new k.few brings is (subst (λ (n : ℕ). HasNothingOf n old) (sym same) (nothing-of old w.count x k none)) f y two (subst (λ (s : Site). ShowsFar s d.connection two) (sym (comes d is same)) shown)

-- what is around an end whose other end this host shows
faces : (w : Around) (from : Site) (what : Happening) (s other : Site) (e : HostEnd) (far : End) → IsJoined w from what s other e.connection → Has s.ends e → ShowsFar other e.connection far → Faces w s e far
faces w from what s other e far joins h shown = record {
  numbers = λ channel low. ap (λ (l : List ℕ). greatest_at l channel) joins.numbers ∙ shown.greatest channel low;
  strangers = joins.strangers e h refl;
}

between : (w : Around) (from : Site) (what : Happening) (s other : Site) (e : HostEnd) (far : End) → IsJoined w from what s other e.connection → Has s.ends e → ShowsFar other e.connection far → IsBetween from what s e far
between w from (Delivers k answer) s other e far joins h shown = elim joins.sender [ inl same ↦ inl (subst (λ (z : Site). ShowsFar z e.connection far) (sym same) shown) | inr away ↦ inr (away e h refl) ]
between w from (Calls c) s other e far joins h shown = tt

pub pair-goes : (j : Bool) (w : Around) (from old new : Site) (what : Happening) (other : Site) (x : ℕ) → HappensAmong w from what old new → IsHost old w.count → IsHost other w.count → AreNamed from.log → IsJoined w from what old other x → x < w.count
    → Pair j old other x → Pair j new other x
pair-goes j w from old new what other x happens k ko named joins low p = by p.here
  where
    g : Grows old new (more_of w.count from old new what)
    g = grows w from old new what happens

    none-after : ((e : HostEnd) → Has old.ends e → e.connection ≢ x) → ((f : HostEnd) → Has (more_of w.count from old new what) f → f.connection ≢ x) → (f : HostEnd) → Has new.ends f → f.connection ≢ x
    none-after none more f h of = elim (from-before old new (more_of w.count from old new what) g f h) [
      | inl e ↦ none e.0 e.1 (sym (g.connection e.0) ∙ ap (λ (z : HostEnd). z.connection) e.2 ∙ of)
      | inr m ↦ more f m of
    ]

    begin : (own : End) → own ≡ no_end → KeptEither j own p.two → IsWord p.word own → (f : HostEnd) → Has (more_of w.count from old new what) f → f.connection ≡ x → Begins p.two new f → Pair j new other x
    begin own is kept word f h of b = record {
      one = b.own;
      two = p.two;
      here = inl (f, begins-there old new (more_of w.count from old new what) g f h, of, b.shows);
      there = p.there;
      kept = kept-ran j (b.event ∷ []) no_end p.two b.own (b.own, b.answers, refl) (subst (λ (e : End). KeptEither j e p.two) is kept);
      word = p.word;
      one_word = word-happens p.word no_end p.two b.own b.event p.two_word (subst (IsWord p.word) is word) b.answers;
      two_word = p.two_word;
    }

    by : ShowsAt old x p.one → Pair j new other x
    by (inl shown) =
        let far : ShowsFar other shown.0.connection p.two = subst (λ (n : ℕ). ShowsFar other n p.two) (sym shown.2) (far-shown other w.count x p.two ko p.there) in
        let joined : IsJoined w from what old other shown.0.connection = subst (IsJoined w from what old other) (sym shown.2) joins in
        let goes : GoesOn p.one p.two new shown.0 =
        one-thing old k.few w from new what happens named shown.0 shown.1 (k.apart shown.0 shown.1) p.one p.two shown.3 (faces w from what old other shown.0 p.two joined shown.1 far) (between w from what old other shown.0 p.two joined shown.1 far) in
        record {
          one = goes.went.new;
          two = p.two;
          here = inl (goes.after, goes.there, goes.connection ∙ shown.2, goes.went.shows);
          there = p.there;
          kept = kept-ran j goes.went.events p.one p.two goes.went.new goes.went.runs p.kept;
          word = p.word;
          one_word = word-ran p.word goes.went.events p.one p.two goes.went.new p.two_word goes.went.runs p.one_word;
          two_word = p.two_word;
        }
    by (inr none) = elim (begins-or (more_of w.count from old new what) x) [
      | inl f ↦ begin p.one none.1 p.kept p.one_word f.0 f.1 f.2 (begins-by w from old new what x other p.two happens k ko joins.comes none.0 low p.there f.0 f.1 f.2)
      | inr more ↦ record { one = p.one; two = p.two; here = inr (none-after none.0 more, none.1); there = p.there; kept = p.kept; word = p.word; one_word = p.one_word; two_word = p.two_word }
    ]

-- a host goes on

-- the call that a thing is
pub acts-of : (w : Around) (from old new : Site) (c : Call) → HappensAmong w from (Calls c) old new → Acts c old.host new.host
acts-of w from old new (call.Connect address channels info word answer) x = x.1.0
acts-of w from old new (call.Submit name channel q answer) x = x.0
acts-of w from old new (call.Receive address bytes answer) x = x.1.0
acts-of w from old new (call.Service None buf) x = x.0
acts-of w from old new (call.Service (Some gave) buf) x = x.0
acts-of w from old new (call.Tick ms) x = x.0
acts-of w from old new (call.Disconnect mode name info answer) x = x.0
acts-of w from old new (call.SetBandwidth incoming outgoing answer) x = x.0
acts-of w from old new (call.ConfigureThrottle name interval acceleration deceleration answer) x = x.0
acts-of w from old new (call.SetPingInterval name ms answer) x = x.0
acts-of w from old new (call.SetTimeout name limit minimum maximum answer) x = x.0
acts-of w from old new (call.NextEvent answer) x = x.0
acts-of w from old new (call.Admit what answer) x = x.0
acts-of w from old new (call.SetSendLimit bytes commands) x = x.0

brought-acts : (from old new : Site) (answer : Received) (found : Option Logged) → BringsOne from found answer old new → (c : Call) × Acts c old.host new.host
brought-acts from old new answer None x = absurd x
brought-acts from old new answer (Some d) x = (call.Receive from.address d.text answer, x.1.0)

pub some-acts : (w : Around) (from old new : Site) (what : Happening) → HappensAmong w from what old new → (c : Call) × Acts c old.host new.host
some-acts w from old new (Calls c) x = (c, acts-of w from old new c x)
some-acts w from old new (Delivers k answer) x = brought-acts from old new answer (slice_get from.log k) x

-- its log grows by a datagram of one of its ends, or not
record LogsOne (old new : Site) : Type 0 where
  d : Logged
  logs : new.log ≡ old.log ++ d ∷ []
  own : HostEnd
  there : Has old.ends own
  of : own.connection ≡ d.connection
  named : (h : Header) (commands : List ℕ) → IsRead d.text h commands → d.peer ≡ h.peer

same-read : (text : List ℕ) (g h : Header) (c d : List ℕ) → IsRead text g c → IsRead text h d → g ≡ h
same-read text g h c d r s = let one = one_header r.front s.front c d g h r.spelled s.spelled (sym r.split ∙ s.split) in one.1

served-log : (b : Bool) (far : ℕ → List ℕ) (gave : PeerRef × Addr × ℕ) (buf : List ℕ) (old new : Site) → LogsIf b far (served_of gave buf) old new → (new.log ≡ old.log) ⊎ LogsOne old new
served-log true far gave buf old new x =
    let l : Logs far (served_of gave buf) old new = x in
    inr (record {
      d = record { connection = l.own.connection; to = gave.1; peer = l.header.peer; text = take gave.2 buf; marks = l.marks };
      logs = ap (λ (s : Site). s.log) l.rest;
      own = l.own;
      there = l.there;
      of = refl;
      named = λ h commands r. ap (λ (z : Header). z.peer) (same-read (take gave.2 buf) l.header h l.commands commands l.read r);
    })
served-log false far gave buf old new x = inl (let rest : new ≡ record old { host = new.host } = x in ap (λ (s : Site). s.log) rest)

calls-log : (w : Around) (from old new : Site) (c : Call) → HappensAmong w from (Calls c) old new → (new.log ≡ old.log) ⊎ LogsOne old new
calls-log w from old new (call.Connect address channels info word answer) x = inl (ap (λ (s : Site). s.log) x.1.1)
calls-log w from old new (call.Submit name channel q answer) x = inl (ap (λ (s : Site). s.log) x.1)
calls-log w from old new (call.Receive address bytes answer) x = inl (ap (λ (s : Site). s.log) x.1.1)
calls-log w from old new (call.Service None buf) x = inl (ap (λ (s : Site). s.log) x.1)
calls-log w from old new (call.Service (Some gave) buf) x = served-log (w.is_host gave.1) w.numbers gave buf old new x.1
calls-log w from old new (call.Tick ms) x = inl (ap (λ (s : Site). s.log) x.1)
calls-log w from old new (call.Disconnect mode name info answer) x = inl (ap (λ (s : Site). s.log) x.1)
calls-log w from old new (call.SetBandwidth incoming outgoing answer) x = inl (ap (λ (s : Site). s.log) x.1)
calls-log w from old new (call.ConfigureThrottle name interval acceleration deceleration answer) x = inl (ap (λ (s : Site). s.log) x.1)
calls-log w from old new (call.SetPingInterval name ms answer) x = inl (ap (λ (s : Site). s.log) x.1)
calls-log w from old new (call.SetTimeout name limit minimum maximum answer) x = inl (ap (λ (s : Site). s.log) x.1)
calls-log w from old new (call.NextEvent answer) x = inl (ap (λ (s : Site). s.log) x.1)
calls-log w from old new (call.Admit what answer) x = inl (ap (λ (s : Site). s.log) x.1)
calls-log w from old new (call.SetSendLimit bytes commands) x = inl (ap (λ (s : Site). s.log) x.1)

brought-log : (from old new : Site) (answer : Received) (found : Option Logged) → BringsOne from found answer old new → new.log ≡ old.log
brought-log from old new answer None x = absurd x
brought-log from old new answer (Some d) x = ap (λ (s : Site). s.log) x.1.1

log-grows : (w : Around) (from old new : Site) (what : Happening) → HappensAmong w from what old new → (new.log ≡ old.log) ⊎ LogsOne old new
log-grows w from old new (Calls c) x = calls-log w from old new c x
log-grows w from old new (Delivers k answer) x = inl (brought-log from old new answer (slice_get from.log k) x)

-- an end that begins has a name that no other has

-- nobody had it yet
pub record IsFresh (h : Host) (name : PeerRef) : Type 0 where
  pub slot : SlotState
  pub there : slice_get h.slots name.slot ≡ Some slot
  pub left : name.generation < h.config.generations
  pub future : (slot.generation < name.generation) ⊎ ((slot.generation ≡ name.generation) × (slot.peer ≡ None))

pub fresh-connected : (h : Host) (address : Addr) (channels info word : ℕ) (name : PeerRef) (answer : Result PeerRef Refusal) (slots after : List SlotState) → slots ≡ h.slots → Connects (host_basis h) slots (record { address = address; channels = channels; info = info; word = word }) answer after
    → answer ≡ Ok name → IsFresh h name
fresh-connected h address channels info word name answer slots after was (no_channel z) e = absurd (cc)
fresh-connected h address channels info word name answer slots after was (no_slot some none) e = absurd (cc)
fresh-connected h address channels info word name answer slots after was (no_memory i some free) e = absurd (cc)
fresh-connected h address channels info word name answer slots after was (asks i s some free there) e =
    let same : name_of i s ≡ name = (let y : ◌≡◌ {A = Result PeerRef Refusal} (Ok (name_of i s)) (Ok name) = e in cc) in
    let open' = is_open h.config slots i s free there in
    subst (IsFresh h) same (record { slot = s; there = ap (λ (xs : List SlotState). slice_get xs i) (sym was) ∙ there; left = open'.1; future = inr (refl, open'.0) })

pub kept-generation : (c : Call) (h : Host) (i : ℕ) (s t : SlotState) → s.peer ≡ None → isolation.Fares c (common_of h) i s t → t.generation ≡ s.generation
kept-generation c h i s t none (isolation.untouched fell not' e) = ap (λ (z : SlotState). z.generation) e
kept-generation c h i s t none (isolation.goes_on p q ds has fell alone no' e) = absurd (let y : ◌≡◌ {A = Option Peering} None (Some p) = sym none ∙ has in cc)
kept-generation c h i s t none (isolation.takes_over p q ds has fell alone gone left b) = absurd (let y : ◌≡◌ {A = Option Peering} None (Some p) = sym none ∙ has in cc)
kept-generation c h i s t none (isolation.begins vacant left b) = begun-generation c h i s t b

-- the name of a guest
pub fresh-seat : (h : Host) (from : Addr) (i : ℕ) (s : SlotState) → h.config.generations ≤ greatest → seat (host_basis h) from h.slots ≡ Some i → slice_get h.slots i ≡ Some s → IsFresh h (name_of i (readied s))
fresh-seat h from i s few at there = record {
  slot = s;
  there = there;
  left = readied-low h.config.generations s open';
  future = elim (readied-new h.config.generations s few open') [ inl same ↦ inr (sym same.1, same.0) | inr past ↦ inl past ];
}
  where
    open' : IsOpen h.config.generations s
    open' = seat-open (host_basis h) from h.slots i s at there

fresh-begun : (x : ℕ) (from : Addr) (old new : Host) (f : HostEnd) → old.config.generations ≤ greatest → Has (begun x from old new) f → IsFresh old f.name
fresh-begun x from old new f few h = (let g = guest x from old new f h in subst (λ (z : HostEnd). IsFresh old z.name) (sym g.is) (fresh-seat old from g.number g.before few g.at g.there))

pub fresh-more : (w : Around) (from old new : Site) (what : Happening) → old.host.config.generations ≤ greatest → HappensAmong w from what old new → (f : HostEnd) → Has (more_of w.count from old new what) f → IsFresh old.host f.name
fresh-more w from old new (Calls (call.Connect address channels info word (Ok name))) few x f (inl e) =
    subst (λ (z : HostEnd). IsFresh old.host z.name) e (fresh-connected old.host address channels info word name (Ok name) old.host.slots new.host.slots refl x.1.0.0 refl)
fresh-more w from old new (Calls (call.Connect address channels info word (Ok name))) few x f (inr h) = absurd h
fresh-more w from old new (Calls c) few x f h = absurd h
fresh-more w from old new (Delivers k answer) few x f h = by (slice_get from.log k) x h
  where
    by : (found : Option Logged) → BringsOne from found answer old new → Has (more_in from.address old new found) f → IsFresh old.host f.name
    by None y m = absurd y
    by (Some d) y m = fresh-begun d.connection from.address old.host new.host f few m

pub not-fresh : (h : Host) (e : HostEnd) (name : PeerRef) (p : Peering) → ShowsPeer h e.name p → IsFresh h name → name ≡ e.name → ⊥
not-fresh h e name p k f same = by (there-or h e.name p k)
  where
    g : IsFresh h e.name
    g = subst (IsFresh h) same f

    by : ((p.state ≢ state.Free) × IsThere h.slots e.name p) ⊎ ((p.state ≡ state.Free) × IsSpent h e.name) → ⊥
    by (inl live) =
        let x : IsThere h.slots e.name p = live.1 in
        let slot : x.slot ≡ g.slot = same-some x.slot g.slot (sym x.there ∙ g.there) in
        there (ap (λ (s : SlotState). s.generation) (sym slot) ∙ x.same) (ap (λ (s : SlotState). s.peer) (sym slot) ∙ x.peer) g.future
      where
        there : g.slot.generation ≡ e.name.generation → g.slot.peer ≡ Some p → (g.slot.generation < e.name.generation) ⊎ ((g.slot.generation ≡ e.name.generation) × (g.slot.peer ≡ None)) → ⊥
        there is has (inl low) = let a : g.slot.generation ≡ e.name.generation = is in let b : g.slot.generation < e.name.generation = low in omega arith
        there is has (inr none) = let z : ◌≡◌ {A = Option Peering} None (Some p) = sym none.1 ∙ has in absurd (cc)
    by (inr gone) =
        let x : IsSpent h e.name = gone.1 in
        let slot : x.slot ≡ g.slot = same-some x.slot g.slot (sym x.there ∙ g.there) in
        past x.slot slot x.past (reached g.future)
      where
        reached : (g.slot.generation < e.name.generation) ⊎ ((g.slot.generation ≡ e.name.generation) × (g.slot.peer ≡ None)) → g.slot.generation ≤ e.name.generation
        reached (inl low) = let a : g.slot.generation < e.name.generation = low in omega arith
        reached (inr same') = let a : g.slot.generation ≡ e.name.generation = same'.0 in omega arith

        past : (s : SlotState) → s ≡ g.slot → (e.name.generation < s.generation) ⊎ ((h.config.generations ≤ s.generation) × (s.peer ≡ None)) → g.slot.generation ≤ e.name.generation → ⊥
        past s is (inl low) r = let a : s.generation ≡ g.slot.generation = ap (λ (z : SlotState). z.generation) is in let b : g.slot.generation ≤ e.name.generation = r in let c : e.name.generation < s.generation = low in omega arith
        past s is (inr over) r =
            let a : s.generation ≡ g.slot.generation = ap (λ (z : SlotState). z.generation) is in
            let b : e.name.generation < h.config.generations = g.left in
            let d : g.slot.generation ≤ e.name.generation = r in
            let c : h.config.generations ≤ s.generation = over.0 in omega arith

-- each end of a host is shown
pub shown-end : (j : Bool) (s other : Site) (count : ℕ) (e : HostEnd) → IsHost s count → Has s.ends e → (p : Pair j s other e.connection) → Shows s e p.one
shown-end j s other count e k h p = by p.here
  where
    by : ShowsAt s e.connection p.one → Shows s e p.one
    by (inl shown) = subst (λ (z : HostEnd). Shows s z p.one) (k.apart e h shown.0 shown.1 (inr shown.2)) shown.3
    by (inr none) = absurd (none.0 e h refl)

-- at most one begins
one-begun : (x : ℕ) (from : Addr) (old new : Host) (f g : HostEnd) → Has (begun x from old new) f → Has (begun x from old new) g → f ≡ g
one-begun x from old new f g h k =
    let a = begun-is x from old new f h in
    let b = begun-is x from old new g k in
    let i : a.0 ≡ b.0 = same-some a.0 b.0 (sym a.2 ∙ b.2) in
    let s : a.1 ≡ b.1 = same-some a.1 b.1 (sym a.3 ∙ ap (λ (n : ℕ). slice_get new.slots n) i ∙ b.3) in
    a.4 ∙ (λ j. fresh_end x (name_of (i j) (s j))) ∙ sym b.4

one-more : (next : ℕ) (from old new : Site) (what : Happening) (f g : HostEnd) → Has (more_of next from old new what) f → Has (more_of next from old new what) g → f ≡ g
one-more next from old new (Calls (call.Connect address channels info word (Ok name))) f g (inl e) (inl h) = sym e ∙ h
one-more next from old new (Calls (call.Connect address channels info word (Ok name))) f g (inr e) h = absurd e
one-more next from old new (Calls (call.Connect address channels info word (Ok name))) f g (inl e) (inr h) = absurd h
one-more next from old new (Calls c) f g h k = absurd h
one-more next from old new (Delivers i answer) f g h k = by (slice_get from.log i) h k
  where
    by : (found : Option Logged) → Has (more_in from.address old new found) f → Has (more_in from.address old new found) g → f ≡ g
    by None a b = absurd a
    by (Some d) a b = one-begun d.connection from.address old.host new.host f g a b

-- what begins is of a connection of which the host had no end
new-connection : (next : ℕ) (from old new : Site) (what : Happening) → IsHost old next → BeginsOnce from old new what → (f : HostEnd) → Has (more_of next from old new what) f → (e : HostEnd) → Has old.ends e → e.connection ≡ f.connection → ⊥
new-connection next from old new (Calls (call.Connect address channels info word (Ok name))) k once f (inl is) e h same =
    let a : f.connection ≡ next = ap (λ (z : HostEnd). z.connection) (sym is) in let b : e.connection < next = k.below e h in absurd (let c : e.connection ≡ f.connection = same in omega arith)
new-connection next from old new (Calls (call.Connect address channels info word (Ok name))) k once f (inr is) e h same = absurd is
new-connection next from old new (Calls c) k once f is e h same = absurd is
new-connection next from old new (Delivers i answer) k once f is e h same = by (slice_get from.log i) refl is
  where
    by : (found : Option Logged) → slice_get from.log i ≡ found → Has (more_in from.address old new found) f → ⊥
    by None there m = absurd m
    by (Some d) there m =
        let b = begun-is d.connection from.address old.host new.host f m in
        once d there e h (same ∙ ap (λ (z : HostEnd). z.connection) b.4) f m

more-count : (next : ℕ) (from old new : Site) (what : Happening) → IsHost from next → (f : HostEnd) → Has (more_of next from old new what) f → f.connection < count_after next what
more-count next from old new (Calls (call.Connect address channels info word (Ok name))) ko f (inl is) = (let a : f.connection ≡ next = ap (λ (z : HostEnd). z.connection) (sym is) in let r : f.connection < next + 1 = omega arith in r)
more-count next from old new (Calls (call.Connect address channels info word (Ok name))) ko f (inr is) = absurd is
more-count next from old new (Calls c) ko f is = absurd is
more-count next from old new (Delivers i answer) ko f is = by (slice_get from.log i) refl is
  where
    by : (found : Option Logged) → slice_get from.log i ≡ found → Has (more_in from.address old new found) f → f.connection < next
    by None there m = absurd m
    by (Some d) there m =
        let b = begun-is d.connection from.address old.host new.host f m in
        let l = ko.logged d (Has-slice_get from.log i d there) in
        let a : f.connection ≡ d.connection = ap (λ (z : HostEnd). z.connection) b.4 in
        let c : l.0.connection ≡ d.connection = l.2 in
        let low : l.0.connection < next = ko.below l.0 l.1 in
        omega arith

pub count-grows : (next : ℕ) (what : Happening) → next ≤ count_after next what
count-grows next (Calls (call.Connect address channels info word (Ok name))) = let r : next ≤ next + 1 = omega arith in r
count-grows next (Calls c) = let r : next ≤ next = omega arith in r
count-grows next (Delivers k answer) = let r : next ≤ next = omega arith in r

pub host-goes : (w : Around) (from old new : Site) (what : Happening) → HappensAmong w from what old new → IsHost old w.count → IsHost from w.count → BeginsOnce from old new what → AreShown old → IsHost new (count_after w.count what)
host-goes w from old new what x k ko once shown = record {
  few = (let a = some-acts w from old new what x in let same : new.host.config.generations ≡ old.host.config.generations = same-generations a.0 old.host new.host a.1 in let low : old.host.config.generations ≤ greatest = k.few in omega arith);
  apart = λ e h f i same. apart-by e f (from-before old new more g e h) (from-before old new more g f i) same;
  below = λ e h. elim (from-before old new more g e h) [
    | inl b ↦ (let a : e.connection ≡ b.0.connection = ap (λ (z : HostEnd). z.connection) (sym b.2) ∙ g.connection b.0 in let low : b.0.connection < w.count = k.below b.0 b.1 in let up : w.count ≤ count_after w.count what = count-grows w.count what in omega arith)
    | inr m ↦ more-count w.count from old new what ko e m
  ];
  logged = λ d h. logged (log-grows w from old new what x) d h;
  named = λ d h. named (log-grows w from old new what x) d h;
}
  where
    more : List HostEnd
    more = more_of w.count from old new what

    g : Grows old new more
    g = grows w from old new what x

    -- an end of before and one that begins
    mixed : (b e : HostEnd) → Has old.ends b → Has more e → ((g.change b).name ≡ e.name) ⊎ ((g.change b).connection ≡ e.connection) → ⊥
    mixed b e h m (inl same) =
        let own = (shown b h).1 in
        not-fresh old.host b e.name own.peer own.shows (fresh-more w from old new what k.few x e m) (sym same ∙ g.name b)
    mixed b e h m (inr same) = new-connection w.count from old new what k once e m b h (sym (g.connection b) ∙ same)

    apart-by : (e f : HostEnd) → ((b : HostEnd) × Has old.ends b × (g.change b ≡ e)) ⊎ Has more e → ((c : HostEnd) × Has old.ends c × (g.change c ≡ f)) ⊎ Has more f → (f.name ≡ e.name) ⊎ (f.connection ≡ e.connection) → f ≡ e
    apart-by e f (inl b) (inl c) (inl same) =
        sym c.2 ∙ ap g.change (k.apart b.0 b.1 c.0 c.1 (inl (sym (g.name c.0) ∙ ap (λ (z : HostEnd). z.name) c.2 ∙ same ∙ ap (λ (z : HostEnd). z.name) (sym b.2) ∙ g.name b.0))) ∙ b.2
    apart-by e f (inl b) (inl c) (inr same) =
        sym c.2 ∙ ap g.change (k.apart b.0 b.1 c.0 c.1 (inr (sym (g.connection c.0) ∙ ap (λ (z : HostEnd). z.connection) c.2 ∙ same ∙ ap (λ (z : HostEnd). z.connection) (sym b.2) ∙ g.connection b.0))) ∙ b.2
    apart-by e f (inl b) (inr m) (inl same) = absurd (mixed b.0 f b.1 m (inl (ap (λ (z : HostEnd). z.name) b.2 ∙ sym same)))
    apart-by e f (inl b) (inr m) (inr same) = absurd (mixed b.0 f b.1 m (inr (ap (λ (z : HostEnd). z.connection) b.2 ∙ sym same)))
    apart-by e f (inr m) (inl c) (inl same) = absurd (mixed c.0 e c.1 m (inl (ap (λ (z : HostEnd). z.name) c.2 ∙ same)))
    apart-by e f (inr m) (inl c) (inr same) = absurd (mixed c.0 e c.1 m (inr (ap (λ (z : HostEnd). z.connection) c.2 ∙ same)))
    apart-by e f (inr m) (inr n) same = one-more w.count from old new what f e n m

    logged-old : (d : Logged) → Has old.log d → (e : HostEnd) × Has new.ends e × (e.connection ≡ d.connection)
    logged-old d h = let l = k.logged d h in (g.change l.0, stays-there old new more g l.0 l.1, g.connection l.0 ∙ l.2)

    logged : (new.log ≡ old.log) ⊎ LogsOne old new → (d : Logged) → Has new.log d → (e : HostEnd) × Has new.ends e × (e.connection ≡ d.connection)
    logged (inl same) d h = logged-old d (subst (λ (l : List Logged). Has l d) same h)
    logged (inr one) d h = elim (Has-push_cases old.log one.d d (subst (λ (l : List Logged). Has l d) one.logs h)) [
      | inl before ↦ logged-old d before
      | inr is ↦ (g.change one.own, stays-there old new more g one.own one.there, g.connection one.own ∙ one.of ∙ ap (λ (z : Logged). z.connection) is)
    ]

    named : (new.log ≡ old.log) ⊎ LogsOne old new → AreNamed new.log
    named (inl same) d h = k.named d (subst (λ (l : List Logged). Has l d) same h)
    named (inr one) d h = elim (Has-push_cases old.log one.d d (subst (λ (l : List Logged). Has l d) one.logs h)) [
      | inl before ↦ k.named d before
      | inr is ↦ subst (λ (z : Logged). (h : Header) (commands : List ℕ) → IsRead z.text h commands → z.peer ≡ h.peer) is one.named
    ]
