-- By one event, and by a list of them, what a world keeps is what its transcript tells; so the headline is on it.
use Rattle.std.proofs.Common.{◌≡◌, ◌≢◌, ℕ, zero, suc, ◌+◌, ◌<◌, ◌⊎◌, inl, inr, ◌==◌, ◌&&◌, Bool, true, false, cond, List, [], ◌∷◌, ◌++◌, map, length, refl, sym, ap, subst, ◌∙◌, append-nil, arith, Option, Some, None, Result, Ok, Err, slice_get}
use Rattle.std.specs.Prelude.{zip}
use Rattle.std.proofs.lemmas.List.{length-append}
use Rattle.enet_codec.specs.declared.config.Config.{Config}
use Rattle.enet_codec.specs.declared.event.Event.{Event}
use Rattle.enet_codec.specs.declared.event.PeerRef.{PeerRef}
use Rattle.enet_codec.specs.declared.packet.Packet.{Packet}
use Rattle.enet_codec.specs.declared.refusal.Refusal.{Refusal}
use Rattle.enet_codec.specs.Config.{is_in_range}
use Rattle.law_connection.specs.LinkSteps.{Has}
use Rattle.law_connection.proofs.Lists.{Has-push}
use Rattle.law_network.specs.declared.event.Answer.{Answer}
use Rattle.law_network.specs.declared.event.Answer.TheVariants as answers
use Rattle.law_network.specs.declared.event.Side.{Side}
use Rattle.law_network.specs.declared.event.Side.TheVariants.{A, B}
use Rattle.law_network.specs.declared.event.WorldEvent.{WorldEvent}
use Rattle.law_network.specs.declared.event.WorldEvent.TheVariants as happen
use Rattle.law_network.specs.Headline as kept
use Rattle.law_network.specs.Headline.{HasHeadlineBetween}
use Rattle.law_network.specs.Network.{HostEnd, Site, fresh_end, end_of, is_same_name}
use Rattle.law_network.specs.Steps.{Around, Happening, HappensAmong, beside, count_after}
use Rattle.law_network.specs.World.{World, site_of, other, side_of, HappensAt, Makes, Steps, Runs, open_site, open_world}
use Rattle.law_network.proofs.Growing.{Grows, grows, more_of, stays-there}
use Rattle.law_network.proofs.Owned.{are-ends, none-held}
use Rattle.law_network.proofs.Running.{runs-push}
use Rattle.law_network.proofs.Runs.{Sound, sound-list, few-of, both}
use Rattle.law_network.proofs.Lists.{get-within}
use Rattle.law_network.proofs.Submitting.{same-some}
use Rattle.law_headline.specs.Kept.{submitted_by, taken_by, is_guest, IsRecorded, IsCovered}
use Rattle.law_headline.specs.Page.{IsInOrder, is_of}
use Rattle.law_headline.proofs.Page.{IsUsers, is-end, has-end, called, called-some, kept-by}
use Rattle.law_headline.proofs.Telling as telling
use Rattle.law_headline.proofs.Telling.{push, runs-on, get-either}
use Rattle.enet_world.specs.Transcript.{Happened, is_side, submits, takes, asks, submitted, taken, asked, user, named_at, IsOnTranscript}

-- ---- sides

same-side : (s t : Side) → is_side s t ≡ true → s ≡ t
same-side A A e = refl
same-side B B e = refl
same-side A B e = absurd (let z : false ≡ true = e in cc)
same-side B A e = absurd (let z : false ≡ true = e in cc)

is-side : (s : Side) → is_side s s ≡ true
is-side A = refl
is-side B = refl

other-side : (s t : Side) → is_side s t ≡ false → t ≡ other s
other-side A A e = absurd (let z : true ≡ false = e in cc)
other-side B B e = absurd (let z : true ≡ false = e in cc)
other-side A B e = refl
other-side B A e = refl

is-other : (s : Side) → is_side s (other s) ≡ false
is-other A = refl
is-other B = refl

-- a side of a world after something happened at another or the same one
stays-away : (m s : Side) (what : Happening) (w v : World) → HappensAt m what w v → is_side m s ≡ false → site_of v s ≡ site_of w s
stays-away m s what w v h e = subst (λ (t : Side). site_of v t ≡ site_of w t) (sym (other-side m s e)) h.there

-- ---- what one event adds

abbrev submits-all : Side → PeerRef → ℕ → Happened → List Packet
submits-all s q channel h = submits s q channel h.0 h.1

abbrev takes-all : Side → PeerRef → Happened → List Event
takes-all s q h = takes s q h.0 h.1

refused-submits : (s : Side) (q : PeerRef) (channel : ℕ) (event : WorldEvent) (why : Refusal) → submits s q channel event (Err why) ≡ []
refused-submits s q channel (happen.Submit m p number flags body) why = refl
refused-submits s q channel event why = refl

refused-takes : (s : Side) (q : PeerRef) (event : WorldEvent) (why : Refusal) → takes s q event (Err why) ≡ []
refused-takes s q (happen.Take m) why = refl
refused-takes s q event why = refl

refused-asks : (event : WorldEvent) (why : Refusal) → asks event (Err why) ≡ []
refused-asks (happen.Connect side channels info word) why = refl
refused-asks event why = refl

elsewhere-submits : (s : Side) (q : PeerRef) (channel : ℕ) (event : WorldEvent) (answer : Result Answer Refusal) → is_side (side_of event) s ≡ false → submits s q channel event answer ≡ []
elsewhere-submits s q channel (happen.Submit m p number flags body) (Ok answers.Done) away =
    ap (λ (b : Bool). cond (b && (is_same_name q p && number == channel)) ((record { channel = number; flags = flags; body = body }) ∷ []) []) away
elsewhere-submits s q channel event answer away = refl

elsewhere-takes : (s : Side) (q : PeerRef) (event : WorldEvent) (answer : Result Answer Refusal) → is_side (side_of event) s ≡ false → takes s q event answer ≡ []
elsewhere-takes s q (happen.Take m) (Ok (answers.Taken (Some event))) away = ap (λ (b : Bool). cond (b && is_of q event) (event ∷ []) []) away
elsewhere-takes s q event answer away = refl

record Adds (s : Side) (q : PeerRef) (event : WorldEvent) (answer : Answer) (what : Happening) : Type 0 where
  packets : (channel : ℕ) → submits s q channel event (Ok answer) ≡ submitted_by q channel what
  events : takes s q event (Ok answer) ≡ taken_by q what

adds-none : (s : Side) (q : PeerRef) (event : WorldEvent) (answer : Answer) (what is : Happening) → what ≡ is → ((channel : ℕ) → submits s q channel event (Ok answer) ≡ []) → takes s q event (Ok answer) ≡ []
    → ((channel : ℕ) → submitted_by q channel is ≡ []) → taken_by q is ≡ [] → Adds s q event answer what
adds-none s q event answer what is same a b c d = subst (Adds s q event answer) (sym same) (record { packets = λ channel. a channel ∙ sym (c channel); events = b ∙ sym d })

adds : (w : World) (event : WorldEvent) (answer : Answer) (what : Happening) → Makes w event answer what → (s : Side) (q : PeerRef) → is_side (side_of event) s ≡ true → Adds s q event answer what
adds w (happen.Connect side channels info word) (answers.Peer name) what m s q here = adds-none s q _ _ what _ m (λ channel. refl) refl (λ channel. refl) refl
adds w (happen.Submit side peer number flags body) answers.Done what m s q here = subst (Adds s q (happen.Submit side peer number flags body) answers.Done) (sym m) (record {
  packets = λ channel. ap (λ (b : Bool). cond (b && (is_same_name q peer && number == channel)) ((record { channel = number; flags = flags; body = body }) ∷ []) []) here;
  events = refl;
})
adds w (happen.Deliver side k) (answers.Received answer) what m s q here = adds-none s q _ _ what _ m (λ channel. refl) refl (λ channel. refl) refl
adds w (happen.Turn side) (answers.Sent None) what m s q here = adds-none s q _ _ what _ m.1 (λ channel. refl) refl (λ channel. refl) refl
adds w (happen.Turn side) (answers.Sent (Some k)) what m s q here = adds-none s q _ _ what _ m.2 (λ channel. refl) refl (λ channel. refl) refl
adds w (happen.Tick side ms) answers.Done what m s q here = adds-none s q _ _ what _ m (λ channel. refl) refl (λ channel. refl) refl
adds w (happen.Take side) (answers.Taken None) what m s q here = adds-none s q _ _ what _ m (λ channel. refl) refl (λ channel. refl) refl
adds w (happen.Take side) (answers.Taken (Some event)) what m s q here = subst (Adds s q (happen.Take side) (answers.Taken (Some event))) (sym m) (record {
  packets = λ channel. refl;
  events = ap (λ (b : Bool). cond (b && is_of q event) (event ∷ []) []) here;
})
adds w (happen.Disconnect side peer how info) answers.Done what m s q here = adds-none s q _ _ what _ m (λ channel. refl) refl (λ channel. refl) refl
adds w (happen.Admit side what') answers.Done what m s q here = adds-none s q _ _ what _ m (λ channel. refl) refl (λ channel. refl) refl
adds w (happen.SetSendLimit side bytes commands) answers.Done what m s q here = adds-none s q _ _ what _ m (λ channel. refl) refl (λ channel. refl) refl
adds w event answer what m s q here = absurd m

-- no stranger is there
brings-none : (w : World) (event : WorldEvent) (answer : Answer) (what : Happening) → Makes w event answer what → is_guest what ≡ false
brings-none w (happen.Connect side channels info word) (answers.Peer name) what m = ap is_guest m
brings-none w (happen.Submit side peer number flags body) answers.Done what m = ap is_guest m
brings-none w (happen.Deliver side k) (answers.Received answer) what m = ap is_guest m
brings-none w (happen.Turn side) (answers.Sent None) what m = ap is_guest m.1
brings-none w (happen.Turn side) (answers.Sent (Some k)) what m = ap is_guest m.2
brings-none w (happen.Tick side ms) answers.Done what m = ap is_guest m
brings-none w (happen.Take side) (answers.Taken event) what m = ap is_guest m
brings-none w (happen.Disconnect side peer how info) answers.Done what m = ap is_guest m
brings-none w (happen.Admit side what') answers.Done what m = ap is_guest m
brings-none w (happen.SetSendLimit side bytes commands) answers.Done what m = ap is_guest m
brings-none w event answer what m = absurd m

-- what begins, of an event that makes a call: by a Connect one connection, with this end
record Begins (w : World) (event : WorldEvent) (answer : Answer) (what : Happening) : Type 0 where
  count : count_after w.count what ≡ w.count + length (asks event (Ok answer))
  ends : (j : ℕ) (s : Side) (name : PeerRef) → slice_get (asks event (Ok answer)) j ≡ Some (s, name)
      → (j ≡ 0) × (side_of event ≡ s) × ((from old new : Site) → more_of w.count from old new what ≡ fresh_end w.count name ∷ [])

begins-none : (w : World) (event : WorldEvent) (answer : Answer) (what is : Happening) → what ≡ is → count_after w.count is ≡ w.count → asks event (Ok answer) ≡ [] → Begins w event answer what
begins-none w event answer what is same plain none = record {
  count = ap (count_after w.count) same ∙ plain ∙ (let long : length (asks event (Ok answer)) ≡ 0 = ap length none in omega arith);
  ends = λ j s name h. absurd (let e : ◌≡◌ {A = Option (Side × PeerRef)} None (Some (s, name)) = sym (ap (λ (l : List (Side × PeerRef)). slice_get l j) none) ∙ h in cc);
}

begins : (w : World) (event : WorldEvent) (answer : Answer) (what : Happening) → Makes w event answer what → Begins w event answer what
begins w (happen.Connect side channels info word) (answers.Peer given) what m = record {
  count = ap (count_after w.count) m;
  ends = first;
}
  where
    first : (j : ℕ) (s : Side) (name : PeerRef) → slice_get {X = Side × PeerRef} ((side, given) ∷ []) j ≡ Some (s, name)
        → (j ≡ 0) × (side ≡ s) × ((from old new : Site) → more_of w.count from old new what ≡ fresh_end w.count name ∷ [])
    first zero s name h = (let same : ◌≡◌ {A = Side × PeerRef} (side, given) (s, name) = same-some (side, given) (s, name) h in (
      refl,
      ap (λ (a : Side × PeerRef). a.0) same,
      λ from old new. ap (λ (h : Happening). more_of w.count from old new h) m ∙ ap (λ (a : Side × PeerRef). fresh_end w.count a.1 ∷ []) same,
    ))
    first (suc j) s name h = absurd (let e : ◌≡◌ {A = Option (Side × PeerRef)} None (Some (s, name)) = h in cc)
begins w (happen.Submit side peer number flags body) answers.Done what m = begins-none w _ _ what _ m refl refl
begins w (happen.Deliver side k) (answers.Received answer) what m = begins-none w _ _ what _ m refl refl
begins w (happen.Turn side) (answers.Sent None) what m = begins-none w _ _ what _ m.1 refl refl
begins w (happen.Turn side) (answers.Sent (Some k)) what m = begins-none w _ _ what _ m.2 refl refl
begins w (happen.Tick side ms) answers.Done what m = begins-none w _ _ what _ m refl refl
begins w (happen.Take side) (answers.Taken event) what m = begins-none w _ _ what _ m refl refl
begins w (happen.Disconnect side peer how info) answers.Done what m = begins-none w _ _ what _ m refl refl
begins w (happen.Admit side what') answers.Done what m = begins-none w _ _ what _ m refl refl
begins w (happen.SetSendLimit side bytes commands) answers.Done what m = begins-none w _ _ what _ m refl refl
begins w event answer what m = absurd m

-- ---- what is told of a world

-- the end of a connection at the side whose user asked for it
abbrev pub HasEndOf : World → ℕ → Side → PeerRef → Type 0
HasEndOf w x s name = (e : HostEnd) × Has (site_of w s).ends e × (e.connection ≡ x) × (e.name ≡ name)

pub record IsToldBy (hs : List Happened) (w : World) : Type 0 where
  pub each : (s : Side) → IsRecorded (λ q channel. submitted s q channel hs) (λ q. taken s q hs) (site_of w s)
  pub covered : (s : Side) → IsCovered (λ a. true) (λ q channel. submitted s q channel hs) (λ q. taken s q hs) (site_of w s)
  pub count_is : w.count ≡ length (asked hs)
  pub begun : (x : ℕ) (s : Side) (name : PeerRef) → slice_get (asked hs) x ≡ Some (s, name) → HasEndOf w x s name

pub end-stays : (m : Side) (what : Happening) (w v : World) → HappensAt m what w v → (x : ℕ) (s : Side) (name : PeerRef) → HasEndOf w x s name → HasEndOf v x s name
end-stays m what w v h x s name p = by (is_side m s) refl
  where
    old : Site
    old = site_of w m

    new : Site
    new = site_of v m

    grown : Grows old new (more_of w.count (site_of w (other m)) old new what)
    grown = grows (beside w.count (site_of w (other m))) (site_of w (other m)) old new what h.here

    here : HasEndOf w x m name → HasEndOf v x m name
    here q = (grown.change q.0, stays-there old new (more_of w.count (site_of w (other m)) old new what) grown q.0 q.1, grown.connection q.0 ∙ q.2, grown.name q.0 ∙ q.3)

    by : (b : Bool) → is_side m s ≡ b → HasEndOf v x s name
    by true e = (let is : m ≡ s = same-side m s e in subst (λ (t : Side). HasEndOf v x t name) is (here (subst (λ (t : Side). HasEndOf w x t name) (sym is) p)))
    by false e = (p.0, subst (λ (z : Site). Has z.ends p.0) (sym (stays-away m s what w v h e)) p.1, p.2, p.3)

begun-goes : (hs : List Happened) (w v : World) (event : WorldEvent) (answer : Answer) (what : Happening) → Makes w event answer what → HappensAt (side_of event) what w v → IsToldBy hs w
    → (x : ℕ) (s : Side) (name : PeerRef) → slice_get (asked (hs ++ (event, Ok answer) ∷ [])) x ≡ Some (s, name) → HasEndOf v x s name
begun-goes hs w v event answer what m h k x s name is =
    by (get-either (asked hs) (asks event (Ok answer)) x (s, name) (ap (λ (l : List (Side × PeerRef)). slice_get l x) (sym (push (λ (z : Happened). asks z.0 z.1) hs (event, Ok answer))) ∙ is))
  where
    old : Site
    old = site_of w (side_of event)

    new : Site
    new = site_of v (side_of event)

    far : Site
    far = site_of w (other (side_of event))

    grown : Grows old new (more_of w.count far old new what)
    grown = grows (beside w.count far) far old new what h.here

    at-side : ((from old new : Site) → more_of w.count from old new what ≡ fresh_end w.count name ∷ []) → HasEndOf v w.count (side_of event) name
    at-side more = (
      fresh_end w.count name,
      subst (λ (l : List HostEnd). Has l (fresh_end w.count name)) (sym (grown.ends ∙ ap (λ (l : List HostEnd). map grown.change old.ends ++ l) (more far old new))) (Has-push (map grown.change old.ends) (fresh_end w.count name)),
      refl,
      refl,
    )

    by : (slice_get (asked hs) x ≡ Some (s, name)) ⊎ ((j : ℕ) × (slice_get (asks event (Ok answer)) j ≡ Some (s, name)) × (x ≡ length (asked hs) + j)) → HasEndOf v x s name
    by (inl before) = end-stays (side_of event) what w v h x s name (k.begun x s name before)
    by (inr more) =
        let b = (begins w event answer what m).ends more.0 s name more.1 in
        let place : w.count ≡ x = (let long : w.count ≡ length (asked hs) = k.count_is in let first : more.0 ≡ 0 = b.0 in let e : x ≡ length (asked hs) + more.0 = more.2 in omega arith) in
        subst (λ (n : ℕ). HasEndOf v n s name) place (subst (λ (t : Side). HasEndOf v w.count t name) b.1 (at-side b.2))

told-step : (hs : List Happened) (w v : World) (event : WorldEvent) (answer : Result Answer Refusal) → Steps w event answer v → Sound (λ x. false) w → IsToldBy hs w → IsToldBy (hs ++ (event, answer) ∷ []) v
told-step hs w v event (Ok answer) r sound k = record { each = each; covered = covered; count_is = count; begun = begun-goes hs w v event answer r.0 r.1 r.2 k }
  where
    far : Site
    far = site_of w (other (side_of event))

    around : Around
    around = beside w.count far

    ends : (s : Side) → kept.AreEnds (λ a. true) (site_of w s)
    ends A = are-ends (λ a. true) w.a sound.owned_a
    ends B = are-ends (λ a. true) w.b sound.owned_b

    here : (s : Side) → is_side (side_of event) s ≡ true → HappensAmong around far r.0 (site_of w s) (site_of v s)
    here s e = subst (λ (t : Side). HappensAmong around far r.0 (site_of w t) (site_of v t)) (same-side (side_of event) s e) r.2.here

    each-by : (s : Side) (b : Bool) → is_side (side_of event) s ≡ b → telling.IsToldAt (submits-all s) (takes-all s) (hs ++ (event, Ok answer) ∷ []) (site_of v s)
    each-by s true e = telling.told-goes (submits-all s) (takes-all s) hs (event, Ok answer) around far (site_of w s) (site_of v s) r.0 (λ q channel. (adds w event answer r.0 r.1 s q e).packets channel)
        (λ q. (adds w event answer r.0 r.1 s q e).events) (here s e) (k.each s)
    each-by s false e = subst (λ (z : Site). telling.IsToldAt (submits-all s) (takes-all s) (hs ++ (event, Ok answer) ∷ []) z) (sym (stays-away (side_of event) s r.0 w v r.2 e))
        (telling.told-stays (submits-all s) (takes-all s) hs (event, Ok answer) (site_of w s) (λ q channel. elsewhere-submits s q channel event (Ok answer) e) (λ q. elsewhere-takes s q event (Ok answer) e) (k.each s))

    each : (s : Side) → telling.IsToldAt (submits-all s) (takes-all s) (hs ++ (event, Ok answer) ∷ []) (site_of v s)
    each s = each-by s (is_side (side_of event) s) refl

    covered-by : (s : Side) (b : Bool) → is_side (side_of event) s ≡ b → telling.IsCoveredAt (submits-all s) (takes-all s) (λ a. true) (hs ++ (event, Ok answer) ∷ []) (site_of v s)
    covered-by s true e = telling.covered-goes (submits-all s) (takes-all s) hs (event, Ok answer) around far (site_of w s) (site_of v s) r.0 (λ q channel. (adds w event answer r.0 r.1 s q e).packets channel)
        (λ q. (adds w event answer r.0 r.1 s q e).events) (here s e) (brings-none w event answer r.0 r.1) refl (ends s) (k.covered s)
    covered-by s false e = subst (λ (z : Site). telling.IsCoveredAt (submits-all s) (takes-all s) (λ a. true) (hs ++ (event, Ok answer) ∷ []) z) (sym (stays-away (side_of event) s r.0 w v r.2 e))
        (telling.covered-stays (submits-all s) (takes-all s) (λ a. true) hs (event, Ok answer) (site_of w s) (λ q channel. elsewhere-submits s q channel event (Ok answer) e) (λ q. elsewhere-takes s q event (Ok answer) e) (k.covered s))

    covered : (s : Side) → telling.IsCoveredAt (submits-all s) (takes-all s) (λ a. true) (hs ++ (event, Ok answer) ∷ []) (site_of v s)
    covered s = covered-by s (is_side (side_of event) s) refl

    count : v.count ≡ length (asked (hs ++ (event, Ok answer) ∷ []))
    count =
        let now : v.count ≡ count_after w.count r.0 = r.2.count in
        let more : count_after w.count r.0 ≡ w.count + length (asks event (Ok answer)) = (begins w event answer r.0 r.1).count in
        let before : w.count ≡ length (asked hs) = k.count_is in
        let long : length (asked (hs ++ (event, Ok answer) ∷ [])) ≡ length (asked hs) + length (asks event (Ok answer)) =
        ap length (push (λ (z : Happened). asks z.0 z.1) hs (event, Ok answer)) ∙ length-append (asked hs) (asks event (Ok answer)) in
        omega arith
told-step hs w v event (Err why) r sound k = subst (IsToldBy (hs ++ (event, Err why) ∷ [])) (sym r.1) (record {
  each = λ s. telling.told-stays (submits-all s) (takes-all s) hs (event, Err why) (site_of w s) (λ q channel. refused-submits s q channel event why) (λ q. refused-takes s q event why) (k.each s);
  covered = λ s. telling.covered-stays (submits-all s) (takes-all s) (λ a. true) hs (event, Err why) (site_of w s) (λ q channel. refused-submits s q channel event why) (λ q. refused-takes s q event why) (k.covered s);
  count_is = k.count_is ∙ ap length (sym same);
  begun = λ x s name is. k.begun x s name (ap (λ (l : List (Side × PeerRef)). slice_get l x) (sym same) ∙ is);
})
  where
    same : asked (hs ++ (event, Err why) ∷ []) ≡ asked hs
    same = push (λ (z : Happened). asks z.0 z.1) hs (event, Err why) ∙ ap (λ (l : List (Side × PeerRef)). asked hs ++ l) (refused-asks event why) ∙ append-nil (asked hs)

-- at first
open-told : (a b : Config) → (is_in_range a && is_in_range b) ≡ true → IsToldBy [] (open_world a b)
open-told a b fits = record {
  each = recorded;
  covered = covered;
  count_is = refl;
  begun = λ x s name h. absurd (let e : ◌≡◌ {A = Option (Side × PeerRef)} None (Some (s, name)) = h in cc);
}
  where
    in-range : (is_in_range a ≡ true) × (is_in_range b ≡ true)
    in-range = both (is_in_range a) (is_in_range b) fits

    recorded-at : (s : Side) (side : Side) (c : Config) → is_in_range c ≡ true → IsRecorded (λ q channel. submitted s q channel []) (λ q. taken s q []) (open_site side c)
    recorded-at s side c fit = record { few = few-of c fit; ends = λ e h. absurd h; unborn = λ name u. (λ channel. refl, refl) }

    recorded : (s : Side) → IsRecorded (λ q channel. submitted s q channel []) (λ q. taken s q []) (site_of (open_world a b) s)
    recorded A = recorded-at A A a in-range.0
    recorded B = recorded-at B B b in-range.1

    covered-at : (s : Side) (side : Side) (c : Config) → IsCovered (λ a. true) (λ q channel. submitted s q channel []) (λ q. taken s q []) (open_site side c)
    covered-at s side c = record { hosts = λ i t p there has. absurd (none-held c.peers i t p there has); ends = λ name some. absurd (elim some [ inl h ↦ h.1 refl | inr h ↦ h refl ]) }

    covered : (s : Side) → IsCovered (λ a. true) (λ q channel. submitted s q channel []) (λ q. taken s q []) (site_of (open_world a b) s)
    covered A = covered-at A A a
    covered B = covered-at B B b

-- a run so far, of which all that is known of worlds holds
record Reached (a b : Config) (hs : List Happened) (w : World) : Type 0 where
  events : List WorldEvent
  given : List (Result Answer Refusal)
  runs : Runs (open_world a b) events given w
  told : IsToldBy hs w

pub each-told : (a b : Config) → (is_in_range a && is_in_range b) ≡ true → (events : List WorldEvent) (given : List (Result Answer Refusal)) (w : World) → Runs (open_world a b) events given w → IsToldBy (zip events given) w
each-told a b fits events given w r =
    (runs-on Steps (Reached a b) step events given [] (open_world a b) w r (record { events = []; given = []; runs = refl; told = open-told a b fits })).told
  where
    step : (hs : List Happened) (w v : World) (e : WorldEvent) (x : Result Answer Refusal) → Steps w e x v → Reached a b hs w → Reached a b (hs ++ (e, x) ∷ []) v
    step hs w v e x s k = record {
      events = k.events ++ e ∷ [];
      given = k.given ++ x ∷ [];
      runs = runs-push Steps (open_world a b) k.events k.given w v e x k.runs s;
      told = told-step hs w v e x s (sound-list a b fits k.events k.given w k.runs) k.told;
    }

-- ---- the headline

-- the name of a connection's peer at the side whose user didn't ask for it
abbrev pub here_by : World → ℕ → Option (Side × PeerRef) → Option PeerRef
here_by w x None = None
here_by w x (Some a) = called (end_of x (site_of w (other a.0)).ends)

-- the page, with the names that the ends have in the end
abbrev pub IsOn : World → List Happened → Type 0
IsOn w hs = (t : IsOnTranscript hs) × ((x : ℕ) → t.here x ≡ here_by w x (slice_get (asked hs) x))

pub on-transcript : (w : World) (hs : List Happened) → Sound (λ x. false) w → kept.HasHeadline false w → IsToldBy hs w → IsOn w hs
on-transcript w hs sound k told = (record { here = here; each = each; apart = apart; all = all }, λ x. refl)
  where
    is-user : (s : Side) → IsUsers (λ a. true) (user hs s) (site_of w s)
    is-user s = record { recorded = told.each s; headline = k.hosts s; covered = λ quiet. told.covered s }

    below : (s : Side) (e : HostEnd) → Has (site_of w s).ends e → e.connection < w.count
    below A e h = sound.a.below e h
    below B e h = sound.b.below e h

    here : ℕ → Option PeerRef
    here x = here_by w x (slice_get (asked hs) x)

    here-is : (x : ℕ) (a : Side × PeerRef) → slice_get (asked hs) x ≡ Some a → here x ≡ called (end_of x (site_of w (other a.0)).ends)
    here-is x a is = ap (here_by w x) is

    flipped : (one two : Option HostEnd) → HasHeadlineBetween one two → HasHeadlineBetween two one
    flipped one two h = record { forth = h.back; back = h.forth; unsequenced_forth = h.unsequenced_back; unsequenced_back = h.unsequenced_forth }

    between : (x : ℕ) (s : Side) → HasHeadlineBetween (end_of x (site_of w s).ends) (end_of x (site_of w (other s)).ends)
    between x A = k.ends x
    between x B = flipped (end_of x w.a.ends) (end_of x w.b.ends) (k.ends x)

    is-one : (s : Side) (x : ℕ) (e : HostEnd) → Has (site_of w s).ends e → e.connection ≡ x → end_of x (site_of w s).ends ≡ Some e
    is-one s x e h c = subst (λ (n : ℕ). end_of n (site_of w s).ends ≡ Some e) c ((k.hosts s).only e h)

    each : (x : ℕ) (s : Side) (there : PeerRef) → slice_get (asked hs) x ≡ Some (s, there) → IsInOrder (user hs s) (user hs (other s)) there (here x)
    each x s there is =
        let b = told.begun x s there is in
        let far : Option HostEnd = end_of x (site_of w (other s)).ends in
        let ends : HasHeadlineBetween (Some b.0) far = subst (λ (o : Option HostEnd). HasHeadlineBetween o far) (is-one s x b.0 b.1 b.2) (between x s) in
        subst (λ (o : Option PeerRef). IsInOrder (user hs s) (user hs (other s)) there o) (sym (here-is x (s, there) is))
        (subst (λ (p : PeerRef). IsInOrder (user hs s) (user hs (other s)) p (called far)) b.3
        (kept-by (user hs s) (user hs (other s)) b.0 far (is-end (λ a. true) (user hs s) (site_of w s) (is-user s) b.0 b.1)
        (λ t at. is-end (λ a. true) (user hs (other s)) (site_of w (other s)) (is-user (other s)) t (has-end x (site_of w (other s)).ends t at).0) ends))

    -- the end of a connection that has this name at a side
    end-named : (x : ℕ) (a : Side × PeerRef) (s : Side) (p : PeerRef) → slice_get (asked hs) x ≡ Some a → named_at s a (here x) ≡ Some p → HasEndOf w x s p
    end-named x a s p is name = by (is_side a.0 s) refl name
      where
        by : (b : Bool) → is_side a.0 s ≡ b → cond b (Some a.1) (here x) ≡ Some p → HasEndOf w x s p
        by true e n =
            let q = told.begun x a.0 a.1 is in
            let same : a.1 ≡ p = same-some a.1 p n in
            subst (λ (t : Side). HasEndOf w x t p) (same-side a.0 s e) (q.0, q.1, q.2, q.3 ∙ same)
        by false e n =
            let c = called-some (end_of x (site_of w (other a.0)).ends) p (sym (here-is x a is) ∙ n) in
            let has = has-end x (site_of w (other a.0)).ends c.0 c.1 in
            subst (λ (t : Side). HasEndOf w x t p) (sym (other-side a.0 s e)) (c.0, has.0, has.1, c.2)

    apart : (x y : ℕ) (a b : Side × PeerRef) (s : Side) (p : PeerRef) → slice_get (asked hs) x ≡ Some a → slice_get (asked hs) y ≡ Some b
        → named_at s a (here x) ≡ Some p → named_at s b (here y) ≡ Some p → x ≡ y
    apart x y a b s p one two n m =
        let e = end-named x a s p one n in
        let f = end-named y b s p two m in
        let same : e.0 ≡ f.0 = (k.hosts s).named e.0 f.0 e.1 f.1 (e.3 ∙ sym f.3) in
        sym e.2 ∙ ap (λ (z : HostEnd). z.connection) same ∙ f.2

    named-of : (s : Side) (e : HostEnd) → Has (site_of w s).ends e → (a : Side × PeerRef) → slice_get (asked hs) e.connection ≡ Some a → named_at s a (here e.connection) ≡ Some e.name
    named-of s e h a is = by (is_side a.0 s) refl
      where
        by : (b : Bool) → is_side a.0 s ≡ b → cond b (Some a.1) (here e.connection) ≡ Some e.name
        by true t =
            let q = told.begun e.connection a.0 a.1 is in
            let at-side : Has (site_of w s).ends q.0 = subst (λ (z : Side). Has (site_of w z).ends q.0) (same-side a.0 s t) q.1 in
            let same : q.0 ≡ e = same-some q.0 e (sym (is-one s e.connection q.0 at-side q.2) ∙ (k.hosts s).only e h) in
            ap (λ (n : PeerRef). Some n) (sym q.3 ∙ ap (λ (z : HostEnd). z.name) same)
        by false t = here-is e.connection a is ∙ ap called (subst (λ (z : Side). end_of e.connection (site_of w z).ends ≡ Some e) (other-side a.0 s t) ((k.hosts s).only e h))

    all : (s : Side) (p : PeerRef) → (user hs s).taken p ≢ [] → (x : ℕ) × (a : Side × PeerRef) × (slice_get (asked hs) x ≡ Some a) × (named_at s a (here x) ≡ Some p)
    all s p some =
        let e = (told.covered s).ends p (inr some) in
        let low : e.0.connection < length (asked hs) = (let l : e.0.connection < w.count = below s e.0 e.1 in let n : w.count ≡ length (asked hs) = told.count_is in omega arith) in
        let a = get-within (asked hs) e.0.connection low in
        (e.0.connection, a.0, a.1, named-of s e.0 e.1 a.0 a.1 ∙ ap (λ (q : PeerRef). Some q) e.2)
