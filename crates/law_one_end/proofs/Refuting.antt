-- What the law rules out.
use Rattle.std.proofs.Common.{◌≡◌, ◌≢◌, ℕ, ◌+◌, ◌%◌, ◌≤◌, true, false, List, [], ◌∷◌, ◌++◌, take, length, refl, sym, ap, subst, ◌∙◌, inl, inr, arith, Some}
use Rattle.std.specs.List.{concat, slice_get}
use Rattle.std.proofs.lemmas.List.{append-nil}
use Rattle.enet_fragment.specs.DataCommand.{piece_of}
use Rattle.enet_packets.specs.declared.incoming_packet.Dispatched.{Dispatched}
use Rattle.enet_receiver.specs.Members.{Has}
use Rattle.law_one_end.specs.OneEnd.{Heard}
use Rattle.law_one_end.specs.Carried.{Place, Brings, IsCarried, reliable_at, unreliable_at, AreCarried}
use Rattle.law_one_end.specs.Law.{HasNumber}
use Rattle.law_one_end.specs.Refuted.{CameElsewhere, IsRefused, IsNoEnds, command_of, command_at, packet_of}

-- the first piece of a packet that was carried
record First (came : List Heard) (channel : ℕ) (at : Place) (count : ℕ) (body : List ℕ) : Type 0 where
  bytes : List ℕ
  rest : List (List ℕ)
  heard : Heard
  there : Has came heard
  brings : Brings channel at count 0 bytes heard
  whole : bytes ++ concat rest ≡ body
  many : length rest + 1 ≡ count

first : (came : List Heard) (channel : ℕ) (at : Place) (count : ℕ) (body : List ℕ) → IsCarried came channel at count body → First came channel at count body
first came channel at count body h = by h.pieces h.many h.whole (λ bytes e. h.brought 0 bytes e)
  where
    by : (pieces : List (List ℕ)) → length pieces ≡ count → concat pieces ≡ body → ((bytes : List ℕ) → slice_get pieces 0 ≡ Some bytes → (x : Heard) × Has came x × Brings channel at count 0 bytes x) → First came channel at count body
    by [] many whole b = (let some' = h.some_piece in absurd (omega arith))
    by (p ∷ pieces) many whole b = (let x = b p refl in record { bytes = p; rest = pieces; heard = x.0; there = x.1; brings = x.2; whole = whole; many = (let m : length (p ∷ pieces) ≡ count = many in omega arith) })

no-flag : {A : Type 0} → true ≡ false → A
no-flag e = absurd (cc)

pub elsewhere : (came : List Heard) (d : Dispatched) (ds : List Dispatched) → CameElsewhere 0 came → IsRefused came (d ∷ ds)
elsewhere came d ds away (inl h) = (let f = first came 0 (reliable_at (0 + 1)) h.0 d.body h.1 in let b = f.brings in away f.heard f.there b.channel_is)
elsewhere came d ds away (inr h) = (let f = first came 0 (unreliable_at 0 h.0) h.1 d.body h.3 in let b = f.brings in away f.heard f.there b.channel_is)

only : (x h : Heard) → Has (x ∷ []) h → x ≡ h
only x h (inl e) = e
only x h (inr f) = absurd f

pub gap : IsRefused (command_of 2 7 ∷ []) (packet_of 7 ∷ [])
gap (inl h) =
    let f = first (command_of 2 7 ∷ []) 0 (reliable_at 1) h.0 (7 ∷ []) h.1 in
    let b = f.brings in
    let n : 2 ≡ (1 + 0) % 65536 = ap (λ (x : Heard). x.command.number) (only (command_of 2 7) f.heard f.there) ∙ b.number in
    omega arith
gap (inr h) = no-flag h.4

pub twice : IsRefused (command_of 1 7 ∷ []) (packet_of 7 ∷ packet_of 7 ∷ [])
twice (inl h) = by h.0 h.1 h.3
  where
    by : (count : ℕ) → IsCarried (command_of 1 7 ∷ []) 0 (reliable_at 1) count (7 ∷ []) → AreCarried (command_of 1 7 ∷ []) 0 (0 + count) 0 (packet_of 7 ∷ []) → ⊥
    by count c (inr k) = no-flag k.4
    by count c (inl k) =
        let f = first (command_of 1 7 ∷ []) 0 (reliable_at 1) count (7 ∷ []) c in
        let g = first (command_of 1 7 ∷ []) 0 (reliable_at (0 + count + 1)) k.0 (7 ∷ []) k.1 in
        let a = f.brings in
        let b = g.brings in
        let one : 1 ≡ count = ap (λ (x : Heard). (piece_of x.command).count) (only (command_of 1 7) f.heard f.there) ∙ a.count_is in
        let n : 1 ≡ (0 + count + 1 + 0) % 65536 = ap (λ (x : Heard). x.command.number) (only (command_of 1 7) g.heard g.there) ∙ b.number in
        omega arith
twice (inr h) = no-flag h.4

-- a packet of one piece has its bytes
alone : (bytes : List ℕ) (rest : List (List ℕ)) (body : List ℕ) → length rest + 1 ≡ 1 → bytes ++ concat rest ≡ body → bytes ≡ body
alone bytes [] body m e = sym (append-nil bytes) ∙ e
alone bytes (x ∷ rest) body m e = absurd (omega arith)

same-head : (a b : ℕ) → a ∷ [] ≡ b ∷ [] → a ≡ b
same-head a b e = cc

-- a command has one byte
no-byte : {A : Type 0} (a b : ℕ) → a ≢ b → a ∷ [] ≡ b ∷ [] → A
no-byte a b n e = absurd (n (same-head a b e))

seven : (a b : ℕ) → a ≡ 7 → b ≡ 8 → a ≢ b
seven a b x y e = (omega arith)

pub altered : IsRefused (command_of 1 7 ∷ []) (packet_of 8 ∷ [])
altered (inl h) =
    let f = first (command_of 1 7 ∷ []) 0 (reliable_at 1) h.0 (8 ∷ []) h.1 in
    let b = f.brings in
    let is : command_of 1 7 ≡ f.heard = only (command_of 1 7) f.heard f.there in
    let one : 1 ≡ h.0 = ap (λ (x : Heard). (piece_of x.command).count) is ∙ b.count_is in
    let bytes : 7 ∷ [] ≡ f.bytes = ap (λ (x : Heard). x.command.body) is ∙ b.bytes_are in
    let whole : f.bytes ≡ 8 ∷ [] = alone f.bytes f.rest (8 ∷ []) (f.many ∙ sym one) f.whole in
    no-byte 7 8 (seven 7 8 refl refl) (bytes ∙ whole)
altered (inr h) = no-flag h.4

pub swapped : IsRefused (command_of 1 7 ∷ command_of 2 8 ∷ []) (packet_of 8 ∷ packet_of 7 ∷ [])
swapped (inl h) =
    let f = first (command_of 1 7 ∷ command_of 2 8 ∷ []) 0 (reliable_at 1) h.0 (8 ∷ []) h.1 in
    by f.heard f.there f.bytes f.brings f.rest f.many f.whole
  where
    by : (x : Heard) → Has (command_of 1 7 ∷ command_of 2 8 ∷ []) x → (bytes : List ℕ) → Brings 0 (reliable_at 1) h.0 0 bytes x → (rest : List (List ℕ)) → length rest + 1 ≡ h.0 → bytes ++ concat rest ≡ 8 ∷ [] → ⊥
    by x (inl is) bytes b rest many whole =
        let one : 1 ≡ h.0 = ap (λ (x : Heard). (piece_of x.command).count) is ∙ b.count_is in
        let its : 7 ∷ [] ≡ bytes = ap (λ (x : Heard). x.command.body) is ∙ b.bytes_are in
        let all : bytes ≡ 8 ∷ [] = alone bytes rest (8 ∷ []) (many ∙ sym one) whole in
        no-byte 7 8 (seven 7 8 refl refl) (its ∙ all)
    by x (inr (inl is)) bytes b rest many whole =
        let n : 2 ≡ (1 + 0) % 65536 = ap (λ (x : Heard). x.command.number) is ∙ b.number in
        omega arith
    by x (inr (inr f)) bytes b rest many whole = absurd f
swapped (inr h) = no-flag h.4

-- where the receiver stood

pub passed-by : IsNoEnds (command_of 1 7 ∷ command_at 0 1 ∷ [])
passed-by e is h =
    let s = h.stood 1 (command_at 0 1) (ap (λ (l : List Heard). slice_get l 1) is) in
    let least : 1 ≤ 0 = s.least in
    omega arith

pub hurried : IsNoEnds (command_of 1 7 ∷ command_at 2 0 ∷ [])
hurried e is h =
    let s = h.stood 1 (command_at 2 0) (ap (λ (l : List Heard). slice_get l 1) is) in
    by (subst (λ (l : List Heard). HasNumber (take 1 l) 0 2) is (s.most 1 (omega arith)))
  where
    by : HasNumber (command_of 1 7 ∷ []) 0 2 → ⊥
    by x =
        let n : 1 ≡ 2 % 65536 = ap (λ (y : Heard). y.command.number) (only (command_of 1 7) x.0 x.1) ∙ x.4 in
        omega arith
