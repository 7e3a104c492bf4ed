-- A packet's bytes as far as they reach, and the zeros past them.
use Rattle.std.proofs.Common.{ℕ, ◌≡◌, ◌+◌, ◌-◌, ◌≤◌, List, [], ◌++◌, length, take, drop, sym, ap, ◌∙◌, arith, append_assoc}
use Rattle.std.proofs.Math.ListN.{replicate, length-replicate}
use Rattle.std.proofs.lemmas.List.{take-append-le, drop-append-le, length-append, append-nil, replicate-append-replicate, take_all}
use Rattle.enet_fragment.specs.Collected.{written_at}
use Rattle.enet_fragment.specs.Private.Assembly.{filled_up}
use Rattle.enet_fragment.proofs.Pieces.{length-written_at}

pub length-filled_up : (total : ℕ) (bytes : List ℕ) → length (filled_up total bytes) ≡ length bytes + (total - length bytes)
length-filled_up total bytes =
    length-append bytes (replicate (total - length bytes) 0) ∙ ap (λ n. length bytes + n) (length-replicate (total - length bytes) 0)

pub length-filled_within : (total : ℕ) (bytes : List ℕ) → length bytes ≤ total → length (filled_up total bytes) ≡ total
length-filled_within total bytes h = omega (arith, length-filled_up total bytes)

-- bytes that reach so far are left as they are
pub filled_up-long : (total : ℕ) (bytes : List ℕ) → total ≤ length bytes → filled_up total bytes ≡ bytes
filled_up-long total bytes h =
    let none : total - length bytes ≡ 0 = omega arith in
    ap (λ n. bytes ++ replicate n 0) none ∙ append-nil bytes

-- they may be filled up in two steps
filled_up-twice : (near far : ℕ) (bytes : List ℕ) → near ≤ far → filled_up far (filled_up near bytes) ≡ filled_up far bytes
filled_up-twice near far bytes h =
    let long : length (filled_up near bytes) ≡ length bytes + (near - length bytes) = length-filled_up near bytes in
    let rest : far - length (filled_up near bytes) ≡ far - length bytes - (near - length bytes) = omega arith in
    let both : near - length bytes + (far - length bytes - (near - length bytes)) ≡ far - length bytes = omega arith in
    ap (λ n. filled_up near bytes ++ replicate n 0) rest
    ∙ (append_assoc bytes (replicate (near - length bytes) 0) (replicate (far - length bytes - (near - length bytes)) 0)
    ∙ ap (λ r. bytes ++ r) (replicate-append-replicate (near - length bytes) (far - length bytes - (near - length bytes)) 0
    ∙ ap (λ n. replicate n 0) both))

-- what is written within the bytes doesn't reach what follows them
pub written_at-append : (at : ℕ) (new bytes more : List ℕ) → at + length new ≤ length bytes → written_at at new bytes ++ more ≡ written_at at new (bytes ++ more)
written_at-append at new bytes more h =
    let end = at + length new in
    append_assoc (take at bytes) (new ++ drop end bytes) more
    ∙ (ap (λ r. take at bytes ++ r) (append_assoc new (drop end bytes) more)
    ∙ (ap (λ r. take at bytes ++ (new ++ r)) (sym (drop-append-le end bytes more h))
    ∙ ap (λ r. r ++ (new ++ drop end (bytes ++ more))) (sym (take-append-le at bytes more (omega arith)))))

-- a piece that is written to the bytes as far as they reach is written to all of them
pub filled_up-written : (total at : ℕ) (new bytes : List ℕ) → at + length new ≤ total → filled_up total (written_at at new (filled_up (at + length new) bytes)) ≡ written_at at new (filled_up total bytes)
filled_up-written total at new bytes h =
    let end = at + length new in
    let near : List ℕ = filled_up end bytes in
    let long : length near ≡ length bytes + (end - length bytes) = length-filled_up end bytes in
    let same : length (written_at at new near) ≡ length near = length-written_at at new near (omega arith) in
    ap (λ n. written_at at new near ++ replicate (total - n) 0) same
    ∙ (written_at-append at new near (replicate (total - length near) 0) (omega arith)
    ∙ ap (λ b. written_at at new b) (filled_up-twice end total bytes h))

pub filled_up-none : (bytes : List ℕ) (total : ℕ) → bytes ≡ [] → filled_up total bytes ≡ replicate total 0
filled_up-none bytes total e =
    let all : total - 0 ≡ total = omega arith in
    ap (λ b. filled_up total b) e ∙ ap (λ n. replicate n 0) all

-- all of the bytes
pub take-filled : (total : ℕ) (bytes all : List ℕ) → filled_up total bytes ≡ all → length all ≡ total → take total (filled_up total bytes) ≡ all
take-filled total bytes all e h = ap (λ b. take total b) e ∙ take_all total all (omega arith)
