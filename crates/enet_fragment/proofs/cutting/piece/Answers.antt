use Rattle.std.proofs.Common.{◌≡◌, ◌-◌, ◌*◌, length, take, drop, min, ap, ◌∙◌, arith}
use Rattle.enet_fragment.specs.Cutting.{piece_count, piece_length}
use Rattle.enet_fragment.proofs.Cuts.{planned-some, span_bytes}
use Rattle.enet_fragment.proofs.cutting.piece.Goals as goal

pub returns-clause-bytes : goal.returns-clause-bytes
returns-clause-bytes c =
    let body = c.args.body.now in
    let piece = piece_length c.args.mtu in
    let same : c.piece_length-cut.result ≡ piece = c.piece_length-cut.ensures in
    let count : c.in_ok-count.count ≡ piece_count (length body) c.args.mtu =
    planned-some c.len.result c.args.mtu _ c.in_ok-count.ensures.value ∙ ap (λ n. piece_count n c.args.mtu) c.len.ensures.value in
    let size : c.min.result ≡ min piece (length body - c.args.i * piece) =
    c.min.ensures ∙ (ap (λ k. min k (c.len-2.result - c.args.i * k)) same ∙ ap (λ n. min piece (n - c.args.i * piece)) c.len-2.ensures.value) in
    ap (λ n. take n (drop (c.args.i * c.piece_length-cut.result) body)) size
    ∙ (ap (λ k. take (min piece (length body - c.args.i * piece)) (drop (c.args.i * k) body)) same
    ∙ span_bytes piece (piece_count (length body) c.args.mtu) body c.args.i (omega arith))
