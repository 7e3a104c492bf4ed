use Rattle.std.proofs.Common.{◌≡◌, ◌∙◌, [], ◌++◌, length, drop, ap, sym, ltb}
use Rattle.std.proofs.lemmas.Bool.{lt-ltb, le-ltb}
use Rattle.std.proofs.lemmas.List.{length-map, append-nil}
use Rattle.slab.specs.Slab.{get}
use Rattle.enet_sender.proofs.Counting.{or_first, or_second, left_by_count}
use Rattle.enet_sender.specs.Pending.{named}
use Rattle.enet_sender.specs.Rings.{rings_of, sender_of, commands_at, command_of}
use Rattle.enet_sender.proofs.Sending.{head-there, by_first}
use Rattle.enet_sender.proofs.Skipping.{some-named, first-there}
use Rattle.enet_sender.proofs.outgoing.Outgoing.left.Goals as goal

pub returns-then-self-gt0 : goal.returns-then-self-gt0
returns-then-self-gt0 c =
    let at = get c.args._pending.now.slab in
    let r = rings_of c.args.self.now in
    let packets : ltb 0 c.len.result ≡ ltb 0 (length (commands_at at r.queued)) =
    ap (λ n. ltb 0 n) (c.len.ensures ∙ c.args.self.now.queued.ok.0) ∙ some-named at r.queued (λ key is. head-there at r key (drop 1 r.queued) c.requires (by_first r.queued key is))
    ∙ ap (λ n. ltb 0 n) (sym (length-map (named at r.queued) command_of)) in
    left_by_count (sender_of at r) r.reliable _ _ c.requires.counted packets (or_first _ _ (lt-ltb _ _ c.if-self-gt0.true))

pub returns-else-self-gt0 : goal.returns-else-self-gt0
returns-else-self-gt0 c =
    let at = get c.args._pending.now.slab in
    let r = rings_of c.args.self.now in
    let packets : ltb 0 c.len.result ≡ ltb 0 (length (commands_at at r.queued)) =
    ap (λ n. ltb 0 n) (c.len.ensures ∙ c.args.self.now.queued.ok.0) ∙ some-named at r.queued (λ key is. head-there at r key (drop 1 r.queued) c.requires (by_first r.queued key is))
    ∙ ap (λ n. ltb 0 n) (sym (length-map (named at r.queued) command_of)) in
    let sent : ltb 0 c.len-else-self-gt0.result ≡ ltb 0 (length (named at r.sent)) =
    ap (λ n. ltb 0 n) (c.len-else-self-gt0.ensures ∙ c.args.self.now.sent.ok.0)
    ∙ some-named at r.sent (λ key is. first-there at r r.sent r.queued [] key c.requires (c.requires.first key is) (sym (append-nil (r.queued ++ r.sent))) is) in
    left_by_count (sender_of at r) r.reliable _ _ c.requires.counted packets (sent ∙ or_second _ _ (le-ltb _ _ c.if-self-gt0.false))
