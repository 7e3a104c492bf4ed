use Rattle.enet_text.proofs.QuoteLemmas.{ahead-nothing, ahead-step}
use Rattle.enet_text.proofs.quotes.unquoted.Goals as goal

pub loop-byte-init : goal.loop-byte-init
loop-byte-init c = rw c.in_ok-bytes.ensures.items (ahead-nothing _)

pub loop-byte-preserved : goal.loop-byte-preserved
loop-byte-preserved c =
    ahead-step c.loop-byte.bytes.items c.push.new.self.items c.in-Some.byte _ _ _ c.loop-byte.invariant c.in-Some.ensures.reads c.in_ok-push.ensures.items
