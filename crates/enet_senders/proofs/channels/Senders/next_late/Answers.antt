use Rattle.std.proofs.Common.{ℕ, Bool, refl, sym, ap, ◌∙◌}
use Rattle.std.specs.List.{list_any}
use Rattle.enet_rtt.proofs.Waits.{same-in}
use Rattle.enet_sender.specs.Sender.{is_late}
use Rattle.enet_sender.specs.Due.{SendingEnd}
use Rattle.enet_senders.proofs.Made.{all_any}
use Rattle.enet_senders.proofs.channels.Senders.next_late.Goals as goal

pub returns : goal.returns
returns c =
    let i = c.self.inside in
    let one : ℕ → SendingEnd → Bool = λ (later : ℕ) (s : SendingEnd). list_any (is_late later) s.sender.sent in
    same-in (λ later. list_any (one later) i.made) (λ later. list_any (one later) c.args.self.now) c.args.now c.next_late.result
    (λ later. sym (all_any i.count i.made (one later) (λ n. refl)) ∙ ap (list_any (one later)) c.self.view_is) c.next_late.ensures
