use Rattle.std.proofs.Common.{List, sym, subst}
use Rattle.enet_slot.specs.declared.slot.Slot.{Slot}
use Rattle.enet_slot.specs.Slotted.{all_shown}
use Rattle.enet_sleepers.specs.Sleeping.{KeepsSleepers}
use Rattle.enet_host.proofs.ticking.pass_time.Goals as goal

pub settle-requires : goal.settle-requires
settle-requires c =
    subst (λ (xs : List Slot). KeepsSleepers c.args.start.now.clock c.advance.new.self (all_shown xs)) (sym c.deref.ensures.value)
    (c.share_if_due-shared_at.ensures.sleepers c.advance.new.self c.tick_awake.ensures.sleepers)
