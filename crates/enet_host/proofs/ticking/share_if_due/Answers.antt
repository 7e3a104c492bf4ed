use Rattle.std.proofs.Common.{List, sym, subst}
use Rattle.std.specs.List.{count_by}
use Rattle.enet_slot.specs.Sharing.{is_standing}
use Rattle.enet_slot.specs.Slot.{SlotState}
use Rattle.enet_slot.specs.Slotted.{all_shown}
use Rattle.enet_sleepers.specs.Sleeping.{KeepsSleepers}
use Rattle.enet_host.proofs.Bringing.{keeps-shared}
use Rattle.enet_host.proofs.ticking.share_if_due.Goals as goal

pub returns-clause-sleepers : goal.returns-clause-sleepers
returns-clause-sleepers c = λ sleepers k.
    subst (λ (slots : List SlotState). KeepsSleepers c.args.start.now.clock sleepers slots) (sym c.share_out.ensures.slots)
    (keeps-shared c.args.start.now.clock c.args.start.now.config.outgoing (count_by is_standing (all_shown c.args.slots.now.items)) sleepers (all_shown c.args.slots.now.items) k)
