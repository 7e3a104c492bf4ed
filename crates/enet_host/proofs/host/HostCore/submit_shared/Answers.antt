use Rattle.std.proofs.Common.{ℕ, Option, refl, ◌∙◌, ap}
use Rattle.std.specs.Option.{unwrap_or}
use Rattle.enet_codec.specs.declared.refusal.Refusal.{Refusal}
use Rattle.enet_codec.specs.declared.refusal.Refusal.TheVariants.{Memory}
use Rattle.enet_sender.specs.CommandChoice.{Packet}
use Rattle.enet_host.specs.Foretelling.{submission_refusal}
use Rattle.enet_host.proofs.Broadcasting.{refused-named}
use Rattle.enet_host.proofs.host.HostCore.submit_shared.Goals as goal

pub returns-in_default-clause-submits : goal.returns-in_default-clause-submits
returns-in_default-clause-submits c =
    let q : Packet = record { flags = c.args.packet.now.flags; body = c.args.packet.now.body } in (
      refused-named c.args.self.now.send_limit c.args.self.now.slots c.args.peer c.args.packet.now.channel q c.unwrap_or.result
          (c.unwrap_or.ensures ∙ ap (λ (o : Option Refusal). unwrap_or o Memory)
          (c.submission_refusal-refusal.ensures.refusal ∙ ap (λ (n : ℕ). submission_refusal c.args.self.now.send_limit c.args.self.now.slots c.args.peer c.args.packet.now.channel n) c.len.ensures.value)),
      refl,
    )
