-- Lists of packets of one channel, packet by packet.
use Rattle.std.proofs.Common.{◌≡◌, ℕ, List, ◌∷◌, inl, inr, refl, sym, ap, ◌∙◌}
use Rattle.enet_codec.specs.declared.packet.Packet.{Packet}
use Rattle.law_network.specs.Headline.{AreOn}

pub on-cons : (channel : ℕ) (p : Packet) (ps : List Packet) → p.channel ≡ channel → AreOn channel ps → AreOn channel (p ∷ ps)
on-cons channel p ps first rest q (inl same) = ap (λ (r : Packet). r.channel) (sym same) ∙ first
on-cons channel p ps first rest q (inr more) = rest q more

pub on-first : (channel : ℕ) (p : Packet) (ps : List Packet) → AreOn channel (p ∷ ps) → p.channel ≡ channel
on-first channel p ps h = h p (inl refl)

pub on-rest : (channel : ℕ) (p : Packet) (ps : List Packet) → AreOn channel (p ∷ ps) → AreOn channel ps
on-rest channel p ps h q has = h q (inr has)
