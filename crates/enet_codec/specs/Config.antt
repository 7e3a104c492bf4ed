-- The settings of a host.
use Rattle.std.specs.Prelude.{ℕ, Bool, true, false, ◌&&◌, nat_le, Option, Some, None}
use Rattle.enet_codec.specs.declared.config.Admission.{Admission}
use Rattle.enet_codec.specs.declared.config.Admission.TheVariants as admission
use Rattle.enet_codec.specs.declared.config.Config.{Config}

-- The numbers of `Config::standard`.
abbrev pub standard_config : ℕ → ℕ → Config
standard_config peers channels = record {
  peers = peers;
  channels = channels;
  mtu = 1392;
  incoming = 0;
  outgoing = 0;
  max_packet = 33554432;
  max_waiting = 33554432;
  generations = 1000000;
  clock = 0;
  secret = None;
  gives_way = false;
  most = None;
  of_address = None;
}

-- Whether a number lies between two others, both included.
abbrev pub is_between : ℕ → ℕ → ℕ → Bool
is_between low high n = nat_le low n && nat_le n high

-- Whether a limit, if there is one, lets one peer in, and no more than there are slots.
abbrev pub is_limit_in_range : ℕ → Option ℕ → Bool
is_limit_in_range peers None = true
is_limit_in_range peers (Some most) = is_between 1 peers most

-- Whether each number is in its range.
abbrev pub is_in_range : Config → Bool
is_in_range c =
    is_between 1 4095 c.peers && is_between 1 255 c.channels && is_between 576 4096 c.mtu && is_between 1 33554432 c.max_packet
    && is_between 1 33554432 c.max_waiting && is_between 1 4294967295 c.generations && is_limit_in_range c.peers c.most
    && is_limit_in_range c.peers c.of_address

-- Whether this can be set of whom a host lets in, and the settings then.
abbrev pub is_admissible : Config → Admission → Bool
is_admissible c admission.GiveWay = true
is_admissible c (admission.Most peers) = is_between 1 c.peers peers
is_admissible c (admission.OfAddress peers) = is_between 1 c.peers peers

abbrev pub admitting : Config → Admission → Config
admitting c admission.GiveWay = record c { gives_way = true }
admitting c (admission.Most peers) = record c { most = Some peers }
admitting c (admission.OfAddress peers) = record c { of_address = Some peers }
