-- How every fleet comes about.
use Rattle.std.specs.Prelude.{◌&&◌, nat_le, Bool, List, length}
use Rattle.std.specs.List.{list_all}
use Rattle.enet_codec.specs.declared.config.Config.{Config}
use Rattle.enet_codec.specs.Config.{is_in_range}

-- settings by which a fleet opens: all in range, and there are 1 to 4,095 clients
abbrev pub fit : Config → List Config → Bool
fit server clients = (is_in_range server && list_all is_in_range clients) && (nat_le 1 (length clients) && nat_le (length clients) 4095)
