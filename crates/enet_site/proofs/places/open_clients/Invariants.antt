use Rattle.std.proofs.Common.{◌≡◌, ◌+◌, length, take, vec_len, vec_capacity}
use Rattle.law_network.specs.Places.{all_opened}
use Rattle.enet_site.proofs.places.open_clients.Given as goal

abbrev pub invariant-loop-i : goal.invariant-loop-i
invariant-loop-i l = record {
  items : l.places.items ≡ all_opened (λ i. record { ip = l.ip; port = l.first_port + i }) 0 (take l.i l.configs);
  len : vec_len l.places ≡ l.i;
  capacity : vec_capacity l.places ≡ length l.configs;
}
