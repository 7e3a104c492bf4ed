-- How a service stands, kept as numbers in a row.
use Rattle.std.specs.Prelude.{ℕ, List, slice_index}
use Rattle.enet_metrics.specs.declared.reading.Standing.{Standing}

abbrev pub standing_in : List ℕ → Standing
standing_in numbers = record {
  peers = slice_index numbers 0;
  slots = slice_index numbers 1;
  free = slice_index numbers 2;
  spent = slice_index numbers 3;
  connecting = slice_index numbers 4;
  answering = slice_index numbers 5;
  connected = slice_index numbers 6;
  leaving = slice_index numbers 7;
  datagrams_in = slice_index numbers 8;
  bytes_in = slice_index numbers 9;
  datagrams_out = slice_index numbers 10;
  bytes_out = slice_index numbers 11;
  sends = slice_index numbers 12;
  resends = slice_index numbers 13;
  lost = slice_index numbers 14;
  passed_over = slice_index numbers 15;
  orders = slice_index numbers 16;
  events = slice_index numbers 17;
  in_transit = slice_index numbers 18;
  sent_again = slice_index numbers 19;
  queued = slice_index numbers 20;
  queued_most = slice_index numbers 21;
  dropped = slice_index numbers 22;
  beyond_share = slice_index numbers 23;
}
