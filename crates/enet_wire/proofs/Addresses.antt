-- An address as the system has it gives the address back.
use Rattle.std.proofs.Common.{◌≡◌, ℕ, ◌<◌, ◌^◌, Some, ap, ◌∙◌}
use Rattle.std.specs.Int.{w32, from_be_bytes}
use Rattle.std.specs.declared.net.ipv4_addr.Ipv4Addr.{Ipv4Addr}
use Rattle.std.specs.declared.net.ip_addr.IpAddr.{IpAddr}
use Rattle.std.specs.declared.net.ip_addr.IpAddr.TheVariants.{V4}
use Rattle.std.specs.declared.net.socket_addr.SocketAddr.{SocketAddr}
use Rattle.std.specs.Net.Addr.{ipv4_bits, IsIpv4OfBits}
use Rattle.std.specs.Net.Socket.{socket_ip, socket_port}
use Rattle.std.proofs.lemmas.Nat.{from_be_bytes-to_be_bytes_4}
use Rattle.enet_codec.specs.declared.address.Addr.{Addr}
use Rattle.enet_wire.specs.Journals.{plain, plain_of}

bits-back : (ip : Ipv4Addr) (n : ℕ) → n < 2 ^ 32 → IsIpv4OfBits ip n → ipv4_bits ip ≡ n
unfolding IsIpv4OfBits ipv4_bits
bits-back ip n fits is = ap (from_be_bytes w32) is ∙ from_be_bytes-to_be_bytes_4 n fits

pub plain-back : (there : SocketAddr) (ip : Ipv4Addr) (addr : Addr) → addr.ip < 2 ^ 32 → IsIpv4OfBits ip addr.ip → socket_ip there ≡ V4 ip → socket_port there ≡ addr.port → plain there ≡ Some addr
plain-back there ip addr fits bits is port =
    ap (λ (x : IpAddr). plain_of x there) is ∙ (λ i. Some (record { ip = bits-back ip addr.ip fits bits i; port = port i }))
