-- What a table is fed of a key: the numbers alone. Keys with the same numbers and other constructors may fall together; they
-- are told apart by being compared.
use Rattle.std.specs.Prelude.{ℕ, [], ◌+◌, ◌*◌, ◌%◌, ◌^◌}
use Rattle.std.specs.Hash.{HashWrites, u32, usize}
use Rattle.spi_intern.specs.declared.messages.MsgPart.{MsgPart}
use Rattle.spi_intern.specs.declared.messages.MsgPart.TheVariants as parts
use Rattle.spi_intern.specs.declared.types.TyNode.{TyNode}
use Rattle.spi_intern.specs.declared.types.TyNode.TheVariants as nodes

-- two numbers as one, in 64 bits
abbrev pub mixed : ℕ → ℕ → ℕ
mixed a b = (a * 4294967296 % 2 ^ 64 + b) % 2 ^ 64

abbrev pub part_fed : MsgPart → HashWrites
part_fed (parts.Bound i) = u32 i
part_fed (parts.Name x) = u32 x
part_fed parts.Unit = []
part_fed (parts.Pair a b) = usize (mixed a.place b.place)
part_fed (parts.Inl a) = usize a.place
part_fed (parts.Inr a) = usize a.place
part_fed (parts.Enc a b) = usize (mixed a.place b.place)
part_fed (parts.Hash a) = usize a.place

abbrev pub node_fed : TyNode → HashWrites
node_fed nodes.Un = []
node_fed nodes.Unit = []
node_fed (nodes.Pair a b) = usize (mixed a.place b.place)
node_fed (nodes.Sum a b) = usize (mixed a.place b.place)
node_fed (nodes.Key a) = usize a.place
node_fed (nodes.Nonce e) = usize e
