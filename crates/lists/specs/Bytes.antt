-- Numbers as bytes, least significant byte first: how the paper's sections Shape and room and Call file store them.
use Rattle.std.specs.Prelude.{ℕ, ◌+◌, ◌*◌, ◌/◌, ◌%◌, ◌^◌, List, [], ◌∷◌}
use Rattle.lists.specs.Chunks.{tab}

-- the n bytes of a number, and the number of such bytes
unfoldable pub little : ℕ → ℕ → List ℕ
little n w = tab n (λ i. w / 256 ^ i % 256)

unfoldable pub from_little : List ℕ → ℕ
from_little [] = 0
from_little (byte ∷ bytes) = byte + 256 * from_little bytes
