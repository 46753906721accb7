-- Each byte of the word takes its turn, and its codes are those of the group.
use mathlib.Core.Path.{◌≡◌, refl}
use Prim.Native.Nat.{ℕ, ◌<◌}
use native.Mathlib.Omega.{arith}
use lib.ListN.{get_or}
use Rattle.lists.specs.Bytes.{from_little}
use Rattle.lists.specs.Chunks.{turns, part}
use Rattle.decode.proofs.DecodeLaws.{word_lent}
use Rattle.scores.proofs.WordLaws.{word_turn}
use Rattle.scores.proofs.words.lane_word.Goals as goal

pub loop-k-init : goal.loop-k-init
unfolding turns
loop-k-init c = refl

pub loop-k-preserved : goal.loop-k-preserved
loop-k-preserved c =
    let args = c.args in
    let bytes = args.bytes.now in
    let below : (n : ℕ) → get_or bytes n 0 < 256 = λ n. (c.type_inv.bytes n).fits in
    let word : c.word_of-word.result ≡ from_little (part args.i 4 bytes) = word_lent bytes args.i c.word_of-word.ensures (omega arith) in
    word_turn bytes args.i below args.query.now args.sum word c.loop-k.k (omega arith) c.loop-k.invariant c.lane_byte-next.ensures refl refl
