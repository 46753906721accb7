-- A group: 32 numbers in 16 bytes. The paper's Group, under Codes, and reply 7.
use Rattle.std.specs.Prelude.{ℕ, ◌+◌, ◌*◌, ◌/◌, ◌%◌, ◌^◌, Bool, cond, ◌&&◌, List, ◌++◌, leb, length, get_or, drop, Float}
use Rattle.lists.specs.Chunks.{tab}
use Rattle.numbers.specs.Word.{word}
use Rattle.numbers.specs.Code.{code4, read4}

-- byte i: the code of number i, plus 16 times the code of number i + 16
abbrev pub byte_at : List ℕ → Float → ℕ → ℕ
byte_at numbers scale i = code4 (get_or numbers i 0) scale + 16 * code4 (get_or numbers (i + 16) 0) scale

unfoldable pub packed : List ℕ → Float → List ℕ
packed numbers scale = tab 16 (byte_at numbers scale)

-- the code that begins at bit k of byte i, what it reads as, and those of all 16 bytes
abbrev pub code_at : ℕ → List ℕ → ℕ → ℕ
code_at k bytes i = get_or bytes i 0 / 2 ^ k % 16

abbrev pub group_number : ℕ → List ℕ → Float → ℕ → ℕ
group_number k bytes scale i = word (read4 (code_at k bytes i) scale)

unfoldable pub half : ℕ → List ℕ → Float → List ℕ
half k bytes scale = tab 16 (group_number k bytes scale)

-- numbers 0 to 15 lie in the low halves, 16 to 31 in the high ones
unfoldable pub unpacked : List ℕ → Float → List ℕ
unpacked bytes scale = half 0 bytes scale ++ half 4 bytes scale

-- at least 32 numbers and 16 bytes
unfoldable pub holds : ℕ → ℕ → Bool
holds numbers bytes = leb 32 numbers && leb 16 bytes

-- 0, or 7 where they are not there
unfoldable pub group_reply : List ℕ → List ℕ → ℕ
group_reply numbers bytes = cond (holds (length numbers) (length bytes)) 0 7

-- the bytes after packing and the numbers after unpacking: the first 16 and 32 written, the rest as it was; all of it where refused
unfoldable pub pack_into : List ℕ → Float → List ℕ → List ℕ
pack_into numbers scale bytes = cond (holds (length numbers) (length bytes)) (packed numbers scale ++ drop 16 bytes) bytes

unfoldable pub unpack_into : List ℕ → Float → List ℕ → List ℕ
unpack_into bytes scale numbers = cond (holds (length numbers) (length bytes)) (unpacked bytes scale ++ drop 32 numbers) numbers
