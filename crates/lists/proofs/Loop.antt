-- A loop over the chunks of a list, each lent and handed back changed: where a chunk lies, the turn and the end.
-- Each holds by the laws of chunks changed one by one, since what comes back has the length of what was lent.
use mathlib.Core.Path.{◌≡◌, ◌∙◌}
use mathlib.Core.List.{List, ◌++◌}
use Prim.Native.Nat.{ℕ, ◌+◌, ◌-◌, ◌*◌, ◌≤◌, ◌<◌}
use native.Mathlib.Nat.{mul-le-mul_right}
use native.Mathlib.Omega.{arith}
use lib.ListN.{length, take, drop}
use Rattle.lists.specs.Chunks.{part, joined, each}
use Rattle.lists.proofs.Part.{room, KeepsEach}
use Rattle.lists.proofs.Each.{each-length, each_lent}
use Rattle.lists.proofs.Joined.{Sized, each_full}

module _ {A : Type 0} where
  -- l is n chunks of k elements, and f keeps the length of each
  pub record Chunked (k n : ℕ) (f : ℕ → List A → List A) (l : List A) : Type 0 where
    pub keeps : KeepsEach k n f
    pub whole : length l ≡ n * k

  -- out is l with the first j of its n chunks changed
  abbrev pub Passed : ℕ → ℕ → (ℕ → List A → List A) → List A → ℕ → List A → Type 0
  Passed k n f l j out = (j ≤ n) × (out ≡ each k j f l) × (length out ≡ length l)

  module _ {k n : ℕ} {f : ℕ → List A → List A} {l : List A} (c : Chunked k n f l) where
    pub chunk_in : {j : ℕ} → j < n → j * k + k ≤ length l
    chunk_in b = rw c.whole (room k b)

    -- the turn: chunk j was lent as `&mut out[j * k..e]` and came back as y
    pub chunk_turn : {j e : ℕ} {out y : List A} → Passed k n f l j out → j < n → j * k + k ≡ e → y ≡ f j (part (j * k) (e - j * k) out)
        → Passed k n f l (j + 1) (take (j * k) out ++ (y ++ drop (e - j * k) (drop (j * k) out)))
    chunk_turn {j} o b s q =
        let fit = mul-le-mul_right {m = j + 1} {n = n} k (omega arith) in
        let turn = each_lent k j f l (λ i w. c.keeps i (omega arith)) (omega (arith, chunk_in b)) o.1 s q in
        let same = each-length k (j + 1) f l (λ i w. c.keeps i (omega arith)) (omega (arith, fit, c.whole)) in
        (omega arith, turn, rw turn same)

    -- the end: every chunk is changed
    pub chunks_done : {j : ℕ} {out : List A} → Passed k n f l j out → n ≤ j → out ≡ each k n f l
    chunks_done {j} o b = let e : j ≡ n = omega arith in o.1 ∙ rw e

  -- lists of k elements written over the chunks, and the end
  module _ {k n : ℕ} {f : ℕ → List A} {l : List A} where
    pub over : Sized k n f → length l ≡ n * k → Chunked k n (λ i x. f i) l
    over sized w = record { keeps = λ i b x e. sized i b; whole = w }

    pub over_done : {j : ℕ} {out : List A} → Chunked k n (λ i x. f i) l → Passed k n (λ i x. f i) l j out → n ≤ j → out ≡ joined n f
    over_done c o b = chunks_done c o b ∙ each_full k n f l c.whole
