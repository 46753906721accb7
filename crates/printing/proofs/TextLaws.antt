-- How many bytes a line has at most.
-- A number has at most 20 digits, and a length at most 4; the rest are the line's own words.
use mathlib.Core.Path.{◌≡◌, refl}
use mathlib.Core.Bool.{Bool, true, false}
use mathlib.Core.List.{List, [], ◌∷◌}
use Prim.Native.Nat.{ℕ, suc, ◌*◌, ◌≤◌, ◌<◌}
use native.Mathlib.Omega.{arith}
use lib.Dec.{eqb}
use lib.ListN.{length, get_or, length-append}
use Rattle.printing.specs.Text.{answer_text_of, spaced, report_text_of, bad_text_of}
use Rattle.printing.proofs.DigitLaws.{decimal-length, small_length}

-- numbers of at most 4,096
abbrev pub Small : List ℕ → Type 0
Small ns = (i : ℕ) → i < length ns → get_or ns i 0 ≤ 4096

spaced_most : (ns : List ℕ) → Small ns → length (spaced ns) ≤ 5 * length ns
unfolding spaced
spaced_most [] s = omega arith
spaced_most (n ∷ ns) s =
    let a = small_length n (s 0 (omega arith)) in
    let b = spaced_most ns (λ i h. s (suc i) (omega arith)) in
    simp length-append (omega arith)

pub report_most : (seq bytes : ℕ) (lens : List ℕ) → Small lens → length lens ≤ 128 → length (report_text_of seq bytes lens) ≤ 700
unfolding report_text_of
report_most seq bytes lens s h =
    let a = decimal-length seq in
    let b = decimal-length bytes in
    let d = spaced_most lens s in
    simp length-append (omega arith)

pub bad_most : (n : ℕ) → length (bad_text_of n) ≤ 700
unfolding bad_text_of
bad_most n = let a = decimal-length n in simp length-append (omega arith)

answer_by : (n : ℕ) (t : Bool) → eqb n 0 ≡ t → length (answer_text_of n) ≤ 700
unfolding answer_text_of
answer_by n true e = rw e (omega arith)
answer_by n false e = let a = decimal-length n in rw e (simp length-append (omega arith))

pub answer_most : (n : ℕ) → length (answer_text_of n) ≤ 700
answer_most n = answer_by n _ refl
