-- What a byte reads as is right at each of the 256, which is one computation.
use Rattle.std.proofs.Common.{◌≡◌, ℕ, ◌<◌, List, get_or, pos, sym, refl, ap, ◌∙◌}
use lib.Ieee.{nan, binary32, minus, of_int, of_bits, sub}
use Rattle.lists.specs.Chunks.{tab}
use Rattle.lists.proofs.Tab.{tab-get_or}
use Rattle.numbers.specs.Word.{float, whole}

-- two tables that are equal are equal at each place
pub at_each : {A : Type 0} (n : ℕ) (d : A) (f g : ℕ → A) → tab n f ≡ tab n g → (i : ℕ) → i < n → f i ≡ g i
at_each {A} n d f g e i h = sym (tab-get_or n f i d h) ∙ ap (λ (l : List A). get_or l i d) e ∙ tab-get_or n g i d h

-- 1090519040 is the pattern of 8.0
pub less-8 : (code : ℕ) → code < 256 → sub binary32 (whole (pos code)) (float 1090519040) ≡ whole (minus code 8)
unfolding tab sub of_int of_bits
less-8 = at_each 256 nan (λ (n : ℕ). sub binary32 (whole (pos n)) (float 1090519040)) (λ (n : ℕ). whole (minus n 8)) refl
