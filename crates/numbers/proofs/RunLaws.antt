-- The scale of a run of zeros and NaNs, of one with an infinity, and of one whose largest magnitude is a few smallest subnormals: once over the divisor.
use Rattle.std.proofs.Common.{◌≡◌, ℕ, zero, suc, ◌-◌, ◌*◌, ◌/◌, ◌^◌, ◌<◌, ◌≤◌, Bool, true, false, T, leb, List, [], ◌∷◌, pos, sym, refl, ap, ◌∙◌, inl, inr, lt_of_le_of_lt, zero-lt-suc, mul-pos, zero-mul, mul-one, div-le_self, arith, ne_eqb}
use lib.Dec.{eqb-suc-zero}
use lib.Ieee.{Float, nan, inf, fin, binary32, up, down, size, odd, units, round, lt, eq, div, of_bits, of_int}
use lib.Ieee.Back.{round_whole}
use lib.Ieee.Digits.{size-le}
use lib.Ieee.Exact.{HasValue}
use lib.Ieee.Fits.{core, round_is, up_pos, down_pos}
use lib.Ieee.Nearest.{closest, closest_same, closest_mono, div_same}
use Rattle.numbers.specs.Word.{float, whole}
use Rattle.numbers.specs.Scale.{magnitude, larger, largest_from, largest, scale_of}
use Rattle.numbers.specs.Kind.{InfWord, BlankWord, All, Any}
use Rattle.numbers.proofs.KindLaws.{Blank, blank_word, inf_word}
use Rattle.numbers.proofs.ValueLaws.{few_value}
use Rattle.numbers.proofs.Rounding.{Near, closest_near}
use Rattle.numbers.proofs.ScaleLaws.{plain, larger_plain, no_product, scale_one, scale_divided}

-- beside 0 neither a zero nor a NaN is larger
larger_blank : (x : Float) → Blank x → larger (fin false 0 (pos 0)) (magnitude x) ≡ fin false 0 (pos 0)
unfolding larger magnitude lt
larger_blank nan b = refl
larger_blank (inf s) b = absurd b
larger_blank (fin s m e) b = rw (b, zero-mul (down e), zero-mul (up e))

blank_largest : (run : List ℕ) → All BlankWord run → largest_from (fin false 0 (pos 0)) run ≡ fin false 0 (pos 0)
unfolding largest_from
blank_largest [] b = refl
blank_largest (w ∷ run) b = rw (larger_blank (float w) (blank_word w b.0)) (blank_largest run b.1)

pub blank_scale : (d : ℕ) (run : List ℕ) → All BlankWord run → scale_of d run ≡ float 1065353216
unfolding largest eq of_bits of_int
blank_scale d run b = sym (scale_one d run (fin false 0 (pos 0)) (sym (blank_largest run b)) refl)

-- nothing is larger than an infinity
larger_infinite : (x : Float) → larger (inf false) (magnitude x) ≡ inf false
unfolding larger magnitude lt
larger_infinite nan = refl
larger_infinite (inf s) = refl
larger_infinite (fin s m e) = refl

infinite_rest : (run : List ℕ) → largest_from (inf false) run ≡ inf false
unfolding largest_from
infinite_rest [] = refl
infinite_rest (w ∷ run) = rw (larger_infinite (float w)) (infinite_rest run)

-- an infinity is the largest of what came before it
infinite_first : (a : Float) (s : Bool) → T (plain a) → larger a (magnitude (inf s)) ≡ inf false
unfolding larger magnitude lt
infinite_first nan s t = absurd t
infinite_first (inf true) s t = absurd t
infinite_first (inf false) s t = refl
infinite_first (fin true m e) s t = absurd t
infinite_first (fin false m e) s t = refl

infinite_largest : (a : Float) (run : List ℕ) → T (plain a) → Any InfWord run → largest_from a run ≡ inf false
unfolding largest_from
infinite_largest a [] t h = absurd h
infinite_largest a (w ∷ run) t (inl h) = rw (inf_word w h, infinite_first a (leb 2147483648 w) t) (infinite_rest run)
infinite_largest a (w ∷ run) t (inr h) = infinite_largest (larger a (magnitude (float w))) run (larger_plain a (float w) t) h

infinite_divided : (y : Float) (n : ℕ) → HasValue y false n 1 → div binary32 (inf false) y ≡ inf false
unfolding div
infinite_divided nan n v = absurd v
infinite_divided (inf t) n v = absurd v
infinite_divided (fin t m e) n v = rw v.0

pub infinite_scale : (d : ℕ) (run : List ℕ) → d ≤ 2 ^ 24 → Any InfWord run → scale_of d run ≡ inf false
unfolding largest eq of_bits of_int
infinite_scale d run k h =
    sym (scale_divided d run (inf false) (sym (infinite_largest (fin false 0 (pos 0)) run tt h)) refl)
    ∙ infinite_divided (whole (pos d)) d (round_whole binary32 false d k)

cross : (m u w k v g n d c : ℕ) → m * u * c ≡ n * w → k * v * 1 ≡ d * g → m * u * g * c * d ≡ n * (k * v * w)
cross m u w k v g n d c p q = omega (arith, ap (λ (z : ℕ). z * (g * d)) p, ap (λ (z : ℕ). z * (n * w)) q)

in_units : (a b n d : ℕ) → 0 < b → 0 < d → n < 2 ^ 24 → a * 2 ^ 149 * d ≡ n * b → round binary32 false a b ≡ units binary32 false (closest n d) 0
in_units a b n d B D l c =
    let h : size (n / d) ≤ 24 = size-le (n / d) 24 (lt_of_le_of_lt (div-le_self n d) l) in
    let z : size (a * 2 ^ 149 / b) - 24 ≡ 0 = rw (div_same (a * 2 ^ 149) b n d B D c) (omega arith) in
    round_is binary32 false a b
    ∙ ap (λ (i : ℕ). core binary32 false (a * 2 ^ 149) b i) z
    ∙ ap (λ (q : ℕ). units binary32 false q 0) (closest_same (a * 2 ^ 149) (b * 1) n d (rw (mul-one b) B) D (rw (mul-one b) c))

no_count : (m u w n c : ℕ) → m * u * 1 ≡ 0 * w → m * u * c ≡ n * w → 0 < n * w → ⊥
no_count m u w n c i v h = omega (arith, ap (λ (z : ℕ). z * c) i)

-- n smallest subnormals divided by d are the whole number of them that is nearest to n / d
divided : (x y : Float) (n d : ℕ) → 0 < d → n < 2 ^ 24 → HasValue x false n (2 ^ 149) → HasValue y false d 1 → div binary32 x y ≡ units binary32 false (closest n d) 0
unfolding div
divided nan y n d p l v w = absurd v
divided (inf s) y n d p l v w = absurd v
divided (fin s m e) nan n d p l v w = absurd w
divided (fin s m e) (inf t) n d p l v w = absurd w
divided (fin s m e) (fin t zero g) n d p l v w = absurd (no_product (up g) d (down g) w.1 p (down_pos g))
divided (fin s m e) (fin t (suc k) g) n d p l v w =
    let b : 0 < suc k * up g * down e = mul-pos (mul-pos (zero-lt-suc k) (up_pos g)) (down_pos e) in
    rw (eqb-suc-zero k, v.0, w.0)
    (in_units (m * up e * down g) (suc k * up g * down e) n d b p l (cross m (up e) (down e) (suc k) (up g) (down g) n d (2 ^ 149) v.1 w.1))

more_than_zero : (x : Float) (n c : ℕ) → 0 < n → HasValue x false n c → eq x (float 0) ≡ false
unfolding eq of_bits
more_than_zero nan n c z v = refl
more_than_zero (inf s) n c z v = refl
more_than_zero (fin s m e) n c z v =
    rw (ne_eqb (m * up e * 1) (0 * down e) (λ i. absurd (no_count m (up e) (down e) n c i v.1 (mul-pos z (down_pos e)))))

-- the whole number nearest to n / d, between 1/2 and 3/2
only_one : (n d q : ℕ) → Near n d q → d < 2 * n → 2 * n < 3 * d → q ≡ 1
only_one n d zero h l j = absurd (omega (arith, h.under))
only_one n d (suc zero) h l j = refl
only_one n d (suc (suc q)) h l j = absurd (omega (arith, h.over))

-- a run whose largest magnitude is n smallest subnormals, n being less than the smallest normal number has of them
module _ (d n : ℕ) (run : List ℕ) (p : 0 < d) (k : d ≤ 2 ^ 24) (z : 0 < n) (l : n < 2 ^ 23) (e : largest run ≡ float n) where
  subnormal_scale : scale_of d run ≡ units binary32 false (closest n d) 0
  unfolding of_int
  subnormal_scale =
      sym (scale_divided d run (float n) (sym e) (more_than_zero (float n) n (2 ^ 149) z (few_value n l)))
      ∙ divided (float n) (whole (pos d)) n d p (omega arith) (few_value n l) (round_whole binary32 false d k)

  -- at most half of the divisor: nothing is left
  pub scale_none : 2 * n ≤ d → scale_of d run ≡ float 0
  unfolding units odd of_bits
  scale_none h =
      let q : closest n d ≡ 0 = omega (arith, closest_mono n d 1 2 p (omega arith) (omega arith)) in
      subnormal_scale ∙ ap (λ (i : ℕ). units binary32 false i 0) q

  -- more than half of it and less than three halves: one is left
  pub scale_smallest : d < 2 * n → 2 * n < 3 * d → scale_of d run ≡ float 1
  unfolding units odd of_bits
  scale_smallest h j =
      let q : closest n d ≡ 1 = only_one n d (closest n d) (closest_near n d p) h j in
      subnormal_scale ∙ ap (λ (i : ℕ). units binary32 false i 0) q
