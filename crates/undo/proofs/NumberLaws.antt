-- Rows as a list of positions: appended to others, cut to the first, joined again, and what stands for a head at each of them.
-- Each holds position by position, by the laws of lists and parts.
use mathlib.Core.Path.{◌≡◌, refl, sym, ◌∙◌}
use mathlib.Core.Bool.{Bool, true, false, cond}
use mathlib.Core.List.{List, [], ◌++◌}
use Prim.Native.Nat.{ℕ, ◌+◌, ◌-◌, ◌*◌, ◌<◌}
use native.Mathlib.Nat.{mul-div_cancel}
use native.Mathlib.Omega.{arith}
use native.Mathlib.Decide.{dec_lt}
use lib.Dec.{eqb}
use lib.ListN.{length, take, length-append, length-take, get_or-append}
use lib.Seq.{get_or-take, get_or-append-add}
use Rattle.lists.specs.Chunks.{part, joined}
use Rattle.lists.proofs.Part.{room, part_length, part-part, chunks_ext}
use Rattle.lists.proofs.Tab.{tab-length, tab-get_or, tab_of}
use Rattle.lists.proofs.Joined.{joined_length, joined-part}
use Rattle.shapes.specs.declared.Shape.{Shape}
use Rattle.shapes.specs.Shape.{head_size_of, width, positions}
use Rattle.buffers.specs.Calls.{head_numbers, side_of}
use Rattle.undo.specs.Survivors.{Position, Rows, position, no_rows, rows_of, position_at, keys_of, values_of}

-- a position has the numbers of all heads, and so has each of some rows
abbrev Wide : Shape → Position → Type 0
Wide s x = (length x.keys ≡ width s) × (length x.values ≡ width s)

pub record AllWide (s : Shape) (r : Rows) : Type 0 where
  pub wide : (p : ℕ) → p < length r → Wide s (position_at r p)

pub whole_none : (s : Shape) → AllWide s no_rows
whole_none s = record { wide = λ p w. absurd (omega arith) }

module _ {s : Shape} {r : Rows} (x : AllWide s r) where
  pub whole_first : (n : ℕ) → AllWide s (take n r)
  whole_first n =
      record {
        wide = λ p w. let v : p < n = omega (arith, length-take n r) in rw (get_or-take n r p (position [] []) v) (x.wide p (omega (arith, length-take n r)));
      }

  wide_at : {r' : Rows} → AllWide s r' → (p : ℕ) → p < length (r ++ r') → Dec (p < length r) → Wide s (position_at (r ++ r') p)
  wide_at {r'} y p w (yes u) = rw (get_or-append r r' (position [] []) p u) (x.wide p u)
  wide_at {r'} y p w (no u) =
      let e : p ≡ length r + (p - length r) = omega arith in
      rw (e, get_or-append-add r r' (p - length r) (position [] [])) (y.wide (p - length r) (omega (arith, length-append r r')))

  pub whole-joined : {r' : Rows} → AllWide s r' → AllWide s (r ++ r')
  whole-joined y = record { wide = λ p w. wide_at y p w (dec_lt p (length r)) }

  -- joined, they have as many numbers, and cut again they are as they were
  pub keys_size : length (keys_of r) ≡ length r * width s
  keys_size = joined_length (width s) (length r) (λ p. (position_at r p).keys) (λ p w. (x.wide p w).0)

  pub values_size : length (values_of r) ≡ length r * width s
  values_size = joined_length (width s) (length r) (λ p. (position_at r p).values) (λ p w. (x.wide p w).1)

  pub cut_again : 0 < width s → rows_of s (keys_of r) (values_of r) ≡ r
  cut_again d =
      let n : positions s (length (keys_of r)) ≡ length r = rw keys_size (mul-div_cancel (length r) d) in
      rw n
      (sym
      (tab_of (length r) _ r (position [] []) refl
      (λ p w.
      rw (
        joined-part (width s) (length r) p (λ p. (position_at r p).keys) (λ p w. (x.wide p w).0) w,
        joined-part (width s) (length r) p (λ p. (position_at r p).values) (λ p w. (x.wide p w).1) w,
      ))))

-- appended keys and values
module _ (s : Shape) (keys values : List ℕ) where
  pub whole_given : length keys ≡ positions s (length keys) * width s → length values ≡ positions s (length keys) * width s → AllWide s (rows_of s keys values)
  whole_given k v =
      record {
        wide = λ p w.
            let u : p < positions s (length keys) = rw tab-length at w in
            rw (tab-get_or _ _ p (position [] []) u)
            (part_length (p * width s) (width s) keys (omega (arith, room (width s) u)), part_length (p * width s) (width s) values (omega (arith, room (width s) u)));
      }

  -- joined again, they are the keys and the values that were appended
  module _ (k : length keys ≡ positions s (length keys) * width s) (v : length values ≡ positions s (length keys) * width s) where
    joined_again : (numbers : List ℕ) (side : Position → List ℕ) → length numbers ≡ positions s (length keys) * width s
        → ((p : ℕ) → p < positions s (length keys) → side (position_at (rows_of s keys values) p) ≡ part (p * width s) (width s) numbers)
        → joined (length (rows_of s keys values)) (λ p. side (position_at (rows_of s keys values) p)) ≡ numbers
    joined_again numbers side e same =
        let n : length (rows_of s keys values) ≡ positions s (length keys) = tab-length _ _ in
        let sized : (p : ℕ) → p < positions s (length keys) → length (side (position_at (rows_of s keys values) p)) ≡ width s =
        λ p w. rw (same p w) (part_length (p * width s) (width s) numbers (omega (arith, room (width s) w))) in
        rw n
        (chunks_ext (width s) (positions s (length keys)) _ numbers (joined_length (width s) _ _ sized) e
        (λ p w. joined-part (width s) (positions s (length keys)) p _ sized w ∙ same p w))

    pub keys_again : keys_of (rows_of s keys values) ≡ keys
    keys_again = joined_again keys (λ x. x.keys) k (λ p w. rw (tab-get_or _ _ p (position [] []) w))

    pub values_again : values_of (rows_of s keys values) ≡ values
    values_again = joined_again values (λ x. x.values) v (λ p w. rw (tab-get_or _ _ p (position [] []) w))

-- a part of either side is of both
either_part : (t : Bool) (a k : ℕ) (keys values : List ℕ) → cond t (part a k keys) (part a k values) ≡ part a k (cond t keys values)
either_part true a k keys values = refl
either_part false a k keys values = refl

-- what stands for a side, a head and a position, encoded as cells or as scale words: of rows, and of keys and values that are appended
module _ (enc : List ℕ → List ℕ) (s : Shape) where
  abbrev pub encoded : Rows → ℕ → ℕ → ℕ → List ℕ
  encoded r side h p = enc (part (h * head_size_of s) (head_size_of s) (side_of (position_at r p).keys (position_at r p).values side))

  abbrev pub given : List ℕ → List ℕ → ℕ → ℕ → ℕ → List ℕ
  given keys values side h p = enc (head_numbers s (side_of keys values side) h p)

  module _ (r : Rows) where
    -- the first t rows
    pub first_rows : (t side h p : ℕ) → h < s.heads → p < t → encoded (take t r) side h p ≡ encoded r side h p
    first_rows t side h p w u = rw (get_or-take t r p (position [] []) u)

    -- n rows, and those that were appended to them
    module _ (n : ℕ) (e : length r ≡ n) (keys values : List ℕ) (side h : ℕ) where
      pub old_rows : (p : ℕ) → h < s.heads → p < n → encoded (r ++ rows_of s keys values) side h p ≡ encoded r side h p
      old_rows p w u = rw (get_or-append r (rows_of s keys values) (position [] []) p (omega arith))

      pub new_rows : (i : ℕ) → h < s.heads → i < positions s (length keys) → encoded (r ++ rows_of s keys values) side h (n + i) ≡ given keys values side h i
      new_rows i w u =
          rw (
            ← e,
            get_or-append-add r (rows_of s keys values) i (position [] []),
            tab-get_or _ _ i (position [] []) u,
            either_part (eqb side 0) (i * width s) (width s) keys values,
            part-part (i * width s) (width s) (h * head_size_of s) (head_size_of s) (side_of keys values side) (room (head_size_of s) w),
          )
