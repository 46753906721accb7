-- The scale of a run of words: the paper's Scale of a run, under Codes.
use Rattle.std.specs.Prelude.{ℕ, false, cond, List, [], ◌∷◌, pos, Float}
use Rattle.std.specs.Float.{nan, inf, fin, binary32}
use Rattle.std.specs.Float.Ieee.{lt, eq, div}
use Rattle.numbers.specs.Word.{float, whole}

-- a number without its sign
unfoldable pub magnitude : Float → Float
magnitude nan = nan
magnitude (inf s) = inf false
magnitude (fin s m e) = fin false m e

-- x where x is larger than a; no NaN is larger than anything, so it is skipped
unfoldable pub larger : Float → Float → Float
larger a x = cond (lt a x) x a

-- the largest magnitude of a run, started at a
unfoldable pub largest_from : Float → List ℕ → Float
largest_from a [] = a
largest_from a (w ∷ run) = largest_from (larger a (magnitude (float w))) run

-- the largest magnitude, started at 0.0
unfoldable pub largest : List ℕ → Float
largest run = largest_from (whole (pos 0)) run

-- 1.0 where the largest magnitude is 0, else that divided by 127 for INT8 or by 7 for INT4
unfoldable pub scale_of : ℕ → List ℕ → Float
scale_of divisor run = cond (eq (largest run) (whole (pos 0))) (whole (pos 1)) (div binary32 (largest run) (whole (pos divisor)))
