-- What every layout obeys, and that what holds at each line of a table holds at every number.
-- Each holds line by line, and at the numbers that a table has not.
use mathlib.Core.Path.{◌≡◌}
use mathlib.Core.List.{List, [], ◌∷◌}
use mathlib.Core.Bool.{Bool, true, false}
use Prim.Native.Nat.{ℕ, zero, suc, ◌%◌, ◌≤◌, ◌<◌}
use native.Mathlib.Omega.{arith}
use lib.Dec.{eqb}
use borrow.Author.Tests.{eq-eqb, ltb-true, ltb-false}
use lib.ListN.{length, get_or, get_or-eq_default}
use Rattle.std.specs.Prelude.{Result, Ok, Err, is_ok}
use Rattle.replies.specs.declared.Refusal.{Refusal}
use Rattle.shapes.specs.declared.Format.{Format}
use Rattle.shapes.specs.declared.Format.TheVariants.{F32, Bf16, Int8, Int4}
use Rattle.shapes.specs.Format.{NumberOf, Layout, f32_layout, bf16_layout, int8_layout, int4_layout, layouts, layout_of, no_layout, known}

-- a fact of each two lines of two tables
abbrev pub Lines : {A B : Type 0} → (A → B → Type 0) → List A → List B → Type 0
Lines P [] [] = Unit
Lines P (x ∷ l) (y ∷ m) = P x y × Lines P l m
Lines P [] (y ∷ m) = ⊥
Lines P (x ∷ l) [] = ⊥

-- holds at every number, if it does of what stands for the numbers that the tables have not
pub at_every : {A B : Type 0} (P : A → B → Type 0) (l : List A) (m : List B) (x : A) (y : B) → Lines P l m → P x y → (n : ℕ) → P (get_or l n x) (get_or m n y)
at_every P [] [] u v h p n = p
at_every P (x ∷ l) (y ∷ m) u v h p zero = h.0
at_every P (x ∷ l) (y ∷ m) u v h p (suc n) = at_every P l m u v h.1 p n
at_every P [] (y ∷ m) u v h p n = elim h [ ]
at_every P (x ∷ l) [] u v h p n = elim h [ ]

-- a head's numbers take no more than 1,024 cells, and no more scale words
pub record LawfulLayout (f : Layout) : Type 0 where
  pub few_bytes : (d : ℕ) → d ≤ 256 → f.bytes d ≤ 1024
  pub few_words : (d : ℕ) → d ≤ 256 → f.words d ≤ 1024

f32_few : LawfulLayout f32_layout
f32_few = record { few_bytes = λ d h. omega arith; few_words = λ d h. omega arith }

bf16_few : LawfulLayout bf16_layout
bf16_few = record { few_bytes = λ d h. omega arith; few_words = λ d h. omega arith }

int8_few : LawfulLayout int8_layout
int8_few = record { few_bytes = λ d h. omega arith; few_words = λ d h. omega arith }

int4_few : LawfulLayout int4_layout
int4_few = record { few_bytes = λ d h. omega arith; few_words = λ d h. omega arith }

none_few : LawfulLayout no_layout
none_few = record { few_bytes = λ d h. omega arith; few_words = λ d h. omega arith }

pub layout_lawful : (format : ℕ) → LawfulLayout (layout_of format)
unfolding layouts
layout_lawful = at_every (λ f g. LawfulLayout f) layouts layouts no_layout no_layout (f32_few, (bf16_few, (int8_few, (int4_few, tt)))) none_few

-- a number that the table has not, as a place and by its test
pub unknown : (format : ℕ) → length layouts ≤ format → layout_of format ≡ no_layout
unknown format h = get_or-eq_default layouts no_layout h

pub unlisted : (format : ℕ) → known format ≡ false → layout_of format ≡ no_layout
unfolding known
unlisted format h = unknown format (ltb-false format (length layouts) h)

-- a number is known where it is a format's
pub known_if : (format : ℕ) (r : Result Format Refusal) {b : Bool} → NumberOf format r → b ≡ is_ok r → b ≡ known format
unfolding known layouts
known_if format (Ok F32) h e = rw (e, h)
known_if format (Ok Bf16) h e = rw (e, h)
known_if format (Ok Int8) h e = rw (e, h)
known_if format (Ok Int4) h e = rw (e, h)
known_if format (Err x) h e = rw (e, h.0)

-- any numbers are whole groups of one
pub ones : (d : ℕ) → eqb (d % 1) 0 ≡ true
ones d = eq-eqb (d % 1) 0 (omega arith)

-- a number that it has
pub known_below : (format : ℕ) → known format ≡ true → format < length layouts
unfolding known
known_below format h = ltb-true format (length layouts) h
