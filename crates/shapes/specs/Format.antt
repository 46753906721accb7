-- The formats, by number, and the room that a head's numbers take in each.
-- The paper's Rows and Limits, under Shape and room.
use Rattle.std.specs.Prelude.{◌≡◌, ℕ, ◌*◌, ◌/◌, ◌%◌, Bool, false, List, [], ◌∷◌, eqb, ltb, length, get_or, Result, Ok, Err}
use Rattle.replies.specs.declared.Refusal.{Refusal}
use Rattle.replies.specs.declared.Refusal.TheVariants.{Shape}
use Rattle.shapes.specs.declared.Format.{Format}
use Rattle.shapes.specs.declared.Format.TheVariants.{F32, Bf16, Int8, Int4}

-- how many numbers a group has, since they come in whole groups; B and S of so many numbers
pub record Layout : Type 0 where
  pub group : ℕ
  pub bytes : ℕ → ℕ
  pub words : ℕ → ℕ

abbrev pub f32_layout : Layout
f32_layout = record { group = 1; bytes = λ d. 4 * d; words = λ d. 0 }

abbrev pub bf16_layout : Layout
bf16_layout = record { group = 1; bytes = λ d. 2 * d; words = λ d. 0 }

abbrev pub int8_layout : Layout
int8_layout = record { group = 1; bytes = λ d. d; words = λ d. 1 }

abbrev pub int4_layout : Layout
int4_layout = record { group = 32; bytes = λ d. d / 2; words = λ d. d / 32 }

-- the table: a format's number is its place
unfoldable pub layouts : List Layout
layouts = f32_layout ∷ bf16_layout ∷ int8_layout ∷ int4_layout ∷ []

-- the table has the format
unfoldable pub known : ℕ → Bool
known format = ltb format (length layouts)

-- each format's number, and the format of a number; a number that the table has not is no shape's
abbrev pub format_number : Format → ℕ
format_number F32 = 0
format_number Bf16 = 1
format_number Int8 = 2
format_number Int4 = 3

abbrev pub NumberOf : ℕ → Result Format Refusal → Type 0
NumberOf n (Ok format) = n ≡ format_number format
NumberOf n (Err refusal) = (known n ≡ false) × (refusal ≡ Shape)

-- of a format that is not known, nothing takes room
abbrev pub no_layout : Layout
no_layout = record { group = 1; bytes = λ d. 0; words = λ d. 0 }

abbrev pub layout_of : ℕ → Layout
layout_of format = get_or layouts format no_layout

-- d numbers are whole groups
unfoldable pub whole_groups_of : ℕ → ℕ → Bool
whole_groups_of format d = eqb (d % (layout_of format).group) 0
