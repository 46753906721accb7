-- A text put into a page, whose buffer is the one that was lent.
use Rattle.std.specs.Prelude.{ℕ, ◌≡◌, List, length}
use Rattle.printing.specs.Place.{Placed}
use Rattle.printing.specs.declared.page.Page.{Page}

pub record Put (text : List ℕ) (before after : Page) : Type 0 where
  pub same_reference : after.out.ghost_name ≡ before.out.ghost_name
  pub len : length after.out.now ≡ length before.out.now
  pub placed : Placed before.at text before.out.now after.at after.out.now
