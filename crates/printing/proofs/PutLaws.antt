-- Texts put into a page one after the other are one text; with room for a line it is laid.
use mathlib.Core.Path.{◌≡◌, refl, ◌∙◌}
use mathlib.Core.List.{List, [], ◌++◌}
use Prim.Native.Nat.{ℕ, ◌+◌, ◌≤◌}
use lib.ListN.{length}
use Rattle.printing.specs.declared.page.Page.{Page}
use Rattle.printing.specs.Put.{Put}
use Rattle.printing.specs.Text.{Laid, laid_at}
use Rattle.printing.proofs.PlaceLaws.{placed_none, placed_then}
use Rattle.printing.proofs.LaidLaws.{placed_laid_at}

pub put_none : (p : Page) → Put [] p p
put_none p = record { same_reference = refl; len = refl; placed = placed_none p.at p.out.now }

pub put_then : {t u : List ℕ} {p q r : Page} → Put t p q → Put u q r → p.at ≤ length p.out.now → Put (t ++ u) p r
put_then a b h =
    record {
      same_reference = b.same_reference ∙ a.same_reference;
      len = b.len ∙ a.len;
      placed = placed_then a.placed b.placed h;
    }

pub put_laid : {t x : List ℕ} {p q : Page} → Put t p q → x ≡ q.out.now → p.at + 2048 ≤ length p.out.now
    → ◌≡◌ {A = Laid} (record { count = q.at; out = x }) (laid_at p.at t p.out.now)
put_laid a e h = rw e (placed_laid_at h a.placed)
