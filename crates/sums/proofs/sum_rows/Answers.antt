-- From zeros, the positions added one after the other are the sums, each on its own; they leave as words.
use mathlib.Core.Path.{◌≡◌, sym, ◌∙◌}
use mathlib.Core.List.{List, ◌++◌, map}
use Prim.Native.Nat.{ℕ, ◌≤◌}
use native.Mathlib.Omega.{arith}
use lib.ListN.{length, take, replicate, length-append, length-take, length-replicate}
use lib.Seq.{take_at}
use lib.Ieee.{Float}
use Rattle.lists.proofs.Part.{part-replicate}
use Rattle.numbers.specs.Word.{float, word}
use Rattle.shapes.specs.Buffers.{Buffers}
use Rattle.rows.proofs.FitLaws.{fits_facts}
use Rattle.attention.specs.Block.{rows_added, sums_of_block}
use Rattle.attention.proofs.OrderLaws.{sums_words}
use Rattle.sums.proofs.sum_rows.Goals as goal

-- the first d of the array's zeros, lent as `&mut sums[..d]`
zeros : (d : ℕ) → d ≤ 256 → take d (replicate 256 (float 0)) ≡ replicate d (float 0)
zeros d h = part-replicate 0 d 256 (float 0) (omega arith)

lent : (d : ℕ) (z : Float) → d ≤ 256 → d ≡ length (take d (replicate 256 z))
lent d z h = simp (length-take, length-replicate) (omega arith)

-- what is handed back, lent again as `&sums[..d]`
again : (d : ℕ) (y r : List Float) → length y ≡ d → d ≡ length (take d (y ++ r))
again d y r e = rw (take_at y r d e) (sym e)

words_of : (format d n : ℕ) (weights : List Float) (b : Buffers) (y r : List Float) {x : List ℕ} → d ≤ 256 → n ≡ d → length y ≡ d
    → y ≡ rows_added format weights b n (take d (replicate 256 (float 0))) → x ≡ map word (take d (y ++ r)) → x ≡ sums_of_block format weights b n
unfolding sums_of_block
words_of format d n weights b y r h q e o given = given ∙ rw (take_at y r d e, o, zeros d h, ← q) (sums_words n _ _)

pub slice_bounds-sums-end : goal.slice_bounds-sums-end
slice_bounds-sums-end c = omega (arith, (fits_facts c.args.block.now.fits.0.1).small)

pub slice_bounds-add_rows-end : goal.slice_bounds-add_rows-end
slice_bounds-add_rows-end c = lent _ _ (omega (arith, (fits_facts c.args.block.now.fits.0.1).small))

pub add_rows-requires : goal.add_rows-requires
add_rows-requires c = (c.requires.0 ∙ lent _ _ (omega (arith, (fits_facts c.args.block.now.fits.0.1).small)), c.requires.1)

pub slice_bounds-sums-end-2 : goal.slice_bounds-sums-end-2
slice_bounds-sums-end-2 c =
    let d = length c.args.out.now in
    let h : d ≤ 256 = omega (arith, (fits_facts c.args.block.now.fits.0.1).small) in
    let e : length c.add_rows.new.out ≡ d = c.add_rows.auto.out ∙ sym (lent d _ h) in
    simp length-append (omega arith)

pub slice_bounds-put_sums-end : goal.slice_bounds-put_sums-end
slice_bounds-put_sums-end c =
    let d = length c.args.out.now in
    let h : d ≤ 256 = omega (arith, (fits_facts c.args.block.now.fits.0.1).small) in
    again d _ _ (c.add_rows.auto.out ∙ sym (lent d _ h))

pub put_sums-requires : goal.put_sums-requires
put_sums-requires c =
    let d = length c.args.out.now in
    let h : d ≤ 256 = omega (arith, (fits_facts c.args.block.now.fits.0.1).small) in
    again d _ _ (c.add_rows.auto.out ∙ sym (lent d _ h))

pub returns : goal.returns
returns c =
    let d = length c.args.out.now in
    let h : d ≤ 256 = omega (arith, (fits_facts c.args.block.now.fits.0.1).small) in
    words_of _ d _ _ _ _ _ h c.requires.0 (c.add_rows.auto.out ∙ sym (lent d _ h)) c.add_rows.ensures c.put_sums.ensures
