-- The sum so far is that of the layers passed, and small.
use mathlib.Core.Path.{◌≡◌, ◌∙◌}
use Prim.Native.Nat.{ℕ, ◌+◌, ◌*◌, ◌<◌, ◌≤◌}
use native.Mathlib.Omega.{arith}
use lib.Seq.{get_or-take}
use Rattle.lists.specs.Chunks.{turns}
use Rattle.lists.proofs.Turns.{turns_next}
use Rattle.replies.specs.Outcome.{lowest}
use Rattle.store.specs.declared.Record.{Record}
use Rattle.store.specs.Calls.{record_refusals}
use Rattle.store.specs.Record.{length_of, position_bytes_of, byte_count}
use Rattle.store.proofs.StoreLaws.{sound_record, sound_limits, layer_bytes_in}
use borrow.Author.Rules.{rules}
use Rattle.store.proofs.Record.bytes_of_layers.Goals as goal
use Rattle.store.proofs.Record.bytes_of_layers.Goals.{After-from}

-- a layer's bytes, and the layers
few : (r : Record) (l : ℕ) → lowest (record_refusals r) ≡ 0 → l < r.shape.layers → (length_of r l * position_bytes_of r.shape ≤ 2684354560) × (r.shape.layers ≤ 128)
few r l z b = let h = sound_record r z in (layer_bytes_in r l h b, (sound_limits r h).layers_in.1)

-- the length that a turn reads is its layer's
read : (c : After-from) → c.from.result ≡ length_of c.args.self.now c.loop-len.len-index
read c = let r = c.args.self.now in c.from.ensures ∙ get_or-take r.shape.layers r.lens c.loop-len.len-index 0 (omega arith)

pub position_bytes-each-requires : goal.position_bytes-each-requires
position_bytes-each-requires c = (sound_record c.args.self.now c.requires).shape_in

pub loop-len-init : goal.loop-len-init
unfolding turns
loop-len-init c = search rules

pub shared_ref_as_front-len-items : goal.shared_ref_as_front-len-items
shared_ref_as_front-len-items c = let b = (sound_limits _ (sound_record c.args.self.now c.requires)).layers_in in omega arith

pub overflow_mul-sum : goal.overflow_mul-sum
overflow_mul-sum c = rw (read c, c.position_bytes-each.ensures) (record { fits = omega (arith, few c.args.self.now c.loop-len.len-index c.requires (omega arith)) })

pub overflow_add-sum : goal.overflow_add-sum
overflow_add-sum c = rw (read c, c.position_bytes-each.ensures) (record { fits = omega (arith, few c.args.self.now c.loop-len.len-index c.requires (omega arith)) })

pub loop-len-preserved : goal.loop-len-preserved
loop-len-preserved c =
    let r = c.args.self.now in
    let e = c.position_bytes-each.ensures in
    (omega arith, turns_next c.loop-len.len-index (λ i x. x + length_of r i * position_bytes_of r.shape) 0 c.loop-len.invariant.1 (rw (read c, e)), rw (read c, e) (omega (arith, few c.args.self.now c.loop-len.len-index c.requires (omega arith))))

pub returns : goal.returns
unfolding byte_count
returns c =
    let e : c.loop-len.len-index ≡ c.args.self.now.shape.layers = omega arith in
    rw e at c.loop-len.invariant.1
