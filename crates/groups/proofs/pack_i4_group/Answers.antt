-- The test that led to each end is the definition's.
use Rattle.replies.specs.declared.Refusal.TheVariants.{Size}
use Rattle.replies.proofs.Flags.{passed, failed}
use Rattle.replies.proofs.Tested.{held, missed}
use Rattle.groups.specs.Group.{group_reply, pack_into}
use Rattle.groups.proofs.GroupLaws.{enough}
use Rattle.groups.proofs.pack_i4_group.Goals as goal

pub pack-requires : goal.pack-requires
pack-requires c = enough _ _ (passed c.has_group.ensures (held Size _ c.require.ensures c.in_ok-require.was))

pub returns-in_err-require : goal.returns-in_err-require
unfolding group_reply pack_into
returns-in_err-require c =
    let m = missed Size _ c.require.ensures _ c.in_err-require.was c.from_residual.ensures.1 in
    record { reply = rw (m.1, failed c.has_group.ensures m.0); bytes = rw (failed c.has_group.ensures m.0) }

pub returns : goal.returns
unfolding group_reply pack_into
returns c =
    let there = passed c.has_group.ensures (held Size _ c.require.ensures c.in_ok-require.was) in
    record { reply = rw there; bytes = rw there c.pack.ensures }
