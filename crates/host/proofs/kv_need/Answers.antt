-- Outside the limits there is no need and the reply is 1; inside, both totals.
use mathlib.Core.Path.{◌∙◌}
use Rattle.replies.specs.declared.Refusal.TheVariants.{Shape}
use Rattle.replies.proofs.Tested.{required}
use Rattle.host.proofs.WordLaws.{need_told}
use Rattle.host.proofs.kv_need.Goals as goal

pub returns : goal.returns
returns c = need_told _ (c.number.ensures ∙ required Shape _ c.require.ensures c.is_within.ensures) c.need_of-need.ensures
