-- The two calls' promises, one after the other.
use Rattle.host.proofs.kv_dequantize_i8.Goals as goal

pub returns : goal.returns
returns c = cc
