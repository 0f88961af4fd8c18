use Rattle.arr_run.proofs.Follows.{never_usage, prints_eagerly, refusal_keeps}
use Rattle.arr_run.proofs.laws.statuses_say.Goals as goal

pub returns : goal.returns
returns c = record { done = prints_eagerly; refused = refusal_keeps; known = never_usage }
