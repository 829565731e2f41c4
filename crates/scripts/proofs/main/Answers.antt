-- `scripts::main`: the law says how long the array is, where `search` would build it.
use Rattle.std.proofs.Common.{ℕ, sym}
use Rattle.std.proofs.lemmas.List.{length-replicate}
use Rattle.scripts.proofs.main.Goals as goal

pub slice_bounds-run_file-end : goal.slice_bounds-run_file-end
slice_bounds-run_file-end c = sym (length-replicate {A = ℕ} 655360 0)
