-- The tables hold the merge of the label, and each code is that of one of its three.
use native.Mathlib.Omega.{arith}
use Rattle.history.specs.Flatpack.{children}
use Rattle.merging.specs.code.Recorded.{merge_at}
use Rattle.merging.proofs.Recording.{recorded_merge}
use Rattle.flatpack.proofs.Merged.children.Goals as goal

pub returns : goal.returns
unfolding children merge_at
returns c =
    let merged = c.args.self.now in
    rw (recorded_merge merged.merges.now merged.modes c.args.label (omega arith), ← merged.end_is)
    (rw (c.code.ensures, c.code-2.ensures, c.code-3.ensures, c.from.ensures))
