-- The run's table begins with the drops of its merges.
use Rattle.std.proofs.Common.{◌≡◌, ◌≤◌, ◌∙◌, ap, sym, length, take}
use native.Mathlib.Nat.{zero-add}
use Rattle.std.proofs.lemmas.List.{length-take-le}
use Rattle.lists.specs.Written.{written_at}
use Rattle.merging.proofs.Recording.{length_recorded}
use Rattle.merging.proofs.StateAsked.{drops_length, drops_noted}
use Rattle.merging.proofs.asked.put_drops.Goals as goal
use Rattle.merging.proofs.asked.put_drops.Goals.{Start}

module _ (c : Start) where
  fits : c.args.run.step ≤ length c.args.drops.now
  fits =
      let run = c.args.run in
      rw (length_recorded run.merges run.step) at c.requires.1.1.1

  noted : length (take c.args.run.step c.args.run.drops) ≡ c.args.run.step
  noted = drops_length 769 256 c.requires.0 c.requires.1.0 c.args.run c.requires.1.1.0

pub slice_bounds-copy_from_slice-end : goal.slice_bounds-copy_from_slice-end
slice_bounds-copy_from_slice-end c = fits (goal.at.slice_bounds-copy_from_slice-end c).Start

pub slice_bounds-copy_from_slice-end-2 : goal.slice_bounds-copy_from_slice-end-2
slice_bounds-copy_from_slice-end-2 c =
    sym (length-take-le c.args.run.step c.args.drops.now (fits (goal.at.slice_bounds-copy_from_slice-end-2 c).Start))

pub copy_from_slice-requires : goal.copy_from_slice-requires
copy_from_slice-requires c =
    let d = (goal.at.copy_from_slice-requires c).Start in
    length-take-le c.args.run.step c.args.drops.now (fits d) ∙ sym (noted d)

pub returns : goal.returns
unfolding written_at
returns c job rows holds =
    let run = c.args.run in
    let drops_are = drops_noted 769 256 job rows run holds in
    let count = ap length (sym drops_are) ∙ drops_length 769 256 job rows run holds in
    rw (c.copy_from_slice.ensures.after ∙ drops_are, count, zero-add run.step)
