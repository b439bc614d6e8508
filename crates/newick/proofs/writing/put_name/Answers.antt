-- The letter is stored and the number written over the front of what is behind it.
use mathlib.Core.Path.{◌≡◌}
use mathlib.Core.List.{◌∷◌}
use Prim.Native.Nat.{◌+◌, ◌-◌}
use borrow.Rule.Slice.PartMut.{put_mid}
use lib.ListN.{length, set}
use Rattle.lists.specs.Written.{written_at}
use Rattle.fields.specs.Decimal.{decimal}
use Rattle.newick.proofs.ShapeWrote.{name_put}
use Rattle.newick.proofs.writing.put_name.Goals as goal
use Rattle.newick.proofs.writing.put_name.Goals.{After-put_number}

written : (c : After-put_number)
    → let args = c.args in
    put_mid (args.at + 1) (length (set args.text.now args.at args.letter) - (args.at + 1))
    (set args.text.now args.at args.letter) c.put_number.new.out
    ≡ written_at args.at (args.letter ∷ decimal args.number) args.text.now
written c =
    let args = c.args in
    name_put args.text.now args.at args.letter (decimal args.number) c.put_number.ensures.out_after c.requires

pub returns-clause-text_after : goal.returns-clause-text_after
returns-clause-text_after c = written (goal.at.returns-clause-text_after c).After-put_number
