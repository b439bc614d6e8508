-- Nothing behind kept bytes, and else the header.
use mathlib.Core.Path.{refl}
use Rattle.lists.specs.Written.{written_at}
use Rattle.journal.proofs.NotedLines.{no_header, header_first}
use Rattle.journal.proofs.new_lines.put_first.Goals as goal

pub returns-then-kept-ne0 : goal.returns-then-kept-ne0
unfolding written_at
returns-then-kept-ne0 c job own holds = rw (no_header job c.args.kept c.if-kept-ne0.true) (refl, refl)

pub put_header-requires : goal.put_header-requires
put_header-requires c =
    let run = c.requires.1.1.0 in
    rw (
      header_first c.requires.0 c.args.kept c.if-kept-ne0.false,
      ← c.rule_of.ensures _ _ run,
      ← c.modes-modes.ensures _ _ run,
      ← c.count.ensures _ _ run,
    ) at c.requires.1.1.1

pub returns : goal.returns
returns c job own run =
    rw (
      header_first job c.args.kept c.if-kept-ne0.false,
      ← c.rule_of.ensures job own run,
      ← c.modes-modes.ensures job own run,
      ← c.count.ensures job own run,
    )
    (c.put_header.ensures.value, c.put_header.ensures.out_after)
