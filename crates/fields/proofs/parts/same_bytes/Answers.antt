-- `==` of two slices is our word of their lists.
use Rattle.std.proofs.Common.{◌∙◌, sym}
use Rattle.lists.proofs.Standard.{alike_is}
use Rattle.fields.proofs.parts.same_bytes.Goals as goal

pub returns : goal.returns
returns c =
    c.eq.ensures ∙ sym (alike_is c.args.a.now c.args.b.now)
