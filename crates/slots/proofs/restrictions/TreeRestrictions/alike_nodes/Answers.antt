-- The slots of both, as lists, number by number.
use Rattle.std.proofs.Common.{◌≡◌, ◌∙◌, ◌&&◌, ◌∷◌, [], eqb}
use mathlib.Core.Bool.{and-true}
use Rattle.lists.specs.Members.{alike}
use Rattle.entities.specs.declared.Triple.{Triple}
use Rattle.slots.proofs.SlotNumbers.{slots_listed}
use Rattle.slots.proofs.restrictions.TreeRestrictions.alike_nodes.Goals as goal

three_alike : (a b : Triple)
    → (eqb a.x b.x && (eqb a.y b.y && eqb a.z b.z)) ≡ alike (a.x ∷ (a.y ∷ (a.z ∷ []))) (b.x ∷ (b.y ∷ (b.z ∷ [])))
unfolding alike
three_alike a b = rw (and-true (eqb a.z b.z))

pub returns : goal.returns
returns c =
    let a = slots_listed _ _ _ _ _ c.slots.ensures in
    let b = slots_listed _ _ _ _ _ c.slots-2.ensures in
    c.eq.ensures ∙ three_alike c.slots.result c.slots-2.result ∙ rw (a, b, c.from.ensures, c.from-2.ensures)
