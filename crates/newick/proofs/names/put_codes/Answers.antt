-- What is passed is coded, and those ahead say whether all are in range.
use Rattle.std.proofs.Common.{◌≡◌, Bool, true, false, true≢false, cond, ℕ, Some, None, refl, ap, sym, ◌∙◌, map, take_all, arith}
use Rattle.lists.specs.Members.{every}
use Rattle.lists.proofs.Steps.{every_passes, every_stops, every_ends}
use Rattle.lists.proofs.Writes.{all_of, mapped_so_far}
use Rattle.newick.specs.Names.{in_range, code_of}
use Rattle.newick.proofs.names.put_codes.Goals as goal

-- A name that has a code is in range, and one that has none is not.
coded : (within : Bool) (x : ℕ) {y : ℕ} → Some y ≡ cond within (Some x) None → (within ≡ true) × (x ≡ y)
coded true x e = (refl, cc)
coded false x e = absurd cc

uncoded : (within : Bool) (x : ℕ) → None ≡ cond within (Some x) None → within ≡ false
uncoded true x e = absurd cc
uncoded false x e = refl

pub returns-in_default : goal.returns-in_default
returns-in_default c =
    let names = c.args.names.now in
    let out = uncoded _ _ (rw c.in_default.is at c.code_of.ensures) in
    record {
      good = sym (sym c.loop-at.invariant.0 ∙ every_stops (in_range c.args.modes) names c.loop-at.at 0 (omega arith) out);
      codes = λ e. absurd (true≢false (sym e));
    }

pub loop-at-preserved : goal.loop-at-preserved
loop-at-preserved c =
    let names = c.args.names.now in
    let at = c.loop-at.at in
    let found = coded _ _ (rw c.in-Some.is at c.code_of.ensures) in (
      sym (every_passes (in_range c.args.modes) names at 0 (omega arith) found.0) ∙ c.loop-at.invariant.0,
      rw (← found.1) (mapped_so_far (code_of c.args.modes) names c.loop-at.codes at 0 (omega arith) (omega arith) c.loop-at.invariant.1),
    )

pub returns : goal.returns
returns c =
    let names = c.args.names.now in
    let at = c.loop-at.at in
    let e : every (in_range c.args.modes) names ≡ true = sym c.loop-at.invariant.0 ∙ every_ends (in_range c.args.modes) names at (omega arith) in
    record {
      good = sym e;
      codes = λ _. all_of c.loop-at.codes _ at (omega arith) (c.loop-at.invariant.1 ∙ ap (map (code_of c.args.modes)) (take_all at names (omega arith)));
    }
