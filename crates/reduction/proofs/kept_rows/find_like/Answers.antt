-- The number leads down the chain of the term's mark: the row that is like the term ends the search, any other is passed.
use mathlib.Core.Path.{◌≡◌, ◌∙◌, sym}
use mathlib.Core.List.{[]}
use Prim.Native.Nat.{◌-◌, ◌<◌}
use native.Mathlib.Omega.{arith}
use lib.ListN.{get_or}
use Rattle.lists.specs.Members.{alike}
use Rattle.terms.specs.Rows.{terms_of}
use Rattle.lists.proofs.Standard.{alike_is}
use Rattle.terms.proofs.RowSteps.{length_terms}
use Rattle.reduction.proofs.ChainedRows.{terms_at, seeking_starts, seeking_on, seeking_found, seeking_ends, place_inside, chain_falls}
use Rattle.reduction.proofs.kept_rows.find_like.Goals as goal
use Rattle.reduction.proofs.kept_rows.find_like.Goals.{After-eq, In-loop-at}

-- The number leads to one of the rows.
row_there : (c : In-loop-at)
    → (c.loop-at.at - 1 < c.args.count) × (c.loop-at.at - 1 < 2048)
row_there c =
    let chained = c.requires.chained in
    let inside = place_inside _ _ _ _ chained _ c.requires.term_nonzero _ c.loop-at.invariant c.loop-at-test.true in
    (rw (length_terms 9 c.args.count c.args.rows.now) at inside, omega (arith, inside, chained.fits))

-- The comparison is with that row's term.
compared : (c : After-eq)
    → (let args = c.args in
    c.eq.result ≡ alike args.term.now (get_or (terms_of 9 args.count args.rows.now) (c.loop-at.at - 1) []))
compared c =
    let args = c.args in
    rw (terms_at 9 args.count (c.loop-at.at - 1) args.rows.now (row_there (goal.at.After-eq c).In-loop-at).0, ← c.term_at.ensures, alike_is) c.eq.ensures

pub term_at-requires : goal.term_at-requires
term_at-requires c =
    let held = c.requires.held in
    let inside = (row_there (goal.at.term_at-requires c).In-loop-at).0 in
    (omega (arith, held.room), omega (arith, held.within (c.loop-at.at - 1) inside))

pub returns-then-eq : goal.returns-then-eq
returns-then-eq c =
    seeking_found _ _ _ _ c.requires.chained _ c.requires.term_nonzero _ c.loop-at.invariant c.loop-at-test.true
    (sym (compared (goal.at.returns-then-eq c).After-eq) ∙ c.if-eq.true)

pub loop-at-preserved : goal.loop-at-preserved
loop-at-preserved c =
    rw c.from-at-in-loop-at.ensures
    (seeking_on _ _ _ _ c.requires.chained _ c.requires.term_nonzero _ c.loop-at.invariant c.loop-at-test.true
    (sym (compared (goal.at.loop-at-preserved c).After-eq) ∙ c.if-eq.false))

pub returns : goal.returns
returns c =
    sym (length_terms 9 c.args.count c.args.rows.now)
    ∙ seeking_ends _ _ _ _ c.requires.chained _ c.requires.term_nonzero _ c.loop-at.invariant (omega arith)
