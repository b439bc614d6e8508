-- The rows passed are reduced, those ahead are as they were, and what was dropped is counted with them.
use Rattle.terms.specs.Rows.{terms_of}
use Rattle.reduction.specs.code.Marks.{Chained}
use Rattle.reduction.proofs.ReducedRows.{Passing}
use Rattle.reduction.proofs.reduce_hamiltonian.Given as goal

abbrev pub invariant-loop-place : goal.invariant-loop-place
invariant-loop-place l = Passing l.rule l.selection l.parent l.count l.initial.rows l.rows l.place l.dropped × Chained 16384 2048 (terms_of 9 l.place l.rows) l.chains
