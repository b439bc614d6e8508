-- The surviving rows, equal ones made one by a reduction that changes nothing else.
use Rattle.tree_weight.proofs.OperatorsOnce.{operator_rows}
use Rattle.tree_weight.proofs.operators.put_operators.Goals as goal

pub returns : goal.returns
returns c =
    let put = c.put_surviving in
    operator_rows c.args.count c.args.terms.now _ _ _ put.ensures c.reduce_hamiltonian.ensures
