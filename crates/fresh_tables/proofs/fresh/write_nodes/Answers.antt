-- `write_nodes` leaves the node table of an opening.
use Rattle.layout.specs.Headers.{numbers}
use Rattle.fresh_tables.proofs.Nodes.{nodes-written}
use Rattle.fresh_tables.proofs.fresh.write_nodes.Goals as goal

pub returns : goal.returns
returns c =
    let zeros = c in
    let states = zeros in
    let chain = states in
    let entry = chain in
    rw (zeros.zero_run.ensures, states.write_states.ensures, chain.write_chain.ensures)
    (nodes-written (numbers entry.args.h) entry.args.nodes.now entry.requires.h_in_bounds)
