use Rattle.std.proofs.Common.{rules, ◌≢◌, sym, subst}
use Rattle.radix_nodes.specs.Changes.{SetsChild}
use Rattle.radix_nodes.proofs.Storing.{takes_index}
use Rattle.radix_nodes.proofs.Adding.{clears_four, clears_sixteen, clears_direct}
use Rattle.radix_nodes.proofs.changes.removing.Goals as goal

pub returns-in-2 : goal.returns-in-2
returns-in-2 c is more = clears_four c.args.cell.now c.args.byte c.clearing.result (search rules) c.in-2.is c.clearing.ensures.entry c.clearing.ensures.value is more

pub returns-in-3 : goal.returns-in-3
returns-in-3 c is more = clears_sixteen c.args.cell.now c.args.byte c.clearing-in-3.result (search rules) c.in-3.is c.clearing-in-3.ensures.entry c.clearing-in-3.ensures.value is more

pub returns-in-4 : goal.returns-in-4
returns-in-4 c is more = subst (λ s. SetsChild c.args.cell.now s c.args.byte 0) (sym c.index_store.ensures) (takes_index c.args.cell.now c.args.byte (search rules) c.in-4.is c.requires.byte c.requires.child is more)

pub returns-in_default : goal.returns-in_default
returns-in_default c is more =
    let two : c.args.cell.now.kind ≢ 2 = search rules in
    let three : c.args.cell.now.kind ≢ 3 = search rules in
    let four : c.args.cell.now.kind ≢ 4 = search rules in
    clears_direct c.args.cell.now c.args.byte (search rules) two three four c.requires.byte is more
