use Rattle.std.proofs.Common.{refl, ap, ◌∙◌, arith}
use Rattle.pm_words.specs.declared.layout.Layout.{Layout}
use Rattle.recovery.proofs.telling.tell_orders.Goals as goal

pub loop-node-init : goal.loop-node-init
loop-node-init c = (refl, record { row = c.layout-layout.ensures.row; beside = λ p has other. refl; orders = λ n less. absurd (omega (arith, less)) })

pub returns : goal.returns
returns c =
    let told = c.loop-node.invariant.1 in
    let past = c.loop-node-test.false in
    let nodes = c.nodes-node-end.ensures ∙ ap (λ (l : Layout). l.nodes) c.layout-layout.ensures.layout in
    record {
      layout = c.loop-node.invariant.0;
      orders = λ n here. told.orders n (omega (arith, here, past, nodes));
      beside = told.beside;
      row = told.row;
    }
