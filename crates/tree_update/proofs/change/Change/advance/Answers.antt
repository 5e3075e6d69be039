use Rattle.std.proofs.Common.{ap, ◌∙◌}
use Rattle.tree_update.specs.Changes.{change_at_turned}
use Rattle.tree_update.proofs.change.Change.advance.Goals as goal

pub returns-in-TakingLeaf : goal.returns-in-TakingLeaf
returns-in-TakingLeaf c =
    let h = c.in-TakingLeaf in
    ap (λ at. change_at_turned c.args.self.now at c.args.got) h.is ∙ c.takes_leaf.ensures h.take h.site h.is

pub returns-in-FillingLeaf : goal.returns-in-FillingLeaf
returns-in-FillingLeaf c =
    let h = c.in-FillingLeaf in
    ap (λ at. change_at_turned c.args.self.now at c.args.got) h.is ∙ c.fills_leaf.ensures h.fill h.site h.is

pub returns-in-FindingRoom : goal.returns-in-FindingRoom
returns-in-FindingRoom c =
    let h = c.in-FindingRoom in
    ap (λ at. change_at_turned c.args.self.now at c.args.got) h.is ∙ c.finds_room.ensures h.find h.spot h.leaf h.is

pub returns-in-ReadingCell : goal.returns-in-ReadingCell
returns-in-ReadingCell c =
    let h = c.in-ReadingCell in
    ap (λ at. change_at_turned c.args.self.now at c.args.got) h.is ∙ c.reads_cell.ensures h.read h.spot h.byte h.leaf h.is

pub returns-in-TakingCell : goal.returns-in-TakingCell
returns-in-TakingCell c =
    let h = c.in-TakingCell in
    ap (λ at. change_at_turned c.args.self.now at c.args.got) h.is ∙ c.takes_cell.ensures h.take h.new h.is

pub returns-in-FillingCell : goal.returns-in-FillingCell
returns-in-FillingCell c =
    let h = c.in-FillingCell in
    ap (λ at. change_at_turned c.args.self.now at c.args.got) h.is ∙ c.fills_cell.ensures h.fill h.spot h.free h.is

pub returns-in-Counting : goal.returns-in-Counting
returns-in-Counting c =
    let h = c.in-Counting in
    ap (λ at. change_at_turned c.args.self.now at c.args.got) h.is ∙ c.counts.ensures h.count h.leaf h.outer h.inner h.is
