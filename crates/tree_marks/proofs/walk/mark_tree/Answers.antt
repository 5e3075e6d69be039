use Rattle.std.proofs.Common.{ℕ, subst, arith}
use Rattle.tree_law.specs.Trees.{IsSoundFrom}
use Rattle.tree_law.specs.Words.{reference_of}
use Rattle.tree_marks.specs.Marked.{row_tree, row_room, AreMarked}
use Rattle.tree_marks.proofs.MarkLemmas.{crash_same}
use Rattle.tree_marks.proofs.walk.mark_tree.Goals as goal

pub returns-clause-all : goal.returns-clause-all
returns-clause-all c =
    let l = c.args.memory.now.layout in
    let words = c.args.memory.now.words in
    subst (λ (r : ℕ). IsSoundFrom (row_room l) (row_tree l words) (reference_of r) → AreMarked l words (reference_of r) c.mark_from.new.memory.words) c.root_of-root.ensures
    (λ sound. c.mark_from.ensures.all (omega arith) sound)

pub returns-clause-crash : goal.returns-clause-crash
returns-clause-crash c = crash_same c.args.memory.now.layout c.args.memory.now.words (reference_of c.root_of-root.result) c.mark_from.new.memory.words c.mark_from.ensures.marks
