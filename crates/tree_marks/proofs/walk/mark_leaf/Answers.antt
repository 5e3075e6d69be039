use Rattle.std.proofs.Common.{◌≡◌, ◌<◌, sym, subst, ap, arith}
use Rattle.pm_words.specs.Images.{Row}
use Rattle.pm_words.specs.Locations.{leaf_count}
use Rattle.tree_law.specs.Words.{number_of, reference_of}
use Rattle.tree_marks.specs.Marked.{MarksFrom, AreMarked}
use Rattle.tree_marks.proofs.MarkLemmas.{no_leaf, leaf_set, leaf_marked}
use Rattle.tree_marks.proofs.walk.mark_leaf.Goals as goal

pub returns-then-leaf_count-reference-clause-all : goal.returns-then-leaf_count-reference-clause-all
returns-then-leaf_count-reference-clause-all c sound =
    let count : c.leaf_count.result ≡ leaf_count c.args.memory.now.layout = c.leaf_count.ensures.count in
    absurd (no_leaf c.args.memory.now.layout c.args.memory.now.words c.args.reference c.requires (omega arith) sound)

pub returns-clause-marks : goal.returns-clause-marks
returns-clause-marks c =
    let l = c.args.memory.now.layout in
    let words = c.args.memory.now.words in
    let count : c.leaf_count.result ≡ leaf_count l = c.leaf_count.ensures.count in
    let within : number_of c.args.reference < leaf_count l = omega arith in
    subst (MarksFrom l words (reference_of c.args.reference)) (sym (ap (λ (r : Row). r.words) c.set_mark.ensures.set)) (leaf_set l words c.args.reference c.set_mark.ensures.row.whole c.requires within)

pub returns-clause-all : goal.returns-clause-all
returns-clause-all c sound =
    let l = c.args.memory.now.layout in
    let words = c.args.memory.now.words in
    let count : c.leaf_count.result ≡ leaf_count l = c.leaf_count.ensures.count in
    let within : number_of c.args.reference < leaf_count l = omega arith in
    subst (AreMarked l words (reference_of c.args.reference)) (sym (ap (λ (r : Row). r.words) c.set_mark.ensures.set)) (leaf_marked l words c.args.reference c.set_mark.ensures.row.whole c.requires within)
