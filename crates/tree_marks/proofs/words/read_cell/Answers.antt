use Rattle.std.proofs.Common.{inl, inr, sym, ◌∙◌, arith}
use Rattle.std.proofs.lemmas.Bool.{cases_lt}
use Rattle.pm_words.specs.Locations.{Cached, at}
use Rattle.tree_law.specs.Words.{CellWord, kind_of, number_of, cell_in}
use Rattle.tree_row.specs.Rows.{image_word, layer_words}
use Rattle.tree_row.proofs.RowLaw.{cell_ends}
use Rattle.radix_nodes.proofs.Heads.{copied_start, copied_on}
use Rattle.tree_marks.proofs.words.read_cell.Goals as goal

pub loop-at-init : goal.loop-at-init
loop-at-init c = copied_start (cell_in (layer_words c.args.memory.now.layout c.args.memory.now.words Cached) c.args.reference) c.no_words-words.result c.no_words-words.ensures

pub loop-at-preserved : goal.loop-at-preserved
loop-at-preserved c =
    copied_on (cell_in (layer_words c.args.memory.now.layout c.args.memory.now.words Cached) c.args.reference) c.loop-at.words c.loop-at.at c.cell_word.result (omega arith)
    c.cell_word.ensures c.loop-at.invariant

pub returns-clause-words : goal.returns-clause-words
returns-clause-words c o = elim (cases_lt o 264) [
  | inl lt ↦ c.loop-at.invariant.1 o (omega arith)
  | inr le ↦ c.loop-at.invariant.2 o (omega arith)
      ∙ sym (cell_ends c.args.memory.now.layout (kind_of c.args.reference) (number_of c.args.reference) o (at c.args.memory.now.layout c.args.memory.now.words (Cached (image_word (CellWord (kind_of c.args.reference) (number_of c.args.reference) o)))) le)
]
