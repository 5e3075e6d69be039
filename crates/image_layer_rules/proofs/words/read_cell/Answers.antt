use Rattle.std.proofs.Common.{inl, inr, sym, ◌∙◌, arith}
use Rattle.std.proofs.lemmas.Bool.{cases_lt}
use Rattle.pm_words.specs.Locations.{word_at}
use Rattle.tree_law.specs.Words.{CellWord, kind_of, number_of, cell_in}
use Rattle.tree_row.specs.Rows.{image_word, image_layer}
use Rattle.tree_row.proofs.RowLaw.{cell_ends}
use Rattle.radix_nodes.proofs.Heads.{copied_start, copied_on}
use Rattle.image_layer_rules.proofs.words.read_cell.Goals as goal

pub loop-at-init : goal.loop-at-init
loop-at-init c = copied_start (cell_in (image_layer c.args.image.now.layout c.args.image.now.words) c.args.reference) c.no_words-words.result c.no_words-words.ensures

pub loop-at-preserved : goal.loop-at-preserved
loop-at-preserved c =
    copied_on (cell_in (image_layer c.args.image.now.layout c.args.image.now.words) c.args.reference) c.loop-at.words c.loop-at.at c.cell_word.result (omega arith)
    c.cell_word.ensures c.loop-at.invariant

pub returns-clause-words : goal.returns-clause-words
returns-clause-words c o = elim (cases_lt o 264) [
  | inl lt ↦ c.loop-at.invariant.1 o (omega arith)
  | inr le ↦ c.loop-at.invariant.2 o (omega arith)
      ∙ sym (cell_ends c.args.image.now.layout (kind_of c.args.reference) (number_of c.args.reference) o (word_at c.args.image.now.layout c.args.image.now.words (image_word (CellWord (kind_of c.args.reference) (number_of c.args.reference) o))) le)
]
