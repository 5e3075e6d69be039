-- What the parts of a change hand on: that a machine reads on to a right answer, what the key's way has come to, and
-- what is filled.
use Rattle.std.specs.Prelude.{◌≡◌, ℕ, ◌<◌, ◌≤◌, List, IsSomeAnd}
use Rattle.pm_words.specs.declared.machine.Turn.{Turn}
use Rattle.radix_nodes.specs.declared.cell.Cell as cells
use Rattle.radix_nodes.specs.Keys.{key_bytes}
use Rattle.radix_nodes.specs.Cells.{IsCell, IsReference}
use Rattle.radix_nodes.specs.Making.{larger_of}
use Rattle.layer_map.specs.Layers.{Layer}
use Rattle.tree_law.specs.Trees.{Leaf, byte_at}
use Rattle.tree_law.specs.Words.{LayerWords, LeafPart}
use Rattle.tree_law.specs.Changes.{IsFilledLeaf}
use Rattle.tree_law.specs.Stages.{Marks, MarksTell}
use Rattle.tree_law.specs.Marking.{IsMarkSet}
use Rattle.layer_map.specs.Keys.{key_number}
use Rattle.tree_look.specs.declared.look.Looked.TheVariants as looked
use Rattle.tree_look.specs.LookLaws.{IsLooked}
use Rattle.tree_floor.specs.Telling.{answer_in}
use Rattle.tree_change.specs.Takes.{IsUnreached}
use Rattle.tree_change.specs.Endings.{SureCan}
use Rattle.tree_change.specs.Reads.{IsReadOf}
use Rattle.tree_update.specs.declared.change.Site.{Site}
use Rattle.tree_update.specs.declared.change.Site.TheVariants as site
use Rattle.tree_update.specs.declared.change.NewCell.{NewCell}
use Rattle.tree_update.specs.Changes.{leaf_reference, pair_cell}

-- Where its turns are these, it comes to such an answer.
abbrev pub Answers : {M A : Type 0} → (M → Turn M A) → (A → Type 0) → M → Type 0
Answers turn IsRight machine = (times : ℕ) × IsSomeAnd (answer_in times turn machine) IsRight

-- All words are durable, and keep this layer; the marks tell what is reached.
pub record Rests (count nodes : ℕ) (before : Layer) (w s : LayerWords) (m : Marks) : Type 0 where
  pub can : SureCan count nodes before w s
  pub tells : MarksTell count m w

-- The end of the key's way, as a new leaf's site has it.
abbrev pub IsSited : LayerWords → ℕ → Site → Type 0
IsSited w key (site.Under spot cell byte) =
    (depth : ℕ) × IsLooked w key (looked.Nothing spot cell depth) × (byte ≡ byte_at depth key)
IsSited w key (site.Beside spot reference depth byte) = IsLooked w key (looked.Parts spot reference depth byte)

-- The leaf is filled for the key; but for its mark, the marks tell what is reached.
pub record HasLeaf (count nodes : ℕ) (before : Layer) (key node leaf : ℕ) (w s : LayerWords) (m : Marks) : Type 0 where
  pub can : SureCan count nodes before w s
  pub told : Marks
  pub tells : MarksTell count told w
  pub marked : IsMarkSet told m (Leaf leaf) 1
  pub unreached : IsUnreached w (LeafPart leaf)
  pub filled : IsFilledLeaf count nodes w key node leaf

-- What a cell that is wanted is to be: a pair of the leaf and what is at its site; or a larger one with the leaf.
pub data IsWanted (w : LayerWords) (key : List ℕ) (leaf : ℕ) (new : NewCell) : Type 0 where
  as_pair : {reference depth byte : ℕ} → IsLooked w (key_number key) (looked.Parts new.spot reference depth byte) →
      IsReference reference → depth < key_bytes → byte < 256 → new.cell ≡ pair_cell key leaf reference depth byte →
      new.free ≡ 0 → IsWanted w key leaf new
  as_larger : {x depth byte : ℕ} {read : cells.Cell} →
      IsLooked w (key_number key) (looked.Nothing new.spot x depth) → byte ≡ byte_at depth (key_number key) →
      IsReadOf w x read → IsCell read → read.kind ≤ 4 → byte < 256 →
      new.cell ≡ larger_of read byte (leaf_reference leaf) → new.free ≡ x → IsWanted w key leaf new
