use Rattle.std.proofs.Common.{◌≡◌, ◌+◌, ◌-◌, ◌<◌, slice_index, ap, ◌∙◌, arith}
use Rattle.layer_map.specs.Keys.{key_number}
use Rattle.tree_law.specs.Trees.{byte_at}
use Rattle.tree_law.specs.Words.{reference_of}
use Rattle.tree_floor.proofs.KeyNumbers.{byte_is_of_number}
use Rattle.image_layer_rules.specs.Faults.{image_tree}
use Rattle.image_layer_rules.proofs.CellLemmas.{child_read, cell_later, cell_small, reads_on}
use Rattle.tree_floor.proofs.FloorExact.{to_cell}
use Rattle.image_layer_rules.proofs.LookLemmas.{leads_on}
use Rattle.image_layer_rules.proofs.look.+node_from.Goals as goal

pub key_byte-requires : goal.key_byte-requires
key_byte-requires t c =
    let small = cell_small c.args.image.now.layout c.args.image.now.words c.args.reference c.if-reference-eq0.false c.if-reference-eq-LEAF.false c.requires.right c.cell_word-depth.result c.cell_word-depth.ensures in
    omega arith

pub overflow_add-depth : goal.overflow_add-depth
overflow_add-depth t c =
    let small = cell_small c.args.image.now.layout c.args.image.now.words c.args.reference c.if-reference-eq0.false c.if-reference-eq-LEAF.false c.requires.right c.cell_word-depth.result c.cell_word-depth.ensures in
    omega arith

pub node_from-requires : goal.node_from-requires
node_from-requires t c =
    let on =
    reads_on c.args.image.now.layout c.args.image.now.words c.args.reference c.if-reference-eq0.false c.if-reference-eq-LEAF.false c.requires.right c.read_cell-cell.result c.read_cell-cell.ensures.kind
    c.read_cell-cell.ensures.words c.args.least c.cell_word-depth.result c.cell_word-depth.ensures c.requires.least c.key_byte.result c.child_of-child.result c.child_of-child.ensures in
    let later = on.later in
    let measure = c.decreases in
    let less : 24 - (c.cell_word-depth.result + 1) < t = omega arith in
    (less, (on.deep, (on.fine, c.requires.key)))

pub returns : goal.returns
returns t c =
    let l = c.args.image.now.layout in
    let image = c.args.image.now.words in
    let x = c.args.reference in
    let same = child_read l image x c.read_cell-cell.result c.read_cell-cell.ensures.kind c.read_cell-cell.ensures.words c.key_byte.result c.child_of-child.result c.child_of-child.ensures in
    let small = cell_small c.args.image.now.layout c.args.image.now.words c.args.reference c.if-reference-eq0.false c.if-reference-eq-LEAF.false c.requires.right c.cell_word-depth.result c.cell_word-depth.ensures in
    let later = cell_later c.args.image.now.layout c.args.image.now.words c.args.reference c.if-reference-eq0.false c.if-reference-eq-LEAF.false c.requires.right c.args.least c.cell_word-depth.result c.cell_word-depth.ensures c.requires.least in
    let byte : c.key_byte.result ≡ byte_at ((image_tree l image).depth x) (key_number c.args.key.now) =
    c.key_byte.ensures ∙ byte_is_of_number (slice_index c.args.key.now) c.cell_word-depth.result c.requires.key.fits (omega arith)
    ∙ ap (λ d. byte_at d (key_number c.args.key.now)) c.cell_word-depth.ensures in
    leads_on l image x (reference_of x) (to_cell x c.if-reference-eq0.false c.if-reference-eq-LEAF.false) c.key_byte.result c.child_of-child.result c.args.least (c.cell_word-depth.result + 1)
    (key_number c.args.key.now) c.node_from.result byte same (omega arith) (omega arith) c.node_from.ensures
