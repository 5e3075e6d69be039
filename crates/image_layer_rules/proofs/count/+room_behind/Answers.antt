use Rattle.std.proofs.Common.{rules, ◌+◌, ◌-◌, ◌<◌, arith}
use Rattle.tree_law.specs.Words.{reference_of}
use Rattle.image_layer_rules.specs.Counts.{HasMore, LeavesRoom}
use Rattle.image_layer_rules.proofs.CellLemmas.{child_read, cell_later, cell_small, reads_on}
use Rattle.tree_floor.proofs.FloorExact.{to_cell}
use Rattle.image_layer_rules.proofs.CountLemmas.{room_goes, room_ends, room_left}
use Rattle.image_layer_rules.proofs.count.+room_behind.Goals as goal

pub overflow_add-next : goal.overflow_add-next
overflow_add-next t c =
    let small = cell_small c.args.image.now.layout c.args.image.now.words c.args.reference c.if-reference-eq0.false c.if-reference-eq-LEAF.false c.requires.right c.cell_word-next.result c.cell_word-next.ensures in
    omega arith

pub loop-byte-init : goal.loop-byte-init
loop-byte-init t c fuel enough = omega arith

pub room_behind-requires : goal.room_behind-requires
room_behind-requires t c =
    let on =
    reads_on c.args.image.now.layout c.args.image.now.words c.args.reference c.if-reference-eq0.false c.if-reference-eq-LEAF.false c.requires.right c.read_cell-cell.result c.read_cell-cell.ensures.kind
    c.read_cell-cell.ensures.words c.args.least c.cell_word-next.result c.cell_word-next.ensures c.requires.least c.loop-byte.byte c.child_of-child.result c.child_of-child.ensures in
    let later = on.later in
    let measure = c.decreases in
    let less : 24 - (c.cell_word-next.result + 1) < t = omega arith in
    (less, (on.deep, on.fine))

pub returns-in_default : goal.returns-in_default
returns-in_default t c =
    let l = c.args.image.now.layout in
    let image = c.args.image.now.words in
    let x = c.args.reference in
    let same = child_read l image x c.read_cell-cell.result c.read_cell-cell.ensures.kind c.read_cell-cell.ensures.words c.loop-byte.byte c.child_of-child.result c.child_of-child.ensures in
    let small = cell_small c.args.image.now.layout c.args.image.now.words c.args.reference c.if-reference-eq0.false c.if-reference-eq-LEAF.false c.requires.right c.cell_word-next.result c.cell_word-next.ensures in
    let later = cell_later c.args.image.now.layout c.args.image.now.words c.args.reference c.if-reference-eq0.false c.if-reference-eq-LEAF.false c.requires.right c.args.least c.cell_word-next.result c.cell_word-next.ensures c.requires.least in
    let next = c.cell_word-next.result + 1 in
    let more : HasMore l image c.child_of-child.result next c.loop-byte.left = search rules in
    room_ends l image x c.loop-byte.byte c.child_of-child.result c.args.least next c.args.room c.loop-byte.left (reference_of x) (to_cell x c.if-reference-eq0.false c.if-reference-eq-LEAF.false)
    (omega arith) (omega arith) (omega arith) (omega arith) same c.loop-byte.invariant more

pub loop-byte-preserved : goal.loop-byte-preserved
loop-byte-preserved t c =
    let l = c.args.image.now.layout in
    let image = c.args.image.now.words in
    let x = c.args.reference in
    let same = child_read l image x c.read_cell-cell.result c.read_cell-cell.ensures.kind c.read_cell-cell.ensures.words c.loop-byte.byte c.child_of-child.result c.child_of-child.ensures in
    let next = c.cell_word-next.result + 1 in
    let goes : LeavesRoom l image c.child_of-child.result next c.loop-byte.left c.in-Some.rest = search rules in
    room_goes l image x c.loop-byte.byte c.child_of-child.result next c.args.room c.loop-byte.left c.in-Some.rest same c.loop-byte.invariant goes

pub returns : goal.returns
returns t c =
    let x = c.args.reference in
    let small = cell_small c.args.image.now.layout c.args.image.now.words c.args.reference c.if-reference-eq0.false c.if-reference-eq-LEAF.false c.requires.right c.cell_word-next.result c.cell_word-next.ensures in
    let later = cell_later c.args.image.now.layout c.args.image.now.words c.args.reference c.if-reference-eq0.false c.if-reference-eq-LEAF.false c.requires.right c.args.least c.cell_word-next.result c.cell_word-next.ensures c.requires.least in
    let next = c.cell_word-next.result + 1 in
    room_left c.args.image.now.layout c.args.image.now.words x c.loop-byte.byte c.args.least next c.args.room c.loop-byte.left (reference_of x)
    (to_cell x c.if-reference-eq0.false c.if-reference-eq-LEAF.false) (omega arith) (omega arith) (omega arith) c.loop-byte.invariant
