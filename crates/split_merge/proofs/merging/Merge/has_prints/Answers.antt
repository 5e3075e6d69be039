use Rattle.std.proofs.Common.{slice_set, sym, subst, arith}
use Rattle.smo_log.specs.declared.line.Entry.{Entry}
use Rattle.smo_log.specs.LogLines.{IsEntryOf}
use Rattle.split_merge.specs.declared.uniting.Union.{Union}
use Rattle.split_merge.specs.Unions.{IsUnion, entry_in}
use Rattle.split_merge.specs.Merges.{AreWordsOf}
use Rattle.split_merge.proofs.UnionMade.{words_set, union_made}
use Rattle.split_merge.proofs.merging.Merge.has_prints.Goals as goal

pub entry-requires : goal.entry-requires
entry-requires c =
    let held = c.requires.held in
    let others : AreWordsOf 4 (slice_set c.args.prints c.args.count c.args.got) =
    words_set 4 c.args.prints c.args.count c.args.got held.words (let few = held.view.layout.slots.1 in let below = held.within in omega arith) c.requires.got in
    subst IsUnion (sym c.union-union.ensures) (union_made c.args.self.now c.args.near c.args.locked c.args.head c.args.prints c.args.count (slice_set c.args.prints c.args.count c.args.got) held others)

pub new-requires-clause-entry : goal.new-requires-clause-entry
new-requires-clause-entry c =
    let held = c.requires.held in
    let others : AreWordsOf 4 (slice_set c.args.prints c.args.count c.args.got) =
    words_set 4 c.args.prints c.args.count c.args.got held.words (let few = held.view.layout.slots.1 in let below = held.within in omega arith) c.requires.got in
    let made = union_made c.args.self.now c.args.near c.args.locked c.args.head c.args.prints c.args.count (slice_set c.args.prints c.args.count c.args.got) held others in
    subst (λ (e : Entry). IsEntryOf c.union-union.result.layout e) (sym c.entry.ensures)
    (subst (λ (u : Union). IsEntryOf u.layout (entry_in u)) (sym c.union-union.ensures) made.entry)
