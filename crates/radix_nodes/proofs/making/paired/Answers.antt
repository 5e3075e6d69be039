use Rattle.std.proofs.Common.{rules, slice_index, sym, subst}
use Rattle.radix_nodes.specs.Changes.{IsPair}
use Rattle.radix_nodes.proofs.PairCells.{pair_words, pair_is_pair}
use Rattle.radix_nodes.proofs.making.paired.Goals as goal

pub returns : goal.returns
returns c =
    let depth = c.args.depth in
    let prefix = slice_index c.args.prefix in
    let made = pair_words depth prefix c.args.one c.args.two c.headed-words.result c.entry.result c.entry-2.result c.headed-words.ensures c.entry.ensures c.entry-2.ensures in
    record {
      is = made;
      pair = subst (IsPair depth prefix c.args.one c.args.two) (sym made) (pair_is_pair depth prefix c.args.one c.args.two c.requires.depth (search rules) (search rules) c.requires.apart c.requires.one c.requires.two);
    }
