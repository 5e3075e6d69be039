use Rattle.std.proofs.Common.{◌≤◌, sym, subst, ap, ◌∙◌, arith}
use Rattle.cat_key.specs.Names.{IsPacked, bytes_of, fingerprint_of}
use Rattle.cat_key.proofs.Packing.{packed_from_name, bytes_of-words_of}
use Rattle.node_ops.proofs.call.Call.new.Goals as goal

pub returns-clause-sound : goal.returns-clause-sound
returns-clause-sound c =
    let named = c.words.ensures.name in
    record {
      view = c.requires.view;
      node = let some : 1 ≤ c.args.view.layout.nodes = c.requires.view.layout.nodes.0 in omega arith;
      packed = subst IsPacked (sym c.words.ensures.words) (packed_from_name c.args.name.now named);
      print = c.fingerprint.ensures ∙ ap fingerprint_of (sym (ap bytes_of c.words.ensures.words ∙ bytes_of-words_of c.args.name.now named));
      limit = c.requires.limit;
    }
