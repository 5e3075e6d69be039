use Rattle.std.proofs.Common.{◌≡◌, List, ap, ◌∙◌}
use Rattle.std.proofs.lemmas.Result.{IfOk-weaker}
use Rattle.std.specs.FinMap.{entries}
use Rattle.cat_key.specs.declared.Pair.{Pair}
use Rattle.cat_history.specs.Maps.{Map, map_of}
use Rattle.cat_history.specs.Replays.{pairs_of}
use Rattle.cat_history.specs.Writes.{after_all}
use Rattle.cat_history.proofs.ReplayLemmas.{map_of-pairs_of}
use Rattle.cat_history.proofs.replaying.replay.Goals as goal

pub returns-clause-pairs : goal.returns-clause-pairs
returns-clause-pairs c =
    let m : Map = after_all (map_of c.args.base.now) c.args.history.now in
    let base = ap (λ (ps : List Pair). entries (map_of ps)) c.as_slice.ensures in
    let is : c.change_all.new.names.entries ≡ entries m = c.in_ok-change_all.ensures.ok (map_of c.args.base.now) (c.in_ok-names.ensures ∙ base) in
    IfOk-weaker c.pairs_in.result _ (λ (ps : List Pair). ps ≡ pairs_of m) (λ ps each. each m is) c.pairs_in.ensures

pub returns-clause-map : goal.returns-clause-map
returns-clause-map c =
    let m : Map = after_all (map_of c.args.base.now) c.args.history.now in
    IfOk-weaker c.pairs_in.result _ (λ (ps : List Pair). map_of ps ≡ m) (λ ps is. ap map_of is ∙ map_of-pairs_of m) (returns-clause-pairs c)
