use Rattle.std.proofs.Common.{◌≡◌, ◌++◌, ℕ, List, [], ◌∷◌, drop, length, sym, ap, ◌∙◌, subst, take}
use Rattle.std.specs.BTreeMap.{insert_entry}
use Rattle.std.specs.FinMap.{entries}
use Rattle.cat_key.specs.Names.{name_cmp}
use Rattle.cat_key.specs.declared.Pair.{Pair}
use Rattle.cat_history.specs.Maps.{map_of}
use Rattle.cat_history.proofs.ReplayLemmas.{all_left, one_back, entries-none, entries-put}
use Rattle.cat_history.proofs.growing.insert_all.Goals as goal

pub loop-pair-init : goal.loop-pair-init
loop-pair-init c =
    let rest : List Pair = c.into_iter-pair-iterator.result.iter.rest.now in
    let all : rest ≡ c.args.pairs.now = (λ k. (c.into_iter-pair-iterator.ensures.into_iter_gives k).iter.rest.now) ∙ (λ k. (c.rev-pair-items.ensures.source k).rest.now) ∙ c.iter.ensures.rest in
    let left = all_left c.args.pairs.now rest all in
    record {
      left = left.0;
      in_tree = c.requires.empty ∙ sym (ap (λ (ps : List Pair). entries (map_of ps)) left.1 ∙ entries-none);
    }

pub loop-pair-preserved : goal.loop-pair-preserved
loop-pair-preserved c =
    let pairs = c.args.pairs.now in
    let pair : Pair = c.in-Some.pair.now in
    let rest : List Pair = c.next.new.self.iter.rest.now in
    let was : List Pair = c.loop-pair.pair-iterator.iter.rest.now in
    let steps : was ≡ rest ++ pair ∷ [] = c.in-Some.ensures.steps in
    let back = one_back pairs rest pair (subst (λ (left : List Pair). left ≡ take (length left) pairs) steps c.loop-pair.invariant.left) in
    record {
      left = back.0;
      in_tree = c.in_ok-insert.ensures.entries
          ∙ ap (λ (es : List (List ℕ × ℕ)). insert_entry name_cmp es pair.name pair.value) c.loop-pair.invariant.in_tree
          ∙ entries-put (map_of (drop (length was) pairs)) pair.name pair.value
          ∙ ap (λ (left : List Pair). entries (map_of (pair ∷ drop (length left) pairs))) steps
          ∙ ap (λ (ps : List Pair). entries (map_of ps)) (sym back.1);
    }

pub returns : goal.returns
returns c = record {
  ok = c.loop-pair.invariant.in_tree ∙ ap (λ (n : ℕ). entries (map_of (drop n c.args.pairs.now))) c.in-None.ensures.steps.0;
}
