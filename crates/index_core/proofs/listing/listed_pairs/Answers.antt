use Rattle.std.proofs.Common.{ℕ, ◌<◌, ◌^◌, List, [], ◌∷◌, ◌++◌, map, take, sym, ap, ◌∙◌, arith}
use Rattle.std.proofs.lemmas.List.{map_more, take_all}
use Rattle.std.proofs.lemmas.List.Elements.{All-from_recursion, All-nil, All-push, All-same}
use Rattle.std.proofs.lemmas.Result.{IfOk-from_err}
use Rattle.cat_key.specs.Names.{AreNameWords, IsName}
use Rattle.cat_key.specs.declared.Pair.{Pair}
use Rattle.node_ops.specs.Parts.{pair_of}
use Rattle.node_ops.specs.PartSteps.{entry_name}
use Rattle.index_core.proofs.listing.listed_pairs.Goals as goal

-- a pair that has a name and a number
abbrev IsNamed : Pair → Type 0
IsNamed pair = IsName pair.name × (pair.value < 2 ^ 64)

pub pair_in-requires : goal.pair_in-requires
pair_in-requires c =
    All-from_recursion (λ (entry : List ℕ). AreNameWords (entry_name entry)) (take c.args.words.now.len c.args.words.now.entries) c.requires.names c.loop-entry.entry-index [] c.loop-entry-test.true

pub loop-entry-init : goal.loop-entry-init
loop-entry-init c =
    let none = c.in_ok-pairs.ensures in
    record {
      pairs = none.items;
      named = All-same IsNamed c.in_ok-pairs.pairs.items [] none.items (All-nil IsNamed);
      made = none.len;
      reserved = none.capacity;
    }

pub push_reserved-requires : goal.push_reserved-requires
push_reserved-requires c = omega (arith, c.loop-entry-test.true, c.loop-entry.invariant.made, c.loop-entry.invariant.reserved)

pub loop-entry-preserved : goal.loop-entry-preserved
loop-entry-preserved c =
    let entries = take c.args.words.now.len c.args.words.now.entries in
    let so_far = c.loop-entry.invariant in
    let pushed = c.push_reserved.ensures in
    record {
      pairs = pushed.items ∙ (λ k. so_far.pairs k ++ c.pair_in.ensures.pair k ∷ [])
          ∙ sym (map_more pair_of entries c.loop-entry.entry-index [] c.loop-entry-test.true);
      named = All-same IsNamed c.push_reserved.new.self.items (c.loop-entry.pairs.items ++ c.pair_in.result ∷ []) pushed.items
          (All-push IsNamed c.loop-entry.pairs.items c.pair_in.result so_far.named c.pair_in.ensures.named);
      made = omega (arith, pushed.len, so_far.made);
      reserved = omega (arith, pushed.capacity, so_far.reserved);
    }

pub returns-clause-pairs : goal.returns-clause-pairs
returns-clause-pairs c =
    c.loop-entry.invariant.pairs
    ∙ ap (map pair_of) (take_all c.loop-entry.entry-index (take c.args.words.now.len c.args.words.now.entries) c.loop-entry-test.false)

pub returns-clause-named : goal.returns-clause-named
returns-clause-named c = c.loop-entry.invariant.named

pub returns-in_err-pairs-clause-pairs : goal.returns-in_err-pairs-clause-pairs
returns-in_err-pairs-clause-pairs c = IfOk-from_err c.from_residual.result _ c.from_residual.ensures.0

pub returns-in_err-pairs-clause-named : goal.returns-in_err-pairs-clause-named
returns-in_err-pairs-clause-named c = IfOk-from_err c.from_residual.result _ c.from_residual.ensures.0
