use Rattle.std.proofs.Common.{◌↔◌, List, map, sym, subst, rules}
use Rattle.std.specs.Prelude.{IsTrue}
use Rattle.std.specs.List.Sorted.{IsStrictlySortedBy}
use Rattle.std.proofs.lemmas.Fn.{always_returns_same}
use Rattle.std.proofs.lemmas.List.Sorted.{IsPermutation-sym, Contains-permutation}
use Rattle.transcript.specs.Calls.{key_cmp}
use Rattle.transcript.specs.Spans.{key_in, FollowEachOther}
use Rattle.transcript.specs.declared.spans.Span.{Span}
use Rattle.transcript.proofs.KeyLemmas.{key_total}
use Rattle.transcript.proofs.Orders.{strict_from_sort}
use Rattle.transcript.proofs.spans.follow_each_other.Goals as goal

pub follow-requires : goal.follow-requires
follow-requires c =
    let sorted = c.sort_unstable_by_key.ensures in
    subst (λ (spans : List Span). IsStrictlySortedBy key_cmp (map key_in spans)) (sym c.deref.ensures.value)
    (strict_from_sort key_in key_cmp key_total c.args.spans.items c.sort_unstable_by_key.new.self.items c.requires sorted.permutation
    (sorted.sorted key_in (always_returns_same _ _ _ (λ a r f called. (search rules, search rules)))))

pub returns : goal.returns
returns c =
    let spans = c.args.spans.items in
    let sorted = c.sort_unstable_by_key.new.self.items in
    let moved = c.sort_unstable_by_key.ensures.permutation in
    let back = IsPermutation-sym spans sorted moved in
    let told : IsTrue c.follow.result ↔ FollowEachOther sorted = subst (λ (s : List Span). IsTrue c.follow.result ↔ FollowEachOther s) c.deref.ensures.value c.follow.ensures in (
      λ yes a b has_a has_b. told.0 yes a b (Contains-permutation spans sorted a moved has_a) (Contains-permutation spans sorted b moved has_b),
      λ each. told.1 (λ a b has_a has_b. each a b (Contains-permutation sorted spans a back has_a) (Contains-permutation sorted spans b back has_b)),
    )
