use Rattle.std.proofs.Common.{◌≡◌, ◌++◌, ◌∷◌, [], ℕ, List, map, drop, take, ◌+◌, sym, ap, ◌∙◌, append_assoc}
use Rattle.std.specs.BTreeMap.{get}
use Rattle.std.specs.Option.{unwrap_or}
use Rattle.std.specs.Ordering.{nat_cmp}
use Rattle.std.specs.Prelude.{Some}
use Rattle.cat_history.specs.Records.{Call, numbered_after}
use Rattle.transcript.specs.Calls.{as_numbered}
use Rattle.transcript.specs.declared.calls.NumberedCall.{NumberedCall}
use Rattle.transcript.proofs.CallLemmas.{callers, numbered_more, counted_more}
use Rattle.transcript.proofs.calls.numbered.Goals as goal

pub loop-call-preserved : goal.loop-call-preserved
loop-call-preserved c =
    let asked = c.args.asked.now in
    let i = c.loop-call.call-index in
    let a = c.call-item.result in
    let now = c.loop-call.counts in
    let index_is : c.count_of-index.result ≡ unwrap_or (get nat_cmp now a.caller) 0 = c.count_of-index.ensures in
    let behind : List NumberedCall = map as_numbered (numbered_after (callers (take (i + 1) asked)) (drop (i + 1) asked)) in
    let here : ℕ → NumberedCall = λ index. record { caller = a.caller; index = index; op = a.op } in
    record {
      told =
          ap (λ (calls : List NumberedCall). calls ++ behind) c.in_ok-push.ensures.items
          ∙ append_assoc c.loop-call.calls.items (here c.count_of-index.result ∷ []) behind
          ∙ ap (λ (index : ℕ). c.loop-call.calls.items ++ here index ∷ behind) (index_is ∙ c.loop-call.invariant.counted a.caller)
          ∙ ap (λ (calls : List Call). c.loop-call.calls.items ++ map as_numbered calls) (sym (numbered_more asked i a c.loop-call-test.true c.call-item.is))
          ∙ c.loop-call.invariant.told;
      counted = counted_more asked i a (get nat_cmp now) (get nat_cmp c.insert.new.self) c.loop-call-test.true c.call-item.is c.loop-call.invariant.counted
          (c.in_ok-insert.ensures.updates.1 ∙ ap (λ (n : ℕ). Some (n + 1)) index_is) c.in_ok-insert.ensures.updates.2;
    }
