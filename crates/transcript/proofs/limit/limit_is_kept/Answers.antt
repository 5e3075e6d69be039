use Rattle.std.proofs.Common.{◌↔◌, ℕ, List, [], map, sym, subst}
use Rattle.std.specs.Prelude.{IsTrue}
use Rattle.std.proofs.lemmas.Result.{IfOk-weaker}
use Rattle.cat_history.specs.Callers.{PlacesKeepLimit}
use Rattle.cat_history.specs.declared.op.CallerOp.{CallerOp}
use Rattle.transcript.proofs.CountLemmas.{callers_numbered}
use Rattle.transcript.proofs.limit.limit_is_kept.Goals as goal

pub returns : goal.returns
returns c =
    let asked = c.args.asked.now in
    let limit = c.args.limit in
    let writes = c.args.writes.now in
    let same = callers_numbered [] asked in
    IfOk-weaker c.in_time.result (λ yes. IsTrue yes ↔ PlacesKeepLimit limit (map (λ (a : CallerOp). a.caller) asked) writes) _
    (λ yes told. (
      λ is. record {
        reached = c.all_reach.ensures.0 c.if-not-all_reach.false;
        in_time = subst (λ (callers : List ℕ). PlacesKeepLimit limit callers writes) (sym same) (told.0 is);
      },
      λ kept. told.1 (subst (λ (callers : List ℕ). PlacesKeepLimit limit callers writes) same kept.in_time),
    ))
    c.in_time.ensures
